-- What the pass of the code does, node by node, and what it answers. No public clause rests on this file.
use Rattle.std.specs.Prelude.{ℕ, zero, suc, List, [], ◌∷◌, ◌++◌, length, Option, Some, None, Result, Ok, Err}
use Rattle.vg_core.specs.Syntax.{Syntax}
use Rattle.vg_core.specs.Units.{Typed}
use Rattle.vg_core.specs.declared.tree.Kind.{Kind}
use Rattle.vg_core.specs.declared.unit.Note.{Note}
use Rattle.vg_ctyper.specs.declared.fault.TypeFault.{TypeFault}
use Rattle.vg_cscope.specs.declared.standing.Standing.{Standing}
use Rattle.vg_ctyper.specs.Faults.{sooner}
use Rattle.vg_cscope.specs.Scopes.{kind_at, standings_of}
use Rattle.vg_ctyper.specs.Names.{Known}
use Rattle.vg_ctyper.specs.Rules.{broken}
use Rattle.vg_ctyper.specs.Notes.{note_of, note_unless, locals_behind, or_else, whole_fault}

-- what is known behind so many nodes: notes on them, the bytes of the variables that blocks declare, and the first fault
pub record Progress : Type 0 where
  pub notes : List Note
  pub locals : ℕ
  pub first : Option TypeFault

-- one node further, by its kind and the rule that it breaks
abbrev pub further : Known → Progress → Kind → Option TypeFault → Note → Progress
further k p kind fault note = record {
  notes = p.notes ++ note ∷ [];
  locals = locals_behind k p.locals kind note;
  first = sooner p.first fault;
}

abbrev pub known_behind : List ℕ → Syntax → List Standing → List Note → Known
known_behind text tree standings notes = record { text = text; tree = tree; standings = standings; notes = notes }

abbrev pub node_typed : Known → ℕ → Progress → Progress
node_typed k n p =
    further k p (kind_at k.tree n) (broken k p.locals n) (note_unless (broken k p.locals n) (note_of k n (kind_at k.tree n)))

abbrev pub at_start : Progress
at_start = record { notes = []; locals = 0; first = None }

-- behind the nodes below a number
abbrev pub typed_below : List ℕ → Syntax → List Standing → ℕ → Progress
typed_below text tree standings zero = at_start
typed_below text tree standings (suc n) =
    node_typed (known_behind text tree standings (typed_below text tree standings n).notes) n (typed_below text tree standings n)

abbrev pub judged : List ℕ → Syntax → List Note → Option TypeFault → Result Typed TypeFault
judged text tree notes (Some fault) = Err fault
judged text tree notes None = Ok (record { text = text; tree = tree; notes = notes })

abbrev pub or_whole : Syntax → Progress → Option TypeFault
or_whole tree p = or_else p.first (whole_fault tree p.notes)

abbrev pub of_progress : List ℕ → Syntax → Progress → Result Typed TypeFault
of_progress text tree p = judged text tree p.notes (or_whole tree p)

-- what typing gives of a text and its tree
abbrev pub typed : List ℕ → Syntax → Result Typed TypeFault
typed text tree = of_progress text tree (typed_below text tree (standings_of tree) (length tree.nodes))
