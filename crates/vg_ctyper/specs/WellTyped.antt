-- What a typed text is, and which fault of a text comes first: conditions on the notes as they stand in the end, node by node.
use Rattle.std.specs.Prelude.{◌≡◌, ℕ, zero, suc, ◌<◌, List, length, take, slice_get, false, Option, Some, None, ◌⊎◌}
use Rattle.vg_core.specs.Syntax.{Syntax, IsOrdered, IsUsedOnce}
use Rattle.vg_core.specs.Units.{Typed}
use Rattle.vg_core.specs.declared.unit.Note.{Note}
use Rattle.vg_ctyper.specs.declared.fault.TypeFault.{TypeFault}
use Rattle.vg_ctyper.specs.Faults.{is_before}
use Rattle.vg_cscope.specs.Scopes.{kind_at, standings_of}
use Rattle.vg_ctyper.specs.Names.{Known}
use Rattle.vg_ctyper.specs.Rules.{broken}
use Rattle.vg_ctyper.specs.Notes.{note_of, note_unless, locals_behind, whole_fault}

module _ (text : List ℕ) (tree : Syntax) (notes : List Note) where
  -- what is known at a node: what it sees, and the notes on the nodes before it
  abbrev pub known_at : ℕ → Known
  known_at n = record { text = text; tree = tree; standings = standings_of tree; notes = take n notes }

  abbrev pub locals_after : Option Note → (n locals : ℕ) → ℕ
  locals_after None n locals = locals
  locals_after (Some note) n locals = locals_behind (known_at n) locals (kind_at tree n) note

  -- the bytes of the variables that blocks declare before a node
  abbrev pub locals_before : ℕ → ℕ
  locals_before zero = 0
  locals_before (suc n) = locals_after (slice_get notes n) n (locals_before n)

  -- the rule that a node breaks
  abbrev pub broken_at : ℕ → Option TypeFault
  broken_at n = broken (known_at n) (locals_before n) n

  -- there is a note on each node: what typing says of it by the notes before, or nothing where it breaks a rule
  pub record AreNotes : Type 0 where
    pub count : length notes ≡ length tree.nodes
    pub each : (n : ℕ) → n < length tree.nodes → slice_get notes n ≡ Some (note_unless (broken_at n) (note_of (known_at n) n (kind_at tree n)))

-- a typed text: its tree is one that tokens spell, its notes are right, no node breaks a rule, and `nf_process` takes few enough steps
pub record IsWellTyped (u : Typed) : Type 0 where
  pub ordered : IsOrdered u.tree
  pub used_once : IsUsedOnce u.tree
  pub notes : AreNotes u.text u.tree u.notes
  pub sound : (n : ℕ) → n < length u.tree.nodes → broken_at u.text u.tree u.notes n ≡ None
  pub short : whole_fault u.tree u.notes ≡ None

-- a node breaks this rule, and none breaks one that comes before
pub record IsFirstBroken (text : List ℕ) (tree : Syntax) (notes : List Note) (fault : TypeFault) : Type 0 where
  pub node : ℕ
  pub within : node < length tree.nodes
  pub is : broken_at text tree notes node ≡ Some fault
  pub first : (n : ℕ) (other : TypeFault) → n < length tree.nodes → broken_at text tree notes n ≡ Some other → is_before other fault ≡ false

-- the fault that a text is refused for: the first of all nodes, or where there is none, too many steps of `nf_process`
pub record IsFirstFault (text : List ℕ) (tree : Syntax) (fault : TypeFault) : Type 0 where
  pub notes : List Note
  pub are_notes : AreNotes text tree notes
  pub cause : IsFirstBroken text tree notes fault ⊎ (((n : ℕ) → n < length tree.nodes → broken_at text tree notes n ≡ None)
      × (whole_fault tree notes ≡ Some fault))
