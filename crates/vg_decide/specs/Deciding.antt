-- What is decided of facts on machine words. A fact is a term of width 1, and it is true where its value is 1.
use Rattle.std.specs.Prelude.{ℕ, ◌≡◌, ◌<◌, ◌↔◌, List, length, All}
use Rattle.vg_bits.specs.declared.word.Word.{Word}
use Rattle.vg_cnf.specs.Clauses.{ClauseSet}
use Rattle.vg_cnf.specs.Refutations.{IsRefutation, IsSpent}
use Rattle.vg_term.specs.Terms.{Term, Stands, width_at}
use Rattle.vg_term.specs.Value.{Assigns}
use Rattle.vg_term.specs.declared.node.TermId.{TermId}
use Rattle.vg_term.specs.declared.stops.TermStop.{TermStop}
use Rattle.vg_term.specs.declared.stops.TermStop.TheVariants as making
use Rattle.vg_blast.specs.Blasting.{AreTrue, BitName, IsBlasted}
use Rattle.vg_blast.specs.Cost.{cost}
use Rattle.vg_blast.specs.declared.stops.BlastStop.{BlastStop}
use Rattle.vg_blast.specs.declared.stops.BlastStop.TheVariants as blasting
use Rattle.vg_decide.specs.declared.decision.Decision.{Decision}
use Rattle.vg_decide.specs.declared.decision.Decision.TheVariants.{Possible, Refuted, Spent}
use Rattle.vg_decide.specs.declared.decision.DecideStop.{DecideStop}
use Rattle.vg_decide.specs.declared.decision.DecideStop.TheVariants as stops

-- no assignment makes every fact true
abbrev pub NoneMakesTrue : List Term → List TermId → Type 0
NoneMakesTrue terms facts = (words : List Word) → Assigns words terms → AreTrue terms words facts → ⊥

-- other facts, which stand and which just the same assignments make true
pub record AreAsGood (terms : List Term) (facts others : List TermId) : Type 0 where
  pub stand : All (Stands terms) others
  pub flags : All (λ fact. width_at terms fact ≡ 1) others
  pub same : (words : List Word) → Assigns words terms → AreTrue terms words others ↔ AreTrue terms words facts

-- clauses that stand for the facts, or for others that are as good
pub record AreClausesOf (terms : List Term) (facts : List TermId) (set : ClauseSet) : Type 0 where
  pub others : List TermId
  pub as_good : AreAsGood terms facts others
  pub names : List BitName
  pub blasted : IsBlasted terms others set names

-- What was decided: these words make every fact true; none do, and the facts' clauses have this good refutation; or nothing, and this is a spent list of
-- their clauses, of just as many as were allowed.
abbrev pub IsDecision : List Term → List TermId → ℕ → Decision → Type 0
IsDecision terms facts limit (Possible assign) = Assigns assign.words.items terms × AreTrue terms assign.words.items facts
IsDecision terms facts limit (Refuted steps) =
    NoneMakesTrue terms facts × ((set : ClauseSet) × AreClausesOf terms facts set × IsRefutation set.clauses steps)
IsDecision terms facts limit (Spent steps) = (set : ClauseSet) × AreClausesOf terms facts set × IsSpent set steps × (length steps ≡ limit)

-- Why nothing was decided: facts that are as good cost more literals than clauses may have. Of want of places and of memory nothing is said.
abbrev pub IsCause : List Term → List TermId → DecideStop → Type 0
IsCause terms facts stops.Terms = Unit {0}
IsCause terms facts stops.Clauses = (others : List TermId) × AreAsGood terms facts others × (16777216 < cost terms others)
IsCause terms facts stops.Memory = Unit {0}

-- a refusal to make a term as a refusal to decide
abbrev pub term_stop : TermStop → DecideStop
term_stop making.Full = stops.Terms
term_stop making.Memory = stops.Memory

-- a refusal to blast as a refusal to decide
abbrev pub blast_stop : BlastStop → DecideStop
blast_stop blasting.Clauses = stops.Clauses
blast_stop blasting.Memory = stops.Memory
