-- From clauses back to facts.
use Rattle.std.proofs.Common.{List}
use Rattle.vg_cnf.specs.Clauses.{ClauseSet}
use Rattle.std.specs.Prelude.{ℤ}
use Rattle.vg_cnf.specs.Refutations.{IsRefutation}
use Rattle.vg_term.specs.Terms.{Term}
use Rattle.vg_term.specs.declared.node.TermId.{TermId}
use Rattle.vg_blast.specs.Blasting.{BitName, IsBlasted}
use Rattle.vg_blast.proofs.Refuting.{refuted}
use Rattle.vg_decide.specs.Deciding.{AreAsGood, NoneMakesTrue}

-- where the clauses of facts that are as good have a good refutation, no assignment makes the facts true
pub none_true : (terms : List Term) (facts others : List TermId) (set : ClauseSet) (names : List BitName) (steps : List (List ℤ))
    → AreAsGood terms facts others → IsBlasted terms others set names →
    IsRefutation set.clauses steps → NoneMakesTrue terms facts
none_true terms facts others set names steps good blasted refutes words assigns true = refuted terms others set names steps blasted refutes words
    assigns ((good.same words assigns).1 true)
