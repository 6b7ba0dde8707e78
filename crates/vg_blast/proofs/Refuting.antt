-- What a refutation of the clauses says of the facts: no assignment makes them true.
use Rattle.std.proofs.Common.{List}
use Rattle.std.specs.Prelude.{ℤ}
use Rattle.vg_bits.specs.declared.word.Word.{Word}
use Rattle.vg_cnf.specs.Clauses.{ClauseSet}
use Rattle.vg_cnf.specs.Refutations.{IsRefutation}
use Rattle.vg_cnf.proofs.Soundness.{IsRefutation-IsModel}
use Rattle.vg_term.specs.Terms.{Term}
use Rattle.vg_term.specs.Value.{Assigns}
use Rattle.vg_term.specs.declared.node.TermId.{TermId}
use Rattle.vg_blast.specs.Blasting.{BitName, AreTrue, IsBlasted}

pub refuted : (terms : List Term) (facts : List TermId) (set : ClauseSet) (names : List BitName) (steps : List (List ℤ))
    → IsBlasted terms facts set names → IsRefutation set.clauses steps → (words : List Word) → Assigns words terms → AreTrue terms words facts → ⊥
refuted terms facts set names steps blasted refutation words assigns true_facts =
    let model = blasted.sound words assigns true_facts in
    IsRefutation-IsModel set steps model.0 refutation model.1
