use Rattle.vg_decide.proofs.Refuting.{none_true}
use Rattle.vg_decide.proofs.deciding.decide.Goals as goal

pub returns-in-Model-clause-decided : goal.returns-in-Model-clause-decided
returns-in-Model-clause-decided c =
    let assigned = c.in_ok-assign-in-Model.ensures in
    let blasted = rw c.deref.ensures.value at c.in_ok-blasted.ensures.blasted in
    let model = rw c.in-Model.is at c.in_ok-values.ensures.answer in
    (assigned.assigns, (c.in_ok-simpler.ensures.simpler.same _ assigned.assigns).0 (assigned.facts _ blasted model))

pub returns-in-Refuted-clause-decided : goal.returns-in-Refuted-clause-decided
returns-in-Refuted-clause-decided c =
    let simpler = c.in_ok-simpler.ensures.simpler in
    let blasted = rw c.deref.ensures.value at c.in_ok-blasted.ensures.blasted in
    let good = c.in_ok-check-in-Refuted.ensures.good in
    (none_true _ _ _ _ _ _ simpler blasted good, (_, record { others = _; as_good = simpler; names = _; blasted = blasted }, good))
