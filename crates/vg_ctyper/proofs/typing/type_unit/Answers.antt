use Rattle.vg_ctyper.proofs.Deciding.{well_typed, only_typed, only_fault}
use Rattle.vg_ctyper.proofs.typing.type_unit.Goals as goal

pub returns-clause-typed : goal.returns-clause-typed
returns-clause-typed c = λ ordered used. well_typed c.args.text.now c.args.tree ordered used c.typed.result c.typed.ensures.typed

pub returns-clause-only_typed : goal.returns-clause-only_typed
returns-clause-only_typed c = only_typed c.args.text.now c.args.tree c.typed.result c.typed.ensures.typed c.typed.ensures.fault

pub returns-clause-only_fault : goal.returns-clause-only_fault
returns-clause-only_fault c = only_fault c.args.text.now c.args.tree c.typed.result c.typed.ensures.typed c.typed.ensures.fault
