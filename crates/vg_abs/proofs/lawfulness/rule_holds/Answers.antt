use Rattle.std.proofs.lemmas.Bool.Decides.{Decides-at}
use Rattle.vg_abs.proofs.LawfulDecides.{rule_decides}
use Rattle.vg_abs.proofs.lawfulness.rule_holds.Goals as goal

pub returns : goal.returns
returns c = Decides-at _ _ c.vector_passes.ensures (rule_decides c.args.spec.now c.args.numbers.now c.args.state.now c.args.rule)
