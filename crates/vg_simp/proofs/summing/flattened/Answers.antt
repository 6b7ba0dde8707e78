use Rattle.vg_simp.proofs.Summed.{sum_flattened}
use Rattle.vg_simp.proofs.summing.flattened.Goals as goal

pub returns-in-Some : goal.returns-in-Some
returns-in-Some c = sum_flattened c.args.terms.now c.args.sum c.in-Some.inner c.add.result c.requires.width c.in-Some.ensures c.add.ensures.width
    c.add.ensures.value
