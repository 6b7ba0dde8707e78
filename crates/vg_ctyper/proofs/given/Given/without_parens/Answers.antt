use Rattle.std.proofs.Common.{◌∙◌, ap, sym}
use Rattle.vg_ctyper.specs.Demands as demands
use Rattle.vg_ctyper.specs.Views.{known}
use Rattle.vg_ctyper.proofs.Unwrapping.{unwrapped_here, unwrapped_further}
use Rattle.vg_ctyper.proofs.given.Given.without_parens.Goals as goal

pub returns-in-None : goal.returns-in-None
returns-in-None c =
    unwrapped_here (known c.args.self.now).tree _ _ _ _ c.loop-node-test.true
    (ap demands.inner (sym c.kind.ensures) ∙ sym c.inner.ensures ∙ c.in-None.is) c.loop-node.invariant

pub loop-node-preserved : goal.loop-node-preserved
loop-node-preserved c =
    unwrapped_further (known c.args.self.now).tree _ _ _ _ _ c.loop-node-test.true
    (ap demands.inner (sym c.kind.ensures) ∙ sym c.inner.ensures ∙ c.in-Some.is) c.loop-node.invariant
