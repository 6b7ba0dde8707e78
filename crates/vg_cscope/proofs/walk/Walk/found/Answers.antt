use Rattle.std.proofs.Common.{◌∙◌, ap, sym}
use Rattle.vg_cscope.specs.Names as names
use Rattle.vg_cscope.specs.Views.{walked}
use Rattle.vg_cscope.proofs.Looking.{looked_end, looked_here, looked_further}
use Rattle.vg_cscope.proofs.walk.Walk.found.Goals as goal

pub returns-in_err-declaration : goal.returns-in_err-declaration
returns-in_err-declaration c =
    c.from_residual.ensures ∙ looked_end (walked c.args.self.now) c.args.wanted _ _ _ c.in_err-declaration.was c.loop-node.invariant

pub returns-then-is_wanted : goal.returns-then-is_wanted
returns-then-is_wanted c =
    looked_here (walked c.args.self.now) c.args.wanted _ _ _ _ _ c.loop-node-test.true c.in_ok-declaration.was
    (ap (names.is_wanted c.args.self.now.text.now c.args.wanted) (sym c.kind.ensures) ∙ sym c.is_wanted.ensures ∙ c.if-is_wanted.true)
    c.loop-node.invariant

pub loop-node-preserved : goal.loop-node-preserved
loop-node-preserved c =
    ap (names.looked_up (walked c.args.self.now) c.args.wanted _) c.seen_at-seen-in-loop-node.ensures
    ∙ looked_further (walked c.args.self.now) c.args.wanted _ _ _ _ _ c.loop-node-test.true c.in_ok-declaration.was
    (ap (names.is_wanted c.args.self.now.text.now c.args.wanted) (sym c.kind.ensures) ∙ sym c.is_wanted.ensures ∙ c.if-is_wanted.false)
    c.loop-node.invariant
