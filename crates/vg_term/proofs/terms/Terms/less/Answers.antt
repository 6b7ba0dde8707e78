use Rattle.std.proofs.Common.{arith}
use Rattle.vg_term.proofs.Compared.{less_builds, off_more}
use Rattle.vg_term.proofs.terms.Terms.less.Goals as goal

pub returns-clause-builds : goal.returns-clause-builds
returns-clause-builds c =
    let w = c.width-width.result in
    let end = c.max-end.result in
    less_builds c.args.self.now c.rebuild.new.self c.rebuild-2.new.self c.simple-2.new.self c.args.op c.args.a c.args.b c.in_ok-x.x c.in_ok-y.y
    c.in-Some.left c.in-Some-wires.right w end c.simple-2.result c.requires.op c.requires.made c.requires.first c.requires.second
    c.requires.alike c.width-width.ensures.width c.in-Some.ensures.carry c.in-Some-wires.ensures.carry
    (off_more c.in-Some.left c.used.result end w c.used.ensures.off (omega (arith, c.max-end.ensures)))
    (off_more c.in-Some-wires.right c.used-2.result end w c.used-2.ensures.off (omega (arith, c.max-end.ensures)))
    (omega (arith, c.max-end.ensures, c.used.ensures.most, c.used-2.ensures.most, c.if-end-width.false)) c.rebuild.ensures.builds.grown
    c.in_ok-x.ensures.builds.wired c.rebuild-2.ensures.builds.grown c.in_ok-y.ensures.builds.wired c.simple-2.ensures.builds
