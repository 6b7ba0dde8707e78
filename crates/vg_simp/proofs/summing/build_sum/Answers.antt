use Rattle.vg_simp.proofs.Summed.{builds_sum}
use Rattle.vg_simp.proofs.summing.build_sum.Goals as goal

pub returns : goal.returns
returns c =
    builds_sum c.args.terms.now c.build.new.self c.build-2.new.self c.build-3.new.self c.args.sum c.in_ok-wide.wide c.in_ok-constant.constant
    c.build-3.result c.requires.made c.requires.stands
    (record { made = c.in_ok-wide.ensures.made; grows = c.in_ok-wide.ensures.folds.grows }) c.in_ok-wide.ensures.folds.means
    (record { made = c.in_ok-constant.ensures.made; grows = c.in_ok-constant.ensures.folds.grows }) c.in_ok-constant.ensures.folds.means
    c.build-3.ensures.made c.build-3.ensures.folds
