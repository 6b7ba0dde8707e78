use Rattle.std.proofs.Common.{◌≡◌, ◌∙◌, drop, codes, false, sym}
use Rattle.vg_stok.specs.Bytes.{begins}
use Rattle.vg_stok.proofs.Cuts.{close-later}
use Rattle.vg_stok.proofs.comments.close_from.Goals as goal

pub loop-at-preserved : goal.loop-at-preserved
loop-at-preserved c =
    let back : c.split_at.result.1.now ≡ drop c.loop-at.at c.args.text.now = cc in
    let unless : begins (drop c.loop-at.at c.args.text.now) (codes "*/") ≡ false = rw back at (sym c.if-closes_comment.ensures) in
    close-later c.args.text.now c.loop-at.at c.loop-at-test.true unless ∙ c.loop-at.invariant
