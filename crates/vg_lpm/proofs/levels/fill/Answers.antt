use Rattle.std.proofs.Common.{arith}
use Rattle.std.proofs.lemmas.Nat.{one_shl}
use Rattle.vg_lpm.proofs.Filling.{Filled-none, Filled-more, Fills-from_loop, shifted_back}
use Rattle.vg_lpm.proofs.levels.fill.Goals as goal

pub loop-i-init : goal.loop-i-init
loop-i-init c = Filled-none c.args.entries.now.items _ c.args.word

pub loop-i-preserved : goal.loop-i-preserved
loop-i-preserved c =
    let start = shifted_back c.args.place c.args.free c.ranges.place.fits in
    let size = one_shl c.args.free 64 (omega arith) in
    Filled-more c.loop-i.i c.loop-i.invariant c.loop-i.auto.i (omega (arith, c.loop-i.invariant.same_length))

pub returns : goal.returns
returns c =
    let start = shifted_back c.args.place c.args.free c.ranges.place.fits in
    let size = one_shl c.args.free 64 (omega arith) in
    Fills-from_loop c.args.place c.args.free c.loop-i.i c.ranges.place.fits c.requires.free c.loop-i.invariant (omega arith)
