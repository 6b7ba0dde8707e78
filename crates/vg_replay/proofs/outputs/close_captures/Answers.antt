use Rattle.std.proofs.Common.{[], ◌∷◌, ◌++◌, IsErr, rules}
use Rattle.vg_replay.proofs.Growing.{failed_is, ok_is}
use Rattle.vg_replay.proofs.Ids.{AreWritable-pop}
use Rattle.vg_replay.proofs.Creating.{ClosesWritten-next, ClosesWritten-fails, popped, last_open}
use Rattle.vg_replay.specs.UnderWay.{AreWritable}
use Rattle.vg_replay.proofs.outputs.close_captures.Goals as goal

pub loop-capture-preserved-then-is_err : goal.loop-capture-preserved-then-is_err
loop-capture-preserved-then-is_err g c =
    let before = c.loop-capture.invariant in
    let left = c.pop.new.self.items in
    let items = c.in-Some.ensures.items in
    let writable : AreWritable _ (left ++ c.in-Some.capture ∷ []) = rw (← items) before.2 in
    let failed : IsErr c.close.result = search rules in
    let closes = rw (failed_is c.close.result failed) at c.close.ensures in (
      c.in-Some.capture ∷ before.0,
      popped _ _ left before.0 c.in-Some.capture items before.1,
      AreWritable-pop left writable closes.closes,
      ClosesWritten-fails c.loop-capture.result _ before.3 (last_open left c.in-Some.capture writable) closes,
    )

pub loop-capture-preserved : goal.loop-capture-preserved
loop-capture-preserved g c =
    let before = c.loop-capture.invariant in
    let left = c.pop.new.self.items in
    let items = c.in-Some.ensures.items in
    let writable : AreWritable _ (left ++ c.in-Some.capture ∷ []) = rw (← items) before.2 in
    let closes = rw (ok_is c.close.result (search rules)) at c.close.ensures in (
      c.in-Some.capture ∷ before.0,
      popped _ _ left before.0 c.in-Some.capture items before.1,
      AreWritable-pop left writable closes.closes,
      ClosesWritten-next c.loop-capture.result before.3 (last_open left c.in-Some.capture writable) closes,
    )
