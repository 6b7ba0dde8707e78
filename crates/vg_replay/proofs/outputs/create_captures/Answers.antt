use Rattle.std.proofs.Common.{◌≡◌, ◌∷◌, ◌∙◌, [], map, slice_get, Some, Global, length, length-append, string_bytes, arith}
use Rattle.vg_replay.proofs.Growing.{failed_is}
use Rattle.vg_replay.proofs.Places.{seen_at}
use Rattle.vg_replay.proofs.Creating.{HasCreated-next, HasCreated-fails}
use Rattle.vg_replay.proofs.outputs.create_captures.Goals as goal

pub returns-in_err-capture : goal.returns-in_err-capture
returns-in_err-capture g c =
    let before = c.loop-out.invariant in
    let at : slice_get (map (string_bytes {Z = Global}) c.args.outs.now) (length c.loop-out.captures.items) ≡ Some c.as_str.result.now =
    rw (before.1, c.as_str.ensures.value) (seen_at (string_bytes {Z = Global}) c.args.outs.now c.loop-out.out-index c.out-item.result
    c.loop-out-test.true c.out-item.is) in
    rw (failed_is c.from_residual.result c.from_residual.ensures.0) (HasCreated-fails c.as_str.result.now before.0 at c.in_err-capture.ensures)

pub loop-out-preserved : goal.loop-out-preserved
loop-out-preserved g c =
    let before = c.loop-out.invariant in
    let at : slice_get (map (string_bytes {Z = Global}) c.args.outs.now) (length c.loop-out.captures.items) ≡ Some c.as_str.result.now =
    rw (before.1, c.as_str.ensures.value) (seen_at (string_bytes {Z = Global}) c.args.outs.now c.loop-out.out-index c.out-item.result
    c.loop-out-test.true c.out-item.is) in
    let next = HasCreated-next c.as_str.result.now before.0 at c.in_ok-capture.ensures in
    let items = c.push_reserved.ensures.items in (
      rw items next,
      rw items (omega (arith, before.1, length-append c.loop-out.captures.items (c.in_ok-capture.capture ∷ []))),
      c.push_reserved.ensures.capacity ∙ before.2,
    )
