use Rattle.std.proofs.Common.{[]}
use Rattle.vg_replay.proofs.tests.frame_by_frame.Goals as goal

pub run-requires-clause-going : goal.run-requires-clause-going
run-requires-clause-going g c =
    let begun = c.in-Ok.ensures.starts in
    let next = (rw c.in-Ok-Again.field-0-is at c.in-Ok-Again.ensures.handles) _ _ [] begun.1 in
    (_, _, _, next.3)

pub run-requires-clause-ready : goal.run-requires-clause-ready
run-requires-clause-ready g c = rw c.in-Ok-Again.field-0-is at c.in-Ok-Again.ensures.ready
