use Rattle.std.proofs.Common.{IsErr, rules}
use Rattle.vg_replay.proofs.Growing.{failed_is, ok_is}
use Rattle.vg_replay.proofs.Creating.{created_all, created_fails, failed_all}
use Rattle.vg_replay.proofs.outputs.Outputs.create.Goals as goal

pub returns-then-is_err-clause-failed : goal.returns-then-is_err-clause-failed
returns-then-is_err-clause-failed g c =
    let failed : IsErr c.create_captures.result = search rules in
    let creates = rw (failed_is c.create_captures.result failed) at c.create_captures.ensures in
    failed_all c.args.log.now c.close_captures.result creates c.close_captures.ensures

pub returns-in-Ok-clause-created : goal.returns-in-Ok-clause-created
returns-in-Ok-clause-created g c =
    let creates = rw (ok_is c.create_captures.result (search rules)) at c.create_captures.ensures in
    created_all creates.0 creates.1 c.in-Ok.ensures

pub returns-in-Err-clause-failed : goal.returns-in-Err-clause-failed
returns-in-Err-clause-failed g c =
    let creates = rw (ok_is c.create_captures.result (search rules)) at c.create_captures.ensures in
    failed_all c.args.log.now c.close_captures-in-Err.result (created_fails creates.0 creates.1 c.in-Err.ensures) c.close_captures-in-Err.ensures
