use Rattle.std.proofs.Common.{[]}
use Rattle.vg_replay.proofs.Beginning.{not_begun, went_on}
use Rattle.vg_replay.proofs.replaying.replay.Goals as goal

pub returns : goal.returns
returns g c =
    let begun = c.in_ok-replay.ensures.starts in
    went_on g.H.Handler.handles g.H.Handler.stops_at _ _ _ c.in_ok-replay.replay c.run.result begun.0 (c.run.ensures _ _ [] begun.1)

pub returns-in_err-replay : goal.returns-in_err-replay
returns-in_err-replay g c =
    not_begun g.H.Handler.handles g.H.Handler.stops_at _ _ _ c.args.handler c.in_err-replay.field-0.0 c.from_residual.result c.from_residual.ensures.1
    c.in_err-replay.ensures.starts
