use Rattle.vg_replay.proofs.Growing.{failed_is}
use Rattle.vg_replay.proofs.Creating.{closes_then, closes_fails, last_open}
use Rattle.vg_replay.proofs.outputs.Outputs.close.Goals as goal

pub returns-in_err-log : goal.returns-in_err-log
returns-in_err-log g c =
    let writable = last_open c.args.self.captures.items c.args.self.log c.requires in
    rw (failed_is c.from_residual.result c.from_residual.ensures.0) (closes_fails c.close_captures-captures.result _ writable c.in_err-log.ensures
    c.close_captures-captures.ensures)

pub returns : goal.returns
returns g c =
    let writable = last_open c.args.self.captures.items c.args.self.log c.requires in
    closes_then c.close_captures-captures.result writable c.in_ok-log.ensures c.close_captures-captures.ensures
