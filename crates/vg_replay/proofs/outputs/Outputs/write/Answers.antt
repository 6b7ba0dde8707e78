use Rattle.std.proofs.Common.{[], inl, inr}
use Rattle.vg_replay.proofs.Growing.{failed_is}
use Rattle.vg_base.proofs.Disks.{WriteKeeps-open}
use Rattle.vg_base.specs.Files.{Writes, IsOpen}
use Rattle.vg_replay.proofs.Places.{All-last}
use Rattle.vg_replay.proofs.outputs.Outputs.write.Goals as goal

pub put_all-requires : goal.put_all-requires
put_all-requires g c =
    let before = All-last (λ id. IsOpen Writes ((g.F.Files.disk c.args.files.now).opened id)) c.args.self.now.captures.items c.args.self.now.log
    c.requires.«open» in
    WriteKeeps-open Writes c.args.self.now.log (c.in_ok-put_frame.ensures.puts []).keeps before

pub returns-in_err-put_frame-clause-writes : goal.returns-in_err-put_frame-clause-writes
returns-in_err-put_frame-clause-writes g c = λ came. rw (failed_is c.from_residual.result c.from_residual.ensures.0)
    (record { whole_or_not = inr (tt, c.in_err-put_frame.ensures.puts came) })

pub returns-clause-writes : goal.returns-clause-writes
returns-clause-writes g c = λ came. record {
  whole_or_not = inl (
    _,
    c.in_ok-put_frame.ensures.puts came,
    rw (c.as_bytes.ensures.value, c.as_str.ensures.value, c.log_line.ensures came) at c.put_all.ensures,
  );
}
