use Rattle.std.proofs.Common.{◌≡◌, ◌≤◌, ◌-◌, length, refl, ap, arith, rules}
use Rattle.vg_pcap.specs.contracts.reader.CaptureReader.{the_view}
use Rattle.vg_pcap.proofs.Lent.{over_first, with_last}
use Rattle.vg_pcap.proofs.reader.CaptureReader.frame_mut.Goals as goal

pub returns : goal.returns
returns c =
    let inside = c.self.inside in
    let total : inside.frame.len ≡ length inside.frame.items = search rules in
    let short : inside.captured ≤ inside.frame.len = rw c.self.invariant.1 c.self.invariant.2 in
    let all : inside.captured - 0 ≡ inside.captured = omega arith in (
      (refl, λ w. rw (← c.self.view_is) (ap (with_last (the_view inside)) (over_first inside.captured inside.frame.len inside.frame.items w short total))),
      record { writes_back = tt; value = rw (← c.self.view_is, c.slice_mut.ensures.value, all) refl },
    )
