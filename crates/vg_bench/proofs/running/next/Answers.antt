use Rattle.std.proofs.Common.{◌≡◌, length, ap, arith}
use Rattle.vg_pcap.specs.Frames.{Fits}
use Rattle.vg_pcap.specs.Arrivals.{Arrival}
use Rattle.vg_pcap.proofs.NextPort.{readable_changed}
use Rattle.vg_bench.proofs.running.next.Goals as goal

pub frame-done-requires-clause-size : goal.frame-done-requires-clause-size
frame-done-requires-clause-size g c =
    let next = c.in-Some.ensures.next in
    let a : Arrival = record { port = c.in-Some.port; frame = next.0 } in
    let fits : Fits next.0 = c.in-Some.ensures.fits a next.1 in
    omega (arith, fits.short, ap length (c.frame_mut.ensures.value a next.1))

pub advance-requires-clause-readable : goal.advance-requires-clause-readable
advance-requires-clause-readable g c =
    let next = c.in-Some.ensures.next in
    let a : Arrival = record { port = c.in-Some.port; frame = next.0 } in
    let long : length c.frame-done.new.frame ≡ length next.0.bytes = omega (arith, c.frame-done.auto.frame, ap length (c.frame_mut.ensures.value a next.1)) in
    readable_changed (g.F.Files.disk c.args.files.now) (c.frame_mut.ensures.written a c.frame-done.new.frame next.1 long).changed c.requires.readable

pub advance-requires-clause-next : goal.advance-requires-clause-next
advance-requires-clause-next g c =
    let next = c.in-Some.ensures.next in
    let a : Arrival = record { port = c.in-Some.port; frame = next.0 } in
    let long : length c.frame-done.new.frame ≡ length next.0.bytes = omega (arith, c.frame-done.auto.frame, ap length (c.frame_mut.ensures.value a next.1)) in
    (_, (c.frame_mut.ensures.written a c.frame-done.new.frame next.1 long).next)
