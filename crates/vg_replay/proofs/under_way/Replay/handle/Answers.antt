use Rattle.std.proofs.Common.{◌≡◌, ◌≤◌, ℕ, List, length, refl, ap, subst, arith}
use Rattle.vg_pcap.specs.Frames.{Framed, Fits}
use Rattle.vg_pcap.specs.Arrivals.{Arrival}
use Rattle.vg_pcap.specs.Merge.{Input, IsNext}
use Rattle.vg_pcap.specs.Lending.{over_next, IsWritten}
use Rattle.vg_pcap.proofs.Later.{next_port_is, next_time}
use Rattle.vg_replay.specs.Outputs.{SendsBelow}
use Rattle.vg_replay.specs.Replays.{IsOfPorts}
use Rattle.vg_replay.specs.Stepping.{handled_with}
use Rattle.vg_replay.proofs.under_way.Replay.handle.Goals as goal
use Rattle.vg_replay.proofs.under_way.Replay.handle.Goals.{in-Ok-write, in-Err-write}

pub returns-in-Err-clause-changed : goal.returns-in-Err-clause-changed
returns-in-Err-clause-changed g c =
    rw (← c.self.view_is) (λ frame next.
    let a : Arrival = record { port = c.args.port; frame = frame } in
    let long : length c.handle.new.frame ≡ length frame.bytes = omega (arith, c.handle.auto.frame, ap length (c.frame_mut.ensures.value a next)) in
    ((c.frame_mut.ensures.written a c.handle.new.frame next long).changed, refl))

pub returns-in-Err-clause-handles : goal.returns-in-Err-clause-handles
returns-in-Err-clause-handles g c =
    rw (← c.self.view_is) (λ frame next.
    let a : Arrival = record { port = c.args.port; frame = frame } in
    (rw (c.time.ensures a next, c.original.ensures a next, c.frame_mut.ensures.value a next) at c.in-Err.ensures.stops, refl))

pub frame-requires : goal.frame-requires
frame-requires g c =
    let asked = rw (← c.self.view_is) at c.requires.next in
    let a : Arrival = record { port = c.args.port; frame = asked.0 } in
    let long : length c.handle.new.frame ≡ length asked.0.bytes = omega (arith, c.handle.auto.frame, ap length (c.frame_mut.ensures.value a asked.1)) in
    (record asked.0 { bytes = c.handle.new.frame }, (c.frame_mut.ensures.written a c.handle.new.frame asked.1 long).next)

pub write-requires-clause-fits : goal.write-requires-clause-fits
write-requires-clause-fits g c =
    let asked = rw (← c.self.view_is) at c.requires.next in
    let a : Arrival = record { port = c.args.port; frame = asked.0 } in
    let long : length c.handle.new.frame ≡ length asked.0.bytes = omega (arith, c.handle.auto.frame, ap length (c.frame_mut.ensures.value a asked.1)) in
    let written = c.frame_mut.ensures.written a c.handle.new.frame asked.1 long in
    let bytes = c.frame.ensures (record a { frame = record asked.0 { bytes = c.handle.new.frame } }) written.next in
    let fits : Fits asked.0 = asked.2 in
    rw (c.time.ensures a asked.1, c.original.ensures a asked.1, bytes) (record {
      early = fits.early;
      original = fits.original;
      short =
          omega (arith, long, fits.short);
    })

pub returns-clause-changed : goal.returns-clause-changed
returns-clause-changed g c =
    rw (← c.self.view_is, c.write.ensures.same_captures, c.write.ensures.same_log) (λ frame next.
    let a : Arrival = record { port = c.args.port; frame = frame } in
    let long : length c.handle.new.frame ≡ length frame.bytes = omega (arith, c.handle.auto.frame, ap length (c.frame_mut.ensures.value a next)) in
    ((c.frame_mut.ensures.written a c.handle.new.frame next long).changed, refl))

pub returns-clause-handles : goal.returns-clause-handles
returns-clause-handles g c =
    rw (← c.self.view_is) (λ frame next.
    let a : Arrival = record { port = c.args.port; frame = frame } in
    let long : length c.handle.new.frame ≡ length frame.bytes = omega (arith, c.handle.auto.frame, ap length (c.frame_mut.ensures.value a next)) in
    let written = c.frame_mut.ensures.written a c.handle.new.frame next long in
    let bytes = c.frame.ensures (record a { frame = record frame { bytes = c.handle.new.frame } }) written.next in
    let ready = rw (← c.self.view_is) at c.requires.ready in
    let of : IsOfPorts (length c.self.inside.merge) (handled_with a c.handle.new.frame c.in-Ok.outcome) =
    record { came = next_port_is next; kept = long; sent = subst (λ ports. SendsBelow ports c.in-Ok.outcome.verdict) ready.ports c.in-Ok.ensures.sends } in
    let handled = rw (c.time.ensures a next, c.original.ensures a next, c.frame_mut.ensures.value a next) at c.in-Ok.ensures.handled in
    elim c.match-write.branch [
      | in-Ok-write w ↦ rw w.result-is (
        c.handle.new.frame,
        handled,
        c.in-Ok.ensures.few,
        of,
        rw (c.time.ensures a next, c.original.ensures a next, bytes)
            at (w.in-Ok-write.ensures.writes frame.bytes),
      )
      | in-Err-write w ↦ rw w.result-is (
        c.handle.new.frame,
        c.in-Ok.outcome,
        handled,
        of,
        rw (c.time.ensures a next, c.original.ensures a next, bytes) at
            (w.in-Err-write.ensures.writes frame.bytes),
      )
    ])

pub handle-requires-clause-short : goal.handle-requires-clause-short
handle-requires-clause-short g c =
    let asked = rw (← c.self.view_is) at c.requires.next in
    let a : Arrival = record { port = c.args.port; frame = asked.0 } in
    let fits : Fits asked.0 = asked.2 in
    omega (arith, fits.short, ap length (c.frame_mut.ensures.value a asked.1))

pub handle-requires-clause-port : goal.handle-requires-clause-port
handle-requires-clause-port g c =
    let asked = rw (← c.self.view_is) at c.requires.next in
    let ready = rw (← c.self.view_is) at c.requires.ready in
    let port = next_port_is asked.1 in
    omega (arith, port, ready.ports)

pub handle-requires-clause-time : goal.handle-requires-clause-time
handle-requires-clause-time g c =
    let asked = rw (← c.self.view_is) at c.requires.next in
    let ready = rw (← c.self.view_is) at c.requires.ready in
    rw (c.time.ensures (record { port = c.args.port; frame = asked.0 }) asked.1) (next_time _ ready.times asked.1)

pub returns-clause-since : goal.returns-clause-since
returns-clause-since g c =
    rw (← c.self.view_is) (λ frame next.
    elim c.match-write.branch [
      | in-Ok-write w ↦ rw w.result-is (rw (c.time.ensures (record { port = c.args.port; frame = frame }) next) at c.in-Ok.ensures.since)
      | in-Err-write w ↦ rw w.result-is tt
    ])
