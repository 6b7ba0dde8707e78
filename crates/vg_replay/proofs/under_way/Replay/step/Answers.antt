use Rattle.std.proofs.Common.{◌≡◌, List, ◌≢◌, ◌+◌, ◌∙◌, refl, sym, ap, subst, Ok}
use Rattle.vg_pcap.proofs.Merging.{still_next}
use Rattle.vg_pcap.proofs.NextPort.{readable_changed}
use Rattle.vg_pcap.specs.Arrivals.{Arrival}
use Rattle.vg_pcap.specs.Merge.{Input, IsNext, IsNextAt, IsChanged, AreReadable}
use Rattle.vg_replay.proofs.Histories.{next_none, next_one}
use Rattle.vg_replay.proofs.Stopping.{too_many, opened_writes}
use Rattle.vg_replay.proofs.Stepped.{went_wrong}
use Rattle.vg_replay.proofs.Wrote.{frame_keeps}
use Rattle.vg_replay.proofs.Handling.{IsFirstLeft, few_more, frame_handled, frame_last, ready_more}
use Rattle.vg_replay.specs.Outputs.{Handled}
use Rattle.vg_replay.specs.Replays.{most_frames}
use Rattle.vg_replay.specs.UnderWay.{Replaying, ReplayOf, Going, IsReady}
use Rattle.vg_replay.specs.Stepping.{handled_with, HasChanged}
use Rattle.vg_replay.specs.Writing.{WritesFrame}
use Rattle.vg_replay.proofs.under_way.Replay.step.Goals as goal
use Rattle.vg_replay.proofs.under_way.Replay.step.Goals.{in-Ok, in-Err}

pub returns-in_default-clause-steps : goal.returns-in_default-clause-steps
returns-in_default-clause-steps g c =
    rw (← c.self.view_is) (λ s n past x. (
      refl,
      refl,
      record {
        none_waits = c.in_default.ensures.none;
        all =
            c.in_default.ensures.end (g.F.Files.disk c.args.files.now);
      },
    ))

pub returns-then-self-clause-steps : goal.returns-then-self-clause-steps
returns-then-self-clause-steps g c =
    rw (← c.self.view_is) (λ s n past x. too_many (next_none g.H.Handler.handles g.H.Handler.stops_at past c.self.inside.handler) x c.if-self.true
    c.in-Some.ensures.next.1)

pub handle-requires-clause-next : goal.handle-requires-clause-next
handle-requires-clause-next g c =
    let next = c.in-Some.ensures.next in
    rw (← c.self.view_is) (next.0, next.1, c.in-Some.ensures.fits (record { port = c.in-Some.port; frame = next.0 }) next.1)

pub handle-requires-clause-ready : goal.handle-requires-clause-ready
handle-requires-clause-ready g c = c.requires.ready

pub returns-in_err-outcome-clause-steps : goal.returns-in_err-outcome-clause-steps
returns-in_err-outcome-clause-steps g c =
    let frame = c.in-Some.ensures.next.0 in
    let a : Arrival = record { port = c.in-Some.port; frame = frame } in
    let next : IsNext c.args.self.now.files.inputs a = subst (λ (r : ReplayOf _). IsNext r.files.inputs a) c.self.view_is c.in-Some.ensures.next.1 in
    let first : IsFirstLeft c.args.self.now.files.inputs a = subst (λ (r : ReplayOf _). IsFirstLeft r.files.inputs a) c.self.view_is
    (c.in-Some.ensures.first a c.in-Some.ensures.next.1) in
    λ s n past x.
    went_wrong g.H.Handler.handles g.H.Handler.stops_at s _ _ n _ _ past a c.in_err-outcome.field-0.0 c.from_residual.result c.from_residual.ensures.1 x
    (λ e. c.if-self.false (ap (λ (r : ReplayOf _). r.files.totals.frames) c.self.view_is ∙ e)) (c.handle.ensures.changed frame next) first
    (c.in_err-outcome.ensures.handles frame next)

pub counted-self-inside-requires : goal.counted-self-inside-requires
counted-self-inside-requires g c =
    let frame = c.in-Some.ensures.next.0 in
    let a : Arrival = record { port = c.in-Some.port; frame = frame } in
    let next : IsNext c.args.self.now.files.inputs a = subst (λ (r : ReplayOf _). IsNext r.files.inputs a) c.self.view_is c.in-Some.ensures.next.1 in
    let totals = ap (λ (r : ReplayOf _). r.files.totals) c.self-2.view_is ∙ ap (λ (r : Replaying). r.totals) (c.handle.ensures.changed frame next).1 in
    rw totals (few_more c.in_ok-outcome.outcome.steps c.requires.going.3
    (λ e. c.if-self.false (ap (λ (r : ReplayOf _). r.files.totals.frames) c.self.view_is ∙ e)) (c.in_ok-outcome.ensures.handles frame next).2)

pub advance-requires-clause-readable : goal.advance-requires-clause-readable
advance-requires-clause-readable g c =
    let frame = c.in-Some.ensures.next.0 in
    let a : Arrival = record { port = c.in-Some.port; frame = frame } in
    let next : IsNext c.args.self.now.files.inputs a = subst (λ (r : ReplayOf _). IsNext r.files.inputs a) c.self.view_is c.in-Some.ensures.next.1 in
    let keeps = frame_keeps (Ok tt) (c.in_ok-outcome.ensures.handles frame next).4 in
    let changed = c.handle.ensures.changed frame next in
    let inputs : c.self-2.inside.merge ≡ c.handle.new.self.files.inputs = ap (λ (r : ReplayOf _). r.files.inputs) c.self-2.view_is in
    subst (λ (l : List Input). AreReadable (g.F.Files.disk c.handle.new.files) l) (sym inputs)
    (readable_changed (g.F.Files.disk c.handle.new.files) changed.0 (opened_writes c.requires.going.3.opened keeps).readable)

pub advance-requires-clause-next : goal.advance-requires-clause-next
advance-requires-clause-next g c =
    let frame = c.in-Some.ensures.next.0 in
    let a : Arrival = record { port = c.in-Some.port; frame = frame } in
    let next : IsNext c.args.self.now.files.inputs a = subst (λ (r : ReplayOf _). IsNext r.files.inputs a) c.self.view_is c.in-Some.ensures.next.1 in
    let changed = c.handle.ensures.changed frame next in
    let inputs : c.self-2.inside.merge ≡ c.handle.new.self.files.inputs = ap (λ (r : ReplayOf _). r.files.inputs) c.self-2.view_is in
    subst (λ (l : List Input). IsNextAt l c.in-Some.port) (sym inputs) (_, still_next changed.0)

pub returns-clause-steps : goal.returns-clause-steps
returns-clause-steps g c =
    let frame = c.in-Some.ensures.next.0 in
    let a : Arrival = record { port = c.in-Some.port; frame = frame } in
    let next : IsNext c.args.self.now.files.inputs a = subst (λ (r : ReplayOf _). IsNext r.files.inputs a) c.self.view_is c.in-Some.ensures.next.1 in
    let first : IsFirstLeft c.args.self.now.files.inputs a = subst (λ (r : ReplayOf _). IsFirstLeft r.files.inputs a) c.self.view_is
    (c.in-Some.ensures.first a c.in-Some.ensures.next.1) in
    let not : c.args.self.now.files.totals.frames ≢ most_frames = λ e. c.if-self.false (ap (λ (r : ReplayOf _). r.files.totals.frames) c.self.view_is ∙ e) in
    let changed = c.handle.ensures.changed frame next in
    let handled = c.in_ok-outcome.ensures.handles frame next in
    let h : Handled = handled_with a handled.0 c.in_ok-outcome.outcome in
    let inputs : c.self-2.inside.merge ≡ c.handle.new.self.files.inputs = ap (λ (r : ReplayOf _). r.files.inputs) c.self-2.view_is in
    let outs : c.self-2.inside.outputs.captures.items ≡ c.args.self.now.files.outs = ap (λ (r : ReplayOf _). r.files.outs) c.self-2.view_is
    ∙ ap (λ (r : Replaying). r.outs) changed.1 in
    let log : c.self-2.inside.outputs.log ≡ c.args.self.now.files.log = ap (λ (r : ReplayOf _). r.files.log) c.self-2.view_is
    ∙ ap (λ (r : Replaying). r.log) changed.1 in
    let totals : c.self-2.inside.totals ≡ c.args.self.now.files.totals = ap (λ (r : ReplayOf _). r.files.totals) c.self-2.view_is
    ∙ ap (λ (r : Replaying). r.totals) changed.1 in
    let changed-2 : IsChanged c.args.self.now.files.inputs c.self-2.inside.merge a = subst
    (λ (l : List Input). IsChanged c.args.self.now.files.inputs l a) (sym inputs) changed.0 in
    let handles : g.H.Handler.handles c.args.self.now.handler h c.self-2.inside.handler =
    subst (λ (r : ReplayOf _). g.H.Handler.handles c.args.self.now.handler h r.handler) (sym c.self-2.view_is) handled.1 in
    λ s n past x.
    elim c.match-advance.branch [
      | in-Ok w ↦ rw w.result-is (
        h,
        handles,
        next,
        rw (outs, log, c.counted-self-inside.ensures, totals)
            (frame_handled h x not changed-2 first handled.2 handled.3 handled.4 w.in-Ok.ensures),
      )
      | in-Err w ↦
          let history = next_one g.H.Handler.handles g.H.Handler.stops_at past c.args.self.now.handler h c.self-2.inside.handler handles in
          rw (w.result-is, w.stop_of.ensures, outs, log) (frame_last c.counted-self-inside.result h history x not changed-2 first handled.2 handled.3
          handled.4 w.in-Err.ensures)
    ]

pub returns-clause-ready : goal.returns-clause-ready
returns-clause-ready g c =
    let frame = c.in-Some.ensures.next.0 in
    let a : Arrival = record { port = c.in-Some.port; frame = frame } in
    let next : IsNext c.args.self.now.files.inputs a = subst (λ (r : ReplayOf _). IsNext r.files.inputs a) c.self.view_is c.in-Some.ensures.next.1 in
    let changed = c.handle.ensures.changed frame next in
    let inputs : c.self-2.inside.merge ≡ c.handle.new.self.files.inputs = ap (λ (r : ReplayOf _). r.files.inputs) c.self-2.view_is in
    let handler : c.self-2.inside.handler ≡ c.handle.new.self.handler = ap (λ (r : ReplayOf _). r.handler) c.self-2.view_is in
    let changed-2 : IsChanged c.args.self.now.files.inputs c.self-2.inside.merge a = subst
    (λ (l : List Input). IsChanged c.args.self.now.files.inputs l a) (sym inputs) changed.0 in
    elim c.match-advance.branch [
      | in-Ok w ↦ rw w.result-is (λ more. rw handler
          (ready_more (g.H.Handler.takes c.args.self.now.handler) (g.H.Handler.takes c.handle.new.self.handler) c.requires.ready changed-2
          w.in-Ok.ensures c.in_ok-outcome.ensures.ports (c.in_ok-outcome.ensures.since frame next)))
      | in-Err w ↦ rw w.result-is tt
    ]
