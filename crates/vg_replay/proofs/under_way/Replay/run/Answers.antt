use Rattle.std.proofs.Common.{[], ◌∷◌, ◌++◌, refl, append-nil, append_assoc, length-append, arith}
use Rattle.vg_replay.proofs.Handling.{past_number, replays_earlier, begun_earlier}
use Rattle.vg_replay.proofs.Histories.{HandlesAll-push, StopsBegun-map, Replays-map, next_after, stops_after}
use Rattle.vg_replay.proofs.under_way.Replay.run.Goals as goal

pub loop-next-init : goal.loop-next-init
loop-next-init g c = (λ s n before x. ([], refl, rw append-nil x), c.requires.ready)

pub next_frame-requires-clause-going : goal.next_frame-requires-clause-going
next_frame-requires-clause-going g c =
    let now = c.loop-next.invariant.0 c.requires.going.0 c.requires.going.1 c.requires.going.2 c.requires.going.3 in
    (c.requires.going.0, c.requires.going.1, c.requires.going.2 ++ now.0, now.2)

pub loop-next-smaller : goal.loop-next-smaller
loop-next-smaller g c =
    let now = c.loop-next.invariant.0 c.requires.going.0 c.requires.going.1 c.requires.going.2 c.requires.going.3 in
    let past = c.requires.going.2 ++ now.0 in
    let next = (rw c.in-Ok-Again.field-0-is at c.in-Ok-Again.ensures.handles) c.requires.going.0 c.requires.going.1 past now.2 in
    omega (arith, past_number {past = past} now.2, past_number {past = past ++ next.0 ∷ []} next.3, next.3.few, length-append past (next.0 ∷ []))

pub loop-next-preserved : goal.loop-next-preserved
loop-next-preserved g c =
    let again = rw c.in-Ok-Again.field-0-is at c.in-Ok-Again.ensures.handles in (
      λ s n before x.
          let now = c.loop-next.invariant.0 s n before x in
          let next = again s n (before ++ now.0) now.2 in (
            now.0 ++ next.0 ∷ [],
            HandlesAll-push g.H.Handler.handles g.H.Handler.stops_at _ now.0 _ next.0 _ now.1 next.1,
            rw append_assoc at next.3,
          ),
      rw c.in-Ok-Again.field-0-is at c.in-Ok-Again.ensures.ready,
    )

pub returns-in-Ok-End : goal.returns-in-Ok-End
returns-in-Ok-End g c = λ s n before x.
    let now = c.loop-next.invariant.0 s n before x in
    let end = (rw c.in-Ok-End.field-0-is at c.in-Ok-End.ensures.handles) s n (before ++ now.0) now.2 in
    replays_earlier g.H.Handler.handles g.H.Handler.stops_at before now.0 _ _ now.1 s _ n _ end.1

pub returns-in-Err : goal.returns-in-Err
returns-in-Err g c = λ s n before x.
    let now = c.loop-next.invariant.0 s n before x in
    let stop = c.in-Err.ensures.handles s n (before ++ now.0) now.2 in
    let after = next_after g.H.Handler.handles g.H.Handler.stops_at (before ++ now.0) c.loop-next.replay.handler in
    let at = stops_after g.H.Handler.handles g.H.Handler.stops_at (before ++ now.0) c.loop-next.replay.handler in (
      begun_earlier g.H.Handler.handles g.H.Handler.stops_at before now.0 _ _ now.1 s _ n _ (StopsBegun-map after at s _ n _ stop.0),
      replays_earlier g.H.Handler.handles g.H.Handler.stops_at before now.0 _ _ now.1 s _ n _ (Replays-map after at s _ n _ stop.1),
    )

pub next_frame-requires-clause-ready : goal.next_frame-requires-clause-ready
next_frame-requires-clause-ready g c = c.loop-next.invariant.1
