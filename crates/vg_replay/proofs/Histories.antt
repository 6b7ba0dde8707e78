-- What a handler did with frames: histories that grow, and a replay of one that is one of another.
use Rattle.std.proofs.Common.{◌∙◌, ℕ, List, [], ◌∷◌, ◌++◌, Result, Ok, Err, arith, inl, inr, refl, sym, append-nil, append_assoc}
use Rattle.vg_base.specs.Files.{Disk}
use Rattle.vg_pcap.specs.Arrivals.{Arrival}
use Rattle.vg_pcap.specs.declared.faults.CaptureRefusal.TheVariants.{Header, Record}
use Rattle.vg_pcap.specs.declared.faults.Damage.{Damage}
use Rattle.vg_replay.specs.declared.stop.RunStop.{RunStop}
use Rattle.vg_replay.specs.declared.stop.RunStop.TheVariants as stops
use Rattle.vg_replay.specs.declared.totals.Totals.{Totals}
use Rattle.vg_replay.specs.Outputs.{Handled}
use Rattle.vg_replay.specs.Handler.{HandlesAll, HandledFrom, StopsFrom, HandledNext, StopsNext, HandledAfter, StopsAfter}
use Rattle.vg_replay.specs.Replays.{ReplayFiles, Began, StopsAtRecord, StopsAtMost, StopsAtFrame, StopsReplay, StopsBegun, Replays}

-- ---- histories

module _ {H S : Type 0} (Handles : H → Handled → H → Type 0) (Stops : H → Arrival → S → Type 0) where
  pub HandlesAll-append : (first : H) (xs : List Handled) (now : H) (ys : List Handled) (last : H) → HandlesAll Handles first xs now
      → HandlesAll Handles now ys last → HandlesAll Handles first (xs ++ ys) last
  HandlesAll-append first [] now ys last x y = rw (← x) y
  HandlesAll-append first (h ∷ xs) now ys last x y = (x.0, x.1, HandlesAll-append x.0 xs now ys last x.2 y)

  pub HandlesAll-push : (first : H) (past : List Handled) (now : H) (h : Handled) (next : H) → HandlesAll Handles first past now → Handles now h next
      → HandlesAll Handles first (past ++ h ∷ []) next
  HandlesAll-push first past now h next x y = HandlesAll-append first past now (h ∷ []) next x (next, y, refl)

  -- no frame more, or one
  pub next_none : (past : List Handled) (now : H) → HandledNext Handles past now past
  next_none past now = ([], omega arith, sym (append-nil past), (now, refl))

  pub next_one : (past : List Handled) (now : H) (h : Handled) (next : H) → Handles now h next → HandledNext Handles past now (past ++ h ∷ [])
  next_one past now h next x = (h ∷ [], omega arith, refl, (next, (next, x, refl)))

  -- which are some since
  pub next_after : (past : List Handled) (now : H) (handled : List Handled) → HandledNext Handles past now handled → HandledAfter Handles past now handled
  next_after past now handled x = (x.0, x.2, x.3)

  pub stops_after : (past : List Handled) (now : H) (handled : List Handled) (a : Arrival) (reason : S) → StopsNext Stops past now handled a reason
      → StopsAfter Handles Stops past now handled a reason
  stops_after past now handled a reason x = ([], x.0 ∙ sym (append-nil past), (now, refl, x.1))

  -- nothing was handled since
  pub after_none : (past : List Handled) (now : H) → HandledAfter Handles past now past
  after_none past now = ([], sym (append-nil past), (now, refl))

  -- what was handled since a later state was handled since an earlier one
  pub after_earlier : (before more : List Handled) (first now : H) → HandlesAll Handles first more now → (handled : List Handled)
      → HandledAfter Handles (before ++ more) now handled → HandledAfter Handles before first handled
  after_earlier before more first now all handled x =
      (more ++ x.0, x.1 ∙ append_assoc before more x.0, (x.2.0, HandlesAll-append first more now x.0 x.2.0 all x.2.1))

  pub stops_earlier : (before more : List Handled) (first now : H) → HandlesAll Handles first more now
      → (handled : List Handled) (a : Arrival) (reason : S) → StopsAfter Handles Stops (before ++ more) now handled a reason
      → StopsAfter Handles Stops before first handled a reason
  stops_earlier before more first now all handled a reason x =
      (more ++ x.0, x.1 ∙ append_assoc before more x.0, (x.2.0, HandlesAll-append first more now x.0 x.2.0 all x.2.1, x.2.2))

  -- since the start
  pub after_start : (first : H) (handled : List Handled) → HandledAfter Handles [] first handled → HandledFrom Handles first handled
  after_start first handled x = rw x.1 x.2

  pub stops_start : (first : H) (handled : List Handled) (a : Arrival) (reason : S) → StopsAfter Handles Stops [] first handled a reason
      → StopsFrom Handles Stops first handled a reason
  stops_start first handled a reason x = rw x.1 x.2

-- ---- replays

module _ {S : Type 0} {I J : List Handled → Type 0} {A B : List Handled → Arrival → S → Type 0} (f : (handled : List Handled) → I handled → J handled)
    (g : (handled : List Handled) (a : Arrival) (reason : S) → A handled a reason → B handled a reason) where
  Began-map : {s t : Disk} {n : ReplayFiles} → Began s t n I → Began s t n J
  Began-map x = record { frames = x.frames; history = f x.frames x.history; ports = x.ports; first = x.first; wrote = x.wrote }

  record_map : {s t : Disk} {n : ReplayFiles} {port number : ℕ} {why : Damage} → StopsAtRecord s t n I port number why → StopsAtRecord s t n J port number why
  record_map x = record { frames = x.frames; history = f x.frames x.history; ports = x.ports; up_to = x.up_to; wrote = x.wrote; read_faults = x.read_faults }

  most_map : {s t : Disk} {n : ReplayFiles} → StopsAtMost s t n I → StopsAtMost s t n J
  most_map x = record {
    frames = x.frames;
    history = f x.frames x.history;
    ports = x.ports;
    too_many = x.too_many;
    wrote = x.wrote;
    read_faults =
        x.read_faults;
  }

  frame_map : {s t : Disk} {n : ReplayFiles} {reason : S} → StopsAtFrame s t n I A reason → StopsAtFrame s t n J B reason
  frame_map {reason = reason} x = record {
    frames = x.frames;
    history = f x.frames x.history;
    ports = x.ports;
    arrival = x.arrival;
    stops = g x.frames x.arrival reason x.stops;
    first = x.first;
    wrote = x.wrote;
    read_faults = x.read_faults;
  }

  pub StopsBegun-map : (s t : Disk) (n : ReplayFiles) (stop : RunStop S) → StopsBegun s t n I A stop → StopsBegun s t n J B stop
  StopsBegun-map s t n (stops.Capture port (Header field)) x = absurd x
  StopsBegun-map s t n (stops.Capture port (Record number why)) x = record_map x
  StopsBegun-map s t n stops.Read x = (x.0, Began-map x.1)
  StopsBegun-map s t n stops.Write x = (x.0, x.1, Began-map x.2)
  StopsBegun-map s t n stops.Frames x = most_map x
  StopsBegun-map s t n (stops.Handler reason) x = frame_map x
  StopsBegun-map s t n stops.Memory x = absurd x

  StopsReplay-map : (s t : Disk) (n : ReplayFiles) (stop : RunStop S) → StopsReplay s t n I A stop → StopsReplay s t n J B stop
  StopsReplay-map s t n (stops.Capture port (Header field)) x = x
  StopsReplay-map s t n (stops.Capture port (Record number why)) x = record_map x
  StopsReplay-map s t n stops.Read x = (
    x.0,
    elim x.1 [
      | inl m ↦ inl m
      | inr b ↦ inr (Began-map b)
    ],
  )
  StopsReplay-map s t n stops.Write x = (x.0, x.1, Began-map x.2)
  StopsReplay-map s t n stops.Frames x = most_map x
  StopsReplay-map s t n (stops.Handler reason) x = frame_map x
  StopsReplay-map s t n stops.Memory x = x

  pub Replays-map : (s t : Disk) (n : ReplayFiles) (result : Result Totals (RunStop S)) → Replays s t n I A result → Replays s t n J B result
  Replays-map s t n (Ok totals) x = record {
    held = x.held;
    ids = x.ids;
    others = x.others;
    done = record {
      frames = x.done.frames;
      history = f x.done.frames x.done.history;
      ports = x.done.ports;
      all = x.done.all;
      totals_are = x.done.totals_are;
      wrote = x.done.wrote;
      no_fault = x.done.no_fault;
    };
    stops = tt;
  }
  Replays-map s t n (Err stop) x = record { held = x.held; ids = x.ids; others = x.others; done = tt; stops = StopsReplay-map s t n stop x.stops }
