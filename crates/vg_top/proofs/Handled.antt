-- Frames that a small function handles.
use Rattle.std.proofs.Common.{◌≡◌, ◌∙◌, ◌<◌, ℕ, List, [], ◌∷◌, Result, eqb, inl, inr, All, refl, sym, ap}
use Rattle.std.proofs.lemmas.Bool.{cases_Bool}
use Rattle.std.proofs.lemmas.List.Elements.{All-head, All-tail}
use Rattle.std.specs.declared.convert.Infallible.{Infallible}
use Rattle.vg_base.specs.Files.{Disk}
use Rattle.vg_small.specs.declared.small.Small.{Small}
use Rattle.vg_small.specs.declared.small.Test.{Test}
use Rattle.vg_small.specs.Meaning.{SendsBelow, value_at, verdict_at}
use Rattle.vg_replay.specs.Outputs as outputs
use Rattle.vg_pcap.specs.Arrivals.{Arrival}
use Rattle.vg_replay.specs.Outputs.{Handled, arrivals_of}
use Rattle.vg_replay.specs.Handler.{HandlesAll}
use Rattle.vg_replay.proofs.Histories.{Replays-map}
use Rattle.vg_replay.specs.declared.stop.RunStop.{RunStop}
use Rattle.vg_replay.specs.declared.totals.Totals.{Totals}
use Rattle.vg_replay.specs.Replays.{ReplayFiles, Replays}
use Rattle.vg_replay.specs.Handling.{ReplaysThrough}
use Rattle.vg_top.specs.Frames.{handle_at, handled_by, Handles, AreHandledBy}

-- the frames that were handled are those that came
pub arrivals_of-handled : (f : Small) (frames : List Arrival) → arrivals_of (handled_by f frames) ≡ frames
arrivals_of-handled f [] = refl
arrivals_of-handled f (a ∷ frames) = ap (λ (l : List Arrival). a ∷ l) (arrivals_of-handled f frames)

-- what a handler does that is a small function, and stays it
pub handles_all : {H : Type 0} (function : H → Small) (first : H) (handled : List Handled) (last : H)
    → HandlesAll (λ old h new. Handles (function old) h (function new)) first handled last → AreHandledBy (function first) handled
handles_all function first [] last x = refl
handles_all function first (h ∷ handled) last x =
    let rest : AreHandledBy (function x.0) handled = handles_all function x.0 handled last x.2 in
    ap (λ (k : Handled). k ∷ handled) x.1.1 ∙ ap (λ (l : List Handled). handle_at (function first) h.arrival ∷ l) (rw x.1.0 at rest)

-- it never stops
abbrev pub never_stops : List Handled → Arrival → Infallible → Type 0
never_stops handled a reason = ⊥

-- so a replay through it is one of the frames that the function handles
pub replays_small : {H : Type 0} (function : H → Small) (s t : Disk) (n : ReplayFiles) (handler : H) (result : Result Totals (RunStop Infallible)) →
    ReplaysThrough (λ old h new. Handles (function old) h (function new)) (λ (x : H) (a : Arrival) (reason : Infallible). ⊥) s t n handler result
    → Replays s t n (AreHandledBy (function handler)) never_stops result
replays_small function s t n handler result x = Replays-map (λ handled x. handles_all function handler handled x.0 x.1) (λ handled a reason x. x.2) s
    t n result x

-- a function whose values are numbers of ports sends each frame to one of them
sent_below : (ports : ℕ) (tests : List Test) (last port : ℕ) → All (λ (t : Test). t.value < ports) tests → last < ports
    → value_at tests last port < ports
sent_below ports [] last port all below = below
sent_below ports (t ∷ tests) last port all below = elim (cases_Bool (eqb port t.port)) [
  | inl here ↦ rw here (All-head (λ (x : Test). x.value < ports) t tests all)
  | inr other ↦ rw other (sent_below ports tests last port (All-tail (λ (x : Test). x.value < ports) t tests all) below)
]

pub verdict_below : (ports : ℕ) (f : Small) (port : ℕ) → SendsBelow ports f → outputs.SendsBelow ports (verdict_at f.tests f.last port)
verdict_below ports f port below = sent_below ports f.tests f.last port below.tests below.last
