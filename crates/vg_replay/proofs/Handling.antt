-- A frame that is handled.
use Rattle.std.proofs.lemmas.List.Elements.{All-push}
use Rattle.std.proofs.Common.{◌≡◌, ◌≢◌, ◌<◌, ◌≤◌, ◌+◌, ◌^◌, ◌∙◌, ℕ, List, [], ◌∷◌, ◌++◌, length, All, IsTrue, false, Result, Ok, Err, sym, ap, subst}
use Rattle.std.proofs.Common.{length-append, arith}
use Rattle.vg_base.specs.declared.faults.Failed.{Failed}
use Rattle.vg_base.specs.Files.{Disk, WriteKeeps}
use Rattle.vg_pcap.specs.declared.merge.MergeFault.{MergeFault}
use Rattle.vg_pcap.proofs.Staying.{SameReading-writes, Comes-stays}
use Rattle.vg_pcap.proofs.NextPort.{readable_changed, ids_changed}
use Rattle.vg_pcap.proofs.Later.{none_before, changed_is_first}
use Rattle.vg_pcap.specs.Frames.{Stream}
use Rattle.vg_pcap.specs.Arrivals.{Arrival, ComeFirst}
use Rattle.vg_pcap.specs.Merge.{Input, IsChanged, Comes, Advances}
use Rattle.vg_replay.specs.declared.stop.RunStop.{RunStop}
use Rattle.vg_replay.specs.declared.stop.RunStop.TheVariants as stops
use Rattle.vg_replay.specs.declared.totals.Totals.{Totals}
use Rattle.vg_replay.proofs.Histories.{after_earlier, stops_earlier, Replays-map, StopsBegun-map}
use Rattle.vg_replay.proofs.Pieces.{arrivals_of-more, arrivals_of-length, totals_of-frames, totals_of-few, totals_of-more}
use Rattle.vg_replay.proofs.Stopping.{IsRead, with_inputs, opened_writes, damage_behind, read_goes, read_stops, ended, end_fails}
use Rattle.vg_replay.proofs.Wrote.{frame_keeps, frame_same, frame_rose, wrote_more, wrote_parts, others_more}
use Rattle.vg_replay.specs.Counts.{AreFew, counted}
use Rattle.vg_replay.specs.Outputs.{Handled, arrivals_of}
use Rattle.vg_replay.specs.Handler.{Takes, HandlesAll, HandledAfter, StopsAfter}
use Rattle.vg_replay.specs.Replays.{ReplayFiles, Replays, StopsBegun, AreFirst, IsOfPorts, HavePorts, most_frames}
use Rattle.vg_replay.specs.UnderWay.{Replaying, TakesFewSteps, IsSound, IsReady, HasOpened, HaveCome, Going}
use Rattle.vg_replay.specs.Writing.{WritesFrame}
use Rattle.vg_replay.specs.Stepping.{stop_of, HasStopped, HasEnded, ClosesAll}

-- the next frame is the first of what is left
abbrev pub IsFirstLeft : List Input → Arrival → Type 0
IsFirstLeft inputs a = (s : Disk) (streams : List Stream) (past : List Arrival) → Comes s inputs streams past → (left : List Stream)
    × ComeFirst streams (past ++ a ∷ []) left

-- how many frames were handled
pub past_number : {s t : Disk} {n : ReplayFiles} {r : Replaying} {past : List Handled} → Going s t n r past → r.totals.frames ≡ length past
past_number {r = r} {past = past} x = ap (λ (totals : Totals). totals.frames) x.totals_are ∙ totals_of-frames past

one_more : {s t : Disk} {n : ReplayFiles} {r : Replaying} {past : List Handled} → Going s t n r past → r.totals.frames ≢ most_frames → length past + 1 < 2 ^ 32
one_more x not = omega (arith, not, x.few, past_number x)

-- another frame can be counted
pub few_more : {s t : Disk} {n : ReplayFiles} {r : Replaying} {past : List Handled} (steps : ℕ) → Going s t n r past → r.totals.frames ≢ most_frames
    → steps ≤ 2 ^ 31 → AreFew r.totals steps
few_more {r = r} {past = past} steps x not few = rw x.totals_are (totals_of-few past steps x.steps few (one_more x not))

next_first : {s t : Disk} {n : ReplayFiles} {r : Replaying} {past : List Handled} (a : Arrival) → Going s t n r past → r.totals.frames ≢ most_frames
    → IsFirstLeft r.inputs a → IsTrue s.tells_held
    → AreFirst s n.ins (arrivals_of past ++ a ∷ [])
next_first {t = t} {past = past} a x not first told =
    let come = x.come told in
    let more = first t come.0 (arrivals_of past) come.2 in (
      come.0,
      more.0,
      come.1,
      more.1,
      damage_behind a come.2 more.1,
      (let few = one_more x not in
          omega (arith, few, arrivals_of-length past, length-append (arrivals_of past) (a ∷ []))),
    )

first_more : {s t : Disk} {n : ReplayFiles} {r : Replaying} {past : List Handled} (h : Handled) → Going s t n r past → r.totals.frames ≢ most_frames
    → IsFirstLeft r.inputs h.arrival → IsTrue s.tells_held
    → AreFirst s n.ins (arrivals_of (past ++ h ∷ []))
first_more {past = past} h x not first told = rw (arrivals_of-more past h) (next_first h.arrival x not first told)

ports_more : {s t : Disk} {n : ReplayFiles} {r : Replaying} {past : List Handled} (h : Handled) → Going s t n r past → IsOfPorts (length r.inputs) h
    → HavePorts n (past ++ h ∷ [])
ports_more {n = n} {past = past} h x of = All-push (IsOfPorts (length n.ins)) past h x.ports (subst (λ ports. IsOfPorts ports h) x.sound.inputs of)

-- what the handler takes is what comes after the frame
pub ready_more : {t u : Disk} {old mid new : List Input} {a : Arrival} (before after : Takes) → IsReady before old → IsChanged old mid a
    → Advances t u mid new (Ok tt) → after.ports ≡ before.ports → after.since ≤ a.frame.time → IsReady after new
ready_more {new = new} {a = a} before after ready changed advances ports since = record {
  ports = ports ∙ (ready.ports ∙ (sym changed.ports ∙ sym advances.reads.ports));
  times = none_before new after.since a.frame.time since (advances.later a.frame.time (changed_is_first changed));
}

-- ---- a frame whose bytes were changed in place

-- the files stay open
opened_changed : {s t : Disk} {n : ReplayFiles} {r : Replaying} {mid : List Input} {a : Arrival} → IsChanged r.inputs mid a → HasOpened s t n r
    → HasOpened s t n (record r { inputs = mid })
opened_changed {s} {t} {n} {r} {mid} changed o =
    let ids = ids_changed changed in
    record {
      held = o.held;
      opens = record {
        closed = rw ids o.opens.closed;
        others = λ id none. o.opens.others id (rw ids at none);
        count = rw ids o.opens.count;
      };
      readable = readable_changed t changed o.readable;
      writable = o.writable;
      outs_named = o.outs_named;
      log_named = o.log_named;
    }

sound_changed : {n : ReplayFiles} {r : Replaying} {mid : List Input} {a : Arrival} → IsChanged r.inputs mid a → IsSound n r
    → IsSound n (record r { inputs = mid })
sound_changed changed sound = record { names = sound.names; inputs = changed.ports ∙ sound.inputs; outs = sound.outs; few = sound.few }

-- the handler stopped, and nothing was written
pub handler_stops : {S : Type 0} {I : List Handled → Type 0} {A : List Handled → Arrival → S → Type 0} {s t : Disk} {n : ReplayFiles} {r : Replaying}
    {past : List Handled} {mid : List Input} (a : Arrival) (reason : S) → I past → A past a reason
    → Going s t n r past → r.totals.frames ≢ most_frames → IsChanged r.inputs mid a → IsFirstLeft r.inputs a
    → HasStopped s t n (record r { inputs = mid }) I A (stops.Handler reason)
handler_stops {past = past} a reason history halts x not changed first = record {
  opened = opened_changed changed x.opened;
  others = x.others;
  stops = record {
    frames = past;
    history = history;
    ports = x.ports;
    arrival = a;
    stops = halts;
    first = next_first a x not first;
    wrote = x.wrote;
    read_faults = x.no_fault.read_faults;
  };
}

-- a frame was written, and the record after it is read now
pub frame_written : {s t u : Disk} {n : ReplayFiles} {r : Replaying} {past : List Handled} {mid : List Input} (h : Handled) → Going s t n r past
    → r.totals.frames ≢ most_frames → IsChanged r.inputs mid h.arrival → IsFirstLeft r.inputs h.arrival
    → TakesFewSteps h → IsOfPorts (length r.inputs) h → WritesFrame t u r.outs r.log (r.totals.frames + 1) h (Ok tt) → IsRead s u n (record r { inputs = mid }) (past ++ h ∷ [])
frame_written {past = past} h x not changed first steps of writes =
    let keeps = frame_keeps (Ok tt) writes in
    let number = ap (λ k. k + 1) (past_number x) in
    record {
      sound = sound_changed changed x.sound;
      opened = opened_changed changed (opened_writes x.opened keeps);
      no_fault = record { read_faults = keeps.read_faults ∙ x.no_fault.read_faults; write_faults = frame_same writes ∙ x.no_fault.write_faults };
      ports = ports_more h x of;
      first = first_more h x not first;
      wrote = λ told. wrote_more h x.sound x.opened told (x.wrote told) number writes;
      others = λ told. others_more (Ok tt) x.sound x.opened told (x.others told) writes;
      few = let few = one_more x not in omega (arith, few, length-append past (h ∷ []));
      steps = All-push TakesFewSteps past h x.steps steps;
    }

-- a frame couldn't be written
pub frame_fails : {S : Type 0} {I : List Handled → Type 0} {A : List Handled → Arrival → S → Type 0} {s t u : Disk} {n : ReplayFiles} {r : Replaying}
    {past : List Handled} {mid : List Input} {e : Failed} (h : Handled) → I (past ++ h ∷ []) → Going s t n r past → r.totals.frames ≢ most_frames
    → IsChanged r.inputs mid h.arrival → IsFirstLeft r.inputs h.arrival → IsOfPorts (length r.inputs) h
    → WritesFrame t u r.outs r.log (r.totals.frames + 1) h (Err e)
    → HasStopped s u n (record r { inputs = mid }) I A stops.Write
frame_fails {past = past} {e = e} h history x not changed first of writes =
    let keeps = frame_keeps (Err e) writes in
    let number = ap (λ k. k + 1) (past_number x) in
    record {
      opened = opened_changed changed (opened_writes x.opened keeps);
      others = λ told. others_more (Err e) x.sound x.opened told (x.others told) writes;
      stops = (
        rw x.no_fault.write_faults at (frame_rose writes),
        keeps.read_faults ∙ x.no_fault.read_faults,
        record {
          frames = past ++ h ∷ [];
          history = history;
          ports = ports_more h x of;
          first = first_more h x not first;
          wrote = λ told. wrote_parts h x.sound x.opened told (x.wrote told) number writes;
        },
      );
    }

-- what comes in is still to come after a frame was written
come_after : {s t u : Disk} {n : ReplayFiles} {r : Replaying} {past : List Handled} → Going s t n r past → WriteKeeps t u → IsTrue s.tells_held
    → HaveCome s u n.ins r.inputs (arrivals_of past)
come_after {r = r} x keeps told = let come = x.come told in (come.0, come.1, Comes-stays (SameReading-writes r.inputs keeps) come.2)

-- the frame was handled
pub frame_handled : {s t u v : Disk} {n : ReplayFiles} {r : Replaying} {past : List Handled} {mid new : List Input} (h : Handled) → Going s t n r past
    → r.totals.frames ≢ most_frames → IsChanged r.inputs mid h.arrival → IsFirstLeft r.inputs h.arrival
    → TakesFewSteps h → IsOfPorts (length r.inputs) h → WritesFrame t u r.outs r.log (r.totals.frames + 1) h (Ok tt)
    → Advances u v mid new (Ok tt)
    → Going s v n (with_inputs r new (counted r.totals h.verdict h.steps)) (past ++ h ∷ [])
frame_handled {r = r} {past = past} h x not changed first steps of writes advances =
    let counts = ap (λ (t : Totals). counted t h.verdict h.steps) x.totals_are ∙ sym (totals_of-more past h) in
    read_goes (frame_written h x not changed first steps of writes) advances.reads counts (λ told.
    let come = come_after x (frame_keeps (Ok tt) writes) told in
    rw (arrivals_of-more past h) (come.0, come.1, advances.comes r.inputs come.0 (arrivals_of past) h.arrival changed come.2))

-- the record after the frame is refused
pub frame_last : {S : Type 0} {I : List Handled → Type 0} {A : List Handled → Arrival → S → Type 0} {s t u v : Disk} {n : ReplayFiles} {r : Replaying}
    {past : List Handled} {mid new : List Input} {e : MergeFault} (totals : Totals) (h : Handled) → I (past ++ h ∷ []) → Going s t n r past
    → r.totals.frames ≢ most_frames → IsChanged r.inputs mid h.arrival → IsFirstLeft r.inputs h.arrival → TakesFewSteps h
    → IsOfPorts (length r.inputs) h → WritesFrame t u r.outs r.log (r.totals.frames + 1) h (Ok tt) → Advances u v mid new (Err e)
    → HasStopped s v n (with_inputs r new totals) I A (stop_of e)
frame_last {r = r} {past = past} totals h history x not changed first steps of writes advances =
    read_stops totals history (frame_written h x not changed first steps of writes) advances.reads advances.fault (λ told.
    let come = come_after x (frame_keeps (Ok tt) writes) told in
    rw (arrivals_of-more past h) (come.0, come.1, advances.refused r.inputs come.0 (arrivals_of past) h.arrival changed come.2))

-- ---- the end

pub next_ends : {S : Type 0} {I : List Handled → Type 0} {A : List Handled → Arrival → S → Type 0} {s t u v : Disk} {n : ReplayFiles}
    {old new : Replaying} {past : List Handled} → I past → Going s t n old past → new ≡ old → u ≡ t → HasEnded u new → ClosesAll u v new (Ok tt) →
    All (λ input. input.waits ≡ false) old.inputs × Replays s v n I A (Ok new.totals)
next_ends {s = s} {t = t} {u = u} {v = v} {n = n} {old = old} {new = new} {past = past} history x same unmoved end closes =
    let x-2 : Going s u n new past = subst (λ (d : Disk). Going s d n new past) (sym unmoved) (subst (λ (r : Replaying). Going s t n r past) (sym same) x) in
    let waits : All (λ input. input.waits ≡ false) old.inputs = rw same at end.none_waits in
    (waits, ended history x-2 end closes)

pub next_end_fails : {S : Type 0} {I : List Handled → Type 0} {A : List Handled → Arrival → S → Type 0} {s t u v : Disk} {n : ReplayFiles}
    {old new : Replaying} {past : List Handled} {e : Failed} → I past → Going s t n old past → new ≡ old → u ≡ t → ClosesAll u v new (Err e)
    → Replays s v n I A (Err stops.Write)
next_end_fails {s = s} {t = t} {u = u} {v = v} {n = n} {old = old} {new = new} {past = past} history x same unmoved closes =
    let x-2 : Going s u n new past = subst (λ (d : Disk). Going s d n new past) (sym unmoved) (subst (λ (r : Replaying). Going s t n r past) (sym same) x) in
    end_fails history x-2 closes

-- ---- on and on

-- a replay that went on from a later state went on from an earlier one
module _ {H S : Type 0} (Handles : H → Handled → H → Type 0) (Stops : H → Arrival → S → Type 0) (before more : List Handled) (first now : H)
    (all : HandlesAll Handles first more now) (s t : Disk) (n : ReplayFiles) where
  pub replays_earlier : (result : Result Totals (RunStop S)) → Replays s t n (HandledAfter Handles (before ++ more) now)
      (StopsAfter Handles Stops (before ++ more) now) result
      → Replays s t n (HandledAfter Handles before first) (StopsAfter Handles Stops before first) result
  replays_earlier result x = Replays-map (after_earlier Handles Stops before more first now all)
      (stops_earlier Handles Stops before more first now all) s t n result x

  pub begun_earlier : (stop : RunStop S) → StopsBegun s t n (HandledAfter Handles (before ++ more) now) (StopsAfter Handles Stops (before ++ more) now) stop
      → StopsBegun s t n (HandledAfter Handles before first) (StopsAfter Handles Stops before first) stop
  begun_earlier stop x = StopsBegun-map (after_earlier Handles Stops before more first now all)
      (stops_earlier Handles Stops before more first now all) s t n stop x
