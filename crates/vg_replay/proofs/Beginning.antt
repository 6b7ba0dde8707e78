-- How a replay begins.
use Rattle.std.proofs.lemmas.List.Elements.{All-nil}
use Rattle.std.proofs.Common.{◌≡◌, ◌<◌, ◌≤◌, ◌+◌, ◌∙◌, ℕ, List, [], ◌∷◌, ◌++◌, length, IsTrue, Option, Result, Ok, Err, inl, refl, sym, ap, subst, arith}
use Rattle.std.specs.Result.{IsErrAnd}
use Rattle.vg_base.proofs.Disks.{SameHeld-trans}
use Rattle.vg_base.specs.declared.faults.Failed.{Failed}
use Rattle.vg_base.specs.Files.{Disk}
use Rattle.vg_base.specs.Several.{DiffersBy}
use Rattle.vg_pcap.specs.declared.merge.MergeFault.{MergeFault}
use Rattle.vg_pcap.proofs.Filling.{none_come}
use Rattle.vg_pcap.proofs.Opening.{few_ids}
use Rattle.vg_pcap.proofs.Staying.{SameReading-differs, AreReadable-stays, AreToCome-stays}
use Rattle.vg_pcap.specs.Frames.{Stream, header}
use Rattle.vg_pcap.specs.Arrivals.{Arrival}
use Rattle.vg_pcap.specs.Incoming.{AllComeIn}
use Rattle.vg_pcap.specs.Merge.{Input, ids_of, AreToCome, StartsMerge, Fills, ClosesInputs}
use Rattle.vg_replay.specs.declared.stop.RunStop.{RunStop}
use Rattle.vg_replay.specs.declared.stop.RunStop.TheVariants as stops
use Rattle.vg_replay.specs.declared.totals.Totals.{Totals}
use Rattle.vg_replay.proofs.Ids.{DiffersBy-append, closed_again}
use Rattle.vg_replay.proofs.Pieces.{capture_to-none, log_of-none}
use Rattle.vg_replay.proofs.Stopping.{IsRead, read_goes, read_stops}
use Rattle.vg_replay.proofs.Wrote.{log_is_none}
use Rattle.vg_replay.specs.Outputs.{Handled, totals_of}
use Rattle.vg_replay.specs.Replays.{IsOfPorts, ReplayFiles, AreReplayFiles, AreFirst, IsPart, Replays}
use Rattle.vg_replay.specs.Handler.{HandledFrom}
use Rattle.vg_replay.specs.Handling.{GoesOn, ReplaysThrough}
use Rattle.vg_replay.proofs.Histories.{Replays-map, after_start, stops_start}
use Rattle.vg_replay.specs.UnderWay.{ReplayOf, TakesFewSteps, Going}
use Rattle.vg_replay.specs.Writing.{HasCreatedAll, HasFailedAll}
use Rattle.vg_replay.specs.Stepping.{stop_of, HasStopped}

-- there is room for the outputs
pub room_left : {s t : Disk} {names : List (List ℕ)} {inputs : List Input} (ins outs most : ℕ) → StartsMerge s t names (Ok inputs)
    → length names ≡ ins → s.open_count + ins + outs + 1 ≤ most → t.open_count + outs + 1 ≤ most
room_left {inputs = inputs} ins outs most x long room = omega (arith, x.opens.0.count, x.ports, long, room, few_ids inputs)

-- nothing has come so far
nothing_yet : {s t : Disk} {ins : List (List ℕ)} {inputs : List Input} → StartsMerge s t ins (Ok inputs) → IsTrue s.tells_held → AreFirst s ins []
nothing_yet x told = let come = x.comes told in (come.0, come.0, come.1, none_come come.0, (λ port damage at. tt), omega arith)

-- every output was created, and holds what it should of no frames
pub begun : {s t u : Disk} {n : ReplayFiles} {inputs : List Input} {ids : List ℕ} {log_id : ℕ} (totals : Totals) → AreReplayFiles n
    → length n.outs ≤ 63 → StartsMerge s t n.ins (Ok inputs)
    → HasCreatedAll t u n.outs n.log ids log_id → IsRead s u n (record { inputs = inputs; outs = ids; log = log_id; totals = totals }) []
begun {s} {t} {u} {n} {inputs} {ids} {log_id} totals names few x y = record {
  sound = record { names = names; inputs = x.ports; outs = y.ports; few = omega (arith, few, y.ports) };
  opened = record {
    held = SameHeld-trans x.keeps.held y.held;
    opens = DiffersBy-append (ids_of inputs) (ids ++ log_id ∷ []) x.opens.0 y.opens;
    readable = AreReadable-stays (SameReading-differs inputs x.readable y.held y.opens) x.readable;
    writable = y.writable;
    outs_named = λ told. y.named (rw x.keeps.held.tells_made told);
    log_named = λ told. y.log_named (rw x.keeps.held.tells_made told);
  };
  no_fault = record { read_faults = y.no_fault.read_faults ∙ x.cause.same; write_faults = y.no_fault.write_faults ∙ x.keeps.write_faults };
  ports = All-nil (IsOfPorts (length n.ins));
  first = nothing_yet x;
  wrote = λ told.
      let later : IsTrue t.tells_made = rw x.keeps.held.tells_made told in
      record {
        outs = λ port name at. rw (capture_to-none port) (y.made later names.apart (log_is_none names) port name at);
        log = rw (log_of-none) (y.log_made later);
      };
  others = λ told name none. y.others (rw x.keeps.held.tells_made told) name none ∙ ap (λ (made : List ℕ → Option (List ℕ)). made name) x.keeps.made;
  few = omega arith;
  steps = All-nil TakesFewSteps;
}

-- what is to come is still to come
still_to_come : {s t u : Disk} {n : ReplayFiles} {inputs : List Input} {ids : List ℕ} {log_id : ℕ} → StartsMerge s t n.ins (Ok inputs)
    → HasCreatedAll t u n.outs n.log ids log_id → IsTrue s.tells_held →
    (streams : List Stream) × AllComeIn s n.ins streams × AreToCome u inputs streams
still_to_come {inputs = inputs} x y told =
    let come = x.comes told in
    (come.0, come.1, AreToCome-stays (SameReading-differs inputs x.readable y.held y.opens) come.2)

-- each first record was read
pub filled : {s t u v : Disk} {n : ReplayFiles} {inputs new : List Input} {ids : List ℕ} {log_id : ℕ} (totals : Totals) → AreReplayFiles n
    → length n.outs ≤ 63 → StartsMerge s t n.ins (Ok inputs)
    → HasCreatedAll t u n.outs n.log ids log_id → Fills u v inputs new (Ok tt) → totals ≡ totals_of []
    → Going s v n (record { inputs = new; outs = ids; log = log_id; totals = totals }) []
filled totals names few x y fills counts =
    read_goes (begun totals names few x y) fills.reads counts (λ told. let come = still_to_come x y told in (come.0, come.1, fills.comes come.0 come.2))

-- a first record is refused
pub fill_refused : {S : Type 0} {I : List Handled → Type 0} {A : List Handled → Arrival → S → Type 0} {s t u v : Disk} {n : ReplayFiles}
    {inputs new : List Input} {ids : List ℕ} {log_id : ℕ} {e : MergeFault} (totals : Totals) → I [] → AreReplayFiles n → length n.outs ≤ 63
    → StartsMerge s t n.ins (Ok inputs)
    → HasCreatedAll t u n.outs n.log ids log_id → Fills u v inputs new (Err e) → HasStopped s v n
    (record { inputs = new; outs = ids; log = log_id; totals = totals }) I A (stop_of e)
fill_refused totals history names few x y fills =
    read_stops totals history (begun totals names few x y) fills.reads fills.fault (λ told. let come = still_to_come x y told in
    (come.0, come.1, fills.refused come.0 come.2))

part_back : (s t u v : Disk) (name whole : List ℕ) → t.made ≡ s.made → v.made ≡ u.made → IsPart t u name whole → IsPart s v name whole
part_back s t u v name whole before after part = rw (← before, after) part

-- the outputs couldn't be created
pub uncreated : {S : Type 0} {I : List Handled → Type 0} {A : List Handled → Arrival → S → Type 0} {s t u v : Disk} {n : ReplayFiles}
    {inputs : List Input} (q : Result (Unit {0}) Failed) → I [] → AreReplayFiles n → StartsMerge s t n.ins (Ok inputs) → HasFailedAll t u n.outs n.log
    → ClosesInputs u v inputs q
    → Replays s v n I A (Err stops.Write)
uncreated {s = s} {t = t} {u = u} {v = v} {n = n} {inputs = inputs} q history names x y z =
    let made : (name : List ℕ) → t.made name ≡ s.made name = λ name. ap (λ (made : List ℕ → Option (List ℕ)). made name) x.keeps.made in
    let after : (name : List ℕ) → v.made name ≡ u.made name = λ name. ap (λ (made : List ℕ → Option (List ℕ)). made name) z.keeps.made in
    let closes : DiffersBy v t (ids_of inputs) = record {
      closed = z.closes.closed;
      others = λ id none. sym (ap (λ (opened : ℕ → Option _). opened id) y.ids.opened) ∙ z.closes.others id none;
      count = sym y.ids.open_count ∙ z.closes.count;
    } in
    record {
      held = SameHeld-trans x.keeps.held (SameHeld-trans y.held z.keeps.held);
      ids = closed_again (ids_of inputs) x.opens.0 closes;
      others = λ told name none. after name ∙ y.others (rw x.keeps.held.tells_made told) name none ∙ made name;
      done = tt;
      stops = (
        let rose = y.rose in omega (arith, rose, x.keeps.write_faults, z.keeps.write_faults),
        z.read_faults ∙ y.read_faults ∙ x.cause.same,
        record {
          frames = [];
          history = history;
          ports = All-nil (IsOfPorts (length n.ins));
          first = nothing_yet x;
          wrote = λ told.
              let later : IsTrue t.tells_made = rw x.keeps.held.tells_made told in
              record {
                outs = λ port name at. rw (capture_to-none port) (part_back s t u v name header x.keeps.made z.keeps.made
                    (y.parts later names.apart port name at));
                log = inl (after n.log ∙ y.log_made later (log_is_none names) ∙ made n.log);
                handled = [];
                begun = [];
                one = omega arith;
                frames_are = refl;
                whole = inl refl;
                line = inl (inl (after n.log ∙ y.log_made later (log_is_none names) ∙ made n.log));
              };
        },
      );
    }

-- one that wasn't begun has handled nothing
pub not_begun : {H S : Type 0} (Handles : H → Handled → H → Type 0) (Stops : H → Arrival → S → Type 0) (s t : Disk) (n : ReplayFiles) (handler : H)
    (stop : RunStop S) (result : Result Totals (RunStop S))
    → IsErrAnd result (λ e. e ≡ stop) → Replays s t n (λ handled. handled ≡ []) (λ handled a reason. ⊥) (Err stop)
    → ReplaysThrough Handles Stops s t n handler result
not_begun Handles Stops s t n handler stop (Ok totals) is x = absurd is
not_begun Handles Stops s t n handler stop (Err e) is x =
    rw is (Replays-map (λ handled e. subst (λ (l : List Handled). HandledFrom Handles handler l) (sym e) (handler, refl))
    (λ handled a reason no. absurd no) s t n (Err stop) x)

-- a replay that was begun went on
pub went_on : {H S : Type 0} (Handles : H → Handled → H → Type 0) (Stops : H → Arrival → S → Type 0) (s t : Disk) (n : ReplayFiles) (r : ReplayOf H)
    {handler : H} (result : Result Totals (RunStop S)) → r.handler ≡ handler
    → GoesOn Handles Stops s t n r [] result → ReplaysThrough Handles Stops s t n handler result
went_on Handles Stops s t n r (Ok totals) is x =
    rw (← is) (Replays-map (after_start Handles Stops r.handler) (stops_start Handles Stops r.handler) s t n (Ok totals) x)
went_on Handles Stops s t n r (Err stop) is x =
    rw (← is) (Replays-map (after_start Handles Stops r.handler) (stops_start Handles Stops r.handler) s t n (Err stop) x.1)
