-- The first record of each port is read, one port after another.
use Rattle.std.proofs.Common.{◌≡◌, ◌≢◌, ℕ, ◌+◌, ◌<◌, ◌≤◌, inl, inr, ⊎_elim, refl, ◌∙◌, sym, ap, subst, List, [], length, slice_get, false, Ok, Err, Some, arith}
use Rattle.std.proofs.lemmas.Bool.{cases_eq, cases_lt}
use Rattle.std.proofs.lemmas.List.Elements.{All-nil}
use Rattle.std.proofs.lemmas.Option.{slice_get_within}
use Rattle.vg_base.specs.Files.{Disk}
use Rattle.vg_base.proofs.Disks.{SameHeld-refl}
use Rattle.vg_pcap.specs.declared.faults.CaptureFault.{CaptureFault}
use Rattle.vg_pcap.specs.declared.faults.CaptureFault.TheVariants as faults
use Rattle.vg_pcap.specs.declared.faults.Damage.{Damage}
use Rattle.vg_pcap.specs.Captures.{Refused}
use Rattle.vg_pcap.specs.Frames.{Stream}
use Rattle.vg_pcap.specs.Arrivals.{stream_at, Precedes, ComeFirst, ComeUpTo}
use Rattle.vg_pcap.specs.Incoming.{fault_of}
use Rattle.vg_pcap.specs.Reader.{StillComes, number_after}
use Rattle.vg_pcap.specs.Merge.{Input, InputComes, AreToCome, AreReadable, ReadsInputs, Fills, waiting_count}
use Rattle.vg_pcap.specs.Inputs.{RefillsAt}
use Rattle.vg_pcap.proofs.Arriving.{All-at_place}
use Rattle.vg_pcap.proofs.Staying.{InputComes-stays, StillComes-stays}
use Rattle.vg_pcap.proofs.Ports.{at_refilled, other_id, reads_one, reads_refused, ReadsInputs-trans}
use Rattle.vg_pcap.proofs.Merging.{input_at, no_damage}

-- of the streams that are to come, the first record of each port below this one was read
pub record FilledBelow (t : Disk) (inputs : List Input) (port : ℕ) (streams : List Stream) : Type 0 where
  pub ports : length inputs ≡ length streams
  pub filled : (p : ℕ) (input : Input) → p < port → slice_get inputs p ≡ Some input → InputComes t input (stream_at streams p)
  pub counts : (p : ℕ) (input : Input) → p < port → slice_get inputs p ≡ Some input → number_after input.reader.count ≡ number_after (waiting_count input)
  pub still : (p : ℕ) (input : Input) → port ≤ p → slice_get inputs p ≡ Some input → StillComes t input.reader (stream_at streams p)
  pub fresh : (p : ℕ) (input : Input) → port ≤ p → slice_get inputs p ≡ Some input → input.reader.count ≡ 0

-- the first record of each port below this one was read
pub record Filling (s t : Disk) (old new : List Input) (port : ℕ) : Type 0 where
  pub reads : ReadsInputs s t old new (Ok tt)
  pub comes : (streams : List Stream) → AreToCome s old streams → FilledBelow t new port streams

pub filling-none : {s : Disk} {inputs : List Input} → AreReadable s inputs → Filling s s inputs inputs 0
filling-none {s} {inputs} readable = record {
  reads = record {
    cause = record { fault = tt; same = refl; same_else = tt; rises = omega arith };
    keeps = record { write_faults = refl; held = SameHeld-refl s; made = refl };
    shut_faults = refl;
    ids = refl;
    readable = readable;
    others = λ id all. refl;
    open_count = refl;
    ports = refl;
  };
  comes = λ streams come. record {
    ports = come.ports;
    filled = λ p input lt at. absurd (omega arith);
    counts = λ p input lt at. absurd (omega arith);
    still = λ p input le at. come.still p input at;
    fresh = λ p input le at. (All-at_place (λ (i : Input). (i.waits ≡ false) × (i.reader.count ≡ 0)) inputs p input come.none at).1;
  };
}

first_count : (count was waits : ℕ) → number_after count ≡ number_after (was + waits) → was ≡ 0 → number_after count ≡ number_after waits
first_count count was waits e zero_before = omega arith

pub filling-more : {s t u : Disk} {old mid new : List Input} {port : ℕ} → Filling s t old mid port → RefillsAt t u mid new port (Ok tt)
    → Filling s u old new (port + 1)
filling-more {s} {t} {u} {old} {mid} {new} {port} before r = record {
  reads = ReadsInputs-trans (Ok tt) before.reads (reads_one r);
  comes = λ streams come.
      let f = before.comes streams come in
      let still : StillComes t r.was.reader (stream_at streams port) = f.still port r.was (omega arith) r.was_at in
      record {
        ports = r.ports ∙ f.ports;
        filled = λ p input lt at. ⊎_elim
            (λ (e : (p ≡ port) × (input ≡ r.now)).
            subst (λ (k : ℕ). InputComes u input (stream_at streams k)) (sym e.0)
            (subst (λ (i : Input). InputComes u i (stream_at streams port)) (sym e.1) (r.refills.comes (stream_at streams port) still)))
            (λ (e : (p ≢ port) × (slice_get mid p ≡ Some input)).
            let ne = e.0 in
            InputComes-stays (f.filled p input (omega arith) e.1) r.refills.keeps.held.tells_held r.refills.keeps.held.held
            (other_id r.inputs.apart r.was_at r.refills p input e.0 e.1))
            (at_refilled r p input at);
        counts = λ p input lt at. ⊎_elim
            (λ (e : (p ≡ port) × (input ≡ r.now)).
            subst (λ (i : Input). number_after i.reader.count ≡ number_after (waiting_count i)) (sym e.1)
            (first_count r.now.reader.count r.was.reader.count (waiting_count r.now) r.refills.counts (f.fresh port r.was (omega arith) r.was_at)))
            (λ (e : (p ≢ port) × (slice_get mid p ≡ Some input)). let ne = e.0 in f.counts p input (omega arith) e.1)
            (at_refilled r p input at);
        still = λ p input le at.
            let ne : p ≢ port = (λ (same : p ≡ port). absurd (omega arith)) in
            let there : slice_get mid p ≡ Some input = sym (r.others p ne) ∙ at in
            let id = other_id r.inputs.apart r.was_at r.refills p input ne there in
            StillComes-stays (f.still p input (omega arith) there) r.refills.keeps.held.tells_held r.refills.keeps.held.held id;
        fresh = λ p input le at.
            let ne : p ≢ port = (λ (same : p ≡ port). absurd (omega arith)) in
            f.fresh p input (omega arith) (sym (r.others p ne) ∙ at);
      };
}

-- no frame has come yet
pub none_come : (streams : List Stream) → ComeFirst streams [] streams
none_come streams = record {
  ports = refl;
  in_turn = λ port. refl;
  ends = λ port. refl;
  of_ports = All-nil (λ a. a.port < length streams);
  ordered = λ i j d lt within. absurd (omega arith);
  before = λ port frame h. All-nil (λ a. Precedes a (record { port = port; frame = frame }));
}

pub filling-all : {s t : Disk} {old new : List Input} {port : ℕ} → length new ≤ port → Filling s t old new port → Fills s t old new (Ok tt)
filling-all {s} {t} {old} {new} {port} all filling = record {
  reads = filling.reads;
  comes = λ streams come.
      let f = filling.comes streams come in
      record {
        left = streams;
        first = none_come streams;
        ports = f.ports;
        still = λ p input at. let lt = slice_get_within new p input at in f.filled p input (omega arith) at;
        counts = λ p input at. let lt = slice_get_within new p input at in subst (λ (n : ℕ). number_after input.reader.count ≡ number_after n)
            (none_before (waiting_count input)) (f.counts p input (omega arith) at);
      };
  refused = λ streams come. tt;
  fault = tt;
  port = tt;
}
  where
    none_before : (n : ℕ) → n ≡ 0 + n
    none_before n = omega arith

pub filling-refused : {s t u : Disk} {old mid new : List Input} {port : ℕ} {fault : CaptureFault} → Filling s t old mid port
    → RefillsAt t u mid new port (Err fault) → Fills s u old new (Err (record { port = port; fault = fault }))
filling-refused {s} {t} {u} {old} {mid} {new} {port} {fault} before r = record {
  reads = ReadsInputs-trans (Err (record { port = port; fault = fault })) before.reads (reads_refused r);
  comes = λ streams come. tt;
  refused = λ streams come.
      let f = before.comes streams come in
      let still : StillComes t r.was.reader (stream_at streams port) = f.still port r.was (omega arith) r.was_at in
      let fresh : r.was.reader.count ≡ 0 = f.fresh port r.was (omega arith) r.was_at in
      let within = slice_get_within mid port r.was r.was_at in
      let ports = f.ports in
      ⊎_elim
      (λ (read : fault ≡ faults.Read). inl read)
      (λ (refused : ((stream_at streams port).frames ≡ []) × (damage : Damage) × ((stream_at streams port).end ≡ Refused damage)
      × (fault ≡ fault_of damage (number_after r.was.reader.count))).
      let none : 0 ≡ length (stream_at streams port).frames = sym (ap length refused.0) in
      let upto : ComeUpTo streams [] port refused.1 = record {
        left = streams;
        first = none_come streams;
        is_port = omega arith;
        at_damage = record { none_left = refused.0; refused = refused.2 };
        right_after = tt;
        no_other = λ other d at. ⊎_elim
            (λ (e : other ≡ port). inl e)
            (λ (ne : other ≢ port). ⊎_elim
            (λ (lt : other < port).
            let i = input_at mid other (omega arith) in
            absurd (no_damage (f.filled other i.0 lt i.1) at.none_left at.refused))
            (λ (ge : port ≤ other). inr (refl, omega arith))
            (cases_lt other port))
            (cases_eq other port);
      } in
      inr (refused.1, refused.3 ∙ ap (λ n. fault_of refused.1 (number_after n)) (fresh ∙ none), upto))
      (r.refills.refused (stream_at streams port) still);
  fault = ⊎_elim (λ read. inl read) (λ (d : (damage : Damage) × (fault ≡ fault_of damage (number_after r.was.reader.count))). inr
      (d.0, number_after r.was.reader.count, d.1)) r.refills.fault;
  port = omega (arith, slice_get_within mid port r.was r.was_at, before.reads.ports);
}
