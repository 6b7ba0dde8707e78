-- Reading the next record of one of several inputs.
use Rattle.std.proofs.Common.{◌≡◌, ◌≢◌, ℕ, ◌<◌, ◌⊎◌, inl, inr, ⊎_elim, refl, ◌∙◌, sym, ap, List, length, set, All, slice_get, Ok, Err, Some, Result}
use Rattle.std.proofs.Common.{arith, length-set}
use Rattle.std.proofs.lemmas.Bool.{cases_eq}
use Rattle.std.proofs.lemmas.List.Elements.{All-set}
use Rattle.std.proofs.lemmas.Option.{same_Some}
use Rattle.vg_base.specs.Files.{Disk}
use Rattle.vg_base.proofs.Disks.{ReadKeeps-trans}
use Rattle.vg_pcap.specs.declared.faults.CaptureFault.{CaptureFault}
use Rattle.vg_pcap.specs.declared.merge.MergeFault.{MergeFault}
use Rattle.vg_pcap.specs.Reader.{IsReadable}
use Rattle.vg_pcap.specs.Merge.{Input, AreReadable, ids_of, ReadsInputs}
use Rattle.vg_pcap.specs.Inputs.{AreApart, AreInputs, IsSound, Refills, RefillsAt}
use Rattle.vg_pcap.proofs.Refilling.{cause_at, no_cause}
use Rattle.vg_pcap.proofs.Arriving.{slice_get-set_same, slice_get-set_other, filter_map-same, All-from_places, All-at_place}
use Rattle.vg_pcap.proofs.Staying.{SameId, IsReadable-stays, All-filter_map}

-- where one input is replaced, each is that one, or stood there before
pub at_set : {A : Type 0} (xs : List A) (i : ℕ) (y : A) (p : ℕ) (x : A) → i < length xs → slice_get (set xs i y) p ≡ Some x → ((p ≡ i) × (x ≡ y))
    ⊎ ((p ≢ i) × (slice_get xs p ≡ Some x))
at_set xs i y p x lt at =
    ⊎_elim
    (λ same. let here : slice_get (set xs i y) i ≡ Some x = ap (λ k. slice_get (set xs i y) k) (sym same) ∙ at in
    inl (same, same_Some x y (sym here ∙ slice_get-set_same xs i y lt)))
    (λ ne. inr (ne, sym (slice_get-set_other xs i p y ne) ∙ at))
    (cases_eq p i)

-- the ids of an input that is read stay
pub apart-set : {inputs : List Input} {port : ℕ} {was : Input} (now : Input) → port < length inputs → slice_get inputs port ≡ Some was
    → now.reader.id ≡ was.reader.id → AreApart inputs → AreApart (set inputs port now)
apart-set {inputs} {port} {was} now lt at same apart = record {
  places = λ p q a b id at-a at-b is-a is-b.
      ⊎_elim
      (λ here. ⊎_elim
      (λ there. here.0 ∙ sym there.0)
      (λ there. here.0 ∙ apart.places port q was b id at there.1 (sym same ∙ (ap (λ x. x.reader.id) (sym here.1) ∙ is-a)) is-b)
      (at_set inputs port now q b lt at-b))
      (λ here. ⊎_elim
      (λ there. apart.places p port a was id here.1 at is-a (sym same ∙ (ap (λ x. x.reader.id) (sym there.1) ∙ is-b)) ∙ sym there.0)
      (λ there. apart.places p q a b id here.1 there.1 is-a is-b)
      (at_set inputs port now q b lt at-b))
      (at_set inputs port now p a lt at-a);
}

pub inputs-set : {s t : Disk} {inputs : List Input} {port : ℕ} {was now : Input} {result : Result (Unit {0}) CaptureFault} → port < length inputs
    → slice_get inputs port ≡ Some was → Refills s t was now result → AreInputs inputs → AreInputs (set inputs port now)
inputs-set {inputs = inputs} {port = port} {was = was} {now = now} lt at r i = record {
  few = omega (arith, i.few, length-set inputs port now);
  apart = apart-set now lt at r.id i.apart;
  sound = All-set IsSound inputs port now r.sound i.sound;
}

-- the id of another input stands where it stood
pub other_id : {s t : Disk} {inputs : List Input} {port : ℕ} {was now : Input} {result : Result (Unit {0}) CaptureFault} → AreApart inputs
    → slice_get inputs port ≡ Some was → Refills s t was now result →
    (p : ℕ) (x : Input) → p ≢ port → slice_get inputs p ≡ Some x → SameId s t x.reader.id
other_id {inputs = inputs} {port = port} {was = was} apart at r p x ne here = record {
  stands =
      λ j is. r.others j (λ e. ne (apart.places p port x was j here at is (sym e)));
}

pub refilled_at : {s t : Disk} {inputs : List Input} {port : ℕ} {was now : Input} {result : Result (Unit {0}) CaptureFault} → port < length inputs
    → slice_get inputs port ≡ Some was → Refills s t was now result → AreInputs inputs → AreReadable s inputs →
    RefillsAt s t inputs (set inputs port now) port result
refilled_at {s} {t} {inputs} {port} {was} {now} lt at r are readable = record {
  ports = length-set inputs port now;
  others = λ p ne. slice_get-set_other inputs port p now ne;
  was = was;
  was_at = at;
  now = now;
  now_at = slice_get-set_same inputs port now lt;
  refills = r;
  readable = All-from_places (λ i. IsReadable t i.reader.id) (set inputs port now)
      (λ p x here. ⊎_elim
      (λ (e : (p ≡ port) × (x ≡ now)). rw e.1 r.readable)
      (λ (e : (p ≢ port) × (slice_get inputs p ≡ Some x)). IsReadable-stays x.reader.id (All-at_place (λ i. IsReadable s i.reader.id) inputs p x
      readable e.1) (other_id are.apart at r p x e.0 e.1))
      (at_set inputs port now p x lt here));
  inputs = are;
}

-- each input is the one that was read, or stood there before
pub at_refilled : {s t : Disk} {old new : List Input} {port : ℕ} {result : Result (Unit {0}) CaptureFault} (r : RefillsAt s t old new port result)
    (p : ℕ) (x : Input) → slice_get new p ≡ Some x → ((p ≡ port) × (x ≡ r.now)) ⊎ ((p ≢ port) × (slice_get old p ≡ Some x))
at_refilled {s} {t} {old} {new} {port} r p x at =
    ⊎_elim
    (λ same. let here : slice_get new port ≡ Some x = ap (λ k. slice_get new k) (sym same) ∙ at in inl (same, same_Some x r.now (sym here ∙ r.now_at)))
    (λ ne. inr (ne, sym (r.others p ne) ∙ at))
    (cases_eq p port)

same_ids : {s t : Disk} {old new : List Input} {port : ℕ} {result : Result (Unit {0}) CaptureFault} → RefillsAt s t old new port result
    → ids_of new ≡ ids_of old
same_ids {s} {t} {old} {new} {port} r = filter_map-same (λ i. i.reader.id) new old r.ports
    (λ p x y at-x at-y. ⊎_elim
    (λ (e : (p ≡ port) × (x ≡ r.now)).
    let there : slice_get old port ≡ Some y = ap (λ k. slice_get old k) (sym e.0) ∙ at-y in
    let was : r.was ≡ y = same_Some r.was y (sym r.was_at ∙ there) in
    ap (λ (i : Input). i.reader.id) e.1 ∙ (r.refills.id ∙ ap (λ (i : Input). i.reader.id) was))
    (λ (e : (p ≢ port) × (slice_get old p ≡ Some x)). ap (λ (i : Input). i.reader.id) (same_Some x y (sym e.1 ∙ at-y)))
    (at_refilled r p x at-x))

others_stay : {s t : Disk} {old new : List Input} {port : ℕ} {result : Result (Unit {0}) CaptureFault} → RefillsAt s t old new port result → (id : ℕ)
    → All (λ other. id ≢ other) (ids_of old) → t.opened id ≡ s.opened id
others_stay {s} {t} {old} {new} {port} r id all =
    r.refills.others id (λ e. All-filter_map (λ other. id ≢ other) (λ i. i.reader.id) old port r.was id all r.was_at (sym e) refl)

pub reads_one : {s t : Disk} {old new : List Input} {port : ℕ} → RefillsAt s t old new port (Ok tt) → ReadsInputs s t old new (Ok tt)
reads_one {old = old} {new = new} r = record {
  cause = no_cause r.refills.cause;
  keeps = r.refills.keeps;
  shut_faults = r.refills.shut_faults;
  ids = same_ids r;
  readable = r.readable;
  others = others_stay r;
  open_count = r.refills.open_count;
  ports = r.ports;
}

pub reads_refused : {s t : Disk} {old new : List Input} {port : ℕ} {fault : CaptureFault} → RefillsAt s t old new port (Err fault)
    → ReadsInputs s t old new (Err (record { port = port; fault = fault }))
reads_refused {port = port} r = record {
  cause = cause_at port r.refills.cause;
  keeps = r.refills.keeps;
  shut_faults = r.refills.shut_faults;
  ids = same_ids r;
  readable = r.readable;
  others = others_stay r;
  open_count = r.refills.open_count;
  ports = r.ports;
}

-- after inputs were read, others are read
pub ReadsInputs-trans : {s t u : Disk} {old mid new : List Input} (result : Result (Unit {0}) MergeFault) → ReadsInputs s t old mid (Ok tt)
    → ReadsInputs t u mid new result → ReadsInputs s u old new result
ReadsInputs-trans {s} {t} {u} {old} {mid} {new} (Ok done) x y = record {
  cause = record { fault = tt; same = y.cause.same ∙ x.cause.same; same_else = tt; rises = omega (arith, x.cause.rises, y.cause.rises) };
  keeps = ReadKeeps-trans x.keeps y.keeps;
  shut_faults = y.shut_faults ∙ x.shut_faults;
  ids = y.ids ∙ x.ids;
  readable = y.readable;
  others = λ id all. y.others id (rw x.ids all) ∙ x.others id all;
  open_count = y.open_count ∙ x.open_count;
  ports = y.ports ∙ x.ports;
}
ReadsInputs-trans {s} {t} {u} {old} {mid} {new} (Err e) x y = record {
  cause = record {
    fault = λ is. let rose = y.cause.fault is in let same = x.cause.same in omega arith;
    same = tt;
    same_else = λ ne. y.cause.same_else ne ∙ x.cause.same;
    rises = omega (arith, x.cause.rises, y.cause.rises);
  };
  keeps = ReadKeeps-trans x.keeps y.keeps;
  shut_faults = y.shut_faults ∙ x.shut_faults;
  ids = y.ids ∙ x.ids;
  readable = y.readable;
  others = λ id all. y.others id (rw x.ids all) ∙ x.others id all;
  open_count = y.open_count ∙ x.open_count;
  ports = y.ports ∙ x.ports;
}
