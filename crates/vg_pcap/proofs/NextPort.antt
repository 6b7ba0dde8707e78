-- The port of the next frame as a function of the inputs, and what is left where its bytes are changed.
use Rattle.std.specs.Prelude.{nat_lt}
use Rattle.std.proofs.Common.{◌≡◌, ◌≢◌, ℕ, zero, suc, ◌+◌, ◌<◌, ◌≤◌, inl, inr, ⊎_elim, refl, ◌∙◌, sym, ap, subst, List, [], ◌∷◌, length, set}
use Rattle.std.proofs.Common.{slice_get, if◌then◌else◌, Bool, true, false, Some, None, Option, arith, length-set, true≢false}
use Rattle.std.proofs.lemmas.Bool.{cases_eq, cases_lt, ltb-true, ltb-false}
use Rattle.std.proofs.lemmas.List.Elements.{All-set}
use Rattle.std.proofs.lemmas.Option.{same_Some, slice_get_within}
use Rattle.vg_base.specs.Files.{Disk}
use Rattle.vg_pcap.specs.Frames.{Framed}
use Rattle.vg_pcap.specs.Arrivals.{Arrival, Precedes}
use Rattle.vg_pcap.specs.Reader.{IsReadable}
use Rattle.vg_pcap.specs.Merge.{Input, AreReadable, IsNext, IsChanged, ids_of, waiting_at}
use Rattle.vg_pcap.specs.Inputs.{AreInputs, IsSound}
use Rattle.vg_pcap.specs.Lending.{over, over_input, Waiting, first_of, next_from, over_waiting, over_next, IsWritten}
use Rattle.vg_pcap.proofs.Arriving.{slice_get-set_same, slice_get-set_other, All-at_place, All-from_places, filter_map-same}
use Rattle.vg_pcap.proofs.Ports.{apart-set}
use Rattle.vg_pcap.proofs.Lent.{over_whole, length-over}
use Rattle.vg_pcap.proofs.Merging.{one_next, still_next}

-- ---- the function finds the next frame

-- where a frame waits
abbrev arrival : Waiting → Arrival
arrival x = waiting_at x.port x.input

-- of the inputs from this port on, the frame of this one waits, and comes first
record IsFirst (port : ℕ) (inputs : List Input) (x : Waiting) : Type 0 where
  place : ℕ
  is : x.port ≡ port + place
  at : slice_get inputs place ≡ Some x.input
  waits : x.input.waits ≡ true
  least : (q p : ℕ) (other : Input) → p ≡ port + q → slice_get inputs q ≡ Some other → other.waits ≡ true → Precedes (arrival x) (waiting_at p other)

abbrev IsFirstIf : ℕ → List Input → Option Waiting → Type 0
IsFirstIf port inputs None = (q : ℕ) (other : Input) → slice_get inputs q ≡ Some other → other.waits ≡ true → ⊥
IsFirstIf port inputs (Some x) = IsFirst port inputs x

-- what comes first of the later inputs comes first of all, where it comes before the one before them, if that waits
first_before : (port : ℕ) (i : Input) (inputs : List Input) (x : Waiting) → IsFirst (port + 1) inputs x
    → (i.waits ≡ true → x.input.reader.frame.time < i.reader.frame.time) → IsFirst port (i ∷ inputs) x
first_before port i inputs x first before = record {
  place = suc first.place;
  is = (let e = first.is in omega arith);
  at = first.at;
  waits = first.waits;
  least = least;
}
  where
    least : (q p : ℕ) (other : Input) → p ≡ port + q → slice_get (i ∷ inputs) q ≡ Some other → other.waits ≡ true → Precedes (arrival x) (waiting_at p other)
    least zero p other e at waits =
        let is : i ≡ other = same_Some i other at in
        inl (subst (λ (o : Input). x.input.reader.frame.time < o.reader.frame.time) is (before (ap (λ (o : Input). o.waits) is ∙ waits)))
    least (suc q) p other e at waits = first.least q p other (omega arith) at waits

-- an input comes before those after it, where none of them that waits is earlier
first_here : (port : ℕ) (i : Input) (inputs : List Input) → i.waits ≡ true →
    ((q p : ℕ) (other : Input) → p ≡ (port + 1) + q → slice_get inputs q ≡ Some other → other.waits ≡ true → i.reader.frame.time ≤ other.reader.frame.time) →
    IsFirst port (i ∷ inputs) (record { port = port; input = i })
first_here port i inputs w later = record { place = 0; is = omega arith; at = refl; waits = w; least = least }
  where
    no_earlier : (p : ℕ) (other : Input) → port ≤ p → i.reader.frame.time ≤ other.reader.frame.time → Precedes (waiting_at port i) (waiting_at p other)
    no_earlier p other low le =
        ⊎_elim
        (λ (lt : i.reader.frame.time < other.reader.frame.time). inl lt)
        (λ (ge : other.reader.frame.time ≤ i.reader.frame.time). let same : i.reader.frame.time ≡ other.reader.frame.time = omega arith in inr (same, low))
        (cases_lt i.reader.frame.time other.reader.frame.time)

    least : (q p : ℕ) (other : Input) → p ≡ port + q → slice_get (i ∷ inputs) q ≡ Some other → other.waits ≡ true
        → Precedes (waiting_at port i) (waiting_at p other)
    least zero p other e at waits =
        let same : i.reader.frame.time ≡ other.reader.frame.time = ap (λ (o : Input). o.reader.frame.time) (same_Some i other at) in
        no_earlier p other (omega arith) (omega arith)
    least (suc q) p other e at waits = no_earlier p other (omega arith) (later q p other (omega arith) at waits)

first_choice : (port : ℕ) (i : Input) (inputs : List Input) (x : Waiting) → i.waits ≡ true → IsFirst (port + 1) inputs x → (b : Bool)
    → nat_lt x.input.reader.frame.time i.reader.frame.time ≡ b →
    IsFirst port (i ∷ inputs) (if b then x else record { port = port; input = i })
first_choice port i inputs x w first true e = first_before port i inputs x first (λ waits. ltb-true x.input.reader.frame.time i.reader.frame.time e)
first_choice port i inputs x w first false e =
    first_here port i inputs w
    (λ q p other is at waits.
    let le : i.reader.frame.time ≤ x.input.reader.frame.time = ltb-false x.input.reader.frame.time i.reader.frame.time e in
    ⊎_elim
    (λ (lt : x.input.reader.frame.time < other.reader.frame.time). omega arith)
    (λ (same : (x.input.reader.frame.time ≡ other.reader.frame.time) × (x.port ≤ p)). let s = same.0 in omega arith)
    (first.least q p other is at waits))

first_step : (port : ℕ) (i : Input) (inputs : List Input) (w : Bool) → i.waits ≡ w → (o : Option Waiting) → IsFirstIf (port + 1) inputs o →
    IsFirstIf port (i ∷ inputs) (if w then Some (first_of (record { port = port; input = i }) o) else o)
first_step port i inputs false w None none = none_waits
  where
    none_waits : (q : ℕ) (other : Input) → slice_get (i ∷ inputs) q ≡ Some other → other.waits ≡ true → ⊥
    none_waits zero other at waits = true≢false (sym waits ∙ (ap (λ (o : Input). o.waits) (sym (same_Some i other at)) ∙ w))
    none_waits (suc q) other at waits = none q other at waits
first_step port i inputs false w (Some x) first = first_before port i inputs x first (λ waits. absurd (true≢false (sym waits ∙ w)))
first_step port i inputs true w None none = first_here port i inputs w (λ q p other is at waits. absurd (none q other at waits))
first_step port i inputs true w (Some x) first = first_choice port i inputs x w first (nat_lt x.input.reader.frame.time i.reader.frame.time) refl

next_is_first : (port : ℕ) (inputs : List Input) → IsFirstIf port inputs (next_from port inputs)
next_is_first port [] = λ q other at waits. let lt = slice_get_within [] q other at in omega arith
next_is_first port (i ∷ inputs) = first_step port i inputs i.waits refl (next_from (port + 1) inputs) (next_is_first (port + 1) inputs)

same_waiting : (x : Waiting) (port : ℕ) (input : Input) → x.port ≡ port → x.input ≡ input → x ≡ record { port = port; input = input }
same_waiting x port input p i = ap (λ (k : ℕ). record { port = k; input = x.input }) p ∙ ap (λ (there : Input). record { port = port; input = there }) i

-- the frame that comes first is the next one
first_is_next : (inputs : List Input) (a : Arrival) (next : IsNext inputs a) (o : Option Waiting) → IsFirstIf 0 inputs o
    → o ≡ Some (record { port = a.port; input = next.input })
first_is_next inputs a next None none = absurd (none a.port next.input next.at next.waits)
first_is_next inputs a next (Some x) first =
    let place : first.place ≡ x.port = (let e = first.is in omega arith) in
    let at : slice_get inputs x.port ≡ Some x.input = ap (λ k. slice_get inputs k) (sym place) ∙ first.at in
    let is_next : IsNext inputs (arrival x) = record {
      input = x.input;
      at = at;
      waits = first.waits;
      frame = refl;
      least = λ port other here waits. first.least port port other (omega arith) here waits;
    } in
    let port : x.port ≡ a.port = one_next is_next next in
    let input : x.input ≡ next.input = same_Some x.input next.input (sym at ∙ (ap (λ k. slice_get inputs k) port ∙ next.at)) in
    ap (λ (w : Waiting). Some w) (same_waiting x a.port next.input port input)

over_next_is : {inputs : List Input} {a : Arrival} (next : IsNext inputs a) (bytes : List ℕ)
    → over_next inputs bytes ≡ set inputs a.port (over_input next.input bytes)
over_next_is {inputs} {a} next bytes =
    ap (λ (o : Option Waiting). over_waiting inputs o bytes) (first_is_next inputs a next (next_from 0 inputs) (next_is_first 0 inputs))

-- ---- what is left where its bytes are changed

-- the input at its port is the one whose frame is next
pub next_input_is : {inputs : List Input} {a b : Arrival} (next : IsNext inputs a) (x : Input) → IsNext inputs b → slice_get inputs b.port ≡ Some x
    → x ≡ next.input
next_input_is {inputs} {a} {b} next x there at =
    same_Some x next.input (sym at ∙ (ap (λ k. slice_get inputs k) (one_next there next) ∙ next.at))

-- the bytes of that input's frame
pub next_bytes : {inputs : List Input} {a b : Arrival} (x : Input) → IsNext inputs b → slice_get inputs b.port ≡ Some x → IsNext inputs a
    → x.reader.frame.bytes ≡ a.frame.bytes
next_bytes x there at next =
    ap (λ (i : Input). i.reader.frame.bytes) (next_input_is next x there at) ∙ ap (λ (f : Framed). f.bytes) (sym next.frame)

pub lent_next : {inputs : List Input} {a : Arrival} (x : Input) (bytes : List ℕ) → IsNext inputs a → slice_get inputs a.port ≡ Some x
    → set inputs a.port (over_input x bytes) ≡ over_next inputs bytes
lent_next {inputs} {a} x bytes next at =
    ap (λ (i : Input). set inputs a.port (over_input i bytes)) (next_input_is next x next at) ∙ sym (over_next_is next bytes)

-- whatever is written, the inputs stay sound
pub inputs-written : {inputs : List Input} {port : ℕ} (x : Input) (bytes : List ℕ) → port < length inputs → slice_get inputs port ≡ Some x
    → AreInputs inputs → AreInputs (set inputs port (over_input x bytes))
inputs-written {inputs} {port} x bytes lt at are = record {
  few = omega (arith, are.few, length-set inputs port (over_input x bytes));
  apart = apart-set (over_input x bytes) lt at refl are.apart;
  sound = All-set IsSound inputs port (over_input x bytes)
      (λ waits. let last = All-at_place IsSound inputs port x are.sound at waits in record {
        fits = record { early = last.fits.early; original = last.fits.original; short = rw (length-over x.reader.frame.bytes bytes) last.fits.short };
        time = last.time;
      }) are.sound;
}

-- where as many bytes are written as there were, the frame has these
pub written_next : {inputs : List Input} {a : Arrival} (bytes : List ℕ) → IsNext inputs a → length bytes ≡ length a.frame.bytes
    → IsWritten inputs (over_next inputs bytes) a bytes
written_next {inputs} {a} bytes next same =
    let input = next.input in
    let now : Input = record input { reader = record input.reader { frame = record a.frame { bytes = bytes } } } in
    let whole : over input.reader.frame.bytes bytes ≡ bytes = over_whole input.reader.frame.bytes bytes
    (same ∙ ap (λ (f : Framed). length f.bytes) next.frame) in
    let is : over_input input bytes ≡ now =
    ap (λ (w : List ℕ). record input { reader = record input.reader { frame = record input.reader.frame { bytes = w } } }) whole
    ∙ ap (λ (f : Framed). record input { reader = record input.reader { frame = record f { bytes = bytes } } }) (sym next.frame) in
    let lt = slice_get_within inputs a.port input next.at in
    let changed : IsChanged inputs (set inputs a.port now) a = record {
      next = next;
      ports = length-set inputs a.port now;
      others = λ port ne. slice_get-set_other inputs a.port port now ne;
      bytes = λ x at. (
        bytes,
        same,
        slice_get-set_same inputs a.port now lt
            ∙ ap (λ (i : Input). Some (record i { reader = record i.reader { frame = record a.frame { bytes = bytes } } }))
            (same_Some input x (sym next.at ∙ at)),
      );
    } in
    let all : over_next inputs bytes ≡ set inputs a.port now = over_next_is next bytes ∙ ap (set inputs a.port) is in
    rw all (record { changed = changed; next = still_next changed })

-- where the bytes of the next frame are changed, the files stay as they are
pub readable_changed : (s : Disk) {came now : List Input} {a : Arrival} → IsChanged came now a → AreReadable s came → AreReadable s now
readable_changed s {came} {now} {a} changed readable =
    All-from_places (λ (i : Input). IsReadable s i.reader.id) now
    (λ port x at. ⊎_elim
    (λ (e : port ≡ a.port).
    let input = changed.next.input in
    let there : slice_get now a.port ≡ Some x = ap (λ k. slice_get now k) (sym e) ∙ at in
    let is = same_Some _ x (sym (changed.bytes input changed.next.at).2 ∙ there) in
    subst (λ (i : Input). IsReadable s i.reader.id) is (All-at_place (λ (i : Input). IsReadable s i.reader.id) came a.port input readable changed.next.at))
    (λ (ne : port ≢ a.port). All-at_place (λ (i : Input). IsReadable s i.reader.id) came port x readable (sym (changed.others port ne) ∙ at))
    (cases_eq port a.port))

-- and so are their ids
pub ids_changed : {came now : List Input} {a : Arrival} → IsChanged came now a → ids_of now ≡ ids_of came
ids_changed {came} {now} {a} changed =
    filter_map-same (λ (i : Input). i.reader.id) now came changed.ports
    (λ port x y at_now at_came. ⊎_elim
    (λ (e : port ≡ a.port).
    let input = changed.next.input in
    let there : slice_get now a.port ≡ Some x = ap (λ k. slice_get now k) (sym e) ∙ at_now in
    let before : slice_get came a.port ≡ Some y = ap (λ k. slice_get came k) (sym e) ∙ at_came in
    let is = same_Some _ x (sym (changed.bytes input changed.next.at).2 ∙ there) in
    let was : input ≡ y = same_Some input y (sym changed.next.at ∙ before) in
    sym (ap (λ (i : Input). i.reader.id) is) ∙ ap (λ (i : Input). i.reader.id) was)
    (λ (ne : port ≢ a.port). ap (λ (i : Input). i.reader.id) (same_Some x y (sym at_now ∙ (changed.others port ne ∙ at_came))))
    (cases_eq port a.port))
