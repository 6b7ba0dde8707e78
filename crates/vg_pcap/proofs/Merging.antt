-- One frame after another comes in the one order.
use Rattle.std.proofs.Common.{◌≡◌, ◌≢◌, ℕ, zero, suc, ◌+◌, ◌<◌, ◌≤◌, ◌⊎◌, inl, inr, ⊎_elim, le_of_eq, refl, ◌∙◌, sym, ap, subst, List, [], ◌∷◌, ◌++◌}
use Rattle.std.proofs.Common.{length, set, get_or, All, Contains, slice_get, if◌then◌else◌, Bool, true, false, Ok, Err, Some, None, Option, IfSome}
use Rattle.std.proofs.Common.{IfNone, arith, length-set, append_assoc, true≢false, get_or-set_same, get_or-set_other}
use Rattle.std.proofs.lemmas.Bool.{cases_eq, cases_lt}
use Rattle.std.proofs.lemmas.List.{get_or_past, length_push}
use Rattle.std.proofs.lemmas.List.Elements.{All-push, All-contains, Contains-append_cases}
use Rattle.std.proofs.lemmas.List.Quantifiers.{all_pairs_push}
use Rattle.std.proofs.lemmas.Option.{same_Some, slice_get_within}
use Rattle.vg_base.specs.Files.{Disk}
use Rattle.vg_pcap.specs.declared.faults.CaptureFault.{CaptureFault}
use Rattle.vg_pcap.specs.declared.faults.CaptureFault.TheVariants as faults
use Rattle.vg_pcap.specs.declared.faults.Damage.{Damage}
use Rattle.vg_pcap.specs.Captures.{Whole, Refused}
use Rattle.vg_pcap.specs.Frames.{Framed, Stream, Fits}
use Rattle.vg_pcap.specs.Arrivals.{Arrival, no_frames, stream_at, frames_from, Precedes, ComeFirst, AllCome, ComeUpTo}
use Rattle.vg_pcap.specs.Incoming.{fault_of}
use Rattle.vg_pcap.specs.Reader.{StillComes, number_after}
use Rattle.vg_pcap.specs.Merge.{Input, InputComes, IsNext, IsChanged, Comes, RefusesRecord, Advances, NoneEarlier, waiting_at, waiting_count}
use Rattle.vg_pcap.specs.Inputs.{IsSound, IsLastFrame, RefillsAt, IsLeastBelow}
use Rattle.vg_pcap.proofs.Arriving.{frames_from-push_same, frames_from-push_other, EndsAt-push, no_later, All-at_place, All-from_places}
use Rattle.vg_pcap.proofs.Staying.{InputComes-stays}
use Rattle.vg_pcap.proofs.Ports.{at_refilled, other_id, reads_one, reads_refused}

-- the frame of an input, where it waits, is no earlier than this time
abbrev pub IsNoEarlier : ℕ → Input → Type 0
IsNoEarlier time input = input.waits ≡ true → time ≤ input.reader.frame.time

-- ---- the order of frames

-- what comes no later than a frame comes no later than one after it
pub Precedes-later : (a : Arrival) (port : ℕ) (f g : Framed) → Precedes a (record { port = port; frame = f }) → f.time ≤ g.time
    → Precedes a (record { port = port; frame = g })
Precedes-later a port f g first later =
    ⊎_elim
    (λ (lt : a.frame.time < f.time). inl (omega arith))
    (λ (e : (a.frame.time ≡ f.time) × (a.port ≤ port)).
    let at = e.0 in
    let low = e.1 in
    ⊎_elim
    (λ (lt : a.frame.time < g.time). inl lt)
    (λ (ge : g.time ≤ a.frame.time). let same : a.frame.time ≡ g.time = omega arith in inr (same, low))
    (cases_lt a.frame.time g.time))
    first

-- nothing is before a port that there isn't
pub past_ports : (left : List Stream) (port : ℕ) → length left ≤ port → stream_at left port ≡ no_frames
past_ports left port past = get_or_past left port no_frames past

none_in_empty : (f : Framed) → Contains {X = Framed} [] f → ⊥
none_in_empty f h = let lt = h.1 in omega arith

only_one : (f g : Framed) → Contains (g ∷ []) f → g ≡ f
only_one f g h =
    let lt = h.1 in
    let zero_at : h.0 ≡ 0 = omega arith in
    sym (ap (λ k. get_or (g ∷ []) k f) zero_at) ∙ h.2

pub in_cons : (f g : Framed) (rest : List Framed) → Contains (g ∷ rest) f → (g ≡ f) ⊎ Contains rest f
in_cons f g rest h =
    ⊎_elim (λ one. inl (only_one f g one)) (λ more. inr more) (Contains-append_cases (g ∷ []) rest f h)

pub in_tail : (f g : Framed) (rest : List Framed) → Contains rest f → Contains (g ∷ rest) f
in_tail f g rest h = let lt = h.1 in (suc h.0, omega arith, h.2)

pub at_head : (g : Framed) (rest : List Framed) → Contains (g ∷ rest) g
at_head g rest = (0, omega arith, refl)

-- one more arrival, which is the first that is left of its port, and before which none is left
pub ComeFirst-more : {streams left : List Stream} {past : List Arrival} (a : Arrival) (rest : List Framed) →
    ComeFirst streams past left → a.port < length left → (stream_at left a.port).frames ≡ a.frame ∷ rest →
    ((port : ℕ) (f : Framed) → Contains (stream_at left port).frames f → Precedes a (record { port = port; frame = f })) →
    ComeFirst streams (past ++ a ∷ []) (set left a.port (record { frames = rest; end = (stream_at left a.port).end }))
ComeFirst-more {streams} {left} {past} a rest first lt head least =
    let now : Stream = record { frames = rest; end = (stream_at left a.port).end } in
    let at_port : stream_at (set left a.port now) a.port ≡ now = get_or-set_same left a.port now no_frames lt in
    let elsewhere : (port : ℕ) → port ≢ a.port → stream_at (set left a.port now) port ≡ stream_at left port =
    λ port ne. get_or-set_other left a.port port now no_frames ne in
    let within : (port : ℕ) (f : Framed) → Contains (stream_at (set left a.port now) port).frames f → Contains (stream_at left port).frames f =
    λ port f h. ⊎_elim
    (λ (e : port ≡ a.port).
    let there : Contains rest f = subst (λ (s : Stream). Contains s.frames f) (ap (λ k. stream_at (set left a.port now) k) e ∙ at_port) h in
    subst (λ (k : ℕ). Contains (stream_at left k).frames f) (sym e) (subst (λ (fs : List Framed). Contains fs f) (sym head) (in_tail f a.frame rest there)))
    (λ (ne : port ≢ a.port). subst (λ (s : Stream). Contains s.frames f) (elsewhere port ne) h)
    (cases_eq port a.port) in
    record {
      ports = length-set left a.port now ∙ first.ports;
      in_turn = λ port. ⊎_elim
          (λ (e : port ≡ a.port).
          subst (λ (k : ℕ). (stream_at streams k).frames ≡ frames_from k (past ++ a ∷ []) ++ (stream_at (set left a.port now) k).frames) (sym e)
          (first.in_turn a.port ∙ (ap (λ l. frames_from a.port past ++ l) head ∙ (sym (append_assoc (frames_from a.port past) (a.frame ∷ []) rest)
          ∙ (ap (λ l. l ++ rest) (sym (frames_from-push_same a past)) ∙ ap (λ (s : Stream). frames_from a.port (past ++ a ∷ []) ++ s.frames) (sym at_port))))))
          (λ (ne : port ≢ a.port).
          first.in_turn port ∙ (ap (λ l. l ++ (stream_at left port).frames) (sym (frames_from-push_other port a past (λ e. ne (sym e))))
          ∙ ap (λ (s : Stream). frames_from port (past ++ a ∷ []) ++ s.frames) (sym (elsewhere port ne))))
          (cases_eq port a.port);
      ends = λ port. ⊎_elim
          (λ (e : port ≡ a.port).
          subst (λ (k : ℕ). (stream_at (set left a.port now) k).end ≡ (stream_at streams k).end) (sym e)
          (ap (λ (s : Stream). s.end) at_port ∙ first.ends a.port))
          (λ (ne : port ≢ a.port). ap (λ (s : Stream). s.end) (elsewhere port ne) ∙ first.ends port)
          (cases_eq port a.port);
      of_ports = All-push (λ x. x.port < length streams) past a first.of_ports (omega (arith, first.ports));
      ordered = all_pairs_push Precedes past a first.ordered
          (first.before a.port a.frame (subst (λ (fs : List Framed). Contains fs a.frame) (sym head) (at_head a.frame rest)));
      before = λ port f h. All-push (λ x. Precedes x (record { port = port; frame = f })) past a (first.before port f (within port f h))
          (least port f (within port f h));
    }

-- ---- what comes next

-- the input at a port
pub input_at : (inputs : List Input) (port : ℕ) → port < length inputs → (input : Input) × (slice_get inputs port ≡ Some input)
input_at [] port lt = absurd (omega arith)
input_at (x ∷ xs) zero lt = (x, refl)
input_at (x ∷ xs) (suc port) lt = input_at xs port (omega arith)

-- a frame that waits is its reader's last one, also where its bytes have been changed
pub waits_last : {came old : List Input} {a : Arrival} → IsChanged came old a → All IsSound old → (port : ℕ) (input : Input)
    → slice_get came port ≡ Some input → input.waits ≡ true →
    input.reader.frame.time ≡ input.reader.latest
waits_last {came} {old} {a} changed sound port input at waits =
    ⊎_elim
    (λ (e : port ≡ a.port).
    let here : slice_get came a.port ≡ Some input = ap (λ k. slice_get came k) (sym e) ∙ at in
    let now = changed.bytes input here in
    let same : changed.next.input ≡ input = same_Some changed.next.input input (sym changed.next.at ∙ here) in
    let last : IsLastFrame (record input.reader { frame = record a.frame { bytes = now.0 } }) =
    All-at_place IsSound old a.port (record input { reader = record input.reader { frame = record a.frame { bytes = now.0 } } }) sound now.2 waits
    in
    ap (λ (f : Framed). f.time) (ap (λ (i : Input). i.reader.frame) (sym same) ∙ sym changed.next.frame) ∙ last.time)
    (λ (ne : port ≢ a.port). (All-at_place IsSound old port input sound (changed.others port ne ∙ at) waits).time)
    (cases_eq port a.port)

-- where nothing is left at a port there is no frame
not_past : (left : List Stream) (port : ℕ) (f : Framed) → Contains (stream_at left port).frames f → port < length left
not_past left port f h =
    ⊎_elim
    (λ lt. lt)
    (λ past. absurd (none_in_empty f (subst (λ (s : Stream). Contains s.frames f) (past_ports left port past) h)))
    (cases_lt port (length left))

-- of a stream that is still to come no frame is earlier than the one that waits
pub least_of_all : {s : Disk} {inputs : List Input} (left : List Stream) (a : Arrival) → IsNext inputs a → length inputs ≡ length left →
    ((port : ℕ) (input : Input) → slice_get inputs port ≡ Some input → InputComes s input (stream_at left port)) →
    ((port : ℕ) (input : Input) → slice_get inputs port ≡ Some input → input.waits ≡ true → input.reader.frame.time ≡ input.reader.latest) →
    (port : ℕ) (f : Framed) → Contains (stream_at left port).frames f → Precedes a (record { port = port; frame = f })
least_of_all {s} {inputs} left a next ports still last port f h =
    let within : port < length inputs = (let lt = not_past left port f h in omega arith) in
    let here = input_at inputs port within in
    at_input here.0 here.1 here.0.waits refl
  where
    at_input : (input : Input) → slice_get inputs port ≡ Some input → (waits : Bool) → input.waits ≡ waits → Precedes a (record { port = port; frame = f })
    at_input input at false w = absurd (none_in_empty f (subst (λ (fs : List Framed). Contains fs f) ((still port input at).ended w).0 h))
    at_input input at true w =
        let comes = (still port input at).waiting w in
        let first : Precedes a (waiting_at port input) = next.least port input at w in
        ⊎_elim
        (λ (e : input.reader.frame ≡ f). subst (λ (g : Framed). Precedes a (record { port = port; frame = g })) e first)
        (λ (more : Contains comes.0 f).
        let later : input.reader.latest ≤ f.time = All-contains (λ g. input.reader.latest ≤ g.time) comes.0 f
        (subst (All (λ g. input.reader.latest ≤ g.time)) (sym comes.2.frames) (no_later input.reader.encoding input.reader.latest
        comes.2.records)) more in
        let time = last port input at w in
        Precedes-later a port input.reader.frame f first (omega arith))
        (in_cons f input.reader.frame comes.0 (subst (λ (fs : List Framed). Contains fs f) comes.1 h))

-- ---- one frame handled, and the next record of its port read or refused

-- what is known where a frame is handled
record Handled (s : Disk) (old : List Input) (streams : List Stream) (past : List Arrival) (a : Arrival) (was : Input) : Type 0 where
  left : List Stream
  rest : List Framed
  within : a.port < length left
  head : (stream_at left a.port).frames ≡ a.frame ∷ rest
  first : ComeFirst streams (past ++ a ∷ []) (set left a.port (record { frames = rest; end = (stream_at left a.port).end }))
  ports : length old ≡ length streams
  turn : (stream_at streams a.port).frames ≡ frames_from a.port past ++ a.frame ∷ rest
  still : StillComes s was.reader (record { frames = rest; end = (stream_at left a.port).end })
  others : (port : ℕ) (input : Input) → port ≢ a.port → slice_get old port ≡ Some input → InputComes s input (stream_at left port)
  count : number_after was.reader.count ≡ number_after (length (frames_from a.port past) + 1)
  counts : (port : ℕ) (input : Input) → port ≢ a.port → slice_get old port ≡ Some input →
      number_after input.reader.count ≡ number_after (length (frames_from port past) + waiting_count input)

one_waits : (count len : ℕ) (waits : Bool) → waits ≡ true → number_after count ≡ number_after (len + (if waits then 1 else 0))
    → number_after count ≡ number_after (len + 1)
one_waits count len true w e = e
one_waits count len false w e = absurd (true≢false (sym w))

handled : {s : Disk} {came old : List Input} {streams : List Stream} {past : List Arrival} {a : Arrival} {was : Input} → IsChanged came old a
    → All IsSound old → slice_get old a.port ≡ Some was → Comes s came streams past → Handled s old streams past a was
handled {s} {came} {old} {streams} {past} {a} {was} changed sound at comes =
    let input = changed.next.input in
    let here = comes.still a.port input changed.next.at in
    let w = here.waiting changed.next.waits in
    let left = comes.left in
    let within : a.port < length left = omega (arith, slice_get_within came a.port input changed.next.at, comes.ports, comes.first.ports) in
    let head : (stream_at left a.port).frames ≡ a.frame ∷ w.0 = w.1 ∙ ap (λ f. f ∷ w.0) (sym changed.next.frame) in
    let bytes = changed.bytes input changed.next.at in
    let is : record input { reader = record input.reader { frame = record a.frame { bytes = bytes.0 } } } ≡ was = same_Some _ was (sym bytes.2 ∙ at) in
    let least = least_of_all left a changed.next (comes.ports ∙ sym comes.first.ports) comes.still (waits_last changed sound) in
    let changed_still : StillComes s (record input.reader { frame = record a.frame { bytes = bytes.0 } })
    (record { frames = w.0; end = (stream_at left a.port).end }) = record {
      told = w.2.told;
      bytes = w.2.bytes;
      before = w.2.before;
      records = w.2.records;
      are = w.2.are;
      frames = w.2.frames;
    } in
    let here_count : number_after input.reader.count ≡ number_after (length (frames_from a.port past) + 1) =
    one_waits input.reader.count (length (frames_from a.port past)) input.waits changed.next.waits (comes.counts a.port input changed.next.at) in
    record {
      left = left;
      rest = w.0;
      within = within;
      head = head;
      first = ComeFirst-more a w.0 comes.first within head least;
      ports = changed.ports ∙ comes.ports;
      turn = comes.first.in_turn a.port ∙ ap (λ l. frames_from a.port past ++ l) head;
      still = subst (λ (i : Input). StillComes s i.reader (record { frames = w.0; end = (stream_at left a.port).end })) is changed_still;
      others = λ port i ne there. comes.still port i (sym (changed.others port ne) ∙ there);
      count = subst (λ (i : Input). number_after i.reader.count ≡ number_after (length (frames_from a.port past) + 1)) is here_count;
      counts = λ port i ne there. comes.counts port i (sym (changed.others port ne) ∙ there);
    }

number_after-more : (count was len waits : ℕ) → number_after count ≡ number_after (was + waits) → number_after was ≡ number_after (len + 1)
    → number_after count ≡ number_after (len + 1 + waits)
number_after-more count was len waits now before = omega arith

-- the next record was read
pub Comes-more : {s t : Disk} {came old new : List Input} {streams : List Stream} {past : List Arrival} {a : Arrival} → IsChanged came old a
    → All IsSound old → Comes s came streams past → RefillsAt s t old new a.port (Ok tt) → Comes t new streams (past ++ a ∷ [])
Comes-more {s} {t} {came} {old} {new} {streams} {past} {a} changed sound comes r =
    let h = handled changed sound r.was_at comes in
    let now : Stream = record { frames = h.rest; end = (stream_at h.left a.port).end } in
    let left : List Stream = set h.left a.port now in
    record {
      left = left;
      first = h.first;
      ports = r.ports ∙ h.ports;
      still = λ port input at. ⊎_elim
          (λ (e : (port ≡ a.port) × (input ≡ r.now)).
          let here : stream_at left a.port ≡ now = get_or-set_same h.left a.port now no_frames h.within in
          subst (λ (k : ℕ). InputComes t input (stream_at left k)) (sym e.0)
          (subst (λ (st : Stream). InputComes t input st) (sym here) (subst (λ (i : Input). InputComes t i now) (sym e.1) (r.refills.comes now h.still))))
          (λ (e : (port ≢ a.port) × (slice_get old port ≡ Some input)).
          subst (λ (st : Stream). InputComes t input st) (sym (get_or-set_other h.left a.port port now no_frames e.0))
          (InputComes-stays (h.others port input e.0 e.1) r.refills.keeps.held.tells_held r.refills.keeps.held.held
          (other_id r.inputs.apart r.was_at r.refills port input e.0 e.1)))
          (at_refilled r port input at);
      counts = λ port input at. ⊎_elim
          (λ (e : (port ≡ a.port) × (input ≡ r.now)).
          let long : length (frames_from a.port (past ++ a ∷ [])) ≡ length (frames_from a.port past) + 1 = ap length (frames_from-push_same a past)
          ∙ length_push (frames_from a.port past) a.frame in
          let here : number_after r.now.reader.count ≡ number_after (length (frames_from a.port past) + 1 + waiting_count r.now) =
          number_after-more r.now.reader.count r.was.reader.count (length (frames_from a.port past)) (waiting_count r.now) r.refills.counts h.count in
          subst (λ (k : ℕ). number_after input.reader.count ≡ number_after (length (frames_from k (past ++ a ∷ [])) + waiting_count input)) (sym e.0)
          (subst (λ (i : Input). number_after i.reader.count ≡ number_after (length (frames_from a.port (past ++ a ∷ [])) + waiting_count i)) (sym e.1)
          (subst (λ (n : ℕ). number_after r.now.reader.count ≡ number_after (n + waiting_count r.now)) (sym long) here)))
          (λ (e : (port ≢ a.port) × (slice_get old port ≡ Some input)).
          subst (λ (fs : List Framed). number_after input.reader.count ≡ number_after (length fs + waiting_count input))
          (sym (frames_from-push_other port a past (λ q. e.0 (sym q)))) (h.counts port input e.0 e.1))
          (at_refilled r port input at);
    }

-- where a stream is still to come, no refused record is next
pub no_damage : {s : Disk} {input : Input} {stream : Stream} {damage : Damage} → InputComes s input stream → stream.frames ≡ []
    → stream.end ≡ Refused damage → ⊥
no_damage {s} {input} {stream} {damage} comes none refused = by input.waits refl
  where
    by : (waits : Bool) → input.waits ≡ waits → ⊥
    by true w = let here = (comes.waiting w).1 in cc
    by false w = let here = (comes.ended w).1 in cc

-- nor where there is no port
pub no_damage_past : (left : List Stream) (port : ℕ) (damage : Damage) → length left ≤ port → (stream_at left port).end ≡ Refused damage → ⊥
no_damage_past left port damage past refused = let none = ap (λ (st : Stream). st.end) (past_ports left port past) in cc

number-after_all : (count len all : ℕ) → number_after count ≡ number_after (len + 1) → all ≡ len + 1 → number_after count ≡ number_after all
number-after_all count len all e is = e ∙ ap number_after (sym is)

-- the next record is refused
pub refuses_more : {s t : Disk} {came old new : List Input} {streams : List Stream} {past : List Arrival} {a : Arrival} {fault : CaptureFault}
    → IsChanged came old a → All IsSound old → Comes s came streams past → RefillsAt s t old new a.port (Err fault) →
    RefusesRecord streams (past ++ a ∷ []) (record { port = a.port; fault = fault })
refuses_more {s} {t} {came} {old} {new} {streams} {past} {a} {fault} changed sound comes r =
    let h = handled changed sound r.was_at comes in
    let now : Stream = record { frames = h.rest; end = (stream_at h.left a.port).end } in
    let left : List Stream = set h.left a.port now in
    let here : stream_at left a.port ≡ now = get_or-set_same h.left a.port now no_frames h.within in
    let same_ports : length old ≡ length h.left = (let l = h.first.ports in let m = h.ports in let n = length-set h.left a.port now in omega arith) in
    ⊎_elim
    (λ (read : fault ≡ faults.Read). inl read)
    (λ (refused : (h.rest ≡ []) × (damage : Damage) × (now.end ≡ Refused damage) × (fault ≡ fault_of damage (number_after r.was.reader.count))).
    let all : length (stream_at streams a.port).frames ≡ length (frames_from a.port past) + 1 =
    ap length (h.turn ∙ ap (λ l. frames_from a.port past ++ a.frame ∷ l) refused.0) ∙ length_push (frames_from a.port past) a.frame in
    let number : number_after r.was.reader.count ≡ number_after (length (stream_at streams a.port).frames) =
    number-after_all r.was.reader.count (length (frames_from a.port past)) (length (stream_at streams a.port).frames) h.count all in
    let upto : ComeUpTo streams (past ++ a ∷ []) a.port refused.1 = record {
      left = left;
      first = h.first;
      is_port = (let w = h.within in let l = h.first.ports in let n = length-set h.left a.port now in omega arith);
      at_damage = record {
        none_left = ap (λ (st : Stream). st.frames) here ∙ refused.0;
        refused = ap (λ (st : Stream). st.end) here ∙ refused.2;
      };
      right_after = EndsAt-push a past;
      no_other = λ other d at. ⊎_elim
          (λ (e : other ≡ a.port). inl e)
          (λ (ne : other ≢ a.port).
          let there : stream_at left other ≡ stream_at h.left other = get_or-set_other h.left a.port other now no_frames ne in
          let none : (stream_at h.left other).frames ≡ [] = ap (λ (st : Stream). st.frames) (sym there) ∙ at.none_left in
          let end : (stream_at h.left other).end ≡ Refused d = ap (λ (st : Stream). st.end) (sym there) ∙ at.refused in
          absurd (⊎_elim
          (λ (lt : other < length old). let i = input_at old other lt in no_damage (h.others other i.0 ne i.1) none end)
          (λ (past_all : length old ≤ other). no_damage_past h.left other d (omega arith) end)
          (cases_lt other (length old))))
          (cases_eq other a.port);
    } in
    inr (refused.1, refused.3 ∙ ap (fault_of refused.1) number, upto))
    (r.refills.refused now h.still)

-- ---- the port of the next frame

pub Precedes-antisym : (a b : Arrival) → Precedes a b → Precedes b a → a.port ≡ b.port
Precedes-antisym a b (inl lt) (inl gt) = absurd (omega arith)
Precedes-antisym a b (inl lt) (inr ge) = let time = ge.0 in absurd (omega arith)
Precedes-antisym a b (inr le) (inl gt) = let time = le.0 in absurd (omega arith)
Precedes-antisym a b (inr le) (inr ge) = let low = le.1 in let high = ge.1 in omega arith

-- there is one next port
pub one_next : {inputs : List Input} {a b : Arrival} → IsNext inputs a → IsNext inputs b → a.port ≡ b.port
one_next {inputs} {a} {b} x y =
    let first : Precedes a (waiting_at b.port y.input) = x.least b.port y.input y.at y.waits in
    let second : Precedes b (waiting_at a.port x.input) = y.least a.port x.input x.at x.waits in
    let first-2 : Precedes a b = subst (λ (f : Framed). Precedes a (record { port = b.port; frame = f })) (sym y.frame) first in
    let second-2 : Precedes b a = subst (λ (f : Framed). Precedes b (record { port = a.port; frame = f })) (sym x.frame) second in
    Precedes-antisym a b first-2 second-2

-- where the bytes of the next frame are changed, it is still next
pub still_next : {came old : List Input} {a : Arrival} (changed : IsChanged came old a) →
    IsNext old (record { port = a.port; frame = record a.frame { bytes = (changed.bytes changed.next.input changed.next.at).0 } })
still_next {came} {old} {a} changed =
    let bytes = changed.bytes changed.next.input changed.next.at in
    let now : Input = record changed.next.input { reader = record changed.next.input.reader { frame = record a.frame { bytes = bytes.0 } } } in
    record {
      input = now;
      at = bytes.2;
      waits = changed.next.waits;
      frame = refl;
      least = λ port other at waits. ⊎_elim
          (λ (e : port ≡ a.port).
          let is : now ≡ other = same_Some now other (sym bytes.2 ∙ (ap (λ k. slice_get old k) (sym e) ∙ at)) in
          inr (ap (λ (i : Input). i.reader.frame.time) is, le_of_eq (sym e)))
          (λ (ne : port ≢ a.port). changed.next.least port other (sym (changed.others port ne) ∙ at) waits)
          (cases_eq port a.port);
    }

-- and the next port stays
pub same_next : {came old : List Input} {a b : Arrival} → IsChanged came old a → IsNext old b → a.port ≡ b.port
same_next changed next = one_next (still_next changed) next

-- ---- the calls

-- a frame that comes after the next one of its port is no earlier
still_later : {s t : Disk} {old new : List Input} {b : Arrival} → IsNext old b → RefillsAt s t old new b.port (Ok tt) → (time : ℕ)
    → NoneEarlier time old → NoneEarlier time new
still_later {s} {t} {old} {new} {b} next r time none =
    let is : next.input ≡ r.was = same_Some next.input r.was (sym next.at ∙ r.was_at) in
    let waited : r.was.waits ≡ true = ap (λ (i : Input). i.waits) (sym is) ∙ next.waits in
    let last = All-at_place IsSound old b.port r.was r.inputs.sound r.was_at waited in
    let before = All-at_place (IsNoEarlier time) old b.port r.was none r.was_at waited in
    All-from_places (IsNoEarlier time) new
    (λ p x here. ⊎_elim
    (λ (e : (p ≡ b.port) × (x ≡ r.now)). subst (IsNoEarlier time) (sym e.1) (λ waits. let later = r.refills.later waits in omega (arith, last.time, before, later)))
    (λ (e : (p ≢ b.port) × (slice_get old p ≡ Some x)). All-at_place (IsNoEarlier time) old p x none e.1)
    (at_refilled r p x here))

-- the next record of the next port was read
pub advanced : {s t : Disk} {old new : List Input} {b : Arrival} → IsNext old b → RefillsAt s t old new b.port (Ok tt) → Advances s t old new (Ok tt)
advanced {s} {t} {old} {new} {b} next r = record {
  reads = reads_one r;
  comes = λ came streams past a changed comes. Comes-more changed r.inputs.sound comes (subst (λ (k : ℕ). RefillsAt s t old new k (Ok tt))
      (sym (same_next changed next)) r);
  refused = λ came streams past a changed comes. tt;
  fault = tt;
  port = λ a is. tt;
  later = λ time none. still_later next r time none;
}

-- it is refused
pub advance_refused : {s t : Disk} {old new : List Input} {b : Arrival} {fault : CaptureFault} → IsNext old b
    → RefillsAt s t old new b.port (Err fault) → Advances s t old new (Err (record { port = b.port; fault = fault }))
advance_refused {s} {t} {old} {new} {b} {fault} next r = record {
  reads = reads_refused r;
  comes = λ came streams past a changed comes. tt;
  refused = λ came streams past a changed comes.
      let same = same_next changed next in
      subst (λ (k : ℕ). RefusesRecord streams (past ++ a ∷ []) (record { port = k; fault = fault })) same
      (refuses_more changed r.inputs.sound comes (subst (λ (k : ℕ). RefillsAt s t old new k (Err fault)) (sym same) r));
  fault = ⊎_elim (λ read. inl read) (λ (d : (damage : Damage) × (fault ≡ fault_of damage (number_after r.was.reader.count))). inr
      (d.0, number_after r.was.reader.count, d.1)) r.refills.fault;
  port = λ a is. one_next next is;
  later = λ time none. tt;
}

-- no frame waits, and so all have come
pub all_come : {s : Disk} {inputs : List Input} {streams : List Stream} {past : List Arrival} → All (λ input. input.waits ≡ false) inputs
    → Comes s inputs streams past → AllCome streams past
all_come {s} {inputs} {streams} {past} none comes =
    let same_ports : length inputs ≡ length comes.left = comes.ports ∙ sym comes.first.ports in
    let ended : (port : ℕ) → ((stream_at comes.left port).frames ≡ []) × ((stream_at comes.left port).end ≡ Whole) =
    λ port. ⊎_elim
    (λ (lt : port < length inputs). let i = input_at inputs port lt in (comes.still port i.0 i.1).ended
    (All-at_place (λ (input : Input). input.waits ≡ false) inputs port i.0 none i.1))
    (λ (past_all : length inputs ≤ port). let is = past_ports comes.left port (omega arith) in
    (ap (λ (st : Stream). st.frames) is, ap (λ (st : Stream). st.end) is))
    (cases_lt port (length inputs)) in
    record {
      left = comes.left;
      first = comes.first;
      none_left = λ port. (ended port).0;
      whole = λ port. sym (comes.first.ends port) ∙ (ended port).1;
    }

-- the least of all that wait
pub next_of_all : (inputs : List Input) (port : ℕ) (next : Option ℕ) → length inputs ≤ port → IsLeastBelow inputs port next →
    IfSome next (λ p. (f : Framed) × IsNext inputs (record { port = p; frame = f }))
next_of_all inputs port None past least = tt
next_of_all inputs port (Some p) past least =
    let input = least.0 in (
      input.reader.frame,
      record {
        input = input;
        at = least.2;
        waits = least.3;
        frame = refl;
        least = λ q other at waits. let lt = slice_get_within inputs q other at in least.4 q other (omega arith) at waits;
      },
    )

pub none_of_all : (inputs : List Input) (port : ℕ) (next : Option ℕ) → length inputs ≤ port → IsLeastBelow inputs port next →
    IfNone next (All (λ input. input.waits ≡ false) inputs)
none_of_all inputs port None past least =
    All-from_places (λ (input : Input). input.waits ≡ false) inputs (λ p input at. let lt = slice_get_within inputs p input at in
    least p input (omega arith) at)
none_of_all inputs port (Some p) past least = tt

pub end_of_all : (inputs : List Input) (port : ℕ) (next : Option ℕ) → length inputs ≤ port → IsLeastBelow inputs port next →
    IfNone next ((s : Disk) (streams : List Stream) (past : List Arrival) → Comes s inputs streams past → AllCome streams past)
end_of_all inputs port None past least = λ s streams came comes. all_come (none_of_all inputs port None past least) comes
end_of_all inputs port (Some p) past least = tt

-- the next frame can be written
pub next_fits : {inputs : List Input} {a : Arrival} → All IsSound inputs → IsNext inputs a → Fits a.frame
next_fits {inputs} {a} sound next =
    subst Fits (sym next.frame) (All-at_place IsSound inputs a.port next.input sound next.at next.waits).fits

-- inputs of which nothing was changed
pub IsChanged-same : {inputs : List Input} {a : Arrival} → IsNext inputs a → IsChanged inputs inputs a
IsChanged-same {inputs} {a} next = record {
  next = next;
  ports = refl;
  others = λ port ne. refl;
  bytes = λ input at.
      let same : next.input ≡ input = same_Some next.input input (sym next.at ∙ at) in
      let frame : a.frame ≡ input.reader.frame = next.frame ∙ ap (λ (i : Input). i.reader.frame) same in (
        a.frame.bytes,
        refl,
        subst (λ (f : Framed). slice_get inputs a.port ≡ Some (record input
            { reader = record input.reader { frame = record f { bytes = f.bytes } } })) (sym frame) at,
      );
}

-- the next frame is the first of what is left
pub next_first : {inputs : List Input} {a : Arrival} → All IsSound inputs → IsNext inputs a → (s : Disk) (streams : List Stream) (past : List Arrival)
    → Comes s inputs streams past →
    (left : List Stream) × ComeFirst streams (past ++ a ∷ []) left
next_first {inputs} {a} sound next s streams past comes =
    let h = handled (IsChanged-same next) sound next.at comes in
    (set h.left a.port (record { frames = h.rest; end = (stream_at h.left a.port).end }), h.first)
