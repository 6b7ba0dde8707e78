-- What comes in under names is one thing, and so is what a replay comes to.
use Rattle.std.proofs.Common.{◌≡◌, ◌<◌, inl, inr, ◌∙◌, ℕ, List, [], ◌∷◌, zero, suc, length, slice_get, Some, refl, sym, ap, arith}
use Rattle.std.proofs.lemmas.Bool.{cases_lt}
use Rattle.std.proofs.Math.Nat.{eq-or-lt_of_le}
use Rattle.vg_base.specs.Files.{Disk}
use Rattle.vg_pcap.specs.declared.faults.Damage.{Damage}
use Rattle.vg_pcap.specs.declared.faults.HeaderField.{HeaderField}
use Rattle.vg_pcap.specs.Captures.{IsBadHeader}
use Rattle.vg_pcap.specs.Frames.{Stream, HoldsStream}
use Rattle.vg_pcap.specs.Arrivals.{Arrival, stream_at, ComeUpTo}
use Rattle.vg_pcap.specs.Incoming.{ComesIn, HasBadHeader, AllComeIn, IsFirstBadHeader}
use Rattle.vg_pcap.proofs.Laws.{HoldsStream-same, IsBadHeader-none, IsBadHeader-same}
use Rattle.vg_pcap.proofs.Orders.{AllCome-same, AllCome-whole, ComeUpTo-same, AllCome-most, ComeUpTo-most}
use Rattle.vg_replay.specs.Replays.{AreAll, AreUpTo, AreTooMany}

-- ---- lists, names and numbers

some_is : {A : Type 0} {x y : A} → Some x ≡ Some y → x ≡ y
some_is e = cc

place_of : {A : Type 0} (xs : List A) (i : ℕ) → i < length xs → (x : A) × (slice_get xs i ≡ Some x)
place_of [] i within = absurd (omega (arith, within))
place_of (x ∷ xs) zero within = (x, refl)
place_of (x ∷ xs) (suc i) within = place_of xs i (omega (arith, within))

same_list : (a b : List Stream) → length a ≡ length b → ((port : ℕ) → port < length a → stream_at a port ≡ stream_at b port) → a ≡ b
same_list [] [] long same = refl
same_list [] (y ∷ b) long same = absurd (omega (arith, long))
same_list (x ∷ a) [] long same = absurd (omega (arith, long))
same_list (x ∷ a) (y ∷ b) long same =
    let first : x ≡ y = same 0 (omega arith) in
    let rest : a ≡ b = same_list a b (omega (arith, long)) (λ port within. same (suc port) (omega (arith, within))) in
    rw (first, rest) refl

same_name : (ins : List (List ℕ)) {p q : ℕ} {a b : List ℕ} → slice_get ins p ≡ Some a → slice_get ins q ≡ Some b → p ≡ q → a ≡ b
same_name ins x y same = some_is (sym x ∙ ap (λ (i : ℕ). slice_get ins i) same ∙ y)

-- ---- one file

bad_none : (file : List ℕ) (field : HeaderField) (stream : Stream) → IsBadHeader file field → HoldsStream file stream → ⊥
bad_none file field stream x y = IsBadHeader-none y.1.held.behind field y.1.held.header x

-- ---- under names

module _ (s : Disk) where
  comes_same : (name : List ℕ) (a b : Stream) → ComesIn s name a → ComesIn s name b → a ≡ b
  comes_same name a b (inl x) (inl y) = x.1 ∙ sym y.1
  comes_same name a b (inl x) (inr y) = absurd (y.0 x.0)
  comes_same name a b (inr x) (inl y) = absurd (x.0 y.0)
  comes_same name a b (inr x) (inr y) =
      let file : x.1 ≡ y.1 = some_is (sym x.2 ∙ y.2) in
      HoldsStream-same y.1 a b (rw file at x.3) y.3

  bad_comes : (name : List ℕ) (field : HeaderField) (stream : Stream) → HasBadHeader s name field → ComesIn s name stream → ⊥
  bad_comes name field stream x (inl y) = x.0 y.0
  bad_comes name field stream x (inr y) =
      let file : x.1 ≡ y.1 = some_is (sym x.2 ∙ y.2) in
      bad_none y.1 field stream (rw file at x.3) y.3

  bad_bad : (name : List ℕ) (f g : HeaderField) → HasBadHeader s name f → HasBadHeader s name g → f ≡ g
  bad_bad name f g x y =
      let file : x.1 ≡ y.1 = some_is (sym x.2 ∙ y.2) in
      IsBadHeader-same y.1 f g (rw file at x.3) y.3

  -- the streams under names are one list

  streams_same : {ins : List (List ℕ)} (a b : List Stream) → AllComeIn s ins a → AllComeIn s ins b → a ≡ b
  streams_same {ins} a b x y = same_list a b (sym x.ports ∙ y.ports) (λ port within.
      let name = place_of ins port (omega (arith, within, x.ports)) in
      comes_same name.0 (stream_at a port) (stream_at b port) (x.each port name.0 name.1) (y.each port name.0 name.1))

  -- ---- refused headers

  no_bad : {ins : List (List ℕ)} {port : ℕ} {field : HeaderField} {streams : List Stream} → IsFirstBadHeader s ins port field → AllComeIn s ins streams → ⊥
  no_bad {port = port} {field = field} {streams = streams} x y = bad_comes x.name field (stream_at streams port) x.bad (y.each port x.name x.at)

  pub same_header_port : {ins : List (List ℕ)} (p q : ℕ) {f g : HeaderField} → IsFirstBadHeader s ins p f → IsFirstBadHeader s ins q g → p ≡ q
  same_header_port p q {f} {g} x y = elim (cases_lt p q) [
    | inl less ↦ let before = y.first p x.name less x.at in absurd (bad_comes x.name f before.0 x.bad before.1)
    | inr least ↦ elim (eq-or-lt_of_le least) [
      | inl same ↦ sym same
      | inr less ↦ let before = x.first q y.name less y.at in absurd (bad_comes y.name g before.0 y.bad before.1)
    ]
  ]

  pub same_header_field : {ins : List (List ℕ)} {p q : ℕ} (f g : HeaderField) → IsFirstBadHeader s ins p f → IsFirstBadHeader s ins q g → f ≡ g
  same_header_field {ins} {p} {q} f g x y =
      let port : p ≡ q = same_header_port p q x y in
      let name : x.name ≡ y.name = same_name ins x.at y.at port in
      bad_bad y.name f g (rw name at x.bad) y.bad

  pub header_all : {ins : List (List ℕ)} {p : ℕ} {f : HeaderField} {frames : List Arrival} → IsFirstBadHeader s ins p f → AreAll s ins frames → ⊥
  header_all x y = no_bad x y.1

  pub header_up_to : {ins : List (List ℕ)} {p q number : ℕ} {f : HeaderField} {why : Damage} {frames : List Arrival} → IsFirstBadHeader s ins p f
      → AreUpTo s ins frames q number why → ⊥
  header_up_to x y = no_bad x y.1

  pub header_many : {ins : List (List ℕ)} {p : ℕ} {f : HeaderField} {frames : List Arrival} → IsFirstBadHeader s ins p f → AreTooMany s ins frames → ⊥
  header_many x y = no_bad x y.2

  -- ---- frames

  pub same_all : {ins : List (List ℕ)} (a b : List Arrival) → AreAll s ins a → AreAll s ins b → a ≡ b
  same_all a b x y = AllCome-same a b (rw (streams_same x.0 y.0 x.1 y.1) at x.2) y.2

  pub all_up_to : {ins : List (List ℕ)} {a b : List Arrival} {port number : ℕ} {why : Damage} → AreAll s ins a → AreUpTo s ins b port number why → ⊥
  all_up_to x y = AllCome-whole (rw (streams_same x.0 y.0 x.1 y.1) at x.2) y.2

  pub all_many : {ins : List (List ℕ)} (a b : List Arrival) → AreAll s ins a → AreTooMany s ins b → ⊥
  all_many a b x y =
      let all = rw (streams_same x.0 y.0 x.1 y.2) at x.2 in
      let next = y.5 in
      next.1 (AllCome-most a b all y.3 (omega (arith, x.3, y.4)) next.0)

  pub same_up_to : {ins : List (List ℕ)} (a b : List Arrival) {p q : ℕ} (m n : ℕ) (d e : Damage) → AreUpTo s ins a p m d → AreUpTo s ins b q n e
      → (p ≡ q) × (m ≡ n) × (d ≡ e)
  same_up_to a b {p} {q} m n d e x y =
      let streams : x.0 ≡ y.0 = streams_same x.0 y.0 x.1 y.1 in
      let come : ComeUpTo y.0 a p d = rw streams at x.2 in
      let same = ComeUpTo-same a b come y.2 in
      let number : m ≡ n = x.3 ∙ rw (streams, same.1) refl ∙ sym y.3 in
      (same.1, number, same.2)

  pub up_to_many : {ins : List (List ℕ)} (a b : List Arrival) {port number : ℕ} {why : Damage} → AreUpTo s ins a port number why → AreTooMany s ins b → ⊥
  up_to_many a b {port} {number} {why} x y =
      let come = rw (streams_same x.0 y.0 x.1 y.2) at x.2 in
      y.6 port why (ComeUpTo-most a b come y.3 (omega (arith, x.4, y.4)))
