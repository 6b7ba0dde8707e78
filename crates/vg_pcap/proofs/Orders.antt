-- The order of arrivals is one: laws on the definitions, which no code cites.
use Rattle.std.proofs.Common.{◌≡◌, ◌≢◌, ℕ, suc, ◌≤◌, ◌⊎◌, ◌==◌, inl, inr, refl, ◌∙◌, sym, ap, subst, List, [], ◌∷◌, ◌++◌, length, filter, All}
use Rattle.std.proofs.Common.{AllPairs, Contains, arith, append-nil, length-append, append_assoc, eq-eqb, ne_eqb}
use Rattle.std.proofs.lemmas.Bool.{cases_eq}
use Rattle.std.proofs.lemmas.List.{map-append, append_cancel_left}
use Rattle.std.proofs.lemmas.List.Elements.{All-head, All-tail, filter-append}
use Rattle.vg_pcap.specs.declared.faults.Damage.{Damage}
use Rattle.vg_pcap.specs.Captures.{Refused}
use Rattle.vg_pcap.specs.Frames.{Framed, Stream}
use Rattle.vg_pcap.specs.Arrivals.{Arrival, stream_at, frames_from, Precedes, ComeFirst, EndsAt, IsAtDamage, AllCome, ComeUpTo}

-- ---- frames of a port

frames_from-here : (a : Arrival) (xs : List Arrival) → frames_from a.port (a ∷ xs) ≡ a.frame ∷ frames_from a.port xs
frames_from-here a xs = rw (eq-eqb a.port a.port refl) refl

frames_from-elsewhere : (port : ℕ) (a : Arrival) (xs : List Arrival) → a.port ≢ port → frames_from port (a ∷ xs) ≡ frames_from port xs
frames_from-elsewhere port a xs ne = rw (ne_eqb a.port port ne) refl

-- an arrival at a port
abbrev at_port : ℕ → Framed → Arrival
at_port port frame = record { port = port; frame = frame }

-- ---- elements of lists

Contains-first : {X : Type 0} (x : X) (xs : List X) → Contains (x ∷ xs) x
Contains-first x xs = (0, omega arith, refl)

Contains-later : {X : Type 0} (x y : X) (xs : List X) → Contains xs x → Contains (y ∷ xs) x
Contains-later x y xs has = (suc has.0, omega (arith, has.1), has.2)

AllPairs-first : {X : Type 0} (R : X → X → Type 0) (x : X) (xs : List X) → AllPairs R (x ∷ xs) → (y : X) → Contains xs y → R x y
AllPairs-first R x xs pairs y has =
    let at = pairs 0 (suc has.0) y (omega arith) (omega (arith, has.1)) in
    subst (λ z. R x z) has.2 at

AllPairs-rest : {X : Type 0} (R : X → X → Type 0) (x : X) (xs : List X) → AllPairs R (x ∷ xs) → AllPairs R xs
AllPairs-rest R x xs pairs = λ i j d less within. pairs (suc i) (suc j) d (omega (arith, less)) (omega (arith, within))

-- the first frame of a port among arrivals and what is left is that of an arrival, or of what is left
first_of : (port : ℕ) (xs : List Arrival) (left : List Framed) (frame : Framed) (rest : List Framed) → frames_from port xs ++ left ≡ frame ∷ rest →
    Contains xs (at_port port frame) ⊎ Contains left frame
first_of port [] left frame rest e = inr (rw e (Contains-first frame rest))
first_of port (x ∷ xs) left frame rest e = elim (cases_eq x.port port) [
  | inl here ↦
      let e' = rw (eq-eqb x.port port here) at e in
      let same : x.frame ≡ frame = cc in
      let is : at_port port frame ≡ x = rw (← here, ← same) refl in
      inl (rw is (Contains-first x xs))
  | inr ne ↦
      let e' = rw (frames_from-elsewhere port x xs ne) at e in
      elim (first_of port xs left frame rest e') [
        | inl has ↦ inl (Contains-later (at_port port frame) x xs has)
        | inr has ↦ inr has
      ]
]

-- ---- one order

-- what is left at each port, none of which comes before one of these
record IsLeftBehind (xs : List Arrival) (left : ℕ → List Framed) : Type 0 where
  ordered : AllPairs Precedes xs
  before : (port : ℕ) (frame : Framed) → Contains (left port) frame → All (λ x. Precedes x (at_port port frame)) xs

IsLeftBehind-rest : {x : Arrival} {xs : List Arrival} {left : ℕ → List Framed} → IsLeftBehind (x ∷ xs) left → IsLeftBehind xs left
IsLeftBehind-rest {x} {xs} l = record {
  ordered = AllPairs-rest Precedes x xs l.ordered;
  before = λ port frame has. All-tail (λ y. Precedes y (at_port port frame)) x xs (l.before port frame has);
}

-- the first arrival comes no later than one that comes at another port
comes_first : (x y : Arrival) (xs : List Arrival) (left : ℕ → List Framed) (rest : List Framed) → IsLeftBehind (x ∷ xs) left → x.port ≢ y.port →
    frames_from y.port (x ∷ xs) ++ left y.port ≡ y.frame ∷ rest → Precedes x y
comes_first x y xs left rest l ne e =
    let e' = rw (frames_from-elsewhere y.port x xs ne) at e in
    elim (first_of y.port xs (left y.port) y.frame rest e') [
      | inl has ↦ AllPairs-first Precedes x xs l.ordered y has
      | inr has ↦ All-head (λ z. Precedes z y) x xs (l.before y.port y.frame has)
    ]

-- two arrivals at different ports don't both come no later than the other
not_both : (x y : Arrival) → x.port ≢ y.port → Precedes x y → Precedes y x → ⊥
not_both x y ne (inl a) (inl b) = omega (arith, a, b)
not_both x y ne (inl a) (inr b) = omega (arith, a, b.0)
not_both x y ne (inr a) (inl b) = omega (arith, a.0, b)
not_both x y ne (inr a) (inr b) = ne (omega (arith, a.1, b.1))

abbrev SameFrames : List Arrival → (ℕ → List Framed) → List Arrival → (ℕ → List Framed) → Type 0
SameFrames xs left ys others = (port : ℕ) → frames_from port xs ++ left port ≡ frames_from port ys ++ others port

-- the first ones are the same
same_first : (x y : Arrival) (xs ys : List Arrival) (left others : ℕ → List Framed) → IsLeftBehind (x ∷ xs) left → IsLeftBehind (y ∷ ys) others →
    SameFrames (x ∷ xs) left (y ∷ ys) others → x ≡ y
same_first x y xs ys left others l o same = elim (cases_eq x.port y.port) [
  | inl here ↦
      let at_x = same x.port in
      let frames_x = rw (frames_from-here x xs) at at_x in
      let frames_y = rw (eq-eqb y.port x.port (sym here)) at frames_x in
      let frame : x.frame ≡ y.frame = cc in
      let is : at_port x.port x.frame ≡ at_port y.port y.frame = rw (here, frame) refl in
      is
  | inr ne ↦
      let at_y : frames_from y.port (x ∷ xs) ++ left y.port ≡ y.frame ∷ (frames_from y.port ys ++ others y.port) = same y.port
      ∙ ap (λ (l : List Framed). l ++ others y.port) (frames_from-here y ys) in
      let at_x : frames_from x.port (y ∷ ys) ++ others x.port ≡ x.frame ∷ (frames_from x.port xs ++ left x.port) = sym (same x.port)
      ∙ ap (λ (l : List Framed). l ++ left x.port) (frames_from-here x xs) in
      absurd (not_both x y ne (comes_first x y xs left _ l ne at_y) (comes_first y x ys others _ o (λ e. ne (sym e)) at_x))
]

-- and so are those behind them
same_rest : (x : Arrival) (xs ys : List Arrival) (left others : ℕ → List Framed) → SameFrames (x ∷ xs) left (x ∷ ys) others → SameFrames xs left ys others
same_rest x xs ys left others same port = elim (cases_eq x.port port) [
  | inl here ↦
      let both = rw (eq-eqb x.port port here) at (same port) in
      cc
  | inr ne ↦ rw (frames_from-elsewhere port x xs ne, frames_from-elsewhere port x ys ne) at (same port)
]

-- of two lists of first arrivals one begins with the other
abbrev pub BeginsWith : List Arrival → List Arrival → Type 0
BeginsWith xs ys = (more : List Arrival) × (xs ≡ ys ++ more)

one_begins : (xs ys : List Arrival) (left others : ℕ → List Framed) → IsLeftBehind xs left → IsLeftBehind ys others → SameFrames xs left ys others →
    BeginsWith xs ys ⊎ BeginsWith ys xs
one_begins [] ys left others l o same = inr (ys, refl)
one_begins (x ∷ xs) [] left others l o same = inl (x ∷ xs, refl)
one_begins (x ∷ xs) (y ∷ ys) left others l o same =
    let is : x ≡ y = same_first x y xs ys left others l o same in
    let same' : SameFrames (x ∷ xs) left (x ∷ ys) others = rw (← is) at same in
    elim (one_begins xs ys left others (IsLeftBehind-rest l) (IsLeftBehind-rest o) (same_rest x xs ys left others same')) [
      | inl more ↦ inl (more.0, rw (is, more.1) refl)
      | inr more ↦ inr (more.0, rw (is, more.1) refl)
    ]

-- the frames that are left, by port
abbrev left_at : List Stream → ℕ → List Framed
left_at left port = (stream_at left port).frames

left_behind : {streams : List Stream} {first : List Arrival} {left : List Stream} → ComeFirst streams first left → IsLeftBehind first (left_at left)
left_behind c = record { ordered = c.ordered; before = c.before }

pub ComeFirst-order : {streams : List Stream} {a b : List Arrival} {la lb : List Stream} → ComeFirst streams a la → ComeFirst streams b lb
    → BeginsWith a b ⊎ BeginsWith b a
ComeFirst-order {a = a} {b = b} {la = la} {lb = lb} x y =
    one_begins a b (left_at la) (left_at lb) (left_behind x) (left_behind y) (λ port. sym (x.in_turn port) ∙ y.in_turn port)

-- ---- one list of all

frames_from-both : (port : ℕ) (xs ys : List Arrival) → frames_from port (xs ++ ys) ≡ frames_from port xs ++ frames_from port ys
frames_from-both port xs ys = rw (filter-append (λ x. x.port == port) xs ys) (map-append (λ (x : Arrival). x.frame) (filter (λ x. x.port == port) xs)
    (filter (λ x. x.port == port) ys))

-- what was left behind fewer arrivals came with the others, or is left
left_of_more : {streams : List Stream} (b more : List Arrival) {la lb : List Stream} → ComeFirst streams (b ++ more) la → ComeFirst streams b lb → (port : ℕ) →
    left_at lb port ≡ frames_from port more ++ left_at la port
left_of_more b more {la} {lb} x y port =
    append_cancel_left (frames_from port b) (left_at lb port) (frames_from port more ++ left_at la port)
    (sym (y.in_turn port) ∙ x.in_turn port ∙ ap (λ (l : List Framed). l ++ left_at la port) (frames_from-both port b more)
    ∙ append_assoc (frames_from port b) (frames_from port more) (left_at la port))

-- where nothing came at any port there is no arrival
no_arrivals : (more : List Arrival) → ((port : ℕ) → frames_from port more ≡ []) → more ≡ []
no_arrivals [] none = refl
no_arrivals (m ∷ more) none = let here = none m.port in let is = rw (frames_from-here m more) at here in absurd cc

nil_parts : (xs ys : List Framed) → xs ++ ys ≡ [] → (xs ≡ []) × (ys ≡ [])
nil_parts [] ys e = (refl, e)
nil_parts (x ∷ xs) ys e = absurd cc

-- nothing comes behind all
none_behind : {streams : List Stream} (b more : List Arrival) {la lb : List Stream} → ComeFirst streams (b ++ more) la → ComeFirst streams b lb
    → ((port : ℕ) → left_at lb port ≡ []) → more ≡ []
none_behind b more {la} x y none =
    no_arrivals more (λ port. (nil_parts (frames_from port more) (left_at la port) (sym (left_of_more b more x y port) ∙ none port)).0)

-- the arrivals of whole streams are one list
pub AllCome-same : {streams : List Stream} (a b : List Arrival) → AllCome streams a → AllCome streams b → a ≡ b
AllCome-same {streams} a b x y = elim (ComeFirst-order x.first y.first) [
  | inl more ↦
      let longer = rw more.1 at x.first in
      more.1 ∙ ap (λ (l : List Arrival). b ++ l) (none_behind b more.0 longer y.first y.none_left) ∙ append-nil b
  | inr more ↦
      let longer = rw more.1 at y.first in
      sym (more.1 ∙ ap (λ (l : List Arrival). a ++ l) (none_behind a more.0 longer x.first x.none_left) ∙ append-nil a)
]

-- whole streams have no refused record
pub AllCome-whole : {streams : List Stream} {a b : List Arrival} {port : ℕ} {damage : Damage} → AllCome streams a → ComeUpTo streams b port damage → ⊥
AllCome-whole {port = port} x y =
    let whole = x.whole port in
    let refused = y.at_damage.refused in
    let same = y.first.ends port in
    absurd cc

-- ---- one refused record

-- the last of these arrivals came at a port, so one of the later ones did
ends_later : (xs : List Arrival) (m : Arrival) (ms : List Arrival) (port : ℕ) → EndsAt (xs ++ m ∷ ms) port → frames_from port (m ∷ ms) ≡ [] → ⊥
ends_later [] m [] port ends none = let is = rw (eq-eqb m.port port ends) at none in absurd cc
ends_later [] m (n ∷ ms) port ends none = elim (cases_eq m.port port) [
  | inl here ↦ let is = rw (eq-eqb m.port port here) at none in absurd cc
  | inr ne ↦ ends_later [] n ms port ends (rw (frames_from-elsewhere port m (n ∷ ms) ne) at none)
]
ends_later (x ∷ []) m ms port ends none = ends_later [] m ms port ends none
ends_later (x ∷ y ∷ xs) m ms port ends none = ends_later (y ∷ xs) m ms port ends none

-- a port whose next record is refused stays so
stays_at : {streams : List Stream} (b more : List Arrival) {la lb : List Stream} {port : ℕ} {damage : Damage} → ComeFirst streams (b ++ more) la
    → ComeFirst streams b lb →
    IsAtDamage lb port damage → (frames_from port more ≡ []) × IsAtDamage la port damage
stays_at b more {la} {lb} {port} x y at =
    let parts = nil_parts (frames_from port more) (left_at la port) (sym (left_of_more b more x y port) ∙ at.none_left) in
    (parts.0, record { none_left = parts.1; refused = x.ends port ∙ sym (y.ends port) ∙ at.refused })

-- a record is refused no later than another
no_later : {streams : List Stream} (a more : List Arrival) {p q : ℕ} {d e : Damage} → ComeUpTo streams a p d → ComeUpTo streams (a ++ more) q e → more ≡ []
no_later a [] x y = refl
no_later a (m ∷ more) {p} {q} x y =
    let stays = stays_at a (m ∷ more) y.first x.first x.at_damage in
    elim (y.no_other p _ stays.1) [
      | inl same ↦ absurd (ends_later a m more p (rw (← same) at y.right_after) stays.0)
      | inr none ↦ absurd (nil_append a m more none.0)
    ]
  where
    nil_append : (xs : List Arrival) (z : Arrival) (zs : List Arrival) → xs ++ z ∷ zs ≡ [] → ⊥
    nil_append [] z zs e = absurd cc
    nil_append (x ∷ xs) z zs e = absurd cc

-- the same is left behind the same arrivals
moved : {streams : List Stream} {a : List Arrival} {la lb : List Stream} {port : ℕ} {damage : Damage} → ComeFirst streams a la
    → ComeFirst streams a lb → IsAtDamage la port damage → IsAtDamage lb port damage
moved {a = a} {la = la} {lb = lb} {port = port} x y at = record {
  none_left = append_cancel_left (frames_from port a) (left_at lb port) (left_at la port) (sym (y.in_turn port) ∙ x.in_turn port) ∙ at.none_left;
  refused = y.ends port ∙ sym (x.ends port) ∙ at.refused;
}

-- behind the same arrivals one record is refused
same_port : {streams : List Stream} {a : List Arrival} {p q : ℕ} {d e : Damage} → ComeUpTo streams a p d → ComeUpTo streams a q e → p ≡ q
same_port {p = p} {q = q} {d = d} {e = e} x y = elim (y.no_other p d (moved x.first y.first x.at_damage)) [
  | inl same ↦ same
  | inr later ↦ elim (x.no_other q e (moved y.first x.first y.at_damage)) [
    | inl same ↦ sym same
    | inr earlier ↦ absurd (omega (arith, later.1, earlier.1))
  ]
]

same_damage : {streams : List Stream} {a : List Arrival} {p q : ℕ} {d e : Damage} → ComeUpTo streams a p d → ComeUpTo streams a q e → p ≡ q → d ≡ e
same_damage {p = p} {q = q} {d = d} {e = e} x y same =
    let at = moved x.first y.first x.at_damage in
    let one = at.refused in
    let other : (stream_at y.left p).end ≡ Refused e = rw same y.at_damage.refused in
    cc

-- the arrivals up to a refused record, and that record, are one thing
pub ComeUpTo-same : {streams : List Stream} (a b : List Arrival) {p q : ℕ} {d e : Damage} → ComeUpTo streams a p d → ComeUpTo streams b q e → (a ≡ b)
    × (p ≡ q) × (d ≡ e)
ComeUpTo-same {streams} a b {p} {q} {d} {e} x y =
    let same : a ≡ b = elim (ComeFirst-order x.first y.first) [
      | inl more ↦
          let longer : ComeUpTo streams (b ++ more.0) p d = rw more.1 at x in
          more.1 ∙ ap (λ (l : List Arrival). b ++ l) (no_later b more.0 y longer) ∙ append-nil b
      | inr more ↦
          let longer : ComeUpTo streams (a ++ more.0) q e = rw more.1 at y in
          sym (more.1 ∙ ap (λ (l : List Arrival). a ++ l) (no_later a more.0 x longer) ∙ append-nil a)
    ] in
    let there : ComeUpTo streams b p d = rw same at x in
    (same, same_port there y, same_damage there y (same_port there y))

-- ---- a number of arrivals

none_more : (xs more : List Arrival) → length (xs ++ more) ≤ length xs → more ≡ []
none_more xs [] short = refl
none_more xs (m ∷ more) short = absurd (omega (arith, length-append xs (m ∷ more)))

-- as many arrivals as there are of whole streams, or more, leave nothing
pub AllCome-most : {streams : List Stream} (a b : List Arrival) {lb : List Stream} → AllCome streams a → ComeFirst streams b lb → length a ≤ length b
    → (port : ℕ) → (stream_at lb port).frames ≡ []
AllCome-most a b {lb} x y enough port = elim (ComeFirst-order x.first y) [
  | inl more ↦
      let none = none_more b more.0 (rw more.1 at enough) in
      let longer = rw more.1 at x.first in
      let left = left_of_more b more.0 longer y port in
      left ∙ rw none (x.none_left port)
  | inr more ↦
      let longer = rw more.1 at y in
      (nil_parts (frames_from port more.0) (left_at lb port) (sym (left_of_more a more.0 longer x.first port) ∙ x.none_left port)).1
]

-- as many arrivals as there are up to a refused record, or more, leave that record next
pub ComeUpTo-most : {streams : List Stream} (a b : List Arrival) {lb : List Stream} {port : ℕ} {damage : Damage} → ComeUpTo streams a port damage
    → ComeFirst streams b lb → length a ≤ length b →
    IsAtDamage lb port damage
ComeUpTo-most {streams} a b {lb} {port} {damage} x y enough = elim (ComeFirst-order x.first y) [
  | inl more ↦
      let none = none_more b more.0 (rw more.1 at enough) in
      let same : a ≡ b = more.1 ∙ ap (λ (l : List Arrival). b ++ l) none ∙ append-nil b in
      let there : ComeUpTo streams b port damage = rw same at x in
      moved there.first y there.at_damage
  | inr more ↦
      let longer = rw more.1 at y in
      (stays_at a more.0 longer x.first x.at_damage).1
]
