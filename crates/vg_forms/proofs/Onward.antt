-- Reading never goes back, and a form that has a token goes forward.
use Rattle.std.proofs.Common.{◌≡◌, ◌≤◌, ◌+◌, ◌-◌, ℕ, zero, suc, Bool, true, false, cond, List, length, slice_get, Option, Some, None, Result, Ok, Err}
use Rattle.std.proofs.Common.{refl, ap, subst, arith}
use Rattle.std.specs.Prelude.{◌&&◌, ◌||◌}
use Rattle.vg_forms.specs.Forms.{Form, Plain, Place, One, Unless, Both, Either, Chain, Inner, Made, Growth}
use Rattle.vg_forms.specs.Places.{State, place_at, passes, tested}
use Rattle.vg_forms.specs.Reading.{Refusal, Reads, ◌>>=◌, taken, grown, turn, turns, read_with}
use Rattle.vg_forms.proofs.Checks.{eats}
use Rattle.vg_forms.specs.declared.token.Token.{Token}
use Rattle.vg_forms.proofs.Checks.{Law}

-- both parts of a reading that succeeds
pub bound : {A B : Type 0} (r : Result A Refusal) (f : A → Result B Refusal) {y : B} → (r >>= f) ≡ Ok y → (x : A) × (r ≡ Ok x) × (f x ≡ Ok y)
bound (Ok x) f e = (x, refl, e)
bound (Err e) f is = absurd (cc)

-- which side of a choice was read
pub either_side : {A : Type 0} (b : Bool) {x y r : A} {P : Type 0} → (b ≡ true → x ≡ r → P) → (b ≡ false → y ≡ r → P)
    → cond b x y ≡ r → P
either_side true f g e = f refl e
either_side false f g e = g refl e

-- how far a reading goes at least: one token further, if it eats
abbrev pub further : Bool → ℕ → ℕ
further true n = n + 1
further false n = n

pub further-both : (b c : Bool) (k m n : ℕ) → further b k ≤ m → further c m ≤ n → further (b || c) k ≤ n
further-both true true k m n h i = omega (arith, h, i)
further-both true false k m n h i = omega (arith, h, i)
further-both false true k m n h i = omega (arith, h, i)
further-both false false k m n h i = omega (arith, h, i)

pub further-first : (b c : Bool) (k n : ℕ) → further b k ≤ n → further (b && c) k ≤ n
further-first true true k n h = h
further-first true false k n h = omega (arith, h)
further-first false c k n h = h

pub further-second : (b c : Bool) (k n : ℕ) → further c k ≤ n → further (b && c) k ≤ n
further-second true c k n h = h
further-second false true k n h = omega (arith, h)
further-second false false k n h = h

pub further-more : (b : Bool) (k m n : ℕ) → further b k ≤ m → m ≤ n → further b k ≤ n
further-more true k m n h i = omega (arith, h, i)
further-more false k m n h i = omega (arith, h, i)

pub further-least : (b : Bool) (k n : ℕ) → further b k ≤ n → k ≤ n
further-least true k n h = omega (arith, h)
further-least false k n h = h

module _ {K N G : Type 0} (law : Law K N G) where
  abbrev pub ok_at : {A : Type 0} → A → State G → Result (A × State G) Refusal
  ok_at a s = Ok (a, s)

  abbrev state_or : {A : Type 0} → State G → Result (A × State G) Refusal → State G
  state_or s (Ok p) = p.1
  state_or s (Err e) = s

  abbrev value_or : {A : Type 0} → A → Result (A × State G) Refusal → A
  value_or a (Ok p) = p.0
  value_or a (Err e) = a

  pub same_value : {A : Type 0} {a b : A} {s t : State G} → ok_at a s ≡ ok_at b t → a ≡ b
  same_value {a = a} e = ap (value_or a) e

  pub same_state : {A : Type 0} {a b : A} {s t : State G} → ok_at a s ≡ ok_at b t → s ≡ t
  same_state {s = s} e = ap (state_or s) e

  taken-onward : {A : Type 0} (o : Option A) (s : State G) (a : A) (t : State G) → taken o s ≡ Ok (a, t) → s.at + 1 ≤ t.at
  taken-onward None s a t e = absurd (cc)
  taken-onward (Some b) s a t e = let same = same_state e in subst (λ (u : State G). s.at + 1 ≤ u.at) same (omega arith)

  module _ (toks : List (Token K)) where
    pub turn-onward : {A : Type 0} (more : Reads G (ℕ → A → Growth G A)) (b : Bool) → ((s : State G) (g : ℕ → A → Growth G A)
        (t : State G) → more s ≡ Ok (g, t)
        → further b s.at ≤ t.at)
        → (at : ℕ) (a : A) (s : State G) (c : A) (t : State G) → turn more at a s ≡ Ok (c, t) → further b s.at ≤ t.at
    turn-onward more b h at a s c t e =
        let parts = bound (more s) (λ q. Ok (grown (q.0 at a q.1.tree) q.1)) e in
        subst (λ (u : State G). further b s.at ≤ u.at) (same_state parts.2) (h s parts.0.0 parts.0.1 parts.1)

    turns-onward : {A : Type 0} (n : ℕ) (test : Token K → Bool) (more : Reads G (ℕ → A → Growth G A))
        → ((s : State G) (g : ℕ → A → Growth G A) (t : State G) → more s ≡ Ok (g, t) → s.at ≤ t.at)
        → (at : ℕ) (a : A) (s : State G) (c : A) (t : State G) → turns toks n test more at a s ≡ Ok (c, t) → s.at ≤ t.at
    turns-onward zero test more h at a s c t e = subst (λ (u : State G). s.at ≤ u.at) (same_state e) (omega arith)
    turns-onward (suc n) test more h at a s c t e =
        either_side (passes test (slice_get toks s.at))
        (λ so is.
        let parts = bound (turn more at a s) (λ q. turns toks n test more at q.0 q.1) is in
        let first = turn-onward more false h at a s parts.0.0 parts.0.1 parts.1 in
        let rest = turns-onward n test more h at parts.0.0 parts.0.1 c t parts.2 in
        omega (arith, first, rest))
        (λ unless is. subst (λ (u : State G). s.at ≤ u.at) (same_state is) (omega arith)) e

    -- a construct that is counted eats
    abbrev pub Gains : (N → Reads G ℕ) → Type 0
    Gains inner = (n : N) (s : State G) (a : ℕ) (t : State G) → inner n s ≡ Ok (a, t) → s.at + 1 ≤ t.at

    pub gains : (inner : N → Reads G ℕ) → Gains inner → {A : Type 0} (f : Form K N G A) (s : State G) (a : A) (t : State G)
        → read_with toks inner f s ≡ Ok (a, t) → further (eats f) s.at ≤ t.at
    gains inner h (Plain b) s a t e = subst (λ (u : State G). s.at ≤ u.at) (same_state e) (omega arith)
    gains inner h Place s a t e = subst (λ (u : State G). s.at ≤ u.at) (same_state e) (omega arith)
    gains inner h (One test) s a t e = taken-onward (tested test (slice_get toks s.at)) s a t e
    gains inner h (Unless test) s a t e =
        either_side (passes test (slice_get toks s.at)) (λ so is. absurd (cc)) (λ unless is. subst (λ (u : State G). s.at ≤ u.at) (same_state is)
        (omega arith)) e
    gains inner h (Both f x) s a t e =
        let one = bound (read_with toks inner f s) (λ p. read_with toks inner x p.1 >>= λ q. Ok (p.0 q.0, q.1)) e in
        let two = bound (read_with toks inner x one.0.1) (λ q. Ok (one.0.0 q.0, q.1)) one.2 in
        let first = gains inner h f s one.0.0 one.0.1 one.1 in
        let second = gains inner h x one.0.1 two.0.0 two.0.1 two.1 in
        subst (λ (u : State G). further (eats f || eats x) s.at ≤ u.at) (same_state two.2) (further-both (eats f)
        (eats x) s.at one.0.1.at two.0.1.at first second)
    gains inner h (Either test x y) s a t e =
        either_side (passes test (slice_get toks s.at))
        (λ so is. further-first (eats x) (eats y) s.at t.at (gains inner h x s a t is))
        (λ unless is. further-second (eats x) (eats y) s.at t.at (gains inner h y s a t is)) e
    gains inner h (Chain test x more) s a t e =
        let one = bound (read_with toks inner x s) (λ p. turns toks (length toks - p.1.at) test (read_with toks inner more)
        (place_at toks s.at) p.0 p.1) e in
        let first = gains inner h x s one.0.0 one.0.1 one.1 in
        let rest = turns-onward (length toks - one.0.1.at) test (read_with toks inner more) (λ u g v is. further-least (eats more) u.at v.at
        (gains inner h more u g v is)) (place_at toks s.at) one.0.0 one.0.1 a t one.2 in
        further-more (eats x) s.at one.0.1.at t.at first rest
    gains inner h (Inner n) s a t e = h n s a t e
    gains inner h (Made f) s a t e =
        let one = bound (read_with toks inner f s) (λ p. Ok (grown (p.0 p.1.tree) p.1)) e in
        subst (λ (u : State G). further (eats f) s.at ≤ u.at) (same_state one.2) (gains inner h f s one.0.0 one.0.1 one.1)
