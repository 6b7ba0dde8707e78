-- What a form reads is what it spells.
use Rattle.std.proofs.Common.{◌≡◌, ◌∙◌, ◌≤◌, ◌+◌, ◌-◌, inl, inr, ℕ, zero, suc, Bool, true, List, length, slice_get, Option, Some, None, Ok, refl, sym}
use Rattle.std.proofs.Common.{ap, subst, arith}
use Rattle.std.specs.Prelude.{◌&&◌}
use Rattle.std.proofs.lemmas.Bool.{and_parts}
use Rattle.std.proofs.lemmas.Option.{slice_get_past}
use Rattle.vg_forms.specs.Forms.{Form, Plain, Place, One, Unless, Both, Either, Chain, Inner, Made, Growth}
use Rattle.vg_forms.specs.Places.{State, place_at, passes, tested}
use Rattle.vg_forms.specs.Spelling.{Spelled}
use Rattle.vg_forms.specs.Guided.{GuidedTurns, guided_with}
use Rattle.vg_forms.specs.Reading.{Reads, ◌>>=◌, taken, grown, turn, turns, read_with}
use Rattle.vg_forms.proofs.Checks.{eats}
use Rattle.vg_forms.proofs.Onward.{bound, ok_at, same_state, same_value, either_side, further, gains, Gains}
use Rattle.vg_forms.proofs.Chains.{some_next}
use Rattle.vg_forms.proofs.Checks.{tidy}
use Rattle.vg_forms.specs.declared.token.Token.{Token}
use Rattle.vg_forms.proofs.Checks.{Law}

module _ {K N G : Type 0} (law : Law K N G) where
  module _ (toks : List (Token K)) where
    -- what is spelled is read
    one_read : {A : Type 0} (test : Token K → Option A) (s t : State G) (a : A) (x : Token K) → slice_get toks s.at ≡ Some x → test x ≡ Some a
        → t ≡ record s { at = s.at + 1 } → taken (tested test (slice_get toks s.at)) s ≡ Ok (a, t)
    one_read test s t a x found is to = ap (λ (o : Option (Token K)). taken (tested test o) s) found ∙ ap (λ o. taken o s) is ∙ ap (λ
        (u : State G). ok_at law a u) (sym to)

    Completes : {A : Type 0} → Reads G A → Spelled G A → Type 0
    Completes r p = (s : State G) (a : _) (t : State G) → p s a t → r s ≡ Ok (a, t)

    turns_read : {A : Type 0} (n left : ℕ) (test : Token K → Bool) (more : Reads G (ℕ → A → Growth G A)) (says : Spelled G (ℕ → A
        → Growth G A))
        → ((s : State G) (g : ℕ → A → Growth G A) (t : State G) → says s g t → more s ≡ Ok (g, t))
        → ((s : State G) (g : ℕ → A → Growth G A) (t : State G) → more s ≡ Ok (g, t) → s.at + 1 ≤ t.at)
        → (at : ℕ) (a : A) (s : State G) (b : A) (t : State G) → length toks ≤ left + s.at → GuidedTurns toks n test says at a s b t
        → turns toks left test more at a s ≡ Ok (b, t)
    turns_read zero zero test more says h on at a s b t enough (unless, same, to) = ap (λ (u : State G). ok_at law a u) (sym to) ∙ ap
        (λ c. ok_at law c t) (sym same)
    turns_read zero (suc left) test more says h on at a s b t enough (unless, same, to) = rw unless
        (ap (λ (u : State G). ok_at law a u) (sym to) ∙ ap (λ c. ok_at law c t) (sym same))
    turns_read (suc n) zero test more says h on at a s b t enough (so, g, u, first, rest) = absurd (omega (arith, enough, some_next law toks test s.at so))
    turns_read (suc n) (suc left) test more says h on at a s b t enough (so, g, u, first, rest) =
        let one = h s g u first in
        let step = on s g u one in
        let later = turns_read n left test more says h on at (g at a u.tree).0 (record u { tree = (g at a u.tree).1 }) b t (omega
        (arith, enough, step)) rest in
        rw (so, one) later

    -- of a form that reads behind another
    both_read : {A B : Type 0} (f : Reads G (A → B)) (x : Reads G A) (s u t : State G) (g : A → B) (a : A) (b : B) → f s ≡ Ok (g, u) → x u
        ≡ Ok (a, t)
        → b ≡ g a → (f s >>= λ p. x p.1 >>= λ q. ok_at law (p.0 q.0) q.1) ≡ ok_at law b t
    both_read f x s u t g a b one two same = rw (one, two) (ap (λ c. ok_at law c t) (sym same))

    made_read : {A : Type 0} (f : Reads G (Growth G A)) (s u t : State G) (g : Growth G A) (b : A) → f s ≡ Ok (g, u) → b ≡ (g u.tree).0
        → t ≡ record u { tree = (g u.tree).1 } → (f s >>= λ p. Ok (grown (p.0 p.1.tree) p.1)) ≡ Ok (b, t)
    made_read f s u t g b one same to = rw one (ap (λ c. ok_at law c (record u { tree = (g u.tree).1 })) (sym same) ∙ ap (λ
        (v : State G). ok_at law b v) (sym to))

    pub complete : (inner : N → Reads G ℕ) (says : N → Spelled G ℕ) → Gains law toks inner
        → ((n : N) (s : State G) (a : ℕ) (t : State G) → says n s a t → inner n s ≡ Ok (a, t))
        → {A : Type 0} (f : Form K N G A) → tidy f ≡ true → (s : State G) (a : A) (t : State G) → guided_with toks says f s a t
        → read_with toks inner f s ≡ Ok (a, t)
    complete inner says gain h (Plain b) neat s a t (same, to) = ap (λ (u : State G). ok_at law b u) (sym to) ∙ ap (λ c. ok_at law c t) (sym same)
    complete inner says gain h Place neat s a t (same, to) = ap (λ (u : State G). ok_at law (place_at toks s.at) u) (sym to) ∙ ap
        (λ c. ok_at law c t) (sym same)
    complete inner says gain h (One test) neat s a t (x, found, is, to) = one_read test s t a x found is to
    complete inner says gain h (Unless test) neat s a t (unless, to) = rw unless (ap (λ (u : State G). ok_at law a u) (sym to))
    complete inner says gain h (Both f x) neat s b t (g, u, a, one, two, same) =
        let parts = and_parts (tidy f) (tidy x) neat in
        both_read (read_with toks inner f) (read_with toks inner x) s u t g a b (complete inner says gain h f parts.0 s g u one)
        (complete inner says gain h x parts.1 u a t two) same
    complete inner says gain h (Either test x y) neat s a t (inl (so, one)) = rw so (complete inner says gain h x (and_parts (tidy x)
        (tidy y) neat).0 s a t one)
    complete inner says gain h (Either test x y) neat s a t (inr (unless, two)) =
        rw unless (complete inner says gain h y (and_parts (tidy x) (tidy y) neat).1 s a t two)
    complete inner says gain h (Chain test x more) neat s b t (a, u, n, one, rest) =
        let all = and_parts (tidy x && eats more) (tidy more) neat in
        let front = and_parts (tidy x) (eats more) all.0 in
        let first = complete inner says gain h x front.0 s a u one in
        let later = turns_read n (length toks - u.at) test (read_with toks inner more) (guided_with toks says more)
        (λ v g w is. complete inner says gain h more all.1 v g w is)
        (λ v g w is. subst (λ (c : Bool). further c v.at ≤ w.at) front.1 (gains law toks inner gain more v g w is)) (place_at toks s.at) a u b t
        (omega arith) rest in
        rw first later
    complete inner says gain h (Inner n) neat s a t is = h n s a t is
    complete inner says gain h (Made f) neat s a t (g, u, one, same, to) = made_read (read_with toks inner f) s u t g a
        (complete inner says gain h f neat s g u one) same to

    -- what is read is spelled
    one_spelled : {A : Type 0} (test : Token K → Option A) (s : State G) (a : A) (t : State G) (o : Option (Token K)) → slice_get toks s.at ≡ o
        → taken (tested test o) s ≡ Ok (a, t)
        → (x : Token K) × (slice_get toks s.at ≡ Some x) × (test x ≡ Some a) × (t ≡ record s { at = s.at + 1 })
    one_spelled test s a t None found e = absurd (cc)
    one_spelled test s a t (Some x) found e = by (test x) refl e
      where
        by : (o : Option _) → test x ≡ o → taken o s ≡ Ok (a, t) → (x : Token K) × (slice_get toks s.at ≡ Some x) × (test x ≡ Some a)
            × (t ≡ record s { at = s.at + 1 })
        by None is e = absurd (cc)
        by (Some b) is e = (x, found, is ∙ ap (λ c. Some c) (same_value law e), sym (same_state law e))

    turns_spelled : {A : Type 0} (left : ℕ) (test : Token K → Bool) (more : Reads G (ℕ → A → Growth G A)) (says : Spelled G (ℕ → A
        → Growth G A))
        → ((s : State G) (g : ℕ → A → Growth G A) (t : State G) → more s ≡ Ok (g, t) → says s g t)
        → ((s : State G) (g : ℕ → A → Growth G A) (t : State G) → more s ≡ Ok (g, t) → s.at + 1 ≤ t.at)
        → (at : ℕ) (a : A) (s : State G) (b : A) (t : State G) → length toks ≤ left + s.at → turns toks left test more at a s ≡ Ok (b, t)
        → (n : ℕ)
        × GuidedTurns toks n test says at a s b t
    turns_spelled zero test more says h on at a s b t enough e =
        (0, (ap (passes test) (slice_get_past toks s.at (omega (arith, enough))), sym (same_value law e), sym (same_state law e)))
    turns_spelled (suc left) test more says h on at a s b t enough e =
        either_side (passes test (slice_get toks s.at))
        (λ so is.
        let parts = bound (turn more at a s) (λ q. turns toks left test more at q.0 q.1) is in
        let one = bound (more s) (λ q. Ok (grown (q.0 at a q.1.tree) q.1)) parts.1 in
        let g = one.0.0 in
        let u = one.0.1 in
        let step = on s g u one.1 in
        let value : (g at a u.tree).0 ≡ parts.0.0 = same_value law one.2 in
        let state : record u { tree = (g at a u.tree).1 } ≡ parts.0.1 = same_state law one.2 in
        let moved : u.at ≡ parts.0.1.at = ap (λ (v : State G). v.at) state in
        let rest : turns toks left test more at (g at a u.tree).0 (record u { tree = (g at a u.tree).1 }) ≡ Ok (b, t) =
        ap (λ (v : State G). turns toks left test more at (g at a u.tree).0 v) state ∙ ap (λ c. turns toks left test more at c parts.0.1) value
        ∙ parts.2 in
        let later = turns_spelled left test more says h on at (g at a u.tree).0 (record u { tree = (g at a u.tree).1 }) b t (omega
        (arith, enough, step)) rest in
        (suc later.0, (so, g, u, h s g u one.1, later.1)))
        (λ unless is. (0, (unless, sym (same_value law is), sym (same_state law is)))) e

    pub sound : (inner : N → Reads G ℕ) (says : N → Spelled G ℕ) → Gains law toks inner → ((n : N) (s : State G) (a : ℕ) (t : State G)
        → inner n s ≡ Ok (a, t) → says n s a t)
        → {A : Type 0} (f : Form K N G A) → tidy f ≡ true → (s : State G) (a : A) (t : State G) → read_with toks inner f s ≡ Ok (a, t)
        → guided_with toks says f s a t
    sound inner says gain h (Plain b) neat s a t e = (sym (same_value law e), sym (same_state law e))
    sound inner says gain h Place neat s a t e = (sym (same_value law e), sym (same_state law e))
    sound inner says gain h (One test) neat s a t e = one_spelled test s a t (slice_get toks s.at) refl e
    sound inner says gain h (Unless test) neat s a t e =
        either_side (passes test (slice_get toks s.at)) (λ so is. absurd (cc)) (λ unless is. (unless, sym (same_state law is))) e
    sound inner says gain h (Both f x) neat s b t e =
        let parts = and_parts (tidy f) (tidy x) neat in
        let one = bound (read_with toks inner f s) (λ p. read_with toks inner x p.1 >>= λ q. Ok (p.0 q.0, q.1)) e in
        let two = bound (read_with toks inner x one.0.1) (λ q. Ok (one.0.0 q.0, q.1)) one.2 in
        let second = sound inner says gain h x parts.1 one.0.1 two.0.0 two.0.1 two.1 in (
          one.0.0,
          one.0.1,
          two.0.0,
          sound inner says gain h f parts.0 s one.0.0 one.0.1 one.1,
          subst (λ (u : State G). guided_with toks says x one.0.1 two.0.0 u) (same_state law two.2) second,
          sym (same_value law two.2),
        )
    sound inner says gain h (Either test x y) neat s a t e =
        let parts = and_parts (tidy x) (tidy y) neat in
        either_side (passes test (slice_get toks s.at)) (λ so is. inl (so, sound inner says gain h x parts.0 s a t is))
        (λ unless is. inr (unless, sound inner says gain h y parts.1 s a t is)) e
    sound inner says gain h (Chain test x more) neat s b t e =
        let all = and_parts (tidy x && eats more) (tidy more) neat in
        let front = and_parts (tidy x) (eats more) all.0 in
        let one = bound (read_with toks inner x s) (λ p. turns toks (length toks - p.1.at) test (read_with toks inner more)
        (place_at toks s.at) p.0 p.1) e in
        let later = turns_spelled (length toks - one.0.1.at) test (read_with toks inner more) (guided_with toks says more)
        (λ v g w is. sound inner says gain h more all.1 v g w is)
        (λ v g w is. subst (λ (c : Bool). further c v.at ≤ w.at) front.1 (gains law toks inner gain more v g w is))
        (place_at toks s.at) one.0.0 one.0.1 b t
        (omega arith) one.2 in
        (one.0.0, one.0.1, later.0, sound inner says gain h x front.0 s one.0.0 one.0.1 one.1, later.1)
    sound inner says gain h (Inner n) neat s a t e = h n s a t e
    sound inner says gain h (Made f) neat s a t e =
        let one = bound (read_with toks inner f s) (λ p. Ok (grown (p.0 p.1.tree) p.1)) e in
        (one.0.0, one.0.1, sound inner says gain h f neat s one.0.0 one.0.1 one.1, sym (same_value law one.2), sym (same_state law one.2))
