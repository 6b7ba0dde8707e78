-- With more room the same is read, and the same refused, but where the room was used up.
use Rattle.std.proofs.Common.{◌≡◌, ◌∙◌, ◌+◌, ◌-◌, ◌⊎◌, inl, inr, ℕ, zero, suc, Bool, true, false, cond, List, length, slice_get, Result, Ok, Err}
use Rattle.std.proofs.Common.{refl, sym, ap, subst, arith}
use Rattle.vg_forms.specs.Forms.{Form, Plain, Place, One, Unless, Both, Either, Chain, Inner, Made, Growth}
use Rattle.vg_forms.specs.Places.{State, place_at, passes}
use Rattle.vg_forms.specs.Reading.{Refusal, Wrong, Deep, Reads, ◌>>=◌, grown, turn, turns, read_with, read_inner, read}
use Rattle.vg_forms.specs.declared.token.Token.{Token}
use Rattle.vg_forms.proofs.Checks.{Law}

module _ {K N G : Type 0} (law : Law K N G) where
  abbrev pub IsDeepEnd : {A : Type 0} → Result (A × State G) Refusal → Type 0
  IsDeepEnd (Ok p) = ⊥
  IsDeepEnd (Err (Wrong e)) = ⊥
  IsDeepEnd (Err (Deep e)) = Unit {0}

  abbrev pub Keeps : {A : Type 0} → Result (A × State G) Refusal → Result (A × State G) Refusal → Type 0
  Keeps one two = IsDeepEnd one ⊎ (two ≡ one)

  keeps_bind : {A B : Type 0} (one two : Result (A × State G) Refusal) (k m : A × State G → Result (B × State G) Refusal) → Keeps one two
      → ((a : A) (t : State G) → Keeps (k (a, t)) (m (a, t))) → Keeps (one >>= k) (two >>= m)
  keeps_bind (Ok p) two k m (inl none) go = absurd none
  keeps_bind (Err (Wrong e)) two k m (inl none) go = absurd none
  keeps_bind (Err (Deep e)) two k m (inl deep) go = inl tt
  keeps_bind (Ok p) two k m (inr same) go = subst (λ r. Keeps (k p) (r >>= m)) (sym same) (go p.0 p.1)
  keeps_bind (Err e) two k m (inr same) go = inr (ap (λ r. r >>= m) same)

  keeps_either : {A : Type 0} (b : Bool) (x y z w : Result (A × State G) Refusal) → Keeps x z → Keeps y w → Keeps (cond b x y) (cond b z w)
  keeps_either true x y z w h i = h
  keeps_either false x y z w h i = i

  module _ (toks : List (Token K)) where
    keeps_turns : {A : Type 0} (n : ℕ) (test : Token K → Bool) (one two : Reads G (ℕ → A → Growth G A)) → ((s : State G) → Keeps (one s)
        (two s))
        → (at : ℕ) (a : A) (s : State G) → Keeps (turns toks n test one at a s) (turns toks n test two at a s)
    keeps_turns zero test one two h at a s = inr refl
    keeps_turns (suc n) test one two h at a s =
        keeps_either (passes test (slice_get toks s.at)) _ _ _ _
        (keeps_bind (turn one at a s) (turn two at a s) (λ q. turns toks n test one at q.0 q.1) (λ q. turns toks n test two at q.0 q.1)
        (keeps_bind (one s) (two s) (λ q. Ok (grown (q.0 at a q.1.tree) q.1)) (λ q. Ok (grown (q.0 at a q.1.tree) q.1)) (h s) (λ g t. inr refl))
        (λ b t. keeps_turns n test one two h at b t))
        (inr refl)

    keeps : (one two : N → Reads G ℕ) → ((n : N) (s : State G) → Keeps (one n s) (two n s)) → {A : Type 0} (f : Form K N G A) (s : State G)
        → Keeps (read_with toks one f s) (read_with toks two f s)
    keeps one two h (Plain a) s = inr refl
    keeps one two h Place s = inr refl
    keeps one two h (One test) s = inr refl
    keeps one two h (Unless test) s = inr refl
    keeps one two h (Both f x) s =
        keeps_bind (read_with toks one f s) (read_with toks two f s) (λ p. read_with toks one x p.1 >>= λ q. Ok (p.0 q.0, q.1))
        (λ p. read_with toks two x p.1 >>= λ q. Ok (p.0 q.0, q.1)) (keeps one two h f s)
        (λ g t. keeps_bind (read_with toks one x t) (read_with toks two x t) (λ q. Ok (g q.0, q.1)) (λ q. Ok (g q.0, q.1)) (keeps one two h x t)
        (λ a u. inr refl))
    keeps one two h (Either test x y) s = keeps_either (passes test (slice_get toks s.at)) _ _ _ _ (keeps one two h x s) (keeps one two h y s)
    keeps one two h (Chain test x more) s =
        keeps_bind (read_with toks one x s) (read_with toks two x s) (λ p. turns toks (length toks - p.1.at) test (read_with toks one more)
        (place_at toks s.at) p.0 p.1)
        (λ p. turns toks (length toks - p.1.at) test (read_with toks two more) (place_at toks s.at) p.0 p.1) (keeps one two h x s)
        (λ a t. keeps_turns (length toks - t.at) test (read_with toks one more) (read_with toks two more) (λ u. keeps one two h more u)
        (place_at toks s.at) a t)
    keeps one two h (Inner n) s = h n s
    keeps one two h (Made f) s = keeps_bind (read_with toks one f s) (read_with toks two f s) (λ p. Ok (grown (p.0 p.1.tree) p.1))
        (λ p. Ok (grown (p.0 p.1.tree) p.1)) (keeps one two h f s) (λ g t. inr refl)

    inner_more : (room : ℕ) (n : N) (s : State G) → Keeps (read_inner law.grammar toks room n s) (read_inner law.grammar toks (suc room) n s)
    inner_more zero n s = by (passes (law.grammar.begins n) (slice_get toks s.at)) (read_with toks (read_inner law.grammar toks 0) (law.grammar.form n) s)
      where
        by : (b : Bool) (r : Result (ℕ × State G) Refusal) → Keeps (cond b (Err (Deep s.at)) (Err (Wrong s.at))) (cond b r (Err (Wrong s.at)))
        by true r = inl tt
        by false r = inr refl
    inner_more (suc room) n s = keeps_either (passes (law.grammar.begins n) (slice_get toks s.at)) _ _ _ _
        (keeps (read_inner law.grammar toks room) (read_inner law.grammar toks (suc room)) (λ m u. inner_more room m u) (law.grammar.form n) s) (inr refl)

    -- a wrong token is wrong with any more room
    pub still_wrong : {A : Type 0} (more room e : ℕ) (f : Form K N G A) (s : State G) → read law.grammar toks room f s ≡ Err (Wrong e)
        → read law.grammar toks (room + more) f s ≡ Err (Wrong e)
    still_wrong zero room e f s is = let same : room ≡ room + 0 = omega arith in subst (λ (r : ℕ). read law.grammar toks r f s ≡ Err (Wrong e)) same is
    still_wrong (suc more) room e f s is =
        let before = still_wrong more room e f s is in
        let next : read law.grammar toks (suc (room + more)) f s ≡ Err (Wrong e) =
        elim (keeps (read_inner law.grammar toks (room + more)) (read_inner law.grammar toks (suc (room + more))) (inner_more (room + more)) f s) [
          | inl deep ↦ absurd (subst (λ r. IsDeepEnd r) before deep)
          | inr same ↦ same ∙ before
        ] in
        let sum : suc (room + more) ≡ room + suc more = omega arith in
        subst (λ (r : ℕ). read law.grammar toks r f s ≡ Err (Wrong e)) sum next
