-- Chains, turn by turn, as a loop reads them.
use Rattle.std.proofs.Common.{◌≡◌, ◌∙◌, ◌<◌, ◌≤◌, ◌+◌, ◌-◌, ℕ, zero, suc, Bool, true, false, List, length, slice_get, Option, Some, None, Result, Ok}
use Rattle.std.proofs.Common.{Err, refl, sym, ap, arith}
use Rattle.std.proofs.lemmas.Bool.{false≢true}
use Rattle.std.proofs.lemmas.Option.{slice_get_within}
use Rattle.vg_forms.specs.Forms.{Form, Chain, Growth}
use Rattle.vg_forms.specs.Places.{State, place_at, passes}
use Rattle.vg_forms.specs.Reading.{Refusal, Reads, ◌>>=◌, turn, turns, read_with}
use Rattle.vg_forms.specs.declared.token.Token.{Token}
use Rattle.vg_forms.proofs.Checks.{Law}

module _ {K N G : Type 0} (law : Law K N G) where
  -- what a chain's first turns leave to read, with turns enough
  pub record Going {A : Type 0} (toks : List (Token K)) (test : Token K → Bool) (more : Reads G (ℕ → A → Growth G A)) (at : ℕ) (a : A) (s : State G)
      (whole : Result (A × State G) Refusal) : Type 0 where
    pub left : ℕ
    pub enough : length toks ≤ left + s.at
    pub is : turns toks left test more at a s ≡ whole

  some_at : (toks : List (Token K)) (test : Token K → Bool) (i : ℕ) (o : Option (Token K)) → slice_get toks i ≡ o → passes test o ≡ true
      → i < length toks
  some_at toks test i None is so = absurd (false≢true so)
  some_at toks test i (Some t) is so = slice_get_within toks i t is

  pub some_next : (toks : List (Token K)) (test : Token K → Bool) (i : ℕ) → passes test (slice_get toks i) ≡ true → i < length toks
  some_next toks test i e = some_at toks test i (slice_get toks i) refl e

  turn-first : {A : Type 0} (toks : List (Token K)) (n : ℕ) (test : Token K → Bool) (more : Reads G (ℕ → A → Growth G A)) (at : ℕ) (a : A)
      (s : State G)
      → passes test (slice_get toks s.at) ≡ true → 0 < n
      → turns toks n test more at a s ≡ (turn more at a s >>= λ q. turns toks (n - 1) test more at q.0 q.1)
  turn-first toks zero test more at a s so some = absurd (omega (arith, some))
  turn-first toks (suc n) test more at a s so some = let less : suc n - 1 ≡ n = omega arith in rw (so, less) refl

  pub started : {A : Type 0} (toks : List (Token K)) (inner : N → Reads G ℕ) (test : Token K → Bool) (x : Form K N G A) (more : Form K N G (ℕ
      → A → Growth G A))
      (s : State G) (a : A) (t : State G)
      → read_with toks inner x s ≡ Ok (a, t) → Going toks test (read_with toks inner more) (place_at toks s.at) a t (read_with toks inner
      (Chain test x more) s)
  started toks inner test x more s a t e = record {
    left = length toks - t.at;
    enough = omega arith;
    is = sym (ap (λ r. r >>= λ p. turns toks (length toks - p.1.at) test (read_with toks inner more) (place_at toks s.at) p.0 p.1) e);
  }

  module _ {A : Type 0} (toks : List (Token K)) (test : Token K → Bool) (more : Reads G (ℕ → A → Growth G A)) (at : ℕ) (a : A) (s : State G)
      (whole : Result (A × State G) Refusal) (going : Going toks test more at a s whole) where
    pub ended : passes test (slice_get toks s.at) ≡ false → whole ≡ Ok (a, s)
    ended unless = sym going.is ∙ none going.left
      where
        none : (n : ℕ) → turns toks n test more at a s ≡ Ok (a, s)
        none zero = refl
        none (suc n) = rw unless refl

    goes : passes test (slice_get toks s.at) ≡ true → (turn more at a s >>= λ q. turns toks (going.left - 1) test more at q.0 q.1) ≡ whole
    goes so = sym (turn-first toks going.left test more at a s so (omega (arith, going.enough, some_next toks test s.at so))) ∙ going.is

    pub failed : (e : Refusal) → passes test (slice_get toks s.at) ≡ true → turn more at a s ≡ Err e → whole ≡ Err e
    failed e so is = sym (goes so) ∙ ap (λ r. r >>= λ q. turns toks (going.left - 1) test more at q.0 q.1) is

    pub turned : (b : A) (t : State G) → passes test (slice_get toks s.at) ≡ true → turn more at a s ≡ Ok (b, t) → s.at < t.at
        → Going toks test more at b t whole
    turned b t so is on = record {
      left = going.left - 1;
      enough = omega (arith, going.enough, on, some_next toks test s.at so);
      is = sym (ap (λ r. r >>= λ q. turns toks (going.left - 1) test more at q.0 q.1) is) ∙ goes so;
    }
