-- A clause read literal by literal: what the part that was read forces, and one literal more.
use Rattle.std.proofs.Common.{◌≡◌, ℕ, zero, suc, ◌+◌, ◌<◌, List, [], ◌∷◌, ◌++◌, length, take, get_or, Option, Some, None, Bool, true, false, refl}
use Rattle.std.proofs.Common.{sym, ap, ◌∙◌, inl, inr, ◌⊎◌}
use Rattle.std.specs.Prelude.{ℤ, neg_ℤ, ◌||◌, cond}
use Rattle.std.specs.Ordering.{int_eq}
use Rattle.std.proofs.lemmas.Bool.{cases_Bool, or_cases, or_left, or_right, false≢true}
use Rattle.std.proofs.lemmas.List.{take_more}
use Rattle.std.proofs.lemmas.List.Folds.{list_any-append, list_any_at}
use Rattle.vg_cnf.specs.Clauses.{holds}
use Rattle.vg_cnf.proofs.Steps.{clash, same_literal, same_test}
use Rattle.vg_cnf.specs.Orders.{Settled, by_true, by_two, negations}
use Rattle.vg_rup.specs.Assignment.{SameLiterals}
use Rattle.vg_rup.specs.Propagation.{AreFalse, IsForced}

-- ---- the first literals of a list

-- one more
pub one_more : (c : List ℤ) (i : ℕ) (x : ℤ) → i < length c → x ≡ get_or c i x → take (i + 1) c ≡ take i c ++ x ∷ []
one_more c i x h e = take_more c i x h ∙ ap (λ y. take i c ++ y ∷ []) (sym e)

or_false : (b : Bool) → (b || false) ≡ b
or_false true = refl
or_false false = refl

or_swap : (a b : Bool) → (a || b) ≡ (b || a)
or_swap true true = refl
or_swap true false = refl
or_swap false true = refl
or_swap false false = refl

or_cond : (b x : Bool) → cond b true x ≡ (b || x)
or_cond true x = refl
or_cond false x = refl

int_eq-swap : (k l : ℤ) → int_eq k l ≡ int_eq l k
int_eq-swap k l =
    elim (cases_Bool (int_eq k l)) [
      | inl same ↦ same ∙ sym (same_test l k (sym (same_literal k l same)))
      | inr apart ↦
          elim (cases_Bool (int_eq l k)) [
            | inl same ↦ clash (int_eq k l) (same_test k l (sym (same_literal l k same))) apart
            | inr other ↦ apart ∙ sym other
          ]
    ]

-- what a set holds with one more
pub holds-added : (old keys : List ℤ) (l k : ℤ) → old ≡ keys → cond (int_eq l k) true (holds old k) ≡ holds (l ∷ keys) k
holds-added old keys l k e =
    or_cond (int_eq l k) (holds old k) ∙ ap (λ b. b || holds old k) (int_eq-swap l k) ∙ ap (λ ks. int_eq k l || holds ks k) e

pub holds-push : (p : List ℤ) (x k : ℤ) → holds (p ++ x ∷ []) k ≡ (holds p k || int_eq k x)
holds-push p x k = list_any-append (int_eq k) p (x ∷ []) ∙ ap (λ b. holds p k || b) (or_false (int_eq k x))

-- what is held with one more is held before or that one
held_more : (c : List ℤ) (i : ℕ) (x k : ℤ) → i < length c → x ≡ get_or c i x → holds (take (i + 1) c) k ≡ true → (holds (take i c) k ≡ true)
    ⊎ (int_eq k x ≡ true)
held_more c i x k h e held =
    or_cases (holds (take i c) k) (int_eq k x) (sym (ap (λ p. holds p k) (one_more c i x h e) ∙ holds-push (take i c) x k) ∙ held)

more_held : (c : List ℤ) (i : ℕ) (x k : ℤ) → i < length c → x ≡ get_or c i x → (holds (take i c) k || int_eq k x) ≡ true → holds (take (i + 1) c) k ≡ true
more_held c i x k h e held = ap (λ p. holds p k) (one_more c i x h e) ∙ holds-push (take i c) x k ∙ held

pub held_take : (c : List ℤ) (i : ℕ) (k : ℤ) → holds (take i c) k ≡ true → holds c k ≡ true
held_take c zero k e = absurd (false≢true e)
held_take [] (suc i) k e = e
held_take (x ∷ c) (suc i) k e =
    elim (or_cases (int_eq k x) (holds (take i c) k) e) [
      | inl here ↦ or_left (int_eq k x) (holds c k) here
      | inr later ↦ or_right (int_eq k x) (holds c k) (held_take c i k later)
    ]

pub held_at : (c : List ℤ) (i : ℕ) (x : ℤ) → i < length c → x ≡ get_or c i x → holds c x ≡ true
held_at c i x h e = list_any_at (int_eq x) c i x h (same_test x (get_or c i x) e)

-- ---- what the literals read so far force

-- each literal of the list is false but the open one, if there is one
abbrev pub OnlyOpen : List ℤ → List ℤ → Option ℤ → Type 0
OnlyOpen made c None = AreFalse made c
OnlyOpen made c (Some l) = IsForced made c l

pub nothing_read : (made : List ℤ) → AreFalse made []
nothing_read made k e = absurd (false≢true e)

-- a false literal forces nothing more
pub reads_false : (made c : List ℤ) (i : ℕ) (x : ℤ) (unset : Option ℤ) → i < length c → x ≡ get_or c i x → OnlyOpen made (take i c) unset
    → holds made (neg_ℤ x) ≡ true →
    OnlyOpen made (take (i + 1) c) unset
reads_false made c i x None h e only is_false =
    λ k held.
    elim (held_more c i x k h e held) [
      | inl before ↦ only k before
      | inr is_x ↦ ap (λ y. holds made (neg_ℤ y)) (same_literal k x is_x) ∙ is_false
    ]
reads_false made c i x (Some l) h e only is_false =
    record {
      held = more_held c i x l h e (or_left (holds (take i c) l) (int_eq l x) only.held);
      not_true = only.not_true;
      not_false = only.not_false;
      others_false =
          λ k held other.
          elim (held_more c i x k h e held) [
            | inl before ↦ only.others_false k before other
            | inr is_x ↦ ap (λ y. holds made (neg_ℤ y)) (same_literal k x is_x) ∙ is_false
          ];
    }

-- the first that is neither true nor false
pub reads_open : (made c : List ℤ) (i : ℕ) (x : ℤ) → i < length c → x ≡ get_or c i x → AreFalse made (take i c) → holds made x ≡ false
    → holds made (neg_ℤ x) ≡ false →
    IsForced made (take (i + 1) c) x
reads_open made c i x h e all not_true not_false =
    record {
      held = more_held c i x x h e (or_right (holds (take i c) x) (int_eq x x) (same_test x x refl));
      not_true = not_true;
      not_false = not_false;
      others_false =
          λ k held other.
          elim (held_more c i x k h e held) [
            | inl before ↦ all k before
            | inr is_x ↦ absurd (false≢true (sym other ∙ is_x))
          ];
    }

-- the same again
pub reads_again : (made c : List ℤ) (i : ℕ) (x l : ℤ) → i < length c → x ≡ get_or c i x → IsForced made (take i c) l → l ≡ x → IsForced made (take (i + 1) c) l
reads_again made c i x l h e only same =
    record {
      held = more_held c i x l h e (or_left (holds (take i c) l) (int_eq l x) only.held);
      not_true = only.not_true;
      not_false = only.not_false;
      others_false =
          λ k held other.
          elim (held_more c i x k h e held) [
            | inl before ↦ only.others_false k before other
            | inr is_x ↦ absurd (false≢true (sym other ∙ same_test k l (same_literal k x is_x ∙ sym same)))
          ];
    }

-- a second one that isn't false
pub reads_two : (made c : List ℤ) (i : ℕ) (x l : ℤ) → i < length c → x ≡ get_or c i x → IsForced made (take i c) l → int_eq l x ≡ false
    → holds made (neg_ℤ x) ≡ false →
    Settled made c
reads_two made c i x l h e only apart not_false =
    by_two l x (held_take c i l only.held) (held_at c i x h e) apart only.not_false not_false

pub reads_true : (made c : List ℤ) (i : ℕ) (x : ℤ) → i < length c → x ≡ get_or c i x → holds made x ≡ true → Settled made c
reads_true made c i x h e is_true = by_true x (held_at c i x h e) is_true

-- ---- the negations of the literals read so far

negations-push : (p : List ℤ) (x : ℤ) → negations (p ++ x ∷ []) ≡ negations p ++ neg_ℤ x ∷ []
negations-push [] x = refl
negations-push (y ∷ p) x = ap (λ ys. neg_ℤ y ∷ ys) (negations-push p x)

pub reads_negation : (made made2 c : List ℤ) (i : ℕ) (x : ℤ) → i < length c → x ≡ get_or c i x → SameLiterals made (negations (take i c))
    → SameLiterals made2 (neg_ℤ x ∷ made) →
    SameLiterals made2 (negations (take (i + 1) c))
reads_negation made made2 c i x h e before added k =
    added k
    ∙ ap (λ b. int_eq k (neg_ℤ x) || b) (before k)
    ∙ or_swap (int_eq k (neg_ℤ x)) (holds (negations (take i c)) k)
    ∙ sym (holds-push (negations (take i c)) (neg_ℤ x) k)
    ∙ ap (λ p. holds p k) (sym (negations-push (take i c) x))
    ∙ ap (λ p. holds (negations p) k) (sym (one_more c i x h e))
