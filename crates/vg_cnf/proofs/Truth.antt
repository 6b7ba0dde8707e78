-- Loops over clauses, against what the clauses' truth is.
use Rattle.std.proofs.Common.{◌≡◌, ℕ, suc, ◌+◌, List, ◌∷◌, drop, Some, Bool, true, false, sym, ap, ◌∙◌, add-one}
use Rattle.std.specs.Prelude.{ℤ, ◌&&◌, slice_get}
use Rattle.std.proofs.Math.Seq.{drop-cons}
use Rattle.std.proofs.lemmas.Option.{slice_get_within, get_or_from_slice_get}
use Rattle.vg_cnf.specs.Clauses.{makes_true, makes_all_true}

-- the items from a place on begin with the item there
pub drop-at : {A : Type 0} (xs : List A) (i : ℕ) (x : A) → slice_get xs i ≡ Some x → drop i xs ≡ x ∷ drop (i + 1) xs
drop-at xs i x e =
    drop-cons xs i x (slice_get_within xs i x e)
    ∙ ap (λ y. y ∷ drop (suc i) xs) (get_or_from_slice_get xs i x x e)
    ∙ ap (λ n. x ∷ drop n xs) (sym (add-one i))

pub true_so_far : (values : List Bool) (clauses : List (List ℤ)) (i : ℕ) (c : List ℤ) (all : Bool) → slice_get clauses i ≡ Some c → makes_true values c ≡ true →
    makes_all_true values (drop i clauses) ≡ all → makes_all_true values (drop (i + 1) clauses) ≡ all
true_so_far values clauses i c all at here before =
    sym (ap (λ b. b && makes_all_true values (drop (i + 1) clauses)) here) ∙ sym (ap (makes_all_true values) (drop-at clauses i c at)) ∙ before

pub false_at : (values : List Bool) (clauses : List (List ℤ)) (i : ℕ) (c : List ℤ) (all : Bool) → slice_get clauses i ≡ Some c → makes_true values c ≡ false →
    makes_all_true values (drop i clauses) ≡ all → all ≡ false
false_at values clauses i c all at here before =
    sym before ∙ ap (makes_all_true values) (drop-at clauses i c at) ∙ ap (λ b. b && makes_all_true values (drop (i + 1) clauses)) here
