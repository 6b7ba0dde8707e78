-- What a table tells after some of its keys were forgotten.
use Rattle.std.proofs.Common.{◌≡◌, ℕ, List, [], ◌∷◌, map, Bool, true, false, ◌&&◌, not, T, Option, Some, None, refl, sym, ◌∙◌, ap, subst, cond}
use Rattle.std.specs.Option.{option_map}
use Rattle.std.specs.declared.cmp.Ordering.{Ordering}
use Rattle.std.specs.declared.cmp.Ordering.TheVariants.{Less, Equal, Greater}
use Rattle.std.specs.Ordering.{eq_by_cmp, is_eq, is_lt}
use Rattle.std.specs.Cmp.{IsTotalOrder}
use Rattle.std.specs.FinMap.{FinMap, IsAntisymmetric, get, find, is_sorted, entries, entries_sorted, get-entries, get-from_sorted, get-retain_keys}
use Rattle.std.specs.FinMap.Entries.{below_all}
use Rattle.vg_abs.specs.Effects.{without, Forgets}

module _ {K : Type 0} (R : K → K → Ordering) (gone : K → Bool) where
  -- an entry whose key may be forgotten
  abbrev pub told : K × Option ℕ → K × Option ℕ
  told entry = (entry.0, cond (gone entry.0) None entry.1)

  below_told : (x : K) (es : List (K × Option ℕ)) → below_all R x (map told es) ≡ below_all R x es
  below_told x [] = refl
  below_told x (e ∷ es) = ap (λ b. is_lt (R x e.0) && b) (below_told x es)

  sorted_told : (es : List (K × Option ℕ)) → is_sorted R (map told es) ≡ is_sorted R es
  sorted_told [] = refl
  sorted_told (e ∷ es) = ap (λ b. b && is_sorted R (map told es)) (below_told e.0 es) ∙ ap (λ b. below_all R e.0 es && b) (sorted_told es)

  equal : (o : Ordering) → is_eq o ≡ true → o ≡ Equal
  equal Less e = absurd (cc)
  equal Equal e = refl
  equal Greater e = absurd (cc)

  find_step : IsAntisymmetric R → (q : K) (e : K × Option ℕ) (b : Bool) (rest more : Option (Option ℕ)) → eq_by_cmp R q e.0 ≡ b
      → rest ≡ option_map (λ answer. cond (gone q) None answer) more →
      cond b (Some (cond (gone e.0) None e.1)) rest ≡ option_map (λ answer. cond (gone q) None answer) (cond b (Some e.1) more)
  find_step same q e true rest more tied is = ap (λ k. Some (cond (gone k) None e.1)) (sym (same q e.0 (equal (R q e.0) tied)))
  find_step same q e false rest more tied is = is

  find_told : IsAntisymmetric R → (q : K) (es : List (K × Option ℕ)) → find R q (map told es) ≡ option_map (λ answer. cond (gone q) None answer) (find R q es)
  find_told same q [] = refl
  find_told same q (e ∷ es) = find_step same q e (eq_by_cmp R q e.0) (find R q (map told es)) (find R q es) refl (find_told same q es)

  pub of_part : IsAntisymmetric R → (table : FinMap R (Option ℕ)) (q : K) → get (without false gone table) q ≡ option_map
      (λ answer. cond (gone q) None answer) (get table q)
  of_part same table q =
      get-from_sorted R (map told (entries table)) q (subst T (sym (sorted_told (entries table))) (entries_sorted table))
      ∙ find_told same q (entries table) ∙ ap (λ found. option_map (λ answer. cond (gone q) None answer) found) (sym (get-entries table q))

turned : {A : Type 0} (b : Bool) (x y : A) → cond (not b) x y ≡ cond b y x
turned true x y = refl
turned false x y = refl

pub forgets : {K : Type 0} {R : K → K → Ordering} → IsTotalOrder R → IsAntisymmetric R → Forgets R
forgets {R = R} total same = record {
  of_full = λ gone table k. get-retain_keys table (λ x. not (gone x)) k (λ x tied. ap (λ y. not (gone y)) (sym (same k x tied)))
      ∙ turned (gone k) (get table k) None;
  of_part = λ gone table k. of_part R gone same table k;
}
