-- What a full state's tables forget.
use Rattle.std.proofs.Common.{◌≡◌, ◌+◌, ◌<◌, ◌≤◌, ℕ, List, ◌∷◌, length, drop, get_or, Option, None, Bool, true, false, ◌&&◌, ◌||◌, cond}
use Rattle.std.proofs.Common.{refl, sym, ◌∙◌, ap, inl, inr, drop-cons, add-one}
use Rattle.std.specs.Prelude.{nat_eq, nat_lt}
use Rattle.std.specs.List.{list_any}
use Rattle.std.specs.Str.{bytes_eq}
use Rattle.std.specs.declared.cmp.Ordering.{Ordering}
use Rattle.std.specs.Ordering.{nat_cmp, eq_by_cmp}
use Rattle.std.specs.Cmp.{IsTotalOrder, nat_cmp_total, eq_by_cmp_equiv}
use Rattle.std.specs.Cmp.Lexicographic.{slice_cmp, nat_list_cmp_total}
use Rattle.std.specs.FinMap.{FinMap, IsAntisymmetric, remove, get, get-remove, same_map, nat_cmp-IsAntisymmetric}
use Rattle.std.specs.FinMap.{slice_cmp-IsAntisymmetric}
use Rattle.std.proofs.lemmas.Map.Text.{is_eq-slice_cmp}
use Rattle.std.proofs.lemmas.List.{drop_all}
use Rattle.std.proofs.lemmas.Bool.{cases_eq, eq-eqb, ne_eqb, lt-ltb, le-ltb}
use Rattle.vg_abs.specs.Tables.{KeyTable, TimeTable, CellTable}
use Rattle.vg_abs.specs.Effects.{without, is_key_of}
use Rattle.vg_abs.proofs.Starting.{same_test}
use Rattle.vg_abs.proofs.Forgetting.{forgets}
use Rattle.vg_smean.specs.Expiring.{is_in_one, is_below, is_one_below}

-- ---- tables in general
module _ {K : Type 0} {R : K → K → Ordering} (total : IsTotalOrder R) (same : IsAntisymmetric R) where
  -- tables that forget the same are the same
  pub alike : (p q : K → Bool) (table other : FinMap R (Option ℕ)) → ((k : K) → cond (p k) None (get table k) ≡ cond (q k) None (get other k))
      → without true p table ≡ without true q other
  alike p q table other is = same_map total same _ _ (λ k. (forgets total same).of_full p table k ∙ is k ∙ sym ((forgets total same).of_full q other k))

  -- to forget nothing
  pub nothing : (table : FinMap R (Option ℕ)) → without true (λ k. false) table ≡ table
  nothing table = same_map total same _ _ (λ k. (forgets total same).of_full (λ k. false) table k)

  -- to forget some and then others
  pub twice : (p q : K → Bool) (table : FinMap R (Option ℕ)) → without true p (without true q table) ≡ without true (λ k. q k || p k) table
  twice p q table = same_map total same _ _ (λ k. (forgets total same).of_full p (without true q table) k
      ∙ ap (cond (p k) None) ((forgets total same).of_full q table k) ∙ either_way (p k) (q k) (get table k)
      ∙ sym ((forgets total same).of_full (λ k. q k || p k) table k)) where
        either_way : (a b : Bool) (x : Option (Option ℕ)) → cond a None (cond b None x) ≡ cond (b || a) None x
        either_way true true x = refl
        either_way true false x = refl
        either_way false true x = refl
        either_way false false x = refl

  removed : (table : FinMap R (Option ℕ)) (k : K) → remove table k ≡ without true (eq_by_cmp R k) table
  removed table k = same_map total same _ _ (λ q. get-remove total table k q ∙ ap (λ b. cond b None (get table q)) ((eq_by_cmp_equiv total).symm q k)
      ∙ sym ((forgets total same).of_full (eq_by_cmp R k) table q))

  -- a list of what is forgotten, one after another
  next : {A : Type 0} (test : A → K → Bool) (all : List A) (i : ℕ) (d : A) (table after : FinMap R (Option ℕ)) → i < length all
      → after ≡ without true (test (get_or all i d)) table →
      without true (λ k. list_any (λ a. test a k) (drop (i + 1) all)) after ≡ without true (λ k. list_any (λ a. test a k) (drop i all)) table
  next test all i d table after less is =
      let here : drop i all ≡ get_or all i d ∷ drop (i + 1) all = rw add-one (drop-cons all i d less) in
      ap (without true (λ k. list_any (λ a. test a k) (drop (i + 1) all))) is
      ∙ twice (λ k. list_any (λ a. test a k) (drop (i + 1) all)) (test (get_or all i d)) table
      ∙ ap (λ xs. without true (λ k. list_any (λ a. test a k) xs) table) (sym here)

  done : {A : Type 0} (test : A → K → Bool) (all : List A) (i : ℕ) (table : FinMap R (Option ℕ)) → length all ≤ i
      → without true (λ k. list_any (λ a. test a k) (drop i all)) table ≡ table
  done test all i table past =
      ap (λ xs. without true (λ k. list_any (λ a. test a k) xs) table) (drop_all i all past) ∙ nothing table

-- ---- keys
key_order : IsAntisymmetric (slice_cmp nat_cmp)
key_order = slice_cmp-IsAntisymmetric nat_cmp-IsAntisymmetric

pub key_goes : (keys : KeyTable) (key : List ℕ) → remove keys key ≡ without true (bytes_eq key) keys
key_goes keys key = removed nat_list_cmp_total key_order keys key ∙ ap (λ test. without true test keys) (λ i k. is_eq-slice_cmp key k i)

pub no_key_goes : (keys : KeyTable) → keys ≡ without true (is_key_of None) keys
no_key_goes keys = sym (nothing nat_list_cmp_total key_order keys)

pub key_next : (cells : CellTable) (indices : List ℕ) (i d : ℕ) (keys after total : KeyTable) → i < length indices
    → after ≡ without true (is_key_of (get cells (get_or indices i d))) keys → without true (is_in_one cells (drop i indices)) keys ≡ total
    → without true (is_in_one cells (drop (i + 1) indices)) after ≡ total
key_next cells indices i d keys after total less is so_far =
    next nat_list_cmp_total key_order (λ index key. is_key_of (get cells index) key) indices i d keys after less is ∙ so_far

pub keys_done : (cells : CellTable) (indices : List ℕ) (i : ℕ) (keys total : KeyTable) → length indices ≤ i
    → without true (is_in_one cells (drop i indices)) keys ≡ total → keys ≡ total
keys_done cells indices i keys total past so_far =
    sym (done nat_list_cmp_total key_order (λ index key. is_key_of (get cells index) key) indices i keys past) ∙ so_far

-- ---- times
pub swapped : (a b : ℕ) → nat_eq a b ≡ nat_eq b a
swapped a b = elim (cases_eq a b) [
  | inl same ↦ eq-eqb a b same ∙ sym (eq-eqb b a (sym same))
  | inr ne ↦ ne_eqb a b ne ∙ sym (ne_eqb b a (λ same. ne (sym same)))
]

pub time_goes : (times : TimeTable) (index : ℕ) → remove times index ≡ without true (nat_eq index) times
time_goes times index = removed nat_cmp_total nat_cmp-IsAntisymmetric times index
    ∙ ap (λ test. without true test times) (λ i k. (same_test index k ∙ swapped k index) i)

pub index_goes : (times : TimeTable) (capacity index : ℕ) → index < capacity → remove times index ≡ without true (is_below capacity index) times
index_goes times capacity index less = time_goes times index ∙ ap (λ test. without true test times) (λ i k. below k i) where
  kept : (a b : Bool) → b ≡ true → a ≡ (a && b)
  kept true b is = sym is
  kept false b is = refl

  below : (k : ℕ) → nat_eq index k ≡ is_below capacity index k
  below k = kept (nat_eq index k) (nat_lt index capacity) (lt-ltb index capacity less)

pub no_index_goes : (times : TimeTable) (capacity index : ℕ) → capacity ≤ index → times ≡ without true (is_below capacity index) times
no_index_goes times capacity index past =
    sym (nothing nat_cmp_total nat_cmp-IsAntisymmetric times) ∙ ap (λ test. without true test times) (λ i k. none k i) where
      lost : (a b : Bool) → b ≡ false → false ≡ (a && b)
      lost true b is = sym is
      lost false b is = refl

      none : (k : ℕ) → false ≡ is_below capacity index k
      none k = lost (nat_eq index k) (nat_lt index capacity) (le-ltb index capacity past)

pub time_next : (capacity : ℕ) (indices : List ℕ) (i d : ℕ) (times after total : TimeTable) → i < length indices
    → after ≡ without true (is_below capacity (get_or indices i d)) times → without true (is_one_below capacity (drop i indices)) times ≡ total
    → without true (is_one_below capacity (drop (i + 1) indices)) after ≡ total
time_next capacity indices i d times after total less is so_far =
    next nat_cmp_total nat_cmp-IsAntisymmetric (is_below capacity) indices i d times after less is ∙ so_far

pub times_done : (capacity : ℕ) (indices : List ℕ) (i : ℕ) (times total : TimeTable) → length indices ≤ i
    → without true (is_one_below capacity (drop i indices)) times ≡ total → times ≡ total
times_done capacity indices i times total past so_far =
    sym (done nat_cmp_total nat_cmp-IsAntisymmetric (is_below capacity) indices i times past) ∙ so_far
