-- The containers' contents as tables.
use Rattle.std.proofs.Common.{◌≡◌, ℕ, ◌+◌, ◌-◌, List, [], ◌∷◌, ◌++◌, map, Option, Some, None, refl, sym, ◌∙◌, ap, Bool, true, false, cond, inl, inr}
use Rattle.std.specs.Prelude.{◌==◌, nat_eq, is_some, IsSome}
use Rattle.std.specs.Option.{option_map}
use Rattle.std.specs.Str.{bytes_eq}
use Rattle.std.specs.Ordering.{nat_cmp, eq_by_cmp}
use Rattle.std.specs.Cmp.{nat_cmp_total, eq_by_cmp_equiv}
use Rattle.std.specs.Cmp.Lexicographic.{slice_cmp, nat_list_cmp_total}
use Rattle.std.specs.FinMap.{FinMap, get, insert, remove, entries, len, find, get-empty, get-insert, get-remove, get-entries, get-from_entries}
use Rattle.std.specs.FinMap.{len-insert, len-remove, nat_cmp-IsAntisymmetric, slice_cmp-IsAntisymmetric}
use Rattle.std.proofs.lemmas.Bool.{cases_eq, eq-eqb, ne_eqb}
use Rattle.vg_map.specs.Map.{Indices}
use Rattle.vg_dchain.specs.ChainState.{time_at, others}
use Rattle.vg_dchain.proofs.TimeLemmas.{time_at-push_same, time_at-push_other, time_at-others_same, time_at-others_other}
use Rattle.vg_abs.specs.Effects.{without}
use Rattle.vg_abs.proofs.Forgetting.{forgets}
use Rattle.vg_abs.proofs.Starting.{same_test}
use Rattle.vg_plain.specs.PlainTables.{joined}
use Rattle.vg_plain.proofs.ListPlaces.{ties}
use Rattle.vg_plain.proofs.KeySlots.{same_keys, put_at}
use Rattle.vg_plain.proofs.Places.{same_numbers}
use Rattle.vg_store.specs.RealTables.{key_table, age_table}

abbrev some_of : {K : Type 0} → K × ℕ → K × Option ℕ
some_of entry = (entry.0, Some entry.1)

-- keys
found_in : (key : List ℕ) (es : List (List ℕ × ℕ)) → find (slice_cmp nat_cmp) key (map some_of es) ≡ option_map Some (find (slice_cmp nat_cmp) key es)
found_in key [] = refl
found_in key (e ∷ es) = elim (eq_by_cmp (slice_cmp nat_cmp) key e.0)
    as (λ b. cond b (Some (Some e.1)) (find (slice_cmp nat_cmp) key (map some_of es)) ≡ option_map Some (cond b (Some e.1) (find (slice_cmp nat_cmp) key es))) [
      | true ↦ refl
      | false ↦ found_in key es
    ]

pub key_is : (m : Indices) (key : List ℕ) → get (key_table m) key ≡ option_map Some (get m key)
key_is m key = get-from_entries nat_list_cmp_total (map some_of (entries m)) key ∙ found_in key (entries m)
    ∙ ap (λ o. option_map Some o) (sym (get-entries m key))

pub joined_some : (found : Option ℕ) → joined (option_map Some found) ≡ found
joined_some None = refl
joined_some (Some x) = refl

pub key_joined : (m : Indices) (key : List ℕ) → joined (get (key_table m) key) ≡ get m key
key_joined m key = ap joined (key_is m key) ∙ joined_some (get m key)

pub index_put : (m : Indices) (key other : List ℕ) (index : ℕ) → get (insert m key index) other ≡ cond (bytes_eq other key) (Some index) (get m other)
index_put m key other index = get-insert nat_list_cmp_total m key index other ∙ ap (λ b. cond b (Some index) (get m other)) (ties other key)

pub index_erased : (m : Indices) (key other : List ℕ) → get (remove m key) other ≡ cond (bytes_eq key other) None (get m other)
index_erased m key other = get-remove nat_list_cmp_total m key other ∙ ap (λ b. cond b None (get m other))
    ((eq_by_cmp_equiv nat_list_cmp_total).symm other key ∙ ties key other)

some_through : (b : Bool) (index : ℕ) (found : Option ℕ) → option_map Some (cond b (Some index) found) ≡ cond b (Some (Some index)) (option_map Some found)
some_through true index found = refl
some_through false index found = refl

none_through : (b : Bool) (found : Option ℕ) → option_map Some (cond b None found) ≡ cond b None (option_map Some found)
none_through true found = refl
none_through false found = refl

pub table_put : (m : Indices) (key : List ℕ) (index : ℕ) → key_table (insert m key index) ≡ insert (key_table m) key (Some index)
table_put m key index = same_keys _ _ (λ other. key_is (insert m key index) other ∙ ap (λ o. option_map Some o) (index_put m key other index)
    ∙ some_through (bytes_eq other key) index (get m other) ∙ ap (λ o. cond (bytes_eq other key) (Some (Some index)) o) (sym (key_is m other))
    ∙ sym (put_at (key_table m) key other (Some index)))

pub table_erased : (m : Indices) (key : List ℕ) → key_table (remove m key) ≡ without true (bytes_eq key) (key_table m)
table_erased m key = same_keys _ _ (λ other. key_is (remove m key) other ∙ ap (λ o. option_map Some o) (index_erased m key other)
    ∙ none_through (bytes_eq key other) (get m other) ∙ ap (λ o. cond (bytes_eq key other) None o) (sym (key_is m other))
    ∙ sym ((forgets nat_list_cmp_total (slice_cmp-IsAntisymmetric nat_cmp-IsAntisymmetric)).of_full (bytes_eq key) (key_table m) other))

pub size_put : (m : Indices) (key : List ℕ) (index : ℕ) → get m key ≡ None → len (insert m key index) ≡ len m + 1
size_put m key index absent = len-insert nat_list_cmp_total m key index ∙ ap (λ o. cond (is_some o) (len m) (len m + 1)) absent

pub size_erased : (m : Indices) (key : List ℕ) → IsSome (get m key) → len (remove m key) ≡ len m - 1
size_erased m key present = len-remove nat_list_cmp_total m key ∙ ap (λ b. cond b (len m - 1) (len m)) present

-- times
put_number : {X : Type 0} (table : FinMap nat_cmp X) (k q : ℕ) (x : X) → get (insert table k x) q ≡ cond (k == q) (Some x) (get table q)
put_number table k q x = get-insert nat_cmp_total table k x q ∙ ap (λ b. cond b (Some x) (get table q)) (same_test q k)

pub age_is : (ages : List (ℕ × ℕ)) (q : ℕ) → get (age_table ages) q ≡ option_map Some (time_at ages q)
age_is [] q = get-empty nat_cmp q
age_is (age ∷ ages) q = put_number (age_table ages) age.0 q (Some age.1) ∙ ap (λ o. cond (age.0 == q) (Some (Some age.1)) o) (age_is ages q)
    ∙ sym (some_through (age.0 == q) age.1 (time_at ages q))

pub age_joined : (ages : List (ℕ × ℕ)) (q : ℕ) → joined (get (age_table ages) q) ≡ time_at ages q
age_joined ages q = ap joined (age_is ages q) ∙ joined_some (time_at ages q)

pub time_pushed : (ages : List (ℕ × ℕ)) (i now q : ℕ) → time_at ages i ≡ None → time_at (ages ++ (i, now) ∷ []) q ≡ cond (i == q) (Some now) (time_at ages q)
time_pushed ages i now q none = elim (cases_eq i q) [
  | inl same ↦ ap (λ (k : ℕ). time_at (ages ++ (i, now) ∷ []) k) (sym same) ∙ time_at-push_same ages i now none
      ∙ sym (ap (λ b. cond b (Some now) (time_at ages q)) (eq-eqb i q same))
  | inr ne ↦ time_at-push_other ages i now q ne ∙ sym (ap (λ b. cond b (Some now) (time_at ages q)) (ne_eqb i q ne))
]

pub time_freed : (ages : List (ℕ × ℕ)) (i q : ℕ) → time_at (others ages i) q ≡ cond (i == q) None (time_at ages q)
time_freed ages i q = elim (cases_eq i q) [
  | inl same ↦ ap (λ (k : ℕ). time_at (others ages i) k) (sym same) ∙ time_at-others_same ages i
      ∙ sym (ap (λ b. cond b None (time_at ages q)) (eq-eqb i q same))
  | inr ne ↦ time_at-others_other ages i q ne ∙ sym (ap (λ b. cond b None (time_at ages q)) (ne_eqb i q ne))
]

pub ages_pushed : (ages : List (ℕ × ℕ)) (i now : ℕ) → time_at ages i ≡ None → age_table (ages ++ (i, now) ∷ []) ≡ insert (age_table ages) i (Some now)
ages_pushed ages i now none = same_numbers _ _ (λ q. age_is (ages ++ (i, now) ∷ []) q ∙ ap (λ o. option_map Some o) (time_pushed ages i now q none)
    ∙ some_through (i == q) now (time_at ages q) ∙ ap (λ o. cond (i == q) (Some (Some now)) o) (sym (age_is ages q))
    ∙ sym (put_number (age_table ages) i q (Some now)))

pub ages_freed : (ages : List (ℕ × ℕ)) (i : ℕ) → age_table (others ages i) ≡ without true (nat_eq i) (age_table ages)
ages_freed ages i = same_numbers _ _ (λ q. age_is (others ages i) q ∙ ap (λ o. option_map Some o) (time_freed ages i q)
    ∙ none_through (i == q) (time_at ages q) ∙ ap (λ o. cond (i == q) None o) (sym (age_is ages q))
    ∙ sym ((forgets nat_cmp_total nat_cmp-IsAntisymmetric).of_full (nat_eq i) (age_table ages) q))

twice : (b : Bool) (now : ℕ) (found : Option ℕ) → cond b (Some now) (cond b None found) ≡ cond b (Some now) found
twice true now found = refl
twice false now found = refl

pub ages_moved : (ages : List (ℕ × ℕ)) (i now : ℕ) → age_table (others ages i ++ (i, now) ∷ []) ≡ insert (age_table ages) i (Some now)
ages_moved ages i now = same_numbers _ _ (λ q. age_is (others ages i ++ (i, now) ∷ []) q
    ∙ ap (λ o. option_map Some o) (time_pushed (others ages i) i now q (time_at-others_same ages i)
    ∙ ap (λ o. cond (i == q) (Some now) o) (time_freed ages i q) ∙ twice (i == q) now (time_at ages q))
    ∙ some_through (i == q) now (time_at ages q) ∙ ap (λ o. cond (i == q) (Some (Some now)) o) (sym (age_is ages q))
    ∙ sym (put_number (age_table ages) i q (Some now)))
