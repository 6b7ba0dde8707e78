-- When lists tell what a table tells.
use Rattle.std.proofs.Common.{◌≡◌, ℕ, zero, suc, ◌+◌, ◌<◌, List, [], ◌∷◌, length, get_or, Option, Some, None, slice_get, refl, sym, ◌∙◌, ap, subst}
use Rattle.std.proofs.Common.{Bool, true, false, not, cond, inl, inr}
use Rattle.std.specs.Prelude.{is_some, is_none}
use Rattle.std.specs.Str.{bytes_eq}
use Rattle.std.specs.Ordering.{nat_cmp}
use Rattle.std.specs.Cmp.Lexicographic.{slice_cmp}
use Rattle.std.specs.FinMap.{get, find}
use Rattle.std.proofs.lemmas.Option.{slice_get-get_or, get_or_from_slice_get}
use Rattle.vg_abs.specs.Tables.{KeyTable}
use Rattle.vg_abs.specs.Agreement.{BothTell}
use Rattle.vg_abs.specs.Answers.{listed_or_none}
use Rattle.vg_plain.specs.PlainTables.{key_table}
use Rattle.vg_plain.proofs.ListPlaces.{some_is, none_some, bytes_same, ties}
use Rattle.vg_plain.proofs.KeySlots.{NotAt, put_at, bytes_cases, below_more}

-- a used slot's key is there
pub used_there : (indices : List (Option ℕ)) (keys : List (List ℕ)) (key : List ℕ) (i index : ℕ) → slice_get indices i ≡ Some (Some index)
    → slice_get keys i ≡ Some key → get (key_table indices keys) key ≡ None → ⊥
used_there [] keys key i index here there none = absurd (none_some (Some index) here)
used_there (x ∷ indices) [] key i index here there none = absurd (none_some key there)
used_there (None ∷ indices) (first ∷ keys) key zero index here there none = absurd (none_some index (some_is None (Some index) here))
used_there (None ∷ indices) (first ∷ keys) key (suc i) index here there none = used_there indices keys key i index here there none
used_there (Some other ∷ indices) (first ∷ keys) key zero index here there none =
    none_some (Some other) (sym none ∙ put_at (key_table indices keys) first key (Some other)
    ∙ ap (λ b. cond b (Some (Some other)) (get (key_table indices keys) key)) (ap (λ (k : List ℕ). bytes_eq key k) (some_is first key there) ∙ bytes_same key))
used_there (Some other ∷ indices) (first ∷ keys) key (suc i) index here there none = elim (bytes_cases key first) [
  | inl same ↦ none_some (Some other) (sym none ∙ put_at (key_table indices keys) first key (Some other)
      ∙ ap (λ b. cond b (Some (Some other)) (get (key_table indices keys) key)) (ap (λ (k : List ℕ). bytes_eq key k) (sym same) ∙ bytes_same key))
  | inr ne ↦ used_there indices keys key i index here there (sym (put_at (key_table indices keys) first key (Some other)
      ∙ ap (λ b. cond b (Some (Some other)) (get (key_table indices keys) key)) ne) ∙ none)
]

-- a used slot, whose key isn't listed
pub not_listed : (table : KeyTable) (indices : List (Option ℕ)) (keys : List (List ℕ)) (found : List ℕ) (i : ℕ) → i < length indices
    → is_some (get_or indices i None) ≡ true → slice_get keys i ≡ Some found → is_none (get table found) ≡ true →
    ((key : List ℕ) → get table key ≡ None → get (key_table indices keys) key ≡ None) → ⊥
not_listed table indices keys found i less used there none all = go (get_or indices i None) refl used (get table found) refl none
  where
    go : (index : Option ℕ) → get_or indices i None ≡ index → is_some index ≡ true → (listed : Option (Option ℕ)) → get table found ≡ listed
        → is_none listed ≡ true → ⊥
    go None is here listed told absent = absurd (cc)
    go (Some index) is here (Some answer) told absent = absurd (cc)
    go (Some index) is here None told absent = used_there indices keys found i index (slice_get-get_or indices i None less ∙ ap Some is) there (all found told)

pub listed_more : (table : KeyTable) (indices : List (Option ℕ)) (keys : List (List ℕ)) (found : List ℕ) (i : ℕ)
    → ((j : ℕ) → j < i → (key : List ℕ) → get table key ≡ None → NotAt indices keys key j) → slice_get keys i ≡ Some found →
    is_none (get table found) ≡ false → (j : ℕ) → j < i + 1 → (key : List ℕ) → get table key ≡ None → NotAt indices keys key j
listed_more table indices keys found i so_far there told = below_more (λ (j : ℕ). (key : List ℕ) → get table key ≡ None → NotAt indices keys key j) i so_far
    (λ key none index here is_key. absurd (let same : found ≡ key = some_is found key (sym there ∙ is_key) in
    let no : is_none (get table found) ≡ true = ap (λ (k : List ℕ). is_none (get table k)) same ∙ ap (λ o. is_none o) none in cc))

pub free_more : (table : KeyTable) (indices : List (Option ℕ)) (keys : List (List ℕ)) (i : ℕ)
    → ((j : ℕ) → j < i → (key : List ℕ) → get table key ≡ None → NotAt indices keys key j) →
    is_some (get_or indices i None) ≡ false → (j : ℕ) → j < i + 1 → (key : List ℕ) → get table key ≡ None → NotAt indices keys key j
free_more table indices keys i so_far free = below_more (λ (j : ℕ). (key : List ℕ) → get table key ≡ None → NotAt indices keys key j) i so_far
    (λ key none index here is_key. absurd (let is : get_or indices i None ≡ Some index = get_or_from_slice_get indices i (Some index) None here in
    let more : is_some (get_or indices i None) ≡ true = ap (λ (o : Option ℕ). is_some o) is in cc))

-- both at once
pub told_all : (full : Bool) (index : Option ℕ) (listed : Option (Option ℕ)) → BothTell (Some index) listed
    → (full ≡ true → listed ≡ None → index ≡ None) → BothTell (Some index) (listed_or_none full listed)
told_all full index (Some answer) told absent = told
told_all true index None told absent = absent refl refl
told_all false index None told absent = tt

pub told_part : (full : Bool) (index : Option ℕ) (listed : Option (Option ℕ)) → BothTell (Some index) (listed_or_none full listed)
    → BothTell (Some index) listed
told_part full index (Some answer) told = told
told_part full index None told = tt

pub told_full : (index : Option ℕ) (listed : Option (Option ℕ)) → BothTell (Some index) (listed_or_none true listed) → listed ≡ None → index ≡ None
told_full index (Some answer) told none = absurd (cc)
told_full index None told none = told

pub is_none_as : {X : Type 0} (o : Option X) (b : Bool) → is_some o ≡ not b → is_none o ≡ b
is_none_as None true is = refl
is_none_as None false is = absurd (cc)
is_none_as (Some x) true is = absurd (cc)
is_none_as (Some x) false is = refl

pub told_none : {X : Type 0} (x : X) (listed : Option X) → listed ≡ None → BothTell (Some x) listed
told_none x None none = tt
told_none x (Some y) none = absurd (cc)

-- the keys behind the first
pub told_more : (table : KeyTable) (index : List ℕ → Option ℕ) (first : List ℕ) (answer : Option ℕ) (rest : List (List ℕ × Option ℕ)) →
    ((key : List ℕ) → find (slice_cmp nat_cmp) key ((first, answer) ∷ rest) ≡ None → BothTell (Some (index key)) (get table key))
    → BothTell (Some (index first)) (get table first) →
    (key : List ℕ) → find (slice_cmp nat_cmp) key rest ≡ None → BothTell (Some (index key)) (get table key)
told_more table index first answer rest so_far here key none = elim (bytes_cases key first) [
  | inl same ↦ subst (λ (k : List ℕ). BothTell (Some (index k)) (get table k)) (sym same) here
  | inr ne ↦ so_far key (ap (λ b. cond b (Some answer) (find (slice_cmp nat_cmp) key rest)) (ties key first ∙ ne) ∙ none)
]
