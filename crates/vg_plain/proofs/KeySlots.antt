-- Slots as a table of keys.
use Rattle.std.proofs.Common.{◌≡◌, ℕ, zero, suc, ◌+◌, ◌<◌, ◌≤◌, List, [], ◌∷◌, length, set, get_or, Option, Some, None, slice_get, refl, sym, ◌∙◌, ap}
use Rattle.std.proofs.Common.{subst, arith, Bool, true, false, cond, inl, inr}
use Rattle.std.specs.Prelude.{count_by, is_some, ◌⊎◌, ◌&&◌, replicate}
use Rattle.std.proofs.lemmas.Bool.{cases_eq}
use Rattle.std.proofs.lemmas.List.Sums.{sum_by-cons}
use Rattle.std.proofs.lemmas.List.{length-set}
use Rattle.std.proofs.lemmas.Option.{slice_get_within, slice_get-get_or, get_or_from_slice_get}
use Rattle.std.specs.Str.{bytes_eq}
use Rattle.std.specs.Ordering.{nat_cmp}
use Rattle.std.specs.Cmp.Lexicographic.{slice_cmp, nat_list_cmp_total}
use Rattle.std.specs.FinMap.{get, insert, empty, get-empty, get-insert, same_map, slice_cmp-IsAntisymmetric, nat_cmp-IsAntisymmetric}
use Rattle.vg_abs.specs.Tables.{KeyTable}
use Rattle.vg_abs.specs.Effects.{without}
use Rattle.vg_abs.proofs.Forgetting.{forgets}
use Rattle.vg_plain.specs.PlainTables.{key_table, without_slots, joined}
use Rattle.vg_plain.proofs.ListPlaces.{some_is, none_some, set_here, set_other, bytes_same, bytes_true, ties}

-- no slot of a key at a place
abbrev pub NotAt : List (Option ℕ) → List (List ℕ) → List ℕ → ℕ → Type 0
NotAt indices keys key i = (index : ℕ) → slice_get indices i ≡ Some (Some index) → slice_get keys i ≡ Some key → ⊥

pub put_at : (table : KeyTable) (key other : List ℕ) (answer : Option ℕ) → get (insert table key answer) other ≡ cond (bytes_eq other key)
    (Some answer) (get table other)
put_at table key other answer = get-insert nat_list_cmp_total table key answer other ∙ ap (λ b. cond b (Some answer) (get table other)) (ties other key)

pub same_keys : (one other : KeyTable) → ((key : List ℕ) → get one key ≡ get other key) → one ≡ other
same_keys one other same = same_map nat_list_cmp_total (slice_cmp-IsAntisymmetric nat_cmp-IsAntisymmetric) one other same

pub bytes_cases : (x y : List ℕ) → (x ≡ y) ⊎ (bytes_eq x y ≡ false)
bytes_cases x y = elim (bytes_eq x y) as (λ b. bytes_eq x y ≡ b → (x ≡ y) ⊎ (bytes_eq x y ≡ false)) [
  | true ↦ λ is. inl (bytes_true x y is)
  | false ↦ λ is. inr is
] refl

-- where no slot is of a key it is absent
pub none_at : (indices : List (Option ℕ)) (keys : List (List ℕ)) (key : List ℕ) → ((i : ℕ) → NotAt indices keys key i) → get (key_table indices keys) key ≡ None
none_at [] keys key none = get-empty (slice_cmp nat_cmp) key
none_at (index ∷ indices) [] key none = get-empty (slice_cmp nat_cmp) key
none_at (None ∷ indices) (first ∷ keys) key none = none_at indices keys key (λ i. none (suc i))
none_at (Some index ∷ indices) (first ∷ keys) key none = elim (bytes_cases key first) [
  | inl same ↦ absurd (none zero index refl (ap Some (sym same)))
  | inr ne ↦ put_at (key_table indices keys) first key (Some index) ∙ ap (λ b. cond b (Some (Some index)) (get (key_table indices keys) key)) ne
      ∙ none_at indices keys key (λ i. none (suc i))
]

-- the first slot of a key counts
pub first_at : (indices : List (Option ℕ)) (keys : List (List ℕ)) (key : List ℕ) (i index : ℕ) → ((j : ℕ) → j < i → NotAt indices keys key j) →
    slice_get indices i ≡ Some (Some index) → slice_get keys i ≡ Some key → get (key_table indices keys) key ≡ Some (Some index)
first_at [] keys key i index none here there = absurd (none_some (Some index) here)
first_at (x ∷ indices) [] key i index none here there = absurd (none_some key there)
first_at (None ∷ indices) (first ∷ keys) key zero index none here there = absurd (none_some index (some_is None (Some index) here))
first_at (None ∷ indices) (first ∷ keys) key (suc i) index none here there = first_at indices keys key i index (λ j less. none (suc j) (omega arith)) here there
first_at (Some other ∷ indices) (first ∷ keys) key zero index none here there =
    put_at (key_table indices keys) first key (Some other)
    ∙ ap (λ b. cond b (Some (Some other)) (get (key_table indices keys) key)) (ap (λ (k : List ℕ). bytes_eq key k) (some_is first key there) ∙ bytes_same key)
    ∙ here
first_at (Some other ∷ indices) (first ∷ keys) key (suc i) index none here there = elim (bytes_cases key first) [
  | inl same ↦ absurd (none zero (omega arith) other refl (ap Some (sym same)))
  | inr ne ↦ put_at (key_table indices keys) first key (Some other) ∙ ap (λ b. cond b (Some (Some other)) (get (key_table indices keys) key)) ne
      ∙ first_at indices keys key i index (λ j less. none (suc j) (omega arith)) here there
]

-- a key that is put into a free slot
swap : (table : KeyTable) (one other : List ℕ) (x y : Option ℕ) → bytes_eq one other ≡ false
    → insert (insert table one x) other y ≡ insert (insert table other y) one x
swap table one other x y ne = same_keys _ _ (λ key.
    put_at (insert table one x) other key y ∙ ap (λ rest. cond (bytes_eq key other) (Some y) rest) (put_at table one key x)
    ∙ swapped key
    ∙ sym (put_at (insert table other y) one key x ∙ ap (λ rest. cond (bytes_eq key one) (Some x) rest) (put_at table other key y)))
  where
    apart : (key : List ℕ) → key ≡ other → key ≡ one → ⊥
    apart key is was = absurd (let h : bytes_eq one other ≡ true = ap (λ (k : List ℕ). bytes_eq one k) (sym is ∙ was) ∙ bytes_same one in cc)

    swapped : (key : List ℕ) → cond (bytes_eq key other) (Some y) (cond (bytes_eq key one) (Some x) (get table key)) ≡ cond (bytes_eq key one)
        (Some x) (cond (bytes_eq key other) (Some y) (get table key))
    swapped key = elim (bytes_cases key other) [
      | inl is ↦ (let differ : bytes_eq key one ≡ false = elim (bytes_cases key one) [ inl was ↦ absurd (apart key is was) | inr differs ↦ differs ]
          in rw differ refl)
      | inr differs ↦ rw differs refl
    ]

pub put_in : (indices : List (Option ℕ)) (keys : List (List ℕ)) (key : List ℕ) (i index : ℕ) → slice_get indices i ≡ Some None → i < length keys
    → get (key_table indices keys) key ≡ None →
    key_table (set indices i (Some index)) (set keys i key) ≡ insert (key_table indices keys) key (Some index)
put_in [] keys key i index free less absent = absurd (none_some None free)
put_in (x ∷ indices) [] key i index free less absent = absurd (omega arith)
put_in (None ∷ indices) (first ∷ keys) key zero index free less absent = refl
put_in (Some other ∷ indices) (first ∷ keys) key zero index free less absent = absurd (none_some other (sym (some_is (Some other) None free)))
put_in (None ∷ indices) (first ∷ keys) key (suc i) index free less absent = put_in indices keys key i index free (omega arith) absent
put_in (Some other ∷ indices) (first ∷ keys) key (suc i) index free less absent = elim (bytes_cases key first) [
  | inl same ↦ absurd (none_some (Some other) (sym absent ∙ put_at (key_table indices keys) first key (Some other)
      ∙ ap (λ b. cond b (Some (Some other)) (get (key_table indices keys) key)) (ap (λ (k : List ℕ). bytes_eq key k) (sym same) ∙ bytes_same key)))
  | inr ne ↦ ap (λ (t : KeyTable). insert t first (Some other)) (put_in indices keys key i index free (omega arith)
      (sym (put_at (key_table indices keys) first key (Some other) ∙ ap (λ b. cond b (Some (Some other)) (get (key_table indices keys) key)) ne) ∙ absent))
      ∙ swap (key_table indices keys) key first (Some index) (Some other) ne
]

-- slots that are cleared
hidden_none : (b : Bool) (found : Option (Option ℕ)) → found ≡ None → cond b None found ≡ None
hidden_none true found none = refl
hidden_none false found none = none

pub cleared_at : (indices : List (Option ℕ)) (keys : List (List ℕ)) (key other : List ℕ) → get (key_table (without_slots key indices keys) keys) other
    ≡ cond (bytes_eq key other) None (get (key_table indices keys) other)
cleared_at [] keys key other = get-empty (slice_cmp nat_cmp) other
    ∙ sym (hidden_none (bytes_eq key other) (get (empty {X = Option ℕ} {R = slice_cmp nat_cmp}) other) (get-empty (slice_cmp nat_cmp) other))
cleared_at (x ∷ indices) [] key other = get-empty (slice_cmp nat_cmp) other
    ∙ sym (hidden_none (bytes_eq key other) (get (empty {X = Option ℕ} {R = slice_cmp nat_cmp}) other) (get-empty (slice_cmp nat_cmp) other))
cleared_at (None ∷ indices) (first ∷ keys) key other =
    let same : key_table (cond (bytes_eq key first) None None ∷ without_slots key indices keys) (first ∷ keys) ≡ key_table
    (without_slots key indices keys) keys =
    elim (bytes_eq key first) as (λ b. key_table (cond b None None ∷ without_slots key indices keys) (first ∷ keys) ≡ key_table
    (without_slots key indices keys) keys) [ true ↦ refl | false ↦ refl ] in
    ap (λ t. get t other) same ∙ cleared_at indices keys key other
cleared_at (Some index ∷ indices) (first ∷ keys) key other = elim (bytes_cases key first) [
  | inl same ↦ (let yes : bytes_eq key first ≡ true = ap (λ (k : List ℕ). bytes_eq key k) (sym same) ∙ bytes_same key in
      ap (λ b. get (key_table (cond b None (Some index) ∷ without_slots key indices keys) (first ∷ keys)) other) yes
      ∙ cleared_at indices keys key other
      ∙ hidden (get (key_table indices keys) other) same
      ∙ ap (λ rest. cond (bytes_eq key other) None rest) (sym (put_at (key_table indices keys) first other (Some index))))
  | inr ne ↦ ap (λ b. get (key_table (cond b None (Some index) ∷ without_slots key indices keys) (first ∷ keys)) other) ne
      ∙ put_at (key_table (without_slots key indices keys) keys) first other (Some index)
      ∙ ap (λ rest. cond (bytes_eq other first) (Some (Some index)) rest) (cleared_at indices keys key other)
      ∙ kept (get (key_table indices keys) other) ne
      ∙ ap (λ rest. cond (bytes_eq key other) None rest) (sym (put_at (key_table indices keys) first other (Some index)))
]
  where
    hidden : (found : Option (Option ℕ)) → key ≡ first → cond (bytes_eq key other) None found ≡ cond (bytes_eq key other) None
        (cond (bytes_eq other first) (Some (Some index)) found)
    hidden found same = elim (bytes_cases key other) [
      | inl is ↦ (let yes : bytes_eq key other ≡ true = ap (λ (k : List ℕ). bytes_eq key k) (sym is) ∙ bytes_same key in rw yes refl)
      | inr differs ↦ elim (bytes_cases other first) [
        | inl was ↦ absurd (let h : bytes_eq key other ≡ true = ap (λ (k : List ℕ). bytes_eq key k) (was ∙ sym same) ∙ bytes_same key in cc)
        | inr apart ↦ rw apart refl
      ]
    ]

    kept : (found : Option (Option ℕ)) → bytes_eq key first ≡ false → cond (bytes_eq other first) (Some (Some index))
        (cond (bytes_eq key other) None found) ≡ cond (bytes_eq key other) None (cond (bytes_eq other first) (Some (Some index)) found)
    kept found ne = elim (bytes_cases other first) [
      | inl was ↦ (let differ : bytes_eq key other ≡ false = ap (λ (k : List ℕ). bytes_eq key k) was ∙ ne in rw differ refl)
      | inr apart ↦ rw apart refl
    ]

pub cleared : (indices : List (Option ℕ)) (keys : List (List ℕ)) (key : List ℕ) → key_table (without_slots key indices keys) keys ≡ without true
    (bytes_eq key) (key_table indices keys)
cleared indices keys key = same_keys _ _ (λ other. cleared_at indices keys key other
    ∙ sym ((forgets nat_list_cmp_total (slice_cmp-IsAntisymmetric nat_cmp-IsAntisymmetric)).of_full (bytes_eq key) (key_table indices keys) other))

-- one slot of a key is cleared
pub clear_one : (indices : List (Option ℕ)) (keys : List (List ℕ)) (key : List ℕ) (i : ℕ) → slice_get keys i ≡ Some key
    → without_slots key (set indices i None) keys ≡ without_slots key indices keys
clear_one [] keys key i here = refl
clear_one (index ∷ indices) [] key i here = absurd (none_some key here)
clear_one (index ∷ indices) (first ∷ keys) key zero here =
    let yes : bytes_eq key first ≡ true = ap (λ (k : List ℕ). bytes_eq key k) (some_is first key here) ∙ bytes_same key in
    ap (λ b. cond b None None ∷ without_slots key indices keys) yes ∙ sym (ap (λ b. cond b None index ∷ without_slots key indices keys) yes)
clear_one (index ∷ indices) (first ∷ keys) key (suc i) here = ap (λ (is : List (Option ℕ)). cond (bytes_eq key first) None index ∷ is)
    (clear_one indices keys key i here)

-- where no slot is of a key, none is cleared
pub clear_none : (indices : List (Option ℕ)) (keys : List (List ℕ)) (key : List ℕ) → ((j : ℕ) → NotAt indices keys key j)
    → without_slots key indices keys ≡ indices
clear_none [] keys key none = refl
clear_none (index ∷ indices) [] key none = refl
clear_none (None ∷ indices) (first ∷ keys) key none =
    elim (bytes_eq key first) as (λ b. cond b None None ∷ without_slots key indices keys ≡ None ∷ without_slots key indices keys) [ true ↦ refl | false ↦ refl ]
    ∙ ap (λ (is : List (Option ℕ)). None ∷ is) (clear_none indices keys key (λ j. none (suc j)))
clear_none (Some index ∷ indices) (first ∷ keys) key none = elim (bytes_cases key first) [
  | inl same ↦ absurd (none zero index refl (ap Some (sym same)))
  | inr ne ↦ ap (λ b. cond b None (Some index) ∷ without_slots key indices keys) ne ∙ ap (λ (is : List (Option ℕ)). Some index ∷ is)
      (clear_none indices keys key (λ j. none (suc j)))
]

-- a place behind the last has no slot
pub not_past : (indices : List (Option ℕ)) (keys : List (List ℕ)) (key : List ℕ) → ((j : ℕ) → j < length indices → NotAt indices keys key j) → (j : ℕ)
    → NotAt indices keys key j
not_past indices keys key none j index here = none j (slice_get_within indices j (Some index) here) index here

-- one more place has none: it is free, or its key is another
pub not_here : (indices : List (Option ℕ)) (keys : List (List ℕ)) (key found : List ℕ) (i : ℕ) (index : Option ℕ) → slice_get indices i ≡ Some index
    → slice_get keys i ≡ Some found → (is_some index && bytes_eq found key) ≡ false → NotAt indices keys key i
not_here indices keys key found i index here there not_both other is was =
    let same : Some other ≡ index = some_is (Some other) index (sym is ∙ here) in
    let key_is : found ≡ key = some_is found key (sym there ∙ was) in
    let yes : (is_some index && bytes_eq found key) ≡ true = ap (λ (o : Option ℕ). is_some o && bytes_eq found key) (sym same)
    ∙ ap (λ (k : List ℕ). bytes_eq k key) key_is ∙ bytes_same key in
    absurd (cc)

pub below_more : (P : ℕ → Type 0) (i : ℕ) → ((j : ℕ) → j < i → P j) → P i → (j : ℕ) → j < i + 1 → P j
below_more P i below here j less = elim (cases_eq j i) [
  | inl same ↦ subst P (sym same) here
  | inr ne ↦ below j (omega arith)
]

-- where no place is free, all are used
pub all_used : {X : Type 0} (places : List (Option X)) → ((j : ℕ) → j < length places → slice_get places j ≡ Some None → ⊥)
    → count_by (λ place. is_some place) places ≡ length places
all_used [] used = refl
all_used (None ∷ places) used = absurd (used zero (omega arith) refl)
all_used (Some x ∷ places) used =
    let rest : count_by (λ place. is_some place) places ≡ length places = all_used places (λ j less. used (suc j) (omega arith)) in
    let step : count_by (λ place. is_some place) (Some x ∷ places) ≡ 1 + count_by (λ place. is_some place) places =
    sum_by-cons (λ place. cond (is_some place) 1 0) (Some x) places in
    omega arith

-- the slots of a key are cleared below a place
pub record Cleared (was now : List (Option ℕ)) (keys : List (List ℕ)) (key : List ℕ) (i : ℕ) : Type 0 where
  pub alike : length now ≡ length keys
  pub rest : without_slots key now keys ≡ without_slots key was keys
  pub none : (j : ℕ) → j < i → NotAt now keys key j

pub cleared_all : (was now : List (Option ℕ)) (keys : List (List ℕ)) (key : List ℕ) (i : ℕ) → Cleared was now keys key i → length keys ≤ i
    → now ≡ without_slots key was keys
cleared_all was now keys key i cleared_below end =
    let alike : length now ≡ length keys = cleared_below.alike in
    sym (clear_none now keys key (not_past now keys key (λ j less. cleared_below.none j (omega arith)))) ∙ cleared_below.rest

pub cleared_more : (was now next : List (Option ℕ)) (keys : List (List ℕ)) (key found : List ℕ) (i : ℕ) → Cleared was now keys key i → i < length keys
    → slice_get keys i ≡ Some found → bytes_eq found key ≡ true → next ≡ set now i None →
    Cleared was next keys key (i + 1)
cleared_more was now next keys key found i so_far less here same set_is =
    let key_is : found ≡ key = bytes_true found key same in
    let alike : length now ≡ length keys = so_far.alike in
    let length_is : length (set now i None) ≡ length now = length-set now i None in
    subst (λ (is : List (Option ℕ)). Cleared was is keys key (i + 1)) (sym set_is) (record {
      alike = length_is ∙ alike;
      rest = clear_one now keys key i (here ∙ ap Some key_is) ∙ so_far.rest;
      none = below_more (λ (j : ℕ). NotAt (set now i None) keys key j) i
          (λ j below index is was_key. so_far.none j below index (sym (set_other now i j None (λ e. absurd (omega arith))) ∙ is) was_key)
          (λ index is was_key. none_some index (some_is None (Some index) (sym (set_here now i None (omega arith)) ∙ is)));
    })

pub cleared_same : (was now : List (Option ℕ)) (keys : List (List ℕ)) (key found : List ℕ) (i : ℕ) → Cleared was now keys key i
    → slice_get keys i ≡ Some found → bytes_eq found key ≡ false → Cleared was now keys key (i + 1)
cleared_same was now keys key found i so_far here differs = record {
  alike = so_far.alike;
  rest = so_far.rest;
  none = below_more (λ (j : ℕ). NotAt now keys key j) i so_far.none
      (λ index is was_key. absurd (let yes : bytes_eq found key ≡ true = ap (λ (k : List ℕ). bytes_eq k key) (some_is found key (sym here ∙ was_key))
      ∙ bytes_same key in cc));
}

-- the index of a slot that is of a key
pub found_at : (indices : List (Option ℕ)) (keys : List (List ℕ)) (key found : List ℕ) (i : ℕ) → i < length indices
    → ((j : ℕ) → j < i → NotAt indices keys key j) → slice_get keys i ≡ Some found →
    bytes_eq found key ≡ true → is_some (get_or indices i None) ≡ true → get_or indices i None ≡ joined (get (key_table indices keys) key)
found_at indices keys key found i less none here same used = go (get_or indices i None) refl used
  where
    go : (index : Option ℕ) → get_or indices i None ≡ index → is_some index ≡ true → get_or indices i None ≡ joined (get (key_table indices keys) key)
    go None is there = absurd (cc)
    go (Some index) is there =
        is ∙ sym (ap joined (first_at indices keys key i index none (slice_get-get_or indices i None less ∙ ap Some is)
        (here ∙ ap Some (bytes_true found key same))))

-- a place that isn't a slot of a key
pub skipped : (indices : List (Option ℕ)) (keys : List (List ℕ)) (key found : List ℕ) (i : ℕ) → i < length indices
    → ((j : ℕ) → j < i → NotAt indices keys key j) → slice_get keys i ≡ Some found →
    bytes_eq found key ≡ false → (j : ℕ) → j < i + 1 → NotAt indices keys key j
skipped indices keys key found i less none here differs = below_more (λ (j : ℕ). NotAt indices keys key j) i none
    (λ index is was_key. absurd (let yes : bytes_eq found key ≡ true = ap (λ (k : List ℕ). bytes_eq k key) (some_is found key (sym here ∙ was_key))
    ∙ bytes_same key in cc))

pub skipped_free : (indices : List (Option ℕ)) (keys : List (List ℕ)) (key : List ℕ) (i : ℕ) → i < length indices
    → ((j : ℕ) → j < i → NotAt indices keys key j) →
    is_some (get_or indices i None) ≡ false → (j : ℕ) → j < i + 1 → NotAt indices keys key j
skipped_free indices keys key i less none free = below_more (λ (j : ℕ). NotAt indices keys key j) i none
    (λ index is was_key. absurd (let yes : get_or indices i None ≡ Some index = get_or_from_slice_get indices i (Some index) None is in
    let more : is_some (get_or indices i None) ≡ true = ap (λ (o : Option ℕ). is_some o) yes in cc))

no_slots : (count : ℕ) (keys : List (List ℕ)) → key_table (replicate count None) keys ≡ empty
no_slots zero keys = refl
no_slots (suc count) [] = refl
no_slots (suc count) (key ∷ keys) = no_slots count keys

pub no_keys : (indices : List (Option ℕ)) (count : ℕ) (keys : List (List ℕ)) → indices ≡ replicate count None → key_table indices keys ≡ empty
no_keys indices count keys is = ap (λ (places : List (Option ℕ)). key_table places keys) is ∙ no_slots count keys

-- slots list no absent key
pub none_listed : (indices : List (Option ℕ)) (keys : List (List ℕ)) (key : List ℕ) → joined (get (key_table indices keys) key) ≡ None
    → get (key_table indices keys) key ≡ None
none_listed [] keys key none = get-empty (slice_cmp nat_cmp) key
none_listed (index ∷ indices) [] key none = get-empty (slice_cmp nat_cmp) key
none_listed (None ∷ indices) (first ∷ keys) key none = none_listed indices keys key none
none_listed (Some index ∷ indices) (first ∷ keys) key none = elim (bytes_cases key first) [
  | inl same ↦ (let there : get (key_table (Some index ∷ indices) (first ∷ keys)) key ≡ Some (Some index) =
      put_at (key_table indices keys) first key (Some index) ∙ ap (λ b. cond b (Some (Some index)) (get (key_table indices keys) key))
      (ap (λ (k : List ℕ). bytes_eq key k) (sym same) ∙ bytes_same key) in
      absurd (none_some index (sym none ∙ ap joined there)))
  | inr ne ↦ (let there : get (key_table (Some index ∷ indices) (first ∷ keys)) key ≡ get (key_table indices keys) key =
      put_at (key_table indices keys) first key (Some index) ∙ ap (λ b. cond b (Some (Some index)) (get (key_table indices keys) key)) ne in
      there ∙ none_listed indices keys key (sym (ap joined there) ∙ none))
]
