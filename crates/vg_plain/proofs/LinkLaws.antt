-- What is counted of a link's lists.
use Rattle.std.proofs.Common.{◌≡◌, ℕ, zero, suc, ◌+◌, ◌<◌, ◌≤◌, List, [], ◌∷◌, length, set, get_or, Option, Some, None, slice_get, refl, sym, ◌∙◌, ap}
use Rattle.std.proofs.Common.{subst, arith, Bool, true, false, cond, inl, inr}
use Rattle.std.specs.Prelude.{count_by, is_some, IsSome, replicate}
use Rattle.std.specs.Str.{bytes_eq}
use Rattle.std.specs.Ordering.{nat_cmp}
use Rattle.std.specs.Cmp.Lexicographic.{slice_cmp}
use Rattle.std.specs.FinMap.{get, get-empty}
use Rattle.std.proofs.lemmas.Option.{slice_get_within, slice_get-get_or, get_or_from_slice_get}
use Rattle.std.proofs.lemmas.List.{length-set}
use Rattle.std.proofs.lemmas.List.Sums.{sum_by-cons, sum_by-set, count_by-le-length}
use Rattle.vg_plain.specs.PlainTables.{key_table, time_table, without_slots, joined}
use Rattle.vg_plain.proofs.ListPlaces.{none_some, bytes_same}
use Rattle.vg_plain.proofs.KeySlots.{put_at, bytes_cases}
use Rattle.vg_plain.proofs.Places.{listed, time_is}

-- how many are used
abbrev pub used : {X : Type 0} → List (Option X) → ℕ
used places = count_by (λ place. is_some place) places

pub used_step : {X : Type 0} (place : Option X) (places : List (Option X)) → used (place ∷ places) ≡ cond (is_some place) 1 0 + used places
used_step place places = sum_by-cons (λ one. cond (is_some one) 1 0) place places

pub used_set : {X : Type 0} (places : List (Option X)) (i : ℕ) (was now : Option X) → slice_get places i ≡ Some was
    → used (set places i now) + cond (is_some was) 1 0 ≡ used places + cond (is_some now) 1 0
used_set places i was now here =
    let step : used (set places i now) + cond (is_some (get_or places i was)) 1 0 ≡ used places + cond (is_some now) 1 0 =
    sum_by-set (λ one. cond (is_some one) 1 0) places i now was (slice_get_within places i was here) in
    ap (λ (p : Option _). used (set places i now) + cond (is_some p) 1 0) (sym (get_or_from_slice_get places i was was here)) ∙ step

pub used_few : {X : Type 0} (places : List (Option X)) → used places ≤ length places
used_few places = count_by-le-length (λ place. is_some place) places

pub none_used : (X : Type 0) (count : ℕ) → used (replicate {A = Option X} count None) ≡ 0
none_used X zero = refl
none_used X (suc count) = let step = used_step {X = X} None (replicate count None) in let rest = none_used X count in omega arith

-- an index with a time
pub allocated_at : (times : List (Option ℕ)) (i : ℕ) → IsSome (joined (get (time_table 0 times) i)) → (time : ℕ) × (slice_get times i ≡ Some (Some time))
allocated_at times i is = go (slice_get times i) refl (ap (λ found. is_some (joined found)) (sym (time_is times i)) ∙ is)
  where
    go : (found : Option (Option ℕ)) → slice_get times i ≡ found → IsSome (joined (listed found)) → (time : ℕ) × (slice_get times i ≡ Some (Some time))
    go None there some = absurd (cc)
    go (Some None) there some = absurd (cc)
    go (Some (Some time)) there some = (time, there)

pub free_at : (times : List (Option ℕ)) (i : ℕ) → slice_get times i ≡ Some None → get (time_table 0 times) i ≡ None
free_at times i free = time_is times i ∙ ap listed free

pub free_is : (times : List (Option ℕ)) (i : ℕ) → i < length times → get (time_table 0 times) i ≡ None → slice_get times i ≡ Some None
free_is times i less none = go (slice_get times i) refl (sym (ap listed refl) ∙ sym (time_is times i) ∙ none)
  where
    go : (found : Option (Option ℕ)) → slice_get times i ≡ found → listed found ≡ None → slice_get times i ≡ Some None
    go None there is = absurd (none_some _ (sym there ∙ slice_get-get_or times i None less))
    go (Some None) there is = there
    go (Some (Some time)) there is = absurd (none_some (Some time) (sym is))

-- a time is what the table lists
pub time_at : (times : List (Option ℕ)) (i : ℕ) (default : Option ℕ) → i < length times → get_or times i default ≡ joined (get (time_table 0 times) i)
time_at times i default less = go (get_or times i default) refl ∙ sym (ap joined (time_is times i))
  where
    go : (time : Option ℕ) → get_or times i default ≡ time → get_or times i default ≡ joined (listed (slice_get times i))
    go None is = is ∙ sym (ap (λ found. joined (listed found)) (slice_get-get_or times i default less ∙ ap Some is))
    go (Some time) is = is ∙ sym (ap (λ found. joined (listed found)) (slice_get-get_or times i default less ∙ ap Some is))

-- clearing the slots of a key uses fewer
pub cleared_few : (indices : List (Option ℕ)) (keys : List (List ℕ)) (key : List ℕ) → used (without_slots key indices keys) ≤ used indices
cleared_few [] keys key = omega arith
cleared_few (index ∷ indices) [] key = omega arith
cleared_few (index ∷ indices) (first ∷ keys) key = one (bytes_eq key first) index (without_slots key indices keys) indices (cleared_few indices keys key)
  where
    one : (b : Bool) (place : Option ℕ) (now was : List (Option ℕ)) → used now ≤ used was → used (cond b None place ∷ now) ≤ used (place ∷ was)
    one true place now was few = let a = used_step None now in let b = used_step place was in omega arith
    one false place now was few = let a = used_step place now in let b = used_step place was in omega arith

pub one_freed : (times : List (Option ℕ)) (i : ℕ) → IsSome (joined (get (time_table 0 times) i)) → used (set times i None) + 1 ≡ used times
one_freed times i some = let at = allocated_at times i some in let step = used_set times i (Some at.0) None at.1 in omega arith

pub one_kept : (times : List (Option ℕ)) (i now : ℕ) → IsSome (joined (get (time_table 0 times) i)) → used (set times i (Some now)) ≡ used times
one_kept times i now some = let at = allocated_at times i some in let step = used_set times i (Some at.0) (Some now) at.1 in omega arith

nothing : {found : Option (Option ℕ)} → found ≡ None → IsSome (joined found) → ⊥
nothing none some = absurd (let h = ap (λ f. is_some (joined f)) none in cc)

abbrev free_slot : Option ℕ
free_slot = None

still : (b : Bool) (places : List (Option ℕ)) → used (cond b None None ∷ places) ≡ used places
still true places = let step = used_step free_slot places in omega arith
still false places = let step = used_step free_slot places in omega arith

-- a key that is there has a slot, and to clear it frees one
pub cleared_one : (indices : List (Option ℕ)) (keys : List (List ℕ)) (key : List ℕ) → IsSome (joined (get (key_table indices keys) key))
    → suc (used (without_slots key indices keys)) ≤ used indices
cleared_one [] keys key some = absurd (nothing (get-empty (slice_cmp nat_cmp) key) some)
cleared_one (index ∷ indices) [] key some = absurd (nothing (get-empty (slice_cmp nat_cmp) key) some)
cleared_one (None ∷ indices) (first ∷ keys) key some =
    let rest = cleared_one indices keys key some in
    let was = used_step free_slot indices in
    let same : used (cond (bytes_eq key first) None None ∷ without_slots key indices keys) ≡ used (without_slots key indices keys) =
    still (bytes_eq key first) (without_slots key indices keys) in
    omega arith
cleared_one (Some index ∷ indices) (first ∷ keys) key some = elim (bytes_cases key first) [
  | inl same ↦ (let yes : bytes_eq key first ≡ true = ap (λ (k : List ℕ). bytes_eq key k) (sym same) ∙ bytes_same key in
      let now : used (cond (bytes_eq key first) None (Some index) ∷ without_slots key indices keys) ≡ 0 + used (without_slots key indices keys) =
      ap (λ b. used (cond b None (Some index) ∷ without_slots key indices keys)) yes ∙ used_step free_slot (without_slots key indices keys) in
      let was = used_step (Some index) indices in let few = cleared_few indices keys key in omega arith)
  | inr ne ↦ (let now : used (cond (bytes_eq key first) None (Some index) ∷ without_slots key indices keys) ≡ 1 + used (without_slots key indices keys) =
      ap (λ b. used (cond b None (Some index) ∷ without_slots key indices keys)) ne ∙ used_step (Some index) (without_slots key indices keys) in
      let was = used_step (Some index) indices in
      let rest = cleared_one indices keys key (subst (λ found. IsSome (joined found)) (put_at (key_table indices keys) first key (Some index)
      ∙ ap (λ b. cond b (Some (Some index)) (get (key_table indices keys) key)) ne) some) in omega arith)
]

pub length_cleared : (indices : List (Option ℕ)) (keys : List (List ℕ)) (key : List ℕ) → length (without_slots key indices keys) ≡ length indices
length_cleared [] keys key = refl
length_cleared (index ∷ indices) [] key = refl
length_cleared (index ∷ indices) (first ∷ keys) key = ap suc (length_cleared indices keys key)

-- a free place that is used
pub one_used : {X : Type 0} (places : List (Option X)) (i : ℕ) (x : X) → slice_get places i ≡ Some None → used (set places i (Some x)) ≡ used places + 1
one_used places i x free = let step = used_set places i None (Some x) free in omega arith

-- where a place is free, not all are used
pub not_full : {X : Type 0} (places : List (Option X)) (i : ℕ) (x : X) → slice_get places i ≡ Some None → suc (used places) ≤ length places
not_full places i x free =
    let one = one_used places i x free in let most = used_few (set places i (Some x)) in let long = length-set places i (Some x) in omega arith
