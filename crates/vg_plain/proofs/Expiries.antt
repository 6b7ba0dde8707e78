-- Expiry, index by index.
use Rattle.std.proofs.Common.{◌≡◌, ℕ, zero, suc, ◌+◌, ◌<◌, ◌≤◌, ◌≢◌, List, [], ◌∷◌, length, set, get_or, map, Option, Some, None, slice_get, refl}
use Rattle.std.proofs.Common.{sym, ◌∙◌, ap, subst, arith, Bool, true, false, cond, inl, inr}
use Rattle.std.specs.Prelude.{count_by, is_some, nat_lt, ◌&&◌}
use Rattle.std.specs.Option.{option_map}
use Rattle.std.specs.Str.{bytes_eq}
use Rattle.std.specs.FinMap.{get}
use Rattle.std.proofs.lemmas.Bool.{cases_eq, cases_lt, lt-ltb, le-ltb}
use Rattle.std.proofs.lemmas.Option.{slice_get_within, slice_get_past, slice_get-map, get_or_from_slice_get}
use Rattle.std.proofs.lemmas.List.{length-set, length-map}
use Rattle.std.proofs.lemmas.List.Sums.{sum_by-cons, sum_by-set}
use Rattle.vg_plain.specs.PlainTables.{key_table, without_slots, joined}
use Rattle.vg_abs.specs.Effects.{is_key_of}
use Rattle.vg_plain.specs.Expiring.{is_early, kept_time, index_goes, key_goes}
use Rattle.vg_plain.proofs.ListPlaces.{some_is, set_here, set_other, bytes_same}
use Rattle.vg_plain.proofs.KeySlots.{bytes_cases, cleared_at}
use Rattle.vg_plain.proofs.LinkLaws.{used, cleared_one, length_cleared}

-- whether a key goes by an index below a number
abbrev pub gone_below : ℕ → ℕ → List (Option ℕ) → List (List ℕ) → List ℕ → Option ℕ → Bool
gone_below i bound times cells key None = false
gone_below i bound times cells key (Some index) = nat_lt index i && index_goes bound times cells key index

-- the cell of each allocated index is a key that is mapped to it
abbrev pub Tied : List (Option ℕ) → List (List ℕ) → List (Option ℕ) → List (List ℕ) → Type 0
Tied indices keys times cells = (index time : ℕ) → slice_get times index ≡ Some (Some time) → (key : List ℕ) × (slice_get cells index ≡ Some key)
    × (get (key_table indices keys) key ≡ Some (Some index))

-- the indices below a number are done
pub record Expired (bound : ℕ) (was_indices indices : List (Option ℕ)) (keys : List (List ℕ)) (was_times times : List (Option ℕ))
    (cells : List (List ℕ)) (freed i : ℕ) : Type 0 where
  pub slots : length indices ≡ length was_indices
  pub places : length times ≡ length was_times
  pub below : (j : ℕ) → j < i → slice_get times j ≡ option_map (kept_time bound) (slice_get was_times j)
  pub above : (j : ℕ) → i ≤ j → slice_get times j ≡ slice_get was_times j
  pub counted : freed + count_by (is_early bound) times ≡ count_by (is_early bound) was_times
  pub gone : (key : List ℕ) → get (key_table indices keys) key ≡ cond (gone_below i bound was_times cells key
      (joined (get (key_table was_indices keys) key))) None (get (key_table was_indices keys) key)
  pub few : used indices + freed ≤ used was_indices

same_test : (index i : ℕ) → index ≢ i → nat_lt index (i + 1) ≡ nat_lt index i
same_test index i ne = elim (cases_lt index i) [
  | inl less ↦ lt-ltb index (i + 1) (omega arith) ∙ sym (lt-ltb index i less)
  | inr more ↦ (let past : i + 1 ≤ index = omega arith in le-ltb index (i + 1) past ∙ sym (le-ltb index i more))
]

and_false : (b c : Bool) → c ≡ false → (b && c) ≡ false
and_false true c is = is
and_false false c is = refl

-- an index that doesn't go makes no difference
same_below : (i bound : ℕ) (times : List (Option ℕ)) (cells : List (List ℕ)) (key : List ℕ) (index : Option ℕ)
    → (index ≡ Some i → index_goes bound times cells key i ≡ false) →
    gone_below (i + 1) bound times cells key index ≡ gone_below i bound times cells key index
same_below i bound times cells key None stays = refl
same_below i bound times cells key (Some index) stays = elim (cases_eq index i) [
  | inl same ↦ (let off : index_goes bound times cells key index ≡ false = ap (λ (k : ℕ). index_goes bound times cells key k) same ∙ stays (ap Some same) in
      and_false (nat_lt index (i + 1)) (index_goes bound times cells key index) off
      ∙ sym (and_false (nat_lt index i) (index_goes bound times cells key index) off))
  | inr ne ↦ ap (λ b. b && index_goes bound times cells key index) (same_test index i ne)
]

kept_late : (bound : ℕ) (time : Option ℕ) → is_early bound time ≡ false → time ≡ kept_time bound time
kept_late bound time late = sym (ap (λ b. cond b None time) late)

kept_early : (bound : ℕ) (time : Option ℕ) → is_early bound time ≡ true → None ≡ kept_time bound time
kept_early bound time early = sym (ap (λ b. cond b None time) early)

below_one : (P : ℕ → Type 0) (i : ℕ) → ((j : ℕ) → j < i → P j) → P i → (j : ℕ) → j < i + 1 → P j
below_one P i below here j less = elim (cases_eq j i) [
  | inl same ↦ subst P (sym same) here
  | inr ne ↦ below j (omega arith)
]

pub expire_none : (bound : ℕ) (was_indices indices : List (Option ℕ)) (keys : List (List ℕ)) (was_times times : List (Option ℕ))
    (cells : List (List ℕ)) (freed i : ℕ) (time : Option ℕ) →
    Expired bound was_indices indices keys was_times times cells freed i → slice_get times i ≡ Some time → is_early bound time ≡ false →
    Expired bound was_indices indices keys was_times times cells freed (i + 1)
expire_none bound was_indices indices keys was_times times cells freed i time so_far here late =
    let was : slice_get was_times i ≡ Some time = sym (so_far.above i (omega arith)) ∙ here in
    record {
      slots = so_far.slots;
      places = so_far.places;
      below = below_one (λ (j : ℕ). slice_get times j ≡ option_map (kept_time bound) (slice_get was_times j)) i so_far.below
          (here ∙ ap Some (kept_late bound time late) ∙ sym (ap (option_map (kept_time bound)) was));
      above = λ j more. so_far.above j (omega arith);
      counted = so_far.counted;
      gone = λ key. so_far.gone key ∙ ap (λ b. cond b None (get (key_table was_indices keys) key))
          (sym (same_below i bound was_times cells key (joined (get (key_table was_indices keys) key))
          (λ _. ap (λ found. is_early bound (joined found) && is_key_of (slice_get cells i) key) was ∙ ap (λ b. b && is_key_of (slice_get cells i) key) late)));
      few = so_far.few;
    }

early_some : (bound : ℕ) (time : Option ℕ) → is_early bound time ≡ true → (t : ℕ) × (time ≡ Some t)
early_some bound None early = absurd (cc)
early_some bound (Some t) early = (t, refl)

one_early : (bound : ℕ) (times : List (Option ℕ)) (i : ℕ) (time : Option ℕ) → slice_get times i ≡ Some time → is_early bound time ≡ true
    → count_by (is_early bound) (set times i None) + 1 ≡ count_by (is_early bound) times
one_early bound times i time here early =
    let step : count_by (is_early bound) (set times i None) + cond (is_early bound (get_or times i time)) 1 0 ≡ count_by (is_early bound) times + 0 =
    sum_by-set (λ t. cond (is_early bound t) 1 0) times i None time (slice_get_within times i time here) in
    let at_i : ◌≡◌ {A = ℕ} (cond (is_early bound (get_or times i time)) 1 0) 1 = ap (λ t. cond (is_early bound t) 1 0)
    (get_or_from_slice_get times i time time here) ∙ ap (λ b. cond b 1 0) early in
    omega (arith, step, at_i)

pub expire_one : (bound : ℕ) (was_indices indices : List (Option ℕ)) (keys : List (List ℕ)) (was_times times : List (Option ℕ))
    (cells : List (List ℕ)) (freed i : ℕ) (time : Option ℕ) (found : List ℕ) →
    Tied was_indices keys was_times cells →
    Expired bound was_indices indices keys was_times times cells freed i → slice_get times i ≡ Some time → is_early bound time ≡ true
    → slice_get cells i ≡ Some found →
    Expired bound was_indices (without_slots found indices keys) keys was_times (set times i None) cells (freed + 1) (i + 1)
expire_one bound was_indices indices keys was_times times cells freed i time found tied so_far here early cell =
    let inside = slice_get_within times i time here in
    let not_yet : gone_below i bound was_times cells found (joined (get (key_table was_indices keys) found)) ≡ false =
    ap (λ f. gone_below i bound was_times cells found (joined f)) found_mapped ∙ ap (λ b. b && index_goes bound was_times cells found i)
    (le-ltb i i (omega arith)) in
    let there : get (key_table indices keys) found ≡ Some (Some i) = so_far.gone found ∙ ap
    (λ b. cond b None (get (key_table was_indices keys) found)) not_yet ∙ found_mapped in
    let fewer = cleared_one indices keys found (ap (λ f. is_some (joined f)) there) in
    let fewer_early : count_by (is_early bound) (set times i None) + 1 ≡ count_by (is_early bound) times = one_early bound times i time here early in
    let was_counted : freed + count_by (is_early bound) times ≡ count_by (is_early bound) was_times = so_far.counted in
    let was_few : used indices + freed ≤ used was_indices = so_far.few in
    record {
      slots = length_cleared indices keys found ∙ so_far.slots;
      places = length-set times i None ∙ so_far.places;
      below = below_one (λ (j : ℕ). slice_get (set times i None) j ≡ option_map (kept_time bound) (slice_get was_times j)) i
          (λ j less. set_other times i j None (λ e. absurd (omega arith)) ∙ so_far.below j less)
          (set_here times i None inside ∙ ap Some (kept_early bound time early) ∙ sym (ap (option_map (kept_time bound)) was_at));
      above = λ j more. set_other times i j None (λ e. absurd (omega arith)) ∙ so_far.above j (omega arith);
      counted = omega arith;
      gone = λ key. cleared_at indices keys found key ∙ ap (λ rest. cond (bytes_eq found key) None rest) (so_far.gone key) ∙ joins key;
      few = omega arith;
    }
  where
    was_at : slice_get was_times i ≡ Some time
    was_at = sym (so_far.above i (omega arith)) ∙ here

    found_mapped : get (key_table was_indices keys) found ≡ Some (Some i)
    found_mapped =
        let some = early_some bound time early in
        let pair = tied i some.0 (was_at ∙ ap Some some.1) in
        ap (λ (k : List ℕ). get (key_table was_indices keys) k) (sym (some_is pair.0 found (sym pair.1 ∙ cell))) ∙ pair.2

    found_goes : index_goes bound was_times cells found i ≡ true
    found_goes =
        ap (λ f. is_early bound (joined f) && is_key_of (slice_get cells i) found) was_at ∙ ap (λ b. b && is_key_of (slice_get cells i) found) early
        ∙ ap (λ c. is_key_of c found) cell ∙ bytes_same found

    joins : (key : List ℕ) → cond (bytes_eq found key) None
        (cond (gone_below i bound was_times cells key (joined (get (key_table was_indices keys) key))) None (get (key_table was_indices keys) key))
        ≡ cond (gone_below (i + 1) bound was_times cells key (joined (get (key_table was_indices keys) key))) None (get (key_table was_indices keys) key)
    joins key = elim (bytes_cases found key) [
      | inl same ↦ (let mapped : get (key_table was_indices keys) key ≡ Some (Some i) = ap (λ (k : List ℕ). get (key_table was_indices keys) k)
          (sym same) ∙ found_mapped in
          let yes : bytes_eq found key ≡ true = ap (λ (k : List ℕ). bytes_eq found k) (sym same) ∙ bytes_same found in
          let goes : gone_below (i + 1) bound was_times cells key (joined (get (key_table was_indices keys) key)) ≡ true =
          ap (λ f. gone_below (i + 1) bound was_times cells key (joined f)) mapped ∙ ap (λ b. b && index_goes bound was_times cells key i)
          (lt-ltb i (i + 1) (omega arith))
          ∙ ap (λ (k : List ℕ). index_goes bound was_times cells k i) (sym same) ∙ found_goes in
          ap (λ b. cond b None (cond (gone_below i bound was_times cells key (joined (get (key_table was_indices keys) key))) None
          (get (key_table was_indices keys) key))) yes
          ∙ sym (ap (λ b. cond b None (get (key_table was_indices keys) key)) goes))
      | inr differs ↦ (let stays : index_goes bound was_times cells key i ≡ false =
          ap (λ c. is_early bound (joined (slice_get was_times i)) && is_key_of c key) cell
          ∙ and_false (is_early bound (joined (slice_get was_times i))) (bytes_eq found key) differs in
          ap (λ b. cond b None (cond (gone_below i bound was_times cells key (joined (get (key_table was_indices keys) key))) None
          (get (key_table was_indices keys) key))) differs
          ∙ sym (ap (λ b. cond b None (get (key_table was_indices keys) key)) (same_below i bound was_times cells key
          (joined (get (key_table was_indices keys) key)) (λ _. stays))))
    ]

-- lists with the same items are one
same_lists : {X : Type 0} (one other : List X) → length one ≡ length other → ((i : ℕ) → i < length other → slice_get one i ≡ slice_get other i) → one ≡ other
same_lists [] [] long same = refl
same_lists [] (y ∷ ys) long same = absurd (omega arith)
same_lists (x ∷ xs) [] long same = absurd (omega arith)
same_lists (x ∷ xs) (y ∷ ys) long same = ap (λ z. z ∷ xs) (some_is x y (same zero (omega arith)))
    ∙ ap (λ zs. y ∷ zs) (same_lists xs ys (omega arith) (λ i less. same (suc i) (omega arith)))

pub expired_times : (bound : ℕ) (was_indices indices : List (Option ℕ)) (keys : List (List ℕ)) (was_times times : List (Option ℕ))
    (cells : List (List ℕ)) (freed i : ℕ) →
    Expired bound was_indices indices keys was_times times cells freed i → length times ≤ i → times ≡ map (kept_time bound) was_times
expired_times bound was_indices indices keys was_times times cells freed i done end =
    same_lists times (map (kept_time bound) was_times) (done.places ∙ sym (length-map was_times (kept_time bound)))
    (λ j less. done.below j (omega (arith, length-map was_times (kept_time bound), done.places)) ∙ sym (slice_get-map (kept_time bound) was_times j))

kept_is_late : (bound : ℕ) (time : Option ℕ) → is_early bound (kept_time bound time) ≡ false
kept_is_late bound time = elim (is_early bound time) as (λ b. is_early bound time ≡ b → is_early bound (cond b None time) ≡ false)
    [ true ↦ λ _. refl | false ↦ λ is. is ] refl

none_early : (bound : ℕ) (times : List (Option ℕ)) → count_by (is_early bound) (map (kept_time bound) times) ≡ 0
none_early bound [] = refl
none_early bound (time ∷ times) =
    let rest : count_by (is_early bound) (map (kept_time bound) times) ≡ 0 = none_early bound times in
    let step : count_by (is_early bound) (kept_time bound time ∷ map (kept_time bound) times) ≡ cond (is_early bound (kept_time bound time)) 1 0 +
    count_by (is_early bound) (map (kept_time bound) times) =
    sum_by-cons (λ t. cond (is_early bound t) 1 0) (kept_time bound time) (map (kept_time bound) times) in
    let late : ◌≡◌ {A = ℕ} (cond (is_early bound (kept_time bound time)) 1 0) 0 = ap (λ b. cond b 1 0) (kept_is_late bound time) in
    omega (arith, rest, step, late)

pub expired_count : (bound : ℕ) (was_indices indices : List (Option ℕ)) (keys : List (List ℕ)) (was_times times : List (Option ℕ))
    (cells : List (List ℕ)) (freed i : ℕ) →
    Expired bound was_indices indices keys was_times times cells freed i → length times ≤ i → freed ≡ count_by (is_early bound) was_times
expired_count bound was_indices indices keys was_times times cells freed i done end =
    let none : count_by (is_early bound) times ≡ 0 = ap (λ (ts : List (Option ℕ)). count_by (is_early bound) ts)
    (expired_times bound was_indices indices keys was_times times cells freed i done end) ∙ none_early bound was_times in
    omega (arith, none, done.counted)

all_below : (i bound : ℕ) (times : List (Option ℕ)) (cells : List (List ℕ)) (key : List ℕ) (index : Option ℕ) → length times ≤ i
    → gone_below i bound times cells key index ≡ key_goes bound times cells key index
all_below i bound times cells key None end = refl
all_below i bound times cells key (Some index) end = elim (cases_lt index i) [
  | inl less ↦ ap (λ b. b && index_goes bound times cells key index) (lt-ltb index i less)
  | inr more ↦ ap (λ b. b && index_goes bound times cells key index) (le-ltb index i more)
      ∙ sym (ap (λ f. is_early bound (joined f) && is_key_of (slice_get cells index) key) (slice_get_past times index (omega arith)))
]

pub expired_keys : (bound : ℕ) (was_indices indices : List (Option ℕ)) (keys : List (List ℕ)) (was_times times : List (Option ℕ))
    (cells : List (List ℕ)) (freed i : ℕ) →
    Expired bound was_indices indices keys was_times times cells freed i → length times ≤ i → (key : List ℕ) →
    get (key_table indices keys) key ≡ cond (key_goes bound was_times cells key (joined (get (key_table was_indices keys) key))) None
    (get (key_table was_indices keys) key)
expired_keys bound was_indices indices keys was_times times cells freed i done end key =
    done.gone key ∙ ap (λ b. cond b None (get (key_table was_indices keys) key)) (all_below i bound was_times cells key
    (joined (get (key_table was_indices keys) key)) (omega (arith, done.places)))

none_below : (bound : ℕ) (times : List (Option ℕ)) (cells : List (List ℕ)) (key : List ℕ) (index : Option ℕ) → gone_below 0 bound times cells key index ≡ false
none_below bound times cells key None = refl
none_below bound times cells key (Some index) = ap (λ b. b && index_goes bound times cells key index) (le-ltb index 0 (omega arith))

pub expire_start : (bound : ℕ) (indices : List (Option ℕ)) (keys : List (List ℕ)) (times : List (Option ℕ)) (cells : List (List ℕ))
    → Expired bound indices indices keys times times cells 0 0
expire_start bound indices keys times cells = record {
  slots = refl;
  places = refl;
  below = λ j less. absurd (omega arith);
  above = λ j more. refl;
  counted = omega arith;
  gone = λ key. sym (ap (λ b. cond b None (get (key_table indices keys) key)) (none_below bound times cells key (joined (get (key_table indices keys) key))));
  few = omega arith;
}

pub expired_next : (bound : ℕ) (was_indices indices next_indices : List (Option ℕ)) (keys : List (List ℕ))
    (was_times times next_times : List (Option ℕ)) (cells : List (List ℕ)) (freed next_freed next : ℕ) →
    indices ≡ next_indices → times ≡ next_times → freed ≡ next_freed →
    Expired bound was_indices indices keys was_times times cells freed next → Expired bound was_indices next_indices keys was_times next_times cells
    next_freed next
expired_next bound was_indices indices next_indices keys was_times times next_times cells freed next_freed next same_indices same_times same_freed done =
    subst (λ (f : ℕ). Expired bound was_indices next_indices keys was_times next_times cells f next) same_freed
    (subst (λ (ts : List (Option ℕ)). Expired bound was_indices next_indices keys was_times ts cells freed next) same_times
    (subst (λ (is : List (Option ℕ)). Expired bound was_indices is keys was_times times cells freed next) same_indices done))
