-- What an expiry makes of a link's tables.
use Rattle.std.proofs.Common.{◌≡◌, ℕ, zero, suc, ◌+◌, ◌<◌, List, [], ◌∷◌, length, map, Option, Some, None, slice_get, refl, sym, ◌∙◌, ap, arith, Bool}
use Rattle.std.proofs.Common.{true, false, cond}
use Rattle.std.specs.Prelude.{count_by, is_some, nat_lt, ◌&&◌, ◌||◌}
use Rattle.std.specs.List.{list_any}
use Rattle.std.specs.Option.{option_map}
use Rattle.std.specs.Str.{bytes_eq}
use Rattle.std.specs.Cmp.{nat_cmp_total}
use Rattle.std.specs.Cmp.Lexicographic.{nat_list_cmp_total}
use Rattle.std.specs.FinMap.{get, entries, slice_cmp-IsAntisymmetric, nat_cmp-IsAntisymmetric}
use Rattle.std.proofs.lemmas.Bool.{lt-ltb}
use Rattle.std.proofs.lemmas.Option.{slice_get_within, slice_get-map}
use Rattle.std.proofs.lemmas.List.Sums.{sum_by-cons}
use Rattle.vg_abs.specs.Tables.{Link}
use Rattle.vg_abs.specs.Answers.{is_before}
use Rattle.vg_abs.specs.Effects.{without, is_key_of, expires, key_expires}
use Rattle.vg_abs.proofs.Forgetting.{forgets}
use Rattle.vg_plain.specs.PlainTables.{key_table, time_table, cell_table, joined}
use Rattle.vg_plain.specs.Expiring.{is_early, kept_time, key_goes}
use Rattle.vg_plain.proofs.ListPlaces.{some_is, none_some, bytes_same, bytes_true}
use Rattle.vg_plain.proofs.KeySlots.{same_keys}
use Rattle.vg_plain.proofs.Places.{listed, time_is, cell_is, same_numbers, time_list, time_entries}
use Rattle.vg_plain.proofs.LinkLaws.{used, used_step}
use Rattle.vg_plain.proofs.Expiries.{Tied}

-- counting
early_list : (bound start : ℕ) (times : List (Option ℕ)) → count_by (λ entry. is_before bound (Some entry.1)) (time_list start times) ≡ count_by
    (is_early bound) times
early_list bound start [] = refl
early_list bound start (None ∷ times) =
    let rest = early_list bound (suc start) times in
    let step : count_by (is_early bound) (None ∷ times) ≡ 0 + count_by (is_early bound) times = sum_by-cons (λ t. cond (is_early bound t) 1 0) None times in
    omega (arith, rest, step)
early_list bound start (Some time ∷ times) =
    let rest = early_list bound (suc start) times in
    let step : count_by (is_early bound) (Some time ∷ times) ≡ cond (nat_lt time bound) 1 0 + count_by (is_early bound) times =
    sum_by-cons (λ t. cond (is_early bound t) 1 0) (Some time) times in
    let entry : ℕ × Option ℕ = (start, Some time) in
    let more : count_by (λ e. is_before bound (Some e.1)) (entry ∷ time_list (suc start) times) ≡ cond (nat_lt time bound) 1 0 + count_by
    (λ e. is_before bound (Some e.1)) (time_list (suc start) times) =
    sum_by-cons (λ (e : ℕ × Option ℕ). cond (is_before bound (Some e.1)) 1 0) entry (time_list (suc start) times) in
    omega (arith, rest, step, more)

pub early_entries : (bound : ℕ) (times : List (Option ℕ)) → count_by (is_early bound) times ≡ count_by (λ entry. is_before bound (Some entry.1))
    (entries (time_table 0 times))
early_entries bound times = sym (ap (λ es. count_by (λ (entry : ℕ × Option ℕ). is_before bound (Some entry.1)) es) (time_entries 0 times)
    ∙ early_list bound 0 times)

weigh : (bound : ℕ) (time : Option ℕ) → ◌≡◌ {A = ℕ} (cond (is_some (kept_time bound time)) 1 0 + cond (is_early bound time) 1 0) (cond (is_some time) 1 0)
weigh bound None = refl
weigh bound (Some time) = elim (nat_lt time bound) as (λ b. ◌≡◌ {A = ℕ} (cond (is_some (cond b None (Some time))) 1 0 + cond b 1 0) 1)
    [ true ↦ refl | false ↦ refl ]

pub used_kept : (bound : ℕ) (times : List (Option ℕ)) → used (map (kept_time bound) times) + count_by (is_early bound) times ≡ used times
used_kept bound [] = omega arith
used_kept bound (time ∷ times) =
    let rest = used_kept bound times in
    let was = used_step time times in
    let now = used_step (kept_time bound time) (map (kept_time bound) times) in
    let early : count_by (is_early bound) (time ∷ times) ≡ cond (is_early bound time) 1 0 + count_by (is_early bound) times =
    sum_by-cons (λ t. cond (is_early bound t) 1 0) time times in
    let one = weigh bound time in
    omega (arith, rest, was, now, early, one)

-- times
shown : (bound time : ℕ) → listed (Some (cond (nat_lt time bound) None (Some time))) ≡ cond (nat_lt time bound) None (Some (Some time))
shown bound time = elim (nat_lt time bound) as (λ b. listed (Some (cond b None (Some time))) ≡ cond b None (Some (Some time))) [ true ↦ refl | false ↦ refl ]

is_time : (link : Link) (bound q time : ℕ) → nat_lt q link.capacity ≡ true → get link.times q ≡ Some (Some time) → expires true link bound q ≡ nat_lt time bound
is_time link bound q time inside told = rw (inside, told) refl

at_time : (link : Link) (bound q : ℕ) (times : List (Option ℕ)) (found : Option (Option ℕ)) → link.times ≡ time_table 0 times
    → link.capacity ≡ length times → slice_get times q ≡ found →
    listed (option_map (kept_time bound) found) ≡ cond (expires true link bound q) None (listed found)
at_time link bound q times None same long there = elim (expires true link bound q) as (λ b. ◌≡◌ {A = Option (Option ℕ)} None (cond b None None))
    [ true ↦ refl | false ↦ refl ]
at_time link bound q times (Some None) same long there = elim (expires true link bound q) as
    (λ b. ◌≡◌ {A = Option (Option ℕ)} None (cond b None None)) [ true ↦ refl | false ↦ refl ]
at_time link bound q times (Some (Some time)) same long there =
    let inside : q < link.capacity = omega (arith, long, slice_get_within times q (Some time) there) in
    let told : get link.times q ≡ Some (Some time) = ap (λ t. get t q) same ∙ time_is times q ∙ ap listed there in
    let goes : expires true link bound q ≡ nat_lt time bound = is_time link bound q time (lt-ltb q link.capacity inside) told in
    shown bound time ∙ sym (ap (λ b. cond b None (Some (Some time))) goes)

pub expired_table : (link : Link) (bound : ℕ) (times : List (Option ℕ)) → link.times ≡ time_table 0 times → link.capacity ≡ length times →
    time_table 0 (map (kept_time bound) times) ≡ without true (expires true link bound) (time_table 0 times)
expired_table link bound times same long = same_numbers _ _ (λ q. time_is (map (kept_time bound) times) q ∙ ap listed (slice_get-map (kept_time bound) times q)
    ∙ at_time link bound q times (slice_get times q) same long refl ∙ ap (λ found. cond (expires true link bound q) None found) (sym (time_is times q))
    ∙ sym ((forgets nat_cmp_total nat_cmp-IsAntisymmetric).of_full (expires true link bound) (time_table 0 times) q))

-- keys
pub both : (a b : Bool) → (a && b) ≡ true → (a ≡ true) × (b ≡ true)
both true b is = (refl, is)
both false b is = absurd (cc)

either : (a b : Bool) → a ≡ true → (a || b) ≡ true
either a b is = rw is refl

later : (a b : Bool) → b ≡ true → (a || b) ≡ true
later true b is = refl
later false b is = is

pub same_bool : (a b : Bool) → (a ≡ true → b ≡ true) → (b ≡ true → a ≡ true) → a ≡ b
same_bool true true to from = refl
same_bool true false to from = sym (to refl)
same_bool false true to from = from refl
same_bool false false to from = refl

pub record Found (test : (ℕ × Option ℕ) → Bool) (start : ℕ) (times : List (Option ℕ)) : Type 0 where
  pub index : ℕ
  pub time : ℕ
  pub there : slice_get times index ≡ Some (Some time)
  pub passes : test (start + index, Some time) ≡ true

shift : (test : (ℕ × Option ℕ) → Bool) (start : ℕ) (time : Option ℕ) (times : List (Option ℕ)) → Found test (suc start) times → Found test start (time ∷ times)
shift test start time times found = record {
  index = suc found.index;
  time = found.time;
  there = found.there;
  passes = (let same : start + suc found.index ≡ suc start + found.index = omega arith in ap (λ (k : ℕ). test (k, Some found.time)) same ∙ found.passes);
}

one_found : (test : (ℕ × Option ℕ) → Bool) (start time : ℕ) (times : List (Option ℕ)) → (list_any test (time_list (suc start) times) ≡ true
    → Found test (suc start) times) →
    (b : Bool) → test (start, Some time) ≡ b → (b || list_any test (time_list (suc start) times)) ≡ true → Found test start (Some time ∷ times)
one_found test start time times rest true here any = record {
  index = zero;
  time = time;
  there = refl;
  passes =
      (let same : start + 0 ≡ start = omega arith in ap (λ (k : ℕ). test (k, Some time)) same ∙ here);
}
one_found test start time times rest false here any = shift test start (Some time) times (rest any)

pub any_found : (test : (ℕ × Option ℕ) → Bool) (start : ℕ) (times : List (Option ℕ)) → list_any test (time_list start times) ≡ true → Found test start times
any_found test start [] is = absurd (cc)
any_found test start (None ∷ times) is = shift test start None times (any_found test (suc start) times is)
any_found test start (Some time ∷ times) is = one_found test start time times (λ any. any_found test (suc start) times any) (test (start, Some time)) refl is

pub any_there : (test : (ℕ × Option ℕ) → Bool) (start i time : ℕ) (times : List (Option ℕ)) → slice_get times i ≡ Some (Some time)
    → test (start + i, Some time) ≡ true → list_any test (time_list start times) ≡ true
any_there test start i time [] there passes = absurd (none_some (Some time) there)
any_there test start zero time (None ∷ times) there passes = absurd (none_some time (some_is None (Some time) there))
any_there test start zero time (Some other ∷ times) there passes =
    let same : start ≡ start + 0 = omega arith in
    either (test (start, Some other)) (list_any test (time_list (suc start) times)) (ap (λ (k : ℕ). test (k, Some other)) same
    ∙ ap (λ (t : Option ℕ). test (start + 0, t)) (some_is (Some other) (Some time) there) ∙ passes)
any_there test start (suc i) time (None ∷ times) there passes =
    let same : suc start + i ≡ start + suc i = omega arith in any_there test (suc start) i time times there (ap (λ (k : ℕ). test (k, Some time)) same ∙ passes)
any_there test start (suc i) time (Some other ∷ times) there passes =
    let same : suc start + i ≡ start + suc i = omega arith in
    later (test (start, Some other)) (list_any test (time_list (suc start) times)) (any_there test (suc start) i time times there
    (ap (λ (k : ℕ). test (k, Some time)) same ∙ passes))

-- the test that picks a key
abbrev picks : Link → ℕ → List ℕ → (ℕ × Option ℕ) → Bool
picks link bound key entry = is_before bound (Some entry.1) && is_key_of (get link.cells entry.0) key

pub of_key : (cell : Option (List ℕ)) (key : List ℕ) → is_key_of cell key ≡ true → cell ≡ Some key
of_key None key is = absurd (cc)
of_key (Some bytes) key is = ap Some (bytes_true bytes key is)

of_early : (bound : ℕ) (found : Option (Option ℕ)) → is_early bound (joined found) ≡ true → (time : ℕ) × (found ≡ Some (Some time)) × (nat_lt time bound ≡ true)
of_early bound None is = absurd (cc)
of_early bound (Some None) is = absurd (cc)
of_early bound (Some (Some time)) is = (time, refl, is)

key_to : (link : Link) (bound : ℕ) (indices : List (Option ℕ)) (keys : List (List ℕ)) (times : List (Option ℕ)) (cells : List (List ℕ)) (key : List ℕ)
    → Tied indices keys times cells → link.cells ≡ cell_table 0 cells →
    Found (picks link bound key) 0 times → key_goes bound times cells key (joined (get (key_table indices keys) key)) ≡ true
key_to link bound indices keys times cells key tied cells_are found =
    let zero_is : 0 + found.index ≡ found.index = omega arith in
    let pair = tied found.index found.time found.there in
    let passes = both (nat_lt found.time bound) (is_key_of (get link.cells (0 + found.index)) key) found.passes in
    let cell_here : get link.cells (0 + found.index) ≡ Some pair.0 = ap (λ (k : ℕ). get link.cells k) zero_is ∙ ap (λ c. get c found.index) cells_are
    ∙ cell_is cells found.index ∙ pair.1 in
    let key_is : pair.0 ≡ key = some_is pair.0 key (sym cell_here ∙ of_key (get link.cells (0 + found.index)) key passes.1) in
    let mapped : get (key_table indices keys) key ≡ Some (Some found.index) = ap (λ (k : List ℕ). get (key_table indices keys) k) (sym key_is) ∙ pair.2 in
    ap (λ f. key_goes bound times cells key (joined f)) mapped
    ∙ ap (λ f. is_early bound (joined f) && is_key_of (slice_get cells found.index) key) found.there
    ∙ ap (λ b. b && is_key_of (slice_get cells found.index) key) passes.0
    ∙ ap (λ c. is_key_of c key) pair.1 ∙ ap (λ (k : List ℕ). bytes_eq k key) key_is ∙ bytes_same key

pub key_from : (link : Link) (bound : ℕ) (times : List (Option ℕ)) (cells : List (List ℕ)) (key : List ℕ) (index : Option ℕ) → link.cells ≡ cell_table 0 cells →
    key_goes bound times cells key index ≡ true → list_any (picks link bound key) (time_list 0 times) ≡ true
key_from link bound times cells key None cells_are goes = absurd (cc)
key_from link bound times cells key (Some index) cells_are goes =
    let zero_is : 0 + index ≡ index = omega arith in
    let parts = both (is_early bound (joined (slice_get times index))) (is_key_of (slice_get cells index) key) goes in
    let early = of_early bound (slice_get times index) parts.0 in
    let cell_here : get link.cells (0 + index) ≡ Some key = ap (λ (k : ℕ). get link.cells k) zero_is ∙ ap (λ c. get c index) cells_are
    ∙ cell_is cells index ∙ of_key (slice_get cells index) key parts.1 in
    any_there (picks link bound key) 0 index early.0 times early.1
    (ap (λ b. b && is_key_of (get link.cells (0 + index)) key) early.2 ∙ ap (λ c. is_key_of c key) cell_here ∙ bytes_same key)

pub expired_keys_are : (link : Link) (bound : ℕ) (indices next : List (Option ℕ)) (keys : List (List ℕ)) (times : List (Option ℕ))
    (cells : List (List ℕ)) → Tied indices keys times cells →
    link.times ≡ time_table 0 times → link.cells ≡ cell_table 0 cells →
    ((key : List ℕ) → get (key_table next keys) key ≡ cond (key_goes bound times cells key (joined (get (key_table indices keys) key))) None
    (get (key_table indices keys) key)) →
    key_table next keys ≡ without true (key_expires link bound) (key_table indices keys)
expired_keys_are link bound indices next keys times cells tied times_are cells_are now = same_keys _ _ (λ key. now key
    ∙ ap (λ b. cond b None (get (key_table indices keys) key)) (same_bool _ _
    (λ goes. listed_same key ∙ key_from link bound times cells key (joined (get (key_table indices keys) key)) cells_are goes)
    (λ goes. key_to link bound indices keys times cells key tied cells_are (any_found (picks link bound key) 0 times (sym (listed_same key) ∙ goes))))
    ∙ sym ((forgets nat_list_cmp_total (slice_cmp-IsAntisymmetric nat_cmp-IsAntisymmetric)).of_full (key_expires link bound) (key_table indices keys) key))
  where
    listed_same : (key : List ℕ) → key_expires link bound key ≡ list_any (picks link bound key) (time_list 0 times)
    listed_same key = ap (λ t. list_any (picks link bound key) (entries t)) times_are ∙ ap (λ es. list_any (picks link bound key) es) (time_entries 0 times)

pub tied_lists : (indices : List (Option ℕ)) (keys : List (List ℕ)) (times : List (Option ℕ)) (cells : List (List ℕ)) →
    ((index time : ℕ) → get (time_table 0 times) index ≡ Some (Some time) → (key : List ℕ) × (get (cell_table 0 cells) index ≡ Some key)
    × (get (key_table indices keys) key ≡ Some (Some index))) → Tied indices keys times cells
tied_lists indices keys times cells keyed index time there =
    let pair = keyed index time (time_is times index ∙ ap listed there) in
    (pair.0, sym (cell_is cells index) ∙ pair.1, pair.2)
