-- Times by index.
use Rattle.std.proofs.Common.{◌≡◌, ℕ, zero, suc, ◌<◌, List, [], ◌∷◌, length, set, get_or, replicate, Some, None, Option, refl, sym, ◌∙◌, ap, subst}
use Rattle.std.proofs.Common.{arith, Bool, true, false, cond, inl, inr}
use Rattle.std.specs.Prelude.{slice_get, count_by, nat_lt, ◌==◌}
use Rattle.std.specs.Option.{option_map}
use Rattle.std.proofs.lemmas.Bool.{cases_lt}
use Rattle.std.proofs.lemmas.List.{length-set, length-replicate, get_or-replicate}
use Rattle.std.proofs.lemmas.List.Sums.{sum_by-cons, sum_by-set}
use Rattle.std.proofs.lemmas.Option.{slice_get-get_or, slice_get_past, get_or_from_slice_get}
use Rattle.std.specs.FinMap.{get}
use Rattle.vg_abs.specs.Tables.{TimeTable}
use Rattle.vg_abs.specs.Agreement.{BothTell}
use Rattle.vg_abs.specs.Answers.{listed_or_none}
use Rattle.vg_dchain.specs.Indices.{IsDistinct, AllBelow}
use Rattle.vg_dchain.specs.ChainState.{time_at, indices}
use Rattle.vg_plain.specs.PlainTables.{time_table, joined}
use Rattle.vg_plain.specs.Expiring.{is_early}
use Rattle.vg_plain.proofs.ListPlaces.{set_at}
use Rattle.vg_plain.proofs.Places.{same_numbers, time_is, listed}
use Rattle.vg_store.specs.RealTables.{age_table}
use Rattle.vg_store.proofs.TableLaws.{age_is}
use Rattle.vg_store.proofs.Ages.{time_absent, time_past}

-- by index, the time of each that is handed out, and none for each that is free
abbrev pub times_of : ℕ → List (ℕ × ℕ) → List (Option ℕ)
times_of range [] = replicate range None
times_of range (entry ∷ entries) = set (times_of range entries) entry.0 (Some entry.1)

pub length_times : (range : ℕ) (es : List (ℕ × ℕ)) → length (times_of range es) ≡ range
length_times range [] = length-replicate range None
length_times range (e ∷ es) = length-set (times_of range es) e.0 (Some e.1) ∙ length_times range es

none_there : (range i : ℕ) → i < range → slice_get (replicate {A = Option ℕ} range None) i ≡ Some None
none_there range i less = slice_get-get_or (replicate {A = Option ℕ} range None) i None (omega (arith, length-replicate {A = Option ℕ} range None))
    ∙ ap Some (get_or-replicate {A = Option ℕ} range i None None less)

some_of : (b : Bool) (time : ℕ) (found : Option ℕ) → cond b (Some (Some time)) (Some found) ≡ Some (cond b (Some time) found)
some_of true time found = refl
some_of false time found = refl

pub times_at : (range : ℕ) (es : List (ℕ × ℕ)) (i : ℕ) → AllBelow range (indices es) → i < range → slice_get (times_of range es) i ≡ Some (time_at es i)
times_at range [] i below less = none_there range i less
times_at range (e ∷ es) i below less =
    let inside : e.0 < range = below.0 in
    set_at (times_of range es) e.0 i (Some e.1) (omega (arith, length_times range es))
    ∙ ap (λ o. cond (e.0 == i) (Some (Some e.1)) o) (times_at range es i below.1 less) ∙ some_of (e.0 == i) e.1 (time_at es i)

listed_time : (time : Option ℕ) → listed (Some time) ≡ option_map Some time
listed_time None = refl
listed_time (Some t) = refl

pub age_times : (range : ℕ) (es : List (ℕ × ℕ)) → AllBelow range (indices es) → age_table es ≡ time_table 0 (times_of range es)
age_times range es below = same_numbers _ _ (λ q. age_is es q ∙ elim (cases_lt q range) [
  | inl less ↦ sym (listed_time (time_at es q)) ∙ ap listed (sym (times_at range es q below less))
  | inr past ↦ ap (λ (o : Option ℕ). option_map Some o) (time_past range es q below past) ∙ sym
      (ap listed (slice_get_past (times_of range es) q (omega (arith, length_times range es))))
] ∙ sym (time_is (times_of range es) q))

none_counted : (before range : ℕ) → count_by (is_early before) (replicate range None) ≡ 0
none_counted before zero = refl
none_counted before (suc range) = omega (
  arith,
  sum_by-cons (λ (time : Option ℕ). cond (is_early before time) 1 0) None (replicate range None),
  none_counted before range,
)

pub early_times : (before range : ℕ) (es : List (ℕ × ℕ)) → AllBelow range (indices es) → IsDistinct (indices es)
    → count_by (is_early before) (times_of range es) ≡ count_by (λ entry. nat_lt entry.1 before) es
early_times before range [] below distinct = none_counted before range
early_times before range (e ∷ es) below distinct =
    let inside : e.0 < range = below.0 in
    let f : Option ℕ → ℕ = λ time. cond (is_early before time) 1 0 in
    let free : get_or (times_of range es) e.0 None ≡ None = get_or_from_slice_get (times_of range es) e.0 None None
    (times_at range es e.0 below.1 inside ∙ ap Some (time_absent es e.0 distinct.0)) in
    let one = sum_by-set f (times_of range es) e.0 (Some e.1) None (omega (arith, length_times range es)) in
    let none : f (get_or (times_of range es) e.0 None) ≡ 0 = ap f free in
    let rest = early_times before range es below.1 distinct.1 in
    omega (arith, one, none, rest, sum_by-cons (λ (entry : ℕ × ℕ). cond (nat_lt entry.1 before) 1 0) e es)

-- times tell by index what they tell by list
joined_at : (range : ℕ) (es : List (ℕ × ℕ)) (i : ℕ) → AllBelow range (indices es) → i < range → joined (slice_get (times_of range es) i) ≡ time_at es i
joined_at range es i below less = ap joined (times_at range es i below less)

pub times_told : (range : ℕ) (es : List (ℕ × ℕ)) (full : Bool) (table : TimeTable) → AllBelow range (indices es)
    → ((i : ℕ) → i < range → BothTell (Some (time_at es i)) (listed_or_none full (get table i))) →
    (i : ℕ) → i < length (times_of range es) → BothTell (Some (joined (slice_get (times_of range es) i))) (listed_or_none full (get table i))
times_told range es full table below told i less =
    let inside : i < range = omega (arith, less, length_times range es) in
    subst (λ (o : Option ℕ). BothTell (Some o) (listed_or_none full (get table i))) (sym (joined_at range es i below inside)) (told i inside)

pub told_times : (range : ℕ) (es : List (ℕ × ℕ)) (full : Bool) (table : TimeTable) → AllBelow range (indices es) →
    ((i : ℕ) → i < length (times_of range es) → BothTell (Some (joined (slice_get (times_of range es) i))) (listed_or_none full (get table i))) →
    (i : ℕ) → i < range → BothTell (Some (time_at es i)) (listed_or_none full (get table i))
told_times range es full table below told i inside =
    subst (λ (o : Option ℕ). BothTell (Some o) (listed_or_none full (get table i))) (joined_at range es i below inside)
    (told i (omega (arith, inside, length_times range es)))
