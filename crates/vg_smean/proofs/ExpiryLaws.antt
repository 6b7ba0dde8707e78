-- What expires is what expiry leaves out.
use Rattle.std.proofs.Common.{◌≡◌, ◌≢◌, ◌-◌, ℕ, suc, List, [], ◌∷◌, map, filter, length, Option, Some, None, Bool, true, false, ◌&&◌, ◌||◌, T, cond}
use Rattle.std.proofs.Common.{refl, sym, ◌∙◌, ap, subst, inl, inr}
use Rattle.std.specs.Prelude.{nat_eq, nat_lt, count_by}
use Rattle.std.specs.List.{list_any}
use Rattle.std.specs.declared.cmp.Ordering.TheVariants.{Equal}
use Rattle.std.specs.Ordering.{nat_cmp, is_lt}
use Rattle.std.specs.Cmp.{nat_cmp_total, nat_cmp_is}
use Rattle.std.specs.FinMap.{empty, get, find, entries, entries_sorted, get-entries, is_sorted, nat_cmp-IsAntisymmetric}
use Rattle.std.specs.FinMap.Entries.{below_all}
use Rattle.std.proofs.lemmas.List.Sums.{length-filter}
use Rattle.std.proofs.lemmas.Bool.{cases_eq, eq-eqb, ne_eqb}
use Rattle.vg_abs.specs.Tables.{Link, KeyTable, TimeTable, CellTable, BoundTable}
use Rattle.vg_abs.specs.Answers.{is_before, listed_or_none}
use Rattle.vg_abs.specs.Effects.{without, is_key_of, key_expires, expires}
use Rattle.vg_abs.proofs.Starting.{same_test}
use Rattle.vg_smean.proofs.EffectLaws.{alike}
use Rattle.vg_smean.specs.Expiring.{early, is_in_one, is_one_below, expired_link}

-- a key is in the cell of an index that is early
key_test : (cells : CellTable) (bound : ℕ) (key : List ℕ) (es : List (ℕ × Option ℕ)) →
    is_in_one cells (map (λ entry. entry.0) (filter (λ entry. is_before bound (Some entry.1)) es)) key
    ≡ list_any (λ entry. is_before bound (Some entry.1) && is_key_of (get cells entry.0) key) es
key_test cells bound key [] = refl
key_test cells bound key (e ∷ es) = go (key_test cells bound key es) (is_before bound (Some e.1)) refl where
  go : is_in_one cells (map (λ entry. entry.0) (filter (λ entry. is_before bound (Some entry.1)) es)) key
      ≡ list_any (λ entry. is_before bound (Some entry.1) && is_key_of (get cells entry.0) key) es → (b : Bool) → is_before bound (Some e.1) ≡ b →
      is_in_one cells (map (λ entry. entry.0) (filter (λ entry. is_before bound (Some entry.1)) (e ∷ es))) key
      ≡ list_any (λ entry. is_before bound (Some entry.1) && is_key_of (get cells entry.0) key) (e ∷ es)
  go so_far true is =
      ap (λ b. is_in_one cells (map (λ entry. entry.0) (cond b (e ∷ filter (λ entry. is_before bound (Some entry.1)) es)
      (filter (λ entry. is_before bound (Some entry.1)) es))) key) is
      ∙ ap (λ b. is_key_of (get cells e.0) key || b) so_far
      ∙ sym (ap (λ b. (b && is_key_of (get cells e.0) key) || list_any (λ entry. is_before bound (Some entry.1) && is_key_of (get cells entry.0) key) es) is)
  go so_far false is =
      ap (λ b. is_in_one cells (map (λ entry. entry.0) (cond b (e ∷ filter (λ entry. is_before bound (Some entry.1)) es)
      (filter (λ entry. is_before bound (Some entry.1)) es))) key) is
      ∙ so_far
      ∙ sym (ap (λ b. (b && is_key_of (get cells e.0) key) || list_any (λ entry. is_before bound (Some entry.1) && is_key_of (get cells entry.0) key) es) is)

-- an index that is listed is listed once
first : (a b : Bool) → T (a && b) → T a
first true b h = tt
first false b h = h

second : (a b : Bool) → T (a && b) → T b
second true b h = h
second false b h = absurd h

above : (x y : ℕ) → T (is_lt (nat_cmp x y)) → x ≢ y
above x y less same = subst (λ o. T (is_lt o)) (sym (nat_cmp_is x y Equal same)) less

gone : (top bound x : ℕ) (es : List (ℕ × Option ℕ)) → T (below_all nat_cmp x es)
    → is_one_below top (map (λ entry. entry.0) (filter (λ entry. is_before bound (Some entry.1)) es)) x ≡ false
gone top bound x [] below = refl
gone top bound x (e ∷ es) below = go (gone top bound x es (second (is_lt (nat_cmp x e.0)) (below_all nat_cmp x es) below)) (is_before bound (Some e.1)) refl
  where
    other : nat_eq e.0 x ≡ false
    other = ne_eqb e.0 x (λ same. above x e.0 (first (is_lt (nat_cmp x e.0)) (below_all nat_cmp x es) below) (sym same))

    go : is_one_below top (map (λ entry. entry.0) (filter (λ entry. is_before bound (Some entry.1)) es)) x ≡ false → (b : Bool) → is_before bound (Some e.1) ≡ b
        → is_one_below top (map (λ entry. entry.0) (filter (λ entry. is_before bound (Some entry.1)) (e ∷ es))) x ≡ false
    go rest true is =
        ap (λ b. is_one_below top (map (λ entry. entry.0) (cond b (e ∷ filter (λ entry. is_before bound (Some entry.1)) es)
        (filter (λ entry. is_before bound (Some entry.1)) es))) x) is
        ∙ ap (λ b. (b && nat_lt e.0 top) || is_one_below top (map (λ entry. entry.0) (filter (λ entry. is_before bound (Some entry.1)) es)) x) other ∙ rest
    go rest false is =
        ap (λ b. is_one_below top (map (λ entry. entry.0) (cond b (e ∷ filter (λ entry. is_before bound (Some entry.1)) es)
        (filter (λ entry. is_before bound (Some entry.1)) es))) x) is ∙ rest

-- whether what is found is early
abbrev holds : ℕ → Option (Option ℕ) → Bool
holds bound None = false
holds bound (Some time) = is_before bound (Some time)

no_or : (b : Bool) → (b || false) ≡ b
no_or true = refl
no_or false = refl

no_and : (b : Bool) → false ≡ (b && false)
no_and true = refl
no_and false = refl

all_and : (b : Bool) → b ≡ (b && true)
all_and true = refl
all_and false = refl

one_test : (top bound k : ℕ) (es : List (ℕ × Option ℕ)) → T (is_sorted nat_cmp es)
    → is_one_below top (map (λ entry. entry.0) (filter (λ entry. is_before bound (Some entry.1)) es)) k ≡ (nat_lt k top && holds bound (find nat_cmp k es))
one_test top bound k [] sorted = no_and (nat_lt k top)
one_test top bound k (e ∷ es) sorted = elim (cases_eq k e.0) [
  | inl same ↦ here same (is_before bound (Some e.1)) refl
  | inr ne ↦ there
      (one_test top bound k es (second (below_all nat_cmp e.0 es) (is_sorted nat_cmp es) sorted)) ne (is_before bound (Some e.1)) refl
] where
  rest : Bool
  rest = is_one_below top (map (λ entry. entry.0) (filter (λ entry. is_before bound (Some entry.1)) es)) k

  open_at : (b : Bool) → is_before bound (Some e.1) ≡ b
      → is_one_below top (map (λ entry. entry.0) (filter (λ entry. is_before bound (Some entry.1)) (e ∷ es))) k
      ≡ is_one_below top (map (λ entry. entry.0) (cond b (e ∷ filter (λ entry. is_before bound (Some entry.1)) es)
      (filter (λ entry. is_before bound (Some entry.1)) es))) k
  open_at b is = ap (λ b. is_one_below top (map (λ entry. entry.0) (cond b (e ∷ filter (λ entry. is_before bound (Some entry.1)) es)
      (filter (λ entry. is_before bound (Some entry.1)) es))) k) is

  none : k ≡ e.0 → rest ≡ false
  none same = gone top bound k es (subst (λ x. T (below_all nat_cmp x es)) (sym same) (first (below_all nat_cmp e.0 es) (is_sorted nat_cmp es) sorted))

  found : k ≡ e.0 → find nat_cmp k (e ∷ es) ≡ Some e.1
  found same = ap (λ b. cond b (Some e.1) (find nat_cmp k es)) (same_test k e.0 ∙ eq-eqb e.0 k (sym same))

  passed : k ≢ e.0 → find nat_cmp k (e ∷ es) ≡ find nat_cmp k es
  passed ne = ap (λ b. cond b (Some e.1) (find nat_cmp k es)) (same_test k e.0 ∙ ne_eqb e.0 k (λ same. ne (sym same)))

  here : k ≡ e.0 → (b : Bool) → is_before bound (Some e.1) ≡ b
      → is_one_below top (map (λ entry. entry.0) (filter (λ entry. is_before bound (Some entry.1)) (e ∷ es))) k
      ≡ (nat_lt k top && holds bound (find nat_cmp k (e ∷ es)))
  here same true is =
      open_at true is ∙ ap (λ b. (b && nat_lt e.0 top) || rest) (eq-eqb e.0 k (sym same)) ∙ ap (λ b. nat_lt e.0 top || b) (none same)
      ∙ no_or (nat_lt e.0 top) ∙ ap (λ n. nat_lt n top) (sym same) ∙ all_and (nat_lt k top) ∙ ap (λ b. nat_lt k top && b) (sym is)
      ∙ ap (λ (o : Option (Option ℕ)). nat_lt k top && holds bound o) (sym (found same))
  here same false is =
      open_at false is ∙ none same ∙ no_and (nat_lt k top) ∙ ap (λ b. nat_lt k top && b) (sym is)
      ∙ ap (λ (o : Option (Option ℕ)). nat_lt k top && holds bound o) (sym (found same))

  there : rest ≡ (nat_lt k top && holds bound (find nat_cmp k es)) → k ≢ e.0 → (b : Bool) → is_before bound (Some e.1) ≡ b
      → is_one_below top (map (λ entry. entry.0) (filter (λ entry. is_before bound (Some entry.1)) (e ∷ es))) k
      ≡ (nat_lt k top && holds bound (find nat_cmp k (e ∷ es)))
  there so_far ne true is =
      open_at true is ∙ ap (λ b. (b && nat_lt e.0 top) || rest) (ne_eqb e.0 k (λ same. ne (sym same)))
      ∙ so_far
      ∙ ap (λ (o : Option (Option ℕ)). nat_lt k top && holds bound o) (sym (passed ne))
  there so_far ne false is =
      open_at false is ∙ so_far
      ∙ ap (λ (o : Option (Option ℕ)). nat_lt k top && holds bound o) (sym (passed ne))

-- times
same_time : (link : Link) (bound : ℕ) (b : Bool) (found : Option (Option ℕ)) →
    cond (b && holds bound found) None found ≡ cond (is_before bound (cond b (listed_or_none true found) (Some None))) None found
same_time link bound true None = refl
same_time link bound true (Some time) = refl
same_time link bound false found = refl

times_expire : (link : Link) (bound : ℕ) → without true (is_one_below link.capacity (early bound link.times)) link.times
    ≡ without true (expires true link bound) link.times
times_expire link bound =
    alike nat_cmp_total nat_cmp-IsAntisymmetric (is_one_below link.capacity (early bound link.times)) (expires true link bound) link.times link.times
    (λ k. ap (λ b. cond b None (get link.times k)) (one_test link.capacity bound k (entries link.times) (entries_sorted link.times)
    ∙ ap (λ (o : Option (Option ℕ)). nat_lt k link.capacity && holds bound o) (sym (get-entries link.times k)))
    ∙ same_time link bound (nat_lt k link.capacity) (get link.times k))

keys_expire : (link : Link) (bound : ℕ) → without true (is_in_one link.cells (early bound link.times)) link.keys ≡ without true (key_expires link bound)
    link.keys
keys_expire link bound = ap (λ test. without true test link.keys) (λ i key. key_test link.cells bound key (entries link.times) i)

firsts : (es : List (ℕ × Option ℕ)) → length (map (λ entry. entry.0) es) ≡ length es
firsts [] = refl
firsts (e ∷ es) = ap suc (firsts es)

count_early : (link : Link) (bound : ℕ) → length (early bound link.times) ≡ count_by (λ entry. is_before bound (Some entry.1)) (entries link.times)
count_early link bound = firsts (filter (λ entry. is_before bound (Some entry.1)) (entries link.times))
    ∙ length-filter (λ entry. is_before bound (Some entry.1)) (entries link.times)

-- what is left
pub left : (link : Link) (bound : ℕ) (indices shown again : List ℕ) (keys : KeyTable) (times : TimeTable) (size count : ℕ) (bounds : BoundTable) →
    indices ≡ early bound link.times → shown ≡ indices → again ≡ indices → keys ≡ without true (is_in_one link.cells shown) link.keys
    → times ≡ without true (is_one_below link.capacity again) link.times → size ≡ link.size - length indices → count ≡ link.count - length indices
    → bounds ≡ empty →
    record link { keys = keys; times = times; size = size; count = count; bounds = bounds } ≡ expired_link link bound
left link bound indices shown again keys times size count bounds are shown_is again_is keys_are times_are size_is count_is none =
    let freed : length indices ≡ count_by (λ entry. is_before bound (Some entry.1)) (entries link.times) = ap length are ∙ count_early link bound in
    let all_keys = keys_are ∙ ap (λ xs. without true (is_in_one link.cells xs) link.keys) (shown_is ∙ are) ∙ keys_expire link bound in
    let all_times = times_are ∙ ap (λ xs. without true (is_one_below link.capacity xs) link.times) (again_is ∙ are) ∙ times_expire link bound in
    λ i. record link {
      keys = all_keys i;
      times = all_times i;
      size = (size_is ∙ ap (λ n. link.size - n) freed) i;
      count = (count_is ∙ ap (λ n. link.count - n) freed) i;
      bounds = none i;
    }
