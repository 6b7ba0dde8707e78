-- The whole table: what a look-up gives, and that it is a table still after a key is put or erased.
use Rattle.std.proofs.Common.{◌≡◌, ◌⊎◌, inl, inr, ℕ, zero, suc, ◌+◌, ◌-◌, ◌*◌, ◌≤◌, ◌<◌, cond, List, [], ◌++◌, length, take, drop, set, get_or}
use Rattle.std.proofs.Common.{Option, Some, None, IsSome, refl, sym, ◌∙◌, ap, subst, arith, add-one, pow_pos}
use Rattle.std.specs.Option.{is_some}
use Rattle.std.specs.Int.{IsPowerOfTwo}
use Rattle.std.specs.Ordering.{nat_cmp}
use Rattle.std.specs.Cmp.Lexicographic.{slice_cmp}
use lib.ListN.{replicate}
use Rattle.std.specs.FinMap.{get, insert, remove, empty, from_entries, len, len-insert, len-remove, len-empty}
use Rattle.std.proofs.lemmas.Cmp.{nat_list_cmp_total}
use Rattle.std.proofs.lemmas.List.{length-set, length-append, length-take, length-drop, length-replicate, append_assoc}
use Rattle.std.proofs.Math.Nat.{suc-mul}
use Rattle.vg_map.specs.declared.hash.Homes.{Homes}
use Rattle.vg_map.specs.Hash.{home_of}
use Rattle.vg_map.specs.Slots.{Entry, slots_of, slot, entries_of, map_of, full_slots, IsTable, IsMet, StandOnce}
use Rattle.vg_map.specs.Search.{EndsAt, HasGap, ClosesGap}
use Rattle.vg_map.proofs.SlotLists.{slot_full, slot_empty, index_empty, length-slots_of, slots_of-fill, slots_of-empty, written, full_slots-fill}
use Rattle.vg_map.proofs.SlotLists.{full_slots-empty, some_of, pieces_within_all}
use Rattle.vg_map.proofs.Found.{IsAbsent, get-map_of, found_none, absent, map_of-fill, map_of-empty, once-fill}
use Rattle.vg_map.proofs.Standing.{absent_at_empty, empty_if_absent, found_at_end, full_before, met-fill, gap-start, end_is}

none_or_some : (o : Option ℕ) → (o ≡ None) ⊎ ((v : ℕ) × (o ≡ Some v))
none_or_some None = inl refl
none_or_some (Some v) = inr (v, refl)

-- what the map has at a key stands where the search for it ends
pub table_get : (homes : Homes) (n capacity size : ℕ) (keys : List ℕ) (indices : List (Option ℕ)) (key : List ℕ) (at : ℕ)
    → IsTable homes n capacity size keys indices
    → EndsAt (slots_of n keys indices) key (home_of homes key) at → get (map_of (slots_of n keys indices)) key ≡ get_or indices at None
table_get homes n capacity size keys indices key at t ends =
    let slots = slots_of n keys indices in
    get-map_of slots key
    ∙ elim (none_or_some (get_or indices at None)) [
      | inl e ↦ found_none key slots (absent_at_empty homes slots key at t.met ends (slot_empty n keys indices at e)) ∙ sym e
      | inr s ↦ found_at_end homes slots key at s.0 (take n (drop (at * n) keys)) t.once ends (slot_full n keys indices at s.0 s.1) ∙ sym s.1
    ]

pub at_within : (homes : Homes) (n capacity size : ℕ) (keys : List ℕ) (indices : List (Option ℕ)) (key : List ℕ) (home at : ℕ)
    → EndsAt (slots_of n keys indices) key home at → at < length indices
at_within homes n capacity size keys indices key home at ends = omega (arith, ends.within, length-slots_of n keys indices)

-- ---- a key is put

pub length-written : (n : ℕ) (keys key : List ℕ) (i m : ℕ) → length key ≡ n → length keys ≡ m * n → i < m → length (written n keys key i) ≡ length keys
length-written n keys key i m a b h =
    let within : n + i * n ≤ length keys = pieces_within_all n i m (length keys) b h in
    omega (
      arith,
      suc-mul i n,
      length-append (take (i * n) keys) (key ++ drop (suc i * n) keys),
      length-append key (drop (suc i * n) keys),
      length-take (i * n) keys,
      length-drop (suc i * n) keys,
    )

one_more : (o : Option ℕ) (n : ℕ) → o ≡ None → cond (is_some o) n (n + 1) ≡ n + 1
one_more None n e = refl
one_more (Some v) n e = cc

pub table_put : (homes : Homes) (n capacity size : ℕ) (keys : List ℕ) (indices : List (Option ℕ)) (key : List ℕ) (at v : ℕ)
    → IsTable homes n capacity size keys indices
    → EndsAt (slots_of n keys indices) key (home_of homes key) at → length key ≡ n → size < capacity → get (map_of (slots_of n keys indices)) key ≡ None
    → IsTable homes n capacity (size + 1) (written n keys key at) (set indices at (Some v))
    × (map_of (slots_of n (written n keys key at) (set indices at (Some v))) ≡ insert (map_of (slots_of n keys indices)) key v)
table_put homes n capacity size keys indices key at v t ends long room none =
    let slots = slots_of n keys indices in
    let within = at_within homes n capacity size keys indices key (home_of homes key) at ends in
    let new : IsAbsent key slots = absent key slots (sym (get-map_of slots key) ∙ none) in
    let empty = empty_if_absent slots key (home_of homes key) at ends new in
    let are = slots_of-fill n keys key indices at v long t.bytes within in
    let same = ap map_of are ∙ map_of-fill key v slots at empty ends.within new in (
      record {
        slots = length-set indices at (Some v) ∙ t.slots;
        bytes = length-written n keys key at (length indices) long t.bytes within ∙ t.bytes ∙ ap (λ k. k * n) (sym (length-set indices at (Some v)));
        full = full_slots-fill indices at v (index_empty n keys indices at empty) within ∙ ap suc t.full ∙ sym (add-one size);
        counted = ap len same ∙ len-insert nat_list_cmp_total (map_of slots) key v ∙ one_more (get (map_of slots) key) (len (map_of slots)) none
            ∙ ap (λ k. k + 1) t.counted;
        within = omega arith;
        met = subst (λ s. (i : ℕ) (e : Entry) → slot s i ≡ Some e → IsMet homes s i e.0) (sym are)
            (met-fill homes slots (key, v) at ends.within ends.from (full_before slots key (home_of homes key) at ends) t.met);
        once = subst StandOnce (sym are) (once-fill slots at (key, v) t.once new);
      },
      same,
    )

-- ---- a key is erased

-- the search for a key that the map has ends at that key
pub ends_at_full : (homes : Homes) (n capacity size : ℕ) (keys : List ℕ) (indices : List (Option ℕ)) (key : List ℕ) (at : ℕ)
    → IsTable homes n capacity size keys indices
    → EndsAt (slots_of n keys indices) key (home_of homes key) at → IsSome (get (map_of (slots_of n keys indices)) key) → IsSome (get_or indices at None)
ends_at_full homes n capacity size keys indices key at t ends present = ap is_some (sym (table_get homes n capacity size keys indices key at t ends)) ∙ present

pub table_gap : (homes : Homes) (n capacity size : ℕ) (keys : List ℕ) (indices : List (Option ℕ)) (key : List ℕ) (at : ℕ)
    → IsTable homes n capacity size keys indices
    → EndsAt (slots_of n keys indices) key (home_of homes key) at → HasGap homes (slots_of n keys (set indices at None)) at (at + 1)
table_gap homes n capacity size keys indices key at t ends =
    subst (λ s. HasGap homes s at (at + 1)) (sym (slots_of-empty n keys indices at)) (gap-start homes (slots_of n keys indices) at ends.within t.met t.once)

pub size_above : (homes : Homes) (n capacity size : ℕ) (keys : List ℕ) (indices : List (Option ℕ)) (at : ℕ)
    → IsTable homes n capacity size keys indices → IsSome (get_or indices at None) → 0 < size
size_above homes n capacity size keys indices at t full = omega (arith, t.full, full_slots-empty indices at full)

one_less : (o : Option ℕ) (n : ℕ) → IsSome o → cond (is_some o) (n - 1) n ≡ n - 1
one_less None n e = cc
one_less (Some v) n e = refl

pub table_erase : (homes : Homes) (n capacity size : ℕ) (keys : List ℕ) (indices : List (Option ℕ)) (key : List ℕ) (at : ℕ) (new_keys : List ℕ)
    (new_indices : List (Option ℕ)) → IsTable homes n capacity size keys indices
    → EndsAt (slots_of n keys indices) key (home_of homes key) at → IsSome (get (map_of (slots_of n keys indices)) key)
    → ClosesGap homes (slots_of n keys (set indices at None)) (slots_of n new_keys new_indices) → full_slots new_indices ≡ full_slots (set indices at None)
    → length new_indices ≡ length (set indices at None) → length new_keys ≡ length keys
    → IsTable homes n capacity (size - 1) new_keys new_indices × (map_of (slots_of n new_keys new_indices) ≡ remove (map_of (slots_of n keys indices)) key)
table_erase homes n capacity size keys indices key at new_keys new_indices t ends present closes full_is slots_are bytes_are =
    let slots = slots_of n keys indices in
    let full = ends_at_full homes n capacity size keys indices key at t ends present in
    let v = some_of (get_or indices at None) full in
    let here = slot_full n keys indices at v.0 v.1 in
    let own : take n (drop (at * n) keys) ≡ key = end_is key (slot slots at) (take n (drop (at * n) keys), v.0) here ends.end in
    let same = closes.same ∙ ap map_of (slots_of-empty n keys indices at) ∙ map_of-empty (take n (drop (at * n) keys), v.0) slots at here t.once
    ∙ ap (remove (map_of slots)) own in
    let long = slots_are ∙ length-set indices at None in (
      record {
        slots = long ∙ t.slots;
        bytes = bytes_are ∙ t.bytes ∙ ap (λ k. k * n) (sym long);
        full = omega (arith, full_is, t.full, full_slots-empty indices at full);
        counted = ap len same ∙ len-remove nat_list_cmp_total (map_of slots) key ∙ one_less (get (map_of slots) key) (len (map_of slots)) present
            ∙ ap (λ k. k - 1) t.counted;
        within = omega (arith, t.within);
        met = closes.met;
        once = closes.once;
      },
      same,
    )

-- ---- a search, by what the code holds

pub ends_in : (n : ℕ) (homes : Homes) (keys slice : List ℕ) (indices marks : List (Option ℕ)) (key : List ℕ) (home at : ℕ) → slice ≡ keys
    → marks ≡ indices → length key ≡ n → home ≡ home_of homes key
    → EndsAt (slots_of (length key) slice marks) key home at → EndsAt (slots_of n keys indices) key (home_of homes key) at
ends_in n homes keys slice indices marks key home at keys_are indices_are long home_is ends =
    subst (λ k. EndsAt (slots_of n k indices) key (home_of homes key) at) keys_are
    (subst (λ m. EndsAt (slots_of n slice m) key (home_of homes key) at) indices_are
    (subst (λ k. EndsAt (slots_of k slice marks) key (home_of homes key) at) long
    (subst (λ h. EndsAt (slots_of (length key) slice marks) key h at) home_is ends)))

pub written_in : (n : ℕ) (keys front key new : List ℕ) (at : ℕ) → length key ≡ n → front ≡ keys → new ≡ (take (at * length key) front ++ key)
    ++ drop ((at + 1) * length key) front → new ≡ written n keys key at
written_in n keys front key new at long front_is new_is =
    new_is
    ∙ ap (λ k. (take (at * k) front ++ key) ++ drop ((at + 1) * k) front) long
    ∙ ap (λ f. (take (at * n) f ++ key) ++ drop ((at + 1) * n) f) front_is
    ∙ ap (λ k. (take (at * n) keys ++ key) ++ drop (k * n) keys) (add-one at)
    ∙ append_assoc (take (at * n) keys) key (drop (suc at * n) keys)

-- the key fits into the block at a slot
pub written_fits : (n m at : ℕ) (key keys front : List ℕ) → length key ≡ n → length keys ≡ m * n → at < m → front ≡ keys → (at + 1) * length key ≤ length front
written_fits n m at key keys front long bytes within front_is =
    let fits : n + at * n ≤ length keys = pieces_within_all n at m (length keys) bytes within in
    let product : (at + 1) * length key ≡ suc at * n = ap (λ k. (at + 1) * k) long ∙ ap (λ k. k * n) (add-one at) in
    omega (arith, product, suc-mul at n, ap length front_is)

-- ---- a table with empty slots only

slot_none : (m i : ℕ) → get_or (replicate {A = Option ℕ} m None) i None ≡ None
slot_none zero i = refl
slot_none (suc m) zero = refl
slot_none (suc m) (suc i) = slot_none m i

full_none : (m : ℕ) → full_slots (replicate m None) ≡ 0
full_none zero = refl
full_none (suc m) = full_none m

no_entries : (n m : ℕ) (keys : List ℕ) → entries_of (slots_of n keys (replicate m None)) ≡ []
no_entries n zero keys = refl
no_entries n (suc m) keys = no_entries n m (drop n keys)

none_some : (o : Option Entry) (e : Entry) → o ≡ None → o ≡ Some e → ⊥
none_some o e p q = cc

nothing_there : (n m : ℕ) (keys : List ℕ) (i : ℕ) (e : Entry) → slot (slots_of n keys (replicate m None)) i ≡ Some e → ⊥
nothing_there n m keys i e at = none_some _ e (slot_empty n keys (replicate m None) i (slot_none m i)) at

pub table_new : (many n capacity seed : ℕ) (keys : List ℕ) (indices : List (Option ℕ)) → 0 < many → length keys ≡ (many + capacity) * n
    → indices ≡ replicate (many + capacity) None
    → IsTable (record { mask = many - 1; seed = seed }) n capacity 0 keys indices × (map_of (slots_of n keys indices) ≡ empty)
table_new many n capacity seed keys indices some bytes are =
    let none = replicate (many + capacity) None in
    let long : length none ≡ many + capacity = length-replicate (many + capacity) None in
    let same : map_of (slots_of n keys indices) ≡ empty = ap (λ s. map_of (slots_of n keys s)) are ∙ ap from_entries (no_entries n (many + capacity) keys) in (
      record {
        slots = ap length are ∙ long ∙ omega arith;
        bytes = bytes ∙ ap (λ k. k * n) (sym (ap length are ∙ long));
        full = ap full_slots are ∙ full_none (many + capacity);
        counted = ap len same ∙ len-empty (slice_cmp nat_cmp) ℕ;
        within = omega arith;
        met = λ i e at. absurd (nothing_there n (many + capacity) keys i e (ap (λ s. slot (slots_of n keys s) i) (sym are) ∙ at));
        once = λ i j e f at. absurd (nothing_there n (many + capacity) keys i e (ap (λ s. slot (slots_of n keys s) i) (sym are) ∙ at));
      },
      same,
    )

pub power_above : (n : ℕ) → IsPowerOfTwo n → 0 < n
power_above n p = omega (arith, pow_pos p.0, p.1)

take_none : {A : Type 0} (n : ℕ) → take {A = A} n [] ≡ []
take_none zero = refl
take_none (suc n) = refl

-- what `resize` makes of an empty list
pub resized : {A : Type 0} (n : ℕ) (old new : List A) (held : ℕ) (x : A) → old ≡ [] → held ≡ 0 → new ≡ take n old ++ replicate (n - held) x
    → new ≡ replicate n x
resized n old new held x old_is held_is new_is =
    new_is ∙ ap (λ l. take n l ++ replicate (n - held) x) old_is ∙ ap (λ l. l ++ replicate (n - held) x) (take_none n)
    ∙ ap (λ k. replicate (n - k) x) held_is ∙ ap (λ k. replicate k x) (omega arith)
