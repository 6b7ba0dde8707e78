-- One step of a search, and one of closing a gap.
use Rattle.std.proofs.Common.{◌≡◌, ◌≢◌, ℕ, ◌+◌, ◌*◌, ◌≤◌, ◌<◌, Bool, true, false, List, length, take, drop, set, get_or, Option, Some, None, IsSome}
use Rattle.std.proofs.Common.{option_map, refl, sym, ◌∙◌, ap, subst, arith}
use Rattle.std.specs.Prelude.{not}
use Rattle.std.specs.Option.{is_some}
use Rattle.std.specs.Bool.{MatchBool}
use Rattle.std.specs.Str.{bytes_eq}
use Rattle.std.proofs.lemmas.Slice.Eq.{bytes_eq-Decides}
use Rattle.std.proofs.lemmas.List.{length-set}
use Rattle.vg_map.specs.declared.hash.Homes.{Homes}
use Rattle.vg_map.specs.Hash.{home_of}
use Rattle.vg_map.specs.Slots.{slots_of, slot, map_of, full_slots}
use Rattle.vg_map.specs.Search.{IsOther, IsEnd, HasGap, ClosesGap}
use Rattle.vg_map.proofs.SlotLists.{slot-slots_of, slot_full, slot_empty, index_empty, length-slots_of, full_slots-shift}
use Rattle.vg_map.proofs.Found.{moved, map_of-moved}
use Rattle.vg_map.proofs.Standing.{gap-move, gap-stay, gap-end}

-- ---- what a comparison of slot i with a key tells

differ : (b : Bool) → true ≡ not b → b ≡ true → ⊥
differ true e p = cc
differ false e p = cc

agree : (b : Bool) → false ≡ not b → b ≡ true
agree true e = refl
agree false e = cc

other_here : (o : Option ℕ) (k key : List ℕ) → IsSome o → k ≢ key → IsOther key (option_map (λ v. (k, v)) o)
other_here None k key h ne = cc
other_here (Some v) k key h ne = ne

end_here : (o : Option ℕ) (k key : List ℕ) → k ≡ key → IsEnd key (option_map (λ v. (k, v)) o)
end_here None k key e = tt
end_here (Some v) k key e = e

end_empty : (o : Option ℕ) (k key : List ℕ) → false ≡ is_some o → IsEnd key (option_map (λ v. (k, v)) o)
end_empty None k key e = tt
end_empty (Some v) k key e = cc

full_there : (o : Option ℕ) (k key : List ℕ) → IsOther key (option_map (λ v. (k, v)) o) → IsSome o
full_there None k key h = absurd h
full_there (Some v) k key h = refl

module _ (n : ℕ) (keys : List ℕ) (indices : List (Option ℕ)) (key : List ℕ) (i : ℕ) where
  -- at a full slot the bytes decide
  pub told_by_bytes : (r : Bool) → IsSome (get_or indices i None) → r ≡ not (bytes_eq (take n (drop (i * n) keys)) key)
      → MatchBool r (IsOther key (slot (slots_of n keys indices) i)) (IsEnd key (slot (slots_of n keys indices) i))
  told_by_bytes true full e = subst (IsOther key) (sym (slot-slots_of n keys indices i))
      (other_here (get_or indices i None) (take n (drop (i * n) keys)) key full (λ p. differ _ e ((bytes_eq-Decides (take n (drop (i * n) keys)) key).1 p)))
  told_by_bytes false full e = subst (IsEnd key) (sym (slot-slots_of n keys indices i))
      (end_here (get_or indices i None) (take n (drop (i * n) keys)) key ((bytes_eq-Decides (take n (drop (i * n) keys)) key).0 (agree _ e)))

  -- an empty slot is an end
  pub told_by_mark : (r : Bool) → r ≡ is_some (get_or indices i None) → r ≡ false → MatchBool r (IsOther key (slot (slots_of n keys indices) i))
      (IsEnd key (slot (slots_of n keys indices) i))
  told_by_mark true mark e = cc
  told_by_mark false mark e = subst (IsEnd key) (sym (slot-slots_of n keys indices i)) (end_empty (get_or indices i None) (take n (drop (i * n) keys)) key mark)

  -- a slot with another key is full
  pub other_full : IsOther key (slot (slots_of n keys indices) i) → IsSome (get_or indices i None)
  other_full h = full_there (get_or indices i None) (take n (drop (i * n) keys)) key (subst (IsOther key) (slot-slots_of n keys indices i) h)

-- ---- closing a gap: how the slots are to those at the start, once those before `at` have been looked at

pub record Closing (homes : Homes) (n : ℕ) (first_keys : List ℕ) (first_indices : List (Option ℕ)) (keys : List ℕ) (indices : List (Option ℕ))
    (gap at : ℕ) : Type 0 where
  pub order : gap < at
  pub within : gap < length indices
  pub slots : length indices ≡ length first_indices
  pub bytes : length keys ≡ length first_keys
  pub full : full_slots indices ≡ full_slots first_indices
  pub same : map_of (slots_of n keys indices) ≡ map_of (slots_of n first_keys first_indices)
  pub has_gap : HasGap homes (slots_of n keys indices) gap at

less_not_same : (a b : ℕ) → a < b → a ≢ b
less_not_same a b h p = absurd (omega arith)

-- what stands in the next slot is moved into the gap
pub closing-move : (homes : Homes) (n : ℕ) (first_keys : List ℕ) (first_indices : List (Option ℕ)) (keys : List ℕ) (indices : List (Option ℕ))
    (gap at v : ℕ) (new_keys : List ℕ) (new_indices : List (Option ℕ))
    → Closing homes n first_keys first_indices keys indices gap at → at < length indices → get_or indices at None ≡ Some v
    → home_of homes (take n (drop (at * n) keys)) ≤ gap
    → slots_of n new_keys new_indices ≡ moved (slots_of n keys indices) at gap → new_indices ≡ set (set indices gap (get_or indices at None)) at None
    → length new_keys ≡ length keys
    → Closing homes n first_keys first_indices new_keys new_indices at (at + 1)
closing-move homes n first_keys first_indices keys indices gap at v new_keys new_indices c within is before slots_are indices_are bytes_are =
    let here = slot_full n keys indices at v is in
    let ne : gap ≢ at = λ p. less_not_same gap at c.order p in
    let long : length new_indices ≡ length indices = ap length indices_are ∙ length-set (set indices gap (get_or indices at None)) at None
    ∙ length-set indices gap (get_or indices at None) in
    record {
      order = omega arith;
      within = omega arith;
      slots = long ∙ c.slots;
      bytes = bytes_are ∙ c.bytes;
      full = ap full_slots indices_are ∙ full_slots-shift indices at gap v c.order within is (index_empty n keys indices gap c.has_gap.empty) ∙ c.full;
      same = ap map_of slots_are
          ∙ map_of-moved (slots_of n keys indices) at gap (take n (drop (at * n) keys), v) here c.has_gap.empty ne
          (omega (arith, c.within, length-slots_of n keys indices)) c.has_gap.once
          ∙ c.same;
      has_gap = subst (λ s. HasGap homes s at (at + 1)) (sym slots_are)
          (gap-move homes (slots_of n keys indices) gap at (take n (drop (at * n) keys), v) c.has_gap here c.order
          (omega (arith, length-slots_of n keys indices)) before);
    }

-- it has its home behind the gap, and stays
pub closing-stay : (homes : Homes) (n : ℕ) (first_keys : List ℕ) (first_indices : List (Option ℕ)) (keys : List ℕ) (indices : List (Option ℕ)) (gap at v : ℕ)
    → Closing homes n first_keys first_indices keys indices gap at → get_or indices at None ≡ Some v → gap < home_of homes (take n (drop (at * n) keys))
    → Closing homes n first_keys first_indices keys indices gap (at + 1)
closing-stay homes n first_keys first_indices keys indices gap at v c is behind = record {
  order = omega (arith, c.order);
  within = c.within;
  slots = c.slots;
  bytes = c.bytes;
  full = c.full;
  same = c.same;
  has_gap = gap-stay homes (slots_of n keys indices) gap at (take n (drop (at * n) keys), v) c.has_gap (slot_full n keys indices at v is) behind;
}

-- the next slot is empty, or there is none
pub closing-end : (homes : Homes) (n : ℕ) (first_keys : List ℕ) (first_indices : List (Option ℕ)) (keys : List ℕ) (indices : List (Option ℕ)) (gap at : ℕ)
    → Closing homes n first_keys first_indices keys indices gap at → get_or indices at None ≡ None
    → ClosesGap homes (slots_of n first_keys first_indices) (slots_of n keys indices)
closing-end homes n first_keys first_indices keys indices gap at c none = record {
  same = c.same;
  met = gap-end homes (slots_of n keys indices) gap at c.has_gap (slot_empty n keys indices at none) c.order;
  once = c.has_gap.once;
}
