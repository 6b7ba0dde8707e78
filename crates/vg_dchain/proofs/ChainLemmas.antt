-- Chains: what each call leaves.
use Rattle.std.specs.Prelude.{◌≢◌, Contains, drop, slice_get, unwrap_or, replicate}
use Rattle.std.specs.List.{range_with_len}
use Rattle.std.proofs.lemmas.List.FromFn.{length-range_with_len}
use Rattle.vg_dchain.proofs.RowLemmas.{AllBelow-range, IsDistinct-range}
use Rattle.std.proofs.Common.{ℕ, suc, ◌+◌, ◌<◌, ◌≤◌, true, Option, Some, None, List, [], ◌∷◌, ◌++◌, length, take, get_or, set, is_some, inl, inr, sym}
use Rattle.std.proofs.Common.{refl, ap, ◌∙◌, ◌≡◌, subst, arith}
use Rattle.std.proofs.lemmas.Bool.{cases_eq, le-ltb, false≢true}
use Rattle.std.proofs.lemmas.List.{get_or-set_same, get_or-set_other, length-set, length-append, length_push, append_assoc, length-replicate}
use Rattle.std.proofs.lemmas.List.{get_or-replicate, get_or_default}
use Rattle.vg_dchain.specs.Indices.{Indices, IsAbsent, IsDistinct, AllBelow, without}
use Rattle.vg_dchain.specs.ChainState.{ChainState, IsFree, time_at, others, oldest_below, after_allocation, after_rejuvenation, after_freeing}
use Rattle.vg_dchain.specs.ChainState.{RisesWithin, IsLawful}
use Rattle.vg_dchain.specs.Times.{stamps_of, IsChain}
use Rattle.vg_dchain.proofs.IndexLemmas.{split_at_index, without-split, AllBelow-rest, AllBelow-remove, AllBelow-insert, IsAbsent-append}
use Rattle.vg_dchain.proofs.IndexLemmas.{IsAbsent-front, IsAbsent-rest, IsAbsent-before, IsAbsent-around, IsDistinct-remove, IsDistinct-insert}
use Rattle.vg_dchain.proofs.TimeLemmas.{time_at-here, oldest_below-none, oldest_below-first, time_at-absent, held, time_at-push_same}
use Rattle.vg_dchain.proofs.TimeLemmas.{time_at-push_other, time_at-others_same, time_at-others_other, stamps_of-set, stamps_of-append}
use Rattle.vg_dchain.proofs.TimeLemmas.{others-stamps_of, indices-stamps_of, length-stamps_of, RisesWithin-push, RisesWithin-others}

-- what is seen of the parts
abbrev pub seen : Indices → Indices → List (Option ℕ) → ℕ → ChainState
seen by_age spare times newest = record { range = length times; entries = stamps_of times by_age.order; free = spare.order; highest = newest }

pub chain_lawful : (by_age spare : Indices) (times : List (Option ℕ)) (newest : ℕ) → IsChain by_age spare times newest
    → IsLawful (seen by_age spare times newest)
chain_lawful by_age spare times newest c =
    record {
      count = ap (λ (k : ℕ). k + length spare.order) (length-stamps_of times by_age.order) ∙ c.count;
      below = subst (λ (o : List ℕ). AllBelow (length times) (o ++ spare.order)) (sym (indices-stamps_of times by_age.order)) c.below;
      distinct = subst (λ (o : List ℕ). IsDistinct (o ++ spare.order)) (sym (indices-stamps_of times by_age.order)) c.distinct;
      rises = c.rises;
    }

-- a stamp that is set at an index stands at the end
stamped_push : (times : List (Option ℕ)) (i now : ℕ) (order : List ℕ) → i < length times → IsAbsent i order
    → stamps_of (set times i (Some now)) (order ++ i ∷ []) ≡ stamps_of times order ++ (i, now) ∷ []
stamped_push times i now order h a =
    stamps_of-append (set times i (Some now)) order (i ∷ [])
    ∙ ap (λ (es : List (ℕ × ℕ)). es ++ stamps_of (set times i (Some now)) (i ∷ [])) (stamps_of-set times i (Some now) order a)
    ∙ rw (get_or-set_same times i (Some now) None h) refl

-- the times after one is set
times_pushed : (times : List (Option ℕ)) (es : List (ℕ × ℕ)) (i now j : ℕ) → i < length times → time_at es i ≡ None
    → (i ≢ j → get_or times j None ≡ time_at es j) → get_or (set times i (Some now)) j None ≡ time_at (es ++ (i, now) ∷ []) j
times_pushed times es i now j h n t =
    elim (cases_eq i j) [
      | inl y ↦ rw (← y) (get_or-set_same times i (Some now) None h ∙ sym (time_at-push_same es i now n))
      | inr y ↦ get_or-set_other times i j (Some now) None (λ (e : j ≡ i). y (sym e)) ∙ t y ∙ sym (time_at-push_other es i now j y)
    ]

-- what the first free index fulfils
pub record IsNext (by_age : Indices) (times : List (Option ℕ)) (i : ℕ) : Type 0 where
  pub within : i < length times
  pub bound : i < by_age.bound
  pub absent : IsAbsent i by_age.order
  pub room : length by_age.order < by_age.bound

pub next_free : (by_age spare rest : Indices) (times : List (Option ℕ)) (newest i : ℕ) → IsChain by_age spare times newest
    → spare ≡ record rest { order = i ∷ rest.order } → IsNext by_age times i
next_free by_age spare rest times newest i c s =
    let below : AllBelow (length times) (by_age.order ++ i ∷ rest.order) = subst (λ (w : Indices). AllBelow (length times) (by_age.order ++ w.order))
    s c.below in
    let distinct : IsDistinct (by_age.order ++ i ∷ rest.order) = subst (λ (w : Indices). IsDistinct (by_age.order ++ w.order)) s c.distinct in
    let more : length spare.order ≡ suc (length rest.order) = ap (λ (w : Indices). length w.order) s in
    let within : i < length times = (AllBelow-rest (length times) by_age.order (i ∷ rest.order) below).0 in
    record {
      within = within;
      bound = omega (arith, within, c.aged_bound);
      absent = IsAbsent-before by_age.order i rest.order distinct;
      room = omega (arith, more, c.count, c.aged_bound);
    }

pub chain_allocated : (by_age by_age1 spare rest : Indices) (times times1 : List (Option ℕ)) (newest now i : ℕ) (was : ChainState)
    → seen by_age spare times newest ≡ was → IsChain by_age spare times newest → was.highest ≤ now
    → spare ≡ record rest { order = i ∷ rest.order } → by_age1 ≡ record by_age { order = by_age.order ++ i ∷ [] } → times1 ≡ set times i (Some now)
    → IsChain by_age1 rest times1 now × (seen by_age1 rest times1 now ≡ after_allocation was i now) × (was.free ≡ i ∷ rest.order)
chain_allocated by_age by_age1 spare rest times times1 newest now i was v c h s b t =
    let after : newest ≤ now = subst (λ (w : ChainState). w.highest ≤ now) (sym v) h in
    let n : IsNext by_age times i = next_free by_age spare rest times newest i c s in
    let order : List ℕ = by_age.order in
    let joined : (by_age.order ++ i ∷ []) ++ rest.order ≡ by_age.order ++ i ∷ rest.order = append_assoc by_age.order (i ∷ []) rest.order in
    let below : AllBelow (length times) (by_age.order ++ i ∷ rest.order) = subst (λ (w : Indices). AllBelow (length times) (by_age.order ++ w.order))
    s c.below in
    let distinct : IsDistinct (by_age.order ++ i ∷ rest.order) = subst (λ (w : Indices). IsDistinct (by_age.order ++ w.order)) s c.distinct in
    let pushed : stamps_of (set times i (Some now)) (by_age.order ++ i ∷ []) ≡ stamps_of times by_age.order ++ (i, now) ∷ [] =
    stamped_push times i now by_age.order n.within n.absent in
    let made : IsChain (record by_age { order = by_age.order ++ i ∷ [] }) rest (set times i (Some now)) now = record {
      aged_bound = c.aged_bound ∙ sym (length-set times i (Some now));
      free_bound = ap (λ (w : Indices). w.bound) (sym s) ∙ c.free_bound ∙ sym (length-set times i (Some now));
      count = omega (arith, c.count, length_push by_age.order i, ap (λ (w : Indices). length w.order) s, length-set times i (Some now));
      below = rw (length-set times i (Some now)) (subst (λ (o : List ℕ). AllBelow (length times) o) (sym joined) below);
      distinct = subst (λ (o : List ℕ). IsDistinct o) (sym joined) distinct;
      times_are = λ j k. times_pushed times (stamps_of times by_age.order) i now j n.within (time_at-absent times by_age.order i n.absent)
          (λ _. c.times_are j (omega (arith, k, length-set times i (Some now)))) ∙ ap (λ (es : List (ℕ × ℕ)). time_at es j) (sym pushed);
      rises = subst (λ (es : List (ℕ × ℕ)). RisesWithin 0 es now) (sym pushed) (RisesWithin-push 0 (stamps_of times by_age.order) newest i now c.rises after);
    } in
    let shown : seen (record by_age { order = by_age.order ++ i ∷ [] }) rest (set times i (Some now)) now ≡ after_allocation
    (seen by_age spare times newest) i now =
    rw (pushed, length-set times i (Some now), s) refl in (
      rw (b, t) made,
      rw (b, t) (shown ∙ ap (λ (w : ChainState). after_allocation w i now) v),
      ap (λ (w : ChainState). w.free) (sym v)
          ∙ ap (λ (w : Indices). w.order) s,
    )

-- the first free index is below the range and isn't handed out
pub next_is_free : (by_age spare rest : Indices) (times : List (Option ℕ)) (newest i : ℕ) (was : ChainState) → seen by_age spare times newest ≡ was
    → IsChain by_age spare times newest → spare ≡ record rest { order = i ∷ rest.order } → IsFree was i
next_is_free by_age spare rest times newest i was v c s =
    let n : IsNext by_age times i = next_free by_age spare rest times newest i c s in
    let free : IsFree (seen by_age spare times newest) i = record { below = n.within; not_handed = time_at-absent times by_age.order i n.absent } in
    subst (λ (w : ChainState). IsFree w i) v free

-- a chain with a free index isn't full
pub chain_not_full : (by_age spare rest : Indices) (times : List (Option ℕ)) (newest i : ℕ) (was : ChainState) → seen by_age spare times newest ≡ was
    → IsChain by_age spare times newest → spare ≡ record rest { order = i ∷ rest.order } → length was.entries ≡ was.range → ⊥
chain_not_full by_age spare rest times newest i was v c s e =
    omega (
      arith,
      e,
      ap (λ (w : ChainState). length w.entries) v,
      ap (λ (w : ChainState). w.range) v,
      length-stamps_of times by_age.order,
      c.count,
      ap (λ (w : Indices). length w.order) s,
    )

pub chain_full : (by_age spare : Indices) (times : List (Option ℕ)) (newest : ℕ) (was : ChainState) → seen by_age spare times newest ≡ was
    → IsChain by_age spare times newest → spare.order ≡ [] → length was.entries ≡ was.range
chain_full by_age spare times newest was v c s =
    omega (
      arith,
      ap (λ (w : ChainState). length w.entries) v,
      ap (λ (w : ChainState). w.range) v,
      length-stamps_of times by_age.order,
      c.count,
      ap (λ (o : List ℕ). length o) s,
    )

-- what a handed-out index fulfils
pub record IsHeld (by_age spare : Indices) (times : List (Option ℕ)) (i : ℕ) : Type 0 where
  pub front : List ℕ
  pub rest : List ℕ
  pub contains : Contains by_age.order i
  pub less : without by_age.order i ≡ front ++ rest
  pub within : i < length times
  pub bound : i < by_age.bound
  pub spare_bound : i < spare.bound
  pub absent : IsAbsent i (without by_age.order i)
  pub apart : IsAbsent i spare.order
  pub count : length (without by_age.order i) + 1 ≡ length by_age.order
  pub room : length (without by_age.order i) < by_age.bound
  pub spare_room : length spare.order < spare.bound
  pub below : AllBelow (length times) (without by_age.order i ++ spare.order)
  pub distinct : IsDistinct (without by_age.order i ++ spare.order)

pub chain_held : (by_age spare : Indices) (times : List (Option ℕ)) (newest i : ℕ) (was : ChainState) → seen by_age spare times newest ≡ was
    → IsChain by_age spare times newest → is_some (time_at was.entries i) ≡ true → IsHeld by_age spare times i
chain_held by_age spare times newest i was v c h =
    let contains : Contains by_age.order i = held times by_age.order i (subst (λ (w : ChainState). is_some (time_at w.entries i) ≡ true) (sym v) h) in
    let front : List ℕ = take contains.0 by_age.order in
    let rest : List ℕ = drop (suc contains.0) by_age.order in
    let is : by_age.order ≡ front ++ i ∷ rest = split_at_index by_age.order contains.0 i contains.1 contains.2 in
    let joined : (front ++ i ∷ rest) ++ spare.order ≡ front ++ i ∷ (rest ++ spare.order) = append_assoc front (i ∷ rest) spare.order in
    let apart : (front ++ rest) ++ spare.order ≡ front ++ (rest ++ spare.order) = append_assoc front rest spare.order in
    let all_below : AllBelow (length times) (front ++ i ∷ (rest ++ spare.order)) = subst (λ (o : List ℕ). AllBelow (length times) o) joined
    (subst (λ (o : List ℕ). AllBelow (length times) (o ++ spare.order)) is c.below) in
    let all_distinct : IsDistinct (front ++ i ∷ (rest ++ spare.order)) = subst (λ (o : List ℕ). IsDistinct o) joined
    (subst (λ (o : List ℕ). IsDistinct (o ++ spare.order)) is c.distinct) in
    let alone : IsAbsent i (front ++ (rest ++ spare.order)) = IsAbsent-around front i (rest ++ spare.order) all_distinct in
    let alone_here : IsAbsent i ((front ++ rest) ++ spare.order) = subst (λ (o : List ℕ). IsAbsent i o) (sym apart) alone in
    let alone_left : IsAbsent i (front ++ rest) = IsAbsent-front i (front ++ rest) spare.order alone_here in
    let less : without by_age.order i ≡ front ++ rest = ap (λ (o : List ℕ). without o i) is ∙ without-split front i rest alone_left in
    let within : i < length times = (AllBelow-rest (length times) front (i ∷ (rest ++ spare.order)) all_below).0 in
    let count : length (without by_age.order i) + 1 ≡ length by_age.order = omega (
      arith,
      ap (λ (o : List ℕ). length o) less,
      ap (λ (o : List ℕ). length o) is,
      length-append front rest,
      length-append front (i ∷ rest),
    ) in
    record {
      front = front;
      rest = rest;
      contains = contains;
      less = less;
      within = within;
      bound = omega (arith, within, c.aged_bound);
      spare_bound = omega (arith, within, c.free_bound);
      absent = subst (λ (o : List ℕ). IsAbsent i o) (sym less) alone_left;
      apart = IsAbsent-rest i (front ++ rest) spare.order alone_here;
      count = count;
      room = omega (arith, count, c.count, c.aged_bound);
      spare_room = omega (arith, count, c.count, c.free_bound);
      below = subst (λ (o : List ℕ). AllBelow (length times) (o ++ spare.order)) (sym less)
          (subst (λ (o : List ℕ). AllBelow (length times) o) (sym apart) (AllBelow-remove (length times) front i (rest ++ spare.order) all_below));
      distinct = subst (λ (o : List ℕ). IsDistinct (o ++ spare.order)) (sym less) (subst (λ (o : List ℕ). IsDistinct o) (sym apart)
          (IsDistinct-remove front i (rest ++ spare.order) all_distinct));
    }

-- i is apart from what is left and what is free
held_alone : (by_age spare : Indices) (times : List (Option ℕ)) (i : ℕ) → IsHeld by_age spare times i → IsAbsent i (without by_age.order i ++ spare.order)
held_alone by_age spare times i h = IsAbsent-append i (without by_age.order i) spare.order h.absent h.apart

pub chain_rejuvenated : (by_age by_age1 spare : Indices) (times times1 : List (Option ℕ)) (newest now i : ℕ) (was : ChainState)
    → seen by_age spare times newest ≡ was → IsChain by_age spare times newest → was.highest ≤ now → is_some (time_at was.entries i) ≡ true
    → by_age1 ≡ record by_age { order = without by_age.order i ++ i ∷ [] } → times1 ≡ set times i (Some now)
    → IsChain by_age1 spare times1 now × (seen by_age1 spare times1 now ≡ after_rejuvenation was i now)
chain_rejuvenated by_age by_age1 spare times times1 newest now i was v c h some b t =
    let after : newest ≤ now = subst (λ (w : ChainState). w.highest ≤ now) (sym v) h in
    let n : IsHeld by_age spare times i = chain_held by_age spare times newest i was v c some in
    let left : List ℕ = without by_age.order i in
    let entries : List (ℕ × ℕ) = stamps_of times by_age.order in
    let joined : (without by_age.order i ++ i ∷ []) ++ spare.order ≡ without by_age.order i ++ i ∷ spare.order =
    append_assoc (without by_age.order i) (i ∷ []) spare.order in
    let pushed : stamps_of (set times i (Some now)) (without by_age.order i ++ i ∷ []) ≡ others (stamps_of times by_age.order) i ++ (i, now) ∷ [] =
    stamped_push times i now (without by_age.order i) n.within n.absent ∙ ap (λ (es : List (ℕ × ℕ)). es ++ (i, now) ∷ [])
    (sym (others-stamps_of times by_age.order i)) in
    let made : IsChain (record by_age { order = without by_age.order i ++ i ∷ [] }) spare (set times i (Some now)) now = record {
      aged_bound = c.aged_bound ∙ sym (length-set times i (Some now));
      free_bound = c.free_bound ∙ sym (length-set times i (Some now));
      count = omega (arith, c.count, n.count, length_push (without by_age.order i) i, length-set times i (Some now));
      below = rw (length-set times i (Some now)) (subst (λ (o : List ℕ). AllBelow (length times) o) (sym joined)
          (AllBelow-insert (length times) (without by_age.order i) i spare.order n.below n.within));
      distinct = subst (λ (o : List ℕ). IsDistinct o) (sym joined) (IsDistinct-insert (without by_age.order i) i spare.order n.distinct
          (held_alone by_age spare times i n));
      times_are = λ j k. times_pushed times (others (stamps_of times by_age.order) i) i now j n.within
          (time_at-others_same (stamps_of times by_age.order) i) (λ ne. c.times_are j (omega (arith, k, length-set times i (Some now)))
          ∙ sym (time_at-others_other (stamps_of times by_age.order) i j ne)) ∙ ap (λ (es : List (ℕ × ℕ)). time_at es j) (sym pushed);
      rises = subst (λ (es : List (ℕ × ℕ)). RisesWithin 0 es now) (sym pushed) (RisesWithin-push 0 (others (stamps_of times by_age.order) i) newest i
          now (RisesWithin-others 0 (stamps_of times by_age.order) newest i c.rises) after);
    } in
    let shown : seen (record by_age { order = without by_age.order i ++ i ∷ [] }) spare (set times i (Some now)) now ≡ after_rejuvenation
    (seen by_age spare times newest) i now =
    rw (pushed, length-set times i (Some now)) refl in
    (rw (b, t) made, rw (b, t) (shown ∙ ap (λ (w : ChainState). after_rejuvenation w i now) v))

pub chain_freed : (by_age by_age1 spare spare1 : Indices) (times times1 : List (Option ℕ)) (newest i : ℕ) (was : ChainState)
    → seen by_age spare times newest ≡ was → IsChain by_age spare times newest → is_some (time_at was.entries i) ≡ true
    → by_age1 ≡ record by_age { order = without by_age.order i } → spare1 ≡ record spare { order = i ∷ spare.order } → times1 ≡ set times i None
    → IsChain by_age1 spare1 times1 newest × (seen by_age1 spare1 times1 newest ≡ after_freeing was i)
chain_freed by_age by_age1 spare spare1 times times1 newest i was v c some b s t =
    let n : IsHeld by_age spare times i = chain_held by_age spare times newest i was v c some in
    let left : stamps_of (set times i None) (without by_age.order i) ≡ others (stamps_of times by_age.order) i =
    stamps_of-set times i None (without by_age.order i) n.absent ∙ sym (others-stamps_of times by_age.order i) in
    let made : IsChain (record by_age { order = without by_age.order i }) (record spare { order = i ∷ spare.order }) (set times i None) newest = record {
      aged_bound = c.aged_bound ∙ sym (length-set times i None);
      free_bound = c.free_bound ∙ sym (length-set times i None);
      count = omega (arith, c.count, n.count, length-set times i None);
      below = rw (length-set times i None) (AllBelow-insert (length times) (without by_age.order i) i spare.order n.below n.within);
      distinct = IsDistinct-insert (without by_age.order i) i spare.order n.distinct (held_alone by_age spare times i n);
      times_are = λ j k.
          elim (cases_eq i j) [
            | inl y ↦ subst (λ (m : ℕ). get_or (set times i None) m None ≡ time_at (stamps_of (set times i None) (without by_age.order i)) m) y
                (get_or-set_same times i None None n.within ∙ sym (time_at-others_same (stamps_of times by_age.order) i)
                ∙ ap (λ (es : List (ℕ × ℕ)). time_at es i) (sym left))
            | inr y ↦ get_or-set_other times i j None None (λ (e : j ≡ i). y (sym e)) ∙ c.times_are j (omega (arith, k, length-set times i None))
                ∙ sym (time_at-others_other (stamps_of times by_age.order) i j y) ∙ ap (λ (es : List (ℕ × ℕ)). time_at es j) (sym left)
          ];
      rises = subst (λ (es : List (ℕ × ℕ)). RisesWithin 0 es newest) (sym left) (RisesWithin-others 0 (stamps_of times by_age.order) newest i c.rises);
    } in
    let shown : seen (record by_age { order = without by_age.order i }) (record spare { order = i ∷ spare.order }) (set times i None) newest ≡
    after_freeing (seen by_age spare times newest) i =
    rw (left, length-set times i None) refl in
    (rw (b, s, t) made, rw (b, s, t) (shown ∙ ap (λ (w : ChainState). after_freeing w i) v))

-- the oldest entry
pub head_is : (xs : List ℕ) (i : ℕ) → slice_get xs 0 ≡ Some i → xs ≡ i ∷ drop 1 xs
head_is [] i h = absurd (no h)
  where
    no : None ≡ Some i → ⊥
    no p = cc
head_is (x ∷ xs) i h = ap (λ (y : ℕ). y ∷ xs) (same h)
  where
    same : Some x ≡ Some i → x ≡ i
    same p = cc

pub chain_oldest : (by_age spare : Indices) (times : List (Option ℕ)) (newest i : ℕ) (was : ChainState) → seen by_age spare times newest ≡ was
    → slice_get by_age.order 0 ≡ Some i → was.entries ≡ (i, unwrap_or (get_or times i None) 0) ∷ stamps_of times (drop 1 by_age.order)
chain_oldest by_age spare times newest i was v h = ap (λ (w : ChainState). w.entries) (sym v) ∙ ap (stamps_of times) (head_is by_age.order i h)

pub oldest_held : (i t : ℕ) (es : List (ℕ × ℕ)) (was : ChainState) → was.entries ≡ (i, t) ∷ es → is_some (time_at was.entries i) ≡ true
oldest_held i t es was e = ap (λ (a : List (ℕ × ℕ)). is_some (time_at a i)) e ∙ ap (λ (o : Option ℕ). is_some o) (time_at-here i t es)

oldest_time : (i t u : ℕ) (es : List (ℕ × ℕ)) (was : ChainState) → was.entries ≡ (i, t) ∷ es → time_at was.entries i ≡ Some u → u ≡ t
oldest_time i t u es was e h =
    let both : Some u ≡ Some t = sym h ∙ ap (λ (a : List (ℕ × ℕ)). time_at a i) e ∙ time_at-here i t es in cc

pub expires_none : (by_age spare : Indices) (times : List (Option ℕ)) (newest i t before : ℕ) (was : ChainState)
    → seen by_age spare times newest ≡ was → IsChain by_age spare times newest → slice_get by_age.order 0 ≡ Some i → time_at was.entries i ≡ Some t
    → before ≤ t → oldest_below before was.entries ≡ None
expires_none by_age spare times newest i t before was v c h e b =
    let stamp : ℕ = unwrap_or (get_or times i None) 0 in
    let rest : List (ℕ × ℕ) = stamps_of times (drop 1 by_age.order) in
    let is : was.entries ≡ (i, unwrap_or (get_or times i None) 0) ∷ stamps_of times (drop 1 by_age.order) = chain_oldest by_age spare times newest i was v h in
    let same : t ≡ unwrap_or (get_or times i None) 0 = oldest_time i (unwrap_or (get_or times i None) 0) t (stamps_of times (drop 1 by_age.order)) was is e in
    let rises : RisesWithin 0 ((i, unwrap_or (get_or times i None) 0) ∷ stamps_of times (drop 1 by_age.order)) newest =
    subst (λ (es : List (ℕ × ℕ)). RisesWithin 0 es newest) (ap (λ (w : ChainState). w.entries) v ∙ is) c.rises in
    ap (oldest_below before) is ∙ rw (le-ltb (unwrap_or (get_or times i None) 0) before (omega arith))
    (oldest_below-none before (unwrap_or (get_or times i None) 0) (stamps_of times (drop 1 by_age.order)) newest (omega arith) rises.1)

pub expires_first : (by_age spare : Indices) (times : List (Option ℕ)) (newest i t before : ℕ) (was : ChainState)
    → seen by_age spare times newest ≡ was → slice_get by_age.order 0 ≡ Some i → time_at was.entries i ≡ Some t → t < before
    → oldest_below before was.entries ≡ Some i
expires_first by_age spare times newest i t before was v h e b =
    let is : was.entries ≡ (i, unwrap_or (get_or times i None) 0) ∷ stamps_of times (drop 1 by_age.order) = chain_oldest by_age spare times newest i was v h in
    let same : t ≡ unwrap_or (get_or times i None) 0 = oldest_time i (unwrap_or (get_or times i None) 0) t (stamps_of times (drop 1 by_age.order)) was is e in
    ap (oldest_below before) is ∙ oldest_below-first before i (unwrap_or (get_or times i None) 0) (stamps_of times (drop 1 by_age.order)) (omega arith)

pub chain_new : (range : ℕ) (times : List (Option ℕ)) → times ≡ replicate range None → IsChain (record { bound = range; order = [] })
    (record { bound = range; order = range_with_len 0 range }) times 0
chain_new range times t =
    let count : length times ≡ range = ap (λ (l : List (Option ℕ)). length l) t ∙ length-replicate {A = Option ℕ} range None in
    record {
      aged_bound = sym count;
      free_bound = sym count;
      count = omega (arith, count, length-range_with_len 0 range);
      below = rw count (AllBelow-range range range 0 (omega arith));
      distinct = IsDistinct-range range 0;
      times_are = λ i k. ap (λ (l : List (Option ℕ)). get_or l i None) t ∙ get_or-replicate {A = Option ℕ} range i None None (omega arith);
      rises = omega arith;
    }

pub chain_made : (range : ℕ) (by_age spare : Indices) (times : List (Option ℕ)) → by_age ≡ record { bound = range; order = [] }
    → spare ≡ record { bound = range; order = range_with_len 0 range } → times ≡ replicate range None
    → IsChain by_age spare times 0 × (seen by_age spare times 0 ≡ record { range = range; entries = []; free = range_with_len 0 range; highest = 0 })
chain_made range by_age spare times b s t =
    let count : length times ≡ range = ap (λ (l : List (Option ℕ)). length l) t ∙ length-replicate {A = Option ℕ} range None in
    let made : IsChain (record { bound = range; order = [] }) (record { bound = range; order = range_with_len 0 range }) times 0 = chain_new range times t in
    (rw (b, s) made, rw (b, s, count) refl)

-- the time that stands at an index
pub chain_reads : (by_age spare : Indices) (times : List (Option ℕ)) (newest i : ℕ) (was : ChainState) (x : Option ℕ)
    → seen by_age spare times newest ≡ was → IsChain by_age spare times newest → i < length times → x ≡ get_or times i x → time_at was.entries i ≡ x
chain_reads by_age spare times newest i was x v c h e =
    ap (λ (w : ChainState). time_at w.entries i) (sym v) ∙ sym (c.times_are i h) ∙ get_or_default times i None x h ∙ sym e

pub Some-unwrap_or : (o : Option ℕ) (d : ℕ) → is_some o ≡ true → o ≡ Some (unwrap_or o d)
Some-unwrap_or (Some x) d h = refl
Some-unwrap_or None d h = absurd (false≢true h)
