-- Rings: an index put at the end, and one taken out.
use Rattle.std.specs.Prelude.{◌≢◌}
use Rattle.std.proofs.Common.{ℕ, suc, ◌+◌, ◌-◌, ◌<◌, List, [], ◌∷◌, ◌++◌, length, replicate, take, drop, get_or, set, Some, slice_get, sym, ap, ◌∙◌}
use Rattle.std.proofs.Common.{◌≡◌, subst, arith}
use Rattle.std.proofs.lemmas.List.{get_or-set_same, get_or-set_other, length-set, length_push, length-replicate, get_or-replicate, length-append, append-nil}
use Rattle.std.specs.Prelude.{Contains}
use Rattle.vg_dchain.specs.Indices.{Indices, IsAbsent, IsDistinct, AllBelow, without}
use Rattle.vg_dchain.specs.Links.{indices_after, Leads, LeadsBack, IsRing}
use Rattle.vg_dchain.proofs.IndexLemmas.{told, split_at_index, without-split, AllBelow-more, AllBelow-append, AllBelow-front, AllBelow-rest}
use Rattle.vg_dchain.proofs.IndexLemmas.{AllBelow-remove, IsAbsent-bound, IsAbsent-before, IsAbsent-around, IsDistinct-front, IsDistinct-rest}
use Rattle.vg_dchain.proofs.IndexLemmas.{IsDistinct-remove, IsDistinct-insert}
use Rattle.vg_dchain.proofs.LinkLemmas.{Same, Same-set, Same-trans, last_of, IsAbsent-last_of, last_of-below, length-indices_after, Leads-same}
use Rattle.vg_dchain.proofs.LinkLemmas.{Leads-relink, Leads-append, Leads-front, Leads-rest, LeadsBack-append, LeadsBack-front, LeadsBack-rest}
use Rattle.vg_dchain.proofs.LinkLemmas.{LeadsBack-last, LeadsBack-end, indices_after-Leads}

-- the end's place and the list are places of the links, and distinct
ring_below : (next previous : List ℕ) (end : ℕ) (order : List ℕ) → IsRing next previous end order → AllBelow (end + 1) (end ∷ order)
ring_below next previous end order r = (omega arith, AllBelow-more end (end + 1) order (omega arith) r.below)

ring_distinct : (next previous : List ℕ) (end : ℕ) (order : List ℕ) → IsRing next previous end order → IsDistinct (end ∷ order)
ring_distinct next previous end order r = (IsAbsent-bound end order r.below, r.distinct)

pub ring_order : (next previous : List ℕ) (end : ℕ) (order : List ℕ) (n : ℕ) → IsRing next previous end order → length order ≡ n
    → indices_after n next end ≡ order
ring_order next previous end order n r e = rw (← e) (indices_after-Leads next end order end r.leads)

-- the slot before the end
pub ring_last : (next previous : List ℕ) (end : ℕ) (order : List ℕ) → IsRing next previous end order → get_or previous end 0 ≡ last_of end order
ring_last next previous end order r = LeadsBack-last previous end order end r.back

pub ring_last-below : (next previous : List ℕ) (end : ℕ) (order : List ℕ) → IsRing next previous end order → get_or previous end 0 < end + 1
ring_last-below next previous end order r = rw (ring_last next previous end order r) (last_of-below (end + 1) end order (ring_below next previous end order r))

pub IsRing-push : (next previous : List ℕ) (end : ℕ) (order : List ℕ) (i last : ℕ) → IsRing next previous end order → i < end → IsAbsent i order
    → last ≡ get_or previous end 0
    → IsRing (set (set next last i) i end) (set (set previous i last) end i) end (order ++ i ∷ [])
IsRing-push next previous end order i last r h a l =
    let z : last ≡ last_of end order = l ∙ ring_last next previous end order r in
    let apart : i ≢ end = λ (e : i ≡ end). omega arith in
    let n1 : List ℕ = set next last i in
    let p1 : List ℕ = set previous i last in
    let below : AllBelow (length next) (end ∷ order) = subst (λ (n : ℕ). AllBelow n (end ∷ order)) (sym r.next_fits) (ring_below next previous end order r) in
    let led : Leads n1 end order i = rw z (Leads-relink next end order end i below (ring_distinct next previous end order r) r.leads) in
    let kept : Leads (set n1 i end) end order i = Leads-same n1 (set n1 i end) end order i (Same-set n1 i end (end ∷ order) (apart, a)) led in
    let ends : get_or (set n1 i end) i 0 ≡ end = get_or-set_same n1 i end 0 (omega (arith, r.next_fits, length-set next last i)) in
    let same : Same previous (set p1 end i) order = Same-trans previous p1 (set p1 end i) order (Same-set previous i last order a)
    (Same-set p1 end i order (IsAbsent-bound end order r.below)) in
    let here : get_or (set p1 end i) i 0 ≡ get_or previous end 0 = get_or-set_other p1 end i i 0 apart
    ∙ get_or-set_same previous i last 0 (omega (arith, r.previous_fits)) ∙ l in
    let back : LeadsBack (set p1 end i) end order i = LeadsBack-end previous (set p1 end i) end order end i same here r.back in
    let begins : get_or (set p1 end i) end 0 ≡ i = get_or-set_same p1 end i 0 (omega (arith, r.previous_fits, length-set previous i last)) in
    record {
      next_fits = length-set n1 i end ∙ length-set next last i ∙ r.next_fits;
      previous_fits = length-set p1 end i ∙ length-set previous i last ∙ r.previous_fits;
      leads = Leads-append (set n1 i end) end order i [] end kept ends;
      back = LeadsBack-append (set p1 end i) end order i [] end back begins;
      below = AllBelow-append end order (i ∷ []) r.below (h, tt);
      distinct = IsDistinct-insert order i [] (rw (append-nil order) r.distinct) (rw (append-nil order) a);
    }

-- the links around an index that is in the ring
pub ring_before : (next previous : List ℕ) (end : ℕ) (front : List ℕ) (i : ℕ) (rest : List ℕ) → IsRing next previous end (front ++ i ∷ rest)
    → get_or previous i 0 ≡ last_of end front
ring_before next previous end front i rest r = LeadsBack-last previous end front i (LeadsBack-front previous end front i rest end r.back)

-- the first of a list, or b
abbrev first_of : List ℕ → ℕ → ℕ
first_of [] b = b
first_of (x ∷ xs) b = x

first_of-Leads : (l : List ℕ) (a : ℕ) (xs : List ℕ) (b : ℕ) → Leads l a xs b → get_or l a 0 ≡ first_of xs b
first_of-Leads l a [] b h = h
first_of-Leads l a (x ∷ xs) b h = h.0

pub ring_after : (next previous : List ℕ) (end : ℕ) (front : List ℕ) (i : ℕ) (rest : List ℕ) → IsRing next previous end (front ++ i ∷ rest)
    → get_or next i 0 ≡ first_of rest end
ring_after next previous end front i rest r = first_of-Leads next i rest end (Leads-rest next end front i rest end r.leads)

-- links that leave an index out
leads_past : (next : List ℕ) (end : ℕ) (front : List ℕ) (i : ℕ) (rest : List ℕ) (before after : ℕ)
    → AllBelow (length next) (end ∷ (front ++ i ∷ rest)) → IsDistinct (end ∷ (front ++ i ∷ rest)) → Leads next end (front ++ i ∷ rest) end
    → before ≡ last_of end front → after ≡ first_of rest end
    → Leads (set next before after) end (front ++ rest) end
leads_past next end front i [] before after b d h x y =
    let led : Leads (set next before after) end front after =
    rw x (Leads-relink next end front i after (AllBelow-front (length next) (end ∷ front) (i ∷ []) b) (IsDistinct-front (end ∷ front) (i ∷ []) d)
    (Leads-front next end front i [] end h)) in
    rw (append-nil front) (subst (λ (k : ℕ). Leads (set next before after) end front k) y led)
leads_past next end front i (z ∷ rest) before after b d h x y =
    let led : Leads (set next before after) end front after =
    rw x (Leads-relink next end front i after (AllBelow-front (length next) (end ∷ front) (i ∷ z ∷ rest) b)
    (IsDistinct-front (end ∷ front) (i ∷ z ∷ rest) d) (Leads-front next end front i (z ∷ rest) end h)) in
    let apart : IsAbsent before (i ∷ z ∷ rest) = subst (λ (k : ℕ). IsAbsent k (i ∷ z ∷ rest)) (sym x) (IsAbsent-last_of end front (i ∷ z ∷ rest) d) in
    let on : Leads next z rest end = (Leads-rest next end front i (z ∷ rest) end h).1 in
    let kept : Leads (set next before after) z rest end = Leads-same next (set next before after) z rest end
    (Same-set next before after (z ∷ rest) apart.1) on in
    Leads-append (set next before after) end front z rest end (subst (λ (k : ℕ). Leads (set next before after) end front k) y led) kept

back_past : (previous : List ℕ) (end : ℕ) (front : List ℕ) (i : ℕ) (rest : List ℕ) (before after : ℕ) → AllBelow end (front ++ i ∷ rest)
    → end < length previous → IsDistinct (front ++ i ∷ rest) → LeadsBack previous end (front ++ i ∷ rest) end → before ≡ get_or previous i 0
    → after ≡ first_of rest end
    → LeadsBack (set previous after before) end (front ++ rest) end
back_past previous end front i [] before after b w d h x y =
    let led : LeadsBack previous end front i = LeadsBack-front previous end front i [] end h in
    let same : Same previous (set previous end before) front = Same-set previous end before front
    (IsAbsent-bound end front (AllBelow-front end front (i ∷ []) b)) in
    let here : get_or (set previous end before) end 0 ≡ get_or previous i 0 = get_or-set_same previous end before 0 w ∙ x in
    rw (append-nil front, y) (LeadsBack-end previous (set previous end before) end front i end same here led)
back_past previous end front i (z ∷ rest) before after b w d h x y =
    let led : LeadsBack previous end front i = LeadsBack-front previous end front i (z ∷ rest) end h in
    let on : LeadsBack previous z rest end = (LeadsBack-rest previous end front i (z ∷ rest) end h).1 in
    let less : IsDistinct (front ++ z ∷ rest) = IsDistinct-remove front i (z ∷ rest) d in
    let z_below : z < end = (AllBelow-rest end front (i ∷ z ∷ rest) b).1.0 in
    let same : Same previous (set previous z before) front = Same-set previous z before front (IsAbsent-before front z rest less) in
    let here : get_or (set previous z before) z 0 ≡ get_or previous i 0 = get_or-set_same previous z before 0 (omega arith) ∙ x in
    let one : LeadsBack (set previous z before) end front z = LeadsBack-end previous (set previous z before) end front i z same here led in
    let later : Same previous (set previous z before) rest = Same-set previous z before rest (IsDistinct-rest front (z ∷ rest) less).0 in
    let end_same : get_or (set previous z before) end 0 ≡ get_or previous end 0 = get_or-set_other previous z end before 0 (λ (e : end ≡ z). omega arith) in
    let two : LeadsBack (set previous z before) z rest end = LeadsBack-end previous (set previous z before) z rest end end later end_same on in
    rw y (LeadsBack-append (set previous z before) end front z rest end one two)

pub IsRing-remove : (next previous : List ℕ) (end : ℕ) (front : List ℕ) (i : ℕ) (rest : List ℕ) (before after : ℕ)
    → IsRing next previous end (front ++ i ∷ rest) → before ≡ get_or previous i 0 → after ≡ get_or next i 0
    → IsRing (set next before after) (set previous after before) end (front ++ rest)
IsRing-remove next previous end front i rest before after r x y =
    let below : AllBelow (length next) (end ∷ (front ++ i ∷ rest)) = subst (λ (n : ℕ). AllBelow n (end ∷ (front ++ i ∷ rest))) (sym r.next_fits)
    (ring_below next previous end (front ++ i ∷ rest) r) in
    let before_is : before ≡ last_of end front = x ∙ ring_before next previous end front i rest r in
    let after_is : after ≡ first_of rest end = y ∙ ring_after next previous end front i rest r in
    record {
      next_fits = length-set next before after ∙ r.next_fits;
      previous_fits = length-set previous after before ∙ r.previous_fits;
      leads = leads_past next end front i rest before after below (ring_distinct next previous end (front ++ i ∷ rest) r) r.leads before_is after_is;
      back = back_past previous end front i rest before after r.below (omega (arith, r.previous_fits)) r.distinct r.back x after_is;
      below = AllBelow-remove end front i rest r.below;
      distinct = IsDistinct-remove front i rest r.distinct;
    }

-- what a push leaves, in the words of the code
pub ring_pushed : (next previous next1 next2 previous1 previous2 : List ℕ) (end n i last : ℕ) (was : Indices)
    → told end (indices_after n next end) ≡ was → IsRing next previous end (indices_after n next end) → i < was.bound → IsAbsent i was.order
    → last ≡ get_or previous end 0
    → next1 ≡ set next last i → previous1 ≡ set previous i last → next2 ≡ set next1 i end → previous2 ≡ set previous1 end i
    → IsRing next2 previous2 end (indices_after (n + 1) next2 end) × (told end (indices_after (n + 1) next2 end) ≡ record was { order = was.order ++ i ∷ [] })
ring_pushed next previous next1 next2 previous1 previous2 end n i last was v r h a l e1 e2 e3 e4 =
    let order : List ℕ = indices_after n next end in
    let within : i < end = subst (λ (w : Indices). i < w.bound) (sym v) h in
    let absent : IsAbsent i (indices_after n next end) = subst (λ (w : Indices). IsAbsent i w.order) (sym v) a in
    let made : IsRing next2 previous2 end (indices_after n next end ++ i ∷ []) = rw (e3, e1, e4, e2)
    (IsRing-push next previous end (indices_after n next end) i last r within absent l) in
    let count : length (indices_after n next end ++ i ∷ []) ≡ n + 1 = length_push (indices_after n next end) i
    ∙ ap (λ (k : ℕ). k + 1) (length-indices_after n next end) in
    let now : indices_after (n + 1) next2 end ≡ indices_after n next end ++ i ∷ [] = ring_order next2 previous2 end
    (indices_after n next end ++ i ∷ []) (n + 1) made count in
    (rw now made, ap (told end) now ∙ ap (λ (w : Indices). told w.bound (w.order ++ i ∷ [])) v)

first_of-below : (n : ℕ) (xs : List ℕ) (b : ℕ) → AllBelow n xs → b < n + 1 → first_of xs b < n + 1
first_of-below n [] b h k = k
first_of-below n (x ∷ xs) b h k = let first : x < n = h.0 in omega arith

-- an index of the ring, in parts
pub record Parts (next previous : List ℕ) (end : ℕ) (order : List ℕ) (i : ℕ) : Type 0 where
  pub front : List ℕ
  pub rest : List ℕ
  pub is : order ≡ front ++ i ∷ rest
  pub ring : IsRing next previous end (front ++ i ∷ rest)
  pub within : i < end
  pub before : get_or previous i 0 < end + 1
  pub after : get_or next i 0 < end + 1

pub ring_parts : (next previous : List ℕ) (end n i : ℕ) (was : Indices) → told end (indices_after n next end) ≡ was
    → IsRing next previous end (indices_after n next end) → Contains was.order i → Parts next previous end (indices_after n next end) i
ring_parts next previous end n i was v r c =
    let held : Contains (indices_after n next end) i = subst (λ (w : Indices). Contains w.order i) (sym v) c in
    let front : List ℕ = take held.0 (indices_after n next end) in
    let rest : List ℕ = drop (suc held.0) (indices_after n next end) in
    let is : indices_after n next end ≡ front ++ i ∷ rest = split_at_index (indices_after n next end) held.0 i held.1 held.2 in
    let ring : IsRing next previous end (front ++ i ∷ rest) = subst (λ (o : List ℕ). IsRing next previous end o) is r in
    let below : AllBelow end (i ∷ rest) = AllBelow-rest end front (i ∷ rest) ring.below in
    let bounds : AllBelow (end + 1) (end ∷ front) = AllBelow-front (end + 1) (end ∷ front) (i ∷ rest) (ring_below next previous end (front ++ i ∷ rest) ring) in
    record {
      front = front;
      rest = rest;
      is = is;
      ring = ring;
      within = below.0;
      before = subst (λ (k : ℕ). k < end + 1) (sym (ring_before next previous end front i rest ring)) (last_of-below (end + 1) end front bounds);
      after = subst (λ (k : ℕ). k < end + 1) (sym (ring_after next previous end front i rest ring)) (first_of-below end rest end below.1 (omega arith));
    }

-- what a removal leaves, in the words of the code
pub ring_removed : (next previous next1 previous1 : List ℕ) (end n i before after : ℕ) (was : Indices) → told end (indices_after n next end) ≡ was
    → IsRing next previous end (indices_after n next end) → Contains was.order i → before ≡ get_or previous i 0 → after ≡ get_or next i 0
    → next1 ≡ set next before after → previous1 ≡ set previous after before
    → IsRing next1 previous1 end (indices_after (n - 1) next1 end) × (told end (indices_after (n - 1) next1 end) ≡ record was { order = without was.order i })
ring_removed next previous next1 previous1 end n i before after was v r c x y e1 e2 =
    let p : Parts next previous end (indices_after n next end) i = ring_parts next previous end n i was v r c in
    let made : IsRing next1 previous1 end (p.front ++ p.rest) = rw (e1, e2) (IsRing-remove next previous end p.front i p.rest before after p.ring x y) in
    let count : length (p.front ++ p.rest) ≡ n - 1 = omega (
      arith,
      length-append p.front p.rest,
      length-append p.front (i ∷ p.rest),
      ap (λ (o : List ℕ). length o) p.is,
      length-indices_after n next end,
    ) in
    let now : indices_after (n - 1) next1 end ≡ p.front ++ p.rest = ring_order next1 previous1 end (p.front ++ p.rest) (n - 1) made count in
    let less : p.front ++ p.rest ≡ without (indices_after n next end) i = sym (ap (λ (o : List ℕ). without o i) p.is
    ∙ without-split p.front i p.rest (IsAbsent-around p.front i p.rest p.ring.distinct)) in
    (rw now made, ap (told end) (now ∙ less) ∙ ap (λ (w : Indices). told w.bound (without w.order i)) v)

pub ring_new : (next previous : List ℕ) (end : ℕ) → next ≡ replicate (end + 1) end → previous ≡ replicate (end + 1) end → IsRing next previous end []
ring_new next previous end x y =
    record {
      next_fits = ap (λ (l : List ℕ). length l) x ∙ length-replicate (end + 1) end;
      previous_fits = ap (λ (l : List ℕ). length l) y ∙ length-replicate (end + 1) end;
      leads = ap (λ (l : List ℕ). get_or l end 0) x ∙ get_or-replicate (end + 1) end end 0 (omega arith);
      back = ap (λ (l : List ℕ). get_or l end 0) y ∙ get_or-replicate (end + 1) end end 0 (omega arith);
      below = tt;
      distinct = tt;
    }

pub ring_first : (next : List ℕ) (end n : ℕ) (was : Indices) → told end (indices_after n next end) ≡ was → 0 < length was.order
    → slice_get was.order 0 ≡ Some (get_or next end 0)
ring_first next end n was v h =
    let some : 0 < n = omega (arith, h, ap (λ (w : Indices). length w.order) v, length-indices_after n next end) in
    let one_more : n ≡ suc (n - 1) = omega arith in
    ap (λ (w : Indices). slice_get w.order 0) (sym v) ∙ ap (λ (k : ℕ). slice_get (indices_after k next end) 0) one_more
