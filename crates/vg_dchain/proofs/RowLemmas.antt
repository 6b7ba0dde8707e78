-- Rows of free indices: the first one taken, and one put before it.
use Rattle.std.proofs.lemmas.Bool.{eqb-true, eq-eqb}
use Rattle.std.proofs.Common.{true, eqb, ℕ, zero, suc, ◌+◌, ◌-◌, ◌<◌, ◌≤◌, List, [], ◌∷◌, length, get_or, set, sym, refl, ap, ◌∙◌, ◌≡◌, subst, arith}
use Rattle.std.specs.List.{range_with_len}
use Rattle.std.proofs.lemmas.List.{get_or-set_same, get_or-set_other, length-set}
use Rattle.vg_dchain.specs.Indices.{Indices, IsAbsent, IsDistinct, AllBelow}
use Rattle.vg_dchain.specs.Links.{indices_after, IsRow}
use Rattle.vg_dchain.proofs.IndexLemmas.{told, IsAbsent-bound}
use Rattle.vg_dchain.proofs.LinkLemmas.{Same, Same-set, Same-trans, indices_after-moved, length-indices_after}

-- the row without its first
pub row_take : (n : ℕ) (links : List ℕ) (end i second : ℕ) → IsRow links end (indices_after (suc n) links end) → i ≡ get_or links end 0
    → second ≡ get_or links i 0 → indices_after (suc n) links end ≡ i ∷ indices_after n (set links end second) end
row_take n links end i second r x y =
    let below : AllBelow end (get_or links end 0 ∷ indices_after n links (get_or links end 0)) = r.below in
    let here : get_or (set links end second) end 0 ≡ get_or links i 0 = get_or-set_same links end second 0 (omega (arith, r.fits)) ∙ y in
    let same : Same links (set links end second) (indices_after n links i) = Same-set links end second (indices_after n links i)
    (IsAbsent-bound end (indices_after n links i) (rw x below.1)) in
    rw (← x) (ap (λ (xs : List ℕ). i ∷ xs) (sym (indices_after-moved n links (set links end second) i end here same)))

-- the row with one before it
pub row_put : (n : ℕ) (links : List ℕ) (end i first : ℕ) → IsRow links end (indices_after n links end) → i < end
    → IsAbsent i (indices_after n links end) → first ≡ get_or links end 0 → indices_after (suc n) (set (set links i first) end i) end ≡ i
    ∷ indices_after n links end
row_put n links end i first r h a x =
    let one : List ℕ = set links i first in
    let start : get_or (set one end i) end 0 ≡ i = get_or-set_same one end i 0 (omega (arith, r.fits, length-set links i first)) in
    let here : get_or (set one end i) i 0 ≡ get_or links end 0 = get_or-set_other one end i i 0 (λ (e : i ≡ end). omega arith)
    ∙ get_or-set_same links i first 0 (omega (arith, r.fits)) ∙ x in
    let same : Same links (set one end i) (indices_after n links end) = Same-trans links one (set one end i) (indices_after n links end)
    (Same-set links i first (indices_after n links end) a) (Same-set one end i (indices_after n links end)
    (IsAbsent-bound end (indices_after n links end) r.below)) in
    rw start (ap (λ (xs : List ℕ). i ∷ xs) (indices_after-moved n links (set one end i) end i here same))

-- ascending links
pub indices_after-ascending : (m n a s : ℕ) (links : List ℕ) → ((k : ℕ) → k < n → get_or links k 0 ≡ k + 1) → get_or links a 0 ≡ s → s + m ≤ n
    → indices_after m links a ≡ range_with_len s m
indices_after-ascending zero n a s links up e h = refl
indices_after-ascending (suc m) n a s links up e h =
    rw e (ap (λ (xs : List ℕ). s ∷ xs) (indices_after-ascending m n s (s + 1) links up (up s (omega arith)) (omega arith)))

pub AllBelow-range : (m n s : ℕ) → s + m ≤ n → AllBelow n (range_with_len s m)
AllBelow-range zero n s h = tt
AllBelow-range (suc m) n s h = (omega arith, AllBelow-range m n (s + 1) (omega arith))

pub IsAbsent-range : (m i s : ℕ) → i < s → IsAbsent i (range_with_len s m)
IsAbsent-range zero i s h = tt
IsAbsent-range (suc m) i s h = (λ (e : i ≡ s). omega arith, IsAbsent-range m i (s + 1) (omega arith))

pub IsDistinct-range : (m s : ℕ) → IsDistinct (range_with_len s m)
IsDistinct-range zero s = tt
IsDistinct-range (suc m) s = (IsAbsent-range m s (s + 1) (omega arith), IsDistinct-range m (s + 1))

-- what taking the first leaves, in the words of the code
pub row_taken : (links links1 : List ℕ) (end n i second : ℕ) (was : Indices) → told end (indices_after n links end) ≡ was
    → IsRow links end (indices_after n links end) → 0 < length was.order → i ≡ get_or links end 0 → second ≡ get_or links i 0
    → links1 ≡ set links end second
    → IsRow links1 end (indices_after (n - 1) links1 end) × (was ≡ told end (i ∷ indices_after (n - 1) links1 end))
row_taken links links1 end n i second was v r h x y e =
    let some : 0 < n = omega (arith, h, ap (λ (w : Indices). length w.order) v, length-indices_after n links end) in
    let one_more : n ≡ suc (n - 1) = omega arith in
    let row : IsRow links end (indices_after (suc (n - 1)) links end) = subst (λ (k : ℕ). IsRow links end (indices_after k links end)) one_more r in
    let is : indices_after (suc (n - 1)) links end ≡ i ∷ indices_after (n - 1) links1 end = rw e (row_take (n - 1) links end i second row x y) in
    let below : AllBelow end (i ∷ indices_after (n - 1) links1 end) = subst (λ (o : List ℕ). AllBelow end o) is row.below in (
      record { fits = ap (λ (l : List ℕ). length l) e ∙ length-set links end second ∙ r.fits; below = below.1 },
      sym v
          ∙ ap (λ (k : ℕ). told end (indices_after k links end)) one_more ∙ ap (told end) is,
    )

-- the first is a place of the links
pub row_first : (links : List ℕ) (end n : ℕ) (was : Indices) → told end (indices_after n links end) ≡ was
    → IsRow links end (indices_after n links end) → 0 < length was.order → get_or links end 0 < end
row_first links end n was v r h =
    let some : 0 < n = omega (arith, h, ap (λ (w : Indices). length w.order) v, length-indices_after n links end) in
    let one_more : n ≡ suc (n - 1) = omega arith in
    let below : AllBelow end (indices_after (suc (n - 1)) links end) = subst (λ (k : ℕ). AllBelow end (indices_after k links end)) one_more r.below in
    below.0

-- what putting one first leaves, in the words of the code
pub row_put_first : (links links1 links2 : List ℕ) (end n i first : ℕ) (was : Indices) → told end (indices_after n links end) ≡ was
    → IsRow links end (indices_after n links end) → i < was.bound → IsAbsent i was.order → first ≡ get_or links end 0 → links1 ≡ set links i first
    → links2 ≡ set links1 end i
    → IsRow links2 end (indices_after (n + 1) links2 end) × (told end (indices_after (n + 1) links2 end) ≡ record was { order = i ∷ was.order })
row_put_first links links1 links2 end n i first was v r h a x e1 e2 =
    let within : i < end = subst (λ (w : Indices). i < w.bound) (sym v) h in
    let absent : IsAbsent i (indices_after n links end) = subst (λ (w : Indices). IsAbsent i w.order) (sym v) a in
    let made : indices_after (suc n) links2 end ≡ i ∷ indices_after n links end = rw (e2, e1) (row_put n links end i first r within absent x) in
    let more : n + 1 ≡ suc n = omega arith in
    let is : indices_after (n + 1) links2 end ≡ i ∷ indices_after n links end = ap (λ (k : ℕ). indices_after k links2 end) more ∙ made in
    let fits : length links2 ≡ end + 1 = ap (λ (l : List ℕ). length l) e2 ∙ length-set links1 end i ∙ ap (λ (l : List ℕ). length l) e1
    ∙ length-set links i first ∙ r.fits in (
      record { fits = fits; below = subst (λ (o : List ℕ). AllBelow end o) (sym is) (within, r.below) },
      ap (told end) is
          ∙ ap (λ (w : Indices). told w.bound (i ∷ w.order)) v,
    )

pub row_empty : (links : List ℕ) (end n : ℕ) (was : Indices) → told end (indices_after n links end) ≡ was → (eqb n 0 ≡ true → was.order ≡ [])
    × (was.order ≡ [] → eqb n 0 ≡ true)
row_empty links end n was v = (
  λ e. ap (λ (w : Indices). w.order) (sym v) ∙ ap (λ (k : ℕ). indices_after k links end) (eqb-true n 0 e),
  λ e. eq-eqb n 0 (sym (length-indices_after n links end) ∙ ap (λ (w : Indices). length w.order) v ∙ ap (λ (o : List ℕ). length o) e),
)
