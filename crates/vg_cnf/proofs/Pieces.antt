-- Lists kept as one list and the ends of its pieces.
use Rattle.std.proofs.Common.{◌≡◌, ℕ, zero, suc, ◌+◌, ◌-◌, ◌<◌, ◌≤◌, List, [], ◌∷◌, ◌++◌, length, take, drop, Some, refl, sym, ap, subst, ◌∙◌, arith}
use Rattle.std.proofs.Common.{length-append, length-drop, length-take}
use Rattle.std.specs.Prelude.{slice_range, slice_get, slice_index, sum_by}
use Rattle.std.proofs.Math.Seq.{drop-append_seam}
use Rattle.std.proofs.lemmas.List.Sums.{sum_by-cons}
use Rattle.std.proofs.lemmas.List.{take-append-le, drop-append-le, take_all}
use Rattle.vg_cnf.specs.Lists.{pieces, Cuts, start_of}

pub length-pieces : {A : Type 0} (items : List A) (start : ℕ) (ends : List ℕ) → length (pieces items start ends) ≡ length ends
length-pieces items start [] = refl
length-pieces items start (end ∷ ends) = ap suc (length-pieces items end ends)

pub Cuts-le : (total start : ℕ) (ends : List ℕ) → Cuts total start ends → start ≤ total
Cuts-le total start [] e = omega (arith, e)
Cuts-le total start (end ∷ ends) cuts = omega (arith, cuts.0, Cuts-le total end ends cuts.1)

pub Cuts-push : (total more start : ℕ) (ends : List ℕ) → total ≤ more → Cuts total start ends → Cuts more start (ends ++ more ∷ [])
Cuts-push total more start [] le e = (omega (arith, e), refl)
Cuts-push total more start (end ∷ ends) le cuts = (cuts.0, Cuts-push total more end ends le cuts.1)

range-append : {A : Type 0} (items new : List A) (start end : ℕ) → start ≤ end → end ≤ length items
    → slice_range (items ++ new) start end ≡ slice_range items start end
range-append items new start end p q =
    ap (take (end - start)) (drop-append-le start items new (omega arith))
    ∙ take-append-le (end - start) (drop start items) new (simp length-drop (omega arith))

range_new : {A : Type 0} (items new : List A) (start : ℕ) → start ≡ length items → slice_range (items ++ new) start (length items + length new) ≡ new
range_new items new start e =
    let seam : drop start (items ++ new) ≡ new = ap (λ n. drop n (items ++ new)) e ∙ drop-append_seam items new in
    ap (λ xs. take (length items + length new - start) xs) seam ∙ take_all (length items + length new - start) new (omega arith)

pub pieces-push : {A : Type 0} (items new : List A) (start : ℕ) (ends : List ℕ) → Cuts (length items) start ends →
    pieces (items ++ new) start (ends ++ (length items + length new) ∷ []) ≡ pieces items start ends ++ new ∷ []
pieces-push items new start [] e = ap (λ x. x ∷ []) (range_new items new start e)
pieces-push items new start (end ∷ ends) cuts =
    ap (λ x. x ∷ pieces (items ++ new) end (ends ++ (length items + length new) ∷ [])) (range-append items new start end cuts.0
    (Cuts-le (length items) end ends cuts.1))
    ∙ ap (λ x. slice_range items start end ∷ x) (pieces-push items new end ends cuts.1)

length-range : {A : Type 0} (items : List A) (start end : ℕ) → start ≤ end → end ≤ length items → length (slice_range items start end) + start ≡ end
length-range items start end p q = simp (length-take, length-drop) (omega arith)

pub sum-pieces : {A : Type 0} (items : List A) (start : ℕ) (ends : List ℕ) → Cuts (length items) start ends
    → sum_by length (pieces items start ends) + start ≡ length items
sum-pieces items start [] e = omega (arith, e)
sum-pieces {A = A} items start (end ∷ ends) cuts =
    let here = length-range items start end cuts.0 (Cuts-le (length items) end ends cuts.1) in
    let rest = sum-pieces items end ends cuts.1 in
    rw (sum_by-cons length (slice_range items start end) (pieces items end ends)) (omega (arith, here, rest))

-- where a piece starts, with one more end before the others
start_of-cons : (start end : ℕ) (ends : List ℕ) (at : ℕ) → start_of start (end ∷ ends) (suc at) ≡ start_of end ends at
start_of-cons start end ends zero = refl
start_of-cons start end ends (suc at) = refl

pub piece-start : (total start : ℕ) (ends : List ℕ) (at : ℕ) → Cuts total start ends → at < length ends → start_of start ends at ≤ slice_index ends at
piece-start total start [] at cuts h = absurd (omega arith)
piece-start total start (end ∷ ends) zero cuts h = cuts.0
piece-start total start (end ∷ ends) (suc at) cuts h =
    rw (start_of-cons start end ends at) (piece-start total end ends at cuts.1 (omega arith))

pub piece-end : (total start : ℕ) (ends : List ℕ) (at : ℕ) → Cuts total start ends → at < length ends → slice_index ends at ≤ total
piece-end total start [] at cuts h = absurd (omega arith)
piece-end total start (end ∷ ends) zero cuts h = Cuts-le total end ends cuts.1
piece-end total start (end ∷ ends) (suc at) cuts h = piece-end total end ends at cuts.1 (omega arith)

pub piece-is : {A : Type 0} (items : List A) (start : ℕ) (ends : List ℕ) (at : ℕ) → at < length ends →
    slice_get (pieces items start ends) at ≡ Some (slice_range items (start_of start ends at) (slice_index ends at))
piece-is items start [] at h = absurd (omega arith)
piece-is items start (end ∷ ends) zero h = refl
piece-is items start (end ∷ ends) (suc at) h =
    piece-is items end ends at (omega arith)
    ∙ ap (λ x. Some (slice_range items x (slice_index ends at))) (sym (start_of-cons start end ends at))

-- ---- a list more at the end

pub pushed-cuts : {A : Type 0} (old list : List A) (ends : List ℕ) (new : List A) (more : List ℕ) (n : ℕ) → new ≡ old ++ list → n ≡ length new
    → more ≡ ends ++ n ∷ [] →
    Cuts (length old) 0 ends → Cuts (length new) 0 more
pushed-cuts old list ends new more n items count places cuts =
    let longer : length old ≤ length new = omega (arith, ap length items, length-append old list) in
    subst (λ xs. Cuts (length new) 0 xs) (sym (places ∙ ap (λ k. ends ++ k ∷ []) count)) (Cuts-push (length old) (length new) 0 ends longer cuts)

pub pushed-pieces : {A : Type 0} (old list : List A) (ends : List ℕ) (new : List A) (more : List ℕ) (n : ℕ) → new ≡ old ++ list → n ≡ length new
    → more ≡ ends ++ n ∷ [] →
    Cuts (length old) 0 ends → pieces new 0 more ≡ pieces old 0 ends ++ list ∷ []
pushed-pieces old list ends new more n items count places cuts =
    let total : n ≡ length old + length list = count ∙ ap length items ∙ length-append old list in
    ap (λ xs. pieces xs 0 more) items
    ∙ ap (λ xs. pieces (old ++ list) 0 xs) (places ∙ ap (λ k. ends ++ k ∷ []) total)
    ∙ pieces-push old list 0 ends cuts
