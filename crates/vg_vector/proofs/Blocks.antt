-- Cells in a block: what stands at one, and what a write to one leaves.
use Rattle.std.specs.Prelude.{◌==◌, if◌then◌else◌}
use Rattle.std.proofs.Common.{Bool, inl, inr, ℕ, zero, suc, ◌+◌, ◌-◌, ◌*◌, ◌<◌, ◌≤◌, List, ◌++◌, Some, length, take, drop, set, replicate, slice_get}
use Rattle.std.proofs.Common.{sym, refl, ap, ◌∙◌, ◌≡◌, arith}
use Rattle.std.proofs.lemmas.List.{take_at, drop_at, take-take, drop-drop, take-replicate, drop-replicate, length-drop, length-take-le, take_all}
use Rattle.std.proofs.lemmas.List.{drop-take, take-append-le, drop-append-le, length-append, take-append-drop, nil_from_length}
use Rattle.std.proofs.Math.Nat.{suc-mul}
use Rattle.std.proofs.lemmas.Bool.{cases_eq, eq-eqb, ne_eqb}
use Rattle.std.specs.List.{concat}
use Rattle.vg_vector.specs.Cells.{CellList, cells_of, with_cell}
use Rattle.vg_vector.specs.Lending.{with_spill}

-- the cells end where the block does
pub cell_end : (i n size : ℕ) → i < n → i * size + size ≤ n * size
cell_end zero (suc n) size h = omega (arith, suc-mul n size)
cell_end (suc i) (suc n) size h = let e = cell_end i n size (omega arith) in omega (arith, e, suc-mul i size, suc-mul n size)
cell_end zero zero size h = absurd (omega arith)
cell_end (suc i) zero size h = absurd (omega arith)

pub length-cells_of : (n size : ℕ) (block : List ℕ) → length (cells_of n size block) ≡ n
length-cells_of zero size block = refl
length-cells_of (suc n) size block = ap suc (length-cells_of n size (drop size block))

start-suc : (i size : ℕ) → size + i * size ≡ suc i * size
start-suc i size = omega (arith, suc-mul i size)

start-zero : (size : ℕ) (block : List ℕ) → block ≡ drop (0 * size) block
start-zero size block = let e : 0 ≡ 0 * size = omega arith in ap (λ (k : ℕ). drop k block) e

-- what stands at a cell
pub slice_get-cells_of : (n size : ℕ) (block : List ℕ) (i : ℕ) → i < n → slice_get (cells_of n size block) i ≡ Some (take size (drop (i * size) block))
slice_get-cells_of zero size block i h = absurd (omega arith)
slice_get-cells_of (suc n) size block zero h = ap (λ (b : List ℕ). Some (take size b)) (start-zero size block)
slice_get-cells_of (suc n) size block (suc i) h =
    slice_get-cells_of n size (drop size block) i (omega arith)
    ∙ ap (λ (b : List ℕ). Some (take size b)) (drop-drop (i * size) size block ∙ ap (λ (k : ℕ). drop k block) (start-suc i size))

-- cells of a block of zeros hold zeros
pub cells_of-zeros : (n size : ℕ) → cells_of n size (replicate (n * size) 0) ≡ replicate n (replicate size 0)
cells_of-zeros zero size = refl
cells_of-zeros (suc n) size =
    let total : suc n * size ≡ n * size + size = suc-mul n size in
    let left : suc n * size - size ≡ n * size = omega arith in
    let front : take size (replicate {A = ℕ} (suc n * size) 0) ≡ replicate {A = ℕ} size 0 = take-replicate size (suc n * size) 0 (omega arith) in
    let rest : drop size (replicate {A = ℕ} (suc n * size) 0) ≡ replicate {A = ℕ} (n * size) 0 = drop-replicate size (suc n * size) 0
    ∙ ap (λ (k : ℕ). replicate {A = ℕ} k 0) left in
    rw (front, rest, cells_of-zeros n size) refl

-- what a write of as many bytes to a cell leaves
pub cells_of-put : (i n size start : ℕ) (block bytes : List ℕ) → start ≡ i * size → i < n → length bytes ≡ size → n * size ≤ length block
    → cells_of n size (take start block ++ (bytes ++ drop (length bytes) (drop start block))) ≡ set (cells_of n size block) i bytes
cells_of-put zero zero size start block bytes e h l b = absurd (omega arith)
cells_of-put (suc i) zero size start block bytes e h l b = absurd (omega arith)
cells_of-put zero (suc n) size start block bytes e h l b =
    let first : start ≡ 0 = omega arith in
    let front : take size (bytes ++ drop (length bytes) block) ≡ bytes = take_at bytes (drop (length bytes) block) size l in
    let rest : drop size (bytes ++ drop (length bytes) block) ≡ drop size block = drop_at bytes (drop (length bytes) block) size l
    ∙ ap (λ (k : ℕ). drop k block) l in
    rw first (rw (front, rest) refl)
cells_of-put (suc i) (suc n) size start block bytes e h l b =
    let one_more : start ≡ size + i * size = omega (arith, suc-mul i size) in
    let fits : size + i * size ≤ length block = omega (arith, cell_end i n size (omega arith), suc-mul n size) in
    let front_len : length (take (size + i * size) block) ≡ size + i * size = length-take-le (size + i * size) block fits in
    let tail : List ℕ = bytes ++ drop (length bytes) (drop (size + i * size) block) in
    let front : take size (take (size + i * size) block ++ tail) ≡ take size block = take-append-le size (take (size + i * size) block) tail
    (omega arith) ∙ take-take size (size + i * size) block (omega arith) in
    let rest : drop size (take (size + i * size) block ++ tail) ≡ take (i * size) (drop size block)
    ++ (bytes ++ drop (length bytes) (drop (i * size) (drop size block)))
    = drop-append-le size (take (size + i * size) block) tail (omega arith)
    ∙ ap (λ (xs : List ℕ). xs ++ tail) (drop-take size (i * size) block)
    ∙ ap (λ (xs : List ℕ). take (i * size) (drop size block) ++ (bytes ++ drop (length bytes) xs)) (sym (drop-drop (i * size) size block)) in
    let below : n * size ≤ length (drop size block) = omega (arith, length-drop size block, suc-mul n size) in
    rw one_more (rw (front, rest, cells_of-put i n size (i * size) (drop size block) bytes refl (omega arith) l below) refl)

-- the same in a block that is cut where it ended
pub cells_of-write : (i n size total : ℕ) (block bytes : List ℕ) → i < n → length bytes ≡ size → n * size ≡ length block → length block ≡ total
    → cells_of n size (take total (take (i * size) block ++ (bytes ++ drop (length bytes) (drop (i * size) block)))) ≡ set (cells_of n size block) i
    bytes
cells_of-write i n size total block bytes h l b t =
    let fits : i * size + size ≤ length block = omega (arith, cell_end i n size h) in
    let front : length (take (i * size) block) ≡ i * size = length-take-le (i * size) block (omega arith) in
    let whole : length (take (i * size) block ++ (bytes ++ drop (length bytes) (drop (i * size) block))) ≤ total =
    omega (
      arith,
      length-append (take (i * size) block) (bytes ++ drop (length bytes) (drop (i * size) block)),
      length-append bytes (drop (length bytes) (drop (i * size) block)),
      length-drop (length bytes) (drop (i * size) block),
      length-drop (i * size) block,
    ) in
    ap (cells_of n size) (take_all total (take (i * size) block ++ (bytes ++ drop (length bytes) (drop (i * size) block))) whole)
    ∙ cells_of-put i n size (i * size) block bytes refl h l (omega arith)

-- a cell's bytes as they stand in the block
pub cell_within : (i n size : ℕ) (block : List ℕ) (all : List (List ℕ)) → cells_of n size block ≡ all → i < length all → i < n
cell_within i n size block all e h = omega (arith, ap length e, length-cells_of n size block)

-- the bytes of the cells are those of the block
pub concat-cells_of : (n size : ℕ) (block : List ℕ) → length block ≡ n * size → concat (cells_of n size block) ≡ block
concat-cells_of zero size block e = sym (nil_from_length block (omega arith))
concat-cells_of (suc n) size block e =
    let rest : length (drop size block) ≡ n * size = omega (arith, length-drop size block, suc-mul n size) in
    ap (λ (xs : List ℕ). take size block ++ xs) (concat-cells_of n size (drop size block) rest) ∙ take-append-drop size block

abbrev told : ℕ → List Bool → List (List ℕ) → CellList
told size lent cells = record { size = size; cells = cells; lent = lent }

pub length-cell : (i n size : ℕ) (block : List ℕ) → i < n → length block ≡ n * size → length (take size (drop (i * size) block)) ≡ size
length-cell i n size block h b = length-take-le size (drop (i * size) block) (omega (arith, length-drop (i * size) block, cell_end i n size h))

-- bytes written over a block from a place on
abbrev pub over : ℕ → List ℕ → List ℕ → List ℕ
over start block bytes = take start block ++ (bytes ++ drop (length bytes) (drop start block))

-- a block written over is no shorter
over_covers : (start : ℕ) (block bytes : List ℕ) → start ≤ length block → length block ≤ length (over start block bytes)
over_covers start block bytes h =
    omega (
      arith,
      length-append (take start block) (bytes ++ drop (length bytes) (drop start block)),
      length-append bytes (drop (length bytes) (drop start block)),
      length-take-le start block h,
      length-drop (length bytes) (drop start block),
      length-drop start block,
    )

-- what any write at a cell leaves in a Vec
pub cells_of-lent : (i n size total : ℕ) (block bytes : List ℕ) (lent : List Bool) (all : CellList) → told size lent (cells_of n size block) ≡ all
    → i < n → length block ≡ n * size → length block ≡ total
    → told size lent (cells_of n size (take total (over (i * size) block bytes ++ drop (length (over (i * size) block bytes)) block))) ≡
    (if length bytes == all.size then with_cell all i bytes else with_spill all i bytes)
cells_of-lent i n size total block bytes lent all e h b t =
    let within : i * size ≤ length block = omega (arith, cell_end i n size h) in
    let cut : take total (over (i * size) block bytes ++ drop (length (over (i * size) block bytes)) block) ≡ take total (over (i * size) block bytes) =
    take-append-le total (over (i * size) block bytes) (drop (length (over (i * size) block bytes)) block)
    (omega (arith, over_covers (i * size) block bytes within)) in
    rw (cut, ← e) (
    elim (cases_eq (length bytes) size) [
      | inl l ↦ rw (eq-eqb (length bytes) size l) (ap (told size lent) (cells_of-write i n size total block bytes h l (sym b) t))
      | inr l ↦ rw (ne_eqb (length bytes) size l, length-cells_of n size block, concat-cells_of n size block b, ← t, b) refl
    ])
