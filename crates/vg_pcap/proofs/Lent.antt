-- What bytes written over a frame leave.
use Rattle.std.proofs.Common.{◌≡◌, ℕ, zero, suc, ◌≤◌, refl, ◌∙◌, sym, ap, List, [], ◌∷◌, ◌++◌, length, take, drop, arith}
use Rattle.std.proofs.lemmas.List.{take-take, take-append-le, length-append, length-drop, length-take-le}
use Rattle.vg_pcap.specs.Reader.{Reader}
use Rattle.vg_pcap.specs.Lending.{over}

-- what stands behind a place doesn't matter up to there
take_over : (n : ℕ) (block w : List ℕ) → take n (w ++ drop (length w) block) ≡ take n (w ++ drop (length w) (take n block))
take_over n block [] = sym (take-take n n block (omega arith))
take_over zero block (x ∷ w) = refl
take_over (suc n) [] (x ∷ w) = refl
take_over (suc n) (b ∷ block) (x ∷ w) = ap (λ (xs : List ℕ). x ∷ xs) (take_over n block w)

-- what is written over the first places of a block, which keeps its length, is written over what stands there
pub over_first : (n total : ℕ) (block w : List ℕ) → n ≤ total → total ≡ length block →
    take n (take total ((w ++ drop (length w) block) ++ drop (length (w ++ drop (length w) block)) block)) ≡ over (take n block) w
over_first n total block w short whole =
    let all : List ℕ = w ++ drop (length w) block in
    let covers : n ≤ length all = omega (arith, length-append w (drop (length w) block), length-drop (length w) block) in
    let size : length (take n block) ≡ n = length-take-le n block (omega arith) in
    take-take n total (all ++ drop (length all) block) short
    ∙ (take-append-le n all (drop (length all) block) covers
    ∙ (take_over n block w ∙ ap (λ k. take k (w ++ drop (length w) (take n block))) (sym size)))

-- as many bytes as there were are those that were written
pub over_whole : (old w : List ℕ) → length w ≡ length old → over old w ≡ w
over_whole [] [] same = refl
over_whole [] (x ∷ w) same = absurd (omega arith)
over_whole (b ∷ old) [] same = absurd (omega arith)
over_whole (b ∷ old) (x ∷ w) same = ap (λ (xs : List ℕ). x ∷ xs) (over_whole old w (omega arith))

-- as many bytes stay as there were
pub length-over : (old w : List ℕ) → length (over old w) ≡ length old
length-over old w = length-take-le (length old) (w ++ drop (length w) old) (omega (arith, length-append w (drop (length w) old), length-drop (length w) old))

-- the same reader, but that its last frame has these bytes
abbrev pub with_last : Reader → List ℕ → Reader
with_last r bytes = record r { frame = record r.frame { bytes = bytes } }
