-- A text is cut from its end on.
use Rattle.std.proofs.Common.{◌≡◌, ◌≢◌, ℕ, suc, ◌+◌, ◌-◌, ◌<◌, ◌≤◌, List, [], ◌∷◌, length, take, drop, sym, ◌∙◌, ap, arith, cond}
use Rattle.std.specs.Prelude.{slice_index}
use Rattle.std.proofs.lemmas.Bool.{ne_eqb}
use Rattle.std.proofs.lemmas.List.{drop_more}
use Rattle.vg_conf.specs.Pieces.{pieces, with_first}

-- a byte more, which is no mark
pub cut_on : (mark left end : ℕ) (text : List ℕ) (rest : List (List ℕ)) → 0 < left → left ≤ end → end ≤ length text → slice_index text (left - 1) ≢ mark →
    take (end - left) (drop left text) ∷ rest ≡ pieces mark (drop left text) → take (end - (left - 1)) (drop (left - 1) text)
    ∷ rest ≡ pieces mark (drop (left - 1) text)
cut_on mark left end text rest some below within ne so_far =
    let byte : ℕ = slice_index text (left - 1) in
    let same : left - 1 + 1 ≡ left = omega arith in
    let whole : drop (left - 1) text ≡ byte ∷ drop left text = drop_more text (left - 1) 0 (omega arith) ∙ ap (λ (n : ℕ). byte ∷ drop n text) same in
    let count : end - (left - 1) ≡ suc (end - left) = omega arith in
    ap (λ (n : ℕ). take n (drop (left - 1) text) ∷ rest) count
    ∙ ap (λ (bytes : List ℕ). take (suc (end - left)) bytes ∷ rest) whole
    ∙ ap (λ (found : List (List ℕ)). with_first byte found) so_far
    ∙ sym (ap (λ b. cond b ([] ∷ pieces mark (drop left text)) (with_first byte (pieces mark (drop left text)))) (ne_eqb byte mark ne))
    ∙ sym (ap (λ (bytes : List ℕ). pieces mark bytes) whole)
