-- What is marked among the links.
use Rattle.std.proofs.Common.{◌≡◌, ℕ, zero, suc, ◌+◌, ◌<◌, Bool, true, false, List, [], ◌∷◌, refl, ap, subst, ◌∙◌, arith}
use Rattle.std.specs.Prelude.{◌==◌, ◌||◌, slice_get, unwrap_or}
use Rattle.std.specs.List.{list_any}
use Rattle.std.proofs.lemmas.Grind.{common_steps}
use Rattle.vg_crows.specs.Record.{marked_from}

later : (k from : ℕ) → k < from → (from == k) ≡ false
later k from h = grind (arith, common_steps)

same : (k : ℕ) → (k == k) ≡ true
same k = grind (arith, common_steps)

none_before : (flags : List Bool) (from k : ℕ) → k < from → list_any (λ c. c == k) (marked_from from flags) ≡ false
none_before [] from k h = refl
none_before (true ∷ flags) from k h = ap (λ (b : Bool). b || list_any (λ c. c == k) (marked_from (from + 1) flags)) (later k from h)
    ∙ none_before flags (from + 1) k (omega arith)
none_before (false ∷ flags) from k h = none_before flags (from + 1) k (omega arith)

marked_at : (flags : List Bool) (from j k : ℕ) → k ≡ from + j → list_any (λ c. c == k) (marked_from from flags) ≡ unwrap_or (slice_get flags j) false
marked_at [] from j k e = refl
marked_at (true ∷ flags) from zero k e =
    let here : from ≡ k = omega arith in
    let yes : (from == k) ≡ true = subst (λ n. (from == n) ≡ true) here (same from) in
    ap (λ (b : Bool). b || list_any (λ c. c == k) (marked_from (from + 1) flags)) yes
marked_at (false ∷ flags) from zero k e = none_before flags (from + 1) k (omega arith)
marked_at (true ∷ flags) from (suc j) k e =
    let no : (from == k) ≡ false = grind (arith, common_steps) in
    ap (λ (b : Bool). b || list_any (λ c. c == k) (marked_from (from + 1) flags)) no ∙ marked_at flags (from + 1) j k (omega arith)
marked_at (false ∷ flags) from (suc j) k e = marked_at flags (from + 1) j k (omega arith)

pub any_marked : (flags : List Bool) (map : ℕ) → list_any (λ c. c == map) (marked_from 0 flags) ≡ unwrap_or (slice_get flags map) false
any_marked flags map = marked_at flags 0 map map (omega arith)
