-- Words of numbers that their types hold, and comparisons of such.
use Rattle.std.proofs.Common.{◌≡◌, ℕ, ◌+◌, ◌-◌, ◌%◌, ◌^◌, ◌≤◌, ◌<◌, Bool, true, false, if◌then◌else◌, nat_lt, ℤ, pos, refl, ap, arith, ◌∙◌}
use Rattle.std.specs.Prelude.{int_lt}
use Rattle.std.proofs.Math.Nat.{mod-eq_of_lt}
use Rattle.std.proofs.lemmas.Bool.Decides.{nat_tests}
use Rattle.std.proofs.lemmas.Nat.{pow_pos, mod_below}
use Rattle.vg_bits.specs.Words as bits
use Rattle.vg_bits.proofs.Machine.{halves, signed_pos}
use Rattle.vg_core.specs.declared.tree.IntType.{IntType}
use Rattle.vg_core.specs.declared.tree.IntType.TheVariants as words
use Rattle.vg_core.specs.declared.types.Integer.{Integer}
use Rattle.vg_cint.specs.Types.{int, width, integer_of, common, promoted, usual}
use Rattle.vg_cint.specs.Values.{reading, word_of, converted, truth}
use Rattle.vg_cint.specs.Operators.{less}
use Rattle.vg_cint.proofs.Laws.{width_some}
use Rattle.vg_cint.proofs.Reduced.{read, up, reduced_by}
use Rattle.vg_cint.proofs.Reduced as reduced
use Rattle.vg_cint.proofs.Compared.{small_word}
use Rattle.vg_cmean.specs.Meaning.{is_below}
use Rattle.vg_cbounds.proofs.Counters.{at}

-- the greatest number of a type
abbrev pub most_of : Integer → ℕ
most_of t = if t.signed then 2 ^ (width t - 1) - 1 else 2 ^ width t - 1

reading_at : (s : Bool) (w v : ℕ) → 0 < w → v ≤ (if s then 2 ^ (w - 1) - 1 else 2 ^ w - 1) → (if s then bits.signed w (v % 2 ^ w) else pos (v % 2 ^ w)) ≡ pos v
reading_at true w v some h =
    let half : 2 ^ w ≡ 2 ^ (w - 1) + 2 ^ (w - 1) = halves w some in
    let l : v < 2 ^ (w - 1) = omega (arith, pow_pos (w - 1)) in
    let e : v % 2 ^ w ≡ v = mod-eq_of_lt (omega arith) in
    ap (bits.signed w) e ∙ signed_pos w v l
reading_at false w v some h =
    let e : v % 2 ^ w ≡ v = mod-eq_of_lt (omega (arith, pow_pos w)) in ap pos e

-- a number that a type holds is what its word stands for
pub reading_pos : (t : Integer) (v : ℕ) → v ≤ most_of t → reading t v ≡ pos v
unfolding reading
reading_pos t v h = reading_at t.signed (width t) v (width_some t) h

below_at : (s : Bool) (w v : ℕ) → 0 < w → v ≤ (if s then 2 ^ (w - 1) - 1 else 2 ^ w - 1) → v < 2 ^ w
below_at true w v some h =
    let half : 2 ^ w ≡ 2 ^ (w - 1) + 2 ^ (w - 1) = halves w some in omega (arith, pow_pos (w - 1))
below_at false w v some h = omega (arith, pow_pos w)

pub most_below : (t : Integer) (v : ℕ) → v ≤ most_of t → v < 2 ^ width t
most_below t v h = below_at t.signed (width t) v (width_some t) h

pub word_pos : (t : Integer) (v : ℕ) → v ≤ most_of t → word_of t (pos v) ≡ v
unfolding word_of
word_pos t v h = small_word (width t) v (most_below t v h)

pub converted_pos : (to from : Integer) (x v : ℕ) → reading from x ≡ pos v → v ≤ most_of to → converted to from x ≡ v
converted_pos to from x v e h = ap (word_of to) e ∙ word_pos to v h

-- a word of its own type is cut
pub converted_self : (t : Integer) (y : ℕ) → converted t t y ≡ y % 2 ^ width t
unfolding reading word_of
converted_self t y =
    let w = width t in
    let z = y % 2 ^ w in
    let short : z < 2 ^ w = mod_below y (2 ^ w) (pow_pos w) in
    reduced_by w (reduced.less t.signed w z) z (read t.signed w z) (up t.signed w z short) ∙ mod-eq_of_lt short

-- ---- comparisons

truth_bit : (c : Bool) → truth int (bits.bit c) ≡ c
unfolding reading
truth_bit true = refl
truth_bit false = refl

pub below_reads : (t tb : Integer) (x y : ℕ) (p q : ℤ) → reading (common t tb) (converted (common t tb) t x) ≡ p
    → reading (common t tb) (converted (common t tb) tb y) ≡ q →
    is_below (at t x) (at tb y) ≡ int_lt p q
below_reads t tb x y p q e f =
    truth_bit (less (common t tb) (converted (common t tb) t x) (converted (common t tb) tb y)) ∙ (λ j. int_lt (e j) (f j))

both_hold : (t tb : Integer) (x y v b : ℕ) → reading t x ≡ pos v → reading tb y ≡ pos b → v ≤ most_of (common t tb) → b ≤ most_of (common t tb) →
    is_below (at t x) (at tb y) ≡ int_lt (pos v) (pos b)
both_hold t tb x y v b e f h k =
    below_reads t tb x y (pos v) (pos b)
    (ap (reading (common t tb)) (converted_pos (common t tb) t x v e h) ∙ reading_pos (common t tb) v h)
    (ap (reading (common t tb)) (converted_pos (common t tb) tb y b f k) ∙ reading_pos (common t tb) b k)

pub below_is : (t tb : Integer) (x y v b : ℕ) → reading t x ≡ pos v → reading tb y ≡ pos b → v ≤ most_of (common t tb) → b ≤ most_of (common t tb) →
    is_below (at t x) (at tb y) ≡ nat_lt v b
below_is t tb x y v b e f h k = both_hold t tb x y v b e f h k

-- ---- the common type holds what a counter's type does, if it is far below 2 ^ 63

pub usual_holds : (p : IntType) (bits : ℕ) (signed : Bool) (v : ℕ) → 32 ≤ bits → v < 2 ^ 40 → v ≤ most_of (promoted (integer_of p)) →
    v ≤ most_of (usual (promoted (integer_of p)) (record { bits = bits; signed = signed }))
usual_holds words.Int bits true v wide small h = grind (arith, nat_tests)
usual_holds words.Int bits false v wide small h = grind (arith, nat_tests)
usual_holds words.Unsigned bits true v wide small h = grind (arith, nat_tests)
usual_holds words.Unsigned bits false v wide small h = grind (arith, nat_tests)
usual_holds words.Int8 bits true v wide small h = grind (arith, nat_tests)
usual_holds words.Int8 bits false v wide small h = grind (arith, nat_tests)
usual_holds words.Int16 bits true v wide small h = grind (arith, nat_tests)
usual_holds words.Int16 bits false v wide small h = grind (arith, nat_tests)
usual_holds words.Int32 bits true v wide small h = grind (arith, nat_tests)
usual_holds words.Int32 bits false v wide small h = grind (arith, nat_tests)
usual_holds words.Int64 bits true v wide small h = grind (arith, nat_tests)
usual_holds words.Int64 bits false v wide small h = grind (arith, nat_tests)
usual_holds words.Uint8 bits true v wide small h = grind (arith, nat_tests)
usual_holds words.Uint8 bits false v wide small h = grind (arith, nat_tests)
usual_holds words.Uint16 bits true v wide small h = grind (arith, nat_tests)
usual_holds words.Uint16 bits false v wide small h = grind (arith, nat_tests)
usual_holds words.Uint32 bits true v wide small h = grind (arith, nat_tests)
usual_holds words.Uint32 bits false v wide small h = grind (arith, nat_tests)
usual_holds words.Uint64 bits true v wide small h = grind (arith, nat_tests)
usual_holds words.Uint64 bits false v wide small h = grind (arith, nat_tests)
