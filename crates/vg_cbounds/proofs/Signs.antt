-- A loop's counter by its type: from 0 on, or from below 0.
use Rattle.std.proofs.Common.{◌≡◌, ℕ, ◌+◌, ◌-◌, ◌%◌, ◌^◌, ◌≤◌, ◌<◌, min, Bool, true, false, if◌then◌else◌, pos, negsuc, refl, sym, ap, subst, arith}
use Rattle.std.proofs.Common.{◌∙◌, ◌⊎◌, inl, inr}
use Rattle.std.specs.Prelude.{int_lt}
use Rattle.std.proofs.Math.Nat.{mod-eq_of_lt}
use Rattle.std.proofs.lemmas.Bool.{cases_lt, lt-ltb, le-ltb}
use Rattle.std.proofs.lemmas.Bool.Decides.{nat_tests}
use Rattle.std.proofs.Math.Pow.{pow_mono}
use Rattle.vg_bits.specs.Words as bits
use Rattle.vg_bits.proofs.Machine.{halves, signed_neg}
use Rattle.vg_core.specs.declared.tree.IntType.{IntType}
use Rattle.vg_core.specs.declared.tree.IntType.TheVariants as words
use Rattle.vg_core.specs.declared.types.Integer.{Integer}
use Rattle.vg_cint.specs.Types.{int, width, integer_of, common, promoted, usual}
use Rattle.vg_cint.specs.Values.{reading, word_of, converted}
use Rattle.vg_cint.specs.Operators.{less}
use Rattle.vg_cint.proofs.Laws.{width_some}
use Rattle.vg_cmean.specs.Meaning.{is_below, next_of}
use Rattle.vg_ctyper.specs.StatementRules as rules
use Rattle.vg_ctyper.specs.StatementRules.{distance, steps_to}
use Rattle.vg_cbounds.proofs.Statements.{EndsWithin}
use Rattle.vg_cbounds.proofs.Counters.{at, IsUpTo, ends_up, ends_from, steps_cover}
use Rattle.vg_cbounds.proofs.Readings.{most_of, reading_pos, most_below, converted_pos, converted_self, below_is, below_reads, usual_holds}

-- ---- what the common type holds

promoted_holds : (p : IntType) (v : ℕ) → v ≤ most_of (integer_of p) → v ≤ most_of (promoted (integer_of p))
promoted_holds words.Int v h = omega arith
promoted_holds words.Unsigned v h = omega arith
promoted_holds words.Int8 v h = omega arith
promoted_holds words.Int16 v h = omega arith
promoted_holds words.Int32 v h = omega arith
promoted_holds words.Int64 v h = omega arith
promoted_holds words.Uint8 v h = omega arith
promoted_holds words.Uint16 v h = omega arith
promoted_holds words.Uint32 v h = omega arith
promoted_holds words.Uint64 v h = omega arith

common_by : (p : IntType) (t : Integer) (v : ℕ) → v < 2 ^ 40 → v ≤ most_of (integer_of p) → (t.bits < 32) ⊎ (32 ≤ t.bits)
    → v ≤ most_of (common (integer_of p) t)
common_by p t v small h (inl narrow) =
    let e : promoted t ≡ int = ap (λ (c : Bool). if c then int else t) (lt-ltb t.bits 32 narrow) in
    subst (λ (q : Integer). v ≤ most_of (usual (promoted (integer_of p)) q)) (sym e) (usual_holds p 32 true v (omega arith) small (promoted_holds p v h))
common_by p t v small h (inr wide) =
    let e : promoted t ≡ t = ap (λ (c : Bool). if c then int else t) (le-ltb t.bits 32 wide) in
    subst (λ (q : Integer). v ≤ most_of (usual (promoted (integer_of p)) q)) (sym e) (usual_holds p t.bits t.signed v wide small (promoted_holds p v h))

pub common_holds : (p : IntType) (t : Integer) (v : ℕ) → v < 2 ^ 40 → v ≤ most_of (integer_of p) → v ≤ most_of (common (integer_of p) t)
common_holds p t v small h = common_by p t v small h (cases_lt t.bits 32)

-- ---- a step

pub next_cut : (t : Integer) (x c : ℕ) → x + c < 2 ^ 64 → next_of (at t x) c ≡ at t ((x + c) % 2 ^ width t)
next_cut t x c short =
    let e : (x + c) % 2 ^ 64 ≡ x + c = mod-eq_of_lt short in
    ap (λ y. at t (converted t t y)) e ∙ ap (at t) (converted_self t (x + c))

-- the numbers that counters come to
abbrev pub most_counted : IntType → ℕ
most_counted p = min (most_of (integer_of p)) (2 ^ 40 - 1)

pub up_to : (p : IntType) (tb : Integer) (b c : ℕ) → b ≤ most_of tb → b < 2 ^ 32 → c < 2 ^ 33 → b + c ≤ most_of (integer_of p) →
    IsUpTo (integer_of p) (at tb b) b c (most_counted p)
up_to p tb b c held small step room = record {
  below = λ x h.
      let hx : x ≤ most_of (integer_of p) = omega arith in
      let hb : b ≤ most_of (integer_of p) = omega arith in
      below_is (integer_of p) tb x b x b (reading_pos (integer_of p) x hx) (reading_pos tb b held)
      (common_holds p tb x (omega arith) hx) (common_holds p tb b (omega arith) hb);
  next = λ x h.
      let hx : x + c ≤ most_of (integer_of p) = omega arith in
      let e : (x + c) % 2 ^ width (integer_of p) ≡ x + c = mod-eq_of_lt (most_below (integer_of p) (x + c) hx) in
      next_cut (integer_of p) x c (omega arith) ∙ ap (at (integer_of p)) e;
  room = omega arith;
}

-- ---- from 0 on

if_false : {A : Type 0} (c : Bool) (x y : A) → c ≡ false → (if c then x else y) ≡ y
if_false true x y e = cc
if_false false x y e = refl

if_true : {A : Type 0} (c : Bool) (x y : A) → c ≡ true → (if c then x else y) ≡ x
if_true true x y e = refl
if_true false x y e = cc

none_below : (v : ℕ) → int_lt (pos v) (pos 0) ≡ false
none_below v = grind (arith, nat_tests)

not_negative : (t : Integer) (v : ℕ) → v ≤ most_of t → less t v 0 ≡ false
not_negative t v h = (λ j. int_lt (reading_pos t v h j) (reading_pos t 0 (omega arith) j)) ∙ none_below v

pub from_zero_on : (p : IntType) (tb : Integer) (f b c : ℕ) → 0 < c → IsUpTo (integer_of p) (at tb b) b c (most_counted p) → f < 2 ^ 32
    → f ≤ most_of (integer_of p) →
    EndsWithin (steps_to (distance p tb f b) c) (at (integer_of p) f) (at tb b) c
from_zero_on p tb f b c some k small held =
    let far = if_false (less (integer_of p) f 0) (if (common (integer_of p) tb).signed then b + (rules.words p - f) else 0) (b - f)
    (not_negative (integer_of p) f held) in
    let cover = steps_cover (b - f) c some in
    subst (λ d. EndsWithin (steps_to d c) (at (integer_of p) f) (at tb b) c) (sym far)
    (ends_up (integer_of p) (at tb b) b c (most_counted p) (steps_to (b - f) c) f k (omega arith) (omega arith))

-- ---- from below 0 on

reading_neg_at : (s : Bool) (w f : ℕ) → s ≡ true → 0 < w → 2 ^ (w - 1) ≤ f → f < 2 ^ w → (if s then bits.signed w (f % 2 ^ w) else pos (f % 2 ^ w)) ≡
    negsuc (2 ^ w - 1 - f)
reading_neg_at false w f e some h k = cc
reading_neg_at true w f e some h k = ap (bits.signed w) (mod-eq_of_lt k) ∙ signed_neg w f h k

pub reading_neg : (t : Integer) (f : ℕ) → t.signed ≡ true → 2 ^ (width t - 1) ≤ f → f < 2 ^ width t → reading t f ≡ negsuc (2 ^ width t - 1 - f)
unfolding reading
reading_neg t f e h k = reading_neg_at t.signed (width t) f e (width_some t) h k

is_negative : (t : Integer) (f : ℕ) → t.signed ≡ true → 2 ^ (width t - 1) ≤ f → f < 2 ^ width t → less t f 0 ≡ true
is_negative t f e h k = λ j. int_lt (reading_neg t f e h k j) (reading_pos t 0 (omega arith) j)

steps_none : (c : ℕ) → steps_to 0 c ≡ 0
steps_none c = grind (arith, nat_tests)

-- the word of a number below 0
word_neg : (t : Integer) (m : ℕ) → m < 2 ^ width t → word_of t (negsuc m) ≡ 2 ^ width t - 1 - m
unfolding word_of
word_neg t m h = ap (λ k. 2 ^ width t - 1 - k) (mod-eq_of_lt h)

unsigned_most : (t : Integer) → t.signed ≡ false → most_of t ≡ 2 ^ width t - 1
unsigned_most t e = ap (λ (s : Bool). if s then 2 ^ (width t - 1) - 1 else 2 ^ width t - 1) e

signed_most : (t : Integer) → t.signed ≡ true → most_of t ≡ 2 ^ (width t - 1) - 1
signed_most t e = ap (λ (s : Bool). if s then 2 ^ (width t - 1) - 1 else 2 ^ width t - 1) e

usual_wide : (p : IntType) (bits : ℕ) (signed : Bool) → 32 ≤ bits → 32 ≤ width (usual (promoted (integer_of p)) (record { bits = bits; signed = signed }))
usual_wide words.Int bits true wide = grind (arith, nat_tests)
usual_wide words.Int bits false wide = grind (arith, nat_tests)
usual_wide words.Unsigned bits true wide = grind (arith, nat_tests)
usual_wide words.Unsigned bits false wide = grind (arith, nat_tests)
usual_wide words.Int8 bits true wide = grind (arith, nat_tests)
usual_wide words.Int8 bits false wide = grind (arith, nat_tests)
usual_wide words.Int16 bits true wide = grind (arith, nat_tests)
usual_wide words.Int16 bits false wide = grind (arith, nat_tests)
usual_wide words.Int32 bits true wide = grind (arith, nat_tests)
usual_wide words.Int32 bits false wide = grind (arith, nat_tests)
usual_wide words.Int64 bits true wide = grind (arith, nat_tests)
usual_wide words.Int64 bits false wide = grind (arith, nat_tests)
usual_wide words.Uint8 bits true wide = grind (arith, nat_tests)
usual_wide words.Uint8 bits false wide = grind (arith, nat_tests)
usual_wide words.Uint16 bits true wide = grind (arith, nat_tests)
usual_wide words.Uint16 bits false wide = grind (arith, nat_tests)
usual_wide words.Uint32 bits true wide = grind (arith, nat_tests)
usual_wide words.Uint32 bits false wide = grind (arith, nat_tests)
usual_wide words.Uint64 bits true wide = grind (arith, nat_tests)
usual_wide words.Uint64 bits false wide = grind (arith, nat_tests)

wide_by : (p : IntType) (t : Integer) → (t.bits < 32) ⊎ (32 ≤ t.bits) → 32 ≤ width (common (integer_of p) t)
wide_by p t (inl narrow) =
    let e : promoted t ≡ int = ap (λ (c : Bool). if c then int else t) (lt-ltb t.bits 32 narrow) in
    subst (λ (q : Integer). 32 ≤ width (usual (promoted (integer_of p)) q)) (sym e) (usual_wide p 32 true (omega arith))
wide_by p t (inr wide) =
    let e : promoted t ≡ t = ap (λ (c : Bool). if c then int else t) (le-ltb t.bits 32 wide) in
    subst (λ (q : Integer). 32 ≤ width (usual (promoted (integer_of p)) q)) (sym e) (usual_wide p t.bits t.signed wide)

common_wide : (p : IntType) (t : Integer) → 2 ^ 32 ≤ 2 ^ width (common (integer_of p) t)
common_wide p t = pow_mono (wide_by p t (cases_lt t.bits 32))

-- what is known of a counter that begins below 0
record IsBelowZero (p : IntType) (f : ℕ) : Type 0 where
  pub signed : (integer_of p).signed ≡ true
  pub half : 2 ^ (width (integer_of p) - 1) ≤ f
  pub short : f < 2 ^ width (integer_of p)
  pub narrow : 2 ^ width (integer_of p) ≤ 2 ^ 32
  pub words : rules.words p ≡ 2 ^ width (integer_of p)

distance_signed : (p : IntType) (tb : Integer) (f b : ℕ) → IsBelowZero p f → (common (integer_of p) tb).signed ≡ true
    → distance p tb f b ≡ b + (2 ^ width (integer_of p) - f)
distance_signed p tb f b z e =
    if_true (less (integer_of p) f 0) (if (common (integer_of p) tb).signed then b + (rules.words p - f) else 0) (b - f)
    (is_negative (integer_of p) f z.signed z.half z.short)
    ∙ if_true (common (integer_of p) tb).signed (b + (rules.words p - f)) 0 e
    ∙ ap (λ n. b + (n - f)) z.words

distance_unsigned : (p : IntType) (tb : Integer) (f b : ℕ) → IsBelowZero p f → (common (integer_of p) tb).signed ≡ false → distance p tb f b ≡ 0
distance_unsigned p tb f b z e =
    if_true (less (integer_of p) f 0) (if (common (integer_of p) tb).signed then b + (rules.words p - f) else 0) (b - f)
    (is_negative (integer_of p) f z.signed z.half z.short)
    ∙ if_false (common (integer_of p) tb).signed (b + (rules.words p - f)) 0 e

up_from : (p : IntType) (tb : Integer) (f b c : ℕ) → 0 < c → c < 2 ^ 33 → IsUpTo (integer_of p) (at tb b) b c (most_counted p) → IsBelowZero p f →
    (common (integer_of p) tb).signed ≡ true → EndsWithin (steps_to (distance p tb f b) c) (at (integer_of p) f) (at tb b) c
up_from p tb f b c some few k z e =
    let all = 2 ^ width (integer_of p) in
    let room = k.room in
    let less_all : c < all = most_below (integer_of p) c (omega arith) in
    let narrow : all ≤ 2 ^ 32 = z.narrow in
    let cover = steps_cover (b + (all - f)) c some in
    subst (λ d. EndsWithin (steps_to d c) (at (integer_of p) f) (at tb b) c) (sym (distance_signed p tb f b z e))
    (ends_from (integer_of p) (at tb b) b c (most_counted p) all (steps_to (b + (all - f)) c) f k less_all
    (λ y h. next_cut (integer_of p) y c (omega arith)) z.short cover)

not_above : (a b : ℕ) → b ≤ a → int_lt (pos a) (pos b) ≡ false
not_above a b h = grind (arith, nat_tests)

never_below : (p : IntType) (tb : Integer) (f b : ℕ) → b ≤ most_of tb → b ≤ most_of (integer_of p) → b < 2 ^ 32 → IsBelowZero p f →
    (common (integer_of p) tb).signed ≡ false → is_below (at (integer_of p) f) (at tb b) ≡ false
never_below p tb f b held in_range small z e =
    let t = integer_of p in
    let whole = common t tb in
    let m = 2 ^ width t - 1 - f in
    let wide = common_wide p tb in
    let narrow : 2 ^ width t ≤ 2 ^ 32 = z.narrow in
    let half : 2 ^ width t ≡ 2 ^ (width t - 1) + 2 ^ (width t - 1) = halves (width t) (width_some t) in
    let h = z.half in
    let short = z.short in
    let most = signed_most t z.signed in
    let all_of = unsigned_most whole e in
    let a = 2 ^ width whole - 1 - m in
    let is : converted whole t f ≡ a = ap (word_of whole) (reading_neg t f z.signed z.half z.short) ∙ word_neg whole m (omega arith) in
    let read_a = reading_pos whole a (omega arith) in
    let hb = common_holds p tb b (omega arith) in_range in
    let read_b = ap (reading whole) (converted_pos whole tb b b (reading_pos tb b held) hb) ∙ reading_pos whole b hb in
    below_reads t tb f b (pos a) (pos b) (ap (reading whole) is ∙ read_a) read_b ∙ not_above a b (omega arith)

from_below : (p : IntType) (tb : Integer) (f b c : ℕ) (s : Bool) → (common (integer_of p) tb).signed ≡ s → 0 < c → c < 2 ^ 33 → b ≤ most_of tb → b < 2 ^ 32 →
    IsUpTo (integer_of p) (at tb b) b c (most_counted p) → IsBelowZero p f → EndsWithin (steps_to (distance p tb f b) c) (at (integer_of p) f) (at tb b) c
from_below p tb f b c true e some few held small k z = up_from p tb f b c some few k z e
from_below p tb f b c false e some few held small k z =
    let room = k.room in
    subst (λ n. EndsWithin n (at (integer_of p) f) (at tb b) c) (sym (ap (λ d. steps_to d c) (distance_unsigned p tb f b z e) ∙ steps_none c))
    (never_below p tb f b held (omega arith) small z e)

below_zero : (p : IntType) (f : ℕ) → most_of (integer_of p) < f → f < 2 ^ width (integer_of p) → f < 2 ^ 32 → IsBelowZero p f
below_zero words.Int f h k l = record { signed = refl; half = omega arith; short = k; narrow = omega arith; words = refl }
below_zero words.Int8 f h k l = record { signed = refl; half = omega arith; short = k; narrow = omega arith; words = refl }
below_zero words.Int16 f h k l = record { signed = refl; half = omega arith; short = k; narrow = omega arith; words = refl }
below_zero words.Int32 f h k l = record { signed = refl; half = omega arith; short = k; narrow = omega arith; words = refl }
below_zero words.Int64 f h k l = absurd (omega arith)
below_zero words.Unsigned f h k l = absurd (omega arith)
below_zero words.Uint8 f h k l = absurd (omega arith)
below_zero words.Uint16 f h k l = absurd (omega arith)
below_zero words.Uint32 f h k l = absurd (omega arith)
below_zero words.Uint64 f h k l = absurd (omega arith)

loop_by : (p : IntType) (tb : Integer) (f b c : ℕ) → 0 < c → c < 2 ^ 33 → b ≤ most_of tb → b < 2 ^ 32 → b + c ≤ most_of (integer_of p) → f < 2 ^ 32 →
    f < 2 ^ width (integer_of p) → (most_of (integer_of p) < f) ⊎ (f ≤ most_of (integer_of p)) →
    EndsWithin (steps_to (distance p tb f b) c) (at (integer_of p) f) (at tb b) c
loop_by p tb f b c some few held small room start short (inl negative) =
    from_below p tb f b c (common (integer_of p) tb).signed refl some few held small (up_to p tb b c held small few room) (below_zero p f negative short start)
loop_by p tb f b c some few held small room start short (inr in_range) =
    from_zero_on p tb f b c some (up_to p tb b c held small few room) start in_range

-- a counter of type p that begins with the word f comes to a bound in as many turns as its distance takes
pub loop_ends : (p : IntType) (tb : Integer) (f b c : ℕ) → 0 < c → c < 2 ^ 33 → b ≤ most_of tb → b < 2 ^ 32 → b + c ≤ most_of (integer_of p) → f < 2 ^ 32 →
    f < 2 ^ width (integer_of p) → EndsWithin (steps_to (distance p tb f b) c) (at (integer_of p) f) (at tb b) c
loop_ends p tb f b c some few held small room start short =
    loop_by p tb f b c some few held small room start short (cases_lt (most_of (integer_of p)) f)
