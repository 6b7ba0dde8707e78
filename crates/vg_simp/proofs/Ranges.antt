-- Ranges of numbers.
use Rattle.std.proofs.Common.{◌≡◌, ℕ, ◌+◌, ◌-◌, ◌*◌, ◌%◌, ◌^◌, ◌<◌, ◌≤◌, min, max, Bool, cond, ap, ◌∙◌, inl, inr, arith}
use Rattle.std.specs.Prelude.{bit_and}
use Rattle.std.proofs.Math.Nat.{mod-eq_of_lt, mod-le, add-mul-mod_self_left, mul-le-mul}
use Rattle.std.proofs.lemmas.Bool.Decides.{eqb_tells}
use Rattle.std.proofs.lemmas.Nat.{pow_pos, and_le_l, and_le_r, mod_below}
use Rattle.vg_bits.specs.Words as words
use Rattle.vg_bits.proofs.Machine.{sub-is}
use Rattle.vg_simp.specs.Ranges.{IsMeet, IsHull, IsWhole, Covers}
use Rattle.vg_simp.specs.declared.range.Range.{Range}

pub whole_each : (width : ℕ) (r : Range) → r.low ≡ 0 → r.high ≡ words.all_ones width → IsWhole width r
whole_each width r low high = record { each = λ n below. record { least = omega (arith, low); most = omega (arith, high, below) } }

pub meet_each : (x y r : Range) → r.low ≡ max x.low y.low → r.high ≡ min x.high y.high → IsMeet x y r
meet_each x y r low high = record {
  each = λ n first second. record {
    least = omega (arith, low, first.least, second.least);
    most =
        omega (arith, high, first.most, second.most);
  };
}

pub meet_first : (x y : Range) → IsMeet x y x
meet_first x y = record { each = λ n first second. first }

pub hull_each : (x y r : Range) → r.low ≡ min x.low y.low → r.high ≡ max x.high y.high → IsHull x y r
hull_each x y r low high = record {
  first = λ n is. record { least = omega (arith, low, is.least); most = omega (arith, high, is.most) };
  second = λ n is. record { least = omega (arith, low, is.least); most = omega (arith, high, is.most) };
}

-- ---- sums and differences

pub add_plain : (w m n : ℕ) → m + n < 2 ^ w → words.add w m n ≡ m + n
add_plain w m n below = mod-eq_of_lt below

pub wrapped_once : (p s : ℕ) → p ≤ s → s < p + p → s % p ≡ s - p
wrapped_once p s le below =
    let e : s ≡ (s - p) + p * 1 = omega (arith, le) in
    ap (λ n. n % p) e ∙ add-mul-mod_self_left (s - p) p 1 ∙ mod-eq_of_lt (omega (arith, le, below))

add_wrapped : (w m n : ℕ) → 2 ^ w ≤ m + n → m < 2 ^ w → n < 2 ^ w → words.add w m n ≡ m + n - 2 ^ w
add_wrapped w m n le first second = wrapped_once (2 ^ w) (m + n) le (omega (arith, first, second))

pub sum_plain : (w mask : ℕ) (x y r : Range) → mask ≡ words.all_ones w → x.high ≤ mask → y.high ≤ mask - x.high → r.low ≡ x.low + y.low
    → r.high ≡ x.high + y.high → Covers (words.add w) x y r
sum_plain w mask x y r is first second low high = record {
  each = λ m n a b.
      let e : words.add w m n ≡ m + n = add_plain w m n (omega (arith, is, first, second, a.most, b.most, pow_pos w)) in
      record { least = omega (arith, e, low, a.least, b.least); most = omega (arith, e, high, a.most, b.most) };
}

pub sum_wrapped : (w mask : ℕ) (x y r : Range) → mask ≡ words.all_ones w → x.high ≤ mask → y.high ≤ mask → mask - x.low < y.low
    → r.low ≡ y.low - (mask - x.low) - 1 → r.high ≡ y.high - (mask - x.high) - 1 → Covers (words.add w) x y r
sum_wrapped w mask x y r is first second past low high = record {
  each = λ m n a b.
      let e : words.add w m n ≡ m + n - 2 ^ w =
      add_wrapped w m n (omega (arith, is, first, second, past, a.least, b.least, a.most, b.most, pow_pos w))
      (omega (arith, is, first, a.most, pow_pos w)) (omega (arith, is, second, b.most, pow_pos w)) in
      record {
        least = omega (arith, e, is, low, past, first, second, a.least, b.least, a.most, b.most, x.ordered, y.ordered, pow_pos w);
        most =
            omega (arith, e, is, high, past, first, second, a.least, b.least, a.most, b.most, x.ordered, y.ordered, pow_pos w);
      };
}

sub_plain : (w m n : ℕ) → n ≤ m → m < 2 ^ w → words.sub w m n ≡ m - n
sub_plain w m n le below =
    sub-is w m n (omega (arith, le, below))
    ∙ wrapped_once (2 ^ w) (m + (2 ^ w - n)) (omega (arith, le, below)) (omega (arith, le, below))
    ∙ (let e : m + (2 ^ w - n) - 2 ^ w ≡ m - n = omega (arith, le, below) in e)

pub difference_plain : (w mask : ℕ) (x y r : Range) → mask ≡ words.all_ones w → x.high ≤ mask → y.high ≤ x.low → r.low ≡ x.low - y.high
    → r.high ≡ x.high - y.low → Covers (words.sub w) x y r
difference_plain w mask x y r is first second low high = record {
  each = λ m n a b.
      let e : words.sub w m n ≡ m - n = sub_plain w m n (omega (arith, second, a.least, b.most)) (omega (arith, is, first, a.most, pow_pos w)) in
      record { least = omega (arith, e, low, a.least, b.most); most = omega (arith, e, high, a.most, b.least) };
}

-- ---- products, masks and remainders

pub product_plain : (w mask : ℕ) (x y r : Range) → mask ≡ words.all_ones w → r.low ≡ x.low * y.low → r.high ≡ x.high * y.high → r.high ≤ mask
    → Covers (words.mul w) x y r
product_plain w mask x y r is low high most = record {
  each = λ m n a b.
      let top : m * n ≤ x.high * y.high = mul-le-mul a.most b.most in
      let down : x.low * y.low ≤ m * n = mul-le-mul a.least b.least in
      let e : words.mul w m n ≡ m * n = mod-eq_of_lt (omega (arith, is, top, high, most, pow_pos w)) in
      record { least = omega (arith, e, low, down); most = omega (arith, e, high, top) };
}

pub common_plain : (x y r : Range) → r.low ≡ 0 → r.high ≡ min x.high y.high → Covers bit_and x y r
common_plain x y r low high = record {
  each = λ m n a b. record { least = omega (arith, low); most = omega (arith, high, a.most, b.most, and_le_l m n, and_le_r m n) };
}

urem_some : (m n : ℕ) → 0 < n → words.urem m n ≡ m % n
urem_some m n some =
    elim (eqb_tells n 0) [
      | inl none ↦ absurd (omega (arith, some, none.1))
      | inr other ↦ ap (λ (b : Bool). cond b m (m % n)) other.0
    ]

pub remainder_plain : (x y r : Range) → 0 < y.low → r.low ≡ 0 → r.high ≡ min x.high (y.high - 1) → Covers words.urem x y r
remainder_plain x y r some low high = record {
  each = λ m n a b.
      let e : words.urem m n ≡ m % n = urem_some m n (omega (arith, some, b.least)) in
      record { least = omega (arith, low); most = omega (arith, e, high, a.most, b.most, mod-le m n, mod_below m n (omega (arith, some, b.least))) };
}
