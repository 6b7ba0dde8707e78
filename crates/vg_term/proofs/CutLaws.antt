-- Bits that are cut from what an operation answers, as what it answers on bits of its parts.
use Rattle.std.proofs.Common.{◌≡◌, ℕ, ◌+◌, ◌-◌, ◌*◌, ◌/◌, ◌%◌, ◌^◌, ◌<◌, ◌≤◌, [], ◌∷◌, Bool, true, false, cond, refl, sym, ap, subst, ◌∙◌, inl, inr, arith}
use Rattle.std.specs.Int.{bit_at}
use Rattle.std.proofs.Math.Nat.{mod-eq_of_lt, div-one, add-mul-mod_self_right, add-mod, mod-add-mod}
use Rattle.std.proofs.Math.Pow.{mod-mod-pow, pow_mono}
use Rattle.std.proofs.lemmas.Bool.{cases_lt}
use Rattle.std.proofs.lemmas.Nat.{pow_pos, pow-add, mod_below, mod_low, shr_split, shr_high, shr_below, mul-mod}
use Rattle.std.proofs.lemmas.Nat.Bits.{same_from_bits, bit_at_above, bit_at_cat_low}
use Rattle.vg_bits.specs.Words as words
use Rattle.vg_bits.proofs.Machine.{sub-is, signed_pos, signed_neg}
use Rattle.vg_term.specs.Operations.{Bits, answer}
use Rattle.vg_term.specs.Wiring.{IsBitOp, bit_op}
use Rattle.vg_term.specs.Narrowing.{IsArithmetic}
use Rattle.vg_term.specs.declared.node.Op.{Op}
use Rattle.vg_term.specs.declared.node.Op.TheVariants as ops
use Rattle.vg_term.proofs.Wires.{bit_cut}
use Rattle.vg_term.proofs.Following.{bit_law}

-- a word of this width and value
abbrev pub word : ℕ → ℕ → Bits
word w v = record { width = w; value = v }

-- ---- turned bits

complement : (q d m r : ℕ) → r < m → (q + 1 + d) * m - 1 - (q * m + r) ≡ d * m + (m - 1 - r)
complement q d m r h = omega arith

-- each half is turned for itself
not_split : (j k p r : ℕ) → p < 2 ^ j → r < 2 ^ k → words.not (j + k) (p * 2 ^ k + r) ≡ words.not j p * 2 ^ k + words.not k r
not_split j k p r below low =
    let d = 2 ^ j - 1 - p in
    let whole : 2 ^ j ≡ p + 1 + d = omega (arith, below) in
    let split : 2 ^ (j + k) ≡ (p + 1 + d) * 2 ^ k = pow-add 2 j k ∙ ap (λ n. n * 2 ^ k) whole in
    ap (λ n. n - 1 - (p * 2 ^ k + r)) split ∙ complement p d (2 ^ k) r low

not_below : (w a : ℕ) → words.not w a < 2 ^ w
not_below w a = omega (arith, pow_pos w)

not_high : (j k v : ℕ) → v < 2 ^ (j + k) → words.not (j + k) v / 2 ^ k ≡ words.not j (v / 2 ^ k)
not_high j k v below =
    let low = mod_below v (2 ^ k) (pow_pos k) in
    let high : v / 2 ^ k < 2 ^ j = shr_below v j k below in
    ap (λ n. words.not (j + k) n / 2 ^ k) (sym (shr_split v k))
    ∙ ap (λ n. n / 2 ^ k) (not_split j k (v / 2 ^ k) (v % 2 ^ k) high low)
    ∙ shr_high (words.not j (v / 2 ^ k)) k (words.not k (v % 2 ^ k)) (not_below k (v % 2 ^ k))

not_low : (j k v : ℕ) → v < 2 ^ (j + k) → words.not (j + k) v % 2 ^ k ≡ words.not k (v % 2 ^ k)
not_low j k v below =
    let low = mod_below v (2 ^ k) (pow_pos k) in
    let high : v / 2 ^ k < 2 ^ j = shr_below v j k below in
    ap (λ n. words.not (j + k) n % 2 ^ k) (sym (shr_split v k))
    ∙ ap (λ n. n % 2 ^ k) (not_split j k (v / 2 ^ k) (v % 2 ^ k) high low)
    ∙ mod_low (words.not j (v / 2 ^ k)) k (words.not k (v % 2 ^ k)) (not_below k (v % 2 ^ k))

pub cut_not : (n from w v : ℕ) → from + w ≤ n → v < 2 ^ n → words.extract from w (words.not n v) ≡ words.not w (words.extract from w v)
cut_not n from w v within below =
    let j = n - from in
    let i = j - w in
    let e : n ≡ j + from = omega (arith, within) in
    let f : j ≡ i + w = omega (arith, within) in
    let small : v < 2 ^ (j + from) = subst (λ m. v < 2 ^ m) e below in
    let high : v / 2 ^ from < 2 ^ (i + w) = subst (λ m. v / 2 ^ from < 2 ^ m) f (shr_below v j from small) in
    ap (λ m. words.not m v / 2 ^ from % 2 ^ w) e
    ∙ ap (λ m. m % 2 ^ w) (not_high j from v small)
    ∙ ap (λ m. words.not m (v / 2 ^ from) % 2 ^ w) f
    ∙ not_low i w (v / 2 ^ from) high

-- ---- operations on bits

none_below : (n w : ℕ) → n % 2 ^ w < 2 ^ w
none_below n w = mod_below n (2 ^ w) (pow_pos w)

bit_op_none : (op : Op) → IsBitOp op → bit_op op 0 0 ≡ 0
bit_op_none ops.And is = refl
bit_op_none ops.Or is = refl
bit_op_none ops.Xor is = refl
bit_op_none _ is = absurd is

pub cut_bits : (op : Op) (n from w a b : ℕ) → IsBitOp op → words.extract from w (answer op (word n a ∷ word n b ∷ [])) ≡ answer op
    (word w (words.extract from w a) ∷ word w (words.extract from w b) ∷ [])
cut_bits op n from w a b is =
    let whole = answer op (word n a ∷ word n b ∷ []) in
    let x = words.extract from w a in
    let y = words.extract from w b in
    same_from_bits (words.extract from w whole) (answer op (word w x ∷ word w y ∷ []))
    (λ i.
    elim (cases_lt i w) [
      | inl low ↦
          bit_cut whole from w i low
          ∙ bit_law op (word n a) (word n b) (from + i) is
          ∙ (λ j. bit_op op (sym (bit_cut a from w i low) j) (sym (bit_cut b from w i low) j))
          ∙ sym (bit_law op (word w x) (word w y) i is)
      | inr high ↦
          bit_at_above (words.extract from w whole) w i (none_below (whole / 2 ^ from) w) high
          ∙ sym (bit_op_none op is)
          ∙ (λ j. bit_op op (sym (bit_at_above x w i (none_below (a / 2 ^ from) w) high) j) (sym (bit_at_above y w i (none_below (b / 2 ^ from) w) high) j))
          ∙ sym (bit_law op (word w x) (word w y) i is)
    ])

-- ---- choices

pub cut_choice : (from w : ℕ) (c : Bool) (a b : ℕ) → words.extract from w (cond c a b) ≡ cond c (words.extract from w a) (words.extract from w b)
cut_choice from w true a b = refl
cut_choice from w false a b = refl

-- ---- sums, differences and products

lowest : (w v : ℕ) → words.extract 0 w v ≡ v % 2 ^ w
lowest w v = ap (λ n. n % 2 ^ w) (div-one v)

shorter : (n w v : ℕ) → w ≤ n → v % 2 ^ n % 2 ^ w ≡ v % 2 ^ w
shorter n w v le = let e : n ≡ (n - w) + w = omega (arith, le) in ap (λ m. v % 2 ^ m % 2 ^ w) e ∙ mod-mod-pow v (n - w) w

low_add : (n w a b : ℕ) → w ≤ n → words.add n a b % 2 ^ w ≡ words.add w (a % 2 ^ w) (b % 2 ^ w)
low_add n w a b le = shorter n w (a + b) le ∙ add-mod a b (2 ^ w)

low_mul : (n w a b : ℕ) → w ≤ n → words.mul n a b % 2 ^ w ≡ words.mul w (a % 2 ^ w) (b % 2 ^ w)
low_mul n w a b le = shorter n w (a * b) le ∙ mul-mod a b (2 ^ w)

difference : (a q d m r : ℕ) → r < m → a + ((q + 1 + d) * m - (q * m + r)) ≡ a + (m - r) + d * m
difference a q d m r h = omega arith

low_sub : (n w a b : ℕ) → w ≤ n → b < 2 ^ n → words.sub n a b % 2 ^ w ≡ words.sub w (a % 2 ^ w) (b % 2 ^ w)
low_sub n w a b le below =
    let m = 2 ^ w in
    let q = b / m in
    let r = b % m in
    let e : n ≡ (n - w) + w = omega (arith, le) in
    let d = 2 ^ (n - w) - 1 - q in
    let high : q < 2 ^ (n - w) = shr_below b (n - w) w (subst (λ k. b < 2 ^ k) e below) in
    let rest : r < m = mod_below b m (pow_pos w) in
    let whole : 2 ^ (n - w) ≡ q + 1 + d = omega (arith, high) in
    let split : 2 ^ n ≡ (q + 1 + d) * m = ap (λ k. 2 ^ k) e ∙ pow-add 2 (n - w) w ∙ ap (λ k. k * m) whole in
    let parts : a + (2 ^ n - b) ≡ a + (m - r) + d * m = (λ j. a + (split j - sym (shr_split b w) j)) ∙ difference a q d m r rest in
    ap (λ k. k % m) (sub-is n a b (omega (arith, below)))
    ∙ shorter n w (a + (2 ^ n - b)) le
    ∙ ap (λ k. k % m) parts
    ∙ add-mul-mod_self_right (a + (m - r)) d m
    ∙ sym (mod-add-mod a m (m - r))
    ∙ sym (sub-is w (a % m) r (omega (arith, rest)))

pub cut_low : (op : Op) (n w a b : ℕ) → IsArithmetic op → w ≤ n → b < 2 ^ n → words.extract 0 w (answer op (word n a ∷ word n b ∷ [])) ≡ answer op
    (word w (words.extract 0 w a) ∷ word w (words.extract 0 w b) ∷ [])
cut_low ops.Add n w a b is le below = lowest w (words.add n a b) ∙ low_add n w a b le ∙ (λ j. words.add w (sym (lowest w a) j) (sym (lowest w b) j))
cut_low ops.Sub n w a b is le below = lowest w (words.sub n a b) ∙ low_sub n w a b le below ∙ (λ j. words.sub w (sym (lowest w a) j) (sym (lowest w b) j))
cut_low ops.Mul n w a b is le below = lowest w (words.mul n a b) ∙ low_mul n w a b le ∙ (λ j. words.mul w (sym (lowest w a) j) (sym (lowest w b) j))
cut_low _ n w a b is le below = absurd is

-- ---- extended words

above_ones_at : (q p a : ℕ) → a < p → (q + 1) * p - 1 - (p - 1 - a) ≡ q * p + a
above_ones_at q p a h = omega arith

above_ones : (m p a : ℕ) → 0 < m → a < p → m * p - 1 - (p - 1 - a) ≡ (m - 1) * p + a
above_ones m p a some h = let e : m ≡ (m - 1) + 1 = omega arith in ap (λ n. n * p - 1 - (p - 1 - a)) e ∙ above_ones_at (m - 1) p a h

-- the bits of an extended word that it had before
low_signed : (v w a i : ℕ) → 0 < v → v ≤ w → a < 2 ^ v → i < v → bit_at (words.sext v w a) i ≡ bit_at a i
low_signed v w a i some wider below low =
    let whole : 2 ^ v ≤ 2 ^ w = pow_mono wider in
    elim (cases_lt a (2 ^ (v - 1))) [
      | inl small ↦
          let e : words.sext v w a ≡ a = rw (signed_pos v a small) (mod-eq_of_lt (omega arith)) in
          ap (λ n. bit_at n i) e
      | inr large ↦
          let c = 2 ^ v - 1 - a in
          let m : c % 2 ^ w ≡ c = mod-eq_of_lt (omega arith) in
          let e : words.sext v w a ≡ 2 ^ w - 1 - c = rw (signed_neg v a large below, m) refl in
          let split : 2 ^ w ≡ 2 ^ (w - v) * 2 ^ v = ap (λ n. 2 ^ n) (let t : w ≡ (w - v) + v = omega (arith, wider) in t) ∙ pow-add 2 (w - v) v in
          let joined : 2 ^ w - 1 - c ≡ (2 ^ (w - v) - 1) * 2 ^ v + a = ap (λ n. n - 1 - c) split ∙ above_ones (2 ^ (w - v)) (2 ^ v) a (pow_pos (w - v)) below in
          ap (λ n. bit_at n i) (e ∙ joined) ∙ bit_at_cat_low (2 ^ (w - v) - 1) v a i low
    ]

pub cut_signed : (from w v n a : ℕ) → 0 < v → v ≤ n → a < 2 ^ v → from + w ≤ v → words.extract from w (words.sext v n a) ≡ words.extract from w a
cut_signed from w v n a some wider below within =
    let s = words.sext v n a in
    same_from_bits (words.extract from w s) (words.extract from w a)
    (λ i.
    elim (cases_lt i w) [
      | inl low ↦ bit_cut s from w i low ∙ low_signed v n a (from + i) some wider below (omega (arith, low, within)) ∙ sym (bit_cut a from w i low)
      | inr high ↦ bit_at_above (words.extract from w s) w i (none_below (s / 2 ^ from) w) high
          ∙ sym (bit_at_above (words.extract from w a) w i (none_below (a / 2 ^ from) w) high)
    ])

ones_above_at : (q p c : ℕ) → c < p → (q + 1) * p - 1 - c ≡ q * p + (p - 1 - c)
ones_above_at q p c h = omega arith

ones_above : (m p c : ℕ) → 0 < m → c < p → m * p - 1 - c ≡ (m - 1) * p + (p - 1 - c)
ones_above m p c some h = let e : m ≡ (m - 1) + 1 = omega arith in ap (λ n. n * p - 1 - c) e ∙ ones_above_at (m - 1) p c h

-- the lowest bits, where all of the word before is among them
pub cut_extended : (w v n a : ℕ) → 0 < v → v ≤ w → w ≤ n → a < 2 ^ v → words.extract 0 w (words.sext v n a) ≡ words.sext v w a
cut_extended w v n a some wide wider below =
    let half : 2 ^ v ≤ 2 ^ w = pow_mono wide in
    let whole : 2 ^ w ≤ 2 ^ n = pow_mono wider in
    lowest w (words.sext v n a)
    ∙ elim (cases_lt a (2 ^ (v - 1))) [
      | inl small ↦
          let far : words.sext v n a ≡ a = rw (signed_pos v a small) (mod-eq_of_lt (omega arith)) in
          let near : words.sext v w a ≡ a = rw (signed_pos v a small) (mod-eq_of_lt (omega arith)) in
          ap (λ k. k % 2 ^ w) far ∙ mod-eq_of_lt (omega (arith, half, below)) ∙ sym near
      | inr large ↦
          let c = 2 ^ v - 1 - a in
          let m : c % 2 ^ n ≡ c = mod-eq_of_lt (omega arith) in
          let l : c % 2 ^ w ≡ c = mod-eq_of_lt (omega arith) in
          let far : words.sext v n a ≡ 2 ^ n - 1 - c = rw (signed_neg v a large below, m) refl in
          let near : words.sext v w a ≡ 2 ^ w - 1 - c = rw (signed_neg v a large below, l) refl in
          let split : 2 ^ n ≡ 2 ^ (n - w) * 2 ^ w = ap (λ k. 2 ^ k) (let t : n ≡ (n - w) + w = omega (arith, wider) in t) ∙ pow-add 2 (n - w) w in
          let joined : 2 ^ n - 1 - c ≡ (2 ^ (n - w) - 1) * 2 ^ w + (2 ^ w - 1 - c) = ap (λ k. k - 1 - c) split
          ∙ ones_above (2 ^ (n - w)) (2 ^ w) c (pow_pos (n - w)) (omega arith) in
          ap (λ k. k % 2 ^ w) (far ∙ joined) ∙ mod_low (2 ^ (n - w) - 1) w (2 ^ w - 1 - c) (omega (arith, pow_pos w)) ∙ sym near
    ]

-- ---- cut twice

pub cut_twice : (from w n v : ℕ) → from + w ≤ n → words.extract from w (words.extract 0 n v) ≡ words.extract from w v
cut_twice from w n v within =
    same_from_bits (words.extract from w (words.extract 0 n v)) (words.extract from w v)
    (λ i.
    elim (cases_lt i w) [
      | inl low ↦
          bit_cut (words.extract 0 n v) from w i low
          ∙ bit_cut v 0 n (from + i) (omega (arith, low, within))
          ∙ ap (bit_at v) (let e : 0 + (from + i) ≡ from + i = omega arith in e)
          ∙ sym (bit_cut v from w i low)
      | inr high ↦
          bit_at_above (words.extract from w (words.extract 0 n v)) w i (none_below (words.extract 0 n v / 2 ^ from) w) high
          ∙ sym (bit_at_above (words.extract from w v) w i (none_below (v / 2 ^ from) w) high)
    ])
