-- Loops over the bits of words: what one more bit does.
use Rattle.std.proofs.Common.{◌≡◌, ℕ, zero, suc, ◌+◌, ◌*◌, ◌/◌, ◌%◌, ◌^◌, ◌<◌, ◌≤◌, List, [], ◌∷◌, ◌++◌, length, take, get_or, Bool, true, false}
use Rattle.std.proofs.Common.{cond, refl, sym, ap, subst, ◌∙◌, inl, inr, arith, lt-ltb, le-ltb, eq-eqb, length-append}
use Rattle.std.specs.Prelude.{ℤ, neg_ℤ, not, ◌&&◌, ◌||◌, nat_lt, nat_eq, bit_and, bit_or, bit_xor}
use Rattle.std.proofs.lemmas.Bool.{cases_lt, ne_eqb}
use Rattle.std.proofs.lemmas.Bool.Decides.{eqb_tells}
use Rattle.std.proofs.lemmas.List.{take_all}
use Rattle.std.proofs.lemmas.List.Elements.{All-push}
use Rattle.std.proofs.lemmas.Nat.{and_block, or_block, xor_block, mod_low, mod_below, mod-pow-add}
use Rattle.vg_bits.specs.Words.{bit}
use Rattle.vg_cnf.specs.Clauses.{ClauseSet, IsOver}
use Rattle.vg_blast.specs.Circuits.{truth, number, Builds, MakesBit, MakesWord, IsConstant, IsKnown, differ, choose}
use Rattle.vg_blast.specs.Bitwise.{bit_by, number_by}
use Rattle.vg_blast.specs.declared.bitwise.Bitwise.{Bitwise}
use Rattle.vg_blast.specs.declared.bitwise.Bitwise.TheVariants.{And, Or, Xor}
use Rattle.vg_blast.specs.Adding.{borrow, AddsBits, TakesBits, Sums, Differs}
use Rattle.vg_blast.proofs.Truths.{truth_neg}
use Rattle.vg_blast.proofs.Composing.{chained, all_over_later}
use Rattle.vg_blast.proofs.Numbers.{number-push, number-more, number-below, pow_next, low_below}

-- ---- one more bit of a word

pub word_more : (old mid new : ClauseSet) (m n cost : ℕ) (out : List ℤ) (l : ℤ) (w : ℕ) (f g : List Bool → ℕ) (h : List Bool → Bool)
    → MakesWord old mid m out w f → MakesBit mid new n l h → m + n ≤ cost →
    ((v : List Bool) → f v + 2 ^ w * bit (h v) ≡ g v) → MakesWord old new cost (out ++ l ∷ []) (w + 1) g
word_more old mid new m n cost out l w f g h word one le step = record {
  builds = chained old mid new m n cost word.builds one.builds le;
  over = All-push (IsOver new.variables) out l (all_over_later mid new n out one.builds word.over) one.over;
  width = length-append out (l ∷ []) ∙ omega (arith, word.width);
  is = λ v holds.
      number-push v out l
      ∙ (λ j. word.is v (one.builds.weaker v holds) j + 2 ^ word.width j * bit (one.is v holds j))
      ∙ step v;
}

-- ---- bit by bit

bits_and : (x y : Bool) → bit_and (bit x) (bit y) ≡ bit (x && y)
bits_and true true = refl
bits_and true false = refl
bits_and false y = refl

bits_or : (x y : Bool) → bit_or (bit x) (bit y) ≡ bit (x || y)
bits_or true true = refl
bits_or true false = refl
bits_or false true = refl
bits_or false false = refl

bits_xor : (x y : Bool) → bit_xor (bit x) (bit y) ≡ bit (differ x y)
bits_xor true true = refl
bits_xor true false = refl
bits_xor false true = refl
bits_xor false false = refl

turned : (p x a : ℕ) → a + p * x ≡ x * p + a
turned p x a = omega arith

by_more : (op : Bitwise) (x y : Bool) (k a b : ℕ) → a < 2 ^ k → b < 2 ^ k → number_by op a b + 2 ^ k * bit (bit_by op x y) ≡ number_by op
    (a + 2 ^ k * bit x) (b + 2 ^ k * bit y)
by_more And x y k a b p q =
    turned (2 ^ k) (bit (x && y)) (bit_and a b)
    ∙ ap (λ n. n * 2 ^ k + bit_and a b) (sym (bits_and x y))
    ∙ sym (and_block k (bit x) (bit y) a b p q)
    ∙ sym (λ j. bit_and (turned (2 ^ k) (bit x) a j) (turned (2 ^ k) (bit y) b j))
by_more Or x y k a b p q =
    turned (2 ^ k) (bit (x || y)) (bit_or a b)
    ∙ ap (λ n. n * 2 ^ k + bit_or a b) (sym (bits_or x y))
    ∙ sym (or_block k (bit x) (bit y) a b p q)
    ∙ sym (λ j. bit_or (turned (2 ^ k) (bit x) a j) (turned (2 ^ k) (bit y) b j))
by_more Xor x y k a b p q =
    turned (2 ^ k) (bit (differ x y)) (bit_xor a b)
    ∙ ap (λ n. n * 2 ^ k + bit_xor a b) (sym (bits_xor x y))
    ∙ sym (xor_block k (bit x) (bit y) a b p q)
    ∙ sym (λ j. bit_xor (turned (2 ^ k) (bit x) a j) (turned (2 ^ k) (bit y) b j))

pub bitwise_more : (old mid new : ClauseSet) (op : Bitwise) (a b out : List ℤ) (x y l : ℤ) (i : ℕ) → i < length a → i < length b → x ≡ get_or a i x
    → y ≡ get_or b i y →
    MakesWord old mid (12 * i) out i (λ v. number_by op (number v (take i a)) (number v (take i b)))
    → MakesBit mid new 12 l (λ v. bit_by op (truth v x) (truth v y)) →
    MakesWord old new (12 * (i + 1)) (out ++ l ∷ []) (i + 1) (λ v. number_by op (number v (take (i + 1) a)) (number v (take (i + 1) b)))
bitwise_more old mid new op a b out x y l i p q is_x is_y word one =
    word_more old mid new (12 * i) 12 (12 * (i + 1)) out l i (λ v. number_by op (number v (take i a)) (number v (take i b)))
    (λ v. number_by op (number v (take (i + 1) a)) (number v (take (i + 1) b)))
    (λ v. bit_by op (truth v x) (truth v y)) word one (omega arith)
    (λ v.
    by_more op (truth v x) (truth v y) i (number v (take i a)) (number v (take i b)) (low_below v a i (omega (arith, p))) (low_below v b i (omega (arith, q)))
    ∙ sym (λ j. number_by op (number-more v a i x p is_x j) (number-more v b i y q is_y j)))

-- ---- choices

chosen_more : (c x y : Bool) (p a b : ℕ) → cond c a b + p * bit (choose c x y) ≡ cond c (a + p * bit x) (b + p * bit y)
chosen_more true x y p a b = refl
chosen_more false x y p a b = refl

pub choice_more : (old mid new : ClauseSet) (c : ℤ) (a b out : List ℤ) (x y l : ℤ) (i : ℕ) → i < length a → i < length b → x ≡ get_or a i x → y ≡ get_or b i y →
    MakesWord old mid (36 * i) out i (λ v. cond (truth v c) (number v (take i a)) (number v (take i b)))
    → MakesBit mid new 36 l (λ v. choose (truth v c) (truth v x) (truth v y)) →
    MakesWord old new (36 * (i + 1)) (out ++ l ∷ []) (i + 1) (λ v. cond (truth v c) (number v (take (i + 1) a)) (number v (take (i + 1) b)))
choice_more old mid new c a b out x y l i p q is_x is_y word one =
    word_more old mid new (36 * i) 36 (36 * (i + 1)) out l i (λ v. cond (truth v c) (number v (take i a)) (number v (take i b)))
    (λ v. cond (truth v c) (number v (take (i + 1) a)) (number v (take (i + 1) b))) (λ v. choose (truth v c) (truth v x) (truth v y)) word one (omega arith)
    (λ v.
    chosen_more (truth v c) (truth v x) (truth v y) (2 ^ i) (number v (take i a)) (number v (take i b))
    ∙ sym (λ j. cond (truth v c) (number-more v a i x p is_x j) (number-more v b i y q is_y j)))

-- ---- comparisons

and_true : (b : Bool) → b && true ≡ b
and_true true = refl
and_true false = refl

and_false : (b : Bool) → b && false ≡ false
and_false true = refl
and_false false = refl

less_more : (x y : Bool) (a b p c d : ℕ) → a < p → b < p → c ≡ a + p * bit x → d ≡ b + p * bit y → borrow x y (nat_lt a b) ≡ nat_lt c d
less_more true true a b p c d h k e f = elim (cases_lt a b) [
  | inl l ↦ lt-ltb a b l ∙ sym (lt-ltb c d (omega arith))
  | inr g ↦ le-ltb a b g
      ∙ sym (le-ltb c d (omega arith))
]
less_more true false a b p c d h k e f = sym (le-ltb c d (omega arith))
less_more false true a b p c d h k e f = sym (lt-ltb c d (omega arith))
less_more false false a b p c d h k e f = elim (cases_lt a b) [
  | inl l ↦ lt-ltb a b l ∙ sym (lt-ltb c d (omega arith))
  | inr g ↦ le-ltb a b g
      ∙ sym (le-ltb c d (omega arith))
]

pub less_than_more : (old mid new : ClauseSet) (a b : List ℤ) (x y l next : ℤ) (i : ℕ) → i < length a → i < length b → x ≡ get_or a i x → y ≡ get_or b i y →
    MakesBit old mid (48 * i) l (λ v. nat_lt (number v (take i a)) (number v (take i b))) → MakesBit mid new 48 next
    (λ v. borrow (truth v x) (truth v y) (truth v l)) →
    MakesBit old new (48 * (i + 1)) next (λ v. nat_lt (number v (take (i + 1) a)) (number v (take (i + 1) b)))
less_than_more old mid new a b x y l next i p q is_x is_y so_far one = record {
  builds = chained old mid new (48 * i) 48 (48 * (i + 1)) so_far.builds one.builds (omega arith);
  over = one.over;
  is = λ v h.
      one.is v h
      ∙ ap (borrow (truth v x) (truth v y)) (so_far.is v (one.builds.weaker v h))
      ∙ less_more (truth v x) (truth v y) (number v (take i a)) (number v (take i b)) (2 ^ i) (number v (take (i + 1) a)) (number v (take (i + 1) b))
      (low_below v a i (omega (arith, p))) (low_below v b i (omega (arith, q)))
      (number-more v a i x p is_x) (number-more v b i y q is_y);
}

same_as : (a b c d : ℕ) → (a ≡ b → c ≡ d) → (c ≡ d → a ≡ b) → nat_eq a b ≡ nat_eq c d
same_as a b c d f g = elim (eqb_tells a b) [ inl t ↦ t.0 ∙ sym (eq-eqb c d (f t.1)) | inr n ↦ n.0 ∙ sym (ne_eqb c d (λ e. n.1 (g e))) ]

equal_more : (x y : Bool) (a b p c d : ℕ) → a < p → b < p → c ≡ a + p * bit x → d ≡ b + p * bit y → nat_eq a b && not (differ x y) ≡ nat_eq c d
equal_more true true a b p c d h k e f = and_true (nat_eq a b) ∙ same_as a b c d (λ s. omega arith) (λ s. omega arith)
equal_more true false a b p c d h k e f = and_false (nat_eq a b) ∙ sym (ne_eqb c d (λ s. let none : ⊥ = omega arith in none))
equal_more false true a b p c d h k e f = and_false (nat_eq a b) ∙ sym (ne_eqb c d (λ s. let none : ⊥ = omega arith in none))
equal_more false false a b p c d h k e f = and_true (nat_eq a b) ∙ same_as a b c d (λ s. omega arith) (λ s. omega arith)

pub equals_more : (old mid s new : ClauseSet) (a b : List ℤ) (x y l one n next : ℤ) (i : ℕ) → i < length a → i < length b → x ≡ get_or a i x
    → y ≡ get_or b i y →
    MakesBit old mid (24 * i) l (λ v. nat_eq (number v (take i a)) (number v (take i b))) → MakesBit mid s 12 one
    (λ v. differ (truth v x) (truth v y)) → n ≡ neg_ℤ one →
    MakesBit s new 12 next (λ v. truth v l && truth v n) → MakesBit old new (24 * (i + 1)) next
    (λ v. nat_eq (number v (take (i + 1) a)) (number v (take (i + 1) b)))
equals_more old mid s new a b x y l one n next i p q is_x is_y so_far other is last = record {
  builds = chained old mid new (24 * i) 24 (24 * (i + 1)) so_far.builds (chained mid s new 12 12 24 other.builds last.builds (omega arith)) (omega arith);
  over = last.over;
  is = λ v h.
      let h2 = last.builds.weaker v h in
      let h1 = other.builds.weaker v h2 in
      let negated : truth v n ≡ not (truth v one) = ap (truth v) is ∙ truth_neg v one other.over.0 in
      last.is v h
      ∙ (λ j. so_far.is v h1 j && (negated ∙ ap not (other.is v h2)) j)
      ∙ equal_more (truth v x) (truth v y) (number v (take i a)) (number v (take i b)) (2 ^ i) (number v (take (i + 1) a)) (number v (take (i + 1) b))
      (low_below v a i (omega (arith, p))) (low_below v b i (omega (arith, q)))
      (number-more v a i x p is_x) (number-more v b i y q is_y);
}

-- ---- sums and differences

sum_step : (p o c a b x y s n : ℕ) → o + p * c ≡ a + b → s + 2 * n ≡ x + y + c → o + p * s + 2 * p * n ≡ a + p * x + (b + p * y)
sum_step p o c a b x y s n e f =
    let g : p * (s + 2 * n) ≡ p * (x + y + c) = ap (λ m. p * m) f in
    omega arith

pub sums_more : (old mid new : ClauseSet) (a b out : List ℤ) (carry x y l next : ℤ) (i : ℕ) → i < length a → i < length b → x ≡ get_or a i x
    → y ≡ get_or b i y →
    Sums old mid out carry a b i → AddsBits mid new l next x y carry → Sums old new (out ++ l ∷ []) next a b (i + 1)
sums_more old mid new a b out carry x y l next i p q is_x is_y so_far one = record {
  builds = chained old mid new (72 * i) 72 (72 * (i + 1)) so_far.builds one.builds (omega arith);
  over = All-push (IsOver new.variables) out l (all_over_later mid new 72 out one.builds so_far.over) one.over_sum;
  over_carry = one.over_next;
  width = length-append out (l ∷ []) ∙ omega (arith, so_far.width);
  is = λ v h.
      let pushed : number v (out ++ l ∷ []) ≡ number v out + 2 ^ i * bit (truth v l) = number-push v out l
      ∙ ap (λ n. number v out + 2 ^ n * bit (truth v l)) so_far.width in
      (λ j. pushed j + pow_next i j * bit (truth v next))
      ∙ sum_step (2 ^ i) (number v out) (bit (truth v carry)) (number v (take i a)) (number v (take i b)) (bit (truth v x)) (bit (truth v y))
      (bit (truth v l)) (bit (truth v next)) (so_far.is v (one.builds.weaker v h)) (one.is v h)
      ∙ sym (λ j. number-more v a i x p is_x j + number-more v b i y q is_y j);
}

difference_step : (p o c a b x y s n : ℕ) → o + b ≡ a + p * c → s + y + c ≡ x + 2 * n → o + p * s + (b + p * y) ≡ a + p * x + 2 * p * n
difference_step p o c a b x y s n e f =
    let g : p * (s + y + c) ≡ p * (x + 2 * n) = ap (λ m. p * m) f in
    omega arith

pub differs_more : (old mid new : ClauseSet) (a b out : List ℤ) (borrowed x y l next : ℤ) (i : ℕ) → i < length a → i < length b → x ≡ get_or a i x
    → y ≡ get_or b i y →
    Differs old mid out borrowed a b i → TakesBits mid new l next x y borrowed → Differs old new (out ++ l ∷ []) next a b (i + 1)
differs_more old mid new a b out borrowed x y l next i p q is_x is_y so_far one = record {
  builds = chained old mid new (72 * i) 72 (72 * (i + 1)) so_far.builds one.builds (omega arith);
  over = All-push (IsOver new.variables) out l (all_over_later mid new 72 out one.builds so_far.over) one.over_left;
  over_borrowed = one.over_next;
  width = length-append out (l ∷ []) ∙ omega (arith, so_far.width);
  is = λ v h.
      let pushed : number v (out ++ l ∷ []) ≡ number v out + 2 ^ i * bit (truth v l) = number-push v out l
      ∙ ap (λ n. number v out + 2 ^ n * bit (truth v l)) so_far.width in
      (λ j. pushed j + number-more v b i y q is_y j)
      ∙ difference_step (2 ^ i) (number v out) (bit (truth v borrowed)) (number v (take i a)) (number v (take i b)) (bit (truth v x))
      (bit (truth v y)) (bit (truth v l)) (bit (truth v next)) (so_far.is v (one.builds.weaker v h)) (one.is v h)
      ∙ sym (λ j. number-more v a i x p is_x j + pow_next i j * bit (truth v next));
}

-- the sum without its carry
pub sum_made : (old new : ClauseSet) (out : List ℤ) (carry : ℤ) (a b : List ℤ) (i w : ℕ) → w ≡ length a → length a ≡ length b → w ≤ i → i ≤ w
    → Sums old new out carry a b i →
    MakesWord old new (72 * w) out w (λ v. (number v a + number v b) % 2 ^ w)
sum_made old new out carry a b i w wide same h k sums =
    let e : i ≡ w = omega (arith, h, k) in
    record {
      builds = subst (λ n. Builds old new (72 * n)) e sums.builds;
      over = sums.over;
      width = sums.width ∙ e;
      is = λ v holds.
          let below : number v out < 2 ^ w = subst (λ n. number v out < 2 ^ n) (sums.width ∙ e) (number-below v out) in
          let whole : number v out + 2 ^ i * bit (truth v carry) ≡ number v a + number v b =
          sums.is v holds ∙ (λ j. number v (take_all i a (omega (arith, wide, h)) j) + number v (take_all i b (omega (arith, wide, same, h)) j)) in
          let turned_whole : bit (truth v carry) * 2 ^ w + number v out ≡ number v a + number v b =
          sym (turned (2 ^ w) (bit (truth v carry)) (number v out)) ∙ ap (λ n. number v out + 2 ^ n * bit (truth v carry)) (sym e) ∙ whole in
          sym (mod_low (bit (truth v carry)) w (number v out) below) ∙ ap (λ n. n % 2 ^ w) turned_whole;
    }

-- ---- words that are known

zero_of : (n : ℕ) → n < 2 → (n ≡ 1 → ⊥) → 0 ≡ n
zero_of zero h not_one = refl
zero_of (suc zero) h not_one = absurd (not_one refl)
zero_of (suc (suc n)) h not_one = let none : ⊥ = omega (arith, h) in absurd none

pub bit_of : (n : ℕ) (set : Bool) → set ≡ nat_eq (n % 2) 1 → bit set ≡ n % 2
bit_of n set e =
    let below : n % 2 < 2 = mod_below n 2 (omega arith) in
    elim (eqb_tells (n % 2) 1) [
      | inl one ↦ ap bit (e ∙ one.0) ∙ sym one.1
      | inr zero_bit ↦ ap bit (e ∙ zero_bit.0) ∙ zero_of (n % 2) below zero_bit.1
    ]

pub constant_more : (out : List ℤ) (i value : ℕ) (l : ℤ) (set : Bool) → IsConstant out i (value % 2 ^ i) → set ≡ nat_eq (value / 2 ^ i % 2) 1
    → IsKnown l set → IsConstant (out ++ l ∷ []) (i + 1) (value % 2 ^ (i + 1))
constant_more out i value l set so_far e known = record {
  width = length-append out (l ∷ []) ∙ omega (arith, so_far.width);
  over = λ n some. All-push (IsOver n) out l (so_far.over n some) (known.over n some);
  is = λ v first.
      number-push v out l
      ∙ (λ j. so_far.is v first j + 2 ^ so_far.width j * (ap bit (known.is v first) ∙ bit_of (value / 2 ^ i) set e) j)
      ∙ (let t : value % 2 ^ i + 2 ^ i * (value / 2 ^ i % 2) ≡ (value / 2 ^ i % 2 ^ 1) * 2 ^ i + value % 2 ^ i = omega arith in t)
      ∙ sym (mod-pow-add value 1 i)
      ∙ ap (λ n. value % 2 ^ n) (let c : 1 + i ≡ i + 1 = omega arith in c);
}
