-- Operations as circuits, against their formulas.
use Rattle.std.proofs.Common.{◌≡◌, ℕ, zero, suc, ◌+◌, ◌-◌, ◌*◌, ◌/◌, ◌%◌, ◌^◌, ◌<◌, ◌≤◌, List, [], ◌∷◌, ◌++◌, map, length, take, drop, get_or}
use Rattle.std.proofs.Common.{replicate, Bool, true, false, cond, refl, sym, ap, subst, ◌∙◌, ◌⊎◌, inl, inr, arith, All, lt-ltb, le-ltb, length-append}
use Rattle.std.proofs.Common.{length-drop, length-take-le, Result, Ok, Err, Vec, Global}
use Rattle.std.specs.Prelude.{ℤ, pos, negsuc, neg_ℤ, not, nat_lt, nat_eq, int_lt, IfOk}
use Rattle.std.proofs.lemmas.Bool.{cases_lt}
use Rattle.std.proofs.lemmas.Bool.Decides.{eqb_tells}
use Rattle.std.proofs.lemmas.List.{length-replicate, take_all, length-map, get_or_default}
use Rattle.std.proofs.lemmas.List.Elements.{All-nil, All-cons, All-append, All-replicate, All-take, All-drop, All-get_or, All-map, All-weaker}
use Rattle.std.proofs.lemmas.Nat.{mod_low, div-mul-add, mod-mul-add, shr_le}
use Rattle.std.proofs.Math.Nat.{mod-eq_of_lt, mul-le-mul_left}
use Rattle.std.proofs.Math.Pow.{pow_mono}
use Rattle.vg_bits.specs.Words as words
use Rattle.vg_bits.specs.Words.{bit}
use Rattle.vg_bits.proofs.Machine.{sub-is, signed_pos, signed_neg, halves}
use Rattle.vg_cnf.specs.Clauses.{ClauseSet, IsOver}
use Rattle.vg_blast.specs.Circuits.{truth, number, Holds, IsNet, Builds, MakesBit, MakesWord}
use Rattle.vg_blast.specs.Adding.{MakesDifference}
use Rattle.vg_blast.specs.Dividing.{IsDivided, Divides}
use Rattle.vg_blast.specs.Shifting.{turned, ShiftsRight}
use Rattle.vg_blast.proofs.Truths.{truth_neg}
use Rattle.vg_blast.proofs.Composing.{nothing_built, over_negated}
use Rattle.vg_blast.proofs.Numbers.{number-append, number-push, number-take, number-drop, number-more, number-below, number-zeros, number-ones}
use Rattle.vg_blast.proofs.Numbers.{number-negated, low_below}
use Rattle.vg_blast.proofs.Shifts.{falsity_false, falsity_over, pow_split}

-- ---- words that stand already

pub wired : {E : Type 0} (set : ClauseSet) (result : Result (Vec ℤ Global) E) (expected : List ℤ) (w cost : ℕ) (says : List Bool → ℕ)
    → IfOk result (λ out. out.items ≡ expected) → All (IsOver set.variables) expected → length expected ≡ w →
    ((v : List Bool) → Holds v set → number v expected ≡ says v) → IfOk result (λ out. MakesWord set set cost out.items w says)
wired set (Ok out) expected w cost says is over long says_so = record {
  builds = nothing_built set cost;
  over = subst (All (IsOver set.variables)) (sym is) over;
  width = ap length is ∙ long;
  is = λ v h. ap (number v) is ∙ says_so v h;
}
wired set (Err e) expected w cost says is over long says_so = is

pub not_wired : {E : Type 0} (set : ClauseSet) (result : Result (Vec ℤ Global) E) (a : List ℤ) → All (IsOver set.variables) a
    → IfOk result (λ out. out.items ≡ map neg_ℤ a) →
    IfOk result (λ out. MakesWord set set 0 out.items (length a) (λ v. words.not (length a) (number v a)))
not_wired set result a over is =
    wired set result (map neg_ℤ a) (length a) 0 (λ v. words.not (length a) (number v a)) is
    (All-map (IsOver set.variables) neg_ℤ a (All-weaker (IsOver set.variables) (λ l. IsOver set.variables (neg_ℤ l)) (over_negated set.variables) a
    over)) (length-map a neg_ℤ)
    (λ v h. omega (arith, number-negated v set.variables a over))

pub extract_wired : {E : Type 0} (set : ClauseSet) (result : Result (Vec ℤ Global) E) (a : List ℤ) (from w : ℕ) → from + w ≤ length a
    → All (IsOver set.variables) a → IfOk result (λ out. out.items ≡ take w (drop from a)) →
    IfOk result (λ out. MakesWord set set 0 out.items w (λ v. words.extract from w (number v a)))
extract_wired set result a from w h over is =
    wired set result (take w (drop from a)) w 0 (λ v. words.extract from w (number v a)) is
    (All-take (IsOver set.variables) w (drop from a) (All-drop (IsOver set.variables) from a over))
    (length-take-le w (drop from a) (omega (arith, h, length-drop from a)))
    (λ v holds. number-take v (drop from a) w (omega (arith, h, length-drop from a)) ∙ ap (λ n. n % 2 ^ w) (number-drop v a from (omega (arith, h))))

extended_long : (a : List ℤ) (f : ℤ) (w : ℕ) → length a ≤ w → length (a ++ replicate (w - length a) f) ≡ w
extended_long a f w h = length-append a (replicate (w - length a) f) ∙ omega (arith, length-replicate (w - length a) f, h)

pub zext_wired : {E : Type 0} (set : ClauseSet) (result : Result (Vec ℤ Global) E) (a : List ℤ) (f : ℤ) (w : ℕ) → IsNet set → f ≡ negsuc 0
    → length a ≤ w → All (IsOver set.variables) a →
    IfOk result (λ out. out.items ≡ a ++ replicate (w - length a) f) → IfOk result (λ out. MakesWord set set 0 out.items w (λ v. number v a))
zext_wired set result a f w net f_is le over is =
    wired set result (a ++ replicate (w - length a) f) w 0 (λ v. number v a) is
    (All-append (IsOver set.variables) a (replicate (w - length a) f) over (All-replicate (IsOver set.variables) (w - length a) f
    (falsity_over set f net f_is))) (extended_long a f w le)
    (λ v h.
    number-append v a (replicate (w - length a) f)
    ∙ ap (λ n. number v a + 2 ^ length a * n) (number-zeros v f (w - length a) (ap (truth v) f_is ∙ falsity_false set v net h))
    ∙ (let e : number v a + 2 ^ length a * 0 ≡ number v a = omega arith in e))

filled : (p n q : ℕ) → n + 1 ≡ q → p * n + p ≡ q * p
filled p n q e = (let t : p * n + p ≡ (n + 1) * p = omega arith in t) ∙ ap (λ m. m * p) e

-- ---- the sign

-- the highest bit tells whether the number is at least half of the range
top_bit : (v : List Bool) (a : List ℤ) (x : ℤ) → 0 < length a → x ≡ get_or a (length a - 1) x
    → number v a ≡ number v (take (length a - 1) a) + 2 ^ (length a - 1) * bit (truth v x)
top_bit v a x some is =
    let whole : take (length a - 1 + 1) a ≡ a = take_all (length a - 1 + 1) a (omega arith) in
    sym (ap (number v) whole) ∙ number-more v a (length a - 1) x (omega (arith, some)) is

low_where : (v : List Bool) (a : List ℤ) (x : ℤ) → 0 < length a → x ≡ get_or a (length a - 1) x → truth v x ≡ false → number v a < 2 ^ (length a - 1)
low_where v a x some is e =
    let t = top_bit v a x some is ∙ ap (λ b. number v (take (length a - 1) a) + 2 ^ (length a - 1) * bit b) e in
    omega (arith, t, low_below v a (length a - 1) (omega arith))

high_where : (v : List Bool) (a : List ℤ) (x : ℤ) → 0 < length a → x ≡ get_or a (length a - 1) x → truth v x ≡ true → 2 ^ (length a - 1) ≤ number v a
high_where v a x some is e =
    let t = top_bit v a x some is ∙ ap (λ b. number v (take (length a - 1) a) + 2 ^ (length a - 1) * bit b) e in
    omega (arith, t)

sext_is : (v : List Bool) (a : List ℤ) (x : ℤ) (w : ℕ) (b : Bool) → 0 < length a → length a ≤ w → x ≡ get_or a (length a - 1) x → truth v x ≡ b
    → number v (a ++ replicate (w - length a) x) ≡ words.sext (length a) w (number v a)
sext_is v a x w true some le is e =
    let n = length a in
    let c = 2 ^ n - 1 - number v a in
    let below : number v a < 2 ^ n = number-below v a in
    let wider : 2 ^ n ≤ 2 ^ w = pow_mono le in
    let m : c % 2 ^ w ≡ c = mod-eq_of_lt (omega arith) in
    let right : words.sext n w (number v a) ≡ 2 ^ w - 1 - c = rw (signed_neg n (number v a) (high_where v a x some is e) below, m) refl in
    let split : 2 ^ w ≡ 2 ^ (w - n) * 2 ^ n = pow_split w n le in
    let ones = number-ones v x (w - n) e in
    let left : number v (a ++ replicate (w - n) x) ≡ number v a + 2 ^ n * number v (replicate (w - n) x) = number-append v a (replicate (w - n) x) in
    let whole : 2 ^ n * number v (replicate (w - n) x) + 2 ^ n ≡ 2 ^ w = filled (2 ^ n) (number v (replicate (w - n) x)) (2 ^ (w - n)) ones ∙ sym split in
    left ∙ (let t : number v a + 2 ^ n * number v (replicate (w - n) x) ≡ 2 ^ w - 1 - c = omega arith in t) ∙ sym right
sext_is v a x w false some le is e =
    let n = length a in
    let below : number v a < 2 ^ n = number-below v a in
    let wider : 2 ^ n ≤ 2 ^ w = pow_mono le in
    let right : words.sext n w (number v a) ≡ number v a = rw (signed_pos n (number v a) (low_where v a x some is e)) (mod-eq_of_lt (omega arith)) in
    number-append v a (replicate (w - n) x) ∙ ap (λ m. number v a + 2 ^ n * m) (number-zeros v x (w - n) e)
    ∙ (let t : number v a + 2 ^ n * 0 ≡ number v a = omega arith in t) ∙ sym right

pub sext_wired : {E : Type 0} (set : ClauseSet) (result : Result (Vec ℤ Global) E) (a : List ℤ) (x : ℤ) (w : ℕ) → 0 < length a → length a ≤ w
    → x ≡ get_or a (length a - 1) x → All (IsOver set.variables) a →
    IfOk result (λ out. out.items ≡ a ++ replicate (w - length a) x)
    → IfOk result (λ out. MakesWord set set 0 out.items w (λ v. words.sext (length a) w (number v a)))
sext_wired set result a x w some le x_is over is =
    let over_x : IsOver set.variables x =
    subst (IsOver set.variables) (sym x_is) (All-get_or (IsOver set.variables) a (length a - 1) x (omega (arith, some)) over) in
    wired set result (a ++ replicate (w - length a) x) w 0 (λ v. words.sext (length a) w (number v a)) is
    (All-append (IsOver set.variables) a (replicate (w - length a) x) over (All-replicate (IsOver set.variables) (w - length a) x over_x))
    (extended_long a x w le)
    (λ v h. sext_is v a x w (truth v x) some le x_is refl)

pub concat_wired : {E : Type 0} (set : ClauseSet) (result : Result (Vec ℤ Global) E) (a b : List ℤ) (cost : ℕ) → All (IsOver set.variables) a
    → All (IsOver set.variables) b →
    IfOk result (λ out. out.items ≡ b ++ a)
    → IfOk result (λ out. MakesWord set set cost out.items (length a + length b) (λ v. words.concat (length b) (number v a) (number v b)))
concat_wired set result a b cost over_a over_b is =
    wired set result (b ++ a) (length a + length b) cost (λ v. words.concat (length b) (number v a) (number v b)) is
    (All-append (IsOver set.variables) b a over_b over_a)
    (length-append b a ∙ omega arith)
    (λ v h. number-append v b a ∙ (let e : number v b + 2 ^ length b * number v a ≡ number v a * 2 ^ length b + number v b = omega arith in e))

-- ---- within the cost

pub cheaper : (old new : ClauseSet) (m n : ℕ) (out : List ℤ) (w : ℕ) (f g : List Bool → ℕ) → MakesWord old new m out w f → m ≤ n
    → ((v : List Bool) → f v ≡ g v) → MakesWord old new n out w g
cheaper old new m n out w f g word le same = record {
  builds = record {
    variables = word.builds.variables;
    weaker = word.builds.weaker;
    extends = word.builds.extends;
    literals =
        omega (arith, word.builds.literals, le);
  };
  over = word.over;
  width = word.width;
  is = λ v h. word.is v h ∙ same v;
}

pub cheaper_result : {E : Type 0} (old new : ClauseSet) (m n : ℕ) (w : ℕ) (f g : List Bool → ℕ) (result : Result (Vec ℤ Global) E)
    → IfOk result (λ out. MakesWord old new m out.items w f) → m ≤ n → ((v : List Bool) → f v ≡ g v) →
    IfOk result (λ out. MakesWord old new n out.items w g)
cheaper_result old new m n w f g (Ok out) word le same = cheaper old new m n out.items w f g word le same
cheaper_result old new m n w f g (Err e) word le same = word

pub linear_cost : (k w : ℕ) → k ≤ 72 → 0 < w → k * w ≤ 400 * w - 130
linear_cost k w h some =
    let e : w * k ≤ w * 72 = mul-le-mul_left {m = k} {n = 72} w h in
    omega (arith, e)

pub square_cost : (k w : ℕ) → k ≤ 180 → 0 < w → k * w * w ≤ 400 * w * w - 130
square_cost k w h some =
    let e : w * w * k ≤ w * w * 180 = mul-le-mul_left {m = k} {n = 180} (w * w) h in
    let one : w * 1 ≤ w * w = mul-le-mul_left {m = 1} {n = w} w some in
    omega (arith, e, one)

pub shift_cost : (w : ℕ) → 0 < w → w ≤ 64 → 36 * w * (w + 2) ≤ 4000 * w - 130
shift_cost w some h =
    let e : w * w ≤ w * 64 = mul-le-mul_left {m = w} {n = 64} w h in
    omega (arith, e)

-- a literal as a word
pub flagged : {E : Type 0} (old new : ClauseSet) (m n : ℕ) (l : ℤ) (f : List Bool → Bool) (result : Result (Vec ℤ Global) E) → MakesBit old new m l f
    → m ≤ n → IfOk result (λ out. out.items ≡ l ∷ []) →
    IfOk result (λ out. MakesWord old new n out.items 1 (λ v. bit (f v)))
flagged old new m n l f (Ok out) made le is = record {
  builds = record {
    variables = made.builds.variables;
    weaker = made.builds.weaker;
    extends = made.builds.extends;
    literals =
        omega (arith, made.builds.literals, le);
  };
  over = subst (All (IsOver new.variables)) (sym is) (All-cons (IsOver new.variables) l [] made.over (All-nil (IsOver new.variables)));
  width = ap length is;
  is = λ v h. ap (number v) is ∙ (let e : bit (truth v l) + 2 * 0 ≡ bit (truth v l) = omega arith in e) ∙ ap bit (made.is v h);
}
flagged old new m n l f (Err e) made le is = is

-- ---- differences and quotients

difference_is : (w a b d : ℕ) (c : Bool) → d < 2 ^ w → b < 2 ^ w → d + b ≡ a + 2 ^ w * bit c → d ≡ words.sub w a b
difference_is w a b d true below h e =
    let s : a + (2 ^ w - b) ≡ d = omega arith in
    sym (sub-is w a b (omega (arith, h)) ∙ ap (λ n. n % 2 ^ w) s ∙ mod-eq_of_lt below)
difference_is w a b d false below h e =
    let s : a + (2 ^ w - b) ≡ 1 * 2 ^ w + d = omega arith in
    sym (sub-is w a b (omega (arith, h)) ∙ ap (λ n. n % 2 ^ w) s ∙ mod_low 1 w d below)

pub subtracted_made : (old new : ClauseSet) (a b out : List ℤ) (borrowed : ℤ) → length a ≡ length b → MakesDifference old new out borrowed a b →
    MakesWord old new (72 * length a) out (length a) (λ v. words.sub (length a) (number v a) (number v b))
subtracted_made old new a b out borrowed same made = record {
  builds = made.builds;
  over = made.over;
  width = made.width;
  is = λ v h.
      difference_is (length a) (number v a) (number v b) (number v out) (truth v borrowed)
      (subst (λ n. number v out < 2 ^ n) made.width (number-below v out)) (subst (λ n. number v b < 2 ^ n) (sym same) (number-below v b))
      (made.is v h);
}

positive : (n : ℕ) → (n ≡ 0 → ⊥) → 0 < n
positive zero h = absurd (h refl)
positive (suc n) h = omega arith

quotient_is : (a b q r w : ℕ) → IsDivided a b q r w → q ≡ words.udiv w a b
quotient_is a b q r w divided =
    elim (eqb_tells b 0) [
      | inl none ↦ let e = (divided.by_zero none.1).0 in (let t : q ≡ 2 ^ w - 1 = omega (arith, e) in t) ∙ sym (ap (λ c. cond c (2 ^ w - 1) (a / b)) none.0)
      | inr some ↦
          let whole = divided.whole (positive b some.1) in
          sym (div-mul-add q b r whole.1) ∙ ap (λ n. n / b) whole.0 ∙ sym (ap (λ c. cond c (2 ^ w - 1) (a / b)) some.0)
    ]

remainder_is : (a b q r w : ℕ) → IsDivided a b q r w → r ≡ words.urem a b
remainder_is a b q r w divided =
    elim (eqb_tells b 0) [
      | inl none ↦ (divided.by_zero none.1).1 ∙ sym (ap (λ c. cond c a (a % b)) none.0)
      | inr some ↦
          let whole = divided.whole (positive b some.1) in
          sym (mod-mul-add q b r whole.1) ∙ ap (λ n. n % b) whole.0 ∙ sym (ap (λ c. cond c a (a % b)) some.0)
    ]

all_of : (v : List Bool) (a : List ℤ) → number v (drop (length a - length a) a) ≡ number v a
all_of v a = ap (λ n. number v (drop n a)) (let e : length a - length a ≡ 0 = omega arith in e)

pub quotient_made : (old new : ClauseSet) (a b q r : List ℤ) (cost : ℕ) → Divides old new cost q r a b (length a)
    → MakesWord old new cost q (length a) (λ v. words.udiv (length a) (number v a) (number v b))
quotient_made old new a b q r cost divides = record {
  builds = divides.builds;
  over = divides.over_quotient;
  width = divides.width_quotient;
  is = λ v h. quotient_is (number v a) (number v b) (number v q) (number v r) (length a) (subst
      (λ n. IsDivided n (number v b) (number v q) (number v r) (length a)) (all_of v a) (divides.is v h));
}

pub remainder_made : (old new : ClauseSet) (a b q r : List ℤ) (cost : ℕ) → length a ≡ length b → Divides old new cost q r a b (length a)
    → MakesWord old new cost r (length a) (λ v. words.urem (number v a) (number v b))
remainder_made old new a b q r cost same divides = record {
  builds = divides.builds;
  over = divides.over_remainder;
  width = divides.width_remainder ∙ sym same;
  is = λ v h. remainder_is (number v a) (number v b) (number v q) (number v r) (length a) (subst
      (λ n. IsDivided n (number v b) (number v q) (number v r) (length a)) (all_of v a) (divides.is v h));
}

-- ---- shifts to the right

pub logical_made : {E : Type 0} (old new : ClauseSet) (a by : List ℤ) (f : ℤ) (cost : ℕ) (result : Result (Vec ℤ Global) E) → IsNet old → f ≡ negsuc 0
    → IfOk result (λ out. ShiftsRight old new cost out.items f a (λ v. number v by)) →
    IfOk result (λ out. MakesWord old new cost out.items (length a) (λ v. words.lshr (number v a) (number v by)))
logical_made old new a by f cost (Ok out) net f_is shifted = record {
  builds = shifted.builds;
  over = shifted.over;
  width = shifted.width;
  is = λ v h.
      let f_false : truth v f ≡ false = ap (truth v) f_is ∙ falsity_false old v net (shifted.builds.weaker v h) in
      subst (λ b. turned b (length a) (number v out.items) ≡ turned b (length a) (number v a) / 2 ^ number v by) f_false (shifted.is v h);
}
logical_made old new a by f cost (Err e) net f_is shifted = shifted

turned_twice : (w n m : ℕ) → n < 2 ^ w → 2 ^ w - 1 - n ≡ m → n ≡ 2 ^ w - 1 - m
turned_twice w n m h e = omega arith

arithmetic_is : (w a n o : ℕ) (b : Bool) → 0 < w → a < 2 ^ w → o < 2 ^ w → (b ≡ false → a < 2 ^ (w - 1)) → (b ≡ true → 2 ^ (w - 1) ≤ a)
    → turned b w o ≡ turned b w a / 2 ^ n → o ≡ words.ashr w a n
arithmetic_is w a n o true some below out_below low high e =
    let c = 2 ^ w - 1 - a in
    let less : c / 2 ^ n < 2 ^ w = omega (arith, shr_le c n) in
    let m : (c / 2 ^ n) % 2 ^ w ≡ c / 2 ^ n = mod-eq_of_lt less in
    let right : words.ashr w a n ≡ 2 ^ w - 1 - c / 2 ^ n = rw (signed_neg w a (high refl) below, m) refl in
    turned_twice w o (c / 2 ^ n) out_below e ∙ sym right
arithmetic_is w a n o false some below out_below low high e =
    let less : a / 2 ^ n < 2 ^ w = omega (arith, shr_le a n) in
    let right : words.ashr w a n ≡ a / 2 ^ n = rw (signed_pos w a (low refl)) (mod-eq_of_lt less) in
    e ∙ sym right

pub arithmetic_made : {E : Type 0} (old new : ClauseSet) (a by : List ℤ) (x : ℤ) (cost : ℕ) (result : Result (Vec ℤ Global) E) → 0 < length a
    → x ≡ get_or a (length a - 1) x → IfOk result (λ out. ShiftsRight old new cost out.items x a (λ v. number v by)) →
    IfOk result (λ out. MakesWord old new cost out.items (length a) (λ v. words.ashr (length a) (number v a) (number v by)))
arithmetic_made old new a by x cost (Ok out) some x_is shifted = record {
  builds = shifted.builds;
  over = shifted.over;
  width = shifted.width;
  is = λ v h.
      arithmetic_is (length a) (number v a) (number v by) (number v out.items) (truth v x) some (number-below v a)
      (subst (λ n. number v out.items < 2 ^ n) shifted.width (number-below v out.items))
      (low_where v a x some x_is) (high_where v a x some x_is) (shifted.is v h);
}
arithmetic_made old new a by x cost (Err e) some x_is shifted = shifted

-- ---- signed comparisons

-- with the highest bit turned, the number is the signed reading and half of the range
turned_cases : (h low a t : ℕ) (b c : Bool) → c ≡ not b → low < h → a ≡ low + h * bit b → t ≡ low + h * bit c → ((a < h) × (t ≡ a + h))
    ⊎ ((h ≤ a) × (t + h ≡ a))
turned_cases h low a t true c e l p q = let r = q ∙ ap (λ x. low + h * bit x) e in inr (omega arith, omega (arith, r))
turned_cases h low a t false c e l p q = let r = q ∙ ap (λ x. low + h * bit x) e in inl (omega arith, omega (arith, r))

turned_number : (v : List Bool) (a t : List ℤ) (n : ℕ) → 0 < length a → All (IsOver n) a → t ≡ take (length a - 1) a
    ++ neg_ℤ (get_or a (length a - 1) (pos 1)) ∷ [] →
    ((number v a < 2 ^ (length a - 1)) × (number v t ≡ number v a + 2 ^ (length a - 1))) ⊎
    ((2 ^ (length a - 1) ≤ number v a) × (number v t + 2 ^ (length a - 1) ≡ number v a))
turned_number v a t n some over is =
    let x : ℤ = get_or a (length a - 1) (pos 1) in
    let x_is : x ≡ get_or a (length a - 1) x = get_or_default a (length a - 1) (pos 1) x (omega (arith, some)) in
    let over_x : IsOver n x = All-get_or (IsOver n) a (length a - 1) (pos 1) (omega (arith, some)) over in
    let whole = top_bit v a x some x_is in
    let kept : length (take (length a - 1) a) ≡ length a - 1 = length-take-le (length a - 1) a (omega arith) in
    let turned_whole : number v t ≡ number v (take (length a - 1) a) + 2 ^ (length a - 1) * bit (truth v (neg_ℤ x)) =
    ap (number v) is ∙ number-push v (take (length a - 1) a) (neg_ℤ x) ∙ ap (λ k. number v (take (length a - 1) a) + 2 ^ k * bit (truth v (neg_ℤ x))) kept in
    turned_cases (2 ^ (length a - 1)) (number v (take (length a - 1) a)) (number v a) (number v t) (truth v x) (truth v (neg_ℤ x))
    (truth_neg v x over_x.0) (low_below v a (length a - 1) (omega arith)) whole turned_whole

same_less : (a b c d : ℕ) → (a < b → c < d) → (b ≤ a → d ≤ c) → nat_lt a b ≡ nat_lt c d
same_less a b c d f g = elim (cases_lt a b) [ inl l ↦ lt-ltb a b l ∙ sym (lt-ltb c d (f l)) | inr m ↦ le-ltb a b m ∙ sym (le-ltb c d (g m)) ]

signed_less : (w a b c d : ℕ) → 0 < w → a < 2 ^ w → b < 2 ^ w → ((a < 2 ^ (w - 1)) × (c ≡ a + 2 ^ (w - 1))) ⊎ ((2 ^ (w - 1) ≤ a) × (c + 2 ^ (w - 1) ≡ a)) →
    ((b < 2 ^ (w - 1)) × (d ≡ b + 2 ^ (w - 1))) ⊎ ((2 ^ (w - 1) ≤ b) × (d + 2 ^ (w - 1) ≡ b)) → int_lt (words.signed w a) (words.signed w b) ≡ nat_lt c d
signed_less w a b c d some p q (inl s) (inl t) = rw (signed_pos w a s.0, signed_pos w b t.0) (same_less a b c d (λ l. omega arith) (λ l. omega arith))
signed_less w a b c d some p q (inl s) (inr t) = rw (signed_pos w a s.0, signed_neg w b t.0 q) (sym (le-ltb c d (omega (arith, halves w some))))
signed_less w a b c d some p q (inr s) (inl t) = rw (signed_neg w a s.0 p, signed_pos w b t.0) (sym (lt-ltb c d (omega (arith, halves w some))))
signed_less w a b c d some p q (inr s) (inr t) = rw (signed_neg w a s.0 p, signed_neg w b t.0 q)
    (same_less (2 ^ w - 1 - b) (2 ^ w - 1 - a) c d (λ l. omega arith) (λ l. omega arith))

pub less_signed_made : {E : Type 0} (old new : ClauseSet) (a b s t : List ℤ) (result : Result ℤ E) → 0 < length a → length a ≡ length b
    → All (IsOver old.variables) a → All (IsOver old.variables) b →
    s ≡ take (length a - 1) a ++ neg_ℤ (get_or a (length a - 1) (pos 1)) ∷ [] → t ≡ take (length b - 1) b ++ neg_ℤ (get_or b (length b - 1) (pos 1))
    ∷ [] → length s ≡ length a →
    IfOk result (λ out. MakesBit old new (48 * length s) out (λ v. nat_lt (number v s) (number v t))) →
    IfOk result (λ out. MakesBit old new (48 * length a) out (λ v. int_lt (words.signed (length a) (number v a)) (words.signed (length a) (number v b))))
less_signed_made old new a b s t (Ok out) some same over_a over_b s_is t_is long made = record {
  builds = subst (λ n. Builds old new (48 * n)) long made.builds;
  over = made.over;
  is = λ v h.
      let some_b : 0 < length b = omega (arith, some, same) in
      made.is v h
      ∙ sym (signed_less (length a) (number v a) (number v b) (number v s) (number v t) some (number-below v a)
      (subst (λ n. number v b < 2 ^ n) (sym same) (number-below v b))
      (turned_number v a s old.variables some over_a s_is)
      (subst (λ n. ((number v b < 2 ^ (n - 1)) × (number v t ≡ number v b + 2 ^ (n - 1))) ⊎
      ((2 ^ (n - 1) ≤ number v b) × (number v t + 2 ^ (n - 1) ≡ number v b))) (sym same) (turned_number v b t old.variables some_b over_b t_is)));
}
less_signed_made old new a b s t (Err e) some same over_a over_b s_is t_is long made = made

pub turned_long : (a t : List ℤ) → 0 < length a → t ≡ take (length a - 1) a ++ neg_ℤ (get_or a (length a - 1) (pos 1)) ∷ [] → length t ≡ length a
turned_long a t some is =
    ap length is ∙ length-append (take (length a - 1) a) (neg_ℤ (get_or a (length a - 1) (pos 1)) ∷ [])
    ∙ omega (arith, some, length-take-le (length a - 1) a (omega arith))

-- ---- choices

bit_one : (b : Bool) (m n : ℕ) → cond b m n ≡ cond (nat_eq (bit b) 1) m n
bit_one true m n = refl
bit_one false m n = refl

pub chosen_result : {E : Type 0} (old new : ClauseSet) (c a b : List ℤ) (x : ℤ) (cost : ℕ) (result : Result (Vec ℤ Global) E) → length c ≡ 1
    → x ≡ get_or c 0 x → 36 * length a ≤ cost →
    IfOk result (λ out. MakesWord old new (36 * length a) out.items (length a) (λ v. cond (truth v x) (number v a) (number v b))) →
    IfOk result (λ out. MakesWord old new cost out.items (length a) (λ v. cond (nat_eq (number v c) 1) (number v a) (number v b)))
chosen_result old new [] a b x cost result long x_is le word = let none : ⊥ = omega (arith, long) in absurd none
chosen_result old new (y ∷ []) a b x cost result long x_is le word =
    cheaper_result old new (36 * length a) cost (length a) (λ v. cond (truth v x) (number v a) (number v b))
    (λ v. cond (nat_eq (number v (y ∷ [])) 1) (number v a) (number v b)) result word le
    (λ v.
    bit_one (truth v x) (number v a) (number v b)
    ∙ ap (λ n. cond (nat_eq n 1) (number v a) (number v b)) (ap (λ l. bit (truth v l)) x_is
    ∙ (let e : bit (truth v y) ≡ bit (truth v y) + 2 * 0 = omega arith in e)))
chosen_result old new (y ∷ z ∷ c) a b x cost result long x_is le word = let none : ⊥ = omega (arith, long) in absurd none
