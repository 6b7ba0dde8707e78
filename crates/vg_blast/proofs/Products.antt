-- Products and quotients, bit by bit.
use Rattle.std.proofs.Common.{◌≡◌, ℕ, suc, ◌+◌, ◌-◌, ◌*◌, ◌%◌, ◌^◌, ◌<◌, ◌≤◌, List, [], ◌∷◌, ◌++◌, length, take, drop, get_or, replicate, Bool, true}
use Rattle.std.proofs.Common.{false, cond, sym, ap, subst, ◌∙◌, inl, inr, arith, All, lt-ltb, le-ltb, length-drop, length-take-le, Result, Ok, Err}
use Rattle.std.proofs.Common.{Vec, Global}
use Rattle.std.specs.Prelude.{ℤ, neg_ℤ, negsuc, not, nat_lt, IfOk}
use Rattle.std.proofs.lemmas.Bool.{cases_lt}
use Rattle.std.proofs.lemmas.List.{length-replicate, take_all, drop_all}
use Rattle.std.proofs.lemmas.List.Elements.{All-nil, All-cons, All-replicate}
use Rattle.std.proofs.Math.Nat.{mod-eq_of_lt, add-mod, zero-mod}
use Rattle.std.proofs.Math.Pow.{pow_mono}
use Rattle.std.proofs.Math.Seq.{drop-cons}
use Rattle.vg_bits.specs.Words.{bit}
use Rattle.vg_cnf.specs.Clauses.{ClauseSet, IsOver}
use Rattle.vg_blast.specs.Circuits.{truth, number, Holds, IsNet, Builds, MakesWord}
use Rattle.vg_blast.specs.Adding.{MakesDifference}
use Rattle.vg_blast.specs.Dividing.{left_of, DividesStep, IsDivided, Divides}
use Rattle.vg_blast.proofs.Truths.{truth_neg}
use Rattle.vg_blast.proofs.Composing.{chained, nothing_built, all_over_later, over_negated}
use Rattle.vg_blast.proofs.Numbers.{number-append, number-take, number-more, number-below, number-zeros, pow_next, bit_below}
use Rattle.vg_blast.proofs.Shifts.{falsity_false, falsity_over, left_long, number_left}

-- ---- rows

pub row_made : (old new : ClauseSet) (b moved nothing out : List ℤ) (c f : ℤ) (d : ℕ) → IsNet old → f ≡ negsuc 0 → d ≤ length b
    → moved ≡ replicate d f ++ take (length b - d) b → nothing ≡ replicate (length b) f →
    MakesWord old new (36 * length moved) out (length moved) (λ v. cond (truth v c) (number v moved) (number v nothing)) →
    MakesWord old new (36 * length b) out (length b) (λ v. cond (truth v c) ((number v b * 2 ^ d) % 2 ^ length b) 0)
row_made old new b moved nothing out c f d net f_is le is none one =
    let long : length moved ≡ length b = ap length is ∙ left_long b f d le in
    record {
      builds = subst (λ n. Builds old new (36 * n)) long one.builds;
      over = one.over;
      width = one.width ∙ long;
      is = λ v h.
          let f_false : truth v f ≡ false = ap (truth v) f_is ∙ falsity_false old v net (one.builds.weaker v h) in
          one.is v h ∙ (λ j. cond (truth v c) ((ap (number v) is ∙ number_left v f b d le f_false) j)
          ((ap (number v) none ∙ number-zeros v f (length b) f_false) j));
    }

pub row_result : {E : Type 0} (old new : ClauseSet) (b moved nothing slice zeros : List ℤ) (c f : ℤ) (d : ℕ) (result : Result (Vec ℤ Global) E)
    → IsNet old → f ≡ negsuc 0 → d ≤ length b →
    moved ≡ replicate d f ++ take (length b - d) b → slice ≡ moved → nothing ≡ replicate (length b) f → zeros ≡ nothing →
    IfOk result (λ out. MakesWord old new (36 * length slice) out.items (length slice) (λ v. cond (truth v c) (number v slice) (number v zeros))) →
    IfOk result (λ out. MakesWord old new (36 * length b) out.items (length b) (λ v. cond (truth v c) ((number v b * 2 ^ d) % 2 ^ length b) 0))
row_result old new b moved nothing slice zeros c f d (Ok out) net f_is le is same none same_none one =
    row_made old new b slice zeros out.items c f d net f_is le (same ∙ is) (same_none ∙ none) one
row_result old new b moved nothing slice zeros c f d (Err e) net f_is le is same none same_none one = one

-- ---- products

times_more : (a p x b : ℕ) → a * b + x * (b * p) ≡ (a + p * x) * b
times_more a p x b = omega arith

row_is : (c : Bool) (r m : ℕ) → cond c (r % m) 0 ≡ (bit c * r) % m
row_is true r m = ap (λ n. n % m) (let e : r ≡ 1 * r = omega arith in e)
row_is false r m = sym (ap (λ n. n % m) (let e : 0 * r ≡ 0 = omega arith in e) ∙ zero-mod m)

product_step : (x : Bool) (a b p m : ℕ) → ((a * b) % m + cond x ((b * p) % m) 0) % m ≡ ((a + p * bit x) * b) % m
product_step x a b p m =
    ap (λ n. ((a * b) % m + n) % m) (row_is x (b * p) m) ∙ sym (add-mod (a * b) (bit x * (b * p)) m) ∙ ap (λ n. n % m) (times_more a p (bit x) b)

pub product_more : (old mid s new : ClauseSet) (a b product row next : List ℤ) (x : ℤ) (i w : ℕ) → i < length a → w ≡ length b → x ≡ get_or a i x →
    MakesWord old mid (108 * w * i) product w (λ v. (number v (take i a) * number v b) % 2 ^ w) →
    MakesWord mid s (36 * length b) row (length b) (λ v. cond (truth v x) ((number v b * 2 ^ i) % 2 ^ length b) 0) →
    MakesWord s new (72 * length product) next (length product) (λ v. (number v product + number v row) % 2 ^ length product) →
    MakesWord old new (108 * w * (i + 1)) next w (λ v. (number v (take (i + 1) a) * number v b) % 2 ^ w)
product_more old mid s new a b product row next x i w lt wide x_is so_far made last = record {
  builds = chained old mid new (108 * w * i) (108 * w) (108 * w * (i + 1)) so_far.builds
      (chained mid s new (36 * w) (72 * w) (108 * w) (subst (λ n. Builds mid s (36 * n)) (sym wide) made.builds)
      (subst (λ n. Builds s new (72 * n)) so_far.width last.builds) (omega arith)) (omega arith);
  over = last.over;
  width = last.width ∙ so_far.width;
  is = λ v h.
      let h2 = last.builds.weaker v h in
      let h1 = made.builds.weaker v h2 in
      last.is v h
      ∙ (λ j. (so_far.is v h1 j + made.is v h2 j) % 2 ^ so_far.width j)
      ∙ ap (λ n. ((number v (take i a) * number v b) % 2 ^ w + cond (truth v x) ((number v b * 2 ^ i) % 2 ^ n) 0) % 2 ^ w) (sym wide)
      ∙ product_step (truth v x) (number v (take i a)) (number v b) (2 ^ i) (2 ^ w)
      ∙ ap (λ n. (n * number v b) % 2 ^ w) (sym (number-more v a i x lt x_is));
}

pub product_none : (set : ClauseSet) (a b product : List ℤ) (f : ℤ) → IsNet set → f ≡ negsuc 0 → product ≡ replicate (length a) f →
    MakesWord set set (108 * length a * 0) product (length a) (λ v. (number v (take 0 a) * number v b) % 2 ^ length a)
product_none set a b product f net f_is is = record {
  builds = nothing_built set (108 * length a * 0);
  over = subst (All (IsOver set.variables)) (sym is) (All-replicate (IsOver set.variables) (length a) f (falsity_over set f net f_is));
  width = ap length is ∙ length-replicate (length a) f;
  is = λ v h.
      ap (number v) is ∙ number-zeros v f (length a) (ap (truth v) f_is ∙ falsity_false set v net h)
      ∙ sym (ap (λ n. n % 2 ^ length a) (let e : 0 * number v b ≡ 0 = omega arith in e) ∙ zero-mod (2 ^ length a));
}

pub product_made : (old new : ClauseSet) (a b product : List ℤ) (i : ℕ) → length a ≤ i → i ≤ length a →
    MakesWord old new (108 * length a * i) product (length a) (λ v. (number v (take i a) * number v b) % 2 ^ length a) →
    MakesWord old new (108 * length a * length a) product (length a) (λ v. (number v a * number v b) % 2 ^ length a)
product_made old new a b product i ge le word =
    let i_is : i ≡ length a = omega (arith, ge, le) in
    record {
      builds = subst (λ n. Builds old new (108 * length a * n)) i_is word.builds;
      over = word.over;
      width = word.width;
      is = λ v h. word.is v h ∙ ap (λ ls. (number v ls * number v b) % 2 ^ length a) (take_all i a ge);
    }

-- ---- one step of a division

borrowed_is : (borrowed : Bool) (x b d p : ℕ) → d < p → d + b ≡ x + p * bit borrowed → borrowed ≡ nat_lt x b
borrowed_is true x b d p h e = sym (lt-ltb x b (omega arith))
borrowed_is false x b d p h e = sym (le-ltb x b (omega arith))

left_is_of : (borrowed : Bool) (x b d p m : ℕ) → borrowed ≡ nat_lt x b → d + b ≡ x + p * bit borrowed → cond borrowed (x % m) (d % m) ≡ left_of x b % m
left_is_of true x b d p m e f = ap (λ c. cond c x (x - b) % m) e
left_is_of false x b d p m e f = ap (λ n. n % m) (let t : d ≡ x - b = omega arith in t) ∙ ap (λ c. cond c x (x - b) % m) e

widened : (v : List Bool) (divisor wider : List ℤ) (f : ℤ) → wider ≡ divisor ++ f ∷ [] → truth v f ≡ false → number v wider ≡ number v divisor
widened v divisor wider f is e =
    ap (number v) is ∙ number-append v divisor (f ∷ []) ∙ ap (λ b. number v divisor + 2 ^ length divisor * (bit b + 2 * 0)) e
    ∙ (let t : number v divisor + 2 ^ length divisor * (0 + 2 * 0) ≡ number v divisor = omega arith in t)

pub divide_step_made : (old mid new : ClauseSet) (remainder divisor longer wider rest kept taken left : List ℤ) (next borrowed fits f : ℤ) → IsNet old
    → f ≡ negsuc 0 → length remainder ≡ length divisor →
    longer ≡ next ∷ remainder → wider ≡ divisor ++ f ∷ [] → MakesDifference old mid rest borrowed longer wider → kept ≡ take (length remainder) longer
    → taken ≡ take (length remainder) rest →
    MakesWord mid new (36 * length kept) left (length kept) (λ v. cond (truth v borrowed) (number v kept) (number v taken)) → fits ≡ neg_ℤ borrowed →
    DividesStep old new fits left remainder next divisor
divide_step_made old mid new remainder divisor longer wider rest kept taken left next borrowed fits f net f_is same longer_is wider_is difference
    kept_is taken_is last fits_is =
    let w = length divisor in
    let long : length longer ≡ w + 1 = ap length longer_is ∙ omega (arith, same) in
    let rest_long : length rest ≡ w + 1 = difference.width ∙ long in
    let kept_long : length kept ≡ w = ap length kept_is ∙ length-take-le (length remainder) longer (omega (arith, long, same)) ∙ same in
    let borrowed_at : (v : List Bool) → Holds v mid → truth v borrowed ≡ nat_lt (bit (truth v next) + 2 * number v remainder) (number v divisor) =
    λ v h.
    let f_false : truth v f ≡ false = ap (truth v) f_is ∙ falsity_false old v net (difference.builds.weaker v h) in
    let wide : number v wider ≡ number v divisor = widened v divisor wider f wider_is f_false in
    let below : number v rest < 2 ^ (w + 1) = subst (λ n. number v rest < 2 ^ n) rest_long (number-below v rest) in
    borrowed_is (truth v borrowed) (bit (truth v next) + 2 * number v remainder) (number v divisor) (number v rest) (2 ^ (w + 1)) below
    ((λ j. number v rest + sym wide j) ∙ difference.is v h ∙ (λ j. number v (longer_is j) + 2 ^ long j * bit (truth v borrowed))) in
    record {
      builds = chained old mid new (72 * (w + 1)) (36 * w) (108 * w + 72) (subst (λ n. Builds old mid (72 * n)) long difference.builds)
          (subst (λ n. Builds mid new (36 * n)) kept_long last.builds) (omega arith);
      over_fits =
          let there : IsOver new.variables borrowed = omega (arith, difference.over_borrowed, last.builds.variables) in
          subst (IsOver new.variables) (sym fits_is) (over_negated new.variables borrowed there);
      over = last.over;
      width = last.width ∙ kept_long;
      fits_is = λ v h. ap (truth v) fits_is ∙ truth_neg v borrowed difference.over_borrowed.0 ∙ ap not (borrowed_at v (last.builds.weaker v h));
      left_is = λ v h.
          let h1 = last.builds.weaker v h in
          let f_false : truth v f ≡ false = ap (truth v) f_is ∙ falsity_false old v net (difference.builds.weaker v h1) in
          let wide : number v wider ≡ number v divisor = widened v divisor wider f wider_is f_false in
          let x = bit (truth v next) + 2 * number v remainder in
          let low : number v kept ≡ x % 2 ^ w = ap (number v) kept_is ∙ number-take v longer (length remainder) (omega (arith, long, same))
          ∙ (λ j. number v (longer_is j) % 2 ^ same j) in
          let high : number v taken ≡ number v rest % 2 ^ w = ap (number v) taken_is ∙ number-take v rest (length remainder)
          (omega (arith, rest_long, same)) ∙ ap (λ n. number v rest % 2 ^ n) same in
          last.is v h
          ∙ (λ j. cond (truth v borrowed) (low j) (high j))
          ∙ left_is_of (truth v borrowed) x (number v divisor) (number v rest) (2 ^ (w + 1)) (2 ^ w) (borrowed_at v h1)
          ((λ j. number v rest + sym wide j) ∙ difference.is v h1 ∙ (λ j. number v (longer_is j) + 2 ^ long j * bit (truth v borrowed)));
    }

-- ---- division

unfit : (q b r a x : ℕ) → q * b + r ≡ a → (0 + 2 * q) * b + (x + 2 * r) ≡ x + 2 * a
unfit q b r a x e = omega arith

fit : (q b r a x : ℕ) → q * b + r ≡ a → b ≤ x + 2 * r → (1 + 2 * q) * b + (x + 2 * r - b) ≡ x + 2 * a
fit q b r a x e h = omega arith

whole_step : (x : Bool) (a b q r m : ℕ) → q * b + r ≡ a → r < b → b < m → (bit (not (nat_lt (bit x + 2 * r) b)) + 2 * q) * b + left_of (bit x + 2 * r)
    b % m ≡ bit x + 2 * a
whole_step x a b q r m e h k =
    let z = bit x + 2 * r in
    let x_below = bit_below x in
    elim (cases_lt z b) [
      | inl less ↦
          let t = lt-ltb z b less in
          (λ j. (bit (not (t j)) + 2 * q) * b + (cond (t j) z (z - b)) % m)
          ∙ ap (λ n. (0 + 2 * q) * b + n) (mod-eq_of_lt (omega arith))
          ∙ unfit q b r a (bit x) e
      | inr more ↦
          let t = le-ltb z b more in
          (λ j. (bit (not (t j)) + 2 * q) * b + (cond (t j) z (z - b)) % m)
          ∙ ap (λ n. (1 + 2 * q) * b + n) (mod-eq_of_lt (omega arith))
          ∙ fit q b r a (bit x) e more
    ]

remainder_step : (x : Bool) (b r m : ℕ) → r < b → b < m → left_of (bit x + 2 * r) b % m < b
remainder_step x b r m h k =
    let z = bit x + 2 * r in
    let x_below = bit_below x in
    elim (cases_lt z b) [
      | inl less ↦ subst (λ n. n < b) (sym (ap (λ c. cond c z (z - b) % m) (lt-ltb z b less) ∙ mod-eq_of_lt (omega arith))) less
      | inr more ↦ subst (λ n. n < b) (sym (ap (λ c. cond c z (z - b) % m) (le-ltb z b more) ∙ mod-eq_of_lt (omega arith))) (omega arith)
    ]

zero_step : (z b m : ℕ) → b ≡ 0 → z < m → left_of z b % m ≡ z
zero_step z b m e h = ap (λ c. cond c z (z - b) % m) (le-ltb z b (omega arith)) ∙ ap (λ n. n % m) (let t : z - b ≡ z = omega arith in t) ∙ mod-eq_of_lt h

zero_fits : (z b q p : ℕ) → b ≡ 0 → q + 1 ≡ p → bit (not (nat_lt z b)) + 2 * q + 1 ≡ 2 * p
zero_fits z b q p e f = ap (λ c. bit (not c) + 2 * q + 1) (le-ltb z b (omega arith)) ∙ (let t : 1 + 2 * q + 1 ≡ 2 * p = omega arith in t)

divided_step : (x : Bool) (a b q r i m : ℕ) → IsDivided a b q r i → b < m → bit x + 2 * a < m →
    IsDivided (bit x + 2 * a) b (bit (not (nat_lt (bit x + 2 * r) b)) + 2 * q) (left_of (bit x + 2 * r) b % m) (i + 1)
divided_step x a b q r i m divided h k = record {
  whole = λ some.
      let before = divided.whole some in
      (whole_step x a b q r m before.0 before.1 h, remainder_step x b r m before.1 h);
  by_zero = λ none.
      let before = divided.by_zero none in (
        zero_fits (bit x + 2 * r) b q (2 ^ i) none before.0 ∙ sym (pow_next i),
        zero_step (bit x + 2 * r) b m none (subst (λ n. bit x + 2 * n < m) (sym before.1) k) ∙ ap (λ n. bit x + 2 * n) before.1,
      );
}

next_bit : (v : List Bool) (a : List ℤ) (at rest : ℕ) (x : ℤ) → at < length a → rest ≡ at + 1 → x ≡ get_or a at x
    → number v (drop at a) ≡ bit (truth v x) + 2 * number v (drop rest a)
next_bit v a at rest x h e is =
    ap (number v) (drop-cons a at x h)
    ∙ (λ j. bit (truth v (sym is j)) + 2 * number v (drop (suc at) a))
    ∙ ap (λ n. bit (truth v x) + 2 * number v (drop n a)) (let t : suc at ≡ rest = omega arith in t)

high_below : (v : List Bool) (a : List ℤ) (at : ℕ) → number v (drop at a) < 2 ^ length a
high_below v a at =
    let below = number-below v (drop at a) in
    let le : 2 ^ length (drop at a) ≤ 2 ^ length a = pow_mono (omega (arith, length-drop at a)) in
    omega (arith, below, le)

cheaper : (old new : ClauseSet) (n w : ℕ) {i : ℕ} → n ≡ w → i < w → Builds old new (108 * n + 72) → Builds old new (180 * w)
cheaper old new n w e h builds = record {
  variables = builds.variables;
  weaker = builds.weaker;
  extends = builds.extends;
  literals =
      omega (arith, builds.literals, e, h);
}

pub divide_more : (old mid new : ClauseSet) (a b quotient remainder left more : List ℤ) (x fits : ℤ) (i at : ℕ) → i < length a → at ≡ length a - 1 - i
    → length a ≡ length b → x ≡ get_or a at x →
    Divides old mid (180 * length a * i) quotient remainder a b i → DividesStep mid new fits left remainder x b → more ≡ fits ∷ quotient →
    Divides old new (180 * length a * (i + 1)) more left a b (i + 1)
divide_more old mid new a b quotient remainder left more x fits i at lt at_is same x_is so_far one more_is =
    let rest_is : length a - i ≡ at + 1 = omega (arith, lt, at_is) in
    let here : length a - (i + 1) ≡ at = omega (arith, lt, at_is) in
    record {
      builds = chained old mid new (180 * length a * i) (180 * length a) (180 * length a * (i + 1)) so_far.builds
          (cheaper mid new (length b) (length a) (sym same) lt one.builds) (omega arith);
      over_quotient = subst (All (IsOver new.variables)) (sym more_is) (All-cons (IsOver new.variables) fits quotient one.over_fits
          (all_over_later mid new (108 * length b + 72) quotient one.builds so_far.over_quotient));
      over_remainder = one.over;
      width_quotient = ap length more_is ∙ omega (arith, so_far.width_quotient);
      width_remainder = one.width;
      is = λ v h.
          let before : IsDivided (number v (drop (length a - i) a)) (number v b) (number v quotient) (number v remainder) i =
          so_far.is v (one.builds.weaker v h) in
          let longer : number v (drop (length a - (i + 1)) a) ≡ bit (truth v x) + 2 * number v (drop (length a - i) a) =
          ap (λ n. number v (drop n a)) here ∙ next_bit v a at (length a - i) x (omega (arith, lt, at_is)) rest_is x_is in
          let b_below : number v b < 2 ^ length b = number-below v b in
          let a_below : bit (truth v x) + 2 * number v (drop (length a - i) a) < 2 ^ length b =
          subst (λ n. n < 2 ^ length b) longer (subst (λ n. number v (drop (length a - (i + 1)) a) < 2 ^ n) same (high_below v a (length a - (i + 1)))) in
          let stepped = divided_step (truth v x) (number v (drop (length a - i) a)) (number v b) (number v quotient) (number v remainder) i
          (2 ^ length b) before b_below a_below in
          let q_is : bit (not (nat_lt (bit (truth v x) + 2 * number v remainder) (number v b))) + 2 * number v quotient ≡ number v more =
          sym (ap (number v) more_is ∙ ap (λ t. bit t + 2 * number v quotient) (one.fits_is v h)) in
          subst (λ n. IsDivided n (number v b) (number v more) (number v left) (i + 1)) (sym longer)
          (subst (λ n. IsDivided (bit (truth v x) + 2 * number v (drop (length a - i) a)) (number v b) n (number v left) (i + 1)) q_is
          (subst (λ n. IsDivided (bit (truth v x) + 2 * number v (drop (length a - i) a)) (number v b)
          (bit (not (nat_lt (bit (truth v x) + 2 * number v remainder) (number v b))) + 2 * number v quotient) n (i + 1)) (sym (one.left_is v h))
          stepped));
    }

pub divide_none : (set : ClauseSet) (a b quotient remainder : List ℤ) (f : ℤ) → IsNet set → f ≡ negsuc 0 → length a ≡ length b → quotient ≡ []
    → remainder ≡ replicate (length a) f →
    Divides set set (180 * length a * 0) quotient remainder a b 0
divide_none set a b quotient remainder f net f_is same q_is r_is = record {
  builds = nothing_built set (180 * length a * 0);
  over_quotient = subst (All (IsOver set.variables)) (sym q_is) (All-nil (IsOver set.variables));
  over_remainder = subst (All (IsOver set.variables)) (sym r_is) (All-replicate (IsOver set.variables) (length a) f (falsity_over set f net f_is));
  width_quotient = ap length q_is;
  width_remainder = ap length r_is ∙ length-replicate (length a) f ∙ same;
  is = λ v h.
      let a_is : number v (drop (length a - 0) a) ≡ 0 = ap (number v) (drop_all (length a - 0) a (omega arith)) in
      let q_zero : number v quotient ≡ 0 = ap (number v) q_is in
      let r_zero : number v remainder ≡ 0 = ap (number v) r_is ∙ number-zeros v f (length a) (ap (truth v) f_is ∙ falsity_false set v net h) in
      record {
        whole = λ some. (
          (λ j. q_zero j * number v b + r_zero j) ∙ (let t : 0 * number v b + 0 ≡ 0 = omega arith in t) ∙ sym a_is,
          subst (λ n. n < number v b) (sym r_zero) some,
        );
        by_zero = λ none. (ap (λ n. n + 1) q_zero, r_zero ∙ sym a_is);
      };
}
