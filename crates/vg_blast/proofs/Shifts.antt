-- Shifts in steps.
use Rattle.std.proofs.Common.{◌≡◌, ℕ, zero, suc, ◌+◌, ◌-◌, ◌*◌, ◌/◌, ◌%◌, ◌^◌, ◌<◌, ◌≤◌, List, ◌++◌, length, take, drop, get_or, replicate, Bool}
use Rattle.std.proofs.Common.{true, false, cond, refl, sym, ap, subst, ◌∙◌, inl, inr, arith, All, length-append, length-drop, length-take-le, Result}
use Rattle.std.proofs.Common.{Ok, Err, Vec, Global}
use Rattle.std.specs.Prelude.{ℤ, neg_ℤ, negsuc, not, ◌||◌, nat_eq, IfOk}
use Rattle.std.proofs.lemmas.Bool.{ne_eqb}
use Rattle.std.proofs.lemmas.Bool.Decides.{eqb_tells}
use Rattle.std.proofs.lemmas.List.{take-append-drop, length-replicate}
use Rattle.std.proofs.lemmas.List.Elements.{All-append, All-replicate, All-take, All-drop}
use Rattle.std.proofs.lemmas.Nat.{mul-mod, pow_pos, pow-add, mod_low, mod_below, shr_high, shr_split, shr-shr, div_below, mul-add-lt}
use Rattle.std.proofs.Math.Nat.{mod-mod, mod-eq_of_lt, div-one, div-eq_of_lt, mul-le-mul_left, mul_assoc}
use Rattle.std.proofs.Math.Pow.{pow_mono}
use Rattle.vg_bits.specs.Words.{bit}
use Rattle.vg_bits.proofs.Masks.{shifted_off}
use Rattle.vg_cnf.specs.Clauses.{ClauseSet, IsOver}
use Rattle.vg_blast.specs.Circuits.{truth, number, Holds, IsNet, Builds, MakesBit, MakesWord}
use Rattle.vg_blast.specs.Shifting.{turned, AreSteps, ShiftsRight}
use Rattle.vg_blast.proofs.Truths.{truth_neg}
use Rattle.vg_blast.proofs.Composing.{chained, nothing_built}
use Rattle.vg_blast.proofs.Numbers.{number-append, number-take, number-drop, number-more, number-below, number-zeros, number-ones, pow_more}

-- ---- the false literal

pub falsity_false : (set : ClauseSet) (v : List Bool) → IsNet set → Holds v set → truth v (negsuc 0) ≡ false
falsity_false set v net h = ap not (net.constant v h)

-- ---- powers of two

pub pow_split : (w d : ℕ) → d ≤ w → 2 ^ w ≡ 2 ^ (w - d) * 2 ^ d
pow_split w d h = let e : w ≡ (w - d) + d = omega arith in ap (λ n. 2 ^ n) e ∙ pow-add 2 (w - d) d

regrouped : (q m r p : ℕ) → (q * m + r) * p ≡ q * (m * p) + r * p
regrouped q m r p = omega arith

-- what is moved out at the top is lost
pub low_moved : (w d m : ℕ) → d ≤ w → 2 ^ d * (m % 2 ^ (w - d)) ≡ (m * 2 ^ d) % 2 ^ w
low_moved w d m h =
    let q = m / 2 ^ (w - d) in
    let r = m % 2 ^ (w - d) in
    let r_below : r < 2 ^ (w - d) = mod_below m (2 ^ (w - d)) (pow_pos (w - d)) in
    let split : m ≡ q * 2 ^ (w - d) + r = sym (shr_split m (w - d)) in
    let moved : m * 2 ^ d ≡ q * 2 ^ w + r * 2 ^ d = ap (λ n. n * 2 ^ d) split ∙ regrouped q (2 ^ (w - d)) r (2 ^ d)
    ∙ ap (λ n. q * n + r * 2 ^ d) (sym (pow_split w d h)) in
    let below : r * 2 ^ d < 2 ^ w =
    subst (λ n. r * 2 ^ d < n) (sym (pow_split w d h)) (omega (arith, mul-add-lt r (2 ^ d) 0 (2 ^ (w - d)) r_below (pow_pos d))) in
    let flipped : 2 ^ d * r ≡ r * 2 ^ d = omega arith in
    flipped ∙ sym (ap (λ n. n % 2 ^ w) moved ∙ mod_low q w (r * 2 ^ d) below)

-- ---- what is moved is over the same variables, and as long

pub left_long : (m : List ℤ) (f : ℤ) (d : ℕ) → d ≤ length m → length (replicate d f ++ take (length m - d) m) ≡ length m
left_long m f d h = length-append (replicate d f) (take (length m - d) m) ∙ omega (
  arith,
  length-replicate d f,
  length-take-le (length m - d) m (omega arith),
  h,
)

pub right_long : (m : List ℤ) (f : ℤ) (d : ℕ) → d ≤ length m → length (drop d m ++ replicate d f) ≡ length m
right_long m f d h = length-append (drop d m) (replicate d f) ∙ omega (arith, length-replicate d f, length-drop d m, h)

pub over_left : (n : ℕ) (m : List ℤ) (f : ℤ) (d : ℕ) → All (IsOver n) m → IsOver n f → All (IsOver n) (replicate d f ++ take (length m - d) m)
over_left n m f d over over_f = All-append (IsOver n) (replicate d f) (take (length m - d) m) (All-replicate (IsOver n) d f over_f)
    (All-take (IsOver n) (length m - d) m over)

pub over_right : (n : ℕ) (m : List ℤ) (f : ℤ) (d : ℕ) → All (IsOver n) m → IsOver n f → All (IsOver n) (drop d m ++ replicate d f)
over_right n m f d over over_f = All-append (IsOver n) (drop d m) (replicate d f) (All-drop (IsOver n) d m over) (All-replicate (IsOver n) d f over_f)

pub falsity_over : (set : ClauseSet) (f : ℤ) → IsNet set → f ≡ negsuc 0 → IsOver set.variables f
falsity_over set f net is = subst (IsOver set.variables) (sym is) (omega arith, omega (arith, net.some))

pub number_left : (v : List Bool) (l : ℤ) (m : List ℤ) (d : ℕ) → d ≤ length m → truth v l ≡ false
    → number v (replicate d l ++ take (length m - d) m) ≡ (number v m * 2 ^ d) % 2 ^ length m
number_left v l m d h f =
    number-append v (replicate d l) (take (length m - d) m)
    ∙ (λ j. number-zeros v l d f j + 2 ^ length-replicate d l j * number-take v m (length m - d) (omega arith) j)
    ∙ (let e : 0 + 2 ^ d * (number v m % 2 ^ (length m - d)) ≡ 2 ^ d * (number v m % 2 ^ (length m - d)) = omega arith in e)
    ∙ low_moved (length m) d (number v m) h

-- ---- steps to the left

mod_times : (a p m : ℕ) → ((a % m) * p) % m ≡ (a * p) % m
mod_times a p m = mul-mod (a % m) p m ∙ ap (λ n. (n * (p % m)) % m) (mod-mod a m) ∙ sym (mul-mod a p m)

left_step : (c : Bool) (a n k w m : ℕ) → m ≡ (a * 2 ^ n) % 2 ^ w → cond c ((m * 2 ^ (2 ^ k)) % 2 ^ w) m ≡ (a * 2 ^ (n + 2 ^ k * bit c)) % 2 ^ w
left_step true a n k w m e =
    ap (λ x. (x * 2 ^ (2 ^ k)) % 2 ^ w) e
    ∙ mod_times (a * 2 ^ n) (2 ^ (2 ^ k)) (2 ^ w)
    ∙ ap (λ x. x % 2 ^ w) (mul_assoc a (2 ^ n) (2 ^ (2 ^ k)) ∙ ap (λ x. a * x) (sym (pow-add 2 n (2 ^ k))))
    ∙ ap (λ x. (a * 2 ^ (n + x)) % 2 ^ w) (let t : 2 ^ k ≡ 2 ^ k * 1 = omega arith in t)
left_step false a n k w m e = e ∙ ap (λ x. (a * 2 ^ x) % 2 ^ w) (let t : n ≡ n + 2 ^ k * 0 = omega arith in t)

-- one step
pub stepped_left : (old new : ClauseSet) (moved further chosen : List ℤ) (c f : ℤ) (d : ℕ) → IsNet old → f ≡ negsuc 0 → d ≤ length moved
    → further ≡ replicate d f ++ take (length moved - d) moved →
    MakesWord old new (36 * length further) chosen (length further) (λ v. cond (truth v c) (number v further) (number v moved)) →
    MakesWord old new (36 * length moved) chosen (length moved) (λ v. cond (truth v c) ((number v moved * 2 ^ d) % 2 ^ length moved) (number v moved))
stepped_left old new moved further chosen c f d net f_is le is one =
    let long : length further ≡ length moved = ap length is ∙ left_long moved f d le in
    record {
      builds = subst (λ n. Builds old new (36 * n)) long one.builds;
      over = one.over;
      width = one.width ∙ long;
      is = λ v h.
          let f_false : truth v f ≡ false = ap (truth v) f_is ∙ falsity_false old v net (one.builds.weaker v h) in
          one.is v h ∙ ap (λ n. cond (truth v c) n (number v moved)) (ap (number v) is ∙ number_left v f moved d le f_false);
    }

pub left_more : (old mid new : ClauseSet) (a by moved chosen : List ℤ) (c : ℤ) (k w d : ℕ) → d ≡ 2 ^ k → k < length by → c ≡ get_or by k c →
    MakesWord old mid (36 * w * k) moved w (λ v. (number v a * 2 ^ number v (take k by)) % 2 ^ w) →
    MakesWord mid new (36 * length moved) chosen (length moved) (λ v. cond (truth v c) ((number v moved * 2 ^ d) % 2 ^ length moved) (number v moved)) →
    MakesWord old new (36 * w * (k + 1)) chosen w (λ v. (number v a * 2 ^ number v (take (k + 1) by)) % 2 ^ w)
left_more old mid new a by moved chosen c k w d d_is lt c_is word one = record {
  builds = chained old mid new (36 * w * k) (36 * w) (36 * w * (k + 1)) word.builds (subst (λ n. Builds mid new (36 * n)) word.width one.builds) (omega arith);
  over = one.over;
  width = one.width ∙ word.width;
  is = λ v h.
      one.is v h
      ∙ (λ j. cond (truth v c) ((number v moved * 2 ^ (d_is j)) % 2 ^ (word.width j)) (number v moved))
      ∙ left_step (truth v c) (number v a) (number v (take k by)) k w (number v moved) (word.is v (one.builds.weaker v h))
      ∙ ap (λ n. (number v a * 2 ^ n) % 2 ^ w) (sym (number-more v by k c lt c_is));
}

pub left_none : (set : ClauseSet) (a by moved : List ℤ) → All (IsOver set.variables) a → moved ≡ a
    → MakesWord set set (36 * length a * 0) moved (length a) (λ v. (number v a * 2 ^ number v (take 0 by)) % 2 ^ length a)
left_none set a by moved over is = record {
  builds = nothing_built set (36 * length a * 0);
  over = subst (All (IsOver set.variables)) (sym is) over;
  width = ap length is;
  is = λ v h. ap (number v) is ∙ sym (mod-eq_of_lt (number-below v a)) ∙ ap (λ n. n % 2 ^ length a) (let e : number v a ≡ number v a * 1 = omega arith in e);
}

-- ---- past the width

-- the whole number of places, by its low and its high bits
halves_of : (v : List Bool) (by : List ℤ) (s : ℕ) → s ≤ length by → number v by ≡ number v (take s by) + 2 ^ s * number v (drop s by)
halves_of v by s h =
    ap (number v) (sym (take-append-drop s by)) ∙ number-append v (take s by) (drop s by) ∙ ap
    (λ n. number v (take s by) + 2 ^ n * number v (drop s by)) (length-take-le s by h)

positive : (n : ℕ) → (n ≡ 0 → ⊥) → 0 < n
positive zero h = absurd (h refl)
positive (suc n) h = omega arith

far_off : (s w low high : ℕ) → w ≤ 2 ^ s → 0 < high → w ≤ low + 2 ^ s * high
far_off s w low high h some = omega (arith, mul-le-mul_left {m = 1} {n = high} (2 ^ s) some, h)

left_last : (a low high s w m zeros : ℕ) → w ≤ 2 ^ s → m ≡ (a * 2 ^ low) % 2 ^ w → zeros ≡ 0
    → cond (nat_eq high 0) m zeros ≡ (a * 2 ^ (low + 2 ^ s * high)) % 2 ^ w
left_last a low high s w m zeros h e z =
    elim (eqb_tells high 0) [
      | inl none ↦
          ap (λ b. cond b m zeros) none.0 ∙ e
          ∙ ap (λ n. (a * 2 ^ n) % 2 ^ w) (let t : low ≡ low + 2 ^ s * 0 = omega arith in t ∙ ap (λ n. low + 2 ^ s * n) (sym none.1))
      | inr some ↦
          ap (λ b. cond b m zeros) some.0 ∙ z
          ∙ shifted_off w a (low + 2 ^ s * high) (far_off s w low high h (positive high some.1))
    ]

past_cost : (w s : ℕ) → s ≤ w → 36 * w * s + (12 * (w - s) + 36 * w) ≤ 36 * w * (w + 2)
past_cost w s h = let e : w * s ≤ w * w = mul-le-mul_left {m = s} {n = w} w h in omega (arith, e)

not_chosen : (p : Bool) (q : Bool) (m n : ℕ) → p ≡ not (not q) → cond p m n ≡ cond q m n
not_chosen p true m n e = ap (λ b. cond b m n) e
not_chosen p false m n e = ap (λ b. cond b m n) e

-- the word or the filling
pub past_made : (old mid new : ClauseSet) (moved far filled out : List ℤ) (past turned_past f : ℤ) → turned_past ≡ neg_ℤ past
    → filled ≡ replicate (length moved) f →
    MakesBit old mid (12 * length far) past (λ v. not (nat_eq (number v far) 0)) →
    MakesWord mid new (36 * length moved) out (length moved) (λ v. cond (truth v turned_past) (number v moved) (number v filled)) →
    MakesWord old new (12 * length far + 36 * length moved) out (length moved) (λ v. cond (nat_eq (number v far) 0) (number v moved)
    (number v (replicate (length moved) f)))
past_made old mid new moved far filled out past turned_past f is filled_is any last = record {
  builds = chained old mid new (12 * length far) (36 * length moved) (12 * length far + 36 * length moved) any.builds last.builds (omega arith);
  over = last.over;
  width = last.width;
  is = λ v h.
      let past_is = any.is v (last.builds.weaker v h) in
      last.is v h
      ∙ not_chosen (truth v turned_past) (nat_eq (number v far) 0) (number v moved) (number v filled)
      (ap (truth v) is ∙ truth_neg v past any.over.0 ∙ ap not past_is)
      ∙ ap (λ ls. cond (nat_eq (number v far) 0) (number v moved) (number v ls)) filled_is;
}

pub left_made : (old mid new : ClauseSet) (a by moved far out : List ℤ) (f : ℤ) (k s w : ℕ) → IsNet mid → f ≡ negsuc 0 → AreSteps w s → w ≡ length a
    → length a ≡ length by → s ≤ k → k ≤ s →
    MakesWord old mid (36 * w * k) moved w (λ v. (number v a * 2 ^ number v (take k by)) % 2 ^ w) → far ≡ drop s by →
    MakesWord mid new (12 * length far + 36 * length moved) out (length moved) (λ v. cond (nat_eq (number v far) 0) (number v moved)
    (number v (replicate (length moved) f))) →
    MakesWord old new (36 * w * (w + 2)) out w (λ v. (number v a * 2 ^ number v by) % 2 ^ w)
left_made old mid new a by moved far out f k s w net f_is steps wide same ge le word far_is last =
    let k_is : k ≡ s = omega arith in
    let fits : s ≤ length by = omega (arith, steps.within, wide, same) in
    let far_long : length far ≡ w - s = ap length far_is ∙ length-drop s by ∙ omega (arith, wide, same) in
    record {
      builds = chained old mid new (36 * w * s) (12 * (w - s) + 36 * w) (36 * w * (w + 2)) (subst (λ n. Builds old mid (36 * w * n)) k_is word.builds)
          (subst (λ n. Builds mid new (12 * (w - s) + 36 * n)) word.width (subst (λ n. Builds mid new (12 * n + 36 * length moved)) far_long
          last.builds)) (past_cost w s steps.within);
      over = last.over;
      width = last.width ∙ word.width;
      is = λ v h.
          let h1 = last.builds.weaker v h in
          let f_false : truth v f ≡ false = ap (truth v) f_is ∙ falsity_false mid v net h1 in
          let m_is : number v moved ≡ (number v a * 2 ^ number v (take s by)) % 2 ^ w = word.is v h1
          ∙ ap (λ n. (number v a * 2 ^ number v (take n by)) % 2 ^ w) k_is in
          last.is v h
          ∙ ap (λ ls. cond (nat_eq (number v ls) 0) (number v moved) (number v (replicate (length moved) f))) far_is
          ∙ left_last (number v a) (number v (take s by)) (number v (drop s by)) s w (number v moved) (number v (replicate (length moved) f))
          steps.enough m_is (number-zeros v f (length moved) f_false)
          ∙ ap (λ n. (number v a * 2 ^ n) % 2 ^ w) (sym (halves_of v by s fits));
    }

-- ---- to the right

pub turned_below : (b : Bool) (w n : ℕ) → n < 2 ^ w → turned b w n < 2 ^ w
turned_below true w n h = omega arith
turned_below false w n h = h

complement_at : (q d m r : ℕ) → r < m → (q + 1 + d) * m - 1 - (q * m + r) ≡ d * m + (m - 1 - r)
complement_at q d m r h = omega arith

high_ones : (q d z : ℕ) → (q + 1 + d) * (z + 1) - 1 - (q + (q + 1 + d) * z) ≡ d
high_ones q d z = omega arith

turned_moved : (w d m z : ℕ) → d ≤ w → m < 2 ^ w → z + 1 ≡ 2 ^ d → 2 ^ w - 1 - (m / 2 ^ d + 2 ^ (w - d) * z) ≡ (2 ^ w - 1 - m) / 2 ^ d
turned_moved w d m z h below ones =
    let q = m / 2 ^ d in
    let r = m % 2 ^ d in
    let c = 2 ^ (w - d) - 1 - q in
    let r_below : r < 2 ^ d = mod_below m (2 ^ d) (pow_pos d) in
    let q_below : q < 2 ^ (w - d) = div_below m (2 ^ d) (2 ^ (w - d)) (pow_pos d) (subst (λ n. m < n) (pow_split w d h) below) in
    let p_is : 2 ^ (w - d) ≡ q + 1 + c = omega arith in
    let m_is : m ≡ q * 2 ^ d + r = sym (shr_split m d) in
    let whole : 2 ^ w ≡ (q + 1 + c) * 2 ^ d = pow_split w d h ∙ ap (λ n. n * 2 ^ d) p_is in
    let left : 2 ^ w - 1 - (q + 2 ^ (w - d) * z) ≡ c =
    (λ j. (whole ∙ ap (λ n. (q + 1 + c) * n) (sym ones)) j - 1 - (q + p_is j * z)) ∙ high_ones q c z in
    let right : (2 ^ w - 1 - m) / 2 ^ d ≡ c =
    ap (λ n. n / 2 ^ d) ((λ j. whole j - 1 - m_is j) ∙ complement_at q c (2 ^ d) r r_below) ∙ shr_high c d (2 ^ d - 1 - r) (omega (arith, pow_pos d)) in
    left ∙ sym right

-- with the bits turned where the filling literal is true
turned_right : (v : List Bool) (l : ℤ) (m : List ℤ) (d : ℕ) (b : Bool) → truth v l ≡ b → d ≤ length m
    → turned b (length m) (number v (drop d m ++ replicate d l)) ≡ turned b (length m) (number v m) / 2 ^ d
turned_right v l m d true e h =
    let rest : length (drop d m) ≡ length m - d = length-drop d m in
    ap (λ n. 2 ^ length m - 1 - n) (number-append v (drop d m) (replicate d l) ∙ (λ j. number-drop v m d h j + 2 ^ rest j * number v (replicate d l)))
    ∙ turned_moved (length m) d (number v m) (number v (replicate d l)) h (number-below v m) (number-ones v l d e)
turned_right v l m d false e h =
    number-append v (drop d m) (replicate d l)
    ∙ (λ j. number-drop v m d h j + 2 ^ length (drop d m) * number-zeros v l d e j)
    ∙ (let t : number v m / 2 ^ d + 2 ^ length (drop d m) * 0 ≡ number v m / 2 ^ d = omega arith in t)

right_step : (c b : Bool) (f m a n k w : ℕ) → turned b w f ≡ turned b w m / 2 ^ (2 ^ k) → turned b w m ≡ a / 2 ^ n
    → turned b w (cond c f m) ≡ a / 2 ^ (n + 2 ^ k * bit c)
right_step true b f m a n k w e g =
    e ∙ ap (λ x. x / 2 ^ (2 ^ k)) g ∙ shr-shr a n (2 ^ k) ∙ ap (λ x. a / 2 ^ (n + x)) (let t : 2 ^ k ≡ 2 ^ k * 1 = omega arith in t)
right_step false b f m a n k w e g = g ∙ ap (λ x. a / 2 ^ x) (let t : n ≡ n + 2 ^ k * 0 = omega arith in t)

-- one step
pub stepped_right : (old new : ClauseSet) (moved further chosen : List ℤ) (c f : ℤ) (d : ℕ) → d ≤ length moved → further ≡ drop d moved ++ replicate d f →
    MakesWord old new (36 * length further) chosen (length further) (λ v. cond (truth v c) (number v further) (number v moved)) →
    MakesWord old new (36 * length moved) chosen (length moved) (λ v. cond (truth v c) (number v (drop d moved ++ replicate d f)) (number v moved))
stepped_right old new moved further chosen c f d le is one =
    let long : length further ≡ length moved = ap length is ∙ right_long moved f d le in
    record {
      builds = subst (λ n. Builds old new (36 * n)) long one.builds;
      over = one.over;
      width = one.width ∙ long;
      is = λ v h. one.is v h ∙ ap (λ ls. cond (truth v c) (number v ls) (number v moved)) is;
    }

pub right_more : (old mid new : ClauseSet) (a by moved chosen : List ℤ) (c f : ℤ) (k w d : ℕ) → w ≡ length a → d ≡ 2 ^ k → d ≤ w → k < length by
    → c ≡ get_or by k c →
    ShiftsRight old mid (36 * w * k) moved f a (λ v. number v (take k by)) →
    MakesWord mid new (36 * length moved) chosen (length moved) (λ v. cond (truth v c) (number v (drop d moved ++ replicate d f)) (number v moved)) →
    ShiftsRight old new (36 * w * (k + 1)) chosen f a (λ v. number v (take (k + 1) by))
right_more old mid new a by moved chosen c f k w d wide d_is le lt c_is word one =
    let as_long : length moved ≡ w = word.width ∙ sym wide in
    record {
      builds = chained old mid new (36 * w * k) (36 * w) (36 * w * (k + 1)) word.builds (subst (λ n. Builds mid new (36 * n)) as_long one.builds) (omega arith);
      over = one.over;
      width = one.width ∙ word.width;
      is = λ v h.
          let moved_on : turned (truth v f) (length a) (number v (drop d moved ++ replicate d f)) ≡ turned (truth v f) (length a) (number v moved) / 2
          ^ (2 ^ k) =
          subst (λ n. turned (truth v f) n (number v (drop d moved ++ replicate d f)) ≡ turned (truth v f) n (number v moved) / 2 ^ d) word.width
          (turned_right v f moved d (truth v f) refl (omega (arith, as_long, le)))
          ∙ ap (λ n. turned (truth v f) (length a) (number v moved) / 2 ^ n) d_is in
          ap (turned (truth v f) (length a)) (one.is v h)
          ∙ right_step (truth v c) (truth v f) (number v (drop d moved ++ replicate d f)) (number v moved)
          (turned (truth v f) (length a) (number v a)) (number v (take k by)) k (length a) moved_on (word.is v (one.builds.weaker v h))
          ∙ ap (λ n. turned (truth v f) (length a) (number v a) / 2 ^ n) (sym (number-more v by k c lt c_is));
    }

pub right_none : (set : ClauseSet) (a by moved : List ℤ) (f : ℤ) → All (IsOver set.variables) a → moved ≡ a
    → ShiftsRight set set (36 * length a * 0) moved f a (λ v. number v (take 0 by))
right_none set a by moved f over is = record {
  builds = nothing_built set (36 * length a * 0);
  over = subst (All (IsOver set.variables)) (sym is) over;
  width = ap length is;
  is = λ v h. ap (λ ls. turned (truth v f) (length a) (number v ls)) is ∙ sym (div-one (turned (truth v f) (length a) (number v a)));
}

filled_zero : (v : List Bool) (l : ℤ) (w : ℕ) (b : Bool) → truth v l ≡ b → turned b w (number v (replicate w l)) ≡ 0
filled_zero v l w true e = omega (arith, number-ones v l w e)
filled_zero v l w false e = number-zeros v l w e

right_last : (b : Bool) (a low high s w m filled : ℕ) → w ≤ 2 ^ s → a < 2 ^ w → turned b w m ≡ a / 2 ^ low → turned b w filled ≡ 0
    → turned b w (cond (nat_eq high 0) m filled) ≡ a / 2 ^ (low + 2 ^ s * high)
right_last b a low high s w m filled h below e z =
    elim (eqb_tells high 0) [
      | inl none ↦
          ap (λ x. turned b w (cond x m filled)) none.0 ∙ e
          ∙ ap (λ n. a / 2 ^ n) (let t : low ≡ low + 2 ^ s * 0 = omega arith in t ∙ ap (λ n. low + 2 ^ s * n) (sym none.1))
      | inr some ↦
          let far : w ≤ low + 2 ^ s * high = far_off s w low high h (positive high some.1) in
          let l : a < 2 ^ (low + 2 ^ s * high) = omega (arith, pow_mono {i = w} {j = low + 2 ^ s * high} far) in
          ap (λ x. turned b w (cond x m filled)) some.0 ∙ z ∙ sym (div-eq_of_lt l)
    ]

pub right_made : (old mid new : ClauseSet) (a by moved far out : List ℤ) (f : ℤ) (k s w : ℕ) → AreSteps w s → w ≡ length a → length a ≡ length by
    → s ≤ k → k ≤ s →
    ShiftsRight old mid (36 * w * k) moved f a (λ v. number v (take k by)) → far ≡ drop s by →
    MakesWord mid new (12 * length far + 36 * length moved) out (length moved) (λ v. cond (nat_eq (number v far) 0) (number v moved)
    (number v (replicate (length moved) f))) →
    ShiftsRight old new (36 * w * (w + 2)) out f a (λ v. number v by)
right_made old mid new a by moved far out f k s w steps wide same ge le word far_is last =
    let k_is : k ≡ s = omega arith in
    let fits : s ≤ length by = omega (arith, steps.within, wide, same) in
    let as_long : length moved ≡ w = word.width ∙ sym wide in
    let far_long : length far ≡ w - s = ap length far_is ∙ length-drop s by ∙ omega (arith, wide, same) in
    record {
      builds = chained old mid new (36 * w * s) (12 * (w - s) + 36 * w) (36 * w * (w + 2)) (subst (λ n. Builds old mid (36 * w * n)) k_is word.builds)
          (subst (λ n. Builds mid new (12 * (w - s) + 36 * n)) as_long (subst (λ n. Builds mid new (12 * n + 36 * length moved)) far_long
          last.builds)) (past_cost w s steps.within);
      over = last.over;
      width = last.width ∙ word.width;
      is = λ v h.
          let h1 = last.builds.weaker v h in
          let m_is : turned (truth v f) w (number v moved) ≡ turned (truth v f) w (number v a) / 2 ^ number v (take s by) =
          subst (λ n. turned (truth v f) n (number v moved) ≡ turned (truth v f) n (number v a) / 2 ^ number v (take s by)) (sym wide)
          (word.is v h1 ∙ ap (λ n. turned (truth v f) (length a) (number v a) / 2 ^ number v (take n by)) k_is) in
          let below : turned (truth v f) w (number v a) < 2 ^ w = turned_below (truth v f) w (number v a)
          (subst (λ n. number v a < 2 ^ n) (sym wide) (number-below v a)) in
          subst (λ n. turned (truth v f) n (number v out) ≡ turned (truth v f) n (number v a) / 2 ^ number v by) wide
          (ap (turned (truth v f) w) (last.is v h ∙ ap (λ ls. cond (nat_eq (number v ls) 0) (number v moved) (number v (replicate (length moved) f))) far_is)
          ∙ right_last (truth v f) (turned (truth v f) w (number v a)) (number v (take s by)) (number v (drop s by)) s w (number v moved)
          (number v (replicate (length moved) f)) steps.enough below m_is
          (ap (λ n. turned (truth v f) w (number v (replicate n f))) as_long ∙ filled_zero v f w (truth v f) refl)
          ∙ ap (λ n. turned (truth v f) w (number v a) / 2 ^ n) (sym (halves_of v by s fits)));
    }

-- ---- the steps

below_pow : (n : ℕ) → n < 2 ^ n
below_pow zero = omega arith
below_pow (suc n) = omega (arith, below_pow n, pow_more n)

steps_within : (s w : ℕ) → (0 < s → 2 ^ (s - 1) < w) → s ≤ w
steps_within zero w last = omega arith
steps_within (suc s) w last =
    let l : 2 ^ s < w = subst (λ n. 2 ^ n < w) (let e : suc s - 1 ≡ s = omega arith in e) (last (omega arith)) in
    omega (arith, l, below_pow s)

pub steps_are : (w s : ℕ) → w ≤ 2 ^ s → (0 < s → 2 ^ (s - 1) < w) → AreSteps w s
steps_are w s enough last = record { enough = enough; within = steps_within s w last; last = last }

pub power_within : (w s k : ℕ) → AreSteps w s → k < s → 2 ^ k ≤ w
power_within w s k steps h =
    let l = steps.last (omega (arith, h)) in
    omega (arith, l, pow_mono {i = k} {j = s - 1} (omega (arith, h)))

or_true : (b : Bool) → b || true ≡ true
or_true true = refl
or_true false = refl

or_false : (b : Bool) → b || false ≡ b
or_false true = refl
or_false false = refl

nonzero_more : (n p m : ℕ) (x : Bool) → 0 < p → m ≡ n + p * bit x → not (nat_eq n 0) || x ≡ not (nat_eq m 0)
nonzero_more n p m true h e = or_true (not (nat_eq n 0)) ∙ sym (ap not (ne_eqb m 0 (λ z. omega arith)))
nonzero_more n p m false h e = or_false (not (nat_eq n 0)) ∙ ap (λ k. not (nat_eq k 0)) (let t : n ≡ m = omega arith in t)

-- whether one more literal is true
pub any_more : (old mid new : ClauseSet) (ls : List ℤ) (x some next : ℤ) (i : ℕ) → i < length ls → x ≡ get_or ls i x
    → MakesBit old mid (12 * i) some (λ v. not (nat_eq (number v (take i ls)) 0)) →
    MakesBit mid new 12 next (λ v. truth v some || truth v x) → MakesBit old new (12 * (i + 1)) next (λ v. not (nat_eq (number v (take (i + 1) ls)) 0))
any_more old mid new ls x some next i h is so_far one = record {
  builds = chained old mid new (12 * i) 12 (12 * (i + 1)) so_far.builds one.builds (omega arith);
  over = one.over;
  is = λ v holds.
      one.is v holds
      ∙ ap (λ b. b || truth v x) (so_far.is v (one.builds.weaker v holds))
      ∙ nonzero_more (number v (take i ls)) (2 ^ i) (number v (take (i + 1) ls)) (truth v x) (pow_pos i) (number-more v ls i x h is);
}

-- ---- the same of results

pub stepped_left_result : {E : Type 0} (old new : ClauseSet) (moved further slice : List ℤ) (c f : ℤ) (d : ℕ) (result : Result (Vec ℤ Global) E)
    → IsNet old → f ≡ negsuc 0 → d ≤ length moved →
    further ≡ replicate d f ++ take (length moved - d) moved → slice ≡ further →
    IfOk result (λ out. MakesWord old new (36 * length slice) out.items (length slice) (λ v. cond (truth v c) (number v slice) (number v moved))) →
    IfOk result (λ out. MakesWord old new (36 * length moved) out.items (length moved) (λ v. cond (truth v c)
    ((number v moved * 2 ^ d) % 2 ^ length moved) (number v moved)))
stepped_left_result old new moved further slice c f d (Ok out) net f_is le is same one = stepped_left old new moved slice out.items c f d net f_is le
    (same ∙ is) one
stepped_left_result old new moved further slice c f d (Err e) net f_is le is same one = one

pub past_result : {E : Type 0} (old mid new : ClauseSet) (moved far filled slice : List ℤ) (past turned_past f : ℤ) (result : Result (Vec ℤ Global) E)
    → turned_past ≡ neg_ℤ past → filled ≡ replicate (length moved) f → slice ≡ filled →
    MakesBit old mid (12 * length far) past (λ v. not (nat_eq (number v far) 0)) →
    IfOk result (λ out. MakesWord mid new (36 * length moved) out.items (length moved) (λ v. cond (truth v turned_past) (number v moved) (number v slice))) →
    IfOk result (λ out. MakesWord old new (12 * length far + 36 * length moved) out.items (length moved)
    (λ v. cond (nat_eq (number v far) 0) (number v moved) (number v (replicate (length moved) f))))
past_result old mid new moved far filled slice past turned_past f (Ok out) is filled_is same any last =
    past_made old mid new moved far slice out.items past turned_past f is (same ∙ filled_is) any last
past_result old mid new moved far filled slice past turned_past f (Err e) is filled_is same any last = last

pub left_result : {E : Type 0} (old mid new : ClauseSet) (a by moved slice far : List ℤ) (f : ℤ) (k s : ℕ) (result : Result (Vec ℤ Global) E)
    → IsNet mid → f ≡ negsuc 0 → AreSteps (length a) s → length a ≡ length by → s ≤ k → k ≤ s →
    MakesWord old mid (36 * length a * k) moved (length a) (λ v. (number v a * 2 ^ number v (take k by)) % 2 ^ length a) → slice ≡ moved → far ≡ drop s by →
    IfOk result (λ out. MakesWord mid new (12 * length far + 36 * length slice) out.items (length slice)
    (λ v. cond (nat_eq (number v far) 0) (number v slice) (number v (replicate (length slice) f)))) →
    IfOk result (λ out. MakesWord old new (36 * length a * (length a + 2)) out.items (length a) (λ v. (number v a * 2 ^ number v by) % 2 ^ length a))
left_result old mid new a by moved slice far f k s (Ok out) net f_is steps same ge le word is far_is last =
    left_made old mid new a by slice far out.items f k s (length a) net f_is steps refl same ge le
    (subst (λ ls. MakesWord old mid (36 * length a * k) ls (length a) (λ v. (number v a * 2 ^ number v (take k by)) % 2 ^ length a)) (sym is) word) far_is last
left_result old mid new a by moved slice far f k s (Err e) net f_is steps same ge le word is far_is last = last

pub right_result : {E : Type 0} (old mid new : ClauseSet) (a by moved slice far : List ℤ) (f : ℤ) (k s : ℕ) (result : Result (Vec ℤ Global) E)
    → AreSteps (length a) s → length a ≡ length by → s ≤ k → k ≤ s →
    ShiftsRight old mid (36 * length a * k) moved f a (λ v. number v (take k by)) → slice ≡ moved → far ≡ drop s by →
    IfOk result (λ out. MakesWord mid new (12 * length far + 36 * length slice) out.items (length slice)
    (λ v. cond (nat_eq (number v far) 0) (number v slice) (number v (replicate (length slice) f)))) →
    IfOk result (λ out. ShiftsRight old new (36 * length a * (length a + 2)) out.items f a (λ v. number v by))
right_result old mid new a by moved slice far f k s (Ok out) steps same ge le word is far_is last =
    right_made old mid new a by slice far out.items f k s (length a) steps refl same ge le
    (subst (λ ls. ShiftsRight old mid (36 * length a * k) ls f a (λ v. number v (take k by))) (sym is) word) far_is last
right_result old mid new a by moved slice far f k s (Err e) steps same ge le word is far_is last = last
