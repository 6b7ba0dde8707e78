-- Equality piece by piece.
use Rattle.std.proofs.Common.{◌≡◌, ℕ, ◌+◌, ◌-◌, ◌*◌, ◌/◌, ◌%◌, ◌^◌, ◌<◌, ◌≤◌, Bool, true, false, List, [], ◌∷◌, get_or, Result, Ok, Err, refl, sym}
use Rattle.std.proofs.Common.{ap, subst, ◌∙◌, inl, inr, arith, eq-eqb}
use Rattle.std.specs.Prelude.{bit_and, nat_eq}
use Rattle.std.specs.Int.{bit_at}
use Rattle.std.proofs.Math.Nat.{mod-one, mod-eq_of_lt}
use Rattle.std.proofs.lemmas.Bool.{ne_eqb}
use Rattle.std.proofs.lemmas.Bool.Decides.{eqb_tells}
use Rattle.std.proofs.lemmas.Nat.{pow_pos, mod_below, mod-pow-add, same_from_place}
use Rattle.std.proofs.lemmas.Nat.Bits.{same_from_bits_below}
use Rattle.vg_bits.specs.Words as formulas
use Rattle.vg_bits.specs.declared.word.Word.{Word}
use Rattle.vg_term.specs.Terms.{Term, AreTerms, Stands, width_at}
use Rattle.vg_term.specs.Value.{value_of, Assigns}
use Rattle.vg_term.specs.Folding.{Grows, StandsFor, Builds}
use Rattle.vg_term.specs.Wiring.{AllCarry, IsRun, IsWired, Grown}
use Rattle.vg_term.specs.Equality.{IsLowEqual, IsBoth, JoinsEqual}
use Rattle.vg_term.specs.declared.wire.Wire.{Wire}
use Rattle.vg_term.specs.declared.wire.Wire.TheVariants.{Fixed}
use Rattle.vg_term.specs.declared.node.TermId.{TermId}
use Rattle.vg_term.specs.declared.node.Op.{Op}
use Rattle.vg_term.specs.declared.node.Op.TheVariants as ops
use Rattle.vg_term.specs.declared.stops.TermStop.{TermStop}
use Rattle.vg_term.proofs.Ranges.{term_range}
use Rattle.vg_term.proofs.Wires.{grown_on, stands_later, width_later, value_later, assigns_later, wire_value_later, bit_cut}

-- ---- equal in two parts

abbrev if_both : Bool → Bool → Bool
if_both true y = y
if_both false y = false

and_bits : (x y : Bool) → formulas.bit (if_both x y) ≡ bit_and (formulas.bit x) (formulas.bit y)
and_bits true true = refl
and_bits true false = refl
and_bits false true = refl
and_bits false false = refl

split_equal : (p q r s k : ℕ) → r < 2 ^ k → s < 2 ^ k → formulas.eq (p * 2 ^ k + r) (q * 2 ^ k + s) ≡ bit_and (formulas.eq r s) (formulas.eq p q)
split_equal p q r s k below other =
    elim (eqb_tells r s) [
      | inl low ↦
          elim (eqb_tells p q) [
            | inl high ↦
                let same : p * 2 ^ k + r ≡ q * 2 ^ k + s = (λ j. high.1 j * 2 ^ k + low.1 j) in
                ap formulas.bit (eq-eqb (p * 2 ^ k + r) (q * 2 ^ k + s) same) ∙ and_bits true true
                ∙ sym (λ j. bit_and (formulas.bit (low.0 j)) (formulas.bit (high.0 j)))
            | inr high ↦
                ap formulas.bit (ne_eqb (p * 2 ^ k + r) (q * 2 ^ k + s) (λ e. high.1 (same_from_place p r q s (2 ^ k) below other e).0))
                ∙ and_bits true false
                ∙ sym (λ j. bit_and (formulas.bit (low.0 j)) (formulas.bit (high.0 j)))
          ]
      | inr low ↦
          ap formulas.bit (ne_eqb (p * 2 ^ k + r) (q * 2 ^ k + s) (λ e. low.1 (same_from_place p r q s (2 ^ k) below other e).1))
          ∙ and_bits false (nat_eq p q)
          ∙ sym (λ j. bit_and (formulas.bit (low.0 j)) (formulas.eq p q))
    ]

equal_more : (a b k j : ℕ) → formulas.eq (a % 2 ^ (j + k)) (b % 2 ^ (j + k)) ≡ bit_and (formulas.eq (a % 2 ^ k) (b % 2 ^ k))
    (formulas.eq (a / 2 ^ k % 2 ^ j) (b / 2 ^ k % 2 ^ j))
equal_more a b k j =
    (λ i. formulas.eq (mod-pow-add a j k i) (mod-pow-add b j k i))
    ∙ split_equal (a / 2 ^ k % 2 ^ j) (b / 2 ^ k % 2 ^ j) (a % 2 ^ k) (b % 2 ^ k) k (mod_below a (2 ^ k) (pow_pos k)) (mod_below b (2 ^ k) (pow_pos k))

-- ---- pieces of a term

pub piece_value : (old new : List Term) (a x : TermId) (wires : List Wire) (w at n : ℕ) → AreTerms old → AreTerms new → Grows old new → Stands old a
    → AllCarry old (ops.Extract 0 w) (a ∷ []) wires w → at + n ≤ w → IsWired new x wires at n →
    (words : List Word) → Assigns words new → value_of new words x ≡ value_of new words a / 2 ^ at % 2 ^ n
piece_value old new a x wires w at n was made g stands carry fits wired words assigns =
    let before = assigns_later old new g words assigns in
    let d : Wire = Fixed false in
    same_from_bits_below n (value_of new words x) (value_of new words a / 2 ^ at % 2 ^ n)
    (subst (λ k. value_of new words x < 2 ^ k) wired.width (term_range made words assigns x wired.stands).below)
    (mod_below (value_of new words a / 2 ^ at) (2 ^ n) (pow_pos n))
    (λ i below.
    let within : at + i < w = omega (arith, below, fits) in
    wired.bits words assigns i d below
    ∙ wire_value_later old new was g words (get_or wires (at + i) d) (carry.each (at + i) d within).stands
    ∙ (carry.each (at + i) d within).value words before
    ∙ bit_cut (value_of old words a) 0 w (at + i) within
    ∙ (λ j. bit_at (sym (value_later old new was g words a stands) j) ((let e : 0 + (at + i) ≡ at + i = omega arith in e) j))
    ∙ sym (bit_cut (value_of new words a) at n i below))

-- a run is a run where it ends earlier
pub run_shorter : (wires : List Wire) (from to end : ℕ) → IsRun wires from to → from < end → end ≤ to → IsRun wires from end
run_shorter wires from to end run some le = record { some = some; each = λ k d below. run.each k d (omega (arith, below, le)) }

-- ---- one more piece

pub low_more : (first mid one two new : List Term) (a b x y all id : TermId) (left right : List Wire) (w at end : ℕ) → AreTerms first → Stands first a
    → Stands first b → AllCarry first (ops.Extract 0 w) (a ∷ []) left w → AllCarry first (ops.Extract 0 w) (b ∷ []) right w →
    Grown first mid → IsLowEqual mid all a b at → at ≤ end → end ≤ w → Grown mid one → IsWired one x left at (end - at) → Grown one two
    → IsWired two y right at (end - at) → Grown two new → IsBoth new id all x y →
    Grown first new × IsLowEqual new id a b end
low_more first mid one two new a b x y all id left right w at end made there_a there_b carry_a carry_b g low le most g1 up g2 down g3 both =
    let g_one = grown_on first mid one g g1 in
    let g_two = grown_on first one two g_one g2 in
    let g_new = grown_on first two new g_two g3 in
    let from_one = grown_on one two new g2 g3 in
    let from_mid = grown_on mid one new g1 from_one in
    let n = end - at in
    let whole : n + at ≡ end = omega (arith, le) in
    let fits : at + n ≤ w = omega (arith, le, most) in (
      g_new,
      record {
        stands = both.stands;
        width = both.width;
        value = λ words assigns.
            let in_two = assigns_later two new g3.grows words assigns in
            let in_one = assigns_later one new from_one.grows words assigns in
            let in_mid = assigns_later mid new from_mid.grows words assigns in
            let a_now : value_of one words a ≡ value_of new words a =
            sym (value_later one new g_one.made from_one.grows words a (stands_later first one g_one.grows a there_a)) in
            let b_now : value_of two words b ≡ value_of new words b =
            sym (value_later two new g_two.made g3.grows words b (stands_later first two g_two.grows b there_b)) in
            let x_is : value_of new words x ≡ value_of new words a / 2 ^ at % 2 ^ n =
            value_later one new g_one.made from_one.grows words x up.stands ∙ piece_value first one a x left w at n made g_one.made g_one.grows
            there_a carry_a fits up words in_one ∙ ap (λ v. v / 2 ^ at % 2 ^ n) a_now in
            let y_is : value_of new words y ≡ value_of new words b / 2 ^ at % 2 ^ n =
            value_later two new g_two.made g3.grows words y down.stands ∙ piece_value first two b y right w at n made g_two.made g_two.grows there_b
            carry_b fits down words in_two ∙ ap (λ v. v / 2 ^ at % 2 ^ n) b_now in
            let a_mid : value_of mid words a ≡ value_of new words a =
            sym (value_later mid new g.made from_mid.grows words a (stands_later first mid g.grows a there_a)) in
            let b_mid : value_of mid words b ≡ value_of new words b =
            sym (value_later mid new g.made from_mid.grows words b (stands_later first mid g.grows b there_b)) in
            let all_is : value_of new words all ≡ formulas.eq (value_of new words a % 2 ^ at) (value_of new words b % 2 ^ at) =
            value_later mid new g.made from_mid.grows words all low.stands ∙ low.value words in_mid
            ∙ (λ j. formulas.eq (a_mid j % 2 ^ at) (b_mid j % 2 ^ at)) in
            both.value words assigns
            ∙ (λ j. bit_and (all_is j) (formulas.eq (x_is j) (y_is j)))
            ∙ sym (equal_more (value_of new words a) (value_of new words b) at n)
            ∙ ap (λ k. formulas.eq (value_of new words a % 2 ^ k) (value_of new words b % 2 ^ k)) whole;
      },
    )

-- ---- the ends

pub low_none : (old new : List Term) (a b : TermId) (one : Word) (id : TermId) → one.width ≡ 1 → one.value ≡ 1 → StandsFor new id (ops.Const one) []
    → IsLowEqual new id a b 0
low_none old new a b one id wide is for = record {
  stands = for.stands;
  width = for.width ∙ wide;
  value = λ words assigns. for.value words assigns ∙ is ∙ sym (λ j. formulas.eq (mod-one (value_of new words a) j) (mod-one (value_of new words b) j));
}

pub low_all : (old new : List Term) (a b all : TermId) (w : ℕ) → Grown old new → Stands old a → Stands old b → width_at old a ≡ width_at old b
    → w ≡ width_at old a → IsLowEqual new all a b w → Builds old new ops.Eq (a ∷ b ∷ []) (Ok all)
low_all old new a b all w g there_a there_b alike wide low = record {
  made = g.made;
  grows = g.grows;
  means = record {
    stands = low.stands;
    width = low.width;
    value = λ words assigns.
        let p = (term_range g.made words assigns a (stands_later old new g.grows a there_a)).below in
        let q = (term_range g.made words assigns b (stands_later old new g.grows b there_b)).below in
        let wide_a : width_at new a ≡ w = width_later old new g.grows a there_a ∙ sym wide in
        let wide_b : width_at new b ≡ w = width_later old new g.grows b there_b ∙ sym alike ∙ sym wide in
        low.value words assigns
        ∙ (λ j. formulas.eq (mod-eq_of_lt (subst (λ n. value_of new words a < 2 ^ n) wide_a p) j)
        (mod-eq_of_lt (subst (λ n. value_of new words b < 2 ^ n) wide_b q) j));
  };
}

pub refused : (old new : List Term) (op : Op) (parts : List TermId) (stop : TermStop) → Grown old new → Builds old new op parts (Err stop)
refused old new op parts stop g = record { made = g.made; grows = g.grows; means = tt }

pub joins_equal : (old mid new : List Term) (fact a b equal : TermId) (result : Result TermId TermStop) → AreTerms old → Stands old fact
    → width_at old fact ≡ 1 → Stands old a → Stands old b → Grown old mid → StandsFor mid equal ops.Eq (a ∷ b ∷ []) →
    Builds mid new ops.And (fact ∷ equal ∷ []) result → JoinsEqual old new fact a b result
joins_equal old mid new fact a b equal (Ok id) made there_fact bit there_a there_b g for h = record {
  grown = grown_on old mid new g (record { made = h.made; grows = h.grows });
  both = record {
    stands = h.means.stands;
    width = h.means.width ∙ width_later mid new h.grows fact (stands_later old mid g.grows fact there_fact) ∙ width_later old mid g.grows fact there_fact ∙ bit;
    value = λ words assigns.
        let in_mid = assigns_later mid new h.grows words assigns in
        let a_now : value_of mid words a ≡ value_of new words a = sym (value_later mid new g.made h.grows words a (stands_later old mid g.grows a there_a)) in
        let b_now : value_of mid words b ≡ value_of new words b = sym (value_later mid new g.made h.grows words b (stands_later old mid g.grows b there_b)) in
        let equal_is : value_of new words equal ≡ formulas.eq (value_of new words a) (value_of new words b) =
        value_later mid new g.made h.grows words equal for.stands ∙ for.value words in_mid ∙ (λ j. formulas.eq (a_now j) (b_now j)) in
        h.means.value words assigns ∙ ap (bit_and (value_of new words fact)) equal_is;
  };
}
joins_equal old mid new fact a b equal (Err stop) made there_fact bit there_a there_b g for h =
    record { grown = grown_on old mid new g (record { made = h.made; grows = h.grows }); both = tt }
