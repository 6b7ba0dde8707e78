-- Simple answers for terms.
use Rattle.std.proofs.Common.{◌≡◌, ℕ, ◌+◌, ◌^◌, ◌<◌, List, [], ◌∷◌, slice_get, Option, Some, All, refl, sym, ap, subst, ◌∙◌, arith, cond, inl, inr}
use Rattle.std.specs.Prelude.{IfSome, nat_eq}
use Rattle.std.proofs.lemmas.List.Elements.{All-head}
use Rattle.std.proofs.lemmas.Bool.Decides.{eqb_tells}
use Rattle.std.proofs.lemmas.Nat.{pow_pos}
use Rattle.vg_bits.specs.Words as formulas
use Rattle.vg_bits.specs.declared.word.Word.{Word}
use Rattle.vg_term.specs.Operations.{Bits, FitsThree, width_two}
use Rattle.vg_term.specs.Terms.{Term, Stands, AreTerms, width_at, width_in, listed}
use Rattle.vg_term.specs.Value.{value_of, bits_at, entry_value, Assigns}
use Rattle.vg_term.specs.Rules as rules
use Rattle.vg_term.specs.Rules.{simple_bits, simple_value, width_alike, Places, AreOpposite}
use Rattle.vg_term.specs.Folding.{StandsFor, IsWord, IsKnown}
use Rattle.vg_term.specs.declared.rules.Simple.{Simple}
use Rattle.vg_term.specs.declared.rules.Simple.TheVariants.{Part, Zero, One, Ones}
use Rattle.vg_term.specs.declared.known.Known.{Known}
use Rattle.vg_term.specs.declared.known.Known.TheVariants as known
use Rattle.vg_term.specs.declared.node.TermId.{TermId}
use Rattle.vg_term.specs.declared.node.Op.{Op}
use Rattle.vg_term.specs.declared.node.Op.TheVariants as ops
use Rattle.vg_term.specs.declared.node.Parts.{Parts}
use Rattle.vg_term.specs.declared.node.Parts.TheVariants as parts
use Rattle.vg_term.specs.declared.node.Node.TheVariants as nodes
use Rattle.vg_term.proofs.Made.{is_made}
use Rattle.vg_term.proofs.Values.{value_follows}
use Rattle.vg_term.proofs.Ranges.{IsRange, term_range, width_some, width_most}
use Rattle.vg_term.proofs.RuleLaws.{word, two, IsRight, equal_right, opposite_right, before_ones_right, after_ones_right, zero_of, ones_below}
use Rattle.std.proofs.lemmas.Option.{slice_get_within}

-- a term stands for the operation that it is made of
pub made_stands : {terms : List Term} → AreTerms terms → (id : TermId) (op : Op) (p : Parts) (w : ℕ) → slice_get terms id.0 ≡ Some (nodes.Op op p, w)
    → StandsFor terms id op (listed p)
made_stands {terms} made id op p w here = record {
  stands = slice_get_within terms id.0 (nodes.Op op p, w) here;
  width = ap width_in here ∙ (is_made made id.0 op p w here).width;
  value = λ words _. value_follows made words id ∙ ap (entry_value words (bits_at terms words)) here;
}

-- a simple answer that isn't the part doesn't depend on the part's value
not_part : (s : Simple) (op : Op) (p : Bits) → (s ≡ Part → ⊥) → simple_bits s op p ≡ word (width_alike op p.width) (simple_value s (width_alike op p.width))
not_part Part op p other = absurd (other refl)
not_part Zero op p other = refl
not_part One op p other = refl
not_part Ones op p other = refl

told : (P : Simple → Type 0) {simple : Option Simple} {s : Simple} → simple ≡ Some s → IfSome simple P → P s
told P {simple} {s} e h = subst (λ (o : Option Simple). IfSome o P) e h

-- the simple answer of a table, where its law holds
pub known_two : (terms : List Term) (op : Op) (a b part : TermId) (x y : ℕ) (simple : Option Simple) (s : Simple) (k : Known) → Stands terms part
    → simple ≡ Some s → Places terms op s part k →
    IsRight simple op (word (width_at terms part) 0) (word (width_at terms a) x) (word (width_at terms b) y) →
    ((words : List Word) → Assigns words terms → IsRight simple op (bits_at terms words part) (bits_at terms words a) (bits_at terms words b))
    → IsKnown terms op (a ∷ b ∷ []) k
known_two terms op a b part x y simple s (known.Standing id) stands e places wide value =
    let zero = word (width_at terms part) 0 in
    let wide_eq : simple_bits s op zero ≡ two op (word (width_at terms a) x) (word (width_at terms b) y) =
    told (λ (t : Simple). simple_bits t op zero ≡ two op (word (width_at terms a) x) (word (width_at terms b) y)) e wide in
    let is_part : s ≡ Part = places.0 in
    let width : width_at terms part ≡ width_two op (width_at terms a) (width_at terms b) =
    ap (λ (t : Simple). (simple_bits t op zero).width) (sym is_part) ∙ ap (λ (p : Bits). p.width) wide_eq in
    subst (λ (i : TermId). StandsFor terms i op (a ∷ b ∷ [])) (sym places.1)
    record {
      stands = stands;
      width = width;
      value = λ words assigns.
          let whole : simple_bits s op (bits_at terms words part) ≡ two op (bits_at terms words a) (bits_at terms words b) =
          told (λ (t : Simple). simple_bits t op (bits_at terms words part) ≡ two op (bits_at terms words a) (bits_at terms words b)) e
          (value words assigns) in
          ap (λ (t : Simple). (simple_bits t op (bits_at terms words part)).value) (sym is_part) ∙ ap (λ (p : Bits). p.value) whole;
    }
known_two terms op a b part x y simple s (known.Constant w) stands e places wide value =
    let zero = word (width_at terms part) 0 in
    let wide_eq : simple_bits s op zero ≡ two op (word (width_at terms a) x) (word (width_at terms b) y) =
    told (λ (t : Simple). simple_bits t op zero ≡ two op (word (width_at terms a) x) (word (width_at terms b) y)) e wide in
    record {
      width = places.1 ∙ ap (λ (p : Bits). p.width) (sym (not_part s op zero places.0) ∙ wide_eq);
      value = λ words assigns.
          let whole : simple_bits s op (bits_at terms words part) ≡ two op (bits_at terms words a) (bits_at terms words b) =
          told (λ (t : Simple). simple_bits t op (bits_at terms words part) ≡ two op (bits_at terms words a) (bits_at terms words b)) e
          (value words assigns) in
          places.2 ∙ ap (λ (p : Bits). p.value) (sym (not_part s op (bits_at terms words part) places.0) ∙ whole);
    }

-- a word of value 0
pub zero_range : {terms : List Term} → AreTerms terms → (id : TermId) → Stands terms id → IsRange (word (width_at terms id) 0)
zero_range made id stands = record { some = width_some made id stands; most = width_most made id stands; below = pow_pos _ }

-- what is read of a constant, as wide as another term
pub constant_reads : (terms : List Term) (a b : TermId) (w : Word) (v : ℕ) → width_at terms a ≡ width_at terms b → IsWord terms b w → w.value ≡ v
    → (words : List Word) → word (width_at terms a) v ≡ bits_at terms words b
constant_reads terms a b w v alike is e words =
    let read = is words in
    (λ j. word (alike j) (sym (ap (λ (p : Bits). p.value) read ∙ e) j))

-- a term with each bit turned
turned_sum : (w a b : ℕ) → b < 2 ^ w → a ≡ formulas.not w b → a + b ≡ formulas.all_ones w
turned_sum w a b below e = omega arith

pub not_opposite : {terms : List Term} → AreTerms terms → (a b c : TermId) → StandsFor terms a ops.Not (c ∷ []) → Stands terms b → c.0 ≡ b.0
    → AreOpposite terms a b
not_opposite {terms} made a b c is there same =
    let id : c ≡ b = ap (λ (n : ℕ). record { 0 = n }) same in
    let not = subst (λ (i : TermId). StandsFor terms a ops.Not (i ∷ [])) id is in
    record {
      alike = not.width;
      sum = λ words assigns.
          subst (λ w. value_of terms words a + value_of terms words b ≡ formulas.all_ones w) (sym not.width)
          (turned_sum (width_at terms b) (value_of terms words a) (value_of terms words b) (term_range made words assigns b there).below
          (not.value words assigns));
    }

pub opposite_turned : {terms : List Term} → AreTerms terms → (a b : TermId) → AreOpposite terms a b → AreOpposite terms b a
opposite_turned {terms} made a b is = record {
  alike = sym is.alike;
  sum = λ words assigns.
      let e = is.sum words assigns in
      let flipped : value_of terms words b + value_of terms words a ≡ value_of terms words a + value_of terms words b = omega arith in
      flipped ∙ e ∙ ap formulas.all_ones is.alike;
}

-- what is made as the turned bits of a part
pub not_made : {terms : List Term} → AreTerms terms → (a c : TermId) (op : Op) (p : Parts) (w : ℕ) → slice_get terms a.0 ≡ Some (nodes.Op op p, w)
    → op ≡ ops.Not → p ≡ parts.One c → StandsFor terms a ops.Not (c ∷ [])
not_made {terms} made a c op p w here is_not is_one =
    made_stands made a ops.Not (parts.One c) w (here ∙ (λ j. Some (nodes.Op (is_not j) (is_one j), w)))

-- twice turned
twice : (w a b : ℕ) → b < 2 ^ w → a ≡ formulas.not w b → b ≡ formulas.not w a
twice w a b below e = omega arith

pub turned_twice : {terms : List Term} → AreTerms terms → (a b : TermId) → StandsFor terms a ops.Not (b ∷ []) → Stands terms b
    → StandsFor terms b ops.Not (a ∷ [])
turned_twice {terms} made a b not there = record {
  stands = there;
  width = sym not.width;
  value = λ words assigns.
      subst (λ w. value_of terms words b ≡ formulas.not w (value_of terms words a)) (sym not.width)
      (twice (width_at terms b) (value_of terms words a) (value_of terms words b) (term_range made words assigns b there).below (not.value words assigns));
}

pub turned_of : {terms : List Term} → AreTerms terms → (a c : TermId) (op : Op) (p : Parts) (w : ℕ) → slice_get terms a.0 ≡ Some (nodes.Op op p, w)
    → op ≡ ops.Not → p ≡ parts.One c → StandsFor terms c ops.Not (a ∷ [])
turned_of {terms} made a c op p w here is_not is_one =
    let before = (is_made made a.0 op p w here).before in
    let first : All (λ (part : TermId). part.0 < a.0) (c ∷ []) = subst (λ (q : Parts). All (λ (part : TermId). part.0 < a.0) (listed q)) is_one before in
    let lower : c.0 < a.0 = All-head (λ (part : TermId). part.0 < a.0) c [] first in
    let within = slice_get_within terms a.0 (nodes.Op op p, w) here in
    turned_twice made a c (not_made made a c op p w here is_not is_one) (omega (arith, lower, within))

-- ---- the tables on terms

module _ {terms : List Term} (made : AreTerms terms) (op : Op) (s : Simple) (k : Known) where
  pub known_equal : (a b : TermId) → Stands terms a → a.0 ≡ b.0 → rules.on_equal op ≡ Some s → Places terms op s a k → IsKnown terms op (a ∷ b ∷ []) k
  known_equal a b stands same e places =
      let id : a ≡ b = ap (λ (n : ℕ). record { 0 = n }) same in
      subst (λ (i : TermId). IsKnown terms op (a ∷ i ∷ []) k) id
      (known_two terms op a a a 0 0 (rules.on_equal op) s k stands e places
      (equal_right op (word (width_at terms a) 0) (zero_range made a stands))
      (λ words assigns. equal_right op (bits_at terms words a) (term_range made words assigns a stands)))

  pub known_opposite : (a b : TermId) → Stands terms a → Stands terms b → AreOpposite terms a b → rules.on_opposite op ≡ Some s
      → Places terms op s a k → IsKnown terms op (a ∷ b ∷ []) k
  known_opposite a b first second is e places =
      let w = width_at terms a in
      let ones : IsRange (word (width_at terms b) (formulas.all_ones w)) =
      subst (λ n. IsRange (word n (formulas.all_ones w))) is.alike (record {
        some = width_some made a first;
        most = width_most made a first;
        below =
            ones_below w;
      }) in
      known_two terms op a b a 0 (formulas.all_ones w) (rules.on_opposite op) s k first e places
      (opposite_right op (word w 0) (word (width_at terms b) (formulas.all_ones w)) (word w 0) (zero_range made a first) ones refl (sym is.alike) (omega arith))
      (λ words assigns. opposite_right op (bits_at terms words a) (bits_at terms words b) (bits_at terms words a)
      (term_range made words assigns a first) (term_range made words assigns b second) refl (sym is.alike) (is.sum words assigns))

  -- beside a constant v, on the right of a part
  pub known_before : (a b : TermId) (w : Word) (v : ℕ) (table : Option Simple) → Stands terms a → width_at terms a ≡ width_at terms b
      → IsWord terms b w → w.value ≡ v → table ≡ Some s →
      ((p : Bits) → p.width ≡ width_at terms a → IsRange p → IsRight table op p p (word p.width v)) → Places terms op s a k → IsKnown terms op (a ∷ b ∷ []) k
  known_before a b w v table stands alike is v_is e law places =
      known_two terms op a b a 0 v table s k stands e places
      (subst (λ n. IsRight table op (word (width_at terms a) 0) (word (width_at terms a) 0) (word n v)) alike
      (law (word (width_at terms a) 0) refl (zero_range made a stands)))
      (λ words assigns.
      subst (λ (p : Bits). IsRight table op (bits_at terms words a) (bits_at terms words a) p) (constant_reads terms a b w v alike is v_is words)
      (law (bits_at terms words a) refl (term_range made words assigns a stands)))

  pub known_after : (a b : TermId) (w : Word) (v : ℕ) (table : Option Simple) → Stands terms b → width_at terms a ≡ width_at terms b
      → IsWord terms a w → w.value ≡ v → table ≡ Some s →
      ((p : Bits) → p.width ≡ width_at terms b → IsRange p → IsRight table op p (word p.width v) p) → Places terms op s b k → IsKnown terms op (a ∷ b ∷ []) k
  known_after a b w v table stands alike is v_is e law places =
      known_two terms op a b b v 0 table s k stands e places
      (subst (λ n. IsRight table op (word (width_at terms b) 0) (word n v) (word (width_at terms b) 0)) (sym alike)
      (law (word (width_at terms b) 0) refl (zero_range made b stands)))
      (λ words assigns.
      subst (λ (p : Bits). IsRight table op (bits_at terms words b) p (bits_at terms words b)) (constant_reads terms b a w v (sym alike) is v_is words)
      (law (bits_at terms words b) refl (term_range made words assigns b stands)))

  ones_law_before : (w : Word) (p : Bits) → p.width ≡ w.width → IsRange p → IsRight (rules.before_ones op) op p p (word p.width (formulas.all_ones w.width))
  ones_law_before w p e r = subst (λ n. IsRight (rules.before_ones op) op p p (word p.width (formulas.all_ones n))) e (before_ones_right op p r)

  ones_law_after : (w : Word) (p : Bits) → p.width ≡ w.width → IsRange p → IsRight (rules.after_ones op) op p (word p.width (formulas.all_ones w.width)) p
  ones_law_after w p e r = subst (λ n. IsRight (rules.after_ones op) op p (word p.width (formulas.all_ones n)) p) e (after_ones_right op p r)

  pub known_before_ones : (a b : TermId) (w : Word) (v : ℕ) → Stands terms a → width_at terms a ≡ width_at terms b → IsWord terms b w → w.value ≡ v
      → v ≡ formulas.all_ones w.width → rules.before_ones op ≡ Some s →
      Places terms op s a k → IsKnown terms op (a ∷ b ∷ []) k
  known_before_ones a b w v stands alike is v_is ones e places =
      let wide : width_at terms a ≡ w.width = alike ∙ ap (λ (p : Bits). p.width) (is []) in
      known_before a b w (formulas.all_ones w.width) (rules.before_ones op) stands alike is (v_is ∙ ones) e
      (λ p same r. ones_law_before w p (same ∙ wide) r) places

  pub known_after_ones : (a b : TermId) (w : Word) (v : ℕ) → Stands terms b → width_at terms a ≡ width_at terms b → IsWord terms a w → w.value ≡ v
      → v ≡ formulas.all_ones w.width → rules.after_ones op ≡ Some s →
      Places terms op s b k → IsKnown terms op (a ∷ b ∷ []) k
  known_after_ones a b w v stands alike is v_is ones e places =
      let wide : width_at terms b ≡ w.width = sym alike ∙ ap (λ (p : Bits). p.width) (is []) in
      known_after a b w (formulas.all_ones w.width) (rules.after_ones op) stands alike is (v_is ∙ ones) e
      (λ p same r. ones_law_after w p (same ∙ wide) r) places

-- a choice between 1 and 0
choice_bit : (c a b : ℕ) → c < 2 ^ 1 → a ≡ 1 → b ≡ 0 → c ≡ cond (nat_eq c 1) a b
choice_bit c a b below e f =
    elim (eqb_tells c 1) [
      | inl one ↦ one.1 ∙ sym e ∙ sym (ap (λ t. cond t a b) one.0)
      | inr none ↦ zero_of c below none.1 ∙ sym f ∙ sym (ap (λ t. cond t a b) none.0)
    ]

pub known_bit : {terms : List Term} → AreTerms terms → (op : Op) (c a b : TermId) (one zero : Word) → Stands terms c
    → FitsThree op (width_at terms c) (width_at terms a) (width_at terms b) → IsWord terms a one → IsWord terms b zero →
    width_at terms a ≡ 1 → one.value ≡ 1 → zero.value ≡ 0 → StandsFor terms c op (c ∷ a ∷ b ∷ [])
known_bit {terms} made ops.Ite c a b one zero stands fits is_one is_zero wide e f = record {
  stands = stands;
  width = fits.0 ∙ sym wide;
  value = λ words assigns.
      choice_bit (value_of terms words c) (value_of terms words a) (value_of terms words b)
      (subst (λ n. value_of terms words c < 2 ^ n) fits.0 (term_range made words assigns c stands).below)
      (ap (λ (p : Bits). p.value) (is_one words) ∙ e) (ap (λ (p : Bits). p.value) (is_zero words) ∙ f);
}
known_bit made _ c a b one zero stands fits is_one is_zero wide e f = absurd fits
