-- Terms that are built on the way, and forgotten where a later one is refused.
use Rattle.std.proofs.Common.{◌≡◌, ℕ, suc, zero, ◌+◌, ◌%◌, ◌^◌, ◌<◌, ◌≤◌, min, false, List, [], ◌∷◌, ◌++◌, map, take, length, get_or, Result, Ok, Err}
use Rattle.std.proofs.Common.{All, refl, sym, ap, subst, ◌∙◌, inl, inr, arith, length-append}
use Rattle.std.specs.Prelude.{bit_and, bit_or}
use Rattle.std.specs.Int.{bit_at}
use Rattle.std.proofs.Math.Nat.{mod-eq_of_lt}
use Rattle.std.proofs.Math.Seq.{take-append_seam}
use Rattle.std.proofs.lemmas.Bool.{cases_lt}
use Rattle.std.proofs.lemmas.List.{take-append-le, take_all, length-take}
use Rattle.std.proofs.lemmas.List.Elements.{All-nil, All-cons, All-head, All-tail, All-map, All-weaker}
use Rattle.std.proofs.lemmas.Nat.{or_disjoint, or_lt}
use Rattle.std.proofs.lemmas.Nat.Bits.{same_from_bits_below, same_from_bits, bit_at-zero, bit_at_and, bit_at_above}
use Rattle.vg_bits.specs.Words as formulas
use Rattle.vg_bits.specs.declared.word.Word.{Word}
use Rattle.vg_term.specs.Operations.{widths, answer, width_of, Fits}
use Rattle.vg_term.specs.Terms.{Term, AreTerms, nothing, extended, Stands, width_at, variable_count, listed, held}
use Rattle.vg_term.specs.Value.{value_of, bits_at, Assigns}
use Rattle.vg_term.specs.Folding.{Grows, StandsFor, Folds, Builds}
use Rattle.vg_term.specs.Wiring.{wire_value, AllCarry, AllStand, AreApart, AnswersAs, IsWired, BuildsWires}
use Rattle.vg_term.specs.declared.wire.Wire.{Wire}
use Rattle.vg_term.specs.declared.wire.Wire.TheVariants.{Fixed}
use Rattle.vg_term.specs.declared.node.TermId.{TermId}
use Rattle.vg_term.specs.declared.node.Op.{Op}
use Rattle.vg_term.specs.declared.node.Op.TheVariants as ops
use Rattle.vg_term.specs.declared.node.Parts.{Parts}
use Rattle.vg_term.specs.declared.node.Parts.TheVariants as parts_kinds
use Rattle.vg_term.specs.declared.stops.TermStop.{TermStop}
use Rattle.vg_term.proofs.Made.{same_widths, listed_held}
use Rattle.vg_term.proofs.Values.{bits_stay, widths_bits}
use Rattle.vg_term.proofs.Ranges.{IsRange, term_range, answer_range}
use Rattle.vg_term.proofs.Wires.{assigns_later, wire_value_later}

-- ---- what stood is taken back

pub taken : (old new : List Term) (n : ℕ) → Grows old new → n ≡ length old → take n new ≡ old
taken old new n g e = ap (take n) g.1 ∙ ap (λ k. take k (old ++ g.0)) e ∙ take-append_seam old g.0

pub longer : (old new : List Term) (n : ℕ) → Grows old new → n ≡ length old → n ≤ length new
longer old new n g e = subst (λ (ts : List Term). n ≤ length ts) (sym g.1) (omega (arith, length-append old g.0, e))

pub made_take : {terms : List Term} → AreTerms terms → (n : ℕ) → AreTerms (take n terms)
made_take nothing zero = nothing
made_take nothing (suc n) = nothing
made_take (extended terms t made next) n =
    elim (cases_lt n (length terms + 1)) [
      | inl short ↦ subst AreTerms (sym (take-append-le n terms (t ∷ []) (omega (arith, short)))) (made_take made n)
      | inr long ↦ subst AreTerms (sym (take_all n (terms ++ t ∷ []) (omega (arith, long, length-append terms (t ∷ []))))) (extended terms t made next)
    ]

pub forgotten : (entries now left : List Term) (n count : ℕ) → AreTerms entries → entries ≡ now → left ≡ take n entries
    → count ≡ variable_count (take n now) → length entries ≤ 4194304 →
    AreTerms left × (count ≡ variable_count left) × (length left ≤ 4194304)
forgotten entries now left n count made view is counted most = (
  subst AreTerms (sym is) (made_take made n),
  counted ∙ ap (λ (ts : List Term). variable_count (take n ts)) (sym view) ∙ ap variable_count (sym is),
  subst (λ (ts : List Term). length ts ≤ 4194304) (sym is) (omega (arith, length-take n entries, most)),
)

-- ---- sums without carries

apart_none : (a b w : ℕ) → a < 2 ^ w → ((i : ℕ) → i < w → min (bit_at a i) (bit_at b i) ≡ 0) → bit_and a b ≡ 0
apart_none a b w below each =
    same_from_bits (bit_and a b) 0
    (λ i. elim (cases_lt i w) [
      | inl low ↦ bit_at_and a b i ∙ each i low ∙ sym (bit_at-zero i)
      | inr high ↦ bit_at_and a b i ∙ ap (λ n. min n (bit_at b i)) (bit_at_above a w i below high)
          ∙ (let e : min 0 (bit_at b i) ≡ 0 = omega arith in e) ∙ sym (bit_at-zero i)
    ])

or_sum : (a b w : ℕ) → a < 2 ^ w → b < 2 ^ w → bit_and a b ≡ 0 → bit_or a b ≡ formulas.add w a b
or_sum a b w p q none =
    let whole : bit_or a b ≡ a + b = or_disjoint a b none in
    let below : bit_or a b < 2 ^ w = or_lt w a b p q in
    sym (ap (λ n. n % 2 ^ w) (sym whole) ∙ mod-eq_of_lt below)

or_answers : (terms : List Term) (a b : TermId) → AreTerms terms → All (Stands terms) (a ∷ b ∷ []) → Fits ops.Add (map (width_at terms) (a ∷ b ∷ []))
    → AreApart terms a b (width_at terms a) → AnswersAs terms ops.Add ops.Or (a ∷ b ∷ [])
or_answers terms a b made stand fits apart = record {
  fits = fits;
  width = refl;
  value = λ words assigns.
      let p = (term_range made words assigns a (All-head (Stands terms) a (b ∷ []) stand)).below in
      let q = (term_range made words assigns b (All-head (Stands terms) b [] (All-tail (Stands terms) a (b ∷ []) stand))).below in
      or_sum (value_of terms words a) (value_of terms words b) (width_at terms a) p (subst (λ n. value_of terms words b < 2 ^ n) (sym fits) q)
      (apart_none (value_of terms words a) (value_of terms words b) (width_at terms a) p (λ i low. apart.each i low words assigns));
}

pub or_for_sum : (terms : List Term) (op : Op) (p : Parts) (a b : TermId) → op ≡ ops.Add → p ≡ parts_kinds.Two a b → AreTerms terms
    → All (Stands terms) (listed p) → Fits op (map (width_at terms) (listed p)) → AreApart terms a b (width_at terms a) →
    AnswersAs terms op ops.Or (listed p)
or_for_sum terms op p a b e f made stand fits apart =
    subst (λ (o : Op). AnswersAs terms o ops.Or (listed p)) (sym e)
    (subst (λ (q : Parts). AnswersAs terms ops.Add ops.Or (listed q)) (sym f)
    (or_answers terms a b made (subst (λ (q : Parts). All (Stands terms) (listed q)) f stand)
    (subst (λ (q : Parts). Fits ops.Add (map (width_at terms) (listed q))) f (subst (λ (o : Op). Fits o (map (width_at terms) (listed p))) e fits)) apart))

-- ---- rebuilt from wires

module _ (old new : List Term) (op other : Op) (parts : List TermId) (wires : List Wire) (w : ℕ) (was : AreTerms old) (stand : All (Stands old) parts)
    (fits : Fits op (map (width_at old) parts))
    (carry : AllCarry old other parts wires w) (wide : w ≡ width_of other (map (width_at old) parts)) (same : AnswersAs old op other parts) where
  answer_below : (words : List Word) → Assigns words old → answer op (map (bits_at old words) parts) < 2 ^ w
  answer_below words assigns =
      let ranges : All IsRange (map (bits_at old words) parts) =
      All-map IsRange (bits_at old words) parts (All-weaker (Stands old) (λ (part : TermId). IsRange (bits_at old words part))
      (λ part there. term_range was words assigns part there) parts stand) in
      let ws : widths (map (bits_at old words) parts) ≡ map (width_at old) parts = widths_bits old words parts in
      let range = answer_range op (map (bits_at old words) parts) (subst (Fits op) (sym ws) fits) ranges in
      subst (λ n. answer op (map (bits_at old words) parts) < 2 ^ n) (ap (width_of op) ws ∙ sym (wide ∙ same.width)) range.below

  pub wired_stands_for : (id : TermId) → AreTerms new → Grows old new → IsWired new id wires 0 w → StandsFor new id op parts
  wired_stands_for id made grows wired = record {
    stands = wired.stands;
    width = wired.width ∙ wide ∙ same.width
        ∙ ap (width_of op) (sym (ap (λ (ts : List Term). map (width_at ts) parts) grows.1 ∙ same_widths old grows.0 parts stand));
    value = λ words assigns.
        let before = assigns_later old new grows words assigns in
        let bits_same : map (bits_at new words) parts ≡ map (bits_at old words) parts = ap (λ (ts : List Term). map (bits_at ts words) parts) grows.1
        ∙ bits_stay was grows.0 words parts stand in
        let d : Wire = Fixed false in
        same_from_bits_below w (value_of new words id) (answer op (map (bits_at old words) parts))
        (subst (λ n. value_of new words id < 2 ^ n) wired.width (term_range made words assigns id wired.stands).below) (answer_below words before)
        (λ i below.
        wired.bits words assigns i d below
        ∙ ap (λ k. wire_value new words (get_or wires k d)) (let e : 0 + i ≡ i = omega arith in e)
        ∙ wire_value_later old new was grows words (get_or wires i d) (carry.each i d below).stands
        ∙ (carry.each i d below).value words before
        ∙ ap (λ n. bit_at n i) (same.value words before))
        ∙ ap (answer op) (sym bits_same);
  }

  wired_builds : (result : Result TermId TermStop) → BuildsWires old new wires 0 w result → Builds old new op parts result
  wired_builds (Ok id) h = record { made = h.grown.made; grows = h.grown.grows; means = wired_stands_for id h.grown.made h.grown.grows h.wired }
  wired_builds (Err stop) h = record { made = h.grown.made; grows = h.grown.grows; means = tt }

-- bits of a term
pub slice_built : (old new : List Term) (from w : ℕ) (term : TermId) (wires : List Wire) (result : Result TermId TermStop) → AreTerms old
    → Stands old term → 0 < w → from + w ≤ width_at old term → AllCarry old (ops.Extract from w) (term ∷ []) wires w →
    BuildsWires old new wires 0 w result → Builds old new (ops.Extract from w) (term ∷ []) result
slice_built old new from w term wires result was there some within carry h =
    wired_builds old new (ops.Extract from w) (ops.Extract from w) (term ∷ []) wires w was
    (All-cons (Stands old) term [] there (All-nil (Stands old))) (some, within) carry refl
    (record { fits = (some, within); width = refl; value = λ words assigns. refl }) result h

-- the same, with the parts as they are held
module _ (old : List Term) (op : Op) (parts : List TermId) (p : Parts) (is : p ≡ held parts) (fits : Fits op (map (width_at old) parts))
    (stand : All (Stands old) parts) where
  same_parts : listed p ≡ parts
  same_parts = ap listed is ∙ listed_held op (width_at old) parts fits

  pub parts_stand : All (Stands old) (listed p)
  parts_stand = subst (All (Stands old)) (sym same_parts) stand

  pub rebuilt : (new : List Term) (other : Op) (wires : List Wire) (w : ℕ) (result : Result TermId TermStop) → AreTerms old
      → AllCarry old other (listed p) wires w → w ≡ width_of other (map (width_at old) (listed p)) →
      AnswersAs old op other (listed p) → BuildsWires old new wires 0 w result → Builds old new op parts result
  rebuilt new other wires w result was carry wide same h =
      wired_builds old new op other parts wires w was stand fits (subst (λ ps. AllCarry old other ps wires w) same_parts carry)
      (subst (λ ps. w ≡ width_of other (map (width_at old) ps)) same_parts wide)
      (subst (λ ps. AnswersAs old op other ps) same_parts same) result h

pub folds_builds : (old new : List Term) (op : Op) (parts : List TermId) (result : Result TermId TermStop) → AreTerms new
    → Folds old new op parts result → Builds old new op parts result
folds_builds old new op parts result made h = record { made = made; grows = h.grows; means = h.means }

pub carried_stand : (terms : List Term) (op : Op) (parts : List TermId) (wires : List Wire) (w : ℕ) → AllCarry terms op parts wires w → AllStand terms wires w
carried_stand terms op parts wires w h = record { each = λ i d below. (h.each i d below).stands }
