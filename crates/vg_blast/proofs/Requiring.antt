-- The facts as clauses.
use Rattle.std.proofs.Common.{◌≡◌, ℕ, zero, suc, ◌+◌, ◌<◌, ◌≤◌, List, map, length, get_or, Bool, true, false, cond, ◌⊎◌, refl, sym, ap, subst, ◌∙◌}
use Rattle.std.proofs.Common.{inl, inr, arith, All, add-one}
use Rattle.std.specs.Prelude.{ℤ, ◌&&◌}
use Rattle.std.proofs.lemmas.Bool.{cases_Bool, cases_lt, and_parts, true≢false}
use Rattle.std.proofs.lemmas.List.{length-map}
use Rattle.std.proofs.lemmas.List.Elements.{All-weaker}
use Rattle.vg_bits.specs.Words.{bit}
use Rattle.vg_bits.specs.declared.word.Word.{Word}
use Rattle.vg_cnf.specs.Clauses.{ClauseSet, IsOver, makes_true}
use Rattle.vg_term.specs.Terms.{Term, AreTerms, width_at}
use Rattle.vg_term.specs.Value.{value_of, Assigns}
use Rattle.vg_term.specs.declared.node.TermId.{TermId}
use Rattle.vg_blast.specs.Circuits.{truth, Holds}
use Rattle.vg_blast.specs.Blasting.{BitName, Agree}
use Rattle.vg_blast.specs.Marking.{is_marked}
use Rattle.vg_blast.specs.State.{word_at, IsState}
use Rattle.vg_blast.specs.declared.disjuncts.Part.{Part}
use Rattle.vg_blast.specs.Facts.{is_leaf, first_of, literal_of, HasLiteral, HaveLiterals, AddsIf, required_to, Requires}
use Rattle.vg_blast.proofs.Splits.{AreClosed, IsFlagPart, literal_value, seen, split_flags, split_true}

-- ---- one term

bit_true : (b : Bool) → bit b ≡ 1 → b ≡ true
bit_true true e = refl
bit_true false e = let none : ⊥ = omega (arith, e) in absurd none

true_bit : (b : Bool) → b ≡ true → bit b ≡ 1
true_bit b e = ap bit e

has_literal : (terms : List Term) (marks : List Bool) (n : ℕ) (set : ClauseSet) (lists : List (List ℤ)) (names : List BitName) (id : TermId)
    → IsState terms marks n set lists names → id.0 < n → is_marked marks id ≡ true → width_at terms id ≡ 1 → HasLiteral set lists id
has_literal terms marks n set lists names id state below marked flag =
    let word = state.each id below marked in
    record { within = omega (arith, below, state.count); some = omega (arith, word.width, flag); over = word.over }

later_literal : (old new : ClauseSet) (lists more : List (List ℤ)) (id : TermId) → new.variables ≡ old.variables → more ≡ lists
    → HasLiteral old lists id → HasLiteral new more id
later_literal old new lists more id e same has =
    subst (λ ls. HasLiteral new ls id) (sym same) (record {
      within = has.within;
      some = has.some;
      over =
          subst (λ n. All (IsOver n) (word_at lists id)) (sym e) has.over;
    })

-- the parts of a term have literals, and keep them as clauses are added
pub have_literals : {terms : List Term} → AreTerms terms → (marks : List Bool) (old new : ClauseSet) (lists more : List (List ℤ))
    (names : List BitName) (id : TermId) → AreClosed terms marks → IsState terms marks (length terms) old lists names → id.0 < length terms
    → is_marked marks id ≡ true →
    width_at terms id ≡ 1 → new.variables ≡ old.variables → more ≡ lists → HaveLiterals terms new more id
have_literals {terms} made marks old new lists more names id closed state stands marked one e same = λ parts split.
    All-weaker (IsFlagPart terms marks) (λ (p : Part). HasLiteral new more p.term)
    (λ p flag. later_literal old new lists more p.term e same (has_literal terms marks (length terms) old lists names p.term state flag.stands
    flag.marked flag.one))
    parts (split_flags made marks closed id parts (record { stands = stands; marked = marked; one = one }) split)

-- ---- one more term

pub requires_none : (terms : List Term) (names : List BitName) (asserted : List Bool) (set : ClauseSet) → Requires terms names asserted 0 set set
requires_none terms names asserted set = record {
  variables = refl;
  weaker = λ v h. h;
  sound = λ words v assigns agree h id below asked. let none : ⊥ = omega (arith, below) in absurd none;
  held = λ words v assigns agree h all. h;
  literals = omega arith;
}

below_cases : (m n : ℕ) → m < n + 1 → (m < n) ⊎ (m ≡ n)
below_cases m n h = elim (cases_lt m n) [ inl less ↦ inl less | inr past ↦ inr (omega (arith, h, past)) ]

pub requires_more : {terms : List Term} → AreTerms terms → (marks asserted : List Bool) (n : ℕ) (old mid new : ClauseSet) (lists : List (List ℤ))
    (names : List BitName) (id : TermId) → id.0 ≡ n → id.0 < length terms → AreClosed terms marks
    → IsState terms marks (length terms) old lists names →
    (is_marked asserted id ≡ true → is_marked marks id ≡ true) → (is_marked asserted id ≡ true → width_at terms id ≡ 1)
    → Requires terms names asserted n old mid →
    AddsIf (is_marked asserted id && is_leaf terms id) terms mid new lists id → Requires terms names asserted (n + 1) old new
requires_more {terms} made marks asserted n old mid new lists names id at below closed state marked flag before adds =
    let cost_is : required_to asserted (n + 1) ≡ required_to asserted n + cond (is_marked asserted id) 128 0 = ap (required_to asserted) (add-one n)
    ∙ ap (λ k. required_to asserted n + cond (get_or asserted k false) 128 0) (sym at) in
    let same_id : (x : TermId) → x.0 ≡ n → x ≡ id = λ x e. (λ j. record { 0 = (e ∙ sym at) j }) in
    elim (cases_Bool (is_marked asserted id && is_leaf terms id)) [
      | inl asked ↦
          let parts = and_parts (is_marked asserted id) (is_leaf terms id) asked in
          let disjuncts = adds.added asked in
          let added = disjuncts.adds in
          let clause : List ℤ = map (literal_of lists) disjuncts.parts in
          let word = state.each id below (marked parts.0) in
          let value : (words : List Word) (v : List Bool) → Assigns words terms → Agree v terms words names → Holds v old
          → value_of terms words id ≡ bit (truth v (first_of lists id)) =
          λ words v assigns agree h. literal_value terms old names lists id words v word (flag parts.0) assigns h agree in
          let whole : (words : List Word) (v : List Bool) → Assigns words terms → Agree v terms words names → Holds v old
          → makes_true v clause ≡ truth v (first_of lists id) =
          λ words v assigns agree h.
          split_true marks old lists words v (seen made marks old lists names state closed words v assigns h agree) id disjuncts.parts
          (record { stands = below; marked = marked parts.0; one = flag parts.0 }) disjuncts.are.split in
          record {
            variables = added.variables ∙ before.variables;
            weaker = λ v h. before.weaker v (added.holds v h).0;
            sound = λ words v assigns agree h x lower is_asked.
                let both = added.holds v h in
                elim (below_cases x.0 n lower) [
                  | inl earlier ↦ before.sound words v assigns agree both.0 x earlier is_asked
                  | inr here ↦
                      subst (λ (y : TermId). value_of terms words y ≡ 1) (sym (same_id x here))
                      (value words v assigns agree (before.weaker v both.0) ∙ true_bit (truth v (first_of lists id))
                      (sym (whole words v assigns agree (before.weaker v both.0)) ∙ both.1))
                ];
            held = λ words v assigns agree h all.
                let earlier = before.held words v assigns agree h (λ x lower is_asked. all x (omega (arith, lower)) is_asked) in
                added.held v earlier (whole words v assigns agree h ∙ bit_true (truth v (first_of lists id))
                (sym (value words v assigns agree h) ∙ all id (omega (arith, at)) asked));
            literals = let e : cond {A = ℕ} (is_marked asserted id) 128 0 ≡ cond {A = ℕ} true 128 0 = ap (λ b. cond {A = ℕ} b 128 0) parts.0 in
                omega (arith, cost_is, e, length-map disjuncts.parts (literal_of lists), disjuncts.are.most, added.literals, before.literals);
          }
      | inr not_asked ↦
          let same = adds.kept not_asked in
          subst (Requires terms names asserted (n + 1) old) (sym same) (record {
            variables = before.variables;
            weaker = before.weaker;
            sound = λ words v assigns agree h x lower is_asked.
                elim (below_cases x.0 n lower) [
                  | inl earlier ↦ before.sound words v assigns agree h x earlier is_asked
                  | inr here ↦ absurd (true≢false (sym is_asked ∙ ap (λ (y : TermId). is_marked asserted y && is_leaf terms y) (same_id x here) ∙ not_asked))
                ];
            held = λ words v assigns agree h all. before.held words v assigns agree h (λ x lower is_asked. all x (omega (arith, lower)) is_asked);
            literals = omega (arith, cost_is, before.literals);
          })
    ]

pub required_grows : (asserted : List Bool) (m n : ℕ) → m ≤ n → required_to asserted m ≤ required_to asserted n
required_grows asserted zero n h = omega arith
required_grows asserted (suc m) zero h = let none : ⊥ = omega (arith, h) in absurd none
required_grows asserted (suc m) (suc n) h =
    elim (cases_lt m n) [
      | inl less ↦ omega (arith, required_grows asserted (suc m) n (omega (arith, less)))
      | inr past ↦ let e : n ≡ m = omega (arith, past, h) in subst (λ k. required_to asserted (suc m) ≤ required_to asserted (suc k)) (sym e) (omega arith)
    ]
