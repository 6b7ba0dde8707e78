-- What all clauses together say of the facts.
use Rattle.std.proofs.Common.{◌≡◌, ℕ, zero, suc, ◌^◌, ◌<◌, List, [], ◌∷◌, length, get_or, slice_get, Some, Option, Bool, true, false, cond, refl, sym}
use Rattle.std.proofs.Common.{ap, subst, ◌∙◌, inl, inr, arith, All, Contains}
use Rattle.std.specs.Prelude.{ℤ, ◌&&◌, nat_eq, bit_and}
use Rattle.std.proofs.lemmas.Bool.{cases_Bool, cases_lt, and_parts, and_from, false≢true, true≢false, eqb-true}
use Rattle.std.proofs.lemmas.List.Elements.{All-nil, All-cons, All-contains}
use Rattle.std.proofs.lemmas.List.{get_or_past}
use Rattle.std.proofs.lemmas.Nat.{and_le_l, and_le_r}
use Rattle.vg_bits.specs.declared.word.Word.{Word}
use Rattle.vg_cnf.specs.Clauses.{ClauseSet}
use Rattle.vg_term.specs.Terms.{Term, Stands, AreTerms, listed, width_at}
use Rattle.vg_term.specs.Value.{value_of, bits_at, entry_value}
use Rattle.vg_term.specs.declared.node.TermId.{TermId}
use Rattle.vg_term.specs.declared.node.Op.TheVariants as ops
use Rattle.vg_term.specs.declared.node.Parts.{Parts}
use Rattle.vg_term.specs.declared.node.Parts.TheVariants as parts
use Rattle.vg_term.specs.declared.node.Node.TheVariants as nodes
use Rattle.vg_term.proofs.Made.{is_made}
use Rattle.vg_term.proofs.Values.{value_follows}
use Rattle.vg_blast.specs.Circuits.{number}
use Rattle.vg_blast.specs.Cost.{parts_at, parts_in}
use Rattle.vg_blast.specs.Blasting.{BitName, AreTrue, IsNamed, IsBlasted}
use Rattle.vg_blast.specs.Marking.{followed, conjuncts_in, is_marked, Follows, start, down, AreMarks}
use Rattle.vg_blast.specs.declared.marking.Follow.{Follow}
use Rattle.vg_blast.specs.declared.marking.Follow.TheVariants as follow
use Rattle.vg_blast.specs.State.{word_at, IsState}
use Rattle.vg_blast.specs.Facts.{is_leaf, none_of, Requires}
use Rattle.vg_blast.proofs.Costs.{reached_follows}
use Rattle.vg_blast.proofs.Numbers.{number-below}

-- ---- conjunctions

-- a term that is no leaf is a conjunction of two parts of width 1
pub record IsConjunction (terms : List Term) (id : TermId) : Type 0 where
  pub left : TermId
  pub right : TermId
  pub here : slice_get terms id.0 ≡ Some (nodes.Op ops.And (parts.Two left right), 1)
  pub followed_are : followed follow.Conjuncts terms id ≡ left ∷ right ∷ []

two_parts : {terms : List Term} → AreTerms terms → (id : TermId) (ps : Parts) (w : ℕ) → slice_get terms id.0 ≡ Some (nodes.Op ops.And ps, w)
    → (a : TermId) × (b : TermId) × (ps ≡ parts.Two a b)
two_parts made id (parts.Two a b) w e = (a, b, refl)
two_parts made id parts.Zero w e = absurd (is_made made id.0 ops.And parts.Zero w e).fits
two_parts made id (parts.One a) w e = absurd (is_made made id.0 ops.And (parts.One a) w e).fits
two_parts made id (parts.Three c a b) w e = absurd (is_made made id.0 ops.And (parts.Three c a b) w e).fits

and_conjunction : {terms : List Term} → AreTerms terms → (id : TermId) (ps : Parts) (w : ℕ) (flag : Bool) → flag ≡ nat_eq w 1
    → slice_get terms id.0 ≡ Some (nodes.Op ops.And ps, w) → none_of (cond flag (listed ps) []) ≡ false → IsConjunction terms id
and_conjunction {terms} made id ps w true e here no_leaf =
    let two = two_parts made id ps w here in
    let one : w ≡ 1 = eqb-true w 1 (sym e) in
    let is : slice_get terms id.0 ≡ Some (nodes.Op ops.And (parts.Two two.0 two.1), 1) = here ∙ (λ j. Some (nodes.Op ops.And (two.2 j), one j)) in
    record { left = two.0; right = two.1; here = is; followed_are = ap conjuncts_in is }
and_conjunction made id ps w false e here no_leaf = absurd (true≢false no_leaf)

entry_conjunction : {terms : List Term} → AreTerms terms → (id : TermId) (o : Option Term) → slice_get terms id.0 ≡ o
    → none_of (conjuncts_in o) ≡ false → IsConjunction terms id
entry_conjunction made id (Some (nodes.Op ops.And ps, w)) e no_leaf = and_conjunction made id ps w (nat_eq w 1) refl e no_leaf
entry_conjunction made id _ e no_leaf = absurd (true≢false no_leaf)

is_conjunction : {terms : List Term} → AreTerms terms → (id : TermId) → is_leaf terms id ≡ false → IsConjunction terms id
is_conjunction {terms} made id no_leaf = entry_conjunction made id (slice_get terms id.0) refl no_leaf

-- what is followed from a term that is a leaf is nothing
no_parts : (ids : List TermId) (p : TermId) → none_of ids ≡ true → Contains ids p → ⊥
no_parts [] p e there = omega (arith, there.1)
no_parts (id ∷ ids) p e there = false≢true e

conjunction_value : {terms : List Term} → AreTerms terms → (words : List Word) (id : TermId) (is : IsConjunction terms id)
    → value_of terms words id ≡ bit_and (value_of terms words is.left) (value_of terms words is.right)
conjunction_value {terms} made words id is = value_follows made words id ∙ ap (entry_value words (bits_at terms words)) is.here

-- ---- going down from the facts

-- what is reached by conjunctions is reached by parts
conjuncts_are_parts : {terms : List Term} → AreTerms terms → (id p : TermId) → Contains (followed follow.Conjuncts terms id) p → Contains (parts_at terms id) p
conjuncts_are_parts {terms} made id p there =
    elim (cases_Bool (is_leaf terms id)) [
      | inl leaf ↦ absurd (no_parts (followed follow.Conjuncts terms id) p leaf there)
      | inr no_leaf ↦
          let is = is_conjunction made id no_leaf in
          subst (λ ids. Contains ids p) (is.followed_are ∙ sym (ap parts_in is.here)) there
    ]

pub by_parts : {terms : List Term} → AreTerms terms → (facts : List TermId) (id : TermId) → Follows follow.Conjuncts terms facts id
    → Follows follow.Parts terms facts id
by_parts made facts _ (start x there) = start x there
by_parts made facts _ (down x part before there) = down x part (by_parts made facts x before) (conjuncts_are_parts made x part there)

-- marks that are closed hold all that is followed
pub all_marked : {terms : List Term} {facts : List TermId} {marks : List Bool} (f : Follow) → AreMarks f terms facts 0 marks → (id : TermId)
    → Follows f terms facts id → is_marked marks id ≡ true
all_marked {facts = facts} {marks = marks} f are _ (start x there) = All-contains (λ y. is_marked marks y ≡ true) facts x are.starts there
all_marked {terms = terms} {marks = marks} f are _ (down x part before there) =
    All-contains (λ y. is_marked marks y ≡ true) (followed f terms x) part (are.closed x (λ h. omega (arith, h)) (all_marked f are x before)) there

-- the parts of a conjunction have width 1
of_two : (P : TermId → Type 0) (a b p : TermId) → P a → P b → Contains (a ∷ b ∷ []) p → P p
of_two P a b p pa pb there = All-contains P (a ∷ b ∷ []) p (All-cons P a (b ∷ []) pa (All-cons P b [] pb (All-nil P))) there

conjunct_flag : {terms : List Term} → AreTerms terms → (id p : TermId) → Contains (followed follow.Conjuncts terms id) p → width_at terms p ≡ 1
conjunct_flag {terms} made id p there =
    elim (cases_Bool (is_leaf terms id)) [
      | inl leaf ↦ absurd (no_parts (followed follow.Conjuncts terms id) p leaf there)
      | inr no_leaf ↦
          let is = is_conjunction made id no_leaf in
          let m = is_made made id.0 ops.And (parts.Two is.left is.right) 1 is.here in
          of_two (λ (x : TermId). width_at terms x ≡ 1) is.left is.right p (sym m.width) (sym m.fits ∙ sym m.width)
          (subst (λ ids. Contains ids p) is.followed_are there)
    ]

pub asserted_flag : {terms : List Term} → AreTerms terms → (facts : List TermId) → All (λ fact. width_at terms fact ≡ 1) facts → (id : TermId)
    → Follows follow.Conjuncts terms facts id → width_at terms id ≡ 1
asserted_flag {terms} made facts flags _ (start x there) = All-contains (λ fact. width_at terms fact ≡ 1) facts x flags there
asserted_flag made facts flags _ (down x part before there) = conjunct_flag made x part there

-- ---- which terms are true

both_ones : (a b : ℕ) → a ≡ 1 → b ≡ 1 → bit_and a b ≡ 1
both_ones a b e f = (λ j. bit_and (e j) (f j))

one_of : (a b n : ℕ) → a < 2 → b < 2 → n ≡ bit_and a b → n ≡ 1 → (a ≡ 1) × (b ≡ 1)
one_of a b n h k e one = (omega (arith, h, and_le_l a b, e, one), omega (arith, k, and_le_r a b, e, one))

-- where the asserted terms that are no conjunctions are true, all asserted ones are
asserted_true : {terms : List Term} → AreTerms terms → (words : List Word) (facts : List TermId) (asserted : List Bool)
    → AreMarks follow.Conjuncts terms facts 0 asserted →
    ((id : TermId) → id.0 < length terms → is_marked asserted id && is_leaf terms id ≡ true → value_of terms words id ≡ 1) →
    (k : ℕ) (id : TermId) → id.0 < k → id.0 < length terms → is_marked asserted id ≡ true → value_of terms words id ≡ 1
asserted_true made words facts asserted are leaves zero id h within marked = let none : ⊥ = omega (arith, h) in absurd none
asserted_true {terms} made words facts asserted are leaves (suc k) id h within marked =
    elim (cases_Bool (is_leaf terms id)) [
      | inl leaf ↦ leaves id within (and_from (is_marked asserted id) (is_leaf terms id) marked leaf)
      | inr no_leaf ↦
          let is = is_conjunction made id no_leaf in
          let both : All (λ (p : TermId). is_marked asserted p ≡ true) (is.left ∷ is.right ∷ []) =
          subst (All (λ (p : TermId). is_marked asserted p ≡ true)) is.followed_are (are.closed id (λ h. omega (arith, h)) marked) in
          let before : All (λ (p : TermId). p.0 < id.0) (is.left ∷ is.right ∷ []) = (is_made made id.0 ops.And (parts.Two is.left is.right) 1 is.here).before in
          let left_before = before 0 is.left (omega arith) in
          let right_before = before 1 is.right (omega arith) in
          conjunction_value made words id is
          ∙ both_ones (value_of terms words is.left) (value_of terms words is.right)
          (asserted_true made words facts asserted are leaves k is.left (omega (arith, left_before, h)) (omega (arith, left_before, within))
          (both 0 is.left (omega arith)))
          (asserted_true made words facts asserted are leaves k is.right (omega (arith, right_before, h)) (omega (arith, right_before, within))
          (both 1 is.right (omega arith)))
    ]

-- where the facts are true, all asserted terms are
followed_true : {terms : List Term} → AreTerms terms → (words : List Word) (facts : List TermId)
    → ((id : TermId) → Follows follow.Parts terms facts id → width_at terms id ≡ 1 → value_of terms words id < 2) → AreTrue terms words facts →
    (id : TermId) → Follows follow.Conjuncts terms facts id → value_of terms words id ≡ 1
followed_true {terms} made words facts small true_facts _ (start x there) = All-contains (λ fact. value_of terms words fact ≡ 1) facts x true_facts there
followed_true {terms} made words facts small true_facts _ (down x part before there) =
    let here = followed_true made words facts small true_facts x before in
    let below : (p : TermId) → Contains (followed follow.Conjuncts terms x) p → value_of terms words p < 2 =
    λ p inside. small p (by_parts made facts p (down x p before inside)) (conjunct_flag made x p inside) in
    elim (cases_Bool (is_leaf terms x)) [
      | inl leaf ↦ absurd (no_parts (followed follow.Conjuncts terms x) part leaf there)
      | inr no_leaf ↦
          let is = is_conjunction made x no_leaf in
          let inside : (p : TermId) → Contains (is.left ∷ is.right ∷ []) p → Contains (followed follow.Conjuncts terms x) p =
          λ p i. subst (λ ids. Contains ids p) (sym is.followed_are) i in
          let ones =
          one_of (value_of terms words is.left) (value_of terms words is.right) (value_of terms words x)
          (below is.left (inside is.left (0, omega arith, refl))) (below is.right (inside is.right (1, omega arith, refl)))
          (conjunction_value made words x is) here in
          of_two (λ (p : TermId). value_of terms words p ≡ 1) is.left is.right part ones.0 ones.1 (subst (λ ids. Contains ids part) is.followed_are there)
    ]

-- ---- all together

stands_marked : (terms : List Term) (marks : List Bool) → length marks ≡ length terms → (id : TermId) → is_marked marks id ≡ true → id.0 < length terms
stands_marked terms marks long id marked =
    elim (cases_lt id.0 (length terms))
    [ inl within ↦ within | inr past ↦ absurd (false≢true (sym (get_or_past marks id.0 false (omega (arith, past, long))) ∙ marked)) ]

pub blasted : {terms : List Term} → AreTerms terms → (facts : List TermId) (marks asserted : List Bool) (old new : ClauseSet) (lists : List (List ℤ))
    (names bits : List BitName) → All (Stands terms) facts → All (λ fact. width_at terms fact ≡ 1) facts →
    AreMarks follow.Parts terms facts 0 marks → AreMarks follow.Conjuncts terms facts 0 asserted → IsState terms marks (length terms) old lists names
    → Requires terms names asserted (length terms) old new → bits ≡ names → IsBlasted terms facts new bits
blasted {terms} made facts marks asserted old new lists names bits stand flags are_marks are_asserted state required bits_are =
    subst (IsBlasted terms facts new) (sym bits_are) (record {
      names_ok = record { named = subst (λ n. All (IsNamed terms n) names) (sym required.variables) state.names_ok.named; once = state.names_ok.once };
      complete = λ id reached variable at h.
          let marked = all_marked follow.Parts are_marks id (reached_follows terms facts id reached) in
          state.complete id (stands_marked terms marks are_marks.long id marked) marked variable at h;
      sound = λ words assigns true_facts.
          let before = state.models words assigns in
          let v = before.0 in
          let small : (id : TermId) → Follows follow.Parts terms facts id → width_at terms id ≡ 1 → value_of terms words id < 2 =
          λ id reached flag.
          let marked = all_marked follow.Parts are_marks id reached in
          let word = state.each id (stands_marked terms marks are_marks.long id marked) marked in
          let is = word.is words v assigns before.1.each_clause before.2 in
          subst (λ n. n < 2) is (subst (λ n. number v (word_at lists id) < 2 ^ n) (word.width ∙ flag) (number-below v (word_at lists id))) in (
            v,
            record {
              each_variable = before.1.each_variable ∙ sym required.variables;
              each_clause = required.held words v assigns before.2 before.1.each_clause
                  (λ id within asked. followed_true made words facts small true_facts id (are_asserted.sound id
                  (and_parts (is_marked asserted id) (is_leaf terms id) asked).0));
            },
            before.2,
          );
      exact = λ values words model assigns agree.
          λ k d h.
          let fact : TermId = get_or facts k d in
          let within : fact.0 < length terms = stand k d h in
          asserted_true made words facts asserted are_asserted (required.sound words values assigns agree model.each_clause) (suc fact.0) fact
          (omega arith) within (are_asserted.starts k d h);
    })
