-- Facts that are simplified one after another.
use Rattle.std.proofs.Common.{◌≡◌, ◌↔◌, ℕ, ◌+◌, ◌<◌, List, [], ◌∷◌, ◌++◌, length, get_or, All, refl, sym, ap, ◌∙◌, inl, inr, arith}
use Rattle.std.proofs.lemmas.Bool.{cases_lt}
use Rattle.std.proofs.lemmas.List.Elements.{All-push, All-nil}
use Rattle.std.proofs.lemmas.List.{get_or_append_left, get_or_default, get_or_push, length_push}
use Rattle.vg_bits.specs.declared.word.Word.{Word}
use Rattle.vg_term.specs.Terms.{Term, AreTerms, Stands, width_at}
use Rattle.vg_term.specs.Value.{value_of, Assigns}
use Rattle.vg_term.specs.Folding.{Grows}
use Rattle.vg_term.specs.Wiring.{Grown}
use Rattle.vg_term.specs.declared.node.TermId.{TermId}
use Rattle.vg_term.proofs.Wires.{grown_on, stands_later, width_later, value_later, assigns_later}
use Rattle.vg_simp.proofs.Sames.{grown_none, true_before, all_stand_later}
use Rattle.vg_simp.specs.Sameness.{IsSame}
use Rattle.vg_blast.specs.Blasting.{AreTrue}
use Rattle.vg_decide.specs.Deciding.{AreAsGood}

-- the first of the facts are true
abbrev pub FirstAreTrue : List Term → List Word → List TermId → ℕ → Type 0
FirstAreTrue terms words facts k = (i : ℕ) (d : TermId) → i < k → value_of terms words (get_or facts i d) ≡ 1

-- the first of the facts were simplified
pub record Passed (initial terms : List Term) (facts simpler : List TermId) (k : ℕ) : Type 0 where
  pub grown : Grown initial terms
  pub stand : All (Stands terms) simpler
  pub flags : All (λ fact. width_at terms fact ≡ 1) simpler
  pub same : (words : List Word) → Assigns words terms → AreTrue terms words simpler ↔ FirstAreTrue terms words facts k

pub none_passed : (terms : List Term) (facts : List TermId) → AreTerms terms → Passed terms terms facts [] 0
none_passed terms facts made = record {
  grown = grown_none terms made;
  stand = All-nil (Stands terms);
  flags = All-nil (λ fact. width_at terms fact ≡ 1);
  same = λ words assigns. ((λ true i d below. absurd (omega (arith, below))), (λ first. All-nil (λ fact. value_of terms words fact ≡ 1)));
}

-- what was true of facts is true of them where terms were added
true_later : (old new : List Term) → AreTerms old → Grows old new → (words : List Word) (facts : List TermId) → All (Stands old) facts
    → AreTrue old words facts → AreTrue new words facts
true_later old new made grows words facts stand true i d below = value_later old new made grows words (get_or facts i d) (stand i d below) ∙ true i d below

true_front : (terms : List Term) (words : List Word) (xs : List TermId) (x : TermId) → AreTrue terms words (xs ++ x ∷ []) → AreTrue terms words xs
true_front terms words xs x true i d below = sym (ap (value_of terms words) (get_or_append_left xs (x ∷ []) d i below))
    ∙ true i d (omega (arith, below, length_push xs x))

true_last : (terms : List Term) (words : List Word) (xs : List TermId) (x : TermId) → AreTrue terms words (xs ++ x ∷ []) → value_of terms words x ≡ 1
true_last terms words xs x true = sym (ap (value_of terms words) (get_or_push xs x x (length xs) refl)) ∙ true (length xs) x (omega (arith, length_push xs x))

module _ {initial terms new : List Term} {facts simpler : List TermId} (k : ℕ) (none other : TermId) (stands : All (Stands initial) facts)
    (flags : All (λ fact. width_at initial fact ≡ 1) facts)
    (p : Passed initial terms facts simpler k) (grown : Grown terms new) (same : IsSame new simpler (get_or facts k none) other)
    (within : k < length facts) where
  made : AreTerms terms
  made = p.grown.made

  abbrev fact : TermId
  fact = get_or facts k none

  here : (d : TermId) → get_or facts k d ≡ fact
  here d = get_or_default facts k d none within

  stands_fact : Stands terms fact
  stands_fact = stands_later initial terms p.grown.grows fact (stands k none within)

  flag : width_at terms fact ≡ 1
  flag = width_later initial terms p.grown.grows fact (stands k none within) ∙ flags k none within

  stays : (words : List Word) (i : ℕ) (d : TermId) → i < k → value_of new words (get_or facts i d) ≡ value_of terms words (get_or facts i d)
  stays words i d below = value_later terms new made grown.grows words (get_or facts i d) (stands_later initial terms p.grown.grows (get_or facts i d)
      (stands i d (omega (arith, below, within))))

  forward : (words : List Word) → Assigns words new → AreTrue new words (simpler ++ other ∷ []) → FirstAreTrue new words facts (k + 1)
  forward words assigns true i d below =
      let front = true_front new words simpler other true in
      let before = true_before terms new made grown.grows words simpler p.stand front in
      let first = (p.same words (assigns_later terms new grown.grows words assigns)).0 before in
      elim (cases_lt i k) [
        | inl less ↦ stays words i d less ∙ first i d less
        | inr least ↦
            let last : i ≡ k = omega (arith, below, least) in
            ap (λ (j : ℕ). value_of new words (get_or facts j d)) last ∙ ap (value_of new words) (here d) ∙ sym (same.value words assigns front)
            ∙ true_last new words simpler other true
      ]

  back : (words : List Word) → Assigns words new → FirstAreTrue new words facts (k + 1) → AreTrue new words (simpler ++ other ∷ [])
  back words assigns first =
      let before = (p.same words (assigns_later terms new grown.grows words assigns)).1 (λ i d below. sym (stays words i d below)
      ∙ first i d (omega (arith, below))) in
      let front = true_later terms new made grown.grows words simpler p.stand before in
      let last = same.value words assigns front ∙ sym (ap (value_of new words) (here fact)) ∙ first k fact (omega arith) in
      All-push (λ f. value_of new words f ≡ 1) simpler other front last

  pub passed_on : Passed initial new facts (simpler ++ other ∷ []) (k + 1)
  passed_on = record {
    grown = grown_on initial terms new p.grown grown;
    stand = All-push (Stands new) simpler other (all_stand_later terms new grown.grows simpler p.stand) same.stands;
    flags =
        All-push (λ f. width_at new f ≡ 1) simpler other
        (λ i d below. width_later terms new grown.grows (get_or simpler i d) (p.stand i d below) ∙ p.flags i d below)
        (same.width ∙ width_later terms new grown.grows fact stands_fact ∙ flag);
    same = λ words assigns. (forward words assigns, back words assigns);
  }

-- where all facts were simplified, the others are as good
pub all_passed : {initial terms : List Term} {facts simpler : List TermId} (k : ℕ) → Passed initial terms facts simpler k → k ≡ length facts
    → AreAsGood terms facts simpler
all_passed {terms = terms} {facts = facts} {simpler = simpler} k p all = record {
  stand = p.stand;
  flags = p.flags;
  same = λ words assigns. (
    (λ true i d below. (p.same words assigns).0 true i d (omega (arith, below, all))),
    (λ true. (p.same words assigns).1 (λ i d below. true i d (omega (arith, below, all)))),
  );
}
