-- The tests of the grammar, token by token: each tells the side. So the tests lead to all that is spelled, and to nothing else.
use Rattle.std.proofs.Common.{ℕ, zero, suc, false, List, length, slice_get, sym, subst, arith}
use Rattle.std.proofs.lemmas.Option.{slice_get_past}
use Rattle.vg_forms.specs.Places.{State}
use Rattle.vg_forms.specs.Spelling.{spelled_inner, start, Spells}
use Rattle.vg_forms.specs.Guided.{guided_inner, Guides}
use Rattle.vg_forms.proofs.Checks.{first}
use Rattle.vg_forms.proofs.Choices.{After, Leading, leads, leads_some, guide, plain, implied, some_passes}
use Rattle.vg_forms.specs.declared.token.Token.{Token}
use Rattle.vg_forms.proofs.Checks.{Law}

module _ {K N G : Type 0} (law : Law K N G) where
  module _ (toks : List (Token K)) where
    pub inner_leads : (room : ℕ) → Leading law toks (spelled_inner law.grammar toks room)
    inner_leads zero n s a u is = absurd is
    inner_leads (suc room) n s a u is =
        let next = leads_some law toks (law.grammar.form n) s u (law.form_eats n) (leads law toks (spelled_inner law.grammar toks room)
        (inner_leads room) (law.grammar.form n) s a u is) in
        (next.0, next.1, implied (first law.grammar (law.grammar.form n) next.0) (law.grammar.begins n next.0) (law.form_begins n next.0) next.2)

    pub inner_guided : (room : ℕ) (n : N) (s : State G) (a : ℕ) (u : State G) → spelled_inner law.grammar toks room n s a u
        → After law (law.hints.follows n) (slice_get toks u.at) → guided_inner law.grammar toks room n s a u
    inner_guided zero n s a u is after = absurd is
    inner_guided (suc room) n s a u is after =
        let next = inner_leads (suc room) n s a u is in (
          some_passes law (law.grammar.begins n) (slice_get toks s.at) next.0 next.1 next.2,
          guide law toks (spelled_inner law.grammar toks room) (guided_inner law.grammar toks room) (inner_leads room) (inner_guided room)
              (law.grammar.form n) (law.hints.follows n) (law.form_tells n) s a u is after,
        )

    -- what tokens spell, the tests lead to
    pub guided_of : (room : ℕ) (tree : G) → Spells law.grammar room toks tree → Guides law.grammar room toks tree
    guided_of room tree (root, is) = (
      root,
      guide law toks (spelled_inner law.grammar toks room) (guided_inner law.grammar toks room) (inner_leads room)
          (inner_guided room) law.grammar.unit (λ t. false) law.unit_tells (start law.grammar) root
          (record { at = length toks; tree = tree }) is
          (subst (λ o. After law (λ t. false) o) (sym (slice_get_past toks (length toks) (omega arith))) tt),
    )

    pub inner_plain : (room : ℕ) (n : N) (s : State G) (a : ℕ) (u : State G) → guided_inner law.grammar toks room n s a u
        → spelled_inner law.grammar toks room n s a u
    inner_plain zero n s a u is = absurd is
    inner_plain (suc room) n s a u (so, is) = plain law toks (guided_inner law.grammar toks room) (spelled_inner law.grammar toks room)
        (inner_plain room) (law.grammar.form n) s a u is

    -- and what they lead to is spelled
    pub spelled_of : (room : ℕ) (tree : G) → Guides law.grammar room toks tree → Spells law.grammar room toks tree
    spelled_of room tree (root, is) = (
      root,
      plain law toks (guided_inner law.grammar toks room) (spelled_inner law.grammar toks room) (inner_plain room) law.grammar.unit (start law.grammar) root
          (record { at = length toks; tree = tree }) is,
    )
