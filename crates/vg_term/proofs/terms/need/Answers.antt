use Rattle.std.proofs.Common.{refl, inl, inr, ◌≡◌, ◌∙◌, sym, Some, List, ◌∷◌, [], ◌++◌, ap, slice_get, arith}
use Rattle.vg_term.specs.Terms.{Term}
use Rattle.vg_term.proofs.Standing.{found, absent, contains_at, last_is, answered, added}
use Rattle.vg_term.proofs.terms.need.Goals as goal

pub returns-in-Some : goal.returns-in-Some
returns-in-Some c =
    let is = found c.args.nodes.now.entries c.args.node c.args.width c.in-Some.at c.requires.width (sym c.get_index_of.ensures.index ∙ c.in-Some.is) in
    let there = contains_at c.args.nodes.now.entries c.in-Some.at (c.args.node, c.args.width) is in
    record { term = is; either = inl (there, refl); kept = tt; full = ((λ e. absurd (answered e)), (λ none. absurd (none.0 there))) }

pub returns-then-number-ge-MOST_TERMS : goal.returns-then-number-ge-MOST_TERMS
returns-then-number-ge-MOST_TERMS c =
    let no = absent c.args.nodes.now.entries c.args.node c.args.width (sym c.get_index_of.ensures.index ∙ c.in_default.is) in
    record {
      term = tt;
      either = tt;
      kept = refl;
      full =
          ((λ _. (no, omega (arith, c.requires.most, c.if-number-ge-MOST_TERMS.true, c.len-number.ensures.len))), (λ _. refl));
    }

pub returns-in-Ok : goal.returns-in-Ok
returns-in-Ok c =
    let nowhere = sym c.get_index_of.ensures.index ∙ c.in_default.is in
    let no = absent c.args.nodes.now.entries c.args.node c.args.width nowhere in
    let grown = c.in-Ok.ensures.entries ∙ added c.args.nodes.now c.args.node c.args.width nowhere in
    let t : Term = (c.args.node, c.args.width) in
    let last : slice_get (c.args.nodes.now.entries ++ t ∷ []) c.len-number.result ≡ Some t =
    rw c.len-number.ensures.len (last_is c.args.nodes.now.entries t) in
    record {
      term = ap (λ (es : List Term). slice_get es c.len-number.result) grown ∙ last;
      either = inr (no, grown);
      kept = tt;
      full = (
        (λ e. absurd (answered e)),
        (λ most. let none : ⊥ = omega (arith, most.1, c.if-number-ge-MOST_TERMS.false, c.len-number.ensures.len) in
            absurd none),
      );
    }
