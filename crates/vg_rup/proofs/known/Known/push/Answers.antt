use Rattle.std.proofs.Common.{◌≡◌, ◌++◌, ◌∷◌, [], subst, ap, ◌∙◌}
use Rattle.std.specs.Prelude.{MatchBool, Bool}
use Rattle.vg_cnf.specs.Orders.{Reaches}
use Rattle.vg_units.specs.Searching.{IsAtRest}
use Rattle.vg_rup.proofs.Knowing.{known_plain, known_searched, known_refuted, search_at}
use Rattle.vg_rup.proofs.known.Known.push.Goals as goal

pub invariant_of-self-in_err-add : goal.invariant_of-self-in_err-add
invariant_of-self-in_err-add c =
    known_plain c.self.inside.lists c.push.new.self c.args.clause.now c.self.inside.search c.take-search.new.self c.self.inside.is_refuted
    c.in_ok-push.ensures.ok c.take-search.ensures.after
    c.requires c.self.invariant

pub invariant_of-self-then-branch-2 : goal.invariant_of-self-then-branch-2
invariant_of-self-then-branch-2 c =
    let s = c.self.inside in
    let it = c.in-Some.search in
    let before = search_at s.lists s.search c.take-search.result it s.is_refuted c.take-search.ensures.value c.in-Some.is c.self.invariant in
    let added : IsAtRest c.add.new.self × (c.add.new.self.clauses ≡ it.clauses ++ c.args.clause.now ∷ []) =
    subst (λ (b : Bool). MatchBool b (IsAtRest c.add.new.self × (c.add.new.self.clauses ≡ it.clauses ++ c.args.clause.now ∷ []))
    (Reaches (it.clauses ++ c.args.clause.now ∷ []) [])) c.if-branch.true
    c.in_ok-add.ensures.added in
    known_searched s.lists c.push.new.self c.args.clause.now s.search c.add.new.self s.is_refuted c.in_ok-push.ensures.ok c.requires
    (added.1 ∙ ap (λ cs. cs ++ c.args.clause.now ∷ []) before.0) added.0 c.self.invariant

pub invariant_of-self-else-branch : goal.invariant_of-self-else-branch
invariant_of-self-else-branch c =
    let s = c.self.inside in
    let it = c.in-Some.search in
    let before = search_at s.lists s.search c.take-search.result it s.is_refuted c.take-search.ensures.value c.in-Some.is c.self.invariant in
    let reaches : Reaches (it.clauses ++ c.args.clause.now ∷ []) [] =
    subst (λ (b : Bool). MatchBool b (IsAtRest c.add.new.self × (c.add.new.self.clauses ≡ it.clauses ++ c.args.clause.now ∷ []))
    (Reaches (it.clauses ++ c.args.clause.now ∷ []) [])) c.if-branch.false
    c.in_ok-add.ensures.added in
    known_refuted s.lists c.push.new.self c.args.clause.now s.search c.take-search.new.self s.is_refuted c.in_ok-push.ensures.ok
    c.take-search.ensures.after c.requires
    (subst (λ cs. Reaches (cs ++ c.args.clause.now ∷ []) []) before.0 reaches) c.self.invariant

pub invariant_of-self-else-is_over : goal.invariant_of-self-else-is_over
invariant_of-self-else-is_over c =
    known_plain c.self.inside.lists c.push.new.self c.args.clause.now c.self.inside.search c.take-search.new.self c.self.inside.is_refuted
    c.in_ok-push.ensures.ok c.take-search.ensures.after
    c.requires c.self.invariant

pub invariant_of-self-in_default : goal.invariant_of-self-in_default
invariant_of-self-in_default c =
    known_plain c.self.inside.lists c.push.new.self c.args.clause.now c.self.inside.search c.take-search.new.self c.self.inside.is_refuted
    c.in_ok-push.ensures.ok c.take-search.ensures.after
    c.requires c.self.invariant
