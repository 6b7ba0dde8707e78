use Rattle.std.proofs.Common.{◌≡◌, ◌≤◌, ◌++◌, ◌∷◌, [], length, subst, refl, sym, ap, ◌∙◌}
use Rattle.std.specs.Prelude.{unsigned_abs}
use Rattle.vg_cnf.specs.Clauses.{IsClauseOver}
use Rattle.vg_cnf.specs.Orders.{Reaches}
use Rattle.vg_units.specs.Levels.{IsKept}
use Rattle.vg_units.proofs.Literals.{held_over}
use Rattle.vg_units.proofs.Keeping.{kept_same, kept_open, kept_single, false_reaches, end_reaches, end_open, kept_ends}
use Rattle.vg_units.proofs.propagator.Propagator.add.Goals as goal

pub returns-in_default-clause-added : goal.returns-in_default-clause-added
returns-in_default-clause-added c =
    let s = c.self.inside in
    subst (λ v. Reaches (v.clauses ++ c.args.clause.now ∷ []) []) c.self.view_is
    (false_reaches s.watches.clauses s.trail.literals s.starts.items c.args.clause.now (ap (λ v. v.starts) c.self.view_is ∙ c.requires.at_rest.0)
    c.self.invariant.chain c.in_default.ensures)

pub invariant_of-self : goal.invariant_of-self
invariant_of-self c =
    let s = c.self.inside in
    kept_same s.watches c.add.new.self s.trail s.starts.items s.head c.in_err-add-in-Some-open_beside.ensures.err c.self.invariant

pub invariant_of-self-in-Some-open_beside : goal.invariant_of-self-in-Some-open_beside
invariant_of-self-in-Some-open_beside c =
    let s = c.self.inside in
    kept_open s.watches c.add.new.self s.trail s.starts.items s.head c.args.clause.now c.in-Some.first c.in-Some-open_beside.second
    (ap (λ v. v.starts) c.self.view_is ∙ c.requires.at_rest.0) c.in_ok-add-in-Some-open_beside.ensures.ok c.in_ok-add-in-Some-open_beside.ensures.paired
    (subst (λ v. IsClauseOver v.variables c.args.clause.now) (sym c.self.view_is) c.requires.over) c.in-Some.ensures.0 c.in-Some.ensures.1
    c.in-Some-open_beside.ensures c.self.invariant

pub add_single-requires-clause-literal : goal.add_single-requires-clause-literal
add_single-requires-clause-literal c =
    let s = c.self.inside in
    let l = c.in-Some.first in
    let over = held_over c.args.self.now.variables c.args.clause.now l c.requires.over.over c.in-Some.ensures.0 in
    let inside : unsigned_abs l ≤ s.watches.variables = subst (λ v. unsigned_abs l ≤ v.variables) (sym c.self.view_is) over.1 in
    (over.0, subst (λ n. unsigned_abs l ≤ n) c.self.invariant.variables inside)

pub invariant_of-self-in_err-add_single-in-None : goal.invariant_of-self-in_err-add_single-in-None
invariant_of-self-in_err-add_single-in-None c =
    let s = c.self.inside in
    subst (λ t. IsKept c.add_single.new.watches t s.starts.items s.head) (sym c.in_err-add_single-in-None.ensures.err.1)
    (kept_same s.watches c.add_single.new.watches s.trail s.starts.items s.head c.in_err-add_single-in-None.ensures.err.0 c.self.invariant)

pub invariant_of-self-in-None : goal.invariant_of-self-in-None
invariant_of-self-in-None c =
    let s = c.self.inside in
    let l = c.in-Some.first in
    let over = held_over c.args.self.now.variables c.args.clause.now l c.requires.over.over c.in-Some.ensures.0 in
    kept_single s.watches c.add_single.new.watches s.trail c.add_single.new.trail s.starts.items s.head c.args.clause.now l
    (ap (λ v. v.starts) c.self.view_is ∙ c.requires.at_rest.0)
    c.in_ok-add_single-in-None.ensures.ok.0 (c.in_ok-add_single-in-None.ensures.paired refl)
    (subst (λ v. IsClauseOver v.variables c.args.clause.now) (sym c.self.view_is) c.requires.over)
    c.in-Some.ensures.0 over.0 c.in-Some.ensures.1 c.in-None.ensures c.in_ok-add_single-in-None.ensures.ok.1 c.self.invariant

pub returns-in_ok-propagate-in-None-clause-added :
    goal.returns-in_ok-propagate-in-None-clause-added
returns-in_ok-propagate-in-None-clause-added c =
    let s = c.self.inside in
    end_reaches (c.args.self.now.clauses ++ c.args.clause.now ∷ [])
    (record {
      variables = c.add_single.new.watches.variables;
      clauses = c.add_single.new.watches.clauses;
      trail =
          c.add_single.new.trail.literals;
      starts = s.starts.items;
      head = s.head;
    })
    c.propagate.new.self c.in_ok-propagate-in-None.field-0 c.is_none.result c.is_none.ensures (ap (λ v. v.starts) c.self.view_is ∙ c.requires.at_rest.0)
    (c.in_ok-add_single-in-None.ensures.ok.0.1 ∙ ap (λ v. v.clauses ++ c.args.clause.now ∷ []) c.self.view_is)
    c.propagate.ensures.same c.propagate.ensures.sound c.in_ok-propagate-in-None.ensures.ends

pub returns-in_ok-add-in-Some-open_beside-clause-open : goal.returns-in_ok-add-in-Some-open_beside-clause-open
returns-in_ok-add-in-Some-open_beside-clause-open c asked =
    let s = c.self.inside in
    let kept = (kept_open s.watches c.add.new.self s.trail s.starts.items s.head c.args.clause.now c.in-Some.first c.in-Some-open_beside.second
    (ap (λ v. v.starts) c.self.view_is ∙ c.requires.at_rest.0) c.in_ok-add-in-Some-open_beside.ensures.ok c.in_ok-add-in-Some-open_beside.ensures.paired
    (subst (λ v. IsClauseOver v.variables c.args.clause.now) (sym c.self.view_is) c.requires.over) c.in-Some.ensures.0 c.in-Some.ensures.1
    c.in-Some-open_beside.ensures c.self.invariant) in
    let whole : s.head ≡ length s.trail.literals = subst (λ v. v.head ≡ length v.trail) (sym c.self.view_is) c.requires.at_rest.1 in
    kept_ends c.add.new.self s.trail s.starts.items s.head kept whole

pub returns-in_ok-propagate-in-None-clause-open : goal.returns-in_ok-propagate-in-None-clause-open
returns-in_ok-propagate-in-None-clause-open c asked =
    let s = c.self.inside in
    end_open
    (record {
      variables = c.add_single.new.watches.variables;
      clauses = c.add_single.new.watches.clauses;
      trail =
          c.add_single.new.trail.literals;
      starts = s.starts.items;
      head = s.head;
    })
    c.propagate.new.self c.in_ok-propagate-in-None.field-0 c.is_none.result c.is_none.ensures c.propagate.ensures.sound
    c.in_ok-propagate-in-None.ensures.ends asked
