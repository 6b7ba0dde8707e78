use Rattle.std.proofs.Common.{refl, sym, subst, Vec, Global}
use Rattle.std.specs.Prelude.{Option, IfSome}
use Rattle.vg_cnf.specs.declared.literal.Lit.{Lit}
use Rattle.vg_sat.specs.Learned.{IsLearnable}
use Rattle.vg_sat.proofs.Deciding.{learnable_there}
use Rattle.vg_sat.proofs.learning.learn.Goals as goal

pub shorten-requires-clause-learnable : goal.shorten-requires-clause-learnable
shorten-requires-clause-learnable c =
    let s = c.args.search.now in
    let new = c.assume_in_turn.new.search in
    let learnable : IsLearnable s.variables s.clauses c.in-Some.clause.items =
    subst (λ (o : Option (Vec Lit Global)). IfSome o (λ v. IsLearnable s.variables s.clauses v.items)) c.in-Some.is c.in_ok-clause.ensures.learnable in
    subst (IsLearnable new.variables new.clauses) (sym c.deref.ensures.value) (learnable_there s new c.in-Some.clause.items
    (c.in_ok-clause.ensures.same refl) learnable)

pub shorten-requires-in-None-clause-learnable : goal.shorten-requires-in-None-clause-learnable
shorten-requires-in-None-clause-learnable c =
    learnable_there c.args.search.now c.assume_in_turn.new.search c.args.decisions.now (c.in_ok-clause.ensures.same refl) c.requires.learnable
