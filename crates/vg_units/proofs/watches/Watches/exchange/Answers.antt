use Rattle.std.proofs.Common.{◌≡◌, ◌≤◌, ◌<◌, true, length, subst, sym, get_or}
use Rattle.std.specs.Prelude.{unsigned_abs}
use Rattle.vg_cnf.specs.Clauses.{holds}
use Rattle.vg_units.specs.Watching.{IsLeftOut, IsOneOf, list_in, pair_in, clause_in}
use Rattle.vg_units.proofs.Watching.{exchanged, exchanged_requires}
use Rattle.vg_units.proofs.watches.Watches.exchange.Goals as goal

pub insert-requires : goal.insert-requires
insert-requires c =
    exchanged_requires c.self.inside.variables c.self.inside.clauses c.self.inside.pairs.items c.self.inside.lists c.args.clause c.args.pair.now
    (subst (λ w. c.args.clause < length w.clauses) (sym c.self.view_is) c.requires.clause)
    (subst (λ w. holds (clause_in w.clauses c.args.clause) c.args.pair.now.second ≡ true) (sym c.self.view_is) c.requires.held)
    c.self.invariant

pub invariant_of-self-2 : goal.invariant_of-self-2
invariant_of-self-2 c =
    (exchanged c.self.inside.variables c.self.inside.clauses c.self.inside.pairs.items c.self.inside.lists c.insert.new.self c.remove.new.self
    c.args.literal c.args.at c.args.clause
    c.args.pair.now c.in_ok-insert.ensures.ok c.remove.ensures
    (subst (λ w. unsigned_abs c.args.literal ≤ w.variables) (sym c.self.view_is) c.requires.over)
    (subst (λ w. c.args.at < length (list_in w.lists c.args.literal)) (sym c.self.view_is) c.requires.within)
    (subst (λ w. get_or (list_in w.lists c.args.literal) c.args.at 0 ≡ c.args.clause) (sym c.self.view_is) c.requires.entry)
    (subst (λ w. c.args.clause < length w.clauses) (sym c.self.view_is) c.requires.clause)
    (subst (λ w. IsOneOf (pair_in w.pairs c.args.clause) c.args.pair.now.first) (sym c.self.view_is) c.requires.kept)
    (subst (λ w. holds (clause_in w.clauses c.args.clause) c.args.pair.now.second ≡ true) (sym c.self.view_is) c.requires.held)
    c.requires.first c.requires.second c.self.invariant).0

pub returns-clause-left_out : goal.returns-clause-left_out
returns-clause-left_out c =
    subst (λ w. IsLeftOut w.lists c.remove.new.self c.args.literal c.args.at c.args.clause) c.self.view_is
    (exchanged c.self.inside.variables c.self.inside.clauses c.self.inside.pairs.items c.self.inside.lists c.insert.new.self c.remove.new.self
    c.args.literal c.args.at c.args.clause
    c.args.pair.now c.in_ok-insert.ensures.ok c.remove.ensures
    (subst (λ w. unsigned_abs c.args.literal ≤ w.variables) (sym c.self.view_is) c.requires.over)
    (subst (λ w. c.args.at < length (list_in w.lists c.args.literal)) (sym c.self.view_is) c.requires.within)
    (subst (λ w. get_or (list_in w.lists c.args.literal) c.args.at 0 ≡ c.args.clause) (sym c.self.view_is) c.requires.entry)
    (subst (λ w. c.args.clause < length w.clauses) (sym c.self.view_is) c.requires.clause)
    (subst (λ w. IsOneOf (pair_in w.pairs c.args.clause) c.args.pair.now.first) (sym c.self.view_is) c.requires.kept)
    (subst (λ w. holds (clause_in w.clauses c.args.clause) c.args.pair.now.second ≡ true) (sym c.self.view_is) c.requires.held)
    c.requires.first c.requires.second c.self.invariant).1
