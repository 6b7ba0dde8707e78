use Rattle.std.proofs.Common.{◌≡◌, ◌<◌, length, subst, sym, ap, ◌∙◌, true, arith}
use Rattle.vg_cnf.specs.Clauses.{holds, IsOver}
use Rattle.vg_units.specs.Watching.{clause_in}
use Rattle.vg_units.proofs.Watching.{held_in_over, pair_read}
use Rattle.vg_units.proofs.watches.Watches.pair.Goals as goal

pub returns-clause-first : goal.returns-clause-first
returns-clause-first c =
    let inside = c.self.inside in
    let at = c.args.at in
    let pair = c.index.result.now in
    let within : at < length inside.clauses = subst (λ w. at < length w.clauses) (sym c.self.view_is) c.requires in
    let read = pair_read inside.pairs.items at pair (omega (arith, within, c.self.invariant.paired)) c.index.ensures in
    let held : holds (clause_in inside.clauses at) pair.first ≡ true =
    ap (λ p. holds (clause_in inside.clauses at) p.first) (sym read) ∙ c.self.invariant.held_first at within in
    subst (λ w. IsOver w.variables pair.first) c.self.view_is (held_in_over inside.variables inside.clauses at pair.first within c.self.invariant.over held)

pub returns-clause-second : goal.returns-clause-second
returns-clause-second c =
    let inside = c.self.inside in
    let at = c.args.at in
    let pair = c.index.result.now in
    let within : at < length inside.clauses = subst (λ w. at < length w.clauses) (sym c.self.view_is) c.requires in
    let read = pair_read inside.pairs.items at pair (omega (arith, within, c.self.invariant.paired)) c.index.ensures in
    let held : holds (clause_in inside.clauses at) pair.second ≡ true =
    ap (λ p. holds (clause_in inside.clauses at) p.second) (sym read) ∙ c.self.invariant.held_second at within in
    subst (λ w. IsOver w.variables pair.second) c.self.view_is (held_in_over inside.variables inside.clauses at pair.second within c.self.invariant.over held)
