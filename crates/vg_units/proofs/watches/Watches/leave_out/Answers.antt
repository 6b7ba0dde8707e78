use Rattle.std.proofs.Common.{◌≤◌, ◌<◌, length, subst, refl, sym, arith, get_or}
use Rattle.std.specs.Prelude.{unsigned_abs, ◌≢◌}
use Rattle.vg_units.specs.Watching.{IsListed, IsLeftOut, list_in, pair_in}
use Rattle.vg_units.proofs.Watching.{code_within, left_out, listed_left_out}
use Rattle.vg_units.proofs.watches.Watches.leave_out.Goals as goal

pub invariant_of-self : goal.invariant_of-self
invariant_of-self c =
    let v = c.self.inside.variables in
    let ls = c.self.inside.lists in
    let l = c.args.literal in
    let over : unsigned_abs l ≤ v = subst (λ w. unsigned_abs l ≤ w.variables) (sym c.self.view_is) c.requires.over in
    subst (IsListed v c.self.inside.clauses c.self.inside.pairs.items) (sym c.remove.ensures)
    (listed_left_out v c.self.inside.clauses c.self.inside.pairs.items ls l c.args.at (omega (arith, c.self.invariant.places, code_within v l over))
    (subst (λ w. c.args.at < length (list_in w.lists l)) (sym c.self.view_is) c.requires.within)
    (subst (λ w. get_or (list_in w.lists l) c.args.at 0 < length w.clauses → ((pair_in w.pairs (get_or (list_in w.lists l) c.args.at 0)).first ≢ l)
    × ((pair_in w.pairs (get_or (list_in w.lists l) c.args.at 0)).second ≢ l))
    (sym c.self.view_is) c.requires.unwatched) c.self.invariant)

pub returns-clause-left_out : goal.returns-clause-left_out
returns-clause-left_out c =
    let v = c.self.inside.variables in
    let ls = c.self.inside.lists in
    let l = c.args.literal in
    let over : unsigned_abs l ≤ v = subst (λ w. unsigned_abs l ≤ w.variables) (sym c.self.view_is) c.requires.over in
    let within = subst (λ w. c.args.at < length (list_in w.lists l)) (sym c.self.view_is) c.requires.within in
    subst (λ w. IsLeftOut w.lists c.remove.new.self l c.args.at (get_or (list_in w.lists l) c.args.at 0)) c.self.view_is
    (subst (λ more. IsLeftOut ls more l c.args.at (get_or (list_in ls l) c.args.at 0)) (sym c.remove.ensures)
    (left_out ls l c.args.at (get_or (list_in ls l) c.args.at 0) (omega (arith, c.self.invariant.places, code_within v l over)) within refl))
