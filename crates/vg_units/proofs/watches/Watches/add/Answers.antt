use Rattle.std.proofs.Common.{◌≤◌, ◌++◌, ◌∷◌, [], subst, refl, sym, ap, ◌∙◌, arith}
use Rattle.std.specs.Prelude.{unsigned_abs}
use Rattle.vg_cnf.specs.Clauses.{IsClauseOver}
use Rattle.vg_units.specs.Codes.{code}
use Rattle.vg_units.specs.Watching.{list_in}
use Rattle.vg_units.specs.Lists.{IsListedFrom}
use Rattle.vg_units.proofs.Literals.{held_over}
use Rattle.vg_units.proofs.Watching.{code_within, lengthens_inserted, lengthens_trans, listed_lengthened, listed_added, listed_same}
use Rattle.vg_units.proofs.watches.Watches.add.Goals as goal

pub insert-requires : goal.insert-requires
insert-requires c =
    let first = c.args.pair.now.first in
    let over = held_over c.args.self.now.variables c.args.clause.now first c.requires.over.over c.requires.first in
    let inside : unsigned_abs first ≤ c.self.inside.variables = subst (λ w. unsigned_abs first ≤ w.variables) (sym c.self.view_is) over.1 in
    omega (arith, c.self.invariant.places, code_within c.self.inside.variables first inside)

pub insert-requires-2 : goal.insert-requires-2
insert-requires-2 c =
    let v = c.self.inside.variables in
    let first = c.args.pair.now.first in
    let second = c.args.pair.now.second in
    let over_first = held_over c.args.self.now.variables c.args.clause.now first c.requires.over.over c.requires.first in
    let in_first : unsigned_abs first ≤ v = subst (λ w. unsigned_abs first ≤ w.variables) (sym c.self.view_is) over_first.1 in
    let over = held_over c.args.self.now.variables c.args.clause.now second c.requires.over.over c.requires.second in
    let inside : unsigned_abs second ≤ v = subst (λ w. unsigned_abs second ≤ w.variables) (sym c.self.view_is) over.1 in
    let once = lengthens_inserted v c.self.inside.lists c.insert.new.self first c.len-at.result c.self.invariant.places in_first c.in_ok-insert.ensures.ok in
    omega (arith, c.self.invariant.places, once.0.places, code_within v second inside)

pub invariant_of-self-in_err-insert-2 : goal.invariant_of-self-in_err-insert-2
invariant_of-self-in_err-insert-2 c =
    let v = c.self.inside.variables in
    let first = c.args.pair.now.first in
    let over_first = held_over c.args.self.now.variables c.args.clause.now first c.requires.over.over c.requires.first in
    let in_first : unsigned_abs first ≤ v = subst (λ w. unsigned_abs first ≤ w.variables) (sym c.self.view_is) over_first.1 in
    let once = lengthens_inserted v c.self.inside.lists c.insert.new.self first c.len-at.result c.self.invariant.places in_first c.in_ok-insert.ensures.ok in
    listed_same v c.self.inside.clauses c.self.inside.clauses c.self.inside.pairs.items c.reserve.new.self.items c.insert.new.self c.insert-2.new.self
    refl c.in_ok-reserve.ensures.items
    c.in_err-insert-2.ensures.err
    (listed_lengthened v c.self.inside.clauses c.self.inside.pairs.items c.self.inside.lists c.insert.new.self once.0 c.self.invariant)

pub invariant_of-self-in_err-push : goal.invariant_of-self-in_err-push
invariant_of-self-in_err-push c =
    let v = c.self.inside.variables in
    let first = c.args.pair.now.first in
    let second = c.args.pair.now.second in
    let over_first = held_over c.args.self.now.variables c.args.clause.now first c.requires.over.over c.requires.first in
    let in_first : unsigned_abs first ≤ v = subst (λ w. unsigned_abs first ≤ w.variables) (sym c.self.view_is) over_first.1 in
    let over = held_over c.args.self.now.variables c.args.clause.now second c.requires.over.over c.requires.second in
    let in_second : unsigned_abs second ≤ v = subst (λ w. unsigned_abs second ≤ w.variables) (sym c.self.view_is) over.1 in
    let once = lengthens_inserted v c.self.inside.lists c.insert.new.self first c.len-at.result c.self.invariant.places in_first c.in_ok-insert.ensures.ok in
    let twice = lengthens_inserted v c.insert.new.self c.insert-2.new.self second c.len-at.result (once.0.places ∙ c.self.invariant.places) in_second
    c.in_ok-insert-2.ensures.ok in
    listed_same v c.self.inside.clauses c.push.new.self c.self.inside.pairs.items c.reserve.new.self.items c.insert-2.new.self c.insert-2.new.self
    c.in_err-push.ensures.err
    c.in_ok-reserve.ensures.items refl
    (listed_lengthened v c.self.inside.clauses c.self.inside.pairs.items c.self.inside.lists c.insert-2.new.self
    (lengthens_trans c.self.inside.lists c.insert.new.self c.insert-2.new.self once.0 twice.0) c.self.invariant)

pub invariant_of-self-2 : goal.invariant_of-self-2
invariant_of-self-2 c =
    let v = c.self.inside.variables in
    let first = c.args.pair.now.first in
    let second = c.args.pair.now.second in
    let at = c.len-at.result in
    let cs = c.self.inside.clauses in
    let ps = c.self.inside.pairs.items in
    let ls = c.self.inside.lists in
    let ms = c.insert-2.new.self in
    let over_first = held_over c.args.self.now.variables c.args.clause.now first c.requires.over.over c.requires.first in
    let in_first : unsigned_abs first ≤ v = subst (λ w. unsigned_abs first ≤ w.variables) (sym c.self.view_is) over_first.1 in
    let over = held_over c.args.self.now.variables c.args.clause.now second c.requires.over.over c.requires.second in
    let in_second : unsigned_abs second ≤ v = subst (λ w. unsigned_abs second ≤ w.variables) (sym c.self.view_is) over.1 in
    let once = lengthens_inserted v ls c.insert.new.self first at c.self.invariant.places in_first c.in_ok-insert.ensures.ok in
    let twice = lengthens_inserted v c.insert.new.self ms second at (once.0.places ∙ c.self.invariant.places) in_second c.in_ok-insert-2.ensures.ok in
    let in_both = twice.0.kept (code first) 0 at once.1 in
    listed_same v (cs ++ c.args.clause.now ∷ []) c.push.new.self (ps ++ c.args.pair.now ∷ []) c.push_reserved.new.self.items ms ms c.in_ok-push.ensures.ok
    (c.push_reserved.ensures.items ∙ ap (λ xs. xs ++ c.args.pair.now ∷ []) c.in_ok-reserve.ensures.items)
    refl
    (listed_added v cs ps ls ms c.args.clause.now c.args.pair.now (subst (λ w. IsClauseOver w.variables c.args.clause.now) (sym c.self.view_is)
    c.requires.over) c.requires.first c.requires.second
    (lengthens_trans ls c.insert.new.self ms once.0 twice.0) (subst (λ n. IsListedFrom (list_in ms first) 0 n) c.len-at.ensures in_both)
    (subst (λ n. IsListedFrom (list_in ms second) 0 n) c.len-at.ensures twice.1) c.self.invariant)
