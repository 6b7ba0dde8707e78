use Rattle.std.proofs.Common.{◌<◌, ◌∙◌, ap, sym, subst, arith, [], slice_get, false, true}
use Rattle.std.specs.Prelude.{unwrap_or, is_some}
use Rattle.std.specs.FinMap.{get}
use Rattle.std.proofs.lemmas.Option.{slice_get-get_or}
use Rattle.vg_plain.specs.LinkStates.{LinkState}
use Rattle.vg_plain.proofs.ListPlaces.{set_here}
use Rattle.vg_plain.proofs.Places.{cell_is}
use Rattle.vg_plain.proofs.link.PlainLink.borrow.Goals as goal

pub returns-clause-now : goal.returns-clause-now
returns-clause-now c =
    let inside : c.args.index < c.self.inside.capacity = subst (λ (s : LinkState). c.args.index < s.link.capacity) (sym c.self.view_is) c.requires.inside in
    ap (λ all. unwrap_or (slice_get all.lent c.args.index) false) c.borrow.ensures.lent ∙ ap (λ o. unwrap_or o false)
    (set_here c.self.inside.cells.lent c.args.index true (omega (arith, inside, c.self.invariant.loans)))

pub returns-clause-cell : goal.returns-clause-cell
returns-clause-cell c =
    let inside : c.args.index < c.self.inside.capacity = subst (λ (s : LinkState). c.args.index < s.link.capacity) (sym c.self.view_is) c.requires.inside in
    ap is_some (sym (ap (λ (s : LinkState). get s.link.cells c.args.index) c.self.view_is) ∙ cell_is c.self.inside.cells.cells c.args.index
    ∙ slice_get-get_or c.self.inside.cells.cells c.args.index [] (omega (arith, inside, c.self.invariant.cells)))
