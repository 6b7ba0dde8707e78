use Rattle.std.proofs.Common.{◌≡◌, ◌∙◌, ap, sym, subst, arith, slice_get, false, true}
use Rattle.std.specs.Prelude.{unwrap_or}
use Rattle.std.specs.FinMap.{get}
use Rattle.vg_plain.specs.LinkStates.{LinkState}
use Rattle.vg_plain.proofs.ListPlaces.{lent_inside}
use Rattle.vg_plain.proofs.Places.{cell_is}
use Rattle.vg_plain.proofs.link.PlainLink.cell.Goals as goal

pub cell-requires : goal.cell-requires
cell-requires c =
    let below = lent_inside c.self.inside.cells.lent c.args.index (subst (λ (s : LinkState). unwrap_or (slice_get s.lent c.args.index) false ≡ true)
    (sym c.self.view_is) c.requires) in
    omega (arith, below, c.self.invariant.loans, c.self.invariant.cells)

pub returns : goal.returns
returns c = sym (ap (λ (s : LinkState). get s.link.cells c.args.index) c.self.view_is) ∙ cell_is c.self.inside.cells.cells c.args.index ∙ c.cell.ensures.value
