use Rattle.std.proofs.Common.{◌≡◌, ◌∙◌, ap, sym, subst, arith, length, [], get_or, slice_get, false, true}
use Rattle.std.specs.Prelude.{unwrap_or, is_some}
use Rattle.std.proofs.lemmas.List.{length-set}
use Rattle.std.proofs.lemmas.Option.{slice_get-get_or}
use Rattle.vg_vector.specs.Cells.{CellList}
use Rattle.vg_plain.proofs.ListPlaces.{lent_inside}
use Rattle.vg_plain.proofs.vector.PlainVector.store.Goals as goal

pub write_cell-requires-clause-cell : goal.write_cell-requires-clause-cell
write_cell-requires-clause-cell c =
    let below = lent_inside c.self.inside.cells.lent c.args.index (subst (λ (v : CellList). unwrap_or (slice_get v.lent c.args.index) false ≡ true)
    (sym c.self.view_is) c.requires.lent) in
    omega (arith, below, c.self.invariant)

pub invariant_of-self : goal.invariant_of-self
invariant_of-self c =
    let below = lent_inside c.self.inside.cells.lent c.args.index (subst (λ (v : CellList). unwrap_or (slice_get v.lent c.args.index) false ≡ true)
    (sym c.self.view_is) c.requires.lent) in
    let is = c.write_cell.ensures (get_or c.self.inside.cells.cells c.args.index []) (slice_get-get_or c.self.inside.cells.cells c.args.index []
    (omega (arith, below, c.self.invariant))) in (
      ap (λ all. length all.lent) is ∙ c.self.invariant.0,
      ap (λ all. length all.cells) is ∙ length-set c.self.inside.cells.cells c.args.index _
          ∙ c.self.invariant.1,
    )

pub returns-clause-cell : goal.returns-clause-cell
returns-clause-cell c =
    let below = lent_inside c.self.inside.cells.lent c.args.index (subst (λ (v : CellList). unwrap_or (slice_get v.lent c.args.index) false ≡ true)
    (sym c.self.view_is) c.requires.lent) in
    ap is_some (sym (ap (λ (v : CellList). slice_get v.cells c.args.index) c.self.view_is)
    ∙ slice_get-get_or c.self.inside.cells.cells c.args.index [] (omega (arith, below, c.self.invariant)))
