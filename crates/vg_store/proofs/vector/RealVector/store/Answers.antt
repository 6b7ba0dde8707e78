use Rattle.std.proofs.Common.{◌≡◌, ◌<◌, ◌∙◌, ap, sym, subst, arith, length, [], slice_get, false, true}
use Rattle.std.specs.Prelude.{unwrap_or, is_some}
use Rattle.std.proofs.lemmas.Option.{slice_get-get_or}
use Rattle.vg_vector.specs.Cells.{CellList}
use Rattle.vg_plain.proofs.ListPlaces.{lent_inside}
use Rattle.vg_store.proofs.Vectors.{written_counts}
use Rattle.vg_store.proofs.vector.RealVector.store.Goals as goal

below : (c : goal.After-write_cell) → c.args.index < length c.self.inside.cells.cells
below c =
    let lent = lent_inside c.self.inside.cells.lent c.args.index (subst (λ (v : CellList). unwrap_or (slice_get v.lent c.args.index) false ≡ true)
    (sym c.self.view_is) c.requires.lent) in
    omega (arith, lent, c.self.invariant)

pub write_cell-requires-clause-inside : goal.write_cell-requires-clause-inside
write_cell-requires-clause-inside c =
    let lent = lent_inside c.self.inside.cells.lent c.args.index (subst (λ (v : CellList). unwrap_or (slice_get v.lent c.args.index) false ≡ true)
    (sym c.self.view_is) c.requires.lent) in
    omega (arith, lent, c.self.invariant)

pub invariant_of-self : goal.invariant_of-self
invariant_of-self c = written_counts c.self.inside.count c.args.index c.args.from c.args.bytes.now c.self.inside.cells c.write_cell.new.cells
    c.self.invariant (below c) c.write_cell.ensures

pub returns-clause-cell : goal.returns-clause-cell
returns-clause-cell c = ap is_some (sym (ap (λ (v : CellList). slice_get v.cells c.args.index) c.self.view_is)
    ∙ slice_get-get_or c.self.inside.cells.cells c.args.index [] (below c))
