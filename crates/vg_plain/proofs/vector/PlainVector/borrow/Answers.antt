use Rattle.std.proofs.Common.{◌<◌, ◌∙◌, ap, sym, subst, arith, slice_get, length, false, true}
use Rattle.std.specs.Prelude.{unwrap_or}
use Rattle.vg_vector.specs.Cells.{CellList}
use Rattle.vg_plain.proofs.ListPlaces.{set_here}
use Rattle.vg_plain.proofs.vector.PlainVector.borrow.Goals as goal

pub returns-clause-now : goal.returns-clause-now
returns-clause-now c =
    let inside : c.args.index < length c.self.inside.cells.cells = subst (λ (v : CellList). c.args.index < length v.cells) (sym c.self.view_is)
    c.requires.inside in
    ap (λ all. unwrap_or (slice_get all.lent c.args.index) false) c.borrow.ensures.lent ∙ ap (λ o. unwrap_or o false)
    (set_here c.self.inside.cells.lent c.args.index true (omega (arith, inside, c.self.invariant)))
