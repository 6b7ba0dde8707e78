use Rattle.std.proofs.Common.{◌≡◌, ◌∙◌, ℕ, List, length, set, get_or, ap, sym, []}
use Rattle.std.proofs.lemmas.List.{length-set}
use Rattle.std.proofs.lemmas.Option.{get_or_from_slice_get}
use Rattle.vg_vector.specs.Cells.{with_cell}
use Rattle.vg_vector.proofs.Lent.{lent_whole}
use Rattle.vg_vector.proofs.tests.write.Goals as goal

pub returns : goal.returns
returns c =
    let whole : length (set c.cell_mut.result.now c.args.place c.args.byte) ≡ c.args.cells.now.size =
    length-set c.cell_mut.result.now c.args.place c.args.byte ∙ c.cell_mut.ensures.size in
    let was : get_or c.args.cells.now.cells c.args.i [] ≡ c.cell_mut.result.now = get_or_from_slice_get c.args.cells.now.cells c.args.i
    c.cell_mut.result.now [] c.cell_mut.ensures.value in
    lent_whole c.args.cells.now c.args.i (set c.cell_mut.result.now c.args.place c.args.byte) whole
    ∙ ap (λ (held : List ℕ). with_cell c.args.cells.now c.args.i (set held c.args.place c.args.byte)) (sym was)
