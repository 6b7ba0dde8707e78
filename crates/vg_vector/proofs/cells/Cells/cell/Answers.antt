use Rattle.std.proofs.Common.{◌≡◌, ◌<◌, ◌≤◌, ◌+◌, ◌-◌, ◌*◌, arith, rules, ap, length}
use Rattle.vg_vector.proofs.Blocks.{cell_end, cell_within, length-cell, slice_get-cells_of}
use Rattle.vg_vector.proofs.cells.Cells.cell.Goals as goal

pub slice_bounds-result-end : goal.slice_bounds-result-end
slice_bounds-result-end c =
    let within : c.args.i < length c.self.inside.loans.items = cell_within c.args.i _ _ _ _ (ap (λ all. all.cells) c.self.view_is) c.requires in
    let ends : c.args.i * c.self.inside.size + c.self.inside.size ≤ length c.deref.result.now =
    rw (c.deref.ensures.value, c.self.invariant) (cell_end _ _ _ within) in
    search rules

pub returns : goal.returns
returns c =
    let within : c.args.i < length c.self.inside.loans.items = cell_within c.args.i _ _ _ _ (ap (λ all. all.cells) c.self.view_is) c.requires in
    let size : c.args.i * c.self.inside.size + c.self.inside.size - c.args.i * c.self.inside.size ≡ c.self.inside.size = omega arith in
    record {
      value = rw (← c.self.view_is, size, c.deref.ensures.value) (slice_get-cells_of _ _ _ _ within);
      size = rw (← c.self.view_is, size, c.deref.ensures.value) (length-cell c.args.i _ _ c.self.inside.bytes.items within c.self.invariant);
    }
