use Rattle.std.proofs.Common.{◌≡◌, ◌<◌, ◌≤◌, ◌+◌, ◌-◌, ◌*◌, arith, rules, refl, ap, length}
use Rattle.vg_vector.proofs.Blocks.{cell_end, cell_within, length-cell, slice_get-cells_of, cells_of-lent}
use Rattle.vg_vector.proofs.cells.Cells.cell_mut.Goals as goal

pub slice_mut-requires-clause-in_bounds : goal.slice_mut-requires-clause-in_bounds
slice_mut-requires-clause-in_bounds c =
    let within : c.args.i < length c.self.inside.loans.items = cell_within c.args.i _ _ _ _ (ap (λ all. all.cells) c.self.view_is) c.requires in
    let ends : c.args.i * c.self.inside.size + c.self.inside.size ≤ length c.self.inside.bytes.items = rw c.self.invariant (cell_end _ _ _ within) in
    search rules

pub returns : goal.returns
returns c =
    let within : c.args.i < length c.self.inside.loans.items = cell_within c.args.i _ _ _ _ (ap (λ all. all.cells) c.self.view_is) c.requires in
    let total : length c.self.inside.bytes.items ≡ c.self.inside.bytes.len = search rules in
    let size : c.args.i * c.self.inside.size + c.self.inside.size - c.args.i * c.self.inside.size ≡ c.self.inside.size = omega arith in
    let held : length c.slice_mut.result.now ≡ c.self.inside.size = rw (c.slice_mut.ensures.value, size)
    (length-cell c.args.i _ _ c.self.inside.bytes.items within c.self.invariant) in (
      (refl, λ w. cells_of-lent c.args.i _ _ c.self.inside.bytes.len c.self.inside.bytes.items w _ _ c.self.view_is within c.self.invariant total),
      record {
        writes_back = tt;
        value = rw (← c.self.view_is, c.slice_mut.ensures.value, size) (slice_get-cells_of _ _ _ _ within);
        size = rw (← c.self.view_is) held;
      },
    )
