use Rattle.std.proofs.Common.{◌≡◌, ◌<◌, ◌≤◌, ℕ, slice_index_or, length}
use Rattle.vg_cmemory.specs.declared.local.Local.{Local}
use Rattle.vg_cmemory.specs.State.{sizes_of}
use Rattle.vg_cmemory.specs.Kept.{slots_of}
use Rattle.vg_cmemory.proofs.runs.forget_all.Given as goal

abbrev pub invariant-loop-k : goal.invariant-loop-k
invariant-loop-k l = record {
  count : length l.locals.items ≡ length l.fn.locals.items;
  value : sizes_of (slots_of l.run l.locals.items) ≡ sizes_of (slots_of l.run l.fn.locals.items);
  runs : (j : ℕ) (d : Local) → j < l.k → (slice_index_or l.locals.items j d).run ≤ 0;
}
