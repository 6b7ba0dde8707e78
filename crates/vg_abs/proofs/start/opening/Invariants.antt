use Rattle.std.proofs.Common.{◌≡◌, ◌++◌, drop, vec_len}
use Rattle.vg_abs.specs.Opening as openings
use Rattle.vg_abs.proofs.start.opening.Given as goal

abbrev pub invariant-loop-declared : goal.invariant-loop-declared
invariant-loop-declared l = record {
  made : l.objects.items ++ openings.opening_objects l.shape l.config l.declared-index (drop l.declared-index l.declared-items) ≡
      openings.opening_objects l.shape l.config 0 l.declared-items;
  counted : vec_len l.objects ≡ l.declared-index;
}
