use Rattle.std.proofs.Common.{◌≡◌}
use Rattle.vg_cmemory.specs.State.{sizes}
use Rattle.vg_cmean.specs.Runs.{sizes_below}
use Rattle.vg_cmean.proofs.machine.Machine.new.Given as goal

abbrev pub invariant-loop-n : goal.invariant-loop-n
invariant-loop-n l = sizes l.memory ≡ sizes_below l.unit l.n
