use Rattle.std.proofs.Common.{◌≡◌, drop}
use Rattle.vg_ctok.specs.Numbers.{first_typed}
use Rattle.vg_ctok.proofs.numbers.first_typed.Given as goal

abbrev pub invariant-loop-of : goal.invariant-loop-of
invariant-loop-of l = first_typed (drop l.of-index l.types) l.value ≡ first_typed l.types l.value
