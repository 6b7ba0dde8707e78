use Rattle.std.proofs.Common.{◌≡◌, [], drop}
use Rattle.vg_conf.specs.Reading as reading
use Rattle.vg_conf.proofs.reading.values_of.Given as goal

abbrev pub invariant-loop-number : goal.invariant-loop-number
invariant-loop-number l = reading.values_from l.given l.values.items (drop l.number-index l.number-items) ≡ reading.values_from l.given [] l.number-items
