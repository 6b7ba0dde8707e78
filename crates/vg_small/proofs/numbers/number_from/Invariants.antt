use Rattle.std.proofs.Common.{◌≡◌, ◌<◌, drop}
use Rattle.vg_small.specs.Reader.{number_on}
use Rattle.vg_small.proofs.numbers.number_from.Given as goal

abbrev pub invariant-loop-b : goal.invariant-loop-b
invariant-loop-b l = record {
  below : l.value < 65536;
  rest : number_on l.value (drop l.b-index l.word) ≡ number_on 0 l.word;
}
