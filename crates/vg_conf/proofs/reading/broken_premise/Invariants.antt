use Rattle.std.proofs.Common.{◌≡◌, ◌+◌, drop}
use Rattle.vg_conf.specs.Named.{first_from}
use Rattle.vg_conf.specs.Reading.{is_broken}
use Rattle.vg_conf.proofs.reading.broken_premise.Given as goal

abbrev pub invariant-loop-premise : goal.invariant-loop-premise
invariant-loop-premise l = record {
  counted : l.count ≡ l.premise-index;
  rest : first_from (is_broken l.spec l.numbers) (l.count + 1) (drop l.premise-index l.premise-items) ≡ first_from (is_broken l.spec l.numbers) 1 l.premise-items;
}
