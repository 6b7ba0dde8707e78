use Rattle.std.proofs.Common.{length, ◌-◌, ◌≡◌, ◌≤◌, ◌++◌, drop}
use Rattle.vg_small.specs.Reader.{placed}
use Rattle.vg_small.proofs.Cutting.{words_from}
use Rattle.vg_small.proofs.words.cut.Given as goal

abbrev pub invariant-loop-at : goal.invariant-loop-at
invariant-loop-at l = record {
  within : l.at ≤ length l.text;
  rest : placed l.words.items ++ words_from l.at (drop l.at l.text) ≡ words_from 0 l.text;
}

abbrev pub decreases-loop-at : goal.decreases-loop-at
decreases-loop-at l = length l.text - l.at
