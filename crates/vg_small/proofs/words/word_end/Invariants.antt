use Rattle.std.proofs.Common.{length, ◌-◌, ◌≡◌, ◌≤◌, ◌<◌, ◌+◌, drop}
use Rattle.vg_small.specs.Joining.{word_len}
use Rattle.vg_small.proofs.words.word_end.Given as goal

abbrev pub invariant-loop-at : goal.invariant-loop-at
invariant-loop-at l = record {
  from : l.from ≤ l.at;
  within : l.at < length l.text;
  rest : l.at + word_len (drop l.at l.text) ≡ l.from + word_len (drop l.from l.text);
}

abbrev pub decreases-loop-at : goal.decreases-loop-at
decreases-loop-at l = length l.text - l.at
