use Rattle.std.proofs.Common.{◌≡◌, ◌≤◌, ◌-◌, drop, length}
use Rattle.vg_small.specs.Reader.{body_of, texts}
use Rattle.vg_small.proofs.Suffixes.{with_front}
use Rattle.vg_small.proofs.reading.body.Given as goal

abbrev pub invariant-loop : goal.invariant-loop
invariant-loop l = record {
  within : l.at ≤ length l.words;
  rest : with_front l.tests.items (body_of l.lang l.bound (length l.words - l.counter) (texts (drop l.at l.words))) ≡ body_of l.lang l.bound
      (length l.words) (texts l.words);
}
