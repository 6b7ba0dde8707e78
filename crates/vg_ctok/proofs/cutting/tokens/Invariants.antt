use Rattle.std.proofs.Common.{length, ◌-◌, ◌≤◌}
use Rattle.vg_ctok.specs.Reader.{shown}
use Rattle.vg_ctok.proofs.Cuts.{UpTo}
use Rattle.vg_ctok.proofs.cutting.tokens.Given as goal

abbrev pub invariant-loop-at : goal.invariant-loop-at
invariant-loop-at l = record {
  within : l.at ≤ length l.text;
  cut : UpTo l.text l.at l.fresh (shown l.defines.entries) l.tokens.items;
}

abbrev pub decreases-loop-at : goal.decreases-loop-at
decreases-loop-at l = length l.text - l.at
