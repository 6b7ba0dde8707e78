use Rattle.std.proofs.Common.{◌≡◌, ◌≤◌, ◌-◌, ◌∷◌, drop, take, length, map}
use Rattle.std.specs.Prelude.{reverse}
use Rattle.vg_conf.specs.Pieces.{pieces}
use Rattle.vg_conf.proofs.pieces.cut.Given as goal

abbrev pub decreases-loop-left : goal.decreases-loop-left
decreases-loop-left l = l.left

abbrev pub invariant-loop-left : goal.invariant-loop-left
invariant-loop-left l = record {
  before : l.left ≤ l.«end»;
  within : l.«end» ≤ length l.text;
  found : take (l.«end» - l.left) (drop l.left l.text) ∷ map (λ piece. piece.now) (reverse l.found.items) ≡ pieces l.mark (drop l.left l.text);
}
