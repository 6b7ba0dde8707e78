use Rattle.std.proofs.Common.{◌≡◌, ◌<◌, ◌+◌, ℕ, length, get_or}
use Rattle.vg_dchain.proofs.spare.ascending.Given as goal

-- the slots so far lead on, and the others hold 0
abbrev pub invariant-loop-i : goal.invariant-loop-i
invariant-loop-i l = record {
  fits : length l.links.items ≡ l.bound + 1;
  up : (k : ℕ) → k < l.i
      → get_or l.links.items k 0 ≡ k + 1;
  left : get_or l.links.items l.bound 0 ≡ 0;
}
