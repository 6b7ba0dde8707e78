use Rattle.std.proofs.Common.{◌+◌, ◌*◌, length}
use Rattle.vg_sat.proofs.halving.+halving.Given as goal

abbrev pub decreases-needed : goal.decreases-needed
decreases-needed l = 2 * length l.list.now

abbrev pub decreases-needed_beside : goal.decreases-needed_beside
decreases-needed_beside l = 2 * length l.list.now + 1
