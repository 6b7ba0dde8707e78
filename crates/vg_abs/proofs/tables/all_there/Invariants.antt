use Rattle.std.proofs.Common.{◌≡◌, true}
use Rattle.vg_abs.specs.LawfulTests.{all_there}
use Rattle.vg_abs.proofs.tables.all_there.Given as goal

abbrev pub invariant-loop-index : goal.invariant-loop-index
invariant-loop-index l = all_there l.cells l.index ≡ true
