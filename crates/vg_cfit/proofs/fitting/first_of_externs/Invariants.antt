use Rattle.std.proofs.Common.{◌≡◌, drop}
use Rattle.vg_cfit.specs.Fit as fits
use Rattle.vg_cfit.proofs.fitting.first_of_externs.Given as goal

abbrev pub invariant-loop-node : goal.invariant-loop-node
invariant-loop-node l = fits.first_fault (fits.extern_fault l.unit.text l.spec) (drop l.node-index l.node-items) ≡ fits.first_fault
    (fits.extern_fault l.unit.text l.spec) l.node-items
