use Rattle.std.proofs.Common.{◌≡◌, drop}
use Rattle.vg_cfit.specs.Fit as fits
use Rattle.vg_cfit.proofs.fitting.first_of_structs.Given as goal

abbrev pub invariant-loop-declared : goal.invariant-loop-declared
invariant-loop-declared l = fits.first_fault (fits.struct_fault l.unit l.spec) (drop l.declared-index l.declared-items) ≡ fits.first_fault
    (fits.struct_fault l.unit l.spec) l.declared-items
