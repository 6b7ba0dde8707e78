use Rattle.std.proofs.Common.{◌≡◌, drop}
use Rattle.vg_cfit.specs.Fit as fits
use Rattle.vg_cfit.proofs.structs.fields_fit.Given as goal

abbrev pub invariant-loop-node : goal.invariant-loop-node
invariant-loop-node l = fits.fields_fit l.notes (drop l.node-index l.nodes) l.rest ≡ fits.fields_fit l.notes l.nodes l.fields
