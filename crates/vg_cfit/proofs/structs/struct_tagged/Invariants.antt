use Rattle.std.proofs.Common.{◌≡◌, drop}
use Rattle.vg_cfit.specs.Fit as fits
use Rattle.vg_cfit.proofs.structs.struct_tagged.Given as goal

abbrev pub invariant-loop-node : goal.invariant-loop-node
invariant-loop-node l = fits.struct_tagged l.text l.word (drop l.node-index l.nodes) ≡ fits.struct_tagged l.text l.word l.nodes
