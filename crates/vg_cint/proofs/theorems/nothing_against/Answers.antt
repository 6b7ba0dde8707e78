use Rattle.vg_cint.proofs.FirstAgainst.{nothing_against}
use Rattle.vg_cint.proofs.theorems.nothing_against.Goals as goal

pub returns : goal.returns
returns c = nothing_against
