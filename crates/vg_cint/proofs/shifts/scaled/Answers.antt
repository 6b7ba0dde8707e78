use Rattle.vg_cint.proofs.Powers.{scaled_back}
use Rattle.vg_cint.proofs.shifts.scaled.Goals as goal

pub returns : goal.returns
returns c =
    scaled_back c.args.value c.power.result c.args.places c.ranges.value (record { sfits = c.power.type_inv }) c.power.ensures
    c.requires.least c.requires.greatest c.requires.places
