use Rattle.vg_abs.proofs.OpeningIsLawful.{opening_lawful}
use Rattle.vg_abs.proofs.laws.an_opening_state_is_lawful.Goals as goal

pub returns : goal.returns
returns c = opening_lawful
