use Rattle.vg_abs.proofs.OpeningLaws.{opens_lawful}
use Rattle.vg_abs.proofs.laws.an_opening_link_is_lawful.Goals as goal

pub returns : goal.returns
returns c = opens_lawful
