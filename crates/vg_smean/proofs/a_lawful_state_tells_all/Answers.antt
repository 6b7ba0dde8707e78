use Rattle.vg_smean.proofs.LawfulTells.{lawful_tells_all}
use Rattle.vg_smean.proofs.a_lawful_state_tells_all.Goals as goal

pub returns : goal.returns
returns c = lawful_tells_all
