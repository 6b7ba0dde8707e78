use Rattle.vg_crows.proofs.Worked.{loans}
use Rattle.vg_crows.proofs.laws.a_frame_of_calls.Goals as goal

pub returns : goal.returns
returns c = loans
