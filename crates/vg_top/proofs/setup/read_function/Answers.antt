use Rattle.std.proofs.Common.{inr, refl, ap, Err}
use Rattle.vg_top.proofs.setup.read_function.Goals as goal

pub returns-in-Err-Form-clause-stops : goal.returns-in-Err-Form-clause-stops
returns-in-Err-Form-clause-stops c = inr (refl, c.in-Err-Form.ensures.form (ap Err c.in-Err-Form.field-0-is))
