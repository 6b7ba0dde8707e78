use Rattle.std.proofs.Common.{inr, refl}
use Rattle.vg_top.proofs.top.print.Goals as goal

pub returns-in-Err-clause-prints : goal.returns-in-Err-clause-prints
returns-in-Err-clause-prints g c =
    let said = rw c.as_bytes.ensures.value at c.in-Err.ensures in
    inr (c.number-in-Err.ensures, record { rose = said.faults.failed; made = said.prefix })
