use Rattle.std.proofs.Common.{arith}
use Rattle.std.proofs.lemmas.List.{nil_from_length}
use Rattle.vg_small.proofs.Suffixes.{drop-some}
use Rattle.vg_small.proofs.reading.strip.Goals as goal

pub returns-in_default : goal.returns-in_default
returns-in_default c =
    let none = nil_from_length c.loop-e.rest.now (omega (arith, c.in_default.len_below)) in
    let more = drop-some c.args.want.now c.loop-e.e-index c.loop-e-test.true in
    rw (none, more.1) at c.loop-e.invariant
