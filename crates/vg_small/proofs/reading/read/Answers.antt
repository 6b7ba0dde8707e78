use Rattle.std.proofs.Common.{sym}
use Rattle.vg_small.proofs.ReadingLaws.{small_of-no_head, Fails-body, small_of-some, Gives-passed}
use Rattle.vg_small.proofs.reading.read.Goals as goal

pub returns-in_default : goal.returns-in_default
returns-in_default c = small_of-no_head c.args.lang c.args.words.now (sym c.in_default.ensures)

pub returns-in_err-tests : goal.returns-in_err-tests
returns-in_err-tests c =
    let is = rw c.value_bound_of-bound.ensures at c.in_err-tests.ensures in
    let fails = Fails-body c.args.lang c.args.words.now c.in-Some.ports c.in-Some.rest.now (sym c.in-Some.ensures) c.in_err-tests.field-0.0 is in
    Gives-passed c.from_residual.result c.in_err-tests.field-0.0 _ c.from_residual.ensures.1 fails

pub returns : goal.returns
returns c =
    let is = rw c.value_bound_of-bound.ensures at c.in_ok-tests.ensures in
    let read = small_of-some c.args.lang c.args.words.now c.in-Some.ports c.in-Some.rest.now (sym c.in-Some.ensures) c.in_ok-tests.tests
    c.in_ok-tests.last is in
    rw c.place.ensures read
