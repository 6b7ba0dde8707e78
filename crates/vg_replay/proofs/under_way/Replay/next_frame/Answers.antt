use Rattle.std.proofs.Common.{ap}
use Rattle.vg_replay.proofs.Histories.{next_none, after_none}
use Rattle.vg_replay.proofs.Stopping.{stopped, stopped_begun}
use Rattle.vg_replay.proofs.Handling.{next_ends, next_end_fails}
use Rattle.vg_replay.specs.UnderWay.{ReplayOf}
use Rattle.vg_replay.proofs.under_way.Replay.next_frame.Goals as goal

pub close-requires-clause-readable : goal.close-requires-clause-readable
close-requires-clause-readable g c =
    let done = (rw c.in-Ok-false.field-0-test at c.in-Ok-false.ensures.steps) c.requires.going.0 c.requires.going.1 c.requires.going.2 c.requires.going.3 in
    rw (done.0, done.1) c.requires.going.3.opened.readable

pub close-requires-clause-writable : goal.close-requires-clause-writable
close-requires-clause-writable g c =
    let done = (rw c.in-Ok-false.field-0-test at c.in-Ok-false.ensures.steps) c.requires.going.0 c.requires.going.1 c.requires.going.2 c.requires.going.3 in
    rw (done.0, done.1) c.requires.going.3.opened.writable

pub close-requires-in-Err-clause-readable : goal.close-requires-in-Err-clause-readable
close-requires-in-Err-clause-readable g c = (c.in-Err.ensures.steps c.requires.going.0 c.requires.going.1 c.requires.going.2 c.requires.going.3).opened.readable

pub close-requires-in-Err-clause-writable : goal.close-requires-in-Err-clause-writable
close-requires-in-Err-clause-writable g c = (c.in-Err.ensures.steps c.requires.going.0 c.requires.going.1 c.requires.going.2 c.requires.going.3).opened.writable

pub returns-in-Ok-true-clause-handles : goal.returns-in-Ok-true-clause-handles
returns-in-Ok-true-clause-handles g c = rw c.in-Ok-true.field-0-test at c.in-Ok-true.ensures.steps

pub returns-in-Ok-clause-handles : goal.returns-in-Ok-clause-handles
returns-in-Ok-clause-handles g c = λ s n past x.
    let done = (rw c.in-Ok-false.field-0-test at c.in-Ok-false.ensures.steps) s n past x in
    let totals = ap (λ (r : ReplayOf _). r.files.totals) c.replay.view_is in
    rw totals (next_ends (after_none g.H.Handler.handles g.H.Handler.stops_at past c.args.self.handler) x (ap (λ (r : ReplayOf _). r.files) done.0)
    done.1 done.2 c.in-Ok.ensures)

pub returns-in-Err-close-clause-handles : goal.returns-in-Err-close-clause-handles
returns-in-Err-close-clause-handles g c = λ s n past x.
    let done = (rw c.in-Ok-false.field-0-test at c.in-Ok-false.ensures.steps) s n past x in
    let failed = next_end_fails (next_none g.H.Handler.handles g.H.Handler.stops_at past c.args.self.handler) x
    (ap (λ (r : ReplayOf _). r.files) done.0) done.1 c.in-Err-close.ensures in
    (failed.stops, failed)

pub returns-in-Err-clause-handles : goal.returns-in-Err-clause-handles
returns-in-Err-clause-handles g c = λ s n past x.
    let halted = c.in-Err.ensures.steps s n past x in
    (stopped_begun c.close-in-Err.result halted c.close-in-Err.ensures, stopped c.close-in-Err.result halted c.close-in-Err.ensures)

pub returns-in-Ok-true-clause-ready : goal.returns-in-Ok-true-clause-ready
returns-in-Ok-true-clause-ready g c = c.in-Ok-true.ensures.ready c.in-Ok-true.field-0-test
