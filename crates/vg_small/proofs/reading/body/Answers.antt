use Rattle.std.proofs.Common.{sym, length, drop, arith}
use Rattle.vg_small.specs.Reader.{text_of, texts}
use Rattle.vg_small.proofs.Suffixes.{goes_on, no_test, no_last, with_last, no_more, test_ends, at_end}
use Rattle.vg_small.proofs.reading.body.Goals as goal

pub returns-in_default : goal.returns-in_default
returns-in_default c =
    let here = rw c.split_at.ensures.back at c.if-not-has_test.ensures in
    let last = rw c.split_at.ensures.back at c.in_default.ensures in
    no_last c.args.lang c.args.bound c.loop.tests.items (length c.args.words.now) c.loop.counter (texts (drop c.loop.at c.args.words.now)) _
    c.loop-test.true c.loop.invariant.rest (sym here) (sym last)

pub returns-then-not-has_test : goal.returns-then-not-has_test
returns-then-not-has_test c =
    let here = rw c.split_at.ensures.back at c.if-not-has_test.ensures in
    let last = rw c.split_at.ensures.back at c.in-Some.ensures in
    rw c.new.ensures (with_last c.args.lang c.args.bound c.loop.tests.items (length c.args.words.now) c.loop.counter
    (texts (drop c.loop.at c.args.words.now)) _ c.loop-test.true c.loop.invariant.rest c.in-Some.last (sym here) (sym last))

pub returns-in_default-test : goal.returns-in_default-test
returns-in_default-test c =
    let here = rw c.split_at.ensures.back at c.if-not-has_test.ensures in
    let none = rw c.split_at.ensures.back at c.in_default-test.ensures in
    no_test c.args.lang c.args.bound c.loop.tests.items (length c.args.words.now) c.loop.counter (texts (drop c.loop.at c.args.words.now)) _
    c.loop-test.true c.loop.invariant.rest (sym here) (sym none)

pub overflow_sub-at : goal.overflow_sub-at
overflow_sub-at c =
    let is = rw c.split_at.ensures.back at c.in-Some-test.ensures in
    let ends = test_ends c.args.lang c.args.bound (texts (drop c.loop.at c.args.words.now)) (c.in-Some-test.next, texts c.in-Some-test.after.now) (sym is) in
    (at_end text_of c.args.words.now c.in-Some-test.after.now c.loop.at c.loop.invariant.within ends).1

pub loop-preserved : goal.loop-preserved
loop-preserved c =
    let here = rw c.split_at.ensures.back at c.if-not-has_test.ensures in
    let is = rw c.split_at.ensures.back at c.in-Some-test.ensures in
    let ends = test_ends c.args.lang c.args.bound (texts (drop c.loop.at c.args.words.now)) (c.in-Some-test.next, texts c.in-Some-test.after.now) (sym is) in
    let end = at_end text_of c.args.words.now c.in-Some-test.after.now c.loop.at c.loop.invariant.within ends in
    record {
      within = omega arith;
      rest = rw (c.in_ok-push.ensures.items, end.0) (goes_on c.args.lang c.args.bound c.loop.tests.items (length c.args.words.now) c.loop.counter
          (texts (drop c.loop.at c.args.words.now)) _ c.loop-test.true c.loop.invariant.rest c.in-Some-test.next (texts c.in-Some-test.after.now)
          (sym here) (sym is));
    }

pub returns : goal.returns
returns c = no_more c.args.lang c.args.bound c.loop.tests.items (length c.args.words.now) c.loop.counter (texts (drop c.loop.at c.args.words.now)) _
    c.loop-test.false c.loop.invariant.rest
