use Rattle.std.proofs.Common.{true, false, subst, arith}
use Rattle.vg_rup.proofs.Passing.{PassedOver, pass_begins, pass_nothing, pass_forced, pass_conflict, pass_ends}
use Rattle.vg_rup.proofs.propagation.run_pass.Goals as goal
use Rattle.vg_rup.proofs.propagation.run_pass.Goals.{in-Nothing, in-Literal+in_ok-make_true-in-Literal}

pub returns-in-Conflict : goal.returns-in-Conflict
returns-in-Conflict c =
    pass_conflict c.args.clauses.now c.args.made.now c.loop-at.at c.loop-at.made c.loop-at.grew c.get.result.now c.get.ensures c.in-Conflict.ensures
    c.loop-at.invariant

pub loop-at-init : goal.loop-at-init
loop-at-init c = pass_begins c.args.clauses.now c.args.made.now c.requires.consistent

pub loop-at-preserved : goal.loop-at-preserved
loop-at-preserved c =
    let clauses = c.args.clauses.now in
    let initial = c.args.made.now in
    elim c.match-forced_by.branch [
      | in-Nothing w ↦
          pass_nothing clauses initial c.loop-at.at c.loop-at.made c.loop-at.grew c.get.result.now c.match-forced_by.made c.match-forced_by.grew
          w.made-is w.grew-is c.get.ensures w.in-Nothing.ensures
          c.loop-at.invariant
      | in-Literal+in_ok-make_true-in-Literal w ↦
          pass_forced clauses initial c.loop-at.at c.loop-at.made c.loop-at.grew c.get.result.now w.in-Literal.literal w.make_true.new.self
          c.match-forced_by.made c.match-forced_by.grew w.made-is w.grew-is
          c.requires.nonzero c.get.ensures w.in-Literal.ensures w.in_ok-make_true-in-Literal.ensures c.loop-at.invariant
    ]

pub returns-then-grew : goal.returns-then-grew
returns-then-grew c =
    let clauses = c.args.clauses.now in
    let initial = c.args.made.now in
    pass_ends clauses initial c.loop-at.at c.loop-at.made true (omega (arith, c.len-at-end.ensures, c.loop-at-test.false))
    (subst (PassedOver clauses initial c.loop-at.at c.loop-at.made) c.if-grew.true c.loop-at.invariant)

pub returns-else-grew : goal.returns-else-grew
returns-else-grew c =
    let clauses = c.args.clauses.now in
    let initial = c.args.made.now in
    pass_ends clauses initial c.loop-at.at c.loop-at.made false (omega (arith, c.len-at-end.ensures, c.loop-at-test.false))
    (subst (PassedOver clauses initial c.loop-at.at c.loop-at.made) c.if-grew.false c.loop-at.invariant)
