use Rattle.std.proofs.Common.{take, sym, subst, ◌∙◌, ◌+◌}
use Rattle.vg_cnf.proofs.Steps.{same_literal, not_true_back, not_false_back}
use Rattle.std.specs.Ordering.{int_eq}
use Rattle.vg_rup.proofs.Reading.{OnlyOpen}
use Rattle.vg_rup.proofs.Reading.{nothing_read, reads_false, reads_open, reads_again, reads_two, reads_true}
use Rattle.vg_rup.proofs.propagation.forced_by.Goals as goal
use Rattle.vg_rup.proofs.propagation.forced_by.Goals.{then-not-is_false+in-None, then-not-is_false+in-Some+else-ne, else-not-is_false}

pub loop-literal-init : goal.loop-literal-init
loop-literal-init c = nothing_read c.args.made.now

pub returns-then-is_true : goal.returns-then-is_true
returns-then-is_true c =
    reads_true c.args.made.now c.args.clause.now c.loop-literal.literal-index c.literal-item.result c.loop-literal-test.true c.literal-item.is
    (sym c.is_true.ensures ∙ c.if-is_true.true)

pub returns-then-ne : goal.returns-then-ne
returns-then-ne c =
    let only = OnlyOpen c.args.made.now (take c.loop-literal.literal-index c.args.clause.now) in
    reads_two c.args.made.now c.args.clause.now c.loop-literal.literal-index c.literal-item.result c.in-Some.other c.loop-literal-test.true c.literal-item.is
    (subst only c.in-Some.is c.loop-literal.invariant) (not_true_back (int_eq c.in-Some.other c.literal-item.result) (sym c.ne.ensures ∙ c.if-ne.true))
    (sym c.is_false.ensures ∙ c.if-not-is_false.true)

pub loop-literal-preserved : goal.loop-literal-preserved
loop-literal-preserved c =
    let made = c.args.made.now in
    let clause = c.args.clause.now in
    let at = c.loop-literal.literal-index in
    let literal = c.literal-item.result in
    let only = OnlyOpen made (take at clause) in
    let more = OnlyOpen made (take (at + 1) clause) in
    elim c.if-not-is_false.branch [
      | then-not-is_false+in-None w ↦
          subst more (sym w.open-is)
          (reads_open made clause at literal c.loop-literal-test.true c.literal-item.is (subst only w.in-None.is c.loop-literal.invariant)
          (sym c.is_true.ensures ∙ c.if-is_true.false) (sym c.is_false.ensures ∙ w.if-not-is_false.true))
      | then-not-is_false+in-Some+else-ne w ↦
          subst more (sym w.open-is)
          (reads_again made clause at literal w.in-Some.other c.loop-literal-test.true c.literal-item.is (subst only w.in-Some.is c.loop-literal.invariant)
          (same_literal w.in-Some.other literal (not_false_back (int_eq w.in-Some.other literal) (sym w.ne.ensures ∙ w.if-ne.false))))
      | else-not-is_false w ↦
          subst more (sym w.open-is)
          (reads_false made clause at literal c.loop-literal.open c.loop-literal-test.true c.literal-item.is c.loop-literal.invariant
          (sym c.is_false.ensures ∙ w.if-not-is_false.false))
    ]
