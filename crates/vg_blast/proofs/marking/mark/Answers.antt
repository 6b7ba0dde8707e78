use Rattle.std.proofs.Common.{◌-◌, subst, arith}
use Rattle.vg_term.specs.declared.node.TermId.{TermId}
use Rattle.vg_blast.specs.Marking.{AreMarks}
use Rattle.vg_blast.proofs.Marks.{marks_start, marks_more}
use Rattle.vg_blast.proofs.marking.mark.Goals as goal

pub loop-done-init : goal.loop-done-init
loop-done-init c =
    subst (λ n. AreMarks c.args.follow c.args.terms.now c.args.from.now n c.in_ok-marks.marks.items) (omega (arith, c.len-count.ensures.len))
    (marks_start c.args.follow c.args.terms.now c.args.from.now c.in_ok-marks.marks.items c.in_ok-marks.ensures)

pub loop-done-preserved : goal.loop-done-preserved
loop-done-preserved c =
    let id : TermId = record { 0 = c.len-count.result - 1 - c.loop-done.done } in
    subst (λ n. AreMarks c.args.follow c.args.terms.now c.args.from.now n c.mark_next.new.marks.items) (omega (arith, c.loop-done-test.true))
    (marks_more c.len-count.ensures.made c.args.follow c.args.from.now id (c.len-count.result - c.loop-done.done) c.loop-done.marks.items
    c.mark_next.new.marks.items
    (omega (arith, c.loop-done-test.true)) (omega (arith, c.loop-done-test.true, c.len-count.ensures.len)) c.loop-done.invariant c.mark_next.ensures.marks)
