use Rattle.std.proofs.Common.{◌≡◌, ◌+◌, ◌-◌, Bool, true, List, set, refl, ap, rules, subst, arith}
use Rattle.vg_term.specs.declared.node.TermId.{TermId}
use Rattle.vg_simp.specs.Marking.{AreMarks}
use Rattle.vg_simp.proofs.Marks.{marks_start, marks_more}
use Rattle.vg_simp.proofs.marking.reached.Goals as goal

pub loop-done-preserved : goal.loop-done-preserved
loop-done-preserved c =
    let i = c.loop-done.invariant in
    let id : TermId = record { 0 = c.args.goal.0 - c.loop-done.done } in (
      subst (λ n. AreMarks c.args.terms.now c.args.goal n c.mark_next.new.marks.items) (omega (arith, c.loop-done-test.true))
          (marks_more c.requires.made c.args.goal id (c.args.goal.0 + 1 - c.loop-done.done) c.loop-done.marks.items c.mark_next.new.marks.items
          (omega (arith, c.loop-done-test.true)) (omega (arith, c.loop-done-test.true)) i.0 c.mark_next.ensures),
      refl,
    )

pub loop-done-init : goal.loop-done-init
loop-done-init c =
    let whole : c.args.goal.0 + 1 ≡ c.args.goal.0 + 1 - 0 = omega arith in
    let marks : List Bool = set c.in_ok-marks.marks.items c.args.goal.0 true in (
      subst (λ n. AreMarks c.args.terms.now c.args.goal n marks) whole (marks_start c.args.terms.now c.args.goal marks
          (ap (λ (ms : List Bool). set ms c.args.goal.0 true) (c.in_ok-marks.ensures.items_if_clones_equal (λ y h. search rules)))),
      refl,
    )

pub returns : goal.returns
returns c = subst (λ n. AreMarks c.args.terms.now c.args.goal n c.loop-done.marks.items) (omega (arith, c.loop-done-test.false)) c.loop-done.invariant.0
