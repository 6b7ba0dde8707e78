use Rattle.std.proofs.Common.{◌+◌, ◌<◌, length, refl, subst, ◌∙◌, arith}
use Rattle.vg_term.specs.declared.node.TermId.{TermId}
use Rattle.vg_blast.specs.Facts.{AddsIf}
use Rattle.vg_blast.specs.Facts.{is_leaf}
use Rattle.std.specs.Prelude.{◌&&◌}
use Rattle.vg_blast.specs.Marking.{is_marked}
use Rattle.vg_blast.proofs.Requiring.{have_literals, requires_more, required_grows}
use Rattle.vg_blast.proofs.terms.Circuit.require_all.Goals as goal

pub require_asserted-requires-clause-literals : goal.require_asserted-requires-clause-literals
require_asserted-requires-clause-literals c =
    λ asked.
    let id : TermId = record { 0 = c.loop-at.at } in
    let below : c.loop-at.at < length c.args.terms.now = omega (arith, c.loop-at-test.true, c.len-at-end.ensures.len) in
    have_literals c.requires.made c.args.marks.now c.args.self.now.gates c.loop-at.self.gates c.args.self.now.lists c.loop-at.self.lists
    c.args.self.now.names.items id c.requires.closed c.requires.state below (c.requires.marked id asked) (c.requires.flags id asked)
    c.loop-at.invariant.0.variables c.loop-at.invariant.1

pub returns-then-literal_count-gt-MOST_LITERALS-clause-refused : goal.returns-then-literal_count-gt-MOST_LITERALS-clause-refused
returns-then-literal_count-gt-MOST_LITERALS-clause-refused c = λ _.
    let id : TermId = record { 0 = c.loop-at.at } in
    let below : c.loop-at.at < length c.args.terms.now = omega (arith, c.loop-at-test.true, c.len-at-end.ensures.len) in
    let more =
    requires_more c.requires.made c.args.marks.now c.args.asserted.now c.loop-at.at c.args.self.now.gates c.loop-at.self.gates
    c.require_asserted.new.self.gates c.args.self.now.lists c.args.self.now.names.items id refl below c.requires.closed
    c.requires.state (c.requires.marked id) (c.requires.flags id) c.loop-at.invariant.0
    (subst (λ ls. AddsIf (is_marked c.args.asserted.now id && is_leaf c.args.terms.now id) c.args.terms.now c.loop-at.self.gates
    c.require_asserted.new.self.gates ls id) c.loop-at.invariant.1 c.in_ok-require_asserted.ensures.one) in
    omega (
      arith,
      more.literals,
      c.if-literal_count-gt-MOST_LITERALS.true,
      c.literal_count.ensures,
      required_grows c.args.asserted.now (c.loop-at.at + 1) (length c.args.terms.now) (omega (arith, below)),
    )

pub loop-at-preserved : goal.loop-at-preserved
loop-at-preserved c =
    let id : TermId = record { 0 = c.loop-at.at } in
    let below : c.loop-at.at < length c.args.terms.now = omega (arith, c.loop-at-test.true, c.len-at-end.ensures.len) in (
      requires_more c.requires.made c.args.marks.now c.args.asserted.now c.loop-at.at c.args.self.now.gates c.loop-at.self.gates
          c.require_asserted.new.self.gates c.args.self.now.lists c.args.self.now.names.items id refl below c.requires.closed
          c.requires.state (c.requires.marked id) (c.requires.flags id) c.loop-at.invariant.0
          (subst (λ ls. AddsIf (is_marked c.args.asserted.now id && is_leaf c.args.terms.now id) c.args.terms.now c.loop-at.self.gates
          c.require_asserted.new.self.gates ls id) c.loop-at.invariant.1 c.in_ok-require_asserted.ensures.one),
      c.require_asserted.ensures.lists ∙ c.loop-at.invariant.1,
      c.require_asserted.ensures.names ∙ c.loop-at.invariant.2,
      omega (arith, c.if-literal_count-gt-MOST_LITERALS.false, c.literal_count.ensures),
    )
