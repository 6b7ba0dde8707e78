use Rattle.std.proofs.Common.{arith}
use Rattle.vg_term.specs.Terms.{width_at}
use Rattle.vg_term.specs.declared.node.Node.TheVariants as nodes
use Rattle.vg_term.proofs.Made.{comes_next}
use Rattle.vg_blast.proofs.Assignments.{zero_pushed, zero_kept}
use Rattle.vg_blast.proofs.assigning.push_zero.Goals as goal

pub zero-requires-clause-not_empty : goal.zero-requires-clause-not_empty
zero-requires-clause-not_empty c =
    let next = comes_next c.node.ensures.made c.args.id.0 (nodes.Var c.in-Var.number c.in-Var.width, width_at c.args.terms.now c.args.id)
    c.in-Var.ensures.node in
    omega (arith, next.1, next.2)

pub zero-requires-clause-at_most_64 : goal.zero-requires-clause-at_most_64
zero-requires-clause-at_most_64 c =
    let next = comes_next c.node.ensures.made c.args.id.0 (nodes.Var c.in-Var.number c.in-Var.width, width_at c.args.terms.now c.args.id)
    c.in-Var.ensures.node in
    omega (arith, next.1, next.3)

pub returns-in_ok-push-in-Var : goal.returns-in_ok-push-in-Var
returns-in_ok-push-in-Var c =
    zero_pushed c.node.ensures.made c.args.id.0 c.in-Var.number c.in-Var.width (width_at c.args.terms.now c.args.id) c.args.words.now.items
    c.push.new.self.items c.zero.result c.in-Var.ensures.node c.requires.zeros
    c.zero.ensures.width c.zero.ensures.value c.in_ok-push-in-Var.ensures.items

pub returns-in-Op : goal.returns-in-Op
returns-in-Op c = zero_kept c.args.id.0 (width_at c.args.terms.now c.args.id) c.in-Op.field-0 c.in-Op.field-1 c.args.words.now.items
    c.in-Op.ensures.node c.requires.zeros
