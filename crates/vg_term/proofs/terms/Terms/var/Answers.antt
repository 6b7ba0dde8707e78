use Rattle.std.proofs.Common.{arith}
use Rattle.vg_term.proofs.Made.{var_width, kept_var}
use Rattle.vg_term.proofs.terms.Terms.var.Goals as goal

pub need-requires-clause-width : goal.need-requires-clause-width
need-requires-clause-width c = var_width c.self.inside.nodes.entries c.self.inside.variables c.args.width c.self.invariant.0 c.self.invariant.1

pub overflow_add-self : goal.overflow_add-self
overflow_add-self c =
    let kept =
    kept_var c.self.inside.nodes.entries c.need.new.nodes.entries c.self.inside.variables c.args.width c.in_ok-id.id c.self.invariant.0
    c.self.invariant.1 c.self.invariant.2 c.requires.not_empty c.requires.at_most_64 c.in_ok-id.ensures in
    record { fits = omega (arith, kept.3) }

pub invariant_of-self-2 : goal.invariant_of-self-2
invariant_of-self-2 c =
    let kept =
    kept_var c.self.inside.nodes.entries c.need.new.nodes.entries c.self.inside.variables c.args.width c.in_ok-id.id c.self.invariant.0
    c.self.invariant.1 c.self.invariant.2 c.requires.not_empty c.requires.at_most_64 c.in_ok-id.ensures in
    (kept.0, kept.1, kept.2)

pub returns-clause-made : goal.returns-clause-made
returns-clause-made c =
    (kept_var c.self.inside.nodes.entries c.need.new.nodes.entries c.self.inside.variables c.args.width c.in_ok-id.id c.self.invariant.0
    c.self.invariant.1 c.self.invariant.2 c.requires.not_empty c.requires.at_most_64 c.in_ok-id.ensures).0
