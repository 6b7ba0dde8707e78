use Rattle.vg_term.proofs.Building.{forgotten}
use Rattle.vg_term.proofs.terms.Terms.forget.Goals as goal

pub invariant_of-self : goal.invariant_of-self
invariant_of-self c = forgotten c.self.inside.nodes.entries c.args.self.now c.truncate.new.self.entries c.args.mark.terms c.args.mark.variables
    c.self.invariant.0 c.self.view_is c.truncate.ensures.entries c.requires.variables c.self.invariant.2
