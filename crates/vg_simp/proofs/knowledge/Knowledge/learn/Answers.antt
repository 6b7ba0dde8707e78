use Rattle.std.proofs.Common.{◌∙◌}
use Rattle.vg_term.proofs.Wires.{width_later}
use Rattle.vg_simp.proofs.Knowing.{known_later, fact_told}
use Rattle.vg_simp.proofs.knowledge.Knowledge.learn.Goals as goal

pub accept-requires-clause-known : goal.accept-requires-clause-known
accept-requires-clause-known c = known_later c.args.terms.now c.simplified.new.terms c.args.self.now c.requires.made
    c.in_ok-simple.ensures.simplifies.grown.grows c.requires.known

pub take-requires-clause-told : goal.take-requires-clause-told
take-requires-clause-told c =
    fact_told c.simplified.new.terms c.args.self.now.facts.items c.accept.new.self.facts.items c.args.fact c.in_ok-simple.simple
    (width_later c.args.terms.now c.simplified.new.terms c.in_ok-simple.ensures.simplifies.grown.grows c.args.fact c.requires.stands
    ∙ c.requires.flag) c.in_ok-simple.ensures.simplifies.same c.in_ok-accept.ensures.facts
