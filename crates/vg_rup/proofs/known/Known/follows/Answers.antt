use Rattle.std.proofs.Common.{subst, sym, ap, ◌∙◌}
use Rattle.vg_cnf.specs.Propagation.{follows}
use Rattle.vg_rup.specs.Knowledge.{IsRefutedOf}
use Rattle.vg_rup.proofs.Knowing.{refuted_follows}
use Rattle.vg_rup.proofs.known.Known.follows.Goals as goal

pub returns-then-self-clause-answer : goal.returns-then-self-clause-answer
returns-then-self-clause-answer c =
    let s = c.self.inside in
    sym (ap (λ xs. follows xs c.args.list.now) (sym c.self.view_is) ∙ refuted_follows s.lists c.args.list.now c.self.invariant.nonzero
    (sym c.is_clause.ensures ∙ c.if-not-is_clause.false) (subst (IsRefutedOf s.lists) c.if-self.true c.self.invariant.refuted_is))
