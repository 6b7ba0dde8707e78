use Rattle.std.proofs.Common.{subst, ◌<◌, ◌≤◌, ap}
use Rattle.vg_term.specs.Terms.{width_in}
use Rattle.vg_term.proofs.Ranges.{width_some, width_most}
use Rattle.vg_term.proofs.terms.Terms.width.Goals as goal

pub returns-clause-some : goal.returns-clause-some
returns-clause-some c = subst (λ n. 0 < n) (ap width_in c.entry.ensures.entry) (width_some c.entry.ensures.made c.args.term c.requires)

pub returns-clause-most : goal.returns-clause-most
returns-clause-most c = subst (λ n. n ≤ 64) (ap width_in c.entry.ensures.entry) (width_most c.entry.ensures.made c.args.term c.requires)
