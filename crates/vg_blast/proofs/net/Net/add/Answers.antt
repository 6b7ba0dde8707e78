use Rattle.vg_blast.proofs.Truths.{tautology}
use Rattle.vg_blast.proofs.Gating.{added_tautology}
use Rattle.std.proofs.Common.{sym, ◌∙◌}
use Rattle.vg_blast.proofs.net.Net.add.Goals as goal

pub returns-else-is_clause-clause-adds : goal.returns-else-is_clause-clause-adds
returns-else-is_clause-clause-adds c =
    added_tautology c.args.self.now c.args.clause.now
    (λ v. tautology v c.args.self.now.variables c.args.clause.now c.requires (sym c.is_clause.ensures ∙ c.if-is_clause.false))
