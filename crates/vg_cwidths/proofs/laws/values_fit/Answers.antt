use Rattle.vg_cwidths.proofs.Meanings.{nodes_fit, runs_fit}
use Rattle.vg_cwidths.proofs.laws.values_fit.Goals as goal

pub returns-clause-nodes : goal.returns-clause-nodes
returns-clause-nodes c = nodes_fit

pub returns-clause-runs : goal.returns-clause-runs
returns-clause-runs c = runs_fit
