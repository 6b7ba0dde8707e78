use Rattle.vg_cbounds.proofs.Bounding.{nodes_bounded, runs_bounded, loops_bounded}
use Rattle.vg_cbounds.proofs.laws.counts_are_bounds.Goals as goal

pub returns-clause-nodes : goal.returns-clause-nodes
returns-clause-nodes c = nodes_bounded

pub returns-clause-runs : goal.returns-clause-runs
returns-clause-runs c = runs_bounded

pub returns-clause-loops : goal.returns-clause-loops
returns-clause-loops c = loops_bounded
