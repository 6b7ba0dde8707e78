use Rattle.vg_rup.proofs.Checking.{negations-consistent, propagates-follows}
use Rattle.vg_rup.proofs.known.follows_by_passes.Goals as goal

pub propagate-requires-clause-consistent : goal.propagate-requires-clause-consistent
propagate-requires-clause-consistent c = negations-consistent c.in_ok-made.made c.args.clause.now c.requires.clause c.in_ok-made.ensures

pub returns : goal.returns
returns c =
    propagates-follows c.args.clauses.now c.args.clause.now c.in_ok-made.made c.propagate.new.made c.in_ok-conflict.conflict c.requires.nonzero
    c.requires.clause
    c.in_ok-made.ensures c.in_ok-conflict.ensures
