use Rattle.std.proofs.Common.{ap, length, arith}
use Rattle.std.specs.Prelude.{sum_by}
use Rattle.vg_cnf.proofs.Pieces.{sum-pieces}
use Rattle.vg_cnf.proofs.lists.LiteralLists.literal_count.Goals as goal

pub returns : goal.returns
returns c =
    omega (arith, sum-pieces c.self.inside.literals.items 0 c.self.inside.ends.items c.self.invariant, ap (sum_by length) c.self.view_is)
