use Rattle.std.proofs.Common.{◌+◌, ◌*◌, length}
use Rattle.vg_blast.proofs.Operating.{arithmetic_made}
use Rattle.vg_blast.proofs.operation.arithmetic_right.Goals as goal

pub returns : goal.returns
returns c = arithmetic_made c.args.gates.now c.shifted_right.new.gates c.args.a.now c.args.by.now c.index-a-a.result
    (36 * length c.args.a.now * (length c.args.a.now + 2)) c.shifted_right.result c.requires.some c.index-a-a.is c.shifted_right.ensures
