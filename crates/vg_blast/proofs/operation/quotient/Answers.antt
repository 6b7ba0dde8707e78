use Rattle.std.proofs.Common.{◌*◌, length}
use Rattle.vg_blast.proofs.Operating.{quotient_made}
use Rattle.vg_blast.proofs.operation.quotient.Goals as goal

pub returns : goal.returns
returns c = quotient_made c.args.gates.now c.divided.new.gates c.args.a.now c.args.b.now c.in_ok-out.out.items c.in_ok-out._remainder.items
    (180 * length c.args.a.now * length c.args.a.now) c.in_ok-out.ensures
