use Rattle.std.proofs.Common.{◌*◌, length}
use Rattle.vg_blast.proofs.Operating.{remainder_made}
use Rattle.vg_blast.proofs.operation.remainder.Goals as goal

pub returns : goal.returns
returns c = remainder_made c.args.gates.now c.divided.new.gates c.args.a.now c.args.b.now c.in_ok-_quotient._quotient.items
    c.in_ok-_quotient.out.items (180 * length c.args.a.now * length c.args.a.now) c.requires.same c.in_ok-_quotient.ensures
