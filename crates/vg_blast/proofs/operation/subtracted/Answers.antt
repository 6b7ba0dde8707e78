use Rattle.vg_blast.proofs.Operating.{subtracted_made}
use Rattle.vg_blast.proofs.operation.subtracted.Goals as goal

pub returns : goal.returns
returns c = subtracted_made c.args.gates.now c.difference.new.gates c.args.a.now c.args.b.now c.in_ok-out.out.items c.in_ok-out._borrowed
    c.requires.same c.in_ok-out.ensures
