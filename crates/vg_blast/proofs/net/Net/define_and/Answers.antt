use Rattle.vg_blast.proofs.Gating.{and_made}
use Rattle.vg_blast.proofs.net.Net.define_and.Goals as goal

pub returns-clause-gate : goal.returns-clause-gate
returns-clause-gate c =
    and_made c.args.self.now c.fresh.new.self c.add.new.self c.add-2.new.self c.add-3.new.self c.in_ok-out.out c.args.a c.args.b c.fresh.ensures.stood
    c.in_ok-out.ensures.one_more c.in_ok-out.ensures.literal
    c.requires.0 c.requires.1 (rw c.negated.ensures at c.in_ok-add.ensures.adds) (rw c.negated-2.ensures at c.in_ok-add-2.ensures.adds)
    (rw (c.negated-3.ensures, c.negated-4.ensures) at c.in_ok-add-3.ensures.adds)
