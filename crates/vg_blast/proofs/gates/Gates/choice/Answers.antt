use Rattle.vg_blast.proofs.Composing.{choice_made}
use Rattle.vg_blast.proofs.gates.Gates.choice.Goals as goal

pub returns : goal.returns
returns c =
    choice_made c.args.self.now c.and.new.self c.and-2.new.self c.or.new.self c.args.condition c.args.a c.args.b c.negated.result c.in_ok-taken.taken
    c.in_ok-left.left c.or.result
    c.requires.0 c.negated.ensures c.in_ok-taken.ensures c.in_ok-left.ensures c.or.ensures
