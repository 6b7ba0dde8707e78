use Rattle.std.proofs.Common.{Option, subst}
use Rattle.std.specs.Prelude.{IfSome}
use Rattle.vg_term.specs.Narrowing.{AreNarrower}
use Rattle.vg_term.specs.declared.node.TermId.{TermId}
use Rattle.vg_term.proofs.Compared.{narrower_builds}
use Rattle.vg_term.proofs.terms.Terms.compared.Goals as goal

pub returns-in-Some-clause-builds : goal.returns-in-Some-clause-builds
returns-in-Some-clause-builds c =
    narrower_builds c.args.self.now c.unextended.new.self c.compared_bits.new.self c.args.op c.args.a c.args.b c.in-Some.x c.in-Some.y
    c.compared_bits.result c.requires.op c.unextended.ensures.grown c.requires.first c.requires.second c.requires.alike
    (subst (λ (n : Option (TermId × TermId)). IfSome n (λ p. AreNarrower c.unextended.new.self c.args.a c.args.b p.0 p.1)) c.in-Some.is
    c.in_ok-narrower.ensures.narrower) c.compared_bits.ensures.builds
