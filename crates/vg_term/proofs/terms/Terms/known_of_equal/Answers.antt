use Rattle.std.proofs.Common.{◌∙◌, sym}
use Rattle.vg_term.proofs.KnownLaws.{known_equal}
use Rattle.vg_term.proofs.terms.Terms.known_of_equal.Goals as goal

pub returns : goal.returns
returns c = known_equal c.placed.ensures.made c.args.op c.in_ok-simple.simple c.placed.result c.args.a c.args.b c.requires.first c.if-a-b.false
    (sym c.on_equal.ensures ∙ c.in_ok-simple.was) c.placed.ensures.places
