use Rattle.std.proofs.Common.{◌∙◌, refl, sym}
use Rattle.vg_term.proofs.KnownLaws.{known_opposite}
use Rattle.vg_term.proofs.terms.Terms.known_of_opposite.Goals as goal

pub returns : goal.returns
returns c = known_opposite c.placed.ensures.made c.args.op c.in_ok-simple.simple c.placed.result c.args.a c.args.b c.requires.first c.requires.second
    (c.if-not-are_opposite.ensures refl) (sym c.on_opposite.ensures ∙ c.in_ok-simple.was) c.placed.ensures.places
