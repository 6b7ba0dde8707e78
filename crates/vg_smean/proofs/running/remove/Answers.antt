use Rattle.std.proofs.Common.{◌∙◌, sym, ap, Some}
use Rattle.vg_smean.specs.Places.{place_of}
use Rattle.vg_smean.proofs.RunLaws.{remove_comes}
use Rattle.vg_smean.proofs.running.remove.Goals as goal

pub returns-else-not-is_cell_told-clause-comes : goal.returns-else-not-is_cell_told-clause-comes
returns-else-not-is_cell_told-clause-comes c =
    remove_comes _ _ _ _ (place_of c.args.place.now) c.args.link c.args.expression c.in_ok-index.index c.in-Some-Some.field-0-0 _ c.in_ok-index.ensures
    (sym c.time_of.ensures ∙ c.in-Some-Some.is ∙ ap (λ t. Some t) c.in-Some-Some.field-0-is) c.requires
    (sym c.is_cell_told.ensures ∙ c.if-not-is_cell_told.false) c.remove.ensures
