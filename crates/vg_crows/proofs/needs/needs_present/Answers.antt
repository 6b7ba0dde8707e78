use Rattle.std.proofs.Common.{◌∙◌, sym, ap, Some}
use Rattle.std.specs.Prelude.{option_map, is_some, Bool}
use Rattle.vg_crows.specs.Rows.{decided}
use Rattle.vg_crows.proofs.Asking.{untold_is, told_as, untouched, decided_untold}
use Rattle.vg_crows.proofs.needs.needs_present.Goals as goal

pub returns-then-missed-clause-value : goal.returns-then-missed-clause-value
returns-then-missed-clause-value g c = λ book.
    decided_untold _ (λ answer. is_some answer) c.args.row
    (untold_is _ _ _ (λ a. a) c.map_get-found.result c.map_get-found.ensures c.requires.told (sym c.missed.ensures.missed ∙ c.if-missed.true))

pub returns-then-missed-clause-untouched : goal.returns-then-missed-clause-untouched
returns-then-missed-clause-untouched g c =
    untouched _ _ _ (λ a. a) c.map_get-found.result c.map_get-found.ensures c.requires.told

pub returns-clause-value : goal.returns-clause-value
returns-clause-value g c = λ book.
    let found = told_as _ _ _ c.map_get-found.result c.map_get-found.ensures c.requires.told (sym c.missed.ensures.missed ∙ c.if-missed.false) in
    c.decided.ensures ∙ (ap (λ (b : Bool). decided c.args.row (Some b)) c.is_some.ensures
    ∙ sym (ap (λ q. decided c.args.row (option_map (λ answer. is_some answer) q)) found))

pub returns-clause-untouched : goal.returns-clause-untouched
returns-clause-untouched g c =
    untouched _ _ _ (λ a. a) c.map_get-found.result c.map_get-found.ensures c.requires.told
