use Rattle.std.proofs.Common.{◌∙◌, sym}
use Rattle.std.specs.Prelude.{is_some}
use Rattle.vg_crows.proofs.Asking.{untold_is, told_is, untouched, decided_untold, decided_told}
use Rattle.vg_crows.proofs.needs.needs_allocated.Goals as goal

pub returns-then-missed-clause-value : goal.returns-then-missed-clause-value
returns-then-missed-clause-value g c = λ book.
    decided_untold _ (λ answer. is_some answer) c.args.row
    (untold_is _ _ _ (λ answer. is_some answer) c.chain_is-is_allocated.result c.chain_is-is_allocated.ensures c.requires.told
    (sym c.missed.ensures.missed ∙ c.if-missed.true))

pub returns-then-missed-clause-untouched : goal.returns-then-missed-clause-untouched
returns-then-missed-clause-untouched g c =
    untouched _ _ _ (λ answer. is_some answer) c.chain_is-is_allocated.result c.chain_is-is_allocated.ensures c.requires.told

pub returns-clause-value : goal.returns-clause-value
returns-clause-value g c = λ book.
    c.decided.ensures ∙ decided_told _ (λ answer. is_some answer) c.args.row c.chain_is-is_allocated.result
    (told_is _ _ _ (λ answer. is_some answer) c.chain_is-is_allocated.result c.chain_is-is_allocated.ensures c.requires.told
    (sym c.missed.ensures.missed ∙ c.if-missed.false))

pub returns-clause-untouched : goal.returns-clause-untouched
returns-clause-untouched g c =
    untouched _ _ _ (λ answer. is_some answer) c.chain_is-is_allocated.result c.chain_is-is_allocated.ensures c.requires.told
