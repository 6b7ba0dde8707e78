use Rattle.std.proofs.Common.{◌≡◌, ◌∙◌, sym, ap, Ok, Some, None}
use Rattle.std.specs.Prelude.{nat_lt, is_some}
use Rattle.vg_abs.specs.Rows as library
use Rattle.vg_abs.specs.State.{link_of_chain}
use Rattle.vg_crows.specs.declared.answer.Answer.TheVariants as answers
use Rattle.vg_crows.specs.Rows.{decided}
use Rattle.vg_crows.specs.Views.{beside}
use Rattle.vg_crows.proofs.Asking.{untold_is, told_is, untouched}
use Rattle.vg_crows.proofs.Answered.{allocated_untold, allocated_told}
use Rattle.vg_crows.proofs.Steps.{met_last, numbers_ok}
use Rattle.vg_crows.proofs.chains.chain_is_allocated.Goals as goal

pub returns-then-missed-clause-value : goal.returns-then-missed-clause-value
returns-then-missed-clause-value g c = λ choices own.
    let s = beside own (g.L.Lib.library c.args.lib.now) c.args.book.now in
    let call = library.ChainIsAllocated c.args.chain.number c.args.index in
    let first : decided 9 (Some (nat_lt c.args.index (link_of_chain (g.L.Lib.library c.args.lib.now).state c.args.chain.number).capacity)) ≡ Ok tt =
    ap (λ n. decided 9 (Some (nat_lt c.args.index n))) c.requires.chain.count ∙ (sym c.needs_below.ensures ∙ c.in_ok-needs_below.was) in
    sym (numbers_ok choices s call None (met_last s 9 (library.IsInChain c.args.chain.number c.args.index) ∙ first)
    ∙ allocated_untold choices s c.args.chain.number c.args.index
    (untold_is _ _ _ (λ answer. is_some answer) c.chain_is-is_allocated.result c.chain_is-is_allocated.ensures c.requires.told
    (sym c.missed.ensures.missed ∙ c.if-missed.true)))

pub returns-then-missed-clause-untouched : goal.returns-then-missed-clause-untouched
returns-then-missed-clause-untouched g c =
    untouched _ _ _ (λ answer. is_some answer) c.chain_is-is_allocated.result c.chain_is-is_allocated.ensures c.requires.told

pub returns-then-missed-clause-lent : goal.returns-then-missed-clause-lent
returns-then-missed-clause-lent g c = λ vector index.
    (untouched _ _ _ (λ answer. is_some answer) c.chain_is-is_allocated.result c.chain_is-is_allocated.ensures c.requires.told).same_lent vector index
    ∙ c.requires.lent vector index

pub returns-clause-untouched : goal.returns-clause-untouched
returns-clause-untouched g c =
    untouched _ _ _ (λ answer. is_some answer) c.chain_is-is_allocated.result c.chain_is-is_allocated.ensures c.requires.told

pub returns-clause-lent : goal.returns-clause-lent
returns-clause-lent g c = λ vector index.
    (untouched _ _ _ (λ answer. is_some answer) c.chain_is-is_allocated.result c.chain_is-is_allocated.ensures c.requires.told).same_lent vector index
    ∙ c.requires.lent vector index

pub returns-clause-value : goal.returns-clause-value
returns-clause-value g c = λ choices own.
    let s = beside own (g.L.Lib.library c.args.lib.now) c.args.book.now in
    let call = library.ChainIsAllocated c.args.chain.number c.args.index in
    let first : decided 9 (Some (nat_lt c.args.index (link_of_chain (g.L.Lib.library c.args.lib.now).state c.args.chain.number).capacity)) ≡ Ok tt =
    ap (λ n. decided 9 (Some (nat_lt c.args.index n))) c.requires.chain.count ∙ (sym c.needs_below.ensures ∙ c.in_ok-needs_below.was) in
    let told = told_is _ _ _ (λ answer. is_some answer) c.chain_is-is_allocated.result c.chain_is-is_allocated.ensures c.requires.told
    (sym c.missed.ensures.missed ∙ c.if-missed.false) in
    let same = (untouched _ _ _ (λ answer. is_some answer) c.chain_is-is_allocated.result c.chain_is-is_allocated.ensures c.requires.told).state_is in
    (λ i. Ok (answers.Word (c.bit.ensures i), record s { library = same i }))
    ∙ sym (numbers_ok choices s call None (met_last s 9 (library.IsInChain c.args.chain.number c.args.index) ∙ first)
    ∙ allocated_told choices s c.args.chain.number c.args.index c.chain_is-is_allocated.result told)
