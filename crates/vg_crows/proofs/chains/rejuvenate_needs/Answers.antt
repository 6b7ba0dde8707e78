use Rattle.std.proofs.Common.{◌≡◌, ◌∙◌, sym, ap, Ok, [], ◌∷◌, Some}
use Rattle.std.specs.Prelude.{nat_lt, nat_le}
use Rattle.vg_abs.specs.Rows as library
use Rattle.vg_abs.specs.State.{link_of_chain}
use Rattle.vg_crows.specs.Rows.{decided}
use Rattle.vg_crows.specs.Views.{beside}
use Rattle.vg_crows.proofs.Steps.{met_next, met_stop, met_last, passed}
use Rattle.vg_crows.proofs.chains.rejuvenate_needs.Goals as goal

pub returns-in_err-needs_allocated-clause-value : goal.returns-in_err-needs_allocated-clause-value
returns-in_err-needs_allocated-clause-value g c = λ own book.
    let s = beside own (g.L.Lib.library c.args.lib.now) book in
    let first : decided 10 (Some (nat_lt c.args.index (link_of_chain (g.L.Lib.library c.args.lib.now).state c.args.chain.number).capacity)) ≡ Ok tt =
    ap (λ n. decided 10 (Some (nat_lt c.args.index n))) c.requires.chain.count ∙ (sym c.needs_below.ensures ∙ c.in_ok-needs_below.was) in
    passed c.from_residual-in_err-needs_allocated.result c.in_err-needs_allocated.field-0.0 c.from_residual-in_err-needs_allocated.ensures.1
    ∙ sym (met_next s 10 (library.IsInChain c.args.chain.number c.args.index)
    (library.IsAllocated c.args.chain.number c.args.index ∷ library.IsNoEarlier c.args.chain.number c.args.time ∷ []) first
    ∙ met_stop s 10 (library.IsAllocated c.args.chain.number c.args.index) (library.IsNoEarlier c.args.chain.number c.args.time ∷ [])
    c.in_err-needs_allocated.field-0.0 (sym (c.needs_allocated.ensures.value book) ∙ c.in_err-needs_allocated.was))

pub returns-clause-value : goal.returns-clause-value
returns-clause-value g c = λ own book.
    let s = beside own (g.L.Lib.library c.args.lib.now) book in
    let first : decided 10 (Some (nat_lt c.args.index (link_of_chain (g.L.Lib.library c.args.lib.now).state c.args.chain.number).capacity)) ≡ Ok tt =
    ap (λ n. decided 10 (Some (nat_lt c.args.index n))) c.requires.chain.count ∙ (sym c.needs_below.ensures ∙ c.in_ok-needs_below.was) in
    c.needs_no_earlier.ensures
    ∙ (ap (λ n. decided 10 (Some (nat_le n c.args.time))) (c.chain_highest-highest.ensures c.requires.told)
    ∙ sym (met_next s 10 (library.IsInChain c.args.chain.number c.args.index)
    (library.IsAllocated c.args.chain.number c.args.index ∷ library.IsNoEarlier c.args.chain.number c.args.time ∷ []) first
    ∙ (met_next s 10 (library.IsAllocated c.args.chain.number c.args.index) (library.IsNoEarlier c.args.chain.number c.args.time ∷ [])
    (sym (c.needs_allocated.ensures.value book) ∙ c.in_ok-needs_allocated.was)
    ∙ met_last s 10 (library.IsNoEarlier c.args.chain.number c.args.time))))
