use Rattle.std.proofs.Common.{◌≡◌, ◌∙◌, sym, ap, Ok, [], ◌∷◌, Some}
use Rattle.std.specs.Prelude.{nat_lt}
use Rattle.vg_abs.specs.Rows as library
use Rattle.vg_abs.specs.State.{link_of_chain}
use Rattle.vg_crows.specs.Rows.{decided}
use Rattle.vg_crows.specs.Views.{beside}
use Rattle.vg_crows.proofs.Steps.{met_next, met_last}
use Rattle.vg_crows.proofs.chains.free_needs.Goals as goal

pub returns-clause-value : goal.returns-clause-value
returns-clause-value g c = λ own book.
    let first : decided 11 (Some (nat_lt c.args.index (link_of_chain (g.L.Lib.library c.args.lib.now).state c.args.chain.number).capacity)) ≡ Ok tt =
    ap (λ n. decided 11 (Some (nat_lt c.args.index n))) c.requires.chain.count ∙ (sym c.needs_below.ensures ∙ c.in_ok-needs_below.was) in
    c.needs_allocated.ensures.value book
    ∙ sym (met_next (beside own (g.L.Lib.library c.args.lib.now) book) 11 (library.IsInChain c.args.chain.number c.args.index)
    (library.IsAllocated c.args.chain.number c.args.index ∷ []) first
    ∙ met_last (beside own (g.L.Lib.library c.args.lib.now) book) 11 (library.IsAllocated c.args.chain.number c.args.index))
