use Rattle.std.proofs.Common.{◌≡◌, ◌∙◌, sym, ap, subst, Some, Result, IfOk, true, length, ◌<◌, refl, arith}
use Rattle.vg_abs.specs.Rows as library
use Rattle.vg_crows.specs.declared.answer.Answer.{Answer}
use Rattle.vg_crows.specs.declared.answer.Stop.{Stop}
use Rattle.vg_crows.specs.Rows.{target}
use Rattle.vg_crows.specs.Views.{seen, gives, is_untold}
use Rattle.vg_crows.proofs.Steps.{stopped, passed, numbers_ok, each_met, two_met}
use Rattle.vg_crows.proofs.Allocated.{granted_used, granted_stop, granted_go}
use Rattle.vg_crows.proofs.allocation.chain_allocate.Goals as goal

pub returns-in_err-allocate_needs-clause-value : goal.returns-in_err-allocate_needs-clause-value
returns-in_err-allocate_needs-clause-value g c = λ choices guides.
    let s = seen c.args.memory.now c.args.frame.now (g.L.Lib.library c.args.lib.now) c.args.book.now in
    stopped choices s s (library.ChainAllocate c.args.chain.number c.args.time) (target c.args.index 4) c.from_residual.result
    c.in_err-allocate_needs.field-0.0 c.from_residual.ensures.1
    (sym (c.allocate_needs.ensures.value s.memory) ∙ c.in_err-allocate_needs.was)

pub returns-in_err-allocate_needs-clause-missed : goal.returns-in_err-allocate_needs-clause-missed
returns-in_err-allocate_needs-clause-missed g c =
    c.requires.told
    ∙ (sym c.allocate_needs.ensures.told
    ∙ (ap (λ (r : Result (Unit {0}) Stop). is_untold r) c.in_err-allocate_needs.was
    ∙ sym (ap (λ (r : Result Answer Stop). is_untold r)
    (passed c.from_residual.result c.in_err-allocate_needs.field-0.0 c.from_residual.ensures.1))))

pub returns-then-is_used_up-clause-value : goal.returns-then-is_used_up-clause-value
returns-then-is_used_up-clause-value g c = λ choices guides.
    let s = seen c.args.memory.now c.args.frame.now (g.L.Lib.library c.args.lib.now) c.args.book.now in
    let call = library.ChainAllocate c.args.chain.number c.args.time in
    let met = sym (c.allocate_needs.ensures.value s.memory) ∙ c.in_ok-allocate_needs.was in
    sym (numbers_ok choices s call (target c.args.index 4) met
    ∙ granted_used choices s c.args.chain.number c.args.time (record { pointer = c.args.index; size = 4 }) (sym c.is_used_up.ensures ∙ c.if-is_used_up.true))

pub returns-in_err-may_store-clause-value : goal.returns-in_err-may_store-clause-value
returns-in_err-may_store-clause-value g c = λ choices guides.
    let s = seen c.args.memory.now c.args.frame.now (g.L.Lib.library c.args.lib.now) c.args.book.now in
    let call = library.ChainAllocate c.args.chain.number c.args.time in
    let met = sym (c.allocate_needs.ensures.value s.memory) ∙ c.in_ok-allocate_needs.was in
    let free = sym c.is_used_up.ensures ∙ c.if-is_used_up.false in
    ap (λ (r : Result Answer Stop). gives r s)
    (passed c.from_residual-in_err-may_store.result c.in_err-may_store.field-0.0 c.from_residual-in_err-may_store.ensures.1)
    ∙ sym (numbers_ok choices s call (target c.args.index 4) met
    ∙ granted_stop choices s c.args.chain.number c.args.time (record { pointer = c.args.index; size = 4 }) c.in_err-may_store.field-0.0 free
    (sym c.may_store.ensures ∙ c.in_err-may_store.was))

pub hand_out-requires-clause-needs : goal.hand_out-requires-clause-needs
hand_out-requires-clause-needs g c = λ told.
    let s = seen c.args.memory.now c.args.frame.now (g.L.Lib.library c.args.lib.now) c.args.book.now in
    let state = (g.L.Lib.library c.args.lib.now).state in
    let met = each_met s 8 (library.needs (library.ChainAllocate c.args.chain.number c.args.time))
    (sym (c.allocate_needs.ensures.value s.memory) ∙ c.in_ok-allocate_needs.was) in
    two_met (λ (need : library.Need). library.is_met state library.fresh need ≡ Some true) (library.IsNoEarlier c.args.chain.number c.args.time)
    library.MayBeHanded
    (met 0 library.MayBeHanded (omega arith)) refl

pub hand_out-requires-clause-few : goal.hand_out-requires-clause-few
hand_out-requires-clause-few g c =
    subst (λ (r : Result (Unit {0}) Stop). IfOk r (λ _. length c.args.book.now.handed < 64)) c.in_ok-allocate_needs.was c.allocate_needs.ensures.few

pub returns-clause-value : goal.returns-clause-value
returns-clause-value g c = λ choices guides.
    let s = seen c.args.memory.now c.args.frame.now (g.L.Lib.library c.args.lib.now) c.args.book.now in
    let call = library.ChainAllocate c.args.chain.number c.args.time in
    let met = sym (c.allocate_needs.ensures.value s.memory) ∙ c.in_ok-allocate_needs.was in
    let free = sym c.is_used_up.ensures ∙ c.if-is_used_up.false in
    c.hand_out.ensures.value choices guides
    ∙ sym (numbers_ok choices s call (target c.args.index 4) met
    ∙ granted_go choices s c.args.chain.number c.args.time (record { pointer = c.args.index; size = 4 }) free (sym c.may_store.ensures ∙ c.in_ok-may_store.was))
