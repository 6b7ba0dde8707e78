use Rattle.std.proofs.Common.{◌≡◌, ◌∙◌, sym, ap, Ok, Result, [], false, None}
use Rattle.vg_abs.specs.Rows as library
use Rattle.vg_crows.specs.declared.answer.Answer.TheVariants as answers
use Rattle.vg_crows.specs.declared.answer.Stop.{Stop}
use Rattle.vg_crows.specs.State.{State}
use Rattle.vg_crows.specs.Record.{fresh}
use Rattle.vg_crows.specs.Views.{beside, is_untold}
use Rattle.vg_crows.proofs.Steps.{nothing, stopped, numbers_ok, each_met, still_met, left_is}
use Rattle.vg_crows.proofs.chains.chain_free.Goals as goal

pub returns-in_err-free_needs-clause-value : goal.returns-in_err-free_needs-clause-value
returns-in_err-free_needs-clause-value g c = λ choices own.
    let s = beside own (g.L.Lib.library c.args.lib.now) c.args.book.now in
    let failed = sym (c.free_needs.ensures.value own c.args.book.now) ∙ c.in_err-free_needs.was in
    stopped choices s _ (library.ChainFree c.args.chain.number c.args.index) None c.from_residual.result c.in_err-free_needs.field-0.0
    c.from_residual.ensures.1 failed

pub chain_free-requires-clause-needs : goal.chain_free-requires-clause-needs
chain_free-requires-clause-needs g c = λ told.
    let s = beside nothing (g.L.Lib.library c.args.lib.now) (fresh []) in
    still_met (g.L.Lib.library c.args.lib.now).state (g.L.Lib.library c.free_needs.new.lib).state
    (library.needs (library.ChainFree c.args.chain.number c.args.index)) c.free_needs.ensures.untouched.state_is
    (each_met s 11 (library.needs (library.ChainFree c.args.chain.number c.args.index))
    (sym (c.free_needs.ensures.value s.memory (fresh [])) ∙ c.in_ok-free_needs.was))

pub returns-clause-value : goal.returns-clause-value
returns-clause-value g c = λ choices own.
    let s = beside own (g.L.Lib.library c.args.lib.now) c.args.book.now in
    let call = library.ChainFree c.args.chain.number c.args.index in
    let met = sym (c.free_needs.ensures.value own c.args.book.now) ∙ c.in_ok-free_needs.was in
    let told : (g.L.Lib.library c.free_needs.new.lib).missed ≡ false = c.free_needs.ensures.missed ∙ ap (λ (r : Result (Unit {0}) Stop). is_untold r)
    c.in_ok-free_needs.was in
    let tables = (c.chain_free.ensures.done told).state_is ∙ ap (λ state. library.effect state call 0) c.free_needs.ensures.untouched.state_is in
    ap (λ (t : State). Ok (answers.Nothing, t)) (left_is own (g.L.Lib.library c.chain_free.new.self) c.mark.new.self _ _ tables c.mark.ensures)
    ∙ sym (numbers_ok choices s call None met)
