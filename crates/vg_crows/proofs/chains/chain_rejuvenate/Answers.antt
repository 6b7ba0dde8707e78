use Rattle.std.proofs.Common.{◌≡◌, ◌∙◌, sym, ap, Ok, Result, [], false, None}
use Rattle.vg_abs.specs.Rows as library
use Rattle.vg_crows.specs.declared.answer.Answer.TheVariants as answers
use Rattle.vg_crows.specs.declared.answer.Stop.{Stop}
use Rattle.vg_crows.specs.State.{State}
use Rattle.vg_crows.specs.Record.{fresh}
use Rattle.vg_crows.specs.Views.{beside, is_untold}
use Rattle.vg_crows.proofs.Steps.{nothing, stopped, numbers_ok, each_met, still_met, left_is}
use Rattle.vg_crows.proofs.chains.chain_rejuvenate.Goals as goal

pub returns-in_err-rejuvenate_needs-clause-value : goal.returns-in_err-rejuvenate_needs-clause-value
returns-in_err-rejuvenate_needs-clause-value g c = λ choices own.
    let s = beside own (g.L.Lib.library c.args.lib.now) c.args.book.now in
    let failed = sym (c.rejuvenate_needs.ensures.value own c.args.book.now) ∙ c.in_err-rejuvenate_needs.was in
    stopped choices s _ (library.ChainRejuvenate c.args.chain.number c.args.index c.args.time) None c.from_residual.result c.in_err-rejuvenate_needs.field-0.0
    c.from_residual.ensures.1 failed

pub chain_rejuvenate-requires-clause-needs : goal.chain_rejuvenate-requires-clause-needs
chain_rejuvenate-requires-clause-needs g c = λ told.
    let s = beside nothing (g.L.Lib.library c.args.lib.now) (fresh []) in
    still_met (g.L.Lib.library c.args.lib.now).state (g.L.Lib.library c.rejuvenate_needs.new.lib).state
    (library.needs (library.ChainRejuvenate c.args.chain.number c.args.index c.args.time)) c.rejuvenate_needs.ensures.untouched.state_is
    (each_met s 10 (library.needs (library.ChainRejuvenate c.args.chain.number c.args.index c.args.time))
    (sym (c.rejuvenate_needs.ensures.value s.memory (fresh [])) ∙ c.in_ok-rejuvenate_needs.was))

pub returns-clause-value : goal.returns-clause-value
returns-clause-value g c = λ choices own.
    let s = beside own (g.L.Lib.library c.args.lib.now) c.args.book.now in
    let call = library.ChainRejuvenate c.args.chain.number c.args.index c.args.time in
    let met = sym (c.rejuvenate_needs.ensures.value own c.args.book.now) ∙ c.in_ok-rejuvenate_needs.was in
    let told : (g.L.Lib.library c.rejuvenate_needs.new.lib).missed ≡ false = c.rejuvenate_needs.ensures.missed ∙ ap
    (λ (r : Result (Unit {0}) Stop). is_untold r) c.in_ok-rejuvenate_needs.was in
    let tables = (c.chain_rejuvenate.ensures.done told).state_is ∙ ap (λ state. library.effect state call 0) c.rejuvenate_needs.ensures.untouched.state_is in
    ap (λ (t : State). Ok (answers.Nothing, t)) (left_is own (g.L.Lib.library c.chain_rejuvenate.new.self) c.mark.new.self _ _ tables c.mark.ensures)
    ∙ sym (numbers_ok choices s call None met)
