use Rattle.std.proofs.Common.{◌∙◌, ap, sym, Ok, None, arith}
use Rattle.vg_abs.specs.Rows as library
use Rattle.vg_crows.specs.declared.answer.Answer.TheVariants as answers
use Rattle.vg_crows.specs.State.{State}
use Rattle.vg_crows.specs.Views.{beside}
use Rattle.vg_crows.proofs.Steps.{stopped, numbers_ok, each_met, left_is, nothing}
use Rattle.vg_crows.proofs.Expired.{may_expire, expired_untold, expired_done, granted_untold, granted_count}
use Rattle.vg_crows.proofs.expiry.expire_items.Goals as goal

pub returns-in_err-expire_needs-clause-value : goal.returns-in_err-expire_needs-clause-value
returns-in_err-expire_needs-clause-value g c = λ choices own.
    let l = g.L.Lib.library c.args.lib.now in
    let s = beside own l c.args.book.now in
    stopped choices s s (library.ExpireItems c.args.map.number c.args.chain.number c.args.vector.number c.args.before) None c.from_residual.result
    c.in_err-expire_needs.field-0.0 c.from_residual.ensures.1 (sym (c.expire_needs.ensures.value own l c.args.before) ∙ c.in_err-expire_needs.was)

pub expire-count-requires-clause-ready : goal.expire-count-requires-clause-ready
expire-count-requires-clause-ready g c =
    let l = g.L.Lib.library c.args.lib.now in
    let s = beside nothing l c.args.book.now in
    let met = each_met s 12 (library.needs (library.ExpireItems c.args.map.number c.args.chain.number c.args.vector.number c.args.before))
    (sym (c.expire_needs.ensures.value nothing l c.args.before) ∙ c.in_ok-expire_needs.was) in
    may_expire l c.args.book.now c.args.map.number c.args.chain.number c.args.vector.number c.requires.lent c.requires.tied
    (met 0 library.MayBeHanded (omega arith)) (met 1 library.MayBeHanded (omega arith)) (met 2 library.MayBeHanded (omega arith))

pub returns-then-missed-clause-value : goal.returns-then-missed-clause-value
returns-then-missed-clause-value g c = λ choices own.
    let l = g.L.Lib.library c.args.lib.now in
    let s = beside own l c.args.book.now in
    let call = library.ExpireItems c.args.map.number c.args.chain.number c.args.vector.number c.args.before in
    sym (numbers_ok choices s call None (sym (c.expire_needs.ensures.value own l c.args.before) ∙ c.in_ok-expire_needs.was)
    ∙ granted_untold choices s c.args.map.number c.args.chain.number c.args.vector.number c.args.before
    (expired_untold l (g.L.Lib.library c.expire-count.new.self) c.args.map.number c.args.before c.expire-count.result c.expire-count.ensures c.requires.told
    (sym c.missed.ensures.missed ∙ c.if-missed.true)))

pub returns-clause-value : goal.returns-clause-value
returns-clause-value g c = λ choices own.
    let l = g.L.Lib.library c.args.lib.now in
    let s = beside own l c.args.book.now in
    let call = library.ExpireItems c.args.map.number c.args.chain.number c.args.vector.number c.args.before in
    let done = expired_done l (g.L.Lib.library c.expire-count.new.self) c.args.map.number c.args.before c.expire-count.result c.expire-count.ensures
    c.requires.told (sym c.missed.ensures.missed ∙ c.if-missed.false) in
    ap (λ (t : State). Ok (answers.Word c.expire-count.result, t))
    (left_is own (g.L.Lib.library c.expire-count.new.self) c.mark.new.self _ _ done.1.state_is c.mark.ensures)
    ∙ sym (numbers_ok choices s call None (sym (c.expire_needs.ensures.value own l c.args.before) ∙ c.in_ok-expire_needs.was)
    ∙ granted_count choices s c.args.map.number c.args.chain.number c.args.vector.number c.args.before c.expire-count.result done.0)
