use Rattle.std.proofs.Common.{rules, ◌∙◌, [], ◌∷◌, sym}
use Rattle.std.proofs.lemmas.Result.{err_from_is_err_and}
use Rattle.vg_ctok.specs.declared.kinds.Sign.TheVariants as signs
use Rattle.vg_cread.specs.Forms.{◌⊳◌}
use Rattle.vg_cread.specs.Kinds.{is_sign}
use Rattle.vg_cread.specs.Grammar.{sign, params, param}
use Rattle.vg_cread.specs.Reading.{reads}
use Rattle.vg_cread.proofs.Loops.{refused_by, listing_same, listing_smaller, listing_turned, listing_failed, behind_sign, no_sign, params_init, param_eats}
use Rattle.vg_cread.proofs.reader.Reader.params.Goals as goal

pub loop-self-init : goal.loop-self-init
loop-self-init c =
    listing_same c.args.src (is_sign signs.Comma) (sign signs.Comma ⊳ param) (c.in_ok-param.field-0 ∷ []) c.push.new.self.items c.param.new.self
    (reads c.args.src params c.args.self.now) (search rules)
    (params_init c.args.src c.args.self.now c.in_ok-param.field-0 c.param.new.self (sym c.next_is_word.ensures ∙ c.if-next_is_word.false) c.in_ok-param.ensures)

pub returns-in_err-sign : goal.returns-in_err-sign
returns-in_err-sign c =
    let p = err_from_is_err_and c.from_residual-in_err-sign.result c.from_residual-in_err-sign.ensures.1 in
    rw (p.1, p.2) (refused_by c.in_err-sign.field-0.0 c.sign.new.self (reads c.args.src (sign signs.Comma) c.loop-self.self)
    (reads c.args.src params c.args.self.now)
    (λ f is. listing_failed c.args.src (is_sign signs.Comma) (sign signs.Comma ⊳ param) c.loop-self.parts.items c.loop-self.self
    (reads c.args.src params c.args.self.now) f c.loop-self.invariant
    (sym c.next_is_sign.ensures ∙ c.loop-self-test.true) (no_sign c.args.src signs.Comma param c.loop-self.self f is)) c.in_err-sign.ensures)

pub returns-in_err-param-2 : goal.returns-in_err-param-2
returns-in_err-param-2 c =
    let p = err_from_is_err_and c.from_residual-in_err-param-2.result c.from_residual-in_err-param-2.ensures.1 in
    rw (p.1, p.2) (refused_by c.in_err-param-2.field-0.0 c.param-in-loop-self.new.self (reads c.args.src param c.sign.new.self)
    (reads c.args.src params c.args.self.now)
    (λ f is. listing_failed c.args.src (is_sign signs.Comma) (sign signs.Comma ⊳ param) c.loop-self.parts.items c.loop-self.self
    (reads c.args.src params c.args.self.now) f c.loop-self.invariant
    (sym c.next_is_sign.ensures ∙ c.loop-self-test.true) (behind_sign c.args.src signs.Comma param c.loop-self.self c.sign.new.self
    c.in_ok-sign.field-0 c.in_ok-sign.ensures is)) c.in_err-param-2.ensures)

pub loop-self-smaller : goal.loop-self-smaller
loop-self-smaller c =
    listing_smaller c.args.src (is_sign signs.Comma) (sign signs.Comma ⊳ param) c.loop-self.self c.in_ok-param-2.field-0 c.param-in-loop-self.new.self
    param_eats
    (sym c.next_is_sign.ensures ∙ c.loop-self-test.true)
    (behind_sign c.args.src signs.Comma param c.loop-self.self c.sign.new.self c.in_ok-sign.field-0 c.in_ok-sign.ensures c.in_ok-param-2.ensures)

pub loop-self-preserved : goal.loop-self-preserved
loop-self-preserved c =
    listing_turned c.args.src (is_sign signs.Comma) (sign signs.Comma ⊳ param) c.loop-self.parts.items c.push-in-loop-self.new.self.items
    c.loop-self.self (reads c.args.src params c.args.self.now)
    c.in_ok-param-2.field-0 c.param-in-loop-self.new.self c.loop-self.invariant param_eats (sym c.next_is_sign.ensures ∙ c.loop-self-test.true)
    (behind_sign c.args.src signs.Comma param c.loop-self.self c.sign.new.self c.in_ok-sign.field-0 c.in_ok-sign.ensures c.in_ok-param-2.ensures) (search rules)
