use Rattle.std.proofs.Common.{rules, ◌∙◌, ◌-◌, ◌<◌, [], ◌∷◌, sym, subst, arith}
use Rattle.std.proofs.lemmas.Result.{err_from_is_err_and}
use Rattle.vg_ctok.specs.declared.kinds.Sign.TheVariants as signs
use Rattle.vg_cread.specs.Forms.{Inner, Expression, ◌⊳◌}
use Rattle.vg_cread.specs.Kinds.{is_sign}
use Rattle.vg_cread.specs.Grammar.{sign, binary, link, postfix, suffix, arguments}
use Rattle.vg_cread.specs.Reading.{Gives, reads, reads_inner, turn}
use Rattle.vg_cread.proofs.Loops.{listing_same, refused_by, linking_zero, linking_first, linking_init, linking_smaller, linking_turned}
use Rattle.vg_cread.proofs.Loops.{linking_failed, following_init, following_smaller, following_turned, following_failed, listing_smaller}
use Rattle.vg_cread.proofs.Loops.{listing_turned, listing_failed, behind_sign, no_sign, argument_eats, arguments_init}
use Rattle.vg_cread.proofs.reader.Reader.+expression.Goals as goal

pub binary-returns-then-rank-eq0 : goal.binary-returns-then-rank-eq0
binary-returns-then-rank-eq0 t c =
    subst (λ r. Gives c.unary.result c.unary.new.self r) (linking_zero c.args.src c.args.rank c.args.self.now (omega (arith, c.if-rank-eq0.true)))
    c.unary.ensures

pub binary-returns-in_err-left : goal.binary-returns-in_err-left
binary-returns-in_err-left t c =
    let p = err_from_is_err_and c.from_residual.result c.from_residual.ensures.1 in
    let some : 0 < c.args.rank = omega (arith, c.if-rank-eq0.false) in
    rw (p.1, p.2) (refused_by c.in_err-left.field-0.0 c.binary.new.self (reads c.args.src (binary (c.args.rank - 1)) c.args.self.now)
    (reads c.args.src (binary c.args.rank) c.args.self.now)
    (λ f is. linking_first c.args.src c.args.rank c.args.self.now f some is) c.in_err-left.ensures)

pub binary-loop-self-init : goal.binary-loop-self-init
binary-loop-self-init t c =
    linking_init c.args.src c.args.rank c.place-at.result c.in_ok-left.left c.args.self.now c.binary.new.self (omega (arith, c.if-rank-eq0.false))
    c.place-at.ensures c.in_ok-left.ensures

pub binary-returns-in_err-left-2 : goal.binary-returns-in_err-left-2
binary-returns-in_err-left-2 t c =
    let p = err_from_is_err_and c.from_residual-in_err-left-2.result c.from_residual-in_err-left-2.ensures.1 in
    rw (p.1, p.2) (refused_by c.in_err-left-2.field-0.0 c.link.new.self (turn (reads c.args.src (link c.args.rank (binary (c.args.rank - 1))))
    c.place-at.result c.loop-self.left c.loop-self.self)
    (reads c.args.src (binary c.args.rank) c.args.self.now)
    (λ f is. linking_failed c.args.src c.args.rank c.place-at.result c.loop-self.left c.loop-self.self c.args.self.now f c.loop-self.invariant
    (sym c.next_is_binary.ensures ∙ c.loop-self-test.true) is) c.in_err-left-2.ensures)

pub binary-loop-self-smaller : goal.binary-loop-self-smaller
binary-loop-self-smaller t c =
    linking_smaller c.args.src c.args.rank c.place-at.result c.loop-self.left c.loop-self.self c.in_ok-left-2.left c.link.new.self
    (sym c.next_is_binary.ensures ∙ c.loop-self-test.true) c.in_ok-left-2.ensures

pub binary-loop-self-preserved : goal.binary-loop-self-preserved
binary-loop-self-preserved t c =
    linking_turned c.args.src c.args.rank c.place-at.result c.loop-self.left c.loop-self.self c.args.self.now c.in_ok-left-2.left c.link.new.self
    c.loop-self.invariant (sym c.next_is_binary.ensures ∙ c.loop-self-test.true) c.in_ok-left-2.ensures

pub postfix-loop-self-init : goal.postfix-loop-self-init
postfix-loop-self-init t c =
    following_init c.args.src c.place-at.result c.in_ok-whole.whole c.args.self.now c.primary.new.self c.place-at.ensures c.in_ok-whole.ensures

pub postfix-returns-in_err-whole-2 : goal.postfix-returns-in_err-whole-2
postfix-returns-in_err-whole-2 t c =
    let p = err_from_is_err_and c.from_residual-in_err-whole-2.result c.from_residual-in_err-whole-2.ensures.1 in
    rw (p.1, p.2) (refused_by c.in_err-whole-2.field-0.0 c.suffix.new.self (turn (reads c.args.src suffix) c.place-at.result c.loop-self.whole
    c.loop-self.self) (reads c.args.src postfix c.args.self.now)
    (λ f is. following_failed c.args.src c.place-at.result c.loop-self.whole c.loop-self.self c.args.self.now f c.loop-self.invariant
    (sym c.next_is_suffix.ensures ∙ c.loop-self-test.true) is) c.in_err-whole-2.ensures)

pub postfix-loop-self-smaller : goal.postfix-loop-self-smaller
postfix-loop-self-smaller t c =
    following_smaller c.args.src c.place-at.result c.loop-self.whole c.loop-self.self c.in_ok-whole-2.whole c.suffix.new.self
    (sym c.next_is_suffix.ensures ∙ c.loop-self-test.true) c.in_ok-whole-2.ensures

pub postfix-loop-self-preserved : goal.postfix-loop-self-preserved
postfix-loop-self-preserved t c =
    following_turned c.args.src c.place-at.result c.loop-self.whole c.loop-self.self c.args.self.now c.in_ok-whole-2.whole c.suffix.new.self
    c.loop-self.invariant
    (sym c.next_is_suffix.ensures ∙ c.loop-self-test.true) c.in_ok-whole-2.ensures

pub arguments-loop-self-init : goal.arguments-loop-self-init
arguments-loop-self-init t c =
    let init = arguments_init c.args.src c.args.self.now c.in_ok-expression.field-0 c.expression.new.self
    (sym c.next_is_expression.ensures ∙ c.if-not-next_is_expression.false) c.in_ok-expression.ensures in
    listing_same c.args.src (is_sign signs.Comma) (sign signs.Comma ⊳ Inner Expression) (c.in_ok-expression.field-0 ∷ []) c.push.new.self.items
    c.expression.new.self (reads c.args.src arguments c.args.self.now) (search rules) init

pub arguments-returns-in_err-sign : goal.arguments-returns-in_err-sign
arguments-returns-in_err-sign t c =
    let p = err_from_is_err_and c.from_residual-in_err-sign.result c.from_residual-in_err-sign.ensures.1 in
    rw (p.1, p.2) (refused_by c.in_err-sign.field-0.0 c.sign.new.self (reads c.args.src (sign signs.Comma) c.loop-self.self)
    (reads c.args.src arguments c.args.self.now)
    (λ f is. listing_failed c.args.src (is_sign signs.Comma) (sign signs.Comma ⊳ Inner Expression) c.loop-self.parts.items c.loop-self.self
    (reads c.args.src arguments c.args.self.now) f c.loop-self.invariant
    (sym c.next_is_sign.ensures ∙ c.loop-self-test.true) (no_sign c.args.src signs.Comma (Inner Expression) c.loop-self.self f is)) c.in_err-sign.ensures)

pub arguments-returns-in_err-expression-2 : goal.arguments-returns-in_err-expression-2
arguments-returns-in_err-expression-2 t c =
    let p = err_from_is_err_and c.from_residual-in_err-expression-2.result c.from_residual-in_err-expression-2.ensures.1 in
    rw (p.1, p.2) (refused_by c.in_err-expression-2.field-0.0 c.expression-in-loop-self.new.self (reads_inner c.args.src Expression c.sign.new.self)
    (reads c.args.src arguments c.args.self.now)
    (λ f is. listing_failed c.args.src (is_sign signs.Comma) (sign signs.Comma ⊳ Inner Expression) c.loop-self.parts.items c.loop-self.self
    (reads c.args.src arguments c.args.self.now) f c.loop-self.invariant
    (sym c.next_is_sign.ensures ∙ c.loop-self-test.true) (behind_sign c.args.src signs.Comma (Inner Expression) c.loop-self.self c.sign.new.self
    c.in_ok-sign.field-0 c.in_ok-sign.ensures is)) c.in_err-expression-2.ensures)

pub arguments-loop-self-smaller : goal.arguments-loop-self-smaller
arguments-loop-self-smaller t c =
    listing_smaller c.args.src (is_sign signs.Comma) (sign signs.Comma ⊳ Inner Expression) c.loop-self.self c.in_ok-expression-2.field-0
    c.expression-in-loop-self.new.self argument_eats
    (sym c.next_is_sign.ensures ∙ c.loop-self-test.true)
    (behind_sign c.args.src signs.Comma (Inner Expression) c.loop-self.self c.sign.new.self c.in_ok-sign.field-0 c.in_ok-sign.ensures
    c.in_ok-expression-2.ensures)

pub arguments-loop-self-preserved : goal.arguments-loop-self-preserved
arguments-loop-self-preserved t c =
    listing_turned c.args.src (is_sign signs.Comma) (sign signs.Comma ⊳ Inner Expression) c.loop-self.parts.items c.push-in-loop-self.new.self.items
    c.loop-self.self (reads c.args.src arguments c.args.self.now)
    c.in_ok-expression-2.field-0 c.expression-in-loop-self.new.self c.loop-self.invariant argument_eats (sym c.next_is_sign.ensures ∙ c.loop-self-test.true)
    (behind_sign c.args.src signs.Comma (Inner Expression) c.loop-self.self c.sign.new.self c.in_ok-sign.field-0 c.in_ok-sign.ensures
    c.in_ok-expression-2.ensures) (search rules)
