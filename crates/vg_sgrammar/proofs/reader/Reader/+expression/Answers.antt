use Rattle.std.proofs.Common.{rules, ◌∙◌, ◌-◌, [], ◌∷◌, sym, subst, arith}
use Rattle.std.proofs.lemmas.Result.{err_from_is_err_and}
use Rattle.vg_forms.specs.Reading.{Gives}
use Rattle.vg_stok.specs.declared.kinds.Sign.TheVariants as signs
use Rattle.vg_sgrammar.specs.Kinds.{is_sign, is_binary}
use Rattle.vg_sgrammar.specs.Rules.{some_expressions, next_expression, operations, operation, binary}
use Rattle.vg_sgrammar.specs.Reader.{reads}
use Rattle.vg_sgrammar.proofs.Steps.{rank_none, rank_some, refused_by, listing_same, listing_smaller, listing_turned, listing_failed, listing_ended}
use Rattle.vg_sgrammar.proofs.Steps.{operation_eats, operations_init, expression_eats, expressions_init}
use Rattle.vg_sgrammar.proofs.reader.Reader.+expression.Goals as goal

pub binary-returns-then-rank-eq0 : goal.binary-returns-then-rank-eq0
binary-returns-then-rank-eq0 t c =
    subst (λ r. Gives c.unary.result c.unary.new.self r) (rank_none c.args.src c.args.rank c.args.self.now (omega (arith, c.if-rank-eq0.true)))
    c.unary.ensures

pub binary-returns : goal.binary-returns
binary-returns t c =
    subst (λ r. Gives c.ranked.result c.ranked.new.self r) (rank_some c.args.src c.args.rank c.args.self.now (omega (arith, c.if-rank-eq0.false)))
    c.ranked.ensures

pub operations-loop-list-init : goal.operations-loop-list-init
operations-loop-list-init t c =
    listing_same c.args.src (is_binary c.args.rank) (operation c.args.rank (binary (c.args.rank - 1))) [] c.new-list.result.items c.args.self.now
    (reads c.args.src (operations c.args.rank (binary (c.args.rank - 1))) c.args.self.now) (search rules)
    (operations_init c.args.src c.args.rank c.args.self.now)

pub operations-returns-in_err-operation : goal.operations-returns-in_err-operation
operations-returns-in_err-operation t c =
    let p = err_from_is_err_and c.from_residual.result c.from_residual.ensures.1 in
    rw (p.1, p.2) (refused_by c.in_err-operation.field-0.0 c.operation.new.self
    (reads c.args.src (operation c.args.rank (binary (c.args.rank - 1))) c.loop-list.self)
    (reads c.args.src (operations c.args.rank (binary (c.args.rank - 1))) c.args.self.now)
    (λ f is. listing_failed c.args.src (is_binary c.args.rank) (operation c.args.rank (binary (c.args.rank - 1))) c.loop-list.list.items c.loop-list.self
    (reads c.args.src (operations c.args.rank (binary (c.args.rank - 1))) c.args.self.now) f c.loop-list.invariant
    (sym c.next_is_operator.ensures ∙ c.loop-list-test.true) is) c.in_err-operation.ensures)

pub operations-loop-list-smaller : goal.operations-loop-list-smaller
operations-loop-list-smaller t c =
    listing_smaller c.args.src (is_binary c.args.rank) (operation c.args.rank (binary (c.args.rank - 1))) c.loop-list.self c.in_ok-operation.field-0
    c.operation.new.self (operation_eats c.args.rank (binary (c.args.rank - 1))) (sym c.next_is_operator.ensures ∙ c.loop-list-test.true)
    c.in_ok-operation.ensures

pub operations-loop-list-preserved : goal.operations-loop-list-preserved
operations-loop-list-preserved t c =
    listing_turned c.args.src (is_binary c.args.rank) (operation c.args.rank (binary (c.args.rank - 1))) c.loop-list.list.items c.push.new.self.items
    c.loop-list.self (reads c.args.src (operations c.args.rank (binary (c.args.rank - 1))) c.args.self.now) c.in_ok-operation.field-0
    c.operation.new.self c.loop-list.invariant (operation_eats c.args.rank (binary (c.args.rank - 1)))
    (sym c.next_is_operator.ensures ∙ c.loop-list-test.true) c.in_ok-operation.ensures (search rules)

pub operations-returns : goal.operations-returns
operations-returns t c =
    listing_ended c.args.src (is_binary c.args.rank) (operation c.args.rank (binary (c.args.rank - 1))) c.loop-list.list.items c.loop-list.self
    (reads c.args.src (operations c.args.rank (binary (c.args.rank - 1))) c.args.self.now) c.loop-list.invariant
    (sym c.next_is_operator.ensures ∙ c.loop-list-test.false)

pub some_expressions-loop-parts-init : goal.some_expressions-loop-parts-init
some_expressions-loop-parts-init t c =
    listing_same c.args.src (is_sign signs.Comma) next_expression (c.in_ok-expression.field-0 ∷ []) c.push.new.self.items c.expression.new.self
    (reads c.args.src some_expressions c.args.self.now) (search rules)
    (expressions_init c.args.src c.args.self.now c.in_ok-expression.field-0 c.expression.new.self c.in_ok-expression.ensures)

pub some_expressions-returns-in_err-next_expression : goal.some_expressions-returns-in_err-next_expression
some_expressions-returns-in_err-next_expression t c =
    let p = err_from_is_err_and c.from_residual-in_err-next_expression.result c.from_residual-in_err-next_expression.ensures.1 in
    rw (p.1, p.2) (refused_by c.in_err-next_expression.field-0.0 c.next_expression.new.self (reads c.args.src next_expression c.loop-parts.self)
    (reads c.args.src some_expressions c.args.self.now)
    (λ f is. listing_failed c.args.src (is_sign signs.Comma) next_expression c.loop-parts.parts.items c.loop-parts.self
    (reads c.args.src some_expressions c.args.self.now) f c.loop-parts.invariant (sym c.next_is_sign.ensures ∙ c.loop-parts-test.true) is)
    c.in_err-next_expression.ensures)

pub some_expressions-loop-parts-smaller : goal.some_expressions-loop-parts-smaller
some_expressions-loop-parts-smaller t c =
    listing_smaller c.args.src (is_sign signs.Comma) next_expression c.loop-parts.self c.in_ok-next_expression.field-0 c.next_expression.new.self
    expression_eats (sym c.next_is_sign.ensures ∙ c.loop-parts-test.true) c.in_ok-next_expression.ensures

pub some_expressions-loop-parts-preserved : goal.some_expressions-loop-parts-preserved
some_expressions-loop-parts-preserved t c =
    listing_turned c.args.src (is_sign signs.Comma) next_expression c.loop-parts.parts.items c.push-in-loop-parts.new.self.items c.loop-parts.self
    (reads c.args.src some_expressions c.args.self.now) c.in_ok-next_expression.field-0 c.next_expression.new.self c.loop-parts.invariant
    expression_eats (sym c.next_is_sign.ensures ∙ c.loop-parts-test.true) c.in_ok-next_expression.ensures (search rules)
