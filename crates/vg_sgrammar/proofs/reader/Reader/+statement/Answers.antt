use Rattle.std.proofs.Common.{rules, ◌∙◌, [], refl, sym}
use Rattle.std.proofs.lemmas.Result.{err_from_is_err_and}
use Rattle.vg_forms.specs.Forms.{Inner}
use Rattle.vg_sgrammar.specs.Kinds.{begins_statement}
use Rattle.vg_sgrammar.specs.Rules.{Statement, statements}
use Rattle.vg_sgrammar.specs.Reader.{reads, reads_inner}
use Rattle.vg_sgrammar.proofs.Steps.{refused_by, listing_same, listing_smaller, listing_turned, listing_failed, listing_ended, statements_init}
use Rattle.vg_sgrammar.proofs.reader.Reader.+statement.Goals as goal

pub statements-loop-parts-init : goal.statements-loop-parts-init
statements-loop-parts-init t c =
    listing_same c.args.src begins_statement (Inner Statement) [] c.new-parts.result.items c.args.self.now
    (reads c.args.src statements c.args.self.now) (search rules) (statements_init c.args.src c.args.self.now)

pub statements-returns-in_err-statement : goal.statements-returns-in_err-statement
statements-returns-in_err-statement t c =
    let p = err_from_is_err_and c.from_residual.result c.from_residual.ensures.1 in
    rw (p.1, p.2) (refused_by c.in_err-statement.field-0.0 c.statement.new.self (reads_inner c.args.src Statement c.loop-parts.self)
    (reads c.args.src statements c.args.self.now)
    (λ f is. listing_failed c.args.src begins_statement (Inner Statement) c.loop-parts.parts.items c.loop-parts.self
    (reads c.args.src statements c.args.self.now) f c.loop-parts.invariant (sym c.next_is_statement.ensures ∙ c.loop-parts-test.true) is)
    c.in_err-statement.ensures)

pub statements-loop-parts-smaller : goal.statements-loop-parts-smaller
statements-loop-parts-smaller t c =
    listing_smaller c.args.src begins_statement (Inner Statement) c.loop-parts.self c.in_ok-statement.field-0 c.statement.new.self refl
    (sym c.next_is_statement.ensures ∙ c.loop-parts-test.true) c.in_ok-statement.ensures

pub statements-loop-parts-preserved : goal.statements-loop-parts-preserved
statements-loop-parts-preserved t c =
    listing_turned c.args.src begins_statement (Inner Statement) c.loop-parts.parts.items c.push.new.self.items c.loop-parts.self
    (reads c.args.src statements c.args.self.now) c.in_ok-statement.field-0 c.statement.new.self c.loop-parts.invariant refl
    (sym c.next_is_statement.ensures ∙ c.loop-parts-test.true) c.in_ok-statement.ensures (search rules)

pub statements-returns : goal.statements-returns
statements-returns t c =
    listing_ended c.args.src begins_statement (Inner Statement) c.loop-parts.parts.items c.loop-parts.self
    (reads c.args.src statements c.args.self.now) c.loop-parts.invariant (sym c.next_is_statement.ensures ∙ c.loop-parts-test.false)
