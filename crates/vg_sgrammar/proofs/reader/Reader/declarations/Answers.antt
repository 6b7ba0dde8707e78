use Rattle.std.proofs.Common.{◌∙◌, sym}
use Rattle.std.proofs.lemmas.Result.{err_from_is_err_and}
use Rattle.vg_sgrammar.specs.Rules.{declaration, declarations}
use Rattle.vg_sgrammar.specs.Reader.{reads}
use Rattle.vg_sgrammar.proofs.Steps.{refused_by, declaring_init, declaring_smaller, declaring_turned, declaring_failed, declaring_ended}
use Rattle.vg_sgrammar.proofs.reader.Reader.declarations.Goals as goal

pub loop-self-init : goal.loop-self-init
loop-self-init c = declaring_init c.args.src c.args.self.now

pub returns-in_err-declaration : goal.returns-in_err-declaration
returns-in_err-declaration c =
    let p = err_from_is_err_and c.from_residual.result c.from_residual.ensures.1 in
    rw (p.1, p.2) (refused_by c.in_err-declaration.field-0.0 c.declaration.new.self (reads c.args.src declaration c.loop-self.self)
    (reads c.args.src declarations c.args.self.now)
    (λ f is. declaring_failed c.args.src c.loop-self.self c.args.self.now f c.loop-self.invariant
    (sym c.next_is_declaration.ensures ∙ c.loop-self-test.true) is) c.in_err-declaration.ensures)

pub loop-self-smaller : goal.loop-self-smaller
loop-self-smaller c =
    declaring_smaller c.args.src c.loop-self.self c.in_ok-declaration.field-0 c.declaration.new.self
    (sym c.next_is_declaration.ensures ∙ c.loop-self-test.true) c.in_ok-declaration.ensures

pub loop-self-preserved : goal.loop-self-preserved
loop-self-preserved c =
    declaring_turned c.args.src c.loop-self.self c.args.self.now c.in_ok-declaration.field-0 c.declaration.new.self c.loop-self.invariant
    (sym c.next_is_declaration.ensures ∙ c.loop-self-test.true) c.in_ok-declaration.ensures

pub returns : goal.returns
returns c = declaring_ended c.args.src c.loop-self.self c.args.self.now c.loop-self.invariant
    (sym c.next_is_declaration.ensures ∙ c.loop-self-test.false)
