use Rattle.std.proofs.Common.{rules, ◌∙◌, [], ◌∷◌, sym}
use Rattle.std.proofs.lemmas.Result.{err_from_is_err_and}
use Rattle.vg_cread.specs.Kinds.{begins_base}
use Rattle.vg_cread.specs.Grammar.{fields, field}
use Rattle.vg_cread.specs.Reading.{reads}
use Rattle.vg_cread.proofs.Loops.{refused_by, listing_same, listing_smaller, listing_turned, listing_failed, fields_init, field_eats}
use Rattle.vg_cread.proofs.reader.Reader.fields.Goals as goal

pub loop-parts-init : goal.loop-parts-init
loop-parts-init c =
    listing_same c.args.src begins_base field (c.in_ok-field.field-0 ∷ []) c.push.new.self.items c.field.new.self
    (reads c.args.src fields c.args.self.now) (search rules)
    (fields_init c.args.src c.args.self.now c.in_ok-field.field-0 c.field.new.self c.in_ok-field.ensures)

pub returns-in_err-field-2 : goal.returns-in_err-field-2
returns-in_err-field-2 c =
    let p = err_from_is_err_and c.from_residual-in_err-field-2.result c.from_residual-in_err-field-2.ensures.1 in
    rw (p.1, p.2) (refused_by c.in_err-field-2.field-0.0 c.field-in-loop-parts.new.self (reads c.args.src field c.loop-parts.self)
    (reads c.args.src fields c.args.self.now)
    (λ f is. listing_failed c.args.src begins_base field c.loop-parts.parts.items c.loop-parts.self (reads c.args.src fields c.args.self.now) f
    c.loop-parts.invariant
    (sym c.next_is_base.ensures ∙ c.loop-parts-test.true) is) c.in_err-field-2.ensures)

pub loop-parts-smaller : goal.loop-parts-smaller
loop-parts-smaller c =
    listing_smaller c.args.src begins_base field c.loop-parts.self c.in_ok-field-2.field-0 c.field-in-loop-parts.new.self field_eats
    (sym c.next_is_base.ensures ∙ c.loop-parts-test.true) c.in_ok-field-2.ensures

pub loop-parts-preserved : goal.loop-parts-preserved
loop-parts-preserved c =
    listing_turned c.args.src begins_base field c.loop-parts.parts.items c.push-in-loop-parts.new.self.items c.loop-parts.self
    (reads c.args.src fields c.args.self.now) c.in_ok-field-2.field-0 c.field-in-loop-parts.new.self
    c.loop-parts.invariant field_eats (sym c.next_is_base.ensures ∙ c.loop-parts-test.true) c.in_ok-field-2.ensures (search rules)
