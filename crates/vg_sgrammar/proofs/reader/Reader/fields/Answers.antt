use Rattle.std.proofs.Common.{rules, ◌∙◌, [], ◌∷◌, sym}
use Rattle.std.proofs.lemmas.Result.{err_from_is_err_and}
use Rattle.vg_sgrammar.specs.Kinds.{is_name}
use Rattle.vg_sgrammar.specs.Rules.{field, fields}
use Rattle.vg_sgrammar.specs.Reader.{reads}
use Rattle.vg_sgrammar.proofs.Steps.{refused_by, listing_same, listing_smaller, listing_turned, listing_failed, field_eats, fields_init}
use Rattle.vg_sgrammar.proofs.reader.Reader.fields.Goals as goal

pub loop-list-init : goal.loop-list-init
loop-list-init c =
    listing_same c.args.src is_name field (c.in_ok-field.field-0 ∷ []) c.push.new.self.items c.field.new.self
    (reads c.args.src fields c.args.self.now) (search rules)
    (fields_init c.args.src c.args.self.now c.in_ok-field.field-0 c.field.new.self c.in_ok-field.ensures)

pub returns-in_err-field-2 : goal.returns-in_err-field-2
returns-in_err-field-2 c =
    let p = err_from_is_err_and c.from_residual-in_err-field-2.result c.from_residual-in_err-field-2.ensures.1 in
    rw (p.1, p.2) (refused_by c.in_err-field-2.field-0.0 c.field-in-loop-list.new.self (reads c.args.src field c.loop-list.self)
    (reads c.args.src fields c.args.self.now)
    (λ f is. listing_failed c.args.src is_name field c.loop-list.list.items c.loop-list.self (reads c.args.src fields c.args.self.now) f c.loop-list.invariant
    (sym c.next_is_name.ensures ∙ c.loop-list-test.true) is) c.in_err-field-2.ensures)

pub loop-list-smaller : goal.loop-list-smaller
loop-list-smaller c =
    listing_smaller c.args.src is_name field c.loop-list.self c.in_ok-field-2.field-0 c.field-in-loop-list.new.self field_eats
    (sym c.next_is_name.ensures ∙ c.loop-list-test.true) c.in_ok-field-2.ensures

pub loop-list-preserved : goal.loop-list-preserved
loop-list-preserved c =
    listing_turned c.args.src is_name field c.loop-list.list.items c.push-in-loop-list.new.self.items c.loop-list.self
    (reads c.args.src fields c.args.self.now)
    c.in_ok-field-2.field-0 c.field-in-loop-list.new.self c.loop-list.invariant field_eats (sym c.next_is_name.ensures
    ∙ c.loop-list-test.true) c.in_ok-field-2.ensures (search rules)
