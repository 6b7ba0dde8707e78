use Rattle.std.proofs.Common.{rules, ◌∙◌, [], ◌∷◌, sym}
use Rattle.std.proofs.lemmas.Result.{err_from_is_err_and}
use Rattle.vg_stok.specs.declared.kinds.Sign.TheVariants as signs
use Rattle.vg_sgrammar.specs.Kinds.{is_sign}
use Rattle.vg_sgrammar.specs.Rules.{next_name, some_names}
use Rattle.vg_sgrammar.specs.Reader.{reads}
use Rattle.vg_sgrammar.proofs.Steps.{refused_by, listing_same, listing_smaller, listing_turned, listing_failed, name_eats, names_init}
use Rattle.vg_sgrammar.proofs.reader.Reader.some_names.Goals as goal

pub loop-list-init : goal.loop-list-init
loop-list-init c =
    listing_same c.args.src (is_sign signs.Comma) next_name (c.in_ok-name.field-0 ∷ []) c.push.new.self.items c.name.new.self
    (reads c.args.src some_names c.args.self.now) (search rules)
    (names_init c.args.src c.args.self.now c.in_ok-name.field-0 c.name.new.self c.in_ok-name.ensures)

pub returns-in_err-another_name : goal.returns-in_err-another_name
returns-in_err-another_name c =
    let p = err_from_is_err_and c.from_residual-in_err-another_name.result c.from_residual-in_err-another_name.ensures.1 in
    rw (p.1, p.2) (refused_by c.in_err-another_name.field-0.0 c.another_name.new.self (reads c.args.src next_name c.loop-list.self)
    (reads c.args.src some_names c.args.self.now)
    (λ f is. listing_failed c.args.src (is_sign signs.Comma) next_name c.loop-list.list.items c.loop-list.self
    (reads c.args.src some_names c.args.self.now) f c.loop-list.invariant
    (sym c.next_is_sign.ensures ∙ c.loop-list-test.true) is) c.in_err-another_name.ensures)

pub loop-list-smaller : goal.loop-list-smaller
loop-list-smaller c =
    listing_smaller c.args.src (is_sign signs.Comma) next_name c.loop-list.self c.in_ok-another_name.field-0 c.another_name.new.self name_eats
    (sym c.next_is_sign.ensures ∙ c.loop-list-test.true) c.in_ok-another_name.ensures

pub loop-list-preserved : goal.loop-list-preserved
loop-list-preserved c =
    listing_turned c.args.src (is_sign signs.Comma) next_name c.loop-list.list.items c.push-in-loop-list.new.self.items c.loop-list.self
    (reads c.args.src some_names c.args.self.now)
    c.in_ok-another_name.field-0 c.another_name.new.self c.loop-list.invariant name_eats (sym c.next_is_sign.ensures
    ∙ c.loop-list-test.true) c.in_ok-another_name.ensures (search rules)
