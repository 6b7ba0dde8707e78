use Rattle.std.proofs.Common.{◌≡◌, ◌∙◌, sym, ap, subst, ℕ, ◌+◌, ◌-◌, ◌<◌, List, drop, length, arith}
use Rattle.vg_abs.specs.Fields.{values_in}
use Rattle.vg_abs.specs.Expressions.{value_at}
use Rattle.vg_abs.proofs.FieldValues.{value_later}
use Rattle.vg_abs.proofs.fields.field_value.Goals as goal

pub loop-i-preserved : goal.loop-i-preserved
loop-i-preserved c =
    let less : c.loop-i.i < length c.args.fields.now = omega arith in record {
      within = omega arith;
      rest = subst (λ (r : List ℕ). value_at (values_in (drop (c.loop-i.i + 1) c.args.fields.now) r) (c.args.number - (c.loop-i.i + 1)) ≡ value_at
          (values_in c.args.fields.now c.args.bytes.now) c.args.number)
          (sym (c.behind-rest.ensures ∙ ap (λ n. drop n c.loop-i.rest.now) (c.from-size.ensures ∙ c.bytes.ensures)))
          (value_later _ _ _ _ _ _ less c.if-i-number.false c.loop-i.invariant.within c.loop-i.invariant.rest);
    }
