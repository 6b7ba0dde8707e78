use Rattle.std.proofs.Common.{◌∙◌, sym, ap, arith, refl}
use Rattle.std.specs.Prelude.{is_none}
use Rattle.vg_plain.proofs.KeySlots.{none_at, not_past}
use Rattle.vg_plain.proofs.StateLaws.{not_missed}
use Rattle.vg_plain.proofs.TellingLaws.{not_listed, listed_more, free_more, is_none_as}
use Rattle.vg_plain.proofs.telling.list_all.Goals.{else-is_some-via-then-is_some+else-is_none, else-is_some-via-else-is_some}
use Rattle.vg_plain.proofs.telling.list_all.Goals as goal

pub returns-then-is_none : goal.returns-then-is_none
returns-then-is_none c = (
  λ no. not_missed no,
  λ all. absurd (not_listed c.args.table.now c.args.indices.now c.args.keys.now.cells c.cell.result.now c.loop-i.i (omega arith)
      (sym c.is_some.ensures ∙ c.if-is_some.true) c.cell.ensures.value
      (sym (ap (λ o. is_none o) c.get.ensures) ∙ is_none_as _ _ c.is_none.ensures ∙ c.if-is_none.true) all),
)

pub loop-i-preserved : goal.loop-i-preserved
loop-i-preserved c = elim c.else-is_some.branch [
  | else-is_some-via-then-is_some+else-is_none w ↦ listed_more _ _ _ _ _ c.loop-i.invariant w.cell.ensures.value
      (sym (ap (λ o. is_none o) w.get.ensures) ∙ is_none_as _ _ w.is_none.ensures ∙ w.if-is_none.false)
  | else-is_some-via-else-is_some w ↦ free_more _ _ _ _ c.loop-i.invariant (sym c.is_some.ensures ∙ w.if-is_some.false)
]

pub returns : goal.returns
returns c = (λ _ key none. none_at _ _ _ (not_past _ _ _ (λ j less. c.loop-i.invariant j (omega (arith, c.loop-i-test.false)) key none)), λ _. refl)
