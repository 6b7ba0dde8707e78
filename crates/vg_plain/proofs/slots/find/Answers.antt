use Rattle.std.proofs.Common.{◌∙◌, ap, sym, arith}
use Rattle.vg_plain.proofs.KeySlots.{found_at, skipped, skipped_free, none_at, not_past}
use Rattle.vg_plain.specs.PlainTables.{joined}
use Rattle.vg_plain.proofs.slots.find.Goals.{else-is_some-via-then-is_some+else-eq, else-is_some-via-else-is_some}
use Rattle.vg_plain.proofs.slots.find.Goals as goal

pub returns-then-eq : goal.returns-then-eq
returns-then-eq c = found_at _ _ _ _ _ (omega arith) c.loop-i.invariant c.cell.ensures.value (sym c.eq.ensures ∙ c.if-eq.true)
    (sym c.is_some.ensures ∙ c.if-is_some.true)

pub loop-i-preserved : goal.loop-i-preserved
loop-i-preserved c = elim c.else-is_some.branch [
  | else-is_some-via-then-is_some+else-eq w ↦ skipped _ _ _ _ _ (omega arith) c.loop-i.invariant w.cell.ensures.value (sym w.eq.ensures ∙ w.if-eq.false)
  | else-is_some-via-else-is_some w ↦ skipped_free _ _ _ _ (omega arith) c.loop-i.invariant (sym c.is_some.ensures ∙ w.if-is_some.false)
]

pub returns : goal.returns
returns c = sym (ap joined (none_at _ _ _ (not_past _ _ _ (λ j less. c.loop-i.invariant j (omega (arith, c.loop-i-test.false))))))
