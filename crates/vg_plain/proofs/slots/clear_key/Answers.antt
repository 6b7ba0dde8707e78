use Rattle.std.proofs.Common.{ℕ, ◌+◌, ◌∙◌, ap, arith, sym, subst, List, Option}
use Rattle.vg_plain.proofs.KeySlots.{Cleared, cleared_all, cleared_more, cleared_same}
use Rattle.vg_plain.proofs.slots.clear_key.Goals.{then-eq, else-eq}
use Rattle.vg_plain.proofs.slots.clear_key.Goals as goal

pub loop-i-preserved : goal.loop-i-preserved
loop-i-preserved c = elim c.if-eq.branch [
  | then-eq w ↦ cleared_more _ _ _ _ _ _ _ c.loop-i.invariant (omega (arith, c.loop-i-test.true, c.len-i-end.ensures, c.requires.alike))
      c.cell.ensures.value (sym c.eq.ensures ∙ w.if-eq.true) (ap (λ v. v.items) w.indices-is)
  | else-eq w ↦ subst (λ (now : List (Option ℕ)). Cleared c.args.indices.now.items now c.args.keys.now.cells c.args.key.now (c.loop-i.i + 1))
      (sym (ap (λ v. v.items) w.indices-is))
      (cleared_same _ _ _ _ _ _ c.loop-i.invariant c.cell.ensures.value (sym c.eq.ensures ∙ w.if-eq.false))
]

pub returns : goal.returns
returns c = cleared_all _ _ _ _ _ c.loop-i.invariant (omega (arith, c.loop-i-test.false, c.requires.alike, c.len-i-end.ensures))
