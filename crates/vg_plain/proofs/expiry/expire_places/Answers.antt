use Rattle.std.proofs.Common.{◌∙◌, ap, arith, sym, Some}
use Rattle.std.proofs.lemmas.Option.{slice_get-get_or}
use Rattle.vg_plain.proofs.Expiries.{expire_one, expire_none, expired_next, expired_times, expired_count, expired_keys}
use Rattle.vg_plain.proofs.expiry.expire_places.Goals.{then-is_early, else-is_early}
use Rattle.vg_plain.proofs.expiry.expire_places.Goals as goal

pub loop-i-preserved : goal.loop-i-preserved
loop-i-preserved c = elim c.if-is_early.branch [
  | then-is_early w ↦ (
      let here = slice_get-get_or c.loop-i.times.items c.loop-i.i c.index.result.now (omega
      (arith, c.loop-i-test.true, c.len-i-end.ensures, c.loop-i.invariant.places)) ∙ ap Some (sym c.index.ensures) in
      expired_next _ _ _ _ _ _ _ _ _ _ _ _ (sym (ap (λ v. v.items) w.indices-is ∙ w.clear_key.ensures)) (sym (ap (λ v. v.items) w.times-is)) (sym w.freed-is)
      (expire_one _ _ _ _ _ _ _ _ _ _ _ c.requires.tied c.loop-i.invariant here (sym c.is_early.ensures ∙ w.if-is_early.true) w.cell.ensures.value))
  | else-is_early w ↦ (
      let here = slice_get-get_or c.loop-i.times.items c.loop-i.i c.index.result.now (omega
      (arith, c.loop-i-test.true, c.len-i-end.ensures, c.loop-i.invariant.places)) ∙ ap Some (sym c.index.ensures) in
      expired_next _ _ _ _ _ _ _ _ _ _ _ _ (sym (ap (λ v. v.items) w.indices-is)) (sym (ap (λ v. v.items) w.times-is)) (sym w.freed-is)
      (expire_none _ _ _ _ _ _ _ _ _ _ c.loop-i.invariant here (sym c.is_early.ensures ∙ w.if-is_early.false)))
]

pub returns-clause-freed : goal.returns-clause-freed
returns-clause-freed c = expired_count _ _ _ _ _ _ _ _ _ c.loop-i.invariant (omega (arith, c.loop-i.invariant.places, c.loop-i-test.false, c.len-i-end.ensures))

pub returns-clause-times : goal.returns-clause-times
returns-clause-times c = expired_times _ _ _ _ _ _ _ _ _ c.loop-i.invariant (omega (arith, c.loop-i.invariant.places, c.loop-i-test.false, c.len-i-end.ensures))

pub returns-clause-keys : goal.returns-clause-keys
returns-clause-keys c = expired_keys _ _ _ _ _ _ _ _ _ c.loop-i.invariant (omega (arith, c.loop-i.invariant.places, c.loop-i-test.false, c.len-i-end.ensures))
