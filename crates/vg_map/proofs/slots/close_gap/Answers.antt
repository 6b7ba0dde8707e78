use Rattle.std.proofs.Common.{◌≡◌, ◌+◌, ◌*◌, length, take, drop, get_or, None, sym, ◌∙◌, ap, subst, arith}
use Rattle.std.proofs.lemmas.List.{get_or_past}
use Rattle.vg_map.specs.Hash.{home_of}
use Rattle.vg_map.specs.Slots.{slots_of}
use Rattle.vg_map.proofs.Found.{moved}
use Rattle.vg_map.proofs.SlotLists.{some_of, none_of}
use Rattle.vg_map.proofs.Steps.{Closing, closing-move, closing-stay, closing-end}
use Rattle.vg_map.proofs.slots.close_gap.Goals.{then-of-gap, else-of-gap}
use Rattle.vg_map.proofs.slots.close_gap.Goals as goal

pub loop-at-preserved : goal.loop-at-preserved
loop-at-preserved c =
    let full = some_of (get_or c.loop-at.indices c.loop-at.at None) (sym c.is_some.ensures ∙ c.if-is_some.true) in
    let at_home : c.of.result ≡ home_of c.args.homes (take c.args.key_len (drop (c.loop-at.at * c.args.key_len) c.loop-at.keys)) =
    c.of.ensures.home ∙ ap (home_of c.args.homes) c.key_at.ensures in
    elim c.if-of-gap.branch [
      | then-of-gap w ↦
          let slots_are : slots_of c.args.key_len c.if-of-gap.keys c.if-of-gap.indices ≡ moved
          (slots_of c.args.key_len c.loop-at.keys c.loop-at.indices) c.loop-at.at c.loop-at.gap = cc in
          let next = closing-move c.args.homes c.args.key_len c.args.keys.now c.args.indices.now c.loop-at.keys c.loop-at.indices c.loop-at.gap
          c.loop-at.at full.0 c.if-of-gap.keys c.if-of-gap.indices
          c.loop-at.invariant c.loop-at-test.true full.1 (omega (arith, at_home)) slots_are (w.indices-is ∙ w.shift.ensures.indices)
          (ap length w.keys-is ∙ w.shift.ensures.bytes) in
          subst (λ gap. Closing c.args.homes c.args.key_len c.args.keys.now c.args.indices.now c.if-of-gap.keys c.if-of-gap.indices gap
          (c.loop-at.at + 1)) (sym w.gap-is) next
      | else-of-gap w ↦
          rw (w.keys-is, w.indices-is, w.gap-is) (closing-stay c.args.homes c.args.key_len c.args.keys.now c.args.indices.now c.loop-at.keys
          c.loop-at.indices c.loop-at.gap c.loop-at.at full.0 c.loop-at.invariant full.1 (omega (arith, at_home)))
    ]

pub returns-else-is_some-clause-closed : goal.returns-else-is_some-clause-closed
returns-else-is_some-clause-closed c =
    closing-end c.args.homes c.args.key_len c.args.keys.now c.args.indices.now c.loop-at.keys c.loop-at.indices c.loop-at.gap c.loop-at.at c.loop-at.invariant
    (none_of _ (sym c.is_some.ensures ∙ c.if-is_some.false))

pub returns-after-loop-at-clause-closed : goal.returns-after-loop-at-clause-closed
returns-after-loop-at-clause-closed c =
    closing-end c.args.homes c.args.key_len c.args.keys.now c.args.indices.now c.loop-at.keys c.loop-at.indices c.loop-at.gap c.loop-at.at c.loop-at.invariant
    (get_or_past c.loop-at.indices c.loop-at.at None c.loop-at-test.false)
