use Rattle.std.proofs.Common.{◌≡◌, length, add-one, subst, inl, inr, arith}
use Rattle.std.proofs.lemmas.Bool.{cases_lt}
use Rattle.vg_map.specs.Slots.{slots_of, slot}
use Rattle.vg_map.specs.Search.{IsOther}
use Rattle.vg_map.proofs.SlotLists.{length-slots_of, full_slots-drop, full_slots-past}
use Rattle.vg_map.proofs.Steps.{other_full}
use Rattle.vg_map.proofs.slots.find.Goals as goal

pub loop-at-init : goal.loop-at-init
loop-at-init c = record {
  from = omega arith;
  room = omega (arith, full_slots-drop c.args.from c.args.indices.now);
  passed = λ i a b. absurd (omega arith);
}

pub loop-at-preserved : goal.loop-at-preserved
loop-at-preserved c =
    let at = c.loop-at.at in
    let key = c.args.key.now in
    let full = other_full (length key) c.args.keys.now c.args.indices.now key at c.loop-at-test.ensures in
    record {
      from = omega arith;
      room = rw (add-one at) (omega (arith, full_slots-past c.args.indices.now at full));
      passed = λ i a b. elim (cases_lt i at) [
        | inl before ↦ c.loop-at.invariant.passed i a before
        | inr after ↦
            let same : at ≡ i = omega arith in
            subst (λ j. IsOther key (slot (slots_of (length key) c.args.keys.now c.args.indices.now) j)) same c.loop-at-test.ensures
      ];
    }

pub returns : goal.returns
returns c = record {
  within = omega (arith, length-slots_of (length c.args.key.now) c.args.keys.now c.args.indices.now);
  from = c.loop-at.invariant.from;
  passed = c.loop-at.invariant.passed;
  end = c.loop-at-test.ensures;
}
