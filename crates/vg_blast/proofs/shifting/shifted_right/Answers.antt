use Rattle.std.proofs.Common.{◌*◌, ◌^◌, ◌<◌, ◌≤◌, length, take, refl, sym, ap, subst, arith}
use Rattle.vg_blast.specs.Circuits.{number}
use Rattle.vg_blast.specs.Shifting.{ShiftsRight}
use Rattle.vg_blast.proofs.Shifts.{right_none, right_more, right_result, power_within}
use Rattle.vg_blast.proofs.shifting.shifted_right.Goals as goal

pub loop-step-init : goal.loop-step-init
loop-step-init c = right_none c.args.gates.now c.args.a.now c.args.by.now c.in_ok-moved.moved.items c.args.fill c.requires.over.0 c.in_ok-moved.ensures

pub step_right-requires-clause-within : goal.step_right-requires-clause-within
step_right-requires-clause-within c =
    let within : 2 ^ c.loop-step.step ≤ length c.args.a.now = power_within (length c.args.a.now) c.steps-steps.result c.loop-step.step
    c.steps-steps.ensures c.loop-step-test.true in
    omega (arith, within, c.power.ensures, ap length c.deref.ensures.value, c.loop-step.invariant.width)

pub loop-step-preserved : goal.loop-step-preserved
loop-step-preserved c =
    let lt : c.loop-step.step < length c.args.by.now = omega (arith, c.loop-step-test.true, c.steps-steps.ensures.within, c.requires.same) in
    let within : 2 ^ c.loop-step.step ≤ length c.args.a.now = power_within (length c.args.a.now) c.steps-steps.result c.loop-step.step
    c.steps-steps.ensures c.loop-step-test.true in
    right_more c.args.gates.now c.loop-step.gates c.step_right.new.gates c.args.a.now c.args.by.now c.deref.result.now c.in_ok-moved-2.moved.items
    c.index-by-step.result c.args.fill c.loop-step.step (length c.args.a.now) c.power.result
    refl c.power.ensures (omega (arith, within, c.power.ensures)) lt c.index-by-step.is
    (subst (λ ls. ShiftsRight c.args.gates.now c.loop-step.gates (36 * length c.args.a.now * c.loop-step.step) ls c.args.fill c.args.a.now
    (λ v. number v (take c.loop-step.step c.args.by.now)))
    (sym c.deref.ensures.value) c.loop-step.invariant)
    c.in_ok-moved-2.ensures

pub returns : goal.returns
returns c =
    right_result c.args.gates.now c.loop-step.gates c.unless_past.new.gates c.args.a.now c.args.by.now c.loop-step.moved.items c.deref-2.result.now
    c.split_at.result.1.now c.args.fill c.loop-step.step c.steps-steps.result c.unless_past.result
    c.steps-steps.ensures c.requires.same c.loop-step-test.false c.loop-step.auto.step-end
    c.loop-step.invariant c.deref-2.ensures.value c.split_at.ensures.back c.unless_past.ensures
