use Rattle.std.proofs.Common.{◌≡◌, ◌+◌, length, ap, subst, arith}
use Rattle.vg_blast.specs.Circuits.{literals}
use Rattle.vg_blast.specs.State.{IsState}
use Rattle.vg_blast.proofs.Inputs.{first_state, added_grows}
use Rattle.vg_blast.proofs.terms.Circuit.of_terms.Goals as goal

pub loop-at-init : goal.loop-at-init
loop-at-init c =
    let one : literals c.in_ok-circuit.circuit.gates ≡ 1 = ap literals c.in_ok-circuit.ensures.gates in (
      first_state c.args.terms.now c.args.marks.now c.in_ok-circuit.circuit.gates c.in_ok-circuit.circuit.lists c.in_ok-circuit.circuit.names.items
          c.in_ok-circuit.ensures.gates c.in_ok-circuit.ensures.lists c.in_ok-circuit.ensures.names,
      omega (arith, one),
    )

pub add_term-requires-clause-closed : goal.add_term-requires-clause-closed
add_term-requires-clause-closed c = c.requires.closed (record { 0 = c.loop-at.at })

pub returns-then-literal_count-gt-MOST_LITERALS-clause-refused : goal.returns-then-literal_count-gt-MOST_LITERALS-clause-refused
returns-then-literal_count-gt-MOST_LITERALS-clause-refused c = λ _.
    omega (
      arith,
      c.if-literal_count-gt-MOST_LITERALS.true,
      c.literal_count.ensures,
      c.in_ok-add_term.ensures.added,
      added_grows c.args.terms.now c.args.marks.now (c.loop-at.at + 1) (length c.args.terms.now) (omega (arith, c.loop-at-test.true, c.len-at-end.ensures.len)),
    )

pub returns-clause-state : goal.returns-clause-state
returns-clause-state c =
    let e : c.loop-at.at ≡ length c.args.terms.now = omega (arith, c.loop-at-test.false, c.loop-at.auto.at-end, c.len-at-end.ensures.len) in
    subst (λ n. IsState c.args.terms.now c.args.marks.now n c.loop-at.circuit.gates c.loop-at.circuit.lists c.loop-at.circuit.names.items) e
    c.loop-at.invariant.0
