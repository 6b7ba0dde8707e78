use Rattle.std.proofs.Common.{All, subst, ap, arith}
use Rattle.vg_cnf.specs.Clauses.{IsOver}
use Rattle.vg_blast.specs.State.{word_at}
use Rattle.vg_term.specs.Terms.{listed}
use Rattle.vg_blast.proofs.Stating.{part_over, one_made, two_made, three_made}
use Rattle.vg_blast.proofs.terms.operation.Goals as goal

pub of_three-requires-clause-over : goal.of_three-requires-clause-over
of_three-requires-clause-over c =
    let over = subst (All (λ part. All (IsOver c.args.gates.now.variables) (word_at c.args.lists.now part))) (ap listed c.in-Three.is) c.requires.over in (
      part_over c.args.lists.now c.args.gates.now.variables c.in-Three.c c.get-condition.result.now c.get-condition.ensures (over 0 c.in-Three.c (omega arith)),
      part_over c.args.lists.now c.args.gates.now.variables c.in-Three.a c.get-left-in-Three.result.now c.get-left-in-Three.ensures
          (over 1 c.in-Three.a (omega arith)),
      part_over c.args.lists.now c.args.gates.now.variables c.in-Three.b c.get-right-in-Three.result.now c.get-right-in-Three.ensures
          (over 2 c.in-Three.b (omega arith)),
    )

pub returns-in-One : goal.returns-in-One
returns-in-One c = one_made c.args.gates.now c.of_one.new.gates c.args.lists.now c.args.op c.args.parts c.in-One.a c.get.result.now c.of_one.result
    (ap listed c.in-One.is) c.get.ensures c.of_one.ensures

pub returns-in-Two : goal.returns-in-Two
returns-in-Two c =
    two_made c.args.gates.now c.of_two.new.gates c.args.lists.now c.args.op c.args.parts c.in-Two.a c.in-Two.b c.get-left.result.now
    c.get-right.result.now c.of_two.result (ap listed c.in-Two.is) c.get-left.ensures c.get-right.ensures c.of_two.ensures

pub returns-in-Three : goal.returns-in-Three
returns-in-Three c =
    three_made c.args.gates.now c.of_three.new.gates c.args.lists.now c.args.op c.args.parts c.in-Three.c c.in-Three.a c.in-Three.b
    c.get-condition.result.now c.get-left-in-Three.result.now c.get-right-in-Three.result.now c.of_three.result
    (ap listed c.in-Three.is) c.get-condition.ensures c.get-left-in-Three.ensures c.get-right-in-Three.ensures c.of_three.ensures
