use Rattle.std.proofs.Common.{arith}
use Rattle.vg_top.proofs.Agreeing.{ways_none, ways_next, ways_same}
use Rattle.vg_top.proofs.agreement.path_count.Goals as goal
use Rattle.vg_top.proofs.agreement.path_count.Goals.{then-goes_new_way, else-goes_new_way}

pub loop-port-init : goal.loop-port-init
loop-port-init c = (ways_none c.args.c.now c.args.spec.now, omega arith)

pub loop-port-preserved : goal.loop-port-preserved
loop-port-preserved c =
    let counts = c.loop-port.invariant.0 in
    let few = c.loop-port.invariant.1 in
    elim c.if-goes_new_way.branch [
      | then-goes_new_way w ↦
          let new = c.goes_new_way.ensures.new w.if-goes_new_way.true in
          rw w.count-is (ways_next c.args.c.now c.args.spec.now c.loop-port.port c.loop-port.count counts new, omega (arith, few))
      | else-goes_new_way w ↦
          let old = c.goes_new_way.ensures.old w.if-goes_new_way.false in
          rw w.count-is (ways_same c.args.c.now c.args.spec.now c.loop-port.port c.loop-port.count counts old, omega (arith, few))
    ]
