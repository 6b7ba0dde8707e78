use Rattle.std.proofs.Common.{arith}
use Rattle.vg_stree.specs.declared.config.Route.{Route}
use Rattle.vg_lpm.proofs.Choice.{passed-matched, passed-other, passed-done}
use Rattle.vg_lpm.proofs.building.insert_all.Goals as goal
use Rattle.vg_lpm.proofs.building.insert_all.Goals.{then-route-len+in_ok-insert, else-route-len}

pub loop-route-preserved : goal.loop-route-preserved
loop-route-preserved c =
    let none : Route = record { table = 0; address = 0; len = 0; value = 0 } in
    let before = c.loop-route.invariant in
    elim c.if-route-len.branch [
      | then-route-len+in_ok-insert w ↦
          let now = w.in_ok-insert.ensures in
          rw w.levels-is (record {
            table = now.table;
            second_room = omega (arith, now.second_room, before.second_room);
            third_room = omega (arith, now.third_room, before.third_room);
            ahead = λ a fits. passed-matched c.args.len c.args.routes.now c.loop-route.route-index none a _ _ _ c.loop-route-test.true
                w.if-route-len.true (now.taken a fits) (before.ahead a fits);
          })
      | else-route-len w ↦ rw w.levels-is (record {
        table = before.table;
        second_room = omega (arith, before.second_room);
        third_room = omega (arith, before.third_room);
        ahead = λ a fits. passed-other c.args.len c.args.routes.now c.loop-route.route-index none a _ _ c.loop-route-test.true w.if-route-len.false
            (before.ahead a fits);
      })
    ]

pub returns-clause-passed : goal.returns-clause-passed
returns-clause-passed c = λ a fits. passed-done c.args.len c.args.routes.now c.loop-route.route-index a c.loop-route-test.false
    (c.loop-route.invariant.ahead a fits)
