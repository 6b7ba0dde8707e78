use Rattle.std.proofs.Common.{◌≡◌, true, drop, ◌+◌, ◌*◌}
use Rattle.vg_smean.specs.Places.{place_of}
use Rattle.vg_smean.specs.Step.{all_by, statements_before}
use Rattle.vg_smean.proofs.statements.+statements.Given as goal

abbrev pub decreases-statement : goal.decreases-statement
decreases-statement l = l.before * 10 + 1

abbrev pub decreases-all : goal.decreases-all
decreases-all l = l.known * 10 + 2

abbrev pub decreases-either : goal.decreases-either
decreases-either l = l.known * 10 + 3

abbrev pub decreases-hand_out : goal.decreases-hand_out
decreases-hand_out l = l.known * 10 + 4

abbrev pub decreases-find : goal.decreases-find
decreases-find l = l.known * 10 + 5

abbrev pub decreases-add : goal.decreases-add
decreases-add l = l.known * 10 + 5

abbrev pub decreases-statement_by : goal.decreases-statement_by
decreases-statement_by l = l.known * 10 + 6

abbrev pub invariant-all-loop-item : goal.invariant-all-loop-item
invariant-all-loop-item l = record {
  comes : all_by l.run.spec.now l.run.numbers.now l.run.port l.run.time
      (statements_before l.run.spec.now l.run.numbers.now l.run.port l.run.time l.known) (drop l.item-index l.items) (place_of l.place)
      ≡ all_by l.run.spec.now l.run.numbers.now l.run.port l.run.time
      (statements_before l.run.spec.now l.run.numbers.now l.run.port l.run.time l.known) l.items (place_of l.fn.place);
  full : (place_of l.place).state.full ≡ true;
}
