use Rattle.std.proofs.Common.{◌≡◌, ◌≤◌, ◌<◌, ◌+◌, length, min, get_or, rules, arith, sym, ◌∙◌}
use Rattle.vg_cmean.specs.Views.{seen}
use Rattle.vg_cmean.specs.Meaning.{meaning_below}
use Rattle.vg_cmean.proofs.Links.{chain_short, climbs_wrong, begins_chain, begins, step_chain, step_within, step_gives, step_wrong, branch_next}
use Rattle.vg_cmean.proofs.Turns.{turns_done}
use Rattle.vg_cmean.proofs.Arguments.{read_gives, read_wrong, part_wrong, waits, waits_wrong, all_wait}
use Rattle.vg_cmean.proofs.run.+machine.Goals as goal

pub turns-returns-clause-value : goal.turns-returns-clause-value
turns-returns-clause-value t c = turns_done _ _ _ _ _ _ _ _ _ (omega arith) c.loop-turn.invariant.1

-- ---- a chain from its innermost part on

pub expression-alone-requires : goal.expression-alone-requires
expression-alone-requires t c =
    let short : c.foot_of-node.result.links + c.foot_of-node.result.node ≤ c.args.n = chain_short _ _ _ _ _ c.foot_of-node.ensures in
    let within : c.foot_of-node.result.node ≤ c.args.n = omega arith in search rules

pub expression-returns-in_err-datum-clause-value : goal.expression-returns-in_err-datum-clause-value
expression-returns-in_err-datum-clause-value t c =
    let wrong = climbs_wrong _ _ _ _ _ _ _ _ _ c.foot_of-node.ensures c.in_err-datum.ensures.value in search rules

pub expression-loop-link-init : goal.expression-loop-link-init
expression-loop-link-init t c =
    (search rules, begins_chain _ _ _ _ _ c.foot_of-node.ensures, begins _ _ _ _ _ _ _ _ c.foot_of-node.ensures c.in_ok-datum.ensures.value)

pub expression-link-requires : goal.expression-link-requires
expression-link-requires t c =
    let within : c.above-at.result ≤ c.args.n = step_within _ _ _ _ _ _ _ c.loop-link.invariant.1 c.loop-link-test.true c.above-at.ensures in search rules

pub expression-returns-in_err-datum-2-clause-value : goal.expression-returns-in_err-datum-2-clause-value
expression-returns-in_err-datum-2-clause-value t c =
    let wrong = step_wrong _ _ _ _ _ _ _ _ _ _ _ _ c.loop-link-test.true c.above-at.ensures c.loop-link.invariant.2 c.in_err-datum-2.ensures.value in
    search rules

pub expression-loop-link-preserved : goal.expression-loop-link-preserved
expression-loop-link-preserved t c = (
  search rules,
  step_chain _ _ _ _ _ _ _ c.loop-link.invariant.1 c.loop-link-test.true c.above-at.ensures,
  step_gives _ _ _ _ _ _ _ _ _ _ _ c.loop-link-test.true c.above-at.ensures c.loop-link.invariant.2 c.in_ok-datum-2.ensures.value,
)

-- ---- an `if` that is an `else`

pub branch-loop-branch-preserved : goal.branch-loop-branch-preserved
branch-loop-branch-preserved t c =
    let before = c.in-Some.ensures.before in
    let within = c.loop-branch.invariant.1 in (
      search rules,
      omega arith,
      branch_next _ _ _ _ _ _ _ _ _ _ c.in-Some.ensures (sym c.is_true.ensures ∙ c.if-is_true.false) c.tick.ensures.value
          c.in_ok-condition.ensures.value c.tick-in-loop-branch.ensures.value
          ∙ c.loop-branch.invariant.2,
    )

-- ---- arguments that wait

pub given_waiting-loop-k-preserved : goal.given_waiting-loop-k-preserved
given_waiting-loop-k-preserved t c =
    let inside : c.loop-k.k < length c.args.arguments.now = omega (arith, c.requires.room) in
    let paired : c.loop-k.k < length c.args.params.now = omega (arith, c.requires.room) in
    let room : c.loop-k.k < length c.loop-k.evaluated = omega arith in
    let gave = read_gives (meaning_below c.args.env.now.unit.now c.args.n (get_or c.args.arguments.now c.loop-k.k 0)) c.in_ok-datum.datum
    c.in_ok-evaluated.field-0 (seen c.loop-k.world) (seen c.part.new.world) c.in_ok-datum.ensures.value c.in_ok-evaluated.ensures in (
      search rules,
      search rules,
      waits c.args.env.now.unit.now (meaning_below c.args.env.now.unit.now c.args.n) c.args.arguments.now c.args.params.now c.loop-k.evaluated
          c.loop-k.k c.in_ok-evaluated.field-0 (seen c.loop-k.world) (seen c.part.new.world) _ inside paired room gave c.loop-k.invariant.2,
    )

pub given_waiting-returns-in_err-datum-clause-value : goal.given_waiting-returns-in_err-datum-clause-value
given_waiting-returns-in_err-datum-clause-value t c =
    let inside : c.loop-k.k < length c.args.arguments.now = omega (arith, c.requires.room) in
    let paired : c.loop-k.k < length c.args.params.now = omega (arith, c.requires.room) in
    let went = part_wrong (meaning_below c.args.env.now.unit.now c.args.n (get_or c.args.arguments.now c.loop-k.k 0)) _ _
    (seen c.loop-k.world) (seen c.part.new.world) c.in_err-datum.ensures.value in
    let wrong = waits_wrong c.args.env.now.unit.now (meaning_below c.args.env.now.unit.now c.args.n) c.args.arguments.now c.args.params.now
    c.loop-k.evaluated c.loop-k.k _ _ (seen c.loop-k.world) (seen c.part.new.world) _ inside paired went c.loop-k.invariant.2 in search rules

pub given_waiting-returns-in_err-evaluated-clause-value : goal.given_waiting-returns-in_err-evaluated-clause-value
given_waiting-returns-in_err-evaluated-clause-value t c =
    let inside : c.loop-k.k < length c.args.arguments.now = omega (arith, c.requires.room) in
    let paired : c.loop-k.k < length c.args.params.now = omega (arith, c.requires.room) in
    let went = read_wrong (meaning_below c.args.env.now.unit.now c.args.n (get_or c.args.arguments.now c.loop-k.k 0)) c.in_ok-datum.datum _ _
    (seen c.loop-k.world) (seen c.part.new.world) c.in_ok-datum.ensures.value c.in_err-evaluated.ensures in
    let wrong = waits_wrong c.args.env.now.unit.now (meaning_below c.args.env.now.unit.now c.args.n) c.args.arguments.now c.args.params.now
    c.loop-k.evaluated c.loop-k.k _ _ (seen c.loop-k.world) (seen c.part.new.world) _ inside paired went c.loop-k.invariant.2 in search rules

pub given_waiting-returns-clause-value : goal.given_waiting-returns-clause-value
given_waiting-returns-clause-value t c =
    let all : min (length c.args.arguments.now) (length c.args.params.now) ≤ c.loop-k.k = omega (arith, c.requires.room) in
    let same : c.loop-k.k ≡ length c.loop-k.evaluated = omega arith in
    c.parameters.ensures.value
    ∙ all_wait c.args.env.now.unit.now (meaning_below c.args.env.now.unit.now c.args.n) c.args.arguments.now c.args.params.now c.loop-k.evaluated
    c.loop-k.k _ c.loop-k.world.memory.now c.tick.new.self
    c.loop-k.world.frame.now _ all same c.tick.ensures.value c.loop-k.invariant.2
