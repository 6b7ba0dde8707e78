use Rattle.std.proofs.Common.{◌+◌, ◌-◌, length, rules, arith}
use Rattle.vg_cmean.specs.Views.{seen}
use Rattle.vg_cmean.proofs.Arguments.{sets, sets_wrong}
use Rattle.vg_cmean.proofs.calls.parameters.Goals as goal

pub loop-k-preserved : goal.loop-k-preserved
loop-k-preserved c =
    let count = length c.args.arguments.now in (
      search rules,
      sets c.args.unit.now c.args.params.now c.args.arguments.now (count - c.loop-k.k) (count - 1 - c.loop-k.k) (count - (c.loop-k.k + 1))
          (seen c.loop-k.world) (seen c.parameter.new.world) _ (omega arith) (omega arith) c.in_ok-parameter.ensures.value c.loop-k.invariant.1,
    )

pub returns-in_err-parameter-clause-value : goal.returns-in_err-parameter-clause-value
returns-in_err-parameter-clause-value c =
    let count = length c.args.arguments.now in
    let wrong = sets_wrong c.args.unit.now c.args.params.now c.args.arguments.now (count - c.loop-k.k) (count - 1 - c.loop-k.k) _ _
    (seen c.loop-k.world) (seen c.parameter.new.world) _ (omega arith) c.in_err-parameter.ensures.value c.loop-k.invariant.1 in search rules
