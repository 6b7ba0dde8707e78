use Rattle.std.proofs.Common.{◌≡◌, ◌<◌, ◌≤◌, ℕ, true, false, length, arith, rules, subst, List, Some}
use Rattle.std.specs.Prelude.{slice_get}
use Rattle.vg_stree.specs.declared.shape.Rule.{Rule}
use Rattle.vg_abs.specs.Lawful.{Holds}
use Rattle.vg_conf.proofs.Validity.{first_broken, one_holds, all_hold}
use Rattle.vg_conf.proofs.reading.broken_rule.Goals as goal

pub returns-then-not-rule_holds-clause-first : goal.returns-then-not-rule_holds-clause-first
returns-then-not-rule_holds-clause-first c =
    let items : c.rules-rule-items.result.now ≡ c.args.spec.now.shape.rules = search rules in
    let less : c.loop-rule.rule-index < length c.rules-rule-items.result.now = omega arith in
    let broken : c.rule_holds.result ≡ false = search rules in
    first_broken c.args.spec.now c.args.numbers.now c.args.state.now c.rules-rule-items.result.now c.loop-rule.rule-index c.loop-rule.count _ items
    less c.loop-rule.invariant.counted c.rule_holds.result
    c.rule_holds.ensures broken c.loop-rule.invariant.earlier

pub loop-rule-preserved : goal.loop-rule-preserved
loop-rule-preserved c =
    let less : c.loop-rule.rule-index < length c.rules-rule-items.result.now = omega arith in
    let yes : c.rule_holds.result ≡ true = search rules in
    record {
      counted = omega arith;
      earlier = one_holds c.args.spec.now c.args.numbers.now c.args.state.now c.rules-rule-items.result.now c.loop-rule.rule-index _ less
          (c.rule_holds.ensures.0 yes) c.loop-rule.invariant.earlier;
    }

pub returns-clause-none : goal.returns-clause-none
returns-clause-none c _ =
    let items : c.rules-rule-items.result.now ≡ c.args.spec.now.shape.rules = search rules in
    let past : length c.rules-rule-items.result.now ≤ c.loop-rule.rule-index = omega (arith, c.loop-rule-test.false) in
    all_hold (Holds c.args.spec.now c.args.numbers.now c.args.state.now) c.args.spec.now.shape.rules c.loop-rule.rule-index
    (subst (λ (rs : List Rule). length rs ≤ c.loop-rule.rule-index) items past)
    (subst (λ (rs : List Rule). (other : ℕ) (rule : Rule) → other < c.loop-rule.rule-index → slice_get rs other ≡ Some rule
    → Holds c.args.spec.now c.args.numbers.now c.args.state.now rule) items c.loop-rule.invariant.earlier)
