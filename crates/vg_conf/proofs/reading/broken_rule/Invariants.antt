use Rattle.std.proofs.Common.{◌≡◌, ◌<◌, ℕ, Some}
use Rattle.std.specs.Prelude.{slice_get}
use Rattle.vg_stree.specs.declared.shape.Rule.{Rule}
use Rattle.vg_abs.specs.Lawful.{Holds}
use Rattle.vg_conf.proofs.reading.broken_rule.Given as goal

abbrev pub invariant-loop-rule : goal.invariant-loop-rule
invariant-loop-rule l = record {
  counted : l.count ≡ l.rule-index;
  earlier : (other : ℕ) (rule : Rule) → other < l.rule-index → slice_get l.rule-items other ≡ Some rule → Holds l.spec l.numbers l.state rule;
}
