use Rattle.std.proofs.Common.{◌≡◌, drop}
use Rattle.vg_ctyper.specs.ExpressionRules as rules
use Rattle.vg_ctyper.specs.Views.{known}
use Rattle.vg_ctyper.proofs.given.Given.arguments_fault.Given as goal

abbrev pub invariant-loop-argument : goal.invariant-loop-argument
invariant-loop-argument l =
    (l.number ≡ l.argument-index)
    × (rules.arguments_fault (known l.self) l.borrowed l.callee l.argument-index (drop l.argument-index l.arguments) ≡ rules.arguments_fault
    (known l.self) l.borrowed l.callee 0 l.arguments)
