use Rattle.std.proofs.Common.{◌≡◌, ◌≤◌, ◌-◌, drop}
use Rattle.vg_abs.specs.Fields.{values_in}
use Rattle.vg_abs.specs.Expressions.{value_at}
use Rattle.vg_abs.proofs.fields.field_value.Given as goal

abbrev pub invariant-loop-i : goal.invariant-loop-i
invariant-loop-i l = record {
  within : l.i ≤ l.number;
  rest : value_at (values_in (drop l.i l.fields) l.rest) (l.number - l.i) ≡ value_at (values_in l.fields l.bytes) l.number;
}
