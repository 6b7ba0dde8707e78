-- What is seen of a scope.
use Rattle.vg_abs.specs.declared.evaluation.Scope as scopes
use Rattle.vg_abs.specs.Fields.{values_in}
use Rattle.vg_abs.specs.Expressions.{Scope}

-- the numbers, the fields of the cell and the names
abbrev pub scope_of : scopes.Scope → Scope
scope_of scope = record { numbers = scope.numbers.now; cell = values_in scope.cell.fields.now scope.cell.bytes.now; names = scope.names.now }
