-- What rules and premises say. Every value is a whole number below 2 ^ 64, and all operands are evaluated. Frame, length, port, time, cells by
-- their index and `has` stand in no rule and no premise; they count 0 here.
use Rattle.std.specs.Prelude.{ℕ, ◌+◌, ◌-◌, ◌*◌, ◌/◌, ◌%◌, ◌^◌, ◌≢◌, ◌==◌, nat_lt, nat_le, not, ◌&&◌, ◌||◌, Bool, zero, suc, List, [], map, fold}
use Rattle.std.specs.Prelude.{slice_get, unwrap_or, bit_and, bit_or, bit_xor, Option, Some, None, if◌then◌else◌}
use Rattle.vg_stree.specs.declared.code.Operator.{Operator}
use Rattle.vg_stree.specs.declared.code.Operator.TheVariants as operators
use Rattle.vg_stree.specs.declared.code.SExpr.{SExpr}
use Rattle.vg_stree.specs.declared.code.SExpr.TheVariants as expressions
use Rattle.vg_stree.specs.Syntax.{Syntax, listed}

-- the end of the values: each is below it
abbrev pub modulus : ℕ
modulus = 2 ^ 64

-- a test as a number
abbrev pub truth : Bool → ℕ
truth test = if test then 1 else 0

-- what is not 0 is true
abbrev pub is_true : ℕ → Bool
is_true value = not (value == 0)

-- an operator on two values. Sums and products wrap, a difference stops at 0, a shift by 64 or more gives 0; a quotient by 0 is the
-- greatest value, and a remainder by 0 the dividend.
abbrev pub operate : Operator → ℕ → ℕ → ℕ
operate operators.OrElse x y = truth (is_true x || is_true y)
operate operators.AndThen x y = truth (is_true x && is_true y)
operate operators.BitOr x y = bit_or x y
operate operators.BitXor x y = bit_xor x y
operate operators.BitAnd x y = bit_and x y
operate operators.Equal x y = truth (x == y)
operate operators.NotEqual x y = truth (not (x == y))
operate operators.Less x y = truth (nat_lt x y)
operate operators.Greater x y = truth (nat_lt y x)
operate operators.LessEqual x y = truth (nat_le x y)
operate operators.GreaterEqual x y = truth (nat_le y x)
operate operators.ShiftLeft x y = if nat_lt y 64 then (x * 2 ^ y) % modulus else 0
operate operators.ShiftRight x y = if nat_lt y 64 then x / 2 ^ y else 0
operate operators.Add x y = (x + y) % modulus
operate operators.Subtract x y = x - y
operate operators.Multiply x y = (x * y) % modulus
operate operators.Divide x y = if y == 0 then modulus - 1 else x / y
operate operators.Remainder x y = if y == 0 then x else x % y

-- what an expression may speak of: the configuration's numbers, the fields of the cell of a rule, and the names in scope
pub record Scope : Type 0 where
  pub numbers : List ℕ
  pub cell : List ℕ
  pub names : List ℕ

-- the value with a number; 0 where there is none
abbrev pub value_at : List ℕ → ℕ → ℕ
value_at values number = unwrap_or (slice_get values number) 0

-- the values of expressions by their numbers, in each scope
abbrev pub Values : Type 0
Values = ℕ → Scope → ℕ

-- the value of an expression, by those of the expressions before it
abbrev pub value_by : Syntax → Values → SExpr → Scope → ℕ
value_by code known (expressions.Number value) scope = value
value_by code known (expressions.Config number) scope = value_at scope.numbers number
value_by code known (expressions.Local number) scope = value_at scope.names number
value_by code known (expressions.CellField field) scope = value_at scope.cell field
value_by code known (expressions.Parens inner) scope = known inner scope
value_by code known (expressions.Not operand) scope = truth (not (is_true (known operand scope)))
value_by code known (expressions.Chain first rest) scope =
    fold (λ left operation. operate operation.operator left (known operation.operand scope)) (known first scope) (listed code.operations rest)
value_by code known (expressions.Choose condition chosen otherwise) scope = if is_true (known condition scope) then known chosen scope else known
    otherwise scope
value_by code known (expressions.Call body arguments) scope =
    known body (record scope { names = map (λ argument. known argument scope) (listed code.items arguments) })
value_by code known _ scope = 0

-- the value of an expression that may be there, and 0 where there is none
abbrev pub value_found : Syntax → Values → Option SExpr → Scope → ℕ
value_found code known None scope = 0
value_found code known (Some expression) scope = value_by code known expression scope

-- the values of the expressions before a number; the others count 0
unfoldable pub values_before : Syntax → ℕ → Values
values_before code zero number scope = 0
values_before code (suc count) number scope =
    if number == count then value_found code (values_before code count) (slice_get code.expressions count) scope else values_before code count number scope

-- the value of an expression in a scope
unfoldable pub value_of : Syntax → ℕ → Scope → ℕ
value_of code number scope = values_before code (suc number) number scope

-- a premise holds where it isn't 0
abbrev pub PremiseHolds : Syntax → List ℕ → ℕ → Type 0
PremiseHolds code numbers premise = value_of code premise (record { numbers = numbers; cell = []; names = [] }) ≢ 0

-- a rule holds on a cell, told by the values of its fields, where it isn't 0
abbrev pub RuleHolds : Syntax → List ℕ → ℕ → List ℕ → Type 0
RuleHolds code numbers rule cell = value_of code rule (record { numbers = numbers; cell = cell; names = [] }) ≢ 0
