-- How deep a specification nests: constructs in one another, and the body of a define at its call. A construct is what stands in
-- parentheses, brackets or braces, an argument, what stands after a `!`, and the second and third operand of `?:`. The operators of a
-- chain and the statements of a block add nothing, however many there are. And how many arguments a call has.
use Rattle.std.specs.Prelude.{ℕ, ◌≡◌, ◌+◌, ◌≤◌, max, List, [], ◌∷◌, ◌++◌, fold, All, slice_get, unwrap_or, Bool, true, nat_le}
use Rattle.std.specs.List.{list_all}
use Rattle.vg_stree.specs.declared.code.Parts.{Parts}
use Rattle.vg_stree.specs.declared.code.SExpr.{SExpr}
use Rattle.vg_stree.specs.declared.code.SExpr.TheVariants as expressions
use Rattle.vg_stree.specs.declared.code.SStmt.{SStmt}
use Rattle.vg_stree.specs.declared.code.SStmt.TheVariants as statements
use Rattle.vg_stree.specs.Syntax.{Syntax, listed}

-- how deep a specification may nest
abbrev pub deepest_nesting : ℕ
deepest_nesting = 1000

-- how deep an earlier one nests; one that doesn't stand before counts nothing
abbrev pub depth_at : List ℕ → ℕ → ℕ
depth_at known number = unwrap_or (slice_get known number) 0

-- the greatest of some depths
abbrev pub deepest : {A : Type 0} → (A → ℕ) → List A → ℕ
deepest depth xs = fold (λ greatest x. max greatest (depth x)) 0 xs

-- how deep an expression nests, where it is known how deep those before it do
abbrev pub expression_depth : Syntax → List ℕ → SExpr → ℕ
expression_depth code known (expressions.Parens inner) = 1 + depth_at known inner
expression_depth code known (expressions.Not operand) = 1 + depth_at known operand
expression_depth code known (expressions.Chain first rest) =
    max (depth_at known first) (deepest (λ operation. depth_at known operation.operand) (listed code.operations rest))
expression_depth code known (expressions.Choose condition chosen otherwise) = max (depth_at known condition)
    (1 + max (depth_at known chosen) (depth_at known otherwise))
expression_depth code known (expressions.Call body arguments) = 1 + max (depth_at known body) (deepest (depth_at known) (listed code.items arguments))
expression_depth code known (expressions.Cell vector index field) = 1 + depth_at known index
expression_depth code known (expressions.Frame word place) = 1 + depth_at known place
expression_depth code known (expressions.Has link index) = 1 + depth_at known index
expression_depth code known _ = 0

-- the depths that are known, and those of the expressions behind
abbrev pub expression_depths_from : Syntax → List ℕ → List SExpr → List ℕ
expression_depths_from code known [] = known
expression_depths_from code known (one ∷ more) = expression_depths_from code (known ++ expression_depth code known one ∷ []) more

-- how deep each expression nests
abbrev pub expression_depths : Syntax → List ℕ
expression_depths code = expression_depths_from code [] code.expressions

-- how deep a block nests, where it is known how deep the statements before it do
abbrev pub block_depth : Syntax → List ℕ → Parts → ℕ
block_depth code known block = 1 + deepest (depth_at known) (listed code.items block)

-- how deep the deeper of two blocks nests
abbrev pub blocks_depth : Syntax → List ℕ → Parts → Parts → ℕ
blocks_depth code known one other = max (block_depth code known one) (block_depth code known other)

-- how deep a key nests, where it is known how deep expressions do
abbrev pub key_depth : Syntax → List ℕ → Parts → ℕ
key_depth code exprs key = 1 + deepest (depth_at exprs) (listed code.items key)

-- how deep a place in brackets nests, or a value beside it
abbrev pub place_and_value_depth : List ℕ → ℕ → ℕ → ℕ
place_and_value_depth exprs place value = max (1 + depth_at exprs place) (depth_at exprs value)

-- how deep a statement nests, where it is known how deep expressions do, and the statements before it
abbrev pub statement_depth : Syntax → List ℕ → List ℕ → SStmt → ℕ
statement_depth code exprs known (statements.Let value) = depth_at exprs value
statement_depth code exprs known statements.Drop = 0
statement_depth code exprs known statements.Flood = 0
statement_depth code exprs known (statements.Send port) = depth_at exprs port
statement_depth code exprs known (statements.If condition chosen otherwise) = max (depth_at exprs condition) (blocks_depth code known chosen otherwise)
statement_depth code exprs known (statements.SetFrame word place value) = place_and_value_depth exprs place value
statement_depth code exprs known (statements.SetCell vector index field value) = place_and_value_depth exprs index value
statement_depth code exprs known (statements.Expire link before) = depth_at exprs before
statement_depth code exprs known (statements.Find link key chosen otherwise) = max (key_depth code exprs key) (blocks_depth code known chosen otherwise)
statement_depth code exprs known (statements.Add link key chosen otherwise) = max (key_depth code exprs key) (blocks_depth code known chosen otherwise)
statement_depth code exprs known (statements.Touch link index) = depth_at exprs index
statement_depth code exprs known (statements.Remove link index) = depth_at exprs index
statement_depth code exprs known (statements.Lookup table address chosen otherwise) = max (depth_at exprs address) (blocks_depth code known chosen otherwise)

-- the depths that are known, and those of the statements behind
abbrev pub statement_depths_from : Syntax → List ℕ → List ℕ → List SStmt → List ℕ
statement_depths_from code exprs known [] = known
statement_depths_from code exprs known (one ∷ more) = statement_depths_from code exprs (known ++ statement_depth code exprs known one ∷ []) more

-- how deep each statement nests
abbrev pub statement_depths : Syntax → List ℕ
statement_depths code = statement_depths_from code (expression_depths code) [] code.statements

-- how many arguments a call of a define may have
abbrev pub most_arguments : ℕ
most_arguments = 64

-- how many arguments a call names; any other expression has none
abbrev pub argument_count : SExpr → ℕ
argument_count (expressions.Call body arguments) = arguments.count
argument_count _ = 0

-- whether an expression has no more
abbrev pub has_few_arguments : SExpr → Bool
has_few_arguments expression = nat_le (argument_count expression) most_arguments

-- nothing nests too deep (no expression, no statement, and not the block of the step), and no call has too many arguments
pub record NestsLittle (code : Syntax) (step : Parts) : Type 0 where
  pub each_expression : All (λ depth. depth ≤ deepest_nesting) (expression_depths code)
  pub each_statement : All (λ depth. depth ≤ deepest_nesting) (statement_depths code)
  pub whole : block_depth code (statement_depths code) step ≤ deepest_nesting
  pub arguments : list_all has_few_arguments code.expressions ≡ true
