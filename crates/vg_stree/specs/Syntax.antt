-- What contracts see of expressions and statements.
use Rattle.std.specs.Prelude.{ℕ, List, [], ◌∷◌, ◌++◌, take, drop}
use Rattle.vg_stree.specs.declared.code.Parts.{Parts}
use Rattle.vg_stree.specs.declared.code.Operation.{Operation}
use Rattle.vg_stree.specs.declared.code.SExpr.{SExpr}
use Rattle.vg_stree.specs.declared.code.SStmt.{SStmt}

-- expressions and statements in the order of their numbers, the operations of chains, and the lists of arguments, keys and blocks, one behind the other
pub record Syntax : Type 0 where
  pub expressions : List SExpr
  pub operations : List Operation
  pub statements : List SStmt
  pub items : List ℕ

-- one expression more
abbrev pub with_expression : Syntax → SExpr → Syntax
with_expression code expression = record code { expressions = code.expressions ++ expression ∷ [] }

-- one statement more
abbrev pub with_statement : Syntax → SStmt → Syntax
with_statement code statement = record code { statements = code.statements ++ statement ∷ [] }

-- one chain's operations more
abbrev pub with_operations : Syntax → List Operation → Syntax
with_operations code operations = record code { operations = code.operations ++ operations }

-- one list more
abbrev pub with_items : Syntax → List ℕ → Syntax
with_items code items = record code { items = code.items ++ items }

-- so many items of a list, from one on
abbrev pub listed : {A : Type 0} → List A → Parts → List A
listed items parts = take parts.count (drop parts.from items)
