-- What contracts see of a specification as it is written.
use Rattle.std.specs.Prelude.{ℕ, List, [], ◌∷◌, ◌++◌}
use Rattle.vg_stree.specs.declared.code.Operation.{Operation}
use Rattle.vg_sgrammar.specs.declared.tree.Placed.{Placed}
use Rattle.vg_sgrammar.specs.declared.tree.Name.{Name}
use Rattle.vg_sgrammar.specs.declared.tree.Field.{Field}
use Rattle.vg_sgrammar.specs.declared.tree.Block.{Block}
use Rattle.vg_sgrammar.specs.declared.tree.Expression.{Expression}
use Rattle.vg_sgrammar.specs.declared.tree.Statement.{Statement}
use Rattle.vg_sgrammar.specs.declared.tree.Declaration.{Declaration}

-- expressions, statements, blocks and declarations in the order of their numbers; and the operations of chains, the numbers in arguments,
-- keys and blocks, the names of parameters, and the fields of structs, one list behind the other
pub record Written : Type 0 where
  pub expressions : List (Placed Expression)
  pub operations : List Operation
  pub statements : List (Placed Statement)
  pub blocks : List (Placed Block)
  pub items : List ℕ
  pub names : List Name
  pub fields : List Field
  pub declarations : List (Placed Declaration)

-- nothing yet
abbrev pub empty : Written
empty = record { expressions = []; operations = []; statements = []; blocks = []; items = []; names = []; fields = []; declarations = [] }

-- one expression more
abbrev pub with_expression : Written → ℕ → Expression → Written
with_expression tree at what = record tree { expressions = tree.expressions ++ record { at = at; what = what } ∷ [] }

-- one statement more
abbrev pub with_statement : Written → ℕ → Statement → Written
with_statement tree at what = record tree { statements = tree.statements ++ record { at = at; what = what } ∷ [] }

-- one block more
abbrev pub with_block : Written → ℕ → Block → Written
with_block tree at what = record tree { blocks = tree.blocks ++ record { at = at; what = what } ∷ [] }

-- one declaration more
abbrev pub with_declaration : Written → ℕ → Declaration → Written
with_declaration tree at what = record tree { declarations = tree.declarations ++ record { at = at; what = what } ∷ [] }

-- one list of operations more
abbrev pub with_operations : Written → List Operation → Written
with_operations tree list = record tree { operations = tree.operations ++ list }

-- one list of items more
abbrev pub with_items : Written → List ℕ → Written
with_items tree list = record tree { items = tree.items ++ list }

-- one list of names more
abbrev pub with_names : Written → List Name → Written
with_names tree list = record tree { names = tree.names ++ list }

-- one list of fields more
abbrev pub with_fields : Written → List Field → Written
with_fields tree list = record tree { fields = tree.fields ++ list }
