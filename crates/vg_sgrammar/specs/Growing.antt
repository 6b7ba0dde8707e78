-- How the tree grows with each rule of the grammar.
use Rattle.std.specs.Prelude.{ℕ, List, [], ◌∷◌, length, Option, Some, None}
use Rattle.vg_forms.specs.Forms.{Growth, same}
use Rattle.vg_stree.specs.declared.code.Operation.{Operation}
use Rattle.vg_stree.specs.declared.code.Parts.{Parts}
use Rattle.vg_sgrammar.specs.Written.{Written, with_expression, with_statement, with_block, with_declaration, with_operations, with_items, with_names}
use Rattle.vg_sgrammar.specs.Written.{with_fields}
use Rattle.vg_sgrammar.specs.declared.tree.Name.{Name}
use Rattle.vg_sgrammar.specs.declared.tree.Field.{Field}
use Rattle.vg_sgrammar.specs.declared.tree.Expression.{Expression}
use Rattle.vg_sgrammar.specs.declared.tree.Expression.TheVariants as exprs
use Rattle.vg_sgrammar.specs.declared.tree.Statement.{Statement}
use Rattle.vg_sgrammar.specs.declared.tree.Declaration.{Declaration}
use Rattle.vg_sgrammar.specs.declared.tree.Declaration.TheVariants as decls

-- a value, and how the tree grows with it
abbrev pub Grows : Type 0 → Type 0
Grows A = Growth Written A

-- an expression, a statement, a declaration more; its number is the count of those before it
abbrev pub expression : ℕ → Expression → Grows ℕ
expression at what tree = (length tree.expressions, with_expression tree at what)

abbrev pub statement : ℕ → Statement → Grows ℕ
statement at what tree = (length tree.statements, with_statement tree at what)

abbrev pub declaration : ℕ → Declaration → Grows ℕ
declaration at what tree = (length tree.declarations, with_declaration tree at what)

-- where a list stands that is added to so many
abbrev pub behind : {A : Type 0} → ℕ → List A → Parts
behind from list = record { from = from; count = length list }

-- a block, behind the list of its statements
abbrev pub block : ℕ → List ℕ → ℕ → Grows ℕ
block at parts end tree =
    (length tree.blocks, with_block (with_items tree parts) at (record { statements = behind (length tree.items) parts; end = end }))

-- an expression or a statement behind a list of numbers that it has
abbrev pub expression_with : ℕ → (Parts → Expression) → List ℕ → Grows ℕ
expression_with at what parts tree = expression at (what (behind (length tree.items) parts)) (with_items tree parts)

abbrev pub statement_with : ℕ → (Parts → Statement) → List ℕ → Grows ℕ
statement_with at what parts tree = statement at (what (behind (length tree.items) parts)) (with_items tree parts)

-- a struct behind its fields, a define behind its parameters
abbrev pub struct_with : ℕ → Name → List Field → Grows ℕ
struct_with at name fields tree = declaration at (decls.Struct name (behind (length tree.fields) fields)) (with_fields tree fields)

abbrev pub define_with : ℕ → Name → List Name → ℕ → Grows ℕ
define_with at name names value tree = declaration at (decls.Define name (behind (length tree.names) names) value) (with_names tree names)

-- the first operand of a chain with the operations behind it; without one it stands alone
abbrev pub chained : ℕ → ℕ → List Operation → Grows ℕ
chained at first [] tree = (first, tree)
chained at first (operation ∷ operations) tree =
    expression at (exprs.Chain first (behind (length tree.operations) (operation ∷ operations))) (with_operations tree (operation ∷ operations))

-- a condition alone, or with what is chosen between
abbrev pub chosen : ℕ → ℕ → Option (ℕ × ℕ) → Grows ℕ
chosen at condition None = same condition
chosen at condition (Some sides) = expression at (exprs.Choose condition sides.0 sides.1)

-- what stands behind a name in an expression
pub data Behind : Type 0 where
  Alone : Behind
  Called : List ℕ → Behind
  Indexed : ℕ → Name → Behind

abbrev pub named : ℕ → Name → Behind → Grows ℕ
named at n Alone = expression at (exprs.Name n)
named at n (Called parts) = expression_with at (exprs.Call n) parts
named at n (Indexed index field) = expression at (exprs.Cell n index field)
