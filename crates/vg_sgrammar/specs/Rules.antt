-- The grammar of specifications: one form a rule, in the order of its tokens. Above each rule stands its text. The tests in choices and
-- chains are for the reader.
use Rattle.std.specs.Prelude.{ℕ, zero, suc, List, [], ◌∷◌, Bool, Option, Some, None, if◌then◌else◌}
use Rattle.vg_forms.specs.Forms.{Form, Plain, Place, One, Unless, Either, Chain, Inner, Made, ◌⊛◌, ◌⊲◌, ◌⊳◌, optional, listed, same, one_more}
use Rattle.vg_forms.specs.Grammar.{Grammar}
use Rattle.vg_stok.specs.declared.kinds.TokenKind.{TokenKind}
use Rattle.vg_stok.specs.declared.kinds.Word.{Word}
use Rattle.vg_stok.specs.declared.kinds.Word.TheVariants as words
use Rattle.vg_stok.specs.declared.kinds.Sign.{Sign}
use Rattle.vg_stok.specs.declared.kinds.Sign.TheVariants as signs
use Rattle.vg_stree.specs.declared.code.FrameWord.{FrameWord}
use Rattle.vg_stree.specs.declared.code.Operation.{Operation}
use Rattle.vg_stree.specs.declared.code.Operator.{Operator}
use Rattle.vg_stree.specs.declared.code.Parts.{Parts}
use Rattle.vg_stree.specs.declared.shape.FieldType.{FieldType}
use Rattle.vg_stree.specs.declared.shape.Width.{Width}
use Rattle.vg_sgrammar.specs.Written.{Written, empty}
use Rattle.vg_sgrammar.specs.Growing.{Grows, expression_with, statement_with, struct_with, define_with, chained, chosen, named, Behind}
use Rattle.vg_sgrammar.specs.Growing.{Alone, Called, Indexed}
use Rattle.vg_sgrammar.specs.Growing as grow
use Rattle.vg_sgrammar.specs.Kinds.{SToken, is_sign, is_word, name_of, number_of, binary_of, is_binary, frame_word_of, width_of, field_type_of}
use Rattle.vg_sgrammar.specs.Kinds.{is_name, is_number, begins_expression, begins_statement, begins_declaration, any_token}
use Rattle.vg_sgrammar.specs.declared.tree.Name.{Name}
use Rattle.vg_sgrammar.specs.declared.tree.Field.{Field}
use Rattle.vg_sgrammar.specs.declared.tree.Size.{Size}
use Rattle.vg_sgrammar.specs.declared.tree.Size.TheVariants as sizes
use Rattle.vg_sgrammar.specs.declared.tree.Expression as wrote
use Rattle.vg_sgrammar.specs.declared.tree.Expression.TheVariants as exprs
use Rattle.vg_sgrammar.specs.declared.tree.Statement as said
use Rattle.vg_sgrammar.specs.declared.tree.Statement.TheVariants as stmts
use Rattle.vg_sgrammar.specs.declared.tree.Declaration.TheVariants as decls

-- the constructs that are counted where they stand in one another: an expression, the operand of `!`, a statement and a block
pub data Nested : Type 0 where
  Expression : Nested
  Operand : Nested
  Statement : Nested
  Block : Nested

-- the forms of the grammar
abbrev pub SForm : Type 0 → Type 1
SForm A = Form TokenKind Nested Written A

-- a sign, a word, a name, a number
unfoldable pub sign : Sign → SForm (Unit {0})
sign s = One (λ t. if is_sign s t then Some tt else None)

unfoldable pub word : Word → SForm (Unit {0})
word w = One (λ t. if is_word w t then Some tt else None)

unfoldable pub name : SForm Name
name = One name_of

unfoldable pub number : SForm ℕ
number = One number_of

-- expressions

-- a number as an expression
unfoldable pub number_alone : SForm ℕ
number_alone = Made (Plain (λ at n. grow.expression at (exprs.Number n)) ⊛ Place ⊛ number)

-- some expressions: expression { , expression }
unfoldable pub next_expression : SForm ℕ
next_expression = sign signs.Comma ⊳ Inner Expression

unfoldable pub some_expressions : SForm (List ℕ)
some_expressions = Chain (is_sign signs.Comma) (Plain (λ n. n ∷ []) ⊛ Inner Expression) (Plain one_more ⊛ next_expression)

-- arguments: [ some-expressions ]
unfoldable pub arguments : SForm (List ℕ)
arguments = Either begins_expression some_expressions (Plain [])

-- what is behind a name: ( arguments ) | [ expression ] . name | nothing
unfoldable pub behind_name : SForm Behind
behind_name = Either (is_sign signs.LeftParen) (Plain Called ⊛ (sign signs.LeftParen ⊳ arguments ⊲ sign signs.RightParen))
    (Either (is_sign signs.LeftBracket)
    (Plain Indexed ⊛ (sign signs.LeftBracket ⊳ Inner Expression ⊲ sign signs.RightBracket ⊲ sign signs.Dot) ⊛ name)
    (Plain Alone))

-- bytes of a frame: frame . w [ number ]
unfoldable pub frame_word : SForm FrameWord
frame_word = One frame_word_of

abbrev pub pair : {A B : Type 0} → A → B → A × B
pair a b = (a, b)

unfoldable pub framed : SForm (FrameWord × ℕ)
framed = Plain pair ⊛ (word words.Frame ⊳ sign signs.Dot ⊳ frame_word) ⊛ (sign signs.LeftBracket ⊳ number_alone ⊲ sign signs.RightBracket)

-- in parentheses: ( expression )
unfoldable pub parens : SForm ℕ
parens = Made (Plain (λ at inner. grow.expression at (exprs.Parens inner)) ⊛ Place ⊲ sign signs.LeftParen ⊛ Inner Expression ⊲ sign signs.RightParen)

-- has: has ( name , expression )
unfoldable pub has : SForm ℕ
has = Made (Plain (λ at link index. grow.expression at (exprs.Has link index)) ⊛ Place ⊲ word words.Has ⊲ sign signs.LeftParen ⊛ name
    ⊲ sign signs.Comma ⊛ Inner Expression ⊲ sign signs.RightParen)

-- frame . w [ number ]
unfoldable pub frame_primary : SForm ℕ
frame_primary = Made (Plain (λ at p. grow.expression at (exprs.Frame p.0 p.1)) ⊛ Place ⊛ framed)

-- cell . name
unfoldable pub cell_primary : SForm ℕ
cell_primary = Made (Plain (λ at field. grow.expression at (exprs.CellField field)) ⊛ Place ⊲ word words.Cell ⊲ sign signs.Dot ⊛ name)

-- a word alone
unfoldable pub known : Word → wrote.Expression → SForm ℕ
known w what = Made (Plain (λ at. grow.expression at what) ⊛ Place ⊲ word w)

-- name what-is-behind-it
unfoldable pub named_primary : SForm ℕ
named_primary = Made (Plain named ⊛ Place ⊛ name ⊛ behind_name)

-- primary: ( expression ) | number | frame . w [ number ] | cell . name | has ( name , expression ) | length | port | now
--     | name what-is-behind-it
unfoldable pub primary : SForm ℕ
primary =
    Either (is_sign signs.LeftParen) parens
    (Either is_number number_alone
    (Either (is_word words.Frame) frame_primary
    (Either (is_word words.Cell) cell_primary
    (Either (is_word words.Has) has
    (Either (is_word words.Length) (known words.Length exprs.Length)
    (Either (is_word words.Port) (known words.Port exprs.Port)
    (Either (is_word words.Now) (known words.Now exprs.Now)
    named_primary)))))))

-- unary: ! unary | primary
unfoldable pub unary : SForm ℕ
unary = Either (is_sign signs.Not) (Made (Plain (λ at operand. grow.expression at (exprs.Not operand)) ⊛ Place ⊲ sign signs.Not ⊛ Inner Operand)) primary

unfoldable pub operator : ℕ → SForm Operator
operator rank = One (binary_of rank)

-- operation of a rank: operator of the rank, what stands to its right
abbrev pub operation_of : Operator → ℕ → Operation
operation_of op right = record { operator = op; operand = right }

unfoldable pub operation : ℕ → SForm ℕ → SForm Operation
operation rank right = Plain operation_of ⊛ operator rank ⊛ right

-- operations of a rank: { operation of the rank }
unfoldable pub operations : ℕ → SForm ℕ → SForm (List Operation)
operations rank right = listed (is_binary rank) (operation rank right)

-- binary of a rank: binary of the rank below, operations of the rank; of rank 0: unary
unfoldable pub ranked : ℕ → SForm ℕ → SForm ℕ
ranked rank below = Made (Plain chained ⊛ Place ⊛ below ⊛ operations rank below)

unfoldable pub binary : ℕ → SForm ℕ
binary zero = unary
binary (suc rank) = ranked (suc rank) (binary rank)

-- expression: binary of rank 10 [ ? expression : expression ]
unfoldable pub expression : SForm ℕ
expression = Made (Plain chosen ⊛ Place ⊛ binary 10 ⊛ optional (is_sign signs.Question)
    (Plain pair ⊛ (sign signs.Question ⊳ Inner Expression) ⊛ (sign signs.Colon ⊳ Inner Expression)))

-- statements

-- [ else block ]
unfoldable pub otherwise : SForm (Option ℕ)
otherwise = optional (is_word words.Else) (word words.Else ⊳ Inner Block)

-- = expression ;
unfoldable pub assigned : SForm ℕ
assigned = sign signs.Assign ⊳ Inner Expression ⊲ sign signs.Semicolon

-- let name = expression ;
unfoldable pub let_statement : SForm ℕ
let_statement = Made (Plain (λ at n value. grow.statement at (stmts.Let n value)) ⊛ Place ⊲ word words.Let ⊛ name ⊛ assigned)

-- drop ; | flood ;
unfoldable pub alone : Word → said.Statement → SForm ℕ
alone w what = Made (Plain (λ at. grow.statement at what) ⊛ Place ⊲ word w ⊲ sign signs.Semicolon)

-- send expression ;
unfoldable pub send_statement : SForm ℕ
send_statement = Made (Plain (λ at port. grow.statement at (stmts.Send port)) ⊛ Place ⊲ word words.Send ⊛ Inner Expression ⊲ sign signs.Semicolon)

-- if expression block [ else block ]
unfoldable pub if_statement : SForm ℕ
if_statement = Made (Plain (λ at condition a b. grow.statement at
    (stmts.If condition a b)) ⊛ Place ⊲ word words.If ⊛ Inner Expression ⊛ Inner Block ⊛ otherwise)

-- frame . w [ number ] = expression ;
unfoldable pub frame_statement : SForm ℕ
frame_statement = Made (Plain (λ at p value. grow.statement at (stmts.SetFrame p.0 p.1 value)) ⊛ Place ⊛ framed ⊛ assigned)

-- name [ expression ] . name = expression ;
unfoldable pub cell_statement : SForm ℕ
cell_statement = Made (Plain (λ at vector index field value. grow.statement at (stmts.SetCell vector index field value)) ⊛ Place ⊛ name
    ⊲ sign signs.LeftBracket ⊛ Inner Expression ⊲ sign signs.RightBracket ⊲ sign signs.Dot ⊛ name ⊛ assigned)

-- expire name before expression ;
unfoldable pub expire_statement : SForm ℕ
expire_statement = Made (Plain (λ at link before. grow.statement at (stmts.Expire link before)) ⊛ Place ⊲ word words.Expire ⊛ name ⊲ word words.Before
    ⊛ Inner Expression ⊲ sign signs.Semicolon)

-- key: { some-expressions }
unfoldable pub key : SForm (List ℕ)
key = sign signs.LeftBrace ⊳ some_expressions ⊲ sign signs.RightBrace

abbrev pub with_key : (Name → Parts → Name → ℕ → Option ℕ → said.Statement) → ℕ → Name → List ℕ → Name → ℕ → Option ℕ → Grows ℕ
with_key what at link parts index a b = statement_with at (λ p. what link p index a b) parts

-- find name key as name block [ else block ], and the same with add
unfoldable pub keyed : Word → (Name → Parts → Name → ℕ → Option ℕ → said.Statement) → SForm ℕ
keyed w what = Made (Plain (with_key what) ⊛ Place ⊲ word w ⊛ name ⊛ key ⊲ word words.As ⊛ name ⊛ Inner Block ⊛ otherwise)

-- touch name expression ; and the same with remove
unfoldable pub indexed : Word → (Name → ℕ → said.Statement) → SForm ℕ
indexed w what = Made (Plain (λ at link index. grow.statement at (what link index)) ⊛ Place ⊲ word w ⊛ name ⊛ Inner Expression ⊲ sign signs.Semicolon)

-- lookup name expression as name block [ else block ]
unfoldable pub lookup_statement : SForm ℕ
lookup_statement = Made (Plain (λ at table address value a b. grow.statement at (stmts.Lookup table address value a b)) ⊛ Place ⊲ word words.Lookup ⊛ name
    ⊛ Inner Expression ⊲ word words.As ⊛ name ⊛ Inner Block ⊛ otherwise)

-- a statement on a link or a table, or a drop
unfoldable pub link_statement : SForm ℕ
link_statement =
    Either (is_word words.Expire) expire_statement
    (Either (is_word words.Find) (keyed words.Find stmts.Find)
    (Either (is_word words.Add) (keyed words.Add stmts.Add)
    (Either (is_word words.Touch) (indexed words.Touch stmts.Touch)
    (Either (is_word words.Remove) (indexed words.Remove stmts.Remove)
    (Either (is_word words.Lookup) lookup_statement
    (alone words.Drop stmts.Drop))))))

-- statement: one of these
unfoldable pub statement : SForm ℕ
statement =
    Either (is_word words.Let) let_statement
    (Either (is_word words.Flood) (alone words.Flood stmts.Flood)
    (Either (is_word words.Send) send_statement
    (Either (is_word words.If) if_statement
    (Either (is_word words.Frame) frame_statement
    (Either is_name cell_statement
    link_statement)))))

-- block: { { statement } }
unfoldable pub statements : SForm (List ℕ)
statements = listed begins_statement (Inner Statement)

unfoldable pub block : SForm ℕ
block = Made (Plain (λ at parts end. grow.block at parts end) ⊛ Place ⊲ sign signs.LeftBrace ⊛ statements ⊛ Place ⊲ sign signs.RightBrace)

-- declarations

-- ports number ;
unfoldable pub ports : SForm ℕ
ports = Made (Plain (λ at n. grow.declaration at (decls.Ports n)) ⊛ Place ⊲ word words.Ports ⊛ number ⊲ sign signs.Semicolon)

-- the width of a number
unfoldable pub width : SForm Width
width = One width_of

-- config name : ut number .. number ;
unfoldable pub config : SForm ℕ
config = Made (Plain (λ at n of low high. grow.declaration at (decls.Config n of low high)) ⊛ Place ⊲ word words.Config ⊛ name ⊲ sign signs.Colon ⊛ width
    ⊛ number ⊲ sign signs.Range ⊛ number ⊲ sign signs.Semicolon)

-- premise expression ;
unfoldable pub premise : SForm ℕ
premise = Made (Plain (λ at value. grow.declaration at (decls.Premise value)) ⊛ Place ⊲ word words.Premise ⊛ Inner Expression ⊲ sign signs.Semicolon)

-- field: name : ft ;
unfoldable pub field_type : SForm FieldType
field_type = One field_type_of

abbrev pub field_of : Name → FieldType → Field
field_of n of = record { name = n; of = of }

unfoldable pub field : SForm Field
field = Plain field_of ⊛ name ⊲ sign signs.Colon ⊛ field_type ⊲ sign signs.Semicolon

-- fields: field { field }
unfoldable pub fields : SForm (List Field)
fields = Chain is_name (Plain (λ f. f ∷ []) ⊛ field) (Plain one_more ⊛ field)

-- struct name { fields }
unfoldable pub struct_declaration : SForm ℕ
struct_declaration = Made (Plain struct_with ⊛ Place ⊲ word words.Struct ⊛ name ⊲ sign signs.LeftBrace ⊛ fields ⊲ sign signs.RightBrace)

-- size: number | name
unfoldable pub size : SForm Size
size = Either is_number (Plain sizes.Count ⊛ number) (Plain sizes.Name ⊛ name)

-- link name , name , name : name , size ;
unfoldable pub link : SForm ℕ
link = Made (Plain (λ at map chain keys key capacity. grow.declaration at (decls.Link map chain keys key capacity)) ⊛ Place ⊲ word words.Link
    ⊛ name ⊲ sign signs.Comma ⊛ name ⊲ sign signs.Comma ⊛ name ⊲ sign signs.Colon ⊛ name ⊲ sign signs.Comma ⊛ size ⊲ sign signs.Semicolon)

-- vector name : name , size ;
unfoldable pub vector : SForm ℕ
vector = Made (Plain (λ at n cell length. grow.declaration at (decls.Vector n cell length)) ⊛ Place ⊲ word words.Vector ⊛ name ⊲ sign signs.Colon
    ⊛ name ⊲ sign signs.Comma ⊛ size ⊲ sign signs.Semicolon)

-- prefix name : number .. number ;
unfoldable pub prefix : SForm ℕ
prefix = Made (Plain (λ at n low high. grow.declaration at (decls.Prefix n low high)) ⊛ Place ⊲ word words.Prefix ⊛ name ⊲ sign signs.Colon
    ⊛ number ⊲ sign signs.Range ⊛ number ⊲ sign signs.Semicolon)

-- rule name : expression ;
unfoldable pub rule : SForm ℕ
rule = Made (Plain (λ at n value. grow.declaration at (decls.Rule n value)) ⊛ Place ⊲ word words.Rule ⊛ name ⊲ sign signs.Colon ⊛ Inner Expression
    ⊲ sign signs.Semicolon)

-- parameters: [ name { , name } ]
unfoldable pub next_name : SForm Name
next_name = sign signs.Comma ⊳ name

unfoldable pub some_names : SForm (List Name)
some_names = Chain (is_sign signs.Comma) (Plain (λ n. n ∷ []) ⊛ name) (Plain one_more ⊛ next_name)

unfoldable pub parameters : SForm (List Name)
parameters = Either is_name some_names (Plain [])

-- define name ( parameters ) = expression ;
unfoldable pub define : SForm ℕ
define = Made (Plain define_with ⊛ Place ⊲ word words.Define ⊛ name ⊲ sign signs.LeftParen ⊛ parameters ⊲ sign signs.RightParen ⊛ assigned)

-- declaration: one of these
unfoldable pub declaration : SForm ℕ
declaration =
    Either (is_word words.Ports) ports
    (Either (is_word words.Config) config
    (Either (is_word words.Premise) premise
    (Either (is_word words.Struct) struct_declaration
    (Either (is_word words.Link) link
    (Either (is_word words.Vector) vector
    (Either (is_word words.Prefix) prefix
    (Either (is_word words.Rule) rule define)))))))

-- declarations: { declaration }
abbrev pub done : ℕ → ℕ → Unit {0} → Grows (Unit {0})
done n at u = same tt

unfoldable pub declarations : SForm (Unit {0})
declarations = Chain begins_declaration (Plain tt) (Plain done ⊛ declaration)

-- no token is left
unfoldable pub ended : SForm (Unit {0})
ended = Unless any_token

-- a whole text: declarations step block, and nothing behind it
unfoldable pub specification : SForm ℕ
specification = Plain (λ u block. block) ⊛ declarations ⊲ word words.Step ⊛ Inner Block ⊲ ended

-- what the counted constructs begin with, for the reader, and their forms
abbrev pub begins : Nested → SToken → Bool
begins Expression = begins_expression
begins Operand = begins_expression
begins Statement = begins_statement
begins Block = is_sign signs.LeftBrace

abbrev pub form : Nested → SForm ℕ
form Expression = expression
form Operand = unary
form Statement = statement
form Block = block

abbrev pub sgrammar : Grammar TokenKind Nested Written
sgrammar = record { begins = begins; form = form; unit = specification; empty = empty }
