-- The grammar of the C profile, after C11 6.5, 6.7, 6.8 and 6.9: one form a rule, in the order of its tokens. Above each rule stands
-- its text. The tests in choices and chains are for the reader. Two rules say what may not come next: `otherwise` (an `else` behind an
-- `if` that goes without) and `no_postfix` (a suffix, `++` or `--` behind what is no postfix, which no other rule would take there).
use Rattle.std.specs.Prelude.{ℕ, zero, suc, List, [], ◌∷◌, Bool, true, false, Option, Some, None, if◌then◌else◌}
use Rattle.vg_core.specs.declared.tree.Name.{Name}
use Rattle.vg_core.specs.declared.tree.Base.{Base}
use Rattle.vg_core.specs.declared.tree.Base.TheVariants as bases
use Rattle.vg_core.specs.declared.tree.IntType.{IntType}
use Rattle.vg_core.specs.declared.tree.IntType.TheVariants as ints
use Rattle.vg_core.specs.declared.tree.BinaryOp.{BinaryOp}
use Rattle.vg_core.specs.declared.tree.HandleKind.{HandleKind}
use Rattle.vg_core.specs.declared.tree.Kind.{Kind}
use Rattle.vg_core.specs.declared.tree.Kind.TheVariants as nodes
use Rattle.vg_ctok.specs.declared.kinds.Keyword.{Keyword}
use Rattle.vg_ctok.specs.declared.kinds.Keyword.TheVariants as words
use Rattle.vg_ctok.specs.declared.kinds.Sign.{Sign}
use Rattle.vg_ctok.specs.declared.kinds.Sign.TheVariants as signs
use Rattle.vg_ctok.specs.declared.kinds.Token.{Token}
use Rattle.vg_cread.specs.declared.statements.Action.{Action}
use Rattle.vg_cread.specs.declared.statements.Action.TheVariants as actions
use Rattle.vg_cread.specs.Forms.{Form, Plain, Place, One, Unless, Either, Chain, Inner, Made, Nested, Expression, Operand, Statement, Body, Growth}
use Rattle.vg_cread.specs.Forms.{◌⊛◌, ◌⊲◌, ◌⊳◌, optional, listed, same, one_more, node, node_with}
use Rattle.vg_cread.specs.Kinds.{is_sign, is_word, name_of, number_of, number_type, int_of, handle_of, unary_of, binary_of, is_binary, assign_of}
use Rattle.vg_cread.specs.Kinds.{is_assign, is_number, begins_base, begins_unary, begins_expression, begins_statement, begins_piece, begins_suffix}
use Rattle.vg_cread.specs.Kinds.{is_postfix_operator, any_token}

-- a sign, a keyword, a name
unfoldable pub sign : Sign → Form (Unit {0})
sign s = One (λ t. if is_sign s t then Some tt else None)

unfoldable pub word : Keyword → Form (Unit {0})
word w = One (λ t. if is_word w t then Some tt else None)

unfoldable pub name : Form Name
name = One name_of

-- a word or a sign that may be left out
abbrev pub flag : {A : Type 0} → (Token → Bool) → Form A → Form Bool
flag test x = Either test (Plain (λ _. true) ⊛ x) (Plain false)

-- int-type: int | unsigned [int] | int8_t | .. | uint64_t
unfoldable pub int_type : Form IntType
int_type = Either (is_word words.Unsigned) (Plain (λ _. ints.Unsigned) ⊛ word words.Unsigned ⊲ optional (is_word words.Int) (word words.Int)) (One int_of)

-- base: int-type | struct name
unfoldable pub base : Form Base
base = Either (is_word words.Struct) (Plain bases.Struct ⊛ Place ⊲ word words.Struct ⊛ name) (Plain bases.Int ⊛ int_type)

-- *
unfoldable pub star : Form Bool
star = flag (is_sign signs.Star) (sign signs.Star)

-- [ [ expression ] ]
unfoldable pub array_length : Form (Option ℕ)
array_length = optional (is_sign signs.LeftBracket) (sign signs.LeftBracket ⊳ Inner Expression ⊲ sign signs.RightBracket)

-- expressions (C11 6.5)

-- arguments: [ expression { , expression } ]
unfoldable pub arguments : Form (List ℕ)
arguments = Either begins_expression
    (Chain (is_sign signs.Comma) (Plain (λ n. n ∷ []) ⊛ Inner Expression) (Plain one_more ⊛ (sign signs.Comma ⊳ Inner Expression)))
    (Plain [])

-- a name, or a call where arguments in parentheses follow
abbrev pub named : ℕ → Name → Option (List ℕ) → Growth ℕ
named at n None = node at (nodes.Variable n)
named at n (Some parts) = node_with at (nodes.Call n) parts

-- no operator that stands behind a postfix alone: none follows a cast, a sizeof, or the operand of a sign (C11 6.5.2 to 6.5.4)
unfoldable pub no_postfix : Form (Unit {0})
no_postfix = Unless is_postfix_operator

-- in parentheses: ( base [*] ) operand | ( expression )
unfoldable pub opened : Form ℕ
opened = Made (Plain (λ at kind. node at kind) ⊛ Place ⊲ sign signs.LeftParen ⊛ Either begins_base
    (Plain (λ b pointer operand. nodes.Cast b pointer operand) ⊛ base ⊛ star ⊲ sign signs.RightParen ⊛ Inner Operand ⊲ no_postfix)
    (Plain nodes.Parens ⊛ Inner Expression ⊲ sign signs.RightParen))

-- primary: what is in parentheses | number | name [ ( arguments ) ]
unfoldable pub primary : Form ℕ
primary = Either (is_sign signs.LeftParen) opened (Either is_number
    (Made (Plain (λ at n. node at (nodes.Number n.value (number_type n.of))) ⊛ Place ⊛ One number_of))
    (Made (Plain named ⊛ Place ⊛ name ⊛ optional (is_sign signs.LeftParen) (sign signs.LeftParen ⊳ arguments ⊲ sign signs.RightParen))))

-- suffix: [ expression ] | . name | -> name
unfoldable pub suffix : Form (ℕ → ℕ → Growth ℕ)
suffix = Either (is_sign signs.LeftBracket)
    (Plain (λ index at a. node at (nodes.Index a index)) ⊛ (sign signs.LeftBracket ⊳ Inner Expression ⊲ sign signs.RightBracket))
    (Either (is_sign signs.Dot)
    (Plain (λ field at a. node at (nodes.Member a field)) ⊛ (sign signs.Dot ⊳ name))
    (Plain (λ field at a. node at (nodes.Arrow a field)) ⊛ (sign signs.Arrow ⊳ name)))

-- postfix: primary { suffix }; an operand takes each suffix behind it, so none is left behind a cast
unfoldable pub postfix : Form ℕ
postfix = Chain begins_suffix primary suffix

-- unary: (- | ~ | ! | * | &) unary | sizeof ( base ) | postfix
unfoldable pub unary : Form ℕ
unary = Either begins_unary
    (Made (Plain (λ at op operand. node at (nodes.Unary op operand)) ⊛ Place ⊛ One unary_of ⊛ Inner Operand ⊲ no_postfix))
    (Either (is_word words.Sizeof)
    (Made (Plain (λ at b. node at (nodes.Sizeof b)) ⊛ Place ⊲ word words.Sizeof ⊲ sign signs.LeftParen ⊛ base ⊲ sign signs.RightParen ⊲ no_postfix))
    postfix)

unfoldable pub operator : ℕ → Form BinaryOp
operator rank = One (binary_of rank)

-- link of a rank: operator of the rank, what stands to its right
unfoldable pub link : ℕ → Form ℕ → Form (ℕ → ℕ → Growth ℕ)
link rank right = Plain (λ op right at left. node at (nodes.Binary op left right)) ⊛ operator rank ⊛ right

-- binary of a rank: binary of the rank below { operator of the rank, binary of the rank below }, grouped to the left; of rank 0: unary
unfoldable pub binary : ℕ → Form ℕ
binary zero = unary
binary (suc rank) = Chain (is_binary (suc rank)) (binary rank) (link (suc rank) (binary rank))

abbrev pub chosen : ℕ → ℕ → Option (ℕ × ℕ) → Growth ℕ
chosen at condition None = same condition
chosen at condition (Some sides) = node at (nodes.Choose condition sides.0 sides.1)

-- expression: binary of rank 10 [ ? expression : expression ]
unfoldable pub expression : Form ℕ
expression = Made (Plain chosen ⊛ Place ⊛ binary 10 ⊛ optional (is_sign signs.Question)
    (Plain (λ a b. (a, b)) ⊛ (sign signs.Question ⊳ Inner Expression) ⊛ (sign signs.Colon ⊳ Inner Expression)))

-- statements (C11 6.8)

-- [ = expression ]
unfoldable pub initial : Form (Option ℕ)
initial = optional (is_sign signs.Assign) (sign signs.Assign ⊳ Inner Expression)

-- declaration: base [*] name [ [ expression ] ] [ = expression ] ;
unfoldable pub declaration : Form ℕ
declaration = Made (Plain (λ at b pointer n length value. node at (nodes.Declare b pointer n length value))
    ⊛ Place ⊛ base ⊛ star ⊛ name ⊛ array_length ⊛ initial ⊲ sign signs.Semicolon)

-- piece of a block: declaration | statement
unfoldable pub piece : Form ℕ
piece = Either begins_base declaration (Inner Statement)

unfoldable pub pieces : Form (List ℕ)
pieces = listed begins_piece piece

-- block: { { piece } }
unfoldable pub block : Form ℕ
block = Made (Plain (λ at parts end. node_with at (λ statements. nodes.Block statements end) parts)
    ⊛ Place ⊲ sign signs.LeftBrace ⊛ pieces ⊛ Place ⊲ sign signs.RightBrace)

-- [ else statement ]; an `else` belongs to the nearest `if`, so none stands behind an `if` that goes without (C11 6.8.4.1, paragraph 3)
unfoldable pub otherwise : Form (Option ℕ)
otherwise = Either (is_word words.Else) (Plain (λ a. Some a) ⊛ (word words.Else ⊳ Inner Statement)) (Plain (λ _. None) ⊛ Unless (is_word words.Else))

-- if-statement: if ( expression ) statement [ else statement ]
unfoldable pub if_statement : Form ℕ
if_statement = Made (Plain (λ at condition a b. node at (nodes.If condition a b))
    ⊛ Place ⊲ word words.If ⊲ sign signs.LeftParen ⊛ Inner Expression ⊲ sign signs.RightParen ⊛ Inner Statement
    ⊛ otherwise)

-- step of a loop: ++ | += expression
unfoldable pub step : Form (Option ℕ)
step = Either (is_sign signs.PlusPlus) (Plain (λ _. None) ⊛ sign signs.PlusPlus) (Plain (λ n. Some n) ⊛ (sign signs.PlusAssign ⊳ Inner Expression))

-- for-statement: for ( int-type name = expression ; name < expression ; name step ) statement
unfoldable pub for_statement : Form ℕ
for_statement = Made (Plain (λ at of counter start tested bound stepped by body. node at (nodes.For of counter start tested bound stepped by body))
    ⊛ Place ⊲ word words.For ⊲ sign signs.LeftParen
    ⊛ int_type ⊛ name ⊲ sign signs.Assign ⊛ Inner Expression ⊲ sign signs.Semicolon
    ⊛ name ⊲ sign signs.Less ⊛ Inner Expression ⊲ sign signs.Semicolon
    ⊛ name ⊛ step ⊲ sign signs.RightParen ⊛ Inner Statement)

-- return-statement: return [ expression ] ;
unfoldable pub return_statement : Form ℕ
return_statement = Made (Plain (λ at value. node at (nodes.Return value)) ⊛ Place ⊲ word words.Return ⊛ optional begins_expression (Inner Expression)
    ⊲ sign signs.Semicolon)

unfoldable pub assignment : Form (Option BinaryOp)
assignment = One assign_of

-- what a simple statement does with the operand that it begins with
abbrev pub acted : Action → ℕ → Kind
acted (actions.Assign op value) target = nodes.Assign op target value
acted actions.Increment target = nodes.Increment target
acted actions.Decrement target = nodes.Decrement target
acted actions.Evaluate target = nodes.Evaluate target

-- action: [ assignment-operator expression | ++ | -- ]
unfoldable pub action : Form Action
action = Either is_assign (Plain actions.Assign ⊛ assignment ⊛ Inner Expression)
    (Either (is_sign signs.PlusPlus) (Plain (λ _. actions.Increment) ⊛ sign signs.PlusPlus)
    (Either (is_sign signs.MinusMinus) (Plain (λ _. actions.Decrement) ⊛ sign signs.MinusMinus)
    (Plain actions.Evaluate)))

-- simple statement: unary action ;
unfoldable pub simple_statement : Form ℕ
simple_statement = Made (Plain (λ at target act. node at (acted act target)) ⊛ Place ⊛ Inner Operand ⊛ action ⊲ sign signs.Semicolon)

-- statement: block | ; | if-statement | for-statement | return-statement | simple-statement
unfoldable pub statement : Form ℕ
statement =
    Either (is_sign signs.LeftBrace) block
    (Either (is_sign signs.Semicolon) (Made (Plain (λ at. node at nodes.Empty) ⊛ Place ⊲ sign signs.Semicolon))
    (Either (is_word words.If) if_statement
    (Either (is_word words.For) for_statement
    (Either (is_word words.Return) return_statement simple_statement))))

-- what the counted constructs begin with, for the reader, and their forms
abbrev pub begins : Nested → Token → Bool
begins Expression = begins_expression
begins Operand = begins_expression
begins Statement = begins_statement
begins Body = is_sign signs.LeftBrace

abbrev pub form : Nested → Form ℕ
form Expression = expression
form Operand = unary
form Statement = statement
form Body = block

-- items (C11 6.7 and 6.9)

-- field: base name [ [ expression ] ] ;
unfoldable pub field : Form ℕ
field = Made (Plain (λ at b n length. node at (nodes.Field b n length)) ⊛ Place ⊛ base ⊛ name ⊛ array_length ⊲ sign signs.Semicolon)

-- attribute: __attribute__ ( ( name ) )
unfoldable pub attribute : Form Name
attribute = word words.Attribute ⊳ sign signs.LeftParen ⊳ sign signs.LeftParen ⊳ name ⊲ sign signs.RightParen ⊲ sign signs.RightParen

unfoldable pub packing : Form (Option Name)
packing = optional (is_word words.Attribute) attribute

unfoldable pub fields : Form (List ℕ)
fields = Chain begins_base (Plain (λ n. n ∷ []) ⊛ field) (Plain one_more ⊛ field)

-- struct: struct name { field { field } } [ attribute ] ;
unfoldable pub struct_item : Form ℕ
struct_item = Made (Plain (λ at tag fields packed. node_with at (λ parts. nodes.Struct tag parts packed) fields)
    ⊛ Place ⊲ word words.Struct ⊛ name ⊲ sign signs.LeftBrace
    ⊛ fields ⊲ sign signs.RightBrace ⊛ packing ⊲ sign signs.Semicolon)

unfoldable pub handle : Form HandleKind
handle = One handle_of

-- extern: extern (const int-type | handle) name ;
unfoldable pub extern_item : Form ℕ
extern_item = Made (Plain (λ at kind n. node at (kind n)) ⊛ Place ⊲ word words.Extern
    ⊛ Either (is_word words.Const) (Plain nodes.ExternNumber ⊛ (word words.Const ⊳ int_type)) (Plain nodes.ExternHandle ⊛ handle)
    ⊛ name ⊲ sign signs.Semicolon)

-- param: base [*] name
unfoldable pub param : Form ℕ
param = Made (Plain (λ at b pointer n. node at (nodes.Param b pointer n)) ⊛ Place ⊛ base ⊛ star ⊛ name)

-- params: void | param { , param }
unfoldable pub params : Form (List ℕ)
params = Either (is_word words.Void) (Plain (λ _. []) ⊛ word words.Void)
    (Chain (is_sign signs.Comma) (Plain (λ n. n ∷ []) ⊛ param) (Plain one_more ⊛ (sign signs.Comma ⊳ param)))

-- answer: void | int-type
unfoldable pub answer : Form (Option IntType)
answer = Either (is_word words.Void) (Plain (λ _. None) ⊛ word words.Void) (Plain (λ t. Some t) ⊛ int_type)

unfoldable pub flagged : Keyword → Form Bool
flagged w = flag (is_word w) (word w)

-- function: [static] [inline] answer name ( params ) block
unfoldable pub function : Form ℕ
function = Made (Plain (λ at is_static is_inline of n parts body. node_with at (λ ps. nodes.Function is_static is_inline of n ps body) parts)
    ⊛ Place ⊛ flagged words.Static ⊛ flagged words.Inline
    ⊛ answer ⊛ name ⊲ sign signs.LeftParen ⊛ params ⊲ sign signs.RightParen ⊛ Inner Body)

-- item: struct | extern | function
unfoldable pub item : Form ℕ
item = Either (is_word words.Struct) struct_item (Either (is_word words.Extern) extern_item function)

unfoldable pub items : Form (List ℕ)
items = listed any_token item

-- unit: { item }
unfoldable pub unit : Form ℕ
unit = Made (Plain (λ at parts. node_with at nodes.Unit parts) ⊛ Place ⊛ items)
