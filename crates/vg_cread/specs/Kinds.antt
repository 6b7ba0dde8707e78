-- What tokens are in the grammar.
use Rattle.std.specs.Prelude.{ℕ, Bool, true, false, ◌==◌, ◌||◌, is_some, if◌then◌else◌, Option, Some, None}
use Rattle.vg_core.specs.declared.tree.Name.{Name}
use Rattle.vg_core.specs.declared.tree.IntType.{IntType}
use Rattle.vg_core.specs.declared.tree.IntType.TheVariants as ints
use Rattle.vg_core.specs.declared.tree.HandleKind.{HandleKind}
use Rattle.vg_core.specs.declared.tree.HandleKind.TheVariants as handles
use Rattle.vg_core.specs.declared.tree.UnaryOp.{UnaryOp}
use Rattle.vg_core.specs.declared.tree.UnaryOp.TheVariants as unary
use Rattle.vg_core.specs.declared.tree.BinaryOp.{BinaryOp}
use Rattle.vg_core.specs.declared.tree.BinaryOp.TheVariants as binary
use Rattle.vg_ctok.specs.declared.kinds.Token.{Token}
use Rattle.vg_ctok.specs.declared.kinds.TokenKind.{TokenKind}
use Rattle.vg_ctok.specs.declared.kinds.TokenKind.TheVariants as kind
use Rattle.vg_ctok.specs.declared.kinds.Keyword.{Keyword}
use Rattle.vg_ctok.specs.declared.kinds.Keyword.TheVariants as word
use Rattle.vg_ctok.specs.declared.kinds.Sign.{Sign}
use Rattle.vg_ctok.specs.declared.kinds.Sign.TheVariants as sign
use Rattle.vg_ctok.specs.declared.kinds.Number.{Number}
use Rattle.vg_ctok.specs.declared.kinds.NumberType.{NumberType}
use Rattle.vg_ctok.specs.declared.kinds.NumberType.TheVariants as number

-- the signs and the keywords, numbered, so that two can be compared
abbrev pub sign_number : Sign → ℕ
sign_number sign.ShiftLeftAssign = 0
sign_number sign.ShiftRightAssign = 1
sign_number sign.Arrow = 2
sign_number sign.PlusPlus = 3
sign_number sign.MinusMinus = 4
sign_number sign.ShiftLeft = 5
sign_number sign.ShiftRight = 6
sign_number sign.LessEqual = 7
sign_number sign.GreaterEqual = 8
sign_number sign.EqualEqual = 9
sign_number sign.NotEqual = 10
sign_number sign.AndAnd = 11
sign_number sign.OrOr = 12
sign_number sign.PlusAssign = 13
sign_number sign.MinusAssign = 14
sign_number sign.StarAssign = 15
sign_number sign.SlashAssign = 16
sign_number sign.PercentAssign = 17
sign_number sign.AndAssign = 18
sign_number sign.OrAssign = 19
sign_number sign.XorAssign = 20
sign_number sign.Plus = 21
sign_number sign.Minus = 22
sign_number sign.Star = 23
sign_number sign.Slash = 24
sign_number sign.Percent = 25
sign_number sign.And = 26
sign_number sign.Or = 27
sign_number sign.Xor = 28
sign_number sign.Tilde = 29
sign_number sign.Not = 30
sign_number sign.Less = 31
sign_number sign.Greater = 32
sign_number sign.Assign = 33
sign_number sign.Question = 34
sign_number sign.Colon = 35
sign_number sign.Semicolon = 36
sign_number sign.Comma = 37
sign_number sign.Dot = 38
sign_number sign.LeftParen = 39
sign_number sign.RightParen = 40
sign_number sign.LeftBrace = 41
sign_number sign.RightBrace = 42
sign_number sign.LeftBracket = 43
sign_number sign.RightBracket = 44

abbrev pub word_number : Keyword → ℕ
word_number word.If = 0
word_number word.Else = 1
word_number word.For = 2
word_number word.Return = 3
word_number word.Struct = 4
word_number word.Extern = 5
word_number word.Const = 6
word_number word.Static = 7
word_number word.Inline = 8
word_number word.Void = 9
word_number word.Sizeof = 10
word_number word.Int = 11
word_number word.Unsigned = 12
word_number word.Int8 = 13
word_number word.Int16 = 14
word_number word.Int32 = 15
word_number word.Int64 = 16
word_number word.Uint8 = 17
word_number word.Uint16 = 18
word_number word.Uint32 = 19
word_number word.Uint64 = 20
word_number word.Map = 21
word_number word.Chain = 22
word_number word.Vector = 23
word_number word.Prefix = 24
word_number word.Attribute = 25

-- whether a token is this sign, or this keyword
abbrev pub is_sign_kind : Sign → TokenKind → Bool
is_sign_kind s (kind.Sign found) = sign_number found == sign_number s
is_sign_kind s _ = false

abbrev pub is_sign : Sign → Token → Bool
is_sign s t = is_sign_kind s t.kind

abbrev pub is_word_kind : Keyword → TokenKind → Bool
is_word_kind w (kind.Keyword found) = word_number found == word_number w
is_word_kind w _ = false

abbrev pub is_word : Keyword → Token → Bool
is_word w t = is_word_kind w t.kind

-- the name that a token is
abbrev pub name_kind : TokenKind → Name → Option Name
name_kind kind.Name name = Some name
name_kind _ name = None

abbrev pub name_of : Token → Option Name
name_of t = name_kind t.kind (record { from = t.from; to = t.to })

-- the number that a token is
abbrev pub number_of_kind : TokenKind → Option Number
number_of_kind (kind.Number n) = Some n
number_of_kind _ = None

abbrev pub number_of : Token → Option Number
number_of t = number_of_kind t.kind

-- what a keyword or a sign stands for
abbrev pub by_word : {A : Type 0} → (Keyword → Option A) → TokenKind → Option A
by_word what (kind.Keyword w) = what w
by_word what _ = None

abbrev pub by_sign : {A : Type 0} → (Sign → Option A) → TokenKind → Option A
by_sign what (kind.Sign s) = what s
by_sign what _ = None

-- the type of a number
abbrev pub number_type : NumberType → IntType
number_type number.Int = ints.Int
number_type number.Uint32 = ints.Uint32
number_type number.Int64 = ints.Int64
number_type number.Uint64 = ints.Uint64

-- the types of integers that are one word; `unsigned` may have an `int` behind it
abbrev pub int_word : Keyword → Option IntType
int_word word.Int = Some ints.Int
int_word word.Int8 = Some ints.Int8
int_word word.Int16 = Some ints.Int16
int_word word.Int32 = Some ints.Int32
int_word word.Int64 = Some ints.Int64
int_word word.Uint8 = Some ints.Uint8
int_word word.Uint16 = Some ints.Uint16
int_word word.Uint32 = Some ints.Uint32
int_word word.Uint64 = Some ints.Uint64
int_word _ = None

abbrev pub int_of : Token → Option IntType
int_of t = by_word int_word t.kind

abbrev pub handle_word : Keyword → Option HandleKind
handle_word word.Map = Some handles.Map
handle_word word.Chain = Some handles.Chain
handle_word word.Vector = Some handles.Vector
handle_word word.Prefix = Some handles.Prefix
handle_word _ = None

abbrev pub handle_of : Token → Option HandleKind
handle_of t = by_word handle_word t.kind

-- the operators before an operand
abbrev pub unary_sign : Sign → Option UnaryOp
unary_sign sign.Minus = Some unary.Negate
unary_sign sign.Tilde = Some unary.Complement
unary_sign sign.Not = Some unary.Not
unary_sign sign.Star = Some unary.Load
unary_sign sign.And = Some unary.Address
unary_sign _ = None

abbrev pub unary_of : Token → Option UnaryOp
unary_of t = by_sign unary_sign t.kind

-- the operators between two operands, each with its rank: those of a lower rank bind tighter (C11 6.5.5 to 6.5.14)
abbrev pub binary_sign : Sign → Option (ℕ × BinaryOp)
binary_sign sign.Star = Some (1, binary.Multiply)
binary_sign sign.Slash = Some (1, binary.Divide)
binary_sign sign.Percent = Some (1, binary.Remainder)
binary_sign sign.Plus = Some (2, binary.Add)
binary_sign sign.Minus = Some (2, binary.Subtract)
binary_sign sign.ShiftLeft = Some (3, binary.ShiftLeft)
binary_sign sign.ShiftRight = Some (3, binary.ShiftRight)
binary_sign sign.Less = Some (4, binary.Less)
binary_sign sign.Greater = Some (4, binary.Greater)
binary_sign sign.LessEqual = Some (4, binary.LessEqual)
binary_sign sign.GreaterEqual = Some (4, binary.GreaterEqual)
binary_sign sign.EqualEqual = Some (5, binary.Equal)
binary_sign sign.NotEqual = Some (5, binary.NotEqual)
binary_sign sign.And = Some (6, binary.BitAnd)
binary_sign sign.Xor = Some (7, binary.BitXor)
binary_sign sign.Or = Some (8, binary.BitOr)
binary_sign sign.AndAnd = Some (9, binary.AndThen)
binary_sign sign.OrOr = Some (10, binary.OrElse)
binary_sign _ = None

abbrev pub of_rank : ℕ → Option (ℕ × BinaryOp) → Option BinaryOp
of_rank rank None = None
of_rank rank (Some found) = if found.0 == rank then Some found.1 else None

abbrev pub binary_of : ℕ → Token → Option BinaryOp
binary_of rank t = of_rank rank (by_sign binary_sign t.kind)

abbrev pub is_binary : ℕ → Token → Bool
is_binary rank t = is_some (binary_of rank t)

-- the operators of assignments (C11 6.5.16), each with the one that stands before its `=`
abbrev pub assign_sign : Sign → Option (Option BinaryOp)
assign_sign sign.Assign = Some None
assign_sign sign.PlusAssign = Some (Some binary.Add)
assign_sign sign.MinusAssign = Some (Some binary.Subtract)
assign_sign sign.StarAssign = Some (Some binary.Multiply)
assign_sign sign.SlashAssign = Some (Some binary.Divide)
assign_sign sign.PercentAssign = Some (Some binary.Remainder)
assign_sign sign.AndAssign = Some (Some binary.BitAnd)
assign_sign sign.OrAssign = Some (Some binary.BitOr)
assign_sign sign.XorAssign = Some (Some binary.BitXor)
assign_sign sign.ShiftLeftAssign = Some (Some binary.ShiftLeft)
assign_sign sign.ShiftRightAssign = Some (Some binary.ShiftRight)
assign_sign _ = None

abbrev pub assign_of : Token → Option (Option BinaryOp)
assign_of t = by_sign assign_sign t.kind

abbrev pub is_assign : Token → Bool
is_assign t = is_some (assign_of t)

-- what the constructs begin with
abbrev pub begins_base : Token → Bool
begins_base t = is_some (int_of t) || is_word word.Unsigned t || is_word word.Struct t

abbrev pub begins_unary : Token → Bool
begins_unary t = is_some (unary_of t)

abbrev pub is_number : Token → Bool
is_number t = is_some (number_of t)

abbrev pub begins_expression : Token → Bool
begins_expression t = is_some (name_of t) || is_number t || is_sign sign.LeftParen t || begins_unary t || is_word word.Sizeof t

abbrev pub begins_statement : Token → Bool
begins_statement t =
    is_sign sign.LeftBrace t || is_sign sign.Semicolon t || is_word word.If t || is_word word.For t || is_word word.Return t || begins_expression t

abbrev pub begins_piece : Token → Bool
begins_piece t = begins_base t || begins_statement t

abbrev pub begins_suffix : Token → Bool
begins_suffix t = is_sign sign.LeftBracket t || is_sign sign.Dot t || is_sign sign.Arrow t

-- the operators that stand behind a postfix alone (C11 6.5.2)
abbrev pub is_postfix_operator : Token → Bool
is_postfix_operator t = begins_suffix t || is_sign sign.PlusPlus t || is_sign sign.MinusMinus t

abbrev pub any_token : Token → Bool
any_token t = true
