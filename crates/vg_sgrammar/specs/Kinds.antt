-- What tokens are in the grammar.
use Rattle.std.specs.Prelude.{ℕ, Bool, true, false, ◌==◌, ◌||◌, is_some, if◌then◌else◌, Option, Some, None}
use Rattle.vg_forms.specs.declared.token.Token.{Token}
use Rattle.vg_stok.specs.declared.kinds.TokenKind.{TokenKind}
use Rattle.vg_stok.specs.declared.kinds.TokenKind.TheVariants as kind
use Rattle.vg_stok.specs.declared.kinds.Word.{Word}
use Rattle.vg_stok.specs.declared.kinds.Word.TheVariants as word
use Rattle.vg_stok.specs.declared.kinds.Sign.{Sign}
use Rattle.vg_stok.specs.declared.kinds.Sign.TheVariants as sign
use Rattle.vg_stree.specs.declared.code.Operator.{Operator}
use Rattle.vg_stree.specs.declared.code.Operator.TheVariants as operators
use Rattle.vg_stree.specs.declared.code.FrameWord.{FrameWord}
use Rattle.vg_stree.specs.declared.code.FrameWord.TheVariants as frames
use Rattle.vg_stree.specs.declared.shape.Width.{Width}
use Rattle.vg_stree.specs.declared.shape.Width.TheVariants.{Bits8, Bits16, Bits32, Bits64}
use Rattle.vg_stree.specs.declared.shape.FieldType.{FieldType}
use Rattle.vg_stree.specs.declared.shape.FieldType.TheVariants as types
use Rattle.vg_sgrammar.specs.declared.tree.Name.{Name}

-- a token of a specification text
abbrev pub SToken : Type 0
SToken = Token TokenKind

-- the signs and the words, numbered, so that two can be compared
abbrev pub sign_number : Sign → ℕ
sign_number sign.Range = 0
sign_number sign.ShiftLeft = 1
sign_number sign.ShiftRight = 2
sign_number sign.LessEqual = 3
sign_number sign.GreaterEqual = 4
sign_number sign.EqualEqual = 5
sign_number sign.NotEqual = 6
sign_number sign.AndAnd = 7
sign_number sign.OrOr = 8
sign_number sign.Plus = 9
sign_number sign.Minus = 10
sign_number sign.Star = 11
sign_number sign.Slash = 12
sign_number sign.Percent = 13
sign_number sign.And = 14
sign_number sign.Or = 15
sign_number sign.Xor = 16
sign_number sign.Not = 17
sign_number sign.Less = 18
sign_number sign.Greater = 19
sign_number sign.Assign = 20
sign_number sign.Question = 21
sign_number sign.Colon = 22
sign_number sign.Semicolon = 23
sign_number sign.Comma = 24
sign_number sign.Dot = 25
sign_number sign.LeftParen = 26
sign_number sign.RightParen = 27
sign_number sign.LeftBrace = 28
sign_number sign.RightBrace = 29
sign_number sign.LeftBracket = 30
sign_number sign.RightBracket = 31

abbrev pub word_number : Word → ℕ
word_number word.Ports = 0
word_number word.Config = 1
word_number word.Premise = 2
word_number word.Struct = 3
word_number word.Link = 4
word_number word.Vector = 5
word_number word.Prefix = 6
word_number word.Rule = 7
word_number word.Define = 8
word_number word.Step = 9
word_number word.Let = 10
word_number word.Drop = 11
word_number word.Flood = 12
word_number word.Send = 13
word_number word.If = 14
word_number word.Else = 15
word_number word.Frame = 16
word_number word.Expire = 17
word_number word.Before = 18
word_number word.Find = 19
word_number word.As = 20
word_number word.Add = 21
word_number word.Touch = 22
word_number word.Remove = 23
word_number word.Lookup = 24
word_number word.Cell = 25
word_number word.Length = 26
word_number word.Port = 27
word_number word.Now = 28
word_number word.Has = 29
word_number word.U8 = 30
word_number word.U16 = 31
word_number word.U32 = 32
word_number word.U64 = 33
word_number word.Be16 = 34
word_number word.Be32 = 35
word_number word.Be48 = 36
word_number word.Be64 = 37
word_number word.B1 = 38
word_number word.B2 = 39
word_number word.B3 = 40
word_number word.B4 = 41
word_number word.B5 = 42
word_number word.B6 = 43
word_number word.B7 = 44
word_number word.B8 = 45

-- whether a token is this sign, or this word
abbrev pub is_sign_kind : Sign → TokenKind → Bool
is_sign_kind s (kind.Sign found) = sign_number found == sign_number s
is_sign_kind s _ = false

abbrev pub is_sign : Sign → SToken → Bool
is_sign s t = is_sign_kind s t.kind

abbrev pub is_word_kind : Word → TokenKind → Bool
is_word_kind w (kind.Word found) = word_number found == word_number w
is_word_kind w _ = false

abbrev pub is_word : Word → SToken → Bool
is_word w t = is_word_kind w t.kind

-- the name that a token is
abbrev pub name_kind : TokenKind → Name → Option Name
name_kind kind.Name name = Some name
name_kind _ name = None

abbrev pub name_of : SToken → Option Name
name_of t = name_kind t.kind (record { from = t.from; to = t.to })

-- the number that a token is
abbrev pub number_kind : TokenKind → Option ℕ
number_kind (kind.Number n) = Some n
number_kind _ = None

abbrev pub number_of : SToken → Option ℕ
number_of t = number_kind t.kind

-- what a word or a sign stands for
abbrev pub by_word : {A : Type 0} → (Word → Option A) → TokenKind → Option A
by_word what (kind.Word w) = what w
by_word what _ = None

abbrev pub by_sign : {A : Type 0} → (Sign → Option A) → TokenKind → Option A
by_sign what (kind.Sign s) = what s
by_sign what _ = None

-- the operators between two operands, with their ranks: the greater, the looser (C11 6.5.5 to 6.5.14)
abbrev pub binary_sign : Sign → Option (ℕ × Operator)
binary_sign sign.Star = Some (1, operators.Multiply)
binary_sign sign.Slash = Some (1, operators.Divide)
binary_sign sign.Percent = Some (1, operators.Remainder)
binary_sign sign.Plus = Some (2, operators.Add)
binary_sign sign.Minus = Some (2, operators.Subtract)
binary_sign sign.ShiftLeft = Some (3, operators.ShiftLeft)
binary_sign sign.ShiftRight = Some (3, operators.ShiftRight)
binary_sign sign.Less = Some (4, operators.Less)
binary_sign sign.Greater = Some (4, operators.Greater)
binary_sign sign.LessEqual = Some (4, operators.LessEqual)
binary_sign sign.GreaterEqual = Some (4, operators.GreaterEqual)
binary_sign sign.EqualEqual = Some (5, operators.Equal)
binary_sign sign.NotEqual = Some (5, operators.NotEqual)
binary_sign sign.And = Some (6, operators.BitAnd)
binary_sign sign.Xor = Some (7, operators.BitXor)
binary_sign sign.Or = Some (8, operators.BitOr)
binary_sign sign.AndAnd = Some (9, operators.AndThen)
binary_sign sign.OrOr = Some (10, operators.OrElse)
binary_sign _ = None

abbrev pub of_rank : ℕ → Option (ℕ × Operator) → Option Operator
of_rank rank None = None
of_rank rank (Some found) = if found.0 == rank then Some found.1 else None

abbrev pub binary_of : ℕ → SToken → Option Operator
binary_of rank t = of_rank rank (by_sign binary_sign t.kind)

abbrev pub is_binary : ℕ → SToken → Bool
is_binary rank t = is_some (binary_of rank t)

-- how bytes of a frame are read as one number
abbrev pub frame_word : Word → Option FrameWord
frame_word word.U8 = Some frames.U8
frame_word word.Be16 = Some frames.Be16
frame_word word.Be32 = Some frames.Be32
frame_word word.Be48 = Some frames.Be48
frame_word word.Be64 = Some frames.Be64
frame_word _ = None

abbrev pub frame_word_of : SToken → Option FrameWord
frame_word_of t = by_word frame_word t.kind

-- the widths of numbers
abbrev pub width_word : Word → Option Width
width_word word.U8 = Some Bits8
width_word word.U16 = Some Bits16
width_word word.U32 = Some Bits32
width_word word.U64 = Some Bits64
width_word _ = None

abbrev pub width_of : SToken → Option Width
width_of t = by_word width_word t.kind

-- what a field holds
abbrev pub field_word : Word → Option FieldType
field_word word.U8 = Some (types.Number Bits8)
field_word word.U16 = Some (types.Number Bits16)
field_word word.U32 = Some (types.Number Bits32)
field_word word.U64 = Some (types.Number Bits64)
field_word word.B1 = Some (types.Bytes 1)
field_word word.B2 = Some (types.Bytes 2)
field_word word.B3 = Some (types.Bytes 3)
field_word word.B4 = Some (types.Bytes 4)
field_word word.B5 = Some (types.Bytes 5)
field_word word.B6 = Some (types.Bytes 6)
field_word word.B7 = Some (types.Bytes 7)
field_word word.B8 = Some (types.Bytes 8)
field_word _ = None

abbrev pub field_type_of : SToken → Option FieldType
field_type_of t = by_word field_word t.kind

-- what the constructs begin with
abbrev pub is_name : SToken → Bool
is_name t = is_some (name_of t)

abbrev pub is_number : SToken → Bool
is_number t = is_some (number_of t)

abbrev pub expression_word : Word → Bool
expression_word word.Frame = true
expression_word word.Cell = true
expression_word word.Has = true
expression_word word.Length = true
expression_word word.Port = true
expression_word word.Now = true
expression_word _ = false

abbrev pub word_passes : (Word → Bool) → TokenKind → Bool
word_passes test (kind.Word w) = test w
word_passes test _ = false

abbrev pub begins_expression : SToken → Bool
begins_expression t = is_name t || is_number t || is_sign sign.LeftParen t || is_sign sign.Not t || word_passes expression_word t.kind

abbrev pub statement_word : Word → Bool
statement_word word.Let = true
statement_word word.Drop = true
statement_word word.Flood = true
statement_word word.Send = true
statement_word word.If = true
statement_word word.Frame = true
statement_word word.Expire = true
statement_word word.Find = true
statement_word word.Add = true
statement_word word.Touch = true
statement_word word.Remove = true
statement_word word.Lookup = true
statement_word _ = false

abbrev pub begins_statement : SToken → Bool
begins_statement t = is_name t || word_passes statement_word t.kind

abbrev pub declaration_word : Word → Bool
declaration_word word.Ports = true
declaration_word word.Config = true
declaration_word word.Premise = true
declaration_word word.Struct = true
declaration_word word.Link = true
declaration_word word.Vector = true
declaration_word word.Prefix = true
declaration_word word.Rule = true
declaration_word word.Define = true
declaration_word _ = false

abbrev pub begins_declaration : SToken → Bool
begins_declaration t = word_passes declaration_word t.kind

abbrev pub any_token : SToken → Bool
any_token t = true
