-- The tables of C tokens: keywords (C11 6.4.1) with the names of the library's types, signs (6.4.6), and suffixes of numbers
-- (6.4.4.1). C's other keywords and signs are left out.
use Rattle.std.specs.Prelude.{ℕ, List, [], ◌∷◌, codes, length, nat_eq, Option, Some, None, if◌then◌else◌}
use Rattle.std.specs.Str.{bytes_eq}
use Rattle.std.specs.List.{starts_with}
use Rattle.vg_ctok.specs.declared.kinds.Keyword.{Keyword}
use Rattle.vg_ctok.specs.declared.kinds.Keyword.TheVariants as keyword
use Rattle.vg_ctok.specs.declared.kinds.Sign.{Sign}
use Rattle.vg_ctok.specs.declared.kinds.Sign.TheVariants as sign
use Rattle.vg_ctok.specs.declared.tables.Suffix.{Suffix}
use Rattle.vg_ctok.specs.declared.tables.Suffix.TheVariants as suffix

-- what a table says of a word: its row is the first with these very bytes
abbrev pub row_of : {K : Type 0} → List (List ℕ × K) → List ℕ → Option K
row_of [] word = None
row_of (row ∷ rows) word = if bytes_eq row.0 word then Some row.1 else row_of rows word

-- the first row of a table whose bytes a text begins with: how many they are, and what it says
abbrev pub row_at : {K : Type 0} → List (List ℕ × K) → List ℕ → Option (ℕ × K)
row_at [] text = None
row_at (row ∷ rows) text = if starts_with nat_eq text row.0 then Some (length row.0, row.1) else row_at rows text

-- the keywords
abbrev pub keywords : List (List ℕ × Keyword)
keywords =
    (codes "if", keyword.If) ∷
    (codes "else", keyword.Else) ∷
    (codes "for", keyword.For) ∷
    (codes "return", keyword.Return) ∷
    (codes "struct", keyword.Struct) ∷
    (codes "extern", keyword.Extern) ∷
    (codes "const", keyword.Const) ∷
    (codes "static", keyword.Static) ∷
    (codes "inline", keyword.Inline) ∷
    (codes "void", keyword.Void) ∷
    (codes "sizeof", keyword.Sizeof) ∷
    (codes "int", keyword.Int) ∷
    (codes "unsigned", keyword.Unsigned) ∷
    (codes "int8_t", keyword.Int8) ∷
    (codes "int16_t", keyword.Int16) ∷
    (codes "int32_t", keyword.Int32) ∷
    (codes "int64_t", keyword.Int64) ∷
    (codes "uint8_t", keyword.Uint8) ∷
    (codes "uint16_t", keyword.Uint16) ∷
    (codes "uint32_t", keyword.Uint32) ∷
    (codes "uint64_t", keyword.Uint64) ∷
    (codes "map_t", keyword.Map) ∷
    (codes "chain_t", keyword.Chain) ∷
    (codes "vector_t", keyword.Vector) ∷
    (codes "prefix_t", keyword.Prefix) ∷
    (codes "__attribute__", keyword.Attribute) ∷
    []

-- the signs, the longest first
abbrev pub signs : List (List ℕ × Sign)
signs =
    (codes "<<=", sign.ShiftLeftAssign) ∷
    (codes ">>=", sign.ShiftRightAssign) ∷
    (codes "->", sign.Arrow) ∷
    (codes "++", sign.PlusPlus) ∷
    (codes "--", sign.MinusMinus) ∷
    (codes "<<", sign.ShiftLeft) ∷
    (codes ">>", sign.ShiftRight) ∷
    (codes "<=", sign.LessEqual) ∷
    (codes ">=", sign.GreaterEqual) ∷
    (codes "==", sign.EqualEqual) ∷
    (codes "!=", sign.NotEqual) ∷
    (codes "&&", sign.AndAnd) ∷
    (codes "||", sign.OrOr) ∷
    (codes "+=", sign.PlusAssign) ∷
    (codes "-=", sign.MinusAssign) ∷
    (codes "*=", sign.StarAssign) ∷
    (codes "/=", sign.SlashAssign) ∷
    (codes "%=", sign.PercentAssign) ∷
    (codes "&=", sign.AndAssign) ∷
    (codes "|=", sign.OrAssign) ∷
    (codes "^=", sign.XorAssign) ∷
    (codes "+", sign.Plus) ∷
    (codes "-", sign.Minus) ∷
    (codes "*", sign.Star) ∷
    (codes "/", sign.Slash) ∷
    (codes "%", sign.Percent) ∷
    (codes "&", sign.And) ∷
    (codes "|", sign.Or) ∷
    (codes "^", sign.Xor) ∷
    (codes "~", sign.Tilde) ∷
    (codes "!", sign.Not) ∷
    (codes "<", sign.Less) ∷
    (codes ">", sign.Greater) ∷
    (codes "=", sign.Assign) ∷
    (codes "?", sign.Question) ∷
    (codes ":", sign.Colon) ∷
    (codes ";", sign.Semicolon) ∷
    (codes ",", sign.Comma) ∷
    (codes ".", sign.Dot) ∷
    (codes "(", sign.LeftParen) ∷
    (codes ")", sign.RightParen) ∷
    (codes "{", sign.LeftBrace) ∷
    (codes "}", sign.RightBrace) ∷
    (codes "[", sign.LeftBracket) ∷
    (codes "]", sign.RightBracket) ∷
    []

-- the suffixes: u, l and ll, in either order and either case
abbrev pub suffixes : List (List ℕ × Suffix)
suffixes =
    ([], suffix.Plain) ∷
    (codes "u", suffix.Unsigned) ∷
    (codes "U", suffix.Unsigned) ∷
    (codes "l", suffix.Long) ∷
    (codes "L", suffix.Long) ∷
    (codes "ll", suffix.Long) ∷
    (codes "LL", suffix.Long) ∷
    (codes "ul", suffix.UnsignedLong) ∷
    (codes "uL", suffix.UnsignedLong) ∷
    (codes "ull", suffix.UnsignedLong) ∷
    (codes "uLL", suffix.UnsignedLong) ∷
    (codes "Ul", suffix.UnsignedLong) ∷
    (codes "UL", suffix.UnsignedLong) ∷
    (codes "Ull", suffix.UnsignedLong) ∷
    (codes "ULL", suffix.UnsignedLong) ∷
    (codes "lu", suffix.UnsignedLong) ∷
    (codes "lU", suffix.UnsignedLong) ∷
    (codes "Lu", suffix.UnsignedLong) ∷
    (codes "LU", suffix.UnsignedLong) ∷
    (codes "llu", suffix.UnsignedLong) ∷
    (codes "llU", suffix.UnsignedLong) ∷
    (codes "LLu", suffix.UnsignedLong) ∷
    (codes "LLU", suffix.UnsignedLong) ∷
    []
