-- The tables of tokens: the words that the language keeps for itself, and its signs.
use Rattle.std.specs.Prelude.{ℕ, List, [], ◌∷◌, codes, length, nat_eq, Option, Some, None, if◌then◌else◌}
use Rattle.std.specs.Str.{bytes_eq}
use Rattle.std.specs.List.{starts_with}
use Rattle.vg_stok.specs.declared.kinds.Word.{Word}
use Rattle.vg_stok.specs.declared.kinds.Word.TheVariants as word
use Rattle.vg_stok.specs.declared.kinds.Sign.{Sign}
use Rattle.vg_stok.specs.declared.kinds.Sign.TheVariants as sign

-- what a table says of a word: its row is the first with these very bytes
abbrev pub row_of : {K : Type 0} → List (List ℕ × K) → List ℕ → Option K
row_of [] word = None
row_of (row ∷ rows) word = if bytes_eq row.0 word then Some row.1 else row_of rows word

-- the first row of a table whose bytes a text begins with: how many they are, and what it says
abbrev pub row_at : {K : Type 0} → List (List ℕ × K) → List ℕ → Option (ℕ × K)
row_at [] text = None
row_at (row ∷ rows) text = if starts_with nat_eq text row.0 then Some (length row.0, row.1) else row_at rows text

-- the words
abbrev pub words : List (List ℕ × Word)
words =
    (codes "ports", word.Ports) ∷
    (codes "config", word.Config) ∷
    (codes "premise", word.Premise) ∷
    (codes "struct", word.Struct) ∷
    (codes "link", word.Link) ∷
    (codes "vector", word.Vector) ∷
    (codes "prefix", word.Prefix) ∷
    (codes "rule", word.Rule) ∷
    (codes "define", word.Define) ∷
    (codes "step", word.Step) ∷
    (codes "let", word.Let) ∷
    (codes "drop", word.Drop) ∷
    (codes "flood", word.Flood) ∷
    (codes "send", word.Send) ∷
    (codes "if", word.If) ∷
    (codes "else", word.Else) ∷
    (codes "frame", word.Frame) ∷
    (codes "expire", word.Expire) ∷
    (codes "before", word.Before) ∷
    (codes "find", word.Find) ∷
    (codes "as", word.As) ∷
    (codes "add", word.Add) ∷
    (codes "touch", word.Touch) ∷
    (codes "remove", word.Remove) ∷
    (codes "lookup", word.Lookup) ∷
    (codes "cell", word.Cell) ∷
    (codes "length", word.Length) ∷
    (codes "port", word.Port) ∷
    (codes "now", word.Now) ∷
    (codes "has", word.Has) ∷
    (codes "u8", word.U8) ∷
    (codes "u16", word.U16) ∷
    (codes "u32", word.U32) ∷
    (codes "u64", word.U64) ∷
    (codes "be16", word.Be16) ∷
    (codes "be32", word.Be32) ∷
    (codes "be48", word.Be48) ∷
    (codes "be64", word.Be64) ∷
    (codes "b1", word.B1) ∷
    (codes "b2", word.B2) ∷
    (codes "b3", word.B3) ∷
    (codes "b4", word.B4) ∷
    (codes "b5", word.B5) ∷
    (codes "b6", word.B6) ∷
    (codes "b7", word.B7) ∷
    (codes "b8", word.B8) ∷
    []

-- the signs, the longest first
abbrev pub signs : List (List ℕ × Sign)
signs =
    (codes "..", sign.Range) ∷
    (codes "<<", sign.ShiftLeft) ∷
    (codes ">>", sign.ShiftRight) ∷
    (codes "<=", sign.LessEqual) ∷
    (codes ">=", sign.GreaterEqual) ∷
    (codes "==", sign.EqualEqual) ∷
    (codes "!=", sign.NotEqual) ∷
    (codes "&&", sign.AndAnd) ∷
    (codes "||", sign.OrOr) ∷
    (codes "+", sign.Plus) ∷
    (codes "-", sign.Minus) ∷
    (codes "*", sign.Star) ∷
    (codes "/", sign.Slash) ∷
    (codes "%", sign.Percent) ∷
    (codes "&", sign.And) ∷
    (codes "|", sign.Or) ∷
    (codes "^", sign.Xor) ∷
    (codes "!", sign.Not) ∷
    (codes "<", sign.Less) ∷
    (codes ">", sign.Greater) ∷
    (codes "=", sign.Assign) ∷
    (codes "?", sign.Question) ∷
    (codes ":", sign.Colon) ∷
    (codes ";", sign.Semicolon) ∷
    (codes ",", sign.Comma) ∷
    (codes ".", sign.Dot) ∷
    (codes "(", sign.LeftParen) ∷
    (codes ")", sign.RightParen) ∷
    (codes "{", sign.LeftBrace) ∷
    (codes "}", sign.RightBrace) ∷
    (codes "[", sign.LeftBracket) ∷
    (codes "]", sign.RightBracket) ∷
    []
