-- What a specification text begins with: a token, or what stands between tokens, which is a blank or a comment. What begins nothing is a
-- token too, of a kind that the grammar has nowhere.
use Rattle.std.specs.Prelude.{ℕ, List, [], ◌∷◌, length, nat_lt, if◌then◌else◌, Option, Some, None}
use Rattle.std.specs.List.{take_while}
use Rattle.vg_stok.specs.Bytes.{is_digit, is_name_byte, is_blank}
use Rattle.vg_stok.specs.Tables.{words, signs, row_of, row_at}
use Rattle.vg_stok.specs.Numbers.{number_of}
use Rattle.vg_stok.specs.Comments.{comment_size, opens_comment}
use Rattle.vg_stok.specs.declared.kinds.Word.{Word}
use Rattle.vg_stok.specs.declared.kinds.Sign.{Sign}
use Rattle.vg_stok.specs.declared.kinds.TokenKind.{TokenKind}
use Rattle.vg_stok.specs.declared.kinds.TokenKind.TheVariants as kind
use Rattle.vg_stok.specs.declared.pieces.What.{What}
use Rattle.vg_stok.specs.declared.pieces.What.TheVariants as what
use Rattle.vg_stok.specs.declared.pieces.Piece.{Piece}

-- a piece of so many bytes
abbrev pub piece : ℕ → What → Piece
piece size what = record { size = size; what = what }

-- a comment, or the opening of one without end, to the text's end
abbrev pub comment_piece : List ℕ → Option ℕ → Piece
comment_piece text None = piece (length text) (what.Token kind.Other)
comment_piece text (Some size) = piece size what.Between

-- a word that begins with a digit is a number
abbrev pub number_kind : Option ℕ → TokenKind
number_kind None = kind.Other
number_kind (Some value) = kind.Number value

-- any other word is one of the language's or a name
abbrev pub word_kind : Option Word → TokenKind
word_kind None = kind.Name
word_kind (Some word) = kind.Word word

abbrev pub name_kind : List ℕ → TokenKind
name_kind word = if nat_lt 64 (length word) then kind.Other else word_kind (row_of words word)

-- a sign of the table, or a byte that begins nothing
abbrev pub sign_piece : Option (ℕ × Sign) → Piece
sign_piece None = piece 1 (what.Token kind.Other)
sign_piece (Some row) = piece row.0 (what.Token (kind.Sign row.1))

-- a token: a number, a name or a sign, by its first byte
unfoldable pub token_piece : ℕ → List ℕ → Piece
token_piece b text =
    let word = take_while is_name_byte text in
    if is_digit b then piece (length word) (what.Token (number_kind (number_of word)))
    else if is_name_byte b then piece (length word) (what.Token (name_kind word))
    else sign_piece (row_at signs text)

-- what a text begins with
unfoldable pub first_piece : List ℕ → Piece
first_piece [] = piece 1 what.Between
first_piece (b ∷ bytes) =
    if is_blank b then piece 1 what.Between
    else if opens_comment (b ∷ bytes) then comment_piece (b ∷ bytes) (comment_size (b ∷ bytes))
    else token_piece b (b ∷ bytes)
