-- What a C text begins with at a place: a token, or what stands between tokens, which is a blank, a comment or a directive
-- (C11 6.4, paragraphs 3 and 4); or a fault.
use Rattle.std.specs.Prelude.{ℕ, ◌+◌, ◌-◌, List, [], ◌∷◌, length, slice_get, Bool, ◌&&◌, ◌||◌, is_some, nat_lt, ◌==◌, if◌then◌else◌, Option, Some}
use Rattle.std.specs.Prelude.{None, Result, Ok, Err}
use Rattle.std.specs.List.{take_while}
use Rattle.vg_ctok.specs.Bytes.{is_digit, is_name_byte, is_space, is_in_line}
use Rattle.vg_ctok.specs.Tables.{keywords, signs, row_of, row_at}
use Rattle.vg_ctok.specs.Numbers.{number_before}
use Rattle.vg_ctok.specs.Comments.{comment_size, opens_comment, blanked}
use Rattle.vg_ctok.specs.Directives.{slice, is_include, define_of}
use Rattle.vg_ctok.specs.declared.kinds.Keyword.{Keyword}
use Rattle.vg_ctok.specs.declared.kinds.Sign.{Sign}
use Rattle.vg_ctok.specs.declared.kinds.Number.{Number}
use Rattle.vg_ctok.specs.declared.kinds.TokenKind.{TokenKind}
use Rattle.vg_ctok.specs.declared.kinds.TokenKind.TheVariants as kind
use Rattle.vg_ctok.specs.declared.kinds.TokFault.{TokFault}
use Rattle.vg_ctok.specs.declared.kinds.TokFault.TheVariants.{BadByte, BadNumber, Directive}
use Rattle.vg_ctok.specs.declared.pieces.Define.{Define}
use Rattle.vg_ctok.specs.declared.pieces.What.{What}
use Rattle.vg_ctok.specs.declared.pieces.What.TheVariants as what
use Rattle.vg_ctok.specs.declared.pieces.Piece.{Piece}

-- the names that were defined, with their numbers
abbrev pub Defines : Type 0
Defines = List (List ℕ × Number)

-- a place in a text: how many bytes stand before it, whether those of its line are all blank, and what they define
pub record Place : Type 0 where
  pub at : ℕ
  pub fresh : Bool
  pub defines : Defines

-- a piece of so many bytes
abbrev pub piece : ℕ → What → Result Piece TokFault
piece size what = Ok (record { size = size; what = what })

-- a comment, or the opening of one without end
abbrev pub comment_piece : Place → Option ℕ → Result Piece TokFault
comment_piece here None = Err (BadByte here.at)
comment_piece here (Some size) = piece size what.Comment

-- a word that begins with a digit is a number
abbrev pub number_piece : Place → ℕ → Option Number → Result Piece TokFault
number_piece here size None = Err (BadNumber here.at)
number_piece here size (Some number) = piece size (what.Token (kind.Number number))

-- any other word is a keyword, a defined name or a name
abbrev pub defined_kind : Option Number → TokenKind
defined_kind None = kind.Name
defined_kind (Some number) = kind.Number number

abbrev pub name_kind : Option Keyword → Option Number → TokenKind
name_kind (Some keyword) defined = kind.Keyword keyword
name_kind None defined = defined_kind defined

abbrev pub name_piece : Place → List ℕ → Result Piece TokFault
name_piece here word =
    if nat_lt 64 (length word) then Err (BadByte here.at)
    else piece (length word) (what.Token (name_kind (row_of keywords word) (row_of here.defines word)))

-- a sign of the table, or a byte that begins nothing
abbrev pub sign_piece : Place → Option (ℕ × Sign) → Result Piece TokFault
sign_piece here None = Err (BadByte here.at)
sign_piece here (Some row) = piece row.0 (what.Token (kind.Sign row.1))

-- whether a name is a keyword or defined already
abbrev pub is_taken : Place → List ℕ → Bool
is_taken here name = is_some (row_of keywords name) || is_some (row_of here.defines name)

-- a line that defines, or is no directive of ours
abbrev pub define_piece : Place → List ℕ → Option Define → Result Piece TokFault
define_piece here line None = Err (Directive here.at)
define_piece here line (Some define) =
    if is_taken here (slice line define.name) then Err (Directive here.at)
    else if nat_lt 64 (define.name.to - define.name.from) then Err (BadByte (here.at + define.name.from))
    else piece (length line) (what.Define define)

-- a directive, by its line
abbrev pub directive_piece : Place → List ℕ → Result Piece TokFault
directive_piece here line =
    if is_include (blanked 0 line) then piece (length line) what.Include
    else define_piece here line (define_of (blanked 0 line))

-- a token: a number, a name or a sign, by its first byte
unfoldable pub token_piece : Place → ℕ → List ℕ → Result Piece TokFault
token_piece here b text =
    let word = take_while is_name_byte text in
    if is_digit b then number_piece here (length word) (number_before word (slice_get text (length word)))
    else if is_name_byte b then name_piece here word
    else sign_piece here (row_at signs text)

-- what a text begins with
unfoldable pub first_piece : Place → List ℕ → Result Piece TokFault
first_piece here [] = Err (BadByte here.at)
first_piece here (b ∷ bytes) =
    let text = b ∷ bytes in
    if b == 10 then piece 1 what.LineFeed
    else if is_space b then piece 1 what.Blank
    else if opens_comment text then comment_piece here (comment_size text)
    else if b == 35 && here.fresh then directive_piece here (take_while is_in_line text)
    else token_piece here b text
