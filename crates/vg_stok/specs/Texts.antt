-- The tokens of a specification text, each with its place.
use Rattle.std.specs.Prelude.{ℕ, zero, suc, ◌+◌, ◌-◌, List, [], ◌∷◌, ◌++◌}
use Rattle.vg_forms.specs.declared.token.Token.{Token}
use Rattle.vg_stok.specs.Pieces.{first_piece}
use Rattle.vg_stok.specs.declared.kinds.TokenKind.{TokenKind}
use Rattle.vg_stok.specs.declared.pieces.What.{What}
use Rattle.vg_stok.specs.declared.pieces.What.TheVariants as what

-- the token of a piece at a place, if it is one
abbrev pub token_of : ℕ → ℕ → What → List (Token TokenKind)
token_of at size what.Between = []
token_of at size (what.Token kind) = record { kind = kind; from = at; to = at + size } ∷ []

-- the tokens of a text from a place on, of whose next bytes so many are of a piece that is told already
unfoldable pub tokens_from : ℕ → ℕ → List ℕ → List (Token TokenKind)
tokens_from at left [] = []
tokens_from at zero (b ∷ bytes) =
    let p = first_piece (b ∷ bytes) in
    token_of at p.size p.what ++ tokens_from (at + 1) (p.size - 1) bytes
tokens_from at (suc left) (b ∷ bytes) = tokens_from (at + 1) left bytes

-- the tokens of a whole text, piece by piece: each piece is the longest that begins at its place
abbrev pub tokens_of : List ℕ → List (Token TokenKind)
tokens_of text = tokens_from 0 0 text
