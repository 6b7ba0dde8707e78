-- A C text is cut into pieces, and its tokens are those pieces that are tokens, each with its place; or it is cut up to a fault.
use Rattle.std.specs.Prelude.{◌≡◌, ℕ, ◌+◌, List, [], ◌∷◌, ◌++◌, drop, Bool, true, false, Ok, Err}
use Rattle.vg_ctok.specs.Directives.{slice}
use Rattle.vg_ctok.specs.Pieces.{Defines, Place, first_piece}
use Rattle.vg_ctok.specs.declared.kinds.Token.{Token}
use Rattle.vg_ctok.specs.declared.kinds.TokFault.{TokFault}
use Rattle.vg_ctok.specs.declared.pieces.What.{What}
use Rattle.vg_ctok.specs.declared.pieces.What.TheVariants as what
use Rattle.vg_ctok.specs.declared.pieces.Piece.{Piece}

-- the start of a text
abbrev pub start : Place
start = record { at = 0; fresh = true; defines = [] }

-- whether only blanks stand before a place on its line, behind a piece
abbrev pub fresh_after : Bool → What → Bool
fresh_after fresh what.LineFeed = true
fresh_after fresh what.Blank = fresh
fresh_after fresh _ = false

-- what is defined behind a piece that this text begins with
abbrev pub defines_after : Defines → List ℕ → What → Defines
defines_after defines text (what.Define define) = defines ++ (slice text define.name, define.number) ∷ []
defines_after defines text _ = defines

-- the token of a piece at a place
abbrev pub tokens_of : ℕ → Piece → List Token
tokens_of at p = kind_tokens at p.size p.what
  where
    kind_tokens : ℕ → ℕ → What → List Token
    kind_tokens at size (what.Token kind) = record { kind = kind; from = at; to = at + size } ∷ []
    kind_tokens at size _ = []

-- the place behind a piece that this text begins with
abbrev pub place_after : Place → List ℕ → Piece → Place
place_after here text p = record {
  at = here.at + p.size;
  fresh = fresh_after here.fresh p.what;
  defines = defines_after here.defines text p.what;
}

-- a text at a place is cut into pieces with these tokens, up to a place where the rest of the text stands
abbrev pub IsCut : Place → List ℕ → List Piece → List Token → Place → List ℕ → Type 0
IsCut here text [] tokens there rest = (here ≡ there) × (text ≡ rest) × (tokens ≡ [])
IsCut here text (p ∷ pieces) tokens there rest =
    (first_piece here text ≡ Ok p)
    × (others : List Token)
    × (tokens ≡ tokens_of here.at p ++ others)
    × IsCut (place_after here text p) (drop p.size text) pieces others there rest

-- the tokens of a text, which is cut to its end
abbrev pub AreTokens : List ℕ → List Token → Type 0
AreTokens text tokens = (pieces : List Piece) × (end : Place) × IsCut start text pieces tokens end []

-- a text is cut up to a place where a fault stands
abbrev pub Refuses : List ℕ → TokFault → Type 0
Refuses text fault =
    (pieces : List Piece) × (tokens : List Token) × (there : Place) × (b : ℕ) × (rest : List ℕ)
    × IsCut start text pieces tokens there (b ∷ rest) × (first_piece there (b ∷ rest) ≡ Err fault)
