-- How the code's values are seen in contracts of private functions.
use Rattle.std.specs.Prelude.{◌≡◌, ◌<◌, ◌≤◌, ℕ, List, length, map, None, Result, Err}
use Rattle.vg_ctok.specs.Tables.{row_of}
use Rattle.vg_ctok.specs.Directives.{slice}
use Rattle.std.specs.Borrow.{Bor}
use Rattle.vg_ctok.specs.Pieces.{Defines, Place}
use Rattle.vg_ctok.specs.declared.kinds.Number.{Number}
use Rattle.vg_ctok.specs.declared.kinds.TokFault.{TokFault}
use Rattle.vg_ctok.specs.declared.kinds.TokFault.TheVariants.{Memory}
use Rattle.vg_ctok.specs.declared.pieces.Here.{Here}
use Rattle.vg_ctok.specs.declared.pieces.What.{What}
use Rattle.vg_ctok.specs.declared.pieces.What.TheVariants as what
use Rattle.vg_ctok.specs.declared.pieces.Piece.{Piece}

-- the names that the code has as defined
abbrev pub shown : List (Bor (List ℕ) × Number) → Defines
shown defines = map (λ d. (d.0.now, d.1)) defines

-- a place of the code
abbrev pub place : Here → Place
place here = record { at = here.at; fresh = here.fresh; defines = shown here.defines.now.entries }

-- what a piece defines stands in its text
abbrev pub IsNamedIn : What → List ℕ → Type 0
IsNamedIn (what.Define define) text = (define.name.from ≤ define.name.to) × (define.name.to ≤ length text)
IsNamedIn _ text = Unit {0}

-- what a piece of a text defines is not defined yet
abbrev pub IsNew : Defines → List ℕ → What → Type 0
IsNew defines text (what.Define define) = row_of defines (slice text define.name) ≡ None
IsNew defines text _ = Unit {0}

abbrev pub IsNamed : Piece → List ℕ → Type 0
IsNamed p text = IsNamedIn p.what text

-- a call answers what a definition says, unless memory ran out
abbrev pub Gives : {A : Type 0} → Result A TokFault → Result A TokFault → Type 0
Gives (Err Memory) said = Unit {0}
Gives result said = said ≡ result

-- a piece has some bytes, its text has them all, and what it defines stands in it
pub record Fits (p : Piece) (text : List ℕ) : Type 0 where
  pub some : 0 < p.size
  pub within : p.size ≤ length text
  pub named : IsNamed p text
