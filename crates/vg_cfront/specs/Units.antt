-- The typed unit of a text.
use Rattle.std.specs.Prelude.{◌≡◌, ℕ, List}
use Rattle.vg_core.specs.Units.{Typed}
use Rattle.vg_ctok.specs.Texts.{AreTokens}
use Rattle.vg_ctok.specs.declared.kinds.Token.{Token}
use Rattle.vg_cread.specs.Spelling.{Spells}
use Rattle.vg_ctyper.specs.WellTyped.{IsWellTyped}

-- the text's tokens spell the unit's tree, with at most 64 constructs in one another, and the unit is well typed
pub record IsUnitOf (text : List ℕ) (u : Typed) : Type 0 where
  pub of : u.text ≡ text
  pub tokens : List Token
  pub are_tokens : AreTokens text tokens
  pub spells : Spells 64 tokens u.tree
  pub typed : IsWellTyped u
