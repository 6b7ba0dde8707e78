-- A grammar: what the counted constructs begin with, for the reader, and their forms; the form of a whole text; and the tree before the
-- first token.
use Rattle.std.specs.Prelude.{ℕ, Bool}
use Rattle.vg_forms.specs.declared.token.Token.{Token}
use Rattle.vg_forms.specs.Forms.{Form}

pub record Grammar (K N G : Type 0) : Type 1 where
  pub begins : N → Token K → Bool
  pub form : N → Form K N G ℕ
  pub unit : Form K N G ℕ
  pub empty : G
