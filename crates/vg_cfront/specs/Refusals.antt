-- Why a text has no typed unit.
use Rattle.std.specs.Prelude.{◌≡◌, ℕ, List, ◌⊎◌}
use Rattle.vg_core.specs.Syntax.{Syntax}
use Rattle.vg_ctok.specs.Texts.{AreTokens}
use Rattle.vg_ctok.specs.Texts as texts
use Rattle.vg_ctok.specs.declared.kinds.Token.{Token}
use Rattle.vg_ctok.specs.declared.kinds.TokFault.{TokFault}
use Rattle.vg_ctok.specs.declared.kinds.TokFault.TheVariants as tok
use Rattle.vg_cread.specs.Spelling.{Spells}
use Rattle.vg_cread.specs.Refusals as trees
use Rattle.vg_cread.specs.declared.reading.ReadFault.{ReadFault}
use Rattle.vg_cread.specs.declared.reading.ReadFault.TheVariants as read
use Rattle.vg_ctyper.specs.WellTyped.{IsFirstFault}
use Rattle.vg_ctyper.specs.declared.fault.TypeFault.{TypeFault}
use Rattle.vg_ctyper.specs.declared.fault.TypeFault.TheVariants as types
use Rattle.vg_cfront.specs.declared.fault.CFault.{CFault}
use Rattle.vg_cfront.specs.declared.fault.CFault.TheVariants.{Refused, Memory}
use Rattle.vg_cfront.specs.declared.fault.FaultKind.TheVariants as kinds

-- the faults of each stage, by kind and place
abbrev pub of_tokens : TokFault → CFault
of_tokens (tok.BadByte at) = Refused kinds.BadByte at
of_tokens (tok.BadNumber at) = Refused kinds.BadNumber at
of_tokens (tok.Directive at) = Refused kinds.Directive at
of_tokens tok.Memory = Memory

abbrev pub of_tree : ReadFault → CFault
of_tree (read.Syntax at) = Refused kinds.Syntax at
of_tree (read.Deep at) = Refused kinds.Deep at
of_tree read.Memory = Memory

abbrev pub of_types : TypeFault → CFault
of_types (types.Typing at rule) = Refused (kinds.Type rule) at
of_types (types.Padded tag offset) = Refused (kinds.Padded offset) tag
of_types (types.Recursive at) = Refused kinds.Recursive at
of_types (types.Turns at) = Refused kinds.Turns at
of_types types.Memory = Memory

-- a text's bytes are no tokens
abbrev pub RefusesBytes : List ℕ → CFault → Type 0
RefusesBytes text fault = (f : TokFault) × texts.Refuses text f × (fault ≡ of_tokens f)

-- they are tokens, which spell no tree
abbrev pub RefusesTokens : List ℕ → CFault → Type 0
RefusesTokens text fault = (tokens : List Token) × AreTokens text tokens × (f : ReadFault) × trees.Refuses tokens f × (fault ≡ of_tree f)

-- they spell a tree, which isn't well typed
abbrev pub RefusesTree : List ℕ → CFault → Type 0
RefusesTree text fault =
    (tokens : List Token) × AreTokens text tokens × (tree : Syntax) × Spells 64 tokens tree × (f : TypeFault) × IsFirstFault text tree f × (fault ≡ of_types f)

abbrev pub Refuses : List ℕ → CFault → Type 0
Refuses text fault = RefusesBytes text fault ⊎ (RefusesTokens text fault ⊎ RefusesTree text fault)
