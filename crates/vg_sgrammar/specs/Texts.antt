-- What a text is as a specification.
use Rattle.std.specs.Prelude.{ℕ, List, length}
use Rattle.vg_forms.specs.Spelling.{spelled, start}
use Rattle.vg_forms.specs.Refusals as refusals
use Rattle.vg_forms.specs.declared.stops.ReadFault.{ReadFault}
use Rattle.vg_stok.specs.Texts.{tokens_of}
use Rattle.vg_sgrammar.specs.Written.{Written}
use Rattle.vg_sgrammar.specs.Kinds.{SToken}
use Rattle.vg_sgrammar.specs.Rules.{sgrammar, specification}

-- how many statements, blocks and expressions may stand in one another
abbrev pub most_nested : ℕ
most_nested = 64

-- tokens, to the last, spell this tree, with this block of its step, and with at most so many constructs in one another
abbrev pub SaysTokens : List SToken → Written → ℕ → Type 0
SaysTokens toks tree step = spelled sgrammar toks most_nested specification (start sgrammar) step (record { at = length toks; tree = tree })

-- a text says what its tokens spell
abbrev pub Says : List ℕ → Written → ℕ → Type 0
Says text tree step = SaysTokens (tokens_of text) tree step

-- the faults that tokens have: at its first token with which no text of the grammar goes on, while those before it begin one, or at the
-- end of the last one; and at the first token before that which opens one nesting too many
abbrev pub RefusesTokens : List SToken → ReadFault → Type 0
RefusesTokens toks fault = refusals.Refuses sgrammar most_nested toks fault

-- and those of a text
abbrev pub Refuses : List ℕ → ReadFault → Type 0
Refuses text fault = RefusesTokens (tokens_of text) fault
