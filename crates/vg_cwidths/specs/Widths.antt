-- Each integer that a run comes to is a word of its type, and each byte is below 256.
use Rattle.std.specs.Prelude.{ℕ, ◌<◌, ◌^◌, List, [], ◌∷◌, Option, Some, None}
use Rattle.vg_core.specs.Units.{Typed}
use Rattle.vg_cint.specs.Types.{width}
use Rattle.vg_cint.specs.declared.value.Value.{Value}
use Rattle.vg_cmemory.specs.State.{Life, Slot, State}
use Rattle.vg_cmean.specs.declared.datum.Datum.{Datum}
use Rattle.vg_cmean.specs.declared.datum.Datum.TheVariants as data_of
use Rattle.vg_cmean.specs.Outcomes.{Outcome, Next, Gives, Wrong, Untold}
use Rattle.vg_cmean.specs.Meaning.{meaning}
use Rattle.vg_cmean.specs.Runs.{run}

abbrev pub Each : {A : Type 0} → (A → Type 0) → List A → Type 0
Each P [] = Unit {0}
Each P (x ∷ xs) = P x × Each P xs

abbrev pub IsByte : ℕ → Type 0
IsByte x = x < 256

-- a byte of an object, where it is set
abbrev pub IsByteIfSet : Option ℕ → Type 0
IsByteIfSet None = Unit {0}
IsByteIfSet (Some x) = IsByte x

abbrev pub IsOfBytes : Option Life → Type 0
IsOfBytes None = Unit {0}
IsOfBytes (Some life) = Each IsByteIfSet life.bytes

-- a state in which all bytes are
pub record HasBytes (s : State) : Type 0 where
  pub objects : Each (λ (slot : Slot). IsOfBytes slot.life) s.own.slots
  pub frame : Each IsByte s.frame

abbrev pub IsWord : Value → Type 0
IsWord v = v.word < 2 ^ width v.of

abbrev pub IsWordIfInteger : Datum → Type 0
IsWordIfInteger (data_of.Word v) = IsWord v
IsWordIfInteger d = Unit {0}

-- an outcome whose value is a word of its type, and whose state has bytes
abbrev pub Fits : Outcome → Type 0
Fits (Next s) = HasBytes s
Fits (Gives d s) = IsWordIfInteger d × HasBytes s
Fits (Wrong at reason s) = HasBytes s
Fits (Untold s) = HasBytes s

pub record NodeFits (u : Typed) (n : ℕ) : Type 0 where
  pub gives : (s : State) → HasBytes s → Fits ((meaning u n).gives s)
  pub does : (s : State) → HasBytes s → Fits ((meaning u n).does s)

abbrev pub NodesFit : Type 0
NodesFit = (u : Typed) (n : ℕ) → NodeFits u n

abbrev pub RunsFit : Type 0
RunsFit = (u : Typed) (port now : ℕ) (frame : List ℕ) → Each IsByte frame → Fits (run u port now frame)
