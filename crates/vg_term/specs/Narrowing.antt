-- Operations in a narrower width: bits that are cut from what an operation answers, and comparisons of extended words. No public clause rests on this file.
use Rattle.std.specs.Prelude.{◌≡◌, ℕ, ◌<◌, ◌≤◌, List, ◌⊎◌, false, slice_index_or}
use Rattle.vg_bits.specs.Words.{sext}
use Rattle.vg_bits.specs.declared.word.Word.{Word}
use Rattle.vg_term.specs.Terms.{Term, Stands, width_at}
use Rattle.vg_term.specs.Value.{value_of, Assigns}
use Rattle.vg_term.specs.Wiring.{IsBitOp}
use Rattle.vg_term.specs.declared.wire.Wire.{Wire}
use Rattle.vg_term.specs.declared.wire.Wire.TheVariants.{Fixed}
use Rattle.vg_term.specs.declared.node.TermId.{TermId}
use Rattle.vg_term.specs.declared.node.Op.{Op}
use Rattle.vg_term.specs.declared.node.Op.TheVariants.{Add, Sub, Mul, Eq, Ult, Slt}

-- an operation whose lowest bits come from the lowest bits of its parts
abbrev pub IsArithmetic : Op → Type 0
IsArithmetic Add = Unit {0}
IsArithmetic Sub = Unit {0}
IsArithmetic Mul = Unit {0}
IsArithmetic _ = ⊥

-- the bits of its answer from here on come from those of its two parts
abbrev pub CutsFrom : Op → ℕ → Type 0
CutsFrom op from = IsBitOp op ⊎ (IsArithmetic op × (from ≡ 0))

-- an operation that compares two words
abbrev pub IsComparison : Op → Type 0
IsComparison Eq = Unit {0}
IsComparison Ult = Unit {0}
IsComparison Slt = Unit {0}
IsComparison _ = ⊥

-- one that tells whether the first is less
abbrev pub IsLess : Op → Type 0
IsLess Ult = Unit {0}
IsLess Slt = Unit {0}
IsLess _ = ⊥

-- from one place on up to another the wires are fixed to 0
pub record AreOff (wires : List Wire) (from to : ℕ) : Type 0 where
  pub each : (i : ℕ) (d : Wire) → from ≤ i → i < to → slice_index_or wires i d ≡ Fixed false

-- a term is the extension of another one, with the sign
pub record IsExtended (terms : List Term) (id part : TermId) : Type 0 where
  pub stands : Stands terms part
  pub wider : width_at terms part ≤ width_at terms id
  pub value : (words : List Word) → Assigns words terms → value_of terms words id ≡ sext (width_at terms part) (width_at terms id) (value_of terms words part)

-- a term is the extension of a word, with the sign
pub record IsExtendedWord (terms : List Term) (id : TermId) (width : ℕ) (w : Word) : Type 0 where
  pub width_is : w.width ≡ width
  pub wider : width ≤ width_at terms id
  pub value : (words : List Word) → Assigns words terms → value_of terms words id ≡ sext width (width_at terms id) w.value

-- two terms of one width are the extensions of two others of one width
pub record AreNarrower (terms : List Term) (a b x y : TermId) : Type 0 where
  pub left : IsExtended terms a x
  pub right : IsExtended terms b y
  pub alike : width_at terms x ≡ width_at terms y
