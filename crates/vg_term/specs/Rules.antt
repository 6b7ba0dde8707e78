-- Laws of the operations on two parts of one width, as tables: what an operation is on equal parts, on opposite ones, or beside a constant.
-- `specs/Folding` says what rests on them.
use Rattle.std.specs.Prelude.{◌≡◌, ◌≢◌, ℕ, ◌+◌, List, Option, Some, None}
use Rattle.vg_bits.specs.Words.{all_ones}
use Rattle.vg_term.specs.Operations.{Bits}
use Rattle.vg_term.specs.Terms.{Term, width_at}
use Rattle.vg_term.specs.Value.{value_of, Assigns}
use Rattle.vg_bits.specs.declared.word.Word.{Word}
use Rattle.vg_term.specs.declared.rules.Simple.{Simple}
use Rattle.vg_term.specs.declared.rules.Simple.TheVariants.{Part, Zero, One, Ones}
use Rattle.vg_term.specs.declared.known.Known.{Known}
use Rattle.vg_term.specs.declared.known.Known.TheVariants.{Standing, Constant}
use Rattle.vg_term.specs.declared.node.TermId.{TermId}
use Rattle.vg_term.specs.declared.node.Op.{Op}
use Rattle.vg_term.specs.declared.node.Op.TheVariants.{Add, Sub, Mul, Udiv, Urem, And, Or, Xor, Shl, Lshr, Ashr, Eq, Ult, Slt}

-- the width of the answer on two parts of width w
abbrev pub width_alike : Op → ℕ → ℕ
width_alike Eq w = 1
width_alike Ult w = 1
width_alike Slt w = 1
width_alike _ w = w

-- the value of a simple answer of width w that isn't a part
abbrev pub simple_value : Simple → ℕ → ℕ
simple_value Part w = 0
simple_value Zero w = 0
simple_value One w = 1
simple_value Ones w = all_ones w

-- what a simple answer is, for an operation on parts as wide as this one
abbrev pub simple_bits : Simple → Op → Bits → Bits
simple_bits Part op part = part
simple_bits simple op part = record { width = width_alike op part.width; value = simple_value simple (width_alike op part.width) }

-- a simple answer beside a part, as a term that stands or a word
abbrev pub Places : List Term → Op → Simple → TermId → Known → Type 0
Places terms op simple part (Standing id) = (simple ≡ Part) × (id ≡ part)
Places terms op simple part (Constant w) = (simple ≢ Part) × (w.width ≡ width_alike op (width_at terms part))
    × (w.value ≡ simple_value simple (width_alike op (width_at terms part)))

-- x op x
abbrev pub on_equal : Op → Option Simple
on_equal Sub = Some Zero
on_equal Xor = Some Zero
on_equal Urem = Some Zero
on_equal And = Some Part
on_equal Or = Some Part
on_equal Eq = Some One
on_equal Ult = Some Zero
on_equal Slt = Some Zero
on_equal _ = None

-- x op not x, and not x op x
abbrev pub on_opposite : Op → Option Simple
on_opposite And = Some Zero
on_opposite Or = Some Ones
on_opposite Xor = Some Ones
on_opposite Add = Some Ones
on_opposite Eq = Some Zero
on_opposite _ = None

-- x op 0
abbrev pub before_zero : Op → Option Simple
before_zero Add = Some Part
before_zero Sub = Some Part
before_zero Or = Some Part
before_zero Xor = Some Part
before_zero Shl = Some Part
before_zero Lshr = Some Part
before_zero Ashr = Some Part
before_zero Urem = Some Part
before_zero Mul = Some Zero
before_zero And = Some Zero
before_zero Ult = Some Zero
before_zero Udiv = Some Ones
before_zero _ = None

-- x op 1
abbrev pub before_one : Op → Option Simple
before_one Mul = Some Part
before_one Udiv = Some Part
before_one Urem = Some Zero
before_one _ = None

-- x op the word of ones
abbrev pub before_ones : Op → Option Simple
before_ones And = Some Part
before_ones Or = Some Ones
before_ones _ = None

-- 0 op x
abbrev pub after_zero : Op → Option Simple
after_zero Add = Some Part
after_zero Or = Some Part
after_zero Xor = Some Part
after_zero Mul = Some Zero
after_zero And = Some Zero
after_zero Urem = Some Zero
after_zero Shl = Some Zero
after_zero Lshr = Some Zero
after_zero Ashr = Some Zero
after_zero _ = None

-- 1 op x
abbrev pub after_one : Op → Option Simple
after_one Mul = Some Part
after_one _ = None

-- the word of ones op x
abbrev pub after_ones : Op → Option Simple
after_ones And = Some Part
after_ones Or = Some Ones
after_ones Ult = Some Zero
after_ones _ = None

-- each bit of the one is the other's turned, under every assignment
pub record AreOpposite (terms : List Term) (a b : TermId) : Type 0 where
  pub alike : width_at terms a ≡ width_at terms b
  pub sum : (words : List Word) → Assigns words terms → value_of terms words a + value_of terms words b ≡ all_ones (width_at terms a)
