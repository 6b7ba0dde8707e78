-- Operations on words: which widths of the parts fit, the width of the answer, and its value.
-- The formulas on values are those of vg_bits, which are SMT-LIB's theory FixedSizeBitVectors.
use Rattle.std.specs.Prelude.{◌≡◌, ℕ, ◌+◌, ◌<◌, ◌≤◌, List, [], ◌∷◌, map, nat_eq, bit_and, bit_or, bit_xor, if◌then◌else◌}
use Rattle.vg_bits.specs.Words as words
use Rattle.vg_bits.specs.declared.word.Word.{Word}
use Rattle.vg_term.specs.declared.node.Op.{Op}
use Rattle.vg_term.specs.declared.node.Op.TheVariants.{Const, Not, Extract, Zext, Sext, Add, Sub, Mul, Udiv, Urem, And, Or, Xor, Shl, Lshr, Ashr, Eq}
use Rattle.vg_term.specs.declared.node.Op.TheVariants.{Ult, Slt, Concat, Ite}

-- what is seen of a word: its width, and the number that its bits spell
pub record Bits : Type 0 where
  pub width : ℕ
  pub value : ℕ

abbrev pub bits_of : Word → Bits
bits_of w = record { width = w.width; value = w.value }

abbrev pub widths : List Bits → List ℕ
widths parts = map (λ (b : Bits). b.width) parts

-- ---- which widths fit

-- an operation of no parts
abbrev pub FitsNone : Op → Type 0
FitsNone (Const w) = Unit {0}
FitsNone _ = ⊥

-- an operation of one part, of width a
abbrev pub FitsOne : Op → ℕ → Type 0
FitsOne Not a = Unit {0}
FitsOne (Extract from width) a = (0 < width) × (from + width ≤ a)
FitsOne (Zext width) a = (a ≤ width) × (width ≤ 64)
FitsOne (Sext width) a = (a ≤ width) × (width ≤ 64)
FitsOne _ a = ⊥

-- an operation of two parts, of widths a and b
abbrev pub FitsTwo : Op → ℕ → ℕ → Type 0
FitsTwo (Const w) a b = ⊥
FitsTwo Not a b = ⊥
FitsTwo (Extract from width) a b = ⊥
FitsTwo (Zext width) a b = ⊥
FitsTwo (Sext width) a b = ⊥
FitsTwo Ite a b = ⊥
FitsTwo Concat a b = a + b ≤ 64
FitsTwo _ a b = a ≡ b

-- an operation of three parts: a condition, and two parts of one width
abbrev pub FitsThree : Op → ℕ → ℕ → ℕ → Type 0
FitsThree Ite c a b = (c ≡ 1) × (a ≡ b)
FitsThree _ c a b = ⊥

-- the operation takes parts of these widths
abbrev pub Fits : Op → List ℕ → Type 0
Fits op [] = FitsNone op
Fits op (a ∷ []) = FitsOne op a
Fits op (a ∷ b ∷ []) = FitsTwo op a b
Fits op (c ∷ a ∷ b ∷ []) = FitsThree op c a b
Fits op _ = ⊥

-- ---- what it answers; where the parts don't fit the answer means nothing

-- the width of the answer on no parts
abbrev pub width_none : Op → ℕ
width_none (Const w) = w.width
width_none _ = 0

-- on one part of width a
abbrev pub width_one : Op → ℕ → ℕ
width_one (Extract from width) a = width
width_one (Zext width) a = width
width_one (Sext width) a = width
width_one _ a = a

-- on two parts of widths a and b
abbrev pub width_two : Op → ℕ → ℕ → ℕ
width_two Eq a b = 1
width_two Ult a b = 1
width_two Slt a b = 1
width_two Concat a b = a + b
width_two _ a b = a

-- the width of the answer on parts of these widths
abbrev pub width_of : Op → List ℕ → ℕ
width_of op [] = width_none op
width_of op (a ∷ []) = width_one op a
width_of op (a ∷ b ∷ []) = width_two op a b
width_of op (c ∷ a ∷ b ∷ []) = a
width_of op _ = 0

-- the value of the answer on no parts
abbrev pub value_none : Op → ℕ
value_none (Const w) = w.value
value_none _ = 0

-- on one part
abbrev pub value_one : Op → Bits → ℕ
value_one Not a = words.not a.width a.value
value_one (Extract from width) a = words.extract from width a.value
value_one (Zext width) a = a.value
value_one (Sext width) a = words.sext a.width width a.value
value_one _ a = 0

-- on two parts
abbrev pub value_two : Op → Bits → Bits → ℕ
value_two Add a b = words.add a.width a.value b.value
value_two Sub a b = words.sub a.width a.value b.value
value_two Mul a b = words.mul a.width a.value b.value
value_two Udiv a b = words.udiv a.width a.value b.value
value_two Urem a b = words.urem a.value b.value
value_two And a b = bit_and a.value b.value
value_two Or a b = bit_or a.value b.value
value_two Xor a b = bit_xor a.value b.value
value_two Shl a b = words.shl a.width a.value b.value
value_two Lshr a b = words.lshr a.value b.value
value_two Ashr a b = words.ashr a.width a.value b.value
value_two Eq a b = words.eq a.value b.value
value_two Ult a b = words.ult a.value b.value
value_two Slt a b = words.slt a.width a.value b.value
value_two Concat a b = words.concat b.width a.value b.value
value_two _ a b = 0

-- on three parts
abbrev pub value_three : Op → Bits → Bits → Bits → ℕ
value_three Ite c a b = if nat_eq c.value 1 then a.value else b.value
value_three _ c a b = 0

-- the value of the answer on these parts
abbrev pub answer : Op → List Bits → ℕ
answer op [] = value_none op
answer op (a ∷ []) = value_one op a
answer op (a ∷ b ∷ []) = value_two op a b
answer op (c ∷ a ∷ b ∷ []) = value_three op c a b
answer op _ = 0
