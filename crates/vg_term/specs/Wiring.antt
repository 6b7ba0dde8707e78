-- Wiring: a word each of whose bits is fixed, or is a bit of some term. Where C cuts, shifts, masks and joins words without arithmetic, the result is wiring.
use Rattle.std.specs.Prelude.{◌≡◌, ℕ, suc, ◌+◌, ◌-◌, ◌%◌, ◌^◌, ◌<◌, ◌≤◌, min, max, List, map, slice_index_or, Bool, Result, IfOk, All}
use Rattle.std.specs.Int.{bit_at}
use Rattle.vg_bits.specs.Words.{bit}
use Rattle.vg_bits.specs.declared.word.Word.{Word}
use Rattle.vg_term.specs.Terms.{Term, AreTerms, Stands, width_at}
use Rattle.vg_term.specs.Operations.{Fits, answer, width_of}
use Rattle.vg_term.specs.Value.{value_of, bits_at, Assigns}
use Rattle.vg_term.specs.Folding.{Grows}
use Rattle.vg_term.specs.declared.wire.Wire.{Wire}
use Rattle.vg_term.specs.declared.wire.Wire.TheVariants.{Fixed, Bit}
use Rattle.vg_term.specs.declared.node.TermId.{TermId}
use Rattle.vg_term.specs.declared.node.Op.{Op}
use Rattle.vg_term.specs.declared.node.Op.TheVariants.{And, Or, Xor}
use Rattle.vg_term.specs.declared.stops.TermStop.{TermStop}

-- the bit that a wire carries
abbrev pub wire_value : List Term → List Word → Wire → ℕ
wire_value terms words (Fixed holds) = bit holds
wire_value terms words (Bit term at) = bit_at (value_of terms words term) at

-- the wire is fixed, or its term stands and has the bit
abbrev pub WireStands : List Term → Wire → Type 0
WireStands terms (Fixed holds) = Unit {0}
WireStands terms (Bit term at) = Stands terms term × (at < width_at terms term)

-- the wire carries this bit under every assignment
pub record IsWire (terms : List Term) (wire : Wire) (carried : List Word → ℕ) : Type 0 where
  pub stands : WireStands terms wire
  pub value : (words : List Word) → Assigns words terms → wire_value terms words wire ≡ carried words

-- all of them stand
pub record AllStand (terms : List Term) (wires : List Wire) (width : ℕ) : Type 0 where
  pub each : (i : ℕ) (d : Wire) → i < width → WireStands terms (slice_index_or wires i d)

-- a wire that may stand k places above the first of a run: fixed as it is, or the bit k places above
abbrev pub Follows : Wire → Wire → ℕ → Type 0
Follows (Fixed holds) wire k = (other : Bool) × (wire ≡ Fixed other)
Follows (Bit term at) wire k = wire ≡ Bit term (at + k)

-- the wires at these places are a run
pub record IsRun (wires : List Wire) (from to : ℕ) : Type 0 where
  pub some : from < to
  pub each : (k : ℕ) (d : Wire) → from + k < to → Follows (slice_index_or wires from d) (slice_index_or wires (from + k) d) k

-- the term has the bits that these wires carry
pub record IsWired (terms : List Term) (id : TermId) (wires : List Wire) (from long : ℕ) : Type 0 where
  pub stands : Stands terms id
  pub width : width_at terms id ≡ long
  pub bits : (words : List Word) → Assigns words terms → (i : ℕ) (d : Wire) → i < long → bit_at (value_of terms words id) i ≡ wire_value terms words
      (slice_index_or wires (from + i) d)

-- terms were added
pub record Grown (old new : List Term) : Type 0 where
  pub made : AreTerms new
  pub grows : Grows old new

-- a term of these wires was built
pub record BuildsWires (old new : List Term) (wires : List Wire) (from width : ℕ) (result : Result TermId TermStop) : Type 0 where
  pub grown : Grown old new
  pub wired : IfOk result (λ id. IsWired new id wires from width)

-- two wires that carry the same
pub record SameWire (terms : List Term) (wire other : Wire) : Type 0 where
  pub stands : WireStands terms other
  pub value : (words : List Word) → Assigns words terms → wire_value terms words other ≡ wire_value terms words wire

-- no wire's term has a higher number than this
abbrev pub wire_depth : Wire → ℕ
wire_depth (Fixed holds) = 0
wire_depth (Bit term at) = suc term.0

-- the wire carries a bit of what the operation answers on these parts
abbrev pub Carries : List Term → Op → List TermId → ℕ → Wire → Type 0
Carries terms op parts at wire = IsWire terms wire (λ words. bit_at (answer op (map (bits_at terms words) parts)) at)

-- and its term is one of the parts
pub record IsCut (terms : List Term) (op : Op) (parts : List TermId) (at : ℕ) (wire : Wire) : Type 0 where
  pub carries : Carries terms op parts at wire
  pub below : (n : ℕ) → All (λ (part : TermId). part.0 < n) parts → wire_depth wire ≤ n

-- the two wires as one, by an operation on bits
abbrev pub bit_op : Op → ℕ → ℕ → ℕ
bit_op And x y = min x y
bit_op Or x y = max x y
bit_op Xor x y = (x + y) % 2
bit_op _ x y = 0

-- an operation on bits
abbrev pub IsBitOp : Op → Type 0
IsBitOp And = Unit {0}
IsBitOp Or = Unit {0}
IsBitOp Xor = Unit {0}
IsBitOp _ = ⊥

-- one of two wires, or a fixed one, carries what the operation makes of their bits
pub record IsBitwise (by : Op) (x y wire : Wire) : Type 0 where
  pub op : IsBitOp by
  pub stands : (terms : List Term) → WireStands terms x → WireStands terms y → WireStands terms wire
  pub value : (terms : List Term) (words : List Word) → wire_value terms words wire ≡ bit_op by (wire_value terms words x) (wire_value terms words y)

-- the first `width` wires carry the bits of what the operation answers
pub record AllCarry (terms : List Term) (op : Op) (parts : List TermId) (wires : List Wire) (width : ℕ) : Type 0 where
  pub each : (i : ℕ) (d : Wire) → i < width → Carries terms op parts i (slice_index_or wires i d)

-- at the places below n, never both of the two parts have a 1
pub record AreApart (terms : List Term) (a b : TermId) (n : ℕ) : Type 0 where
  pub each : (i : ℕ) → i < n → (words : List Word) → Assigns words terms → min (bit_at (value_of terms words a) i) (bit_at (value_of terms words b) i) ≡ 0

-- its highest bit is 0 under every assignment
abbrev pub IsNonnegative : List Term → TermId → Type 0
IsNonnegative terms a = (words : List Word) → Assigns words terms → value_of terms words a < 2 ^ (width_at terms a - 1)

-- the other operation answers the same on these parts
pub record AnswersAs (terms : List Term) (op other : Op) (parts : List TermId) : Type 0 where
  pub fits : Fits other (map (width_at terms) parts)
  pub width : width_of other (map (width_at terms) parts) ≡ width_of op (map (width_at terms) parts)
  pub value : (words : List Word) → Assigns words terms → answer other (map (bits_at terms words) parts) ≡ answer op (map (bits_at terms words) parts)
