-- Terms as the list of what they are made of: a term's number is its place in the list, each part stands before its term, and no two are equal.
use Rattle.std.specs.Prelude.{◌≡◌, ◌↔◌, ◌⊎◌, ℕ, suc, ◌<◌, ◌≤◌, List, [], ◌∷◌, ◌++◌, map, length, slice_get, Option, Some, None, Result, Err, IfOk}
use Rattle.std.specs.Prelude.{OnOk, OnErr, All, Contains}
use Rattle.vg_bits.specs.declared.word.Word.{Word}
use Rattle.vg_term.specs.Operations.{Fits, width_of}
use Rattle.vg_term.specs.declared.node.TermId.{TermId}
use Rattle.vg_term.specs.declared.node.Op.{Op}
use Rattle.vg_term.specs.declared.node.Op.TheVariants.{Const}
use Rattle.vg_term.specs.declared.node.Parts.{Parts}
use Rattle.vg_term.specs.declared.node.Parts.TheVariants.{Zero, One, Two, Three}
use Rattle.vg_term.specs.declared.node.Node.{Node}
use Rattle.vg_term.specs.declared.node.Node.TheVariants as nodes
use Rattle.vg_term.specs.declared.stops.TermStop.{TermStop}
use Rattle.vg_term.specs.declared.stops.TermStop.TheVariants as stops

-- a term: what it is made of, and its width
abbrev pub Term : Type 0
Term = Node × ℕ

-- parts as a list
abbrev pub listed : Parts → List TermId
listed Zero = []
listed (One a) = a ∷ []
listed (Two a b) = a ∷ b ∷ []
listed (Three c a b) = c ∷ a ∷ b ∷ []

-- a list of up to three parts as parts
abbrev pub held : List TermId → Parts
held (a ∷ []) = One a
held (a ∷ b ∷ []) = Two a b
held (c ∷ a ∷ b ∷ []) = Three c a b
held _ = Zero

-- the width of an entry; 0 where none stands
abbrev pub width_in : Option Term → ℕ
width_in None = 0
width_in (Some t) = t.1

-- the word that an entry is, where it is a constant
abbrev pub word_in : Option Term → Option Word
word_in (Some (nodes.Op (Const w) parts, v)) = Some w
word_in _ = None

-- the width of the term at a place
abbrev pub width_at : List Term → TermId → ℕ
width_at terms id = width_in (slice_get terms id.0)

-- the word that the term at a place is, where it is a constant
abbrev pub constant_at : List Term → TermId → Option Word
constant_at terms id = word_in (slice_get terms id.0)

-- the term is a constant
abbrev pub IsConstant : List Term → TermId → Type 0
IsConstant terms id = (w : Word) × (constant_at terms id ≡ Some w)

-- the term of an operation on these parts, among terms where they stand
abbrev pub operation : List Term → Op → List TermId → Term
operation terms op parts = (nodes.Op op (held parts), width_of op (map (width_at terms) parts))

-- how many variables stand among the terms
abbrev pub variable_count : List Term → ℕ
variable_count [] = 0
variable_count ((nodes.Var number width, w) ∷ terms) = suc (variable_count terms)
variable_count ((nodes.Op op parts, w) ∷ terms) = variable_count terms

-- the term stands among them
abbrev pub Stands : List Term → TermId → Type 0
Stands terms id = id.0 < length terms

-- a term that may come next after these: a variable of the next number, or an operation on parts that stand and fit
abbrev pub ComesNext : List Term → Term → Type 0
ComesNext terms (nodes.Var number width, w) = (number ≡ variable_count terms) × (width ≡ w) × (0 < w) × (w ≤ 64)
ComesNext terms (nodes.Op op parts, w) =
    All (Stands terms) (listed parts) × Fits op (map (width_at terms) (listed parts)) × (w ≡ width_of op (map (width_at terms) (listed parts)))

-- lists that are made term by term
pub data AreTerms : List Term → Type 0 where
  nothing : AreTerms []
  extended : (terms : List Term) (t : Term) → AreTerms terms → ComesNext terms t → AreTerms (terms ++ t ∷ [])

-- wherever the node stands, it has this width
abbrev pub HasWidth : List Term → Node → ℕ → Type 0
HasWidth terms node width = (at w : ℕ) → slice_get terms at ≡ Some (node, w) → w ≡ width

-- a call that needs the term t took old to new
pub record Needs (old new : List Term) (t : Term) (result : Result TermId TermStop) : Type 0 where
  -- the answered term is made so
  pub term : IfOk result (λ id. slice_get new id.0 ≡ Some t)
  -- either it stood already and nothing is added, or it didn't and is added at the end
  pub either : OnOk result ((Contains old t × (new ≡ old)) ⊎ ((Contains old t → ⊥) × (new ≡ old ++ t ∷ [])))
  -- a refusal leaves the terms
  pub kept : OnErr result (new ≡ old)
  -- there is no place exactly where a new term is needed and the most stand
  pub full : (result ≡ Err stops.Full) ↔ ((Contains old t → ⊥) × (length old ≡ 4194304))
