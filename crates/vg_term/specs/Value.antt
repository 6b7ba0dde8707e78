-- The value of a term under an assignment of words to the variables.
use Rattle.std.specs.Prelude.{◌≡◌, ℕ, zero, suc, ◌<◌, slice_index_or, List, map, slice_get, Option, Some, None}
use Rattle.vg_bits.specs.declared.word.Word.{Word}
use Rattle.vg_term.specs.Operations.{Bits, bits_of, answer}
use Rattle.vg_term.specs.Terms.{Term, listed, width_at}
use Rattle.vg_term.specs.declared.node.TermId.{TermId}
use Rattle.vg_term.specs.declared.node.Node.{Node}
use Rattle.vg_term.specs.declared.node.Node.TheVariants as nodes

-- the number that a variable stands for; 0 where none is assigned
abbrev pub assigned : Option Word → ℕ
assigned None = 0
assigned (Some w) = w.value

-- the value of what a term is made of, by the bits of its parts
abbrev pub node_value : List Word → (TermId → Bits) → Node → ℕ
node_value words bits (nodes.Var number width) = assigned (slice_get words number)
node_value words bits (nodes.Op op parts) = answer op (map bits (listed parts))

-- the value of the term of an entry; 0 where none stands
abbrev pub entry_value : List Word → (TermId → Bits) → Option Term → ℕ
entry_value words bits None = 0
entry_value words bits (Some t) = node_value words bits t.0

-- the value of a term that is at most so many levels deep
abbrev pub value_to : ℕ → List Term → List Word → TermId → ℕ
value_to zero terms words id = 0
value_to (suc depth) terms words id =
    entry_value words (λ (part : TermId). record { width = width_at terms part; value = value_to depth terms words part }) (slice_get terms id.0)

-- the value of a term. Its parts have lower numbers, so it is no deeper than its number plus 1.
abbrev pub value_of : List Term → List Word → TermId → ℕ
value_of terms words id = value_to (suc id.0) terms words id

-- the bits of a term
abbrev pub bits_at : List Term → List Word → TermId → Bits
bits_at terms words id = record { width = width_at terms id; value = value_of terms words id }

-- where a term is a variable, the words have one of its width for it
abbrev pub HasItsWord : List Word → Term → Type 0
HasItsWord words (nodes.Var number width, w) = (word : Word) × (slice_get words number ≡ Some word) × (word.width ≡ w)
HasItsWord words (nodes.Op op parts, w) = Unit {0}

-- the words assign to each variable of the terms a word of its width
abbrev pub Assigns : List Word → List Term → Type 0
Assigns words terms = (at : ℕ) (t : Term) → slice_get terms at ≡ Some t → HasItsWord words t

-- the words at the first places are those of the terms there
abbrev pub AreReckoned : List Term → List Word → List Word → ℕ → Type 0
AreReckoned terms words room done = (part : TermId) (d : Word) → part.0 < done → bits_of (slice_index_or room part.0 d) ≡ bits_at terms words part
