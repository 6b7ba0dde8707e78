-- Forms of text. A form says which tokens a construct has, one behind the other, and what they add to a tree.
use Rattle.std.specs.Prelude.{ℕ, List, [], ◌∷◌, ◌++◌, length, Bool, Option, Some, None}
use Rattle.vg_core.specs.Syntax.{Syntax, with_node, with_parts}
use Rattle.vg_core.specs.declared.tree.Kind.{Kind}
use Rattle.vg_core.specs.declared.tree.Parts.{Parts}
use Rattle.vg_ctok.specs.declared.kinds.Token.{Token}

-- the constructs that are counted where they stand in one another: an expression, the operand of a sign or a cast or what a simple
-- statement begins with, a statement, and the block of a function
pub data Nested : Type 0 where
  Expression : Nested
  Operand : Nested
  Statement : Nested
  Body : Nested

-- a value, and how the tree grows with it
abbrev pub Growth : Type 0 → Type 0
Growth A = Syntax → A × Syntax

-- the forms that have a value of A
pub data Form : Type 0 → Type 1 where
  -- no token
  Plain : {A : Type 0} → A → Form A
  -- no token; the value is the place of the next one
  Place : Form ℕ
  -- a token of which the test gives a value
  One : {A : Type 0} → (Token → Option A) → Form A
  -- no token, and the next one fails the test
  Unless : (Token → Bool) → Form (Unit {0})
  -- two forms, one behind the other
  Both : {A B : Type 0} → Form (A → B) → Form A → Form B
  -- the first form or the second; a reader takes the first where the next token passes the test
  Either : {A : Type 0} → (Token → Bool) → Form A → Form A → Form A
  -- the first form, and behind it the second one any number of times, which is given the place of the whole and the value so far;
  -- a reader goes on as long as the next token passes the test
  Chain : {A : Type 0} → (Token → Bool) → Form A → Form (ℕ → A → Growth A) → Form A
  -- a construct that is counted; the value is its node's number
  Inner : Nested → Form ℕ
  -- a form, and then the tree grows
  Made : {A : Type 0} → Form (Growth A) → Form A

infixl 20 ◌⊛◌
abbrev pub ◌⊛◌ : {A B : Type 0} → Form (A → B) → Form A → Form B
f ⊛ x = Both f x

-- two forms, of which the first has the value
infixl 20 ◌⊲◌
abbrev pub ◌⊲◌ : {A B : Type 0} → Form A → Form B → Form A
x ⊲ y = Plain (λ a _. a) ⊛ x ⊛ y

-- two forms, of which the second has the value
infixl 20 ◌⊳◌
abbrev pub ◌⊳◌ : {A B : Type 0} → Form A → Form B → Form B
x ⊳ y = Plain (λ _ b. b) ⊛ x ⊛ y

-- what may be left out
abbrev pub optional : {A : Type 0} → (Token → Bool) → Form A → Form (Option A)
optional test x = Either test (Plain (λ a. Some a) ⊛ x) (Plain None)

-- the tree as it is
abbrev pub same : {A : Type 0} → A → Growth A
same a tree = (a, tree)

-- one part more in a list
abbrev pub one_more : ℕ → ℕ → List ℕ → Growth (List ℕ)
one_more part at parts = same (parts ++ part ∷ [])

-- a list of any number of parts
abbrev pub listed : (Token → Bool) → Form ℕ → Form (List ℕ)
listed test x = Chain test (Plain []) (Plain one_more ⊛ x)

-- a node more; its number is the count of those before it
abbrev pub node : ℕ → Kind → Growth ℕ
node at kind tree = (length tree.nodes, with_node tree at kind)

-- a list of parts, and behind it a node that has it
abbrev pub node_with : ℕ → (Parts → Kind) → List ℕ → Growth ℕ
node_with at kind parts tree = node at (kind (record { from = length tree.items; count = length parts })) (with_parts tree parts)
