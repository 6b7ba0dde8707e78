-- Forms of text. A form says which tokens a construct has, one behind the other, and what they add to a tree. `K` is what a token is,
-- `N` the constructs that are counted where they stand in one another, and `G` the tree.
use Rattle.std.specs.Prelude.{ℕ, List, [], ◌∷◌, ◌++◌, Bool, Option, Some, None}
use Rattle.vg_forms.specs.declared.token.Token.{Token}

-- a value, and how the tree grows with it
abbrev pub Growth : Type 0 → Type 0 → Type 0
Growth G A = G → A × G

-- the forms that have a value of A
pub data Form (K N G : Type 0) : Type 0 → Type 1 where
  -- no token
  Plain : {A : Type 0} → A → Form K N G A
  -- no token; the value is the place of the next one
  Place : Form K N G ℕ
  -- a token of which the test gives a value
  One : {A : Type 0} → (Token K → Option A) → Form K N G A
  -- no token, and the next one fails the test
  Unless : (Token K → Bool) → Form K N G (Unit {0})
  -- two forms, one behind the other
  Both : {A B : Type 0} → Form K N G (A → B) → Form K N G A → Form K N G B
  -- the first form or the second; a reader takes the first where the next token passes the test
  Either : {A : Type 0} → (Token K → Bool) → Form K N G A → Form K N G A → Form K N G A
  -- the first form, and behind it the second one any number of times, which is given the place of the whole and the value so far;
  -- a reader goes on as long as the next token passes the test
  Chain : {A : Type 0} → (Token K → Bool) → Form K N G A → Form K N G (ℕ → A → Growth G A) → Form K N G A
  -- a construct that is counted; the value is its number
  Inner : N → Form K N G ℕ
  -- a form, and then the tree grows
  Made : {A : Type 0} → Form K N G (Growth G A) → Form K N G A

-- the tree as it is
abbrev pub same : {G A : Type 0} → A → Growth G A
same a tree = (a, tree)

-- one part more in a list
abbrev pub one_more : {G A : Type 0} → A → ℕ → List A → Growth G (List A)
one_more part at parts = same (parts ++ part ∷ [])

module _ {K N G : Type 0} where
  infixl 20 ◌⊛◌
  abbrev pub ◌⊛◌ : {A B : Type 0} → Form K N G (A → B) → Form K N G A → Form K N G B
  f ⊛ x = Both f x

  -- two forms, of which the first has the value
  infixl 20 ◌⊲◌
  abbrev pub ◌⊲◌ : {A B : Type 0} → Form K N G A → Form K N G B → Form K N G A
  x ⊲ y = Plain (λ a _. a) ⊛ x ⊛ y

  -- two forms, of which the second has the value
  infixl 20 ◌⊳◌
  abbrev pub ◌⊳◌ : {A B : Type 0} → Form K N G A → Form K N G B → Form K N G B
  x ⊳ y = Plain (λ _ b. b) ⊛ x ⊛ y

  -- what may be left out
  abbrev pub optional : {A : Type 0} → (Token K → Bool) → Form K N G A → Form K N G (Option A)
  optional test x = Either test (Plain (λ a. Some a) ⊛ x) (Plain None)

  -- a list of any number of parts
  abbrev pub listed : {A : Type 0} → (Token K → Bool) → Form K N G A → Form K N G (List A)
  listed test x = Chain test (Plain []) (Plain one_more ⊛ x)
