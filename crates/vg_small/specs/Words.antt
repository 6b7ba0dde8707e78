-- The words of a text: the part of C's tokens that small texts need, which are names, numbers, the sign == and signs of
-- one byte, each as long as it can be (C11 6.4, paragraph 4). Comments are no blanks here.
use Rattle.std.specs.Prelude.{ℕ, ◌≡◌, ◌+◌, List, [], ◌∷◌, ◌++◌, length, map, All, IsTrue, Bool, true, false, not, ◌&&◌, ◌||◌, nat_le, ◌==◌}
use Rattle.std.specs.List.{list_all}

-- space, tab, carriage return, line feed
abbrev pub is_blank : ℕ → Bool
is_blank b = b == 32 || b == 9 || b == 13 || b == 10

-- the same, as a fact
abbrev pub IsBlank : ℕ → Type 0
IsBlank b = IsTrue (is_blank b)

-- a byte of a name or a number: a letter, a digit or an underscore
abbrev pub is_name_byte : ℕ → Bool
is_name_byte b = nat_le 97 b && nat_le b 122 || nat_le 65 b && nat_le b 90 || nat_le 48 b && nat_le b 57 || b == 95

-- C would cut a row of three into two signs; here it is one word, and no small text has either
abbrev pub is_equals_sign : ℕ → Bool
is_equals_sign b = b == 61

-- whether bytes may be one word: a single byte that is no blank, a name or number, or a row of equals signs
abbrev pub is_word : List ℕ → Bool
is_word [] = false
is_word (b ∷ []) = not (is_blank b)
is_word bytes = list_all is_name_byte bytes || list_all is_equals_sign bytes

-- whether a word is no longer where these bytes follow
abbrev pub ends_before : List ℕ → List ℕ → Bool
ends_before word [] = true
ends_before word (b ∷ rest) = not (is_word (word ++ b ∷ []))

-- a word, and the place of its first byte
pub record Placed : Type 0 where
  pub at : ℕ
  pub bytes : List ℕ

-- a text that begins at a place is blanks, then this word, as long as it can be, and then the rest
pub record Begins (at : ℕ) (text : List ℕ) (w : Placed) (blanks rest : List ℕ) : Type 0 where
  pub bytes : text ≡ blanks ++ (w.bytes ++ rest)
  pub before : All IsBlank blanks
  pub place : w.at ≡ at + length blanks
  pub word : IsTrue (is_word w.bytes)
  pub longest : IsTrue (ends_before w.bytes rest)

-- a text that begins at a place is cut into these words, with blanks between them
abbrev pub IsCutFrom : ℕ → List ℕ → List Placed → Type 0
IsCutFrom at text [] = All IsBlank text
IsCutFrom at text (w ∷ ws) = (blanks : List ℕ) × (rest : List ℕ) × Begins at text w blanks rest × IsCutFrom (w.at + length w.bytes) rest ws

-- these are the words of a text, each with its place
abbrev pub IsCut : List ℕ → List Placed → Type 0
IsCut text words = IsCutFrom 0 text words

-- the words without their places
abbrev pub spelled : List Placed → List (List ℕ)
spelled words = map (λ w. w.bytes) words
