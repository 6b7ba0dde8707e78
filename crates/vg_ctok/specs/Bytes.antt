-- The bytes of C texts (C11 5.2.1 and 6.4), as codes of ASCII.
use Rattle.std.specs.Prelude.{ℕ, List, [], ◌∷◌, length, nat_le, nat_eq, Bool, false, not, ◌&&◌, ◌||◌, ◌==◌}
use Rattle.std.specs.List.{prefix_len, starts_with}

-- a decimal digit
abbrev pub is_digit : ℕ → Bool
is_digit b = nat_le 48 b && nat_le b 57

-- a byte of names and numbers: a letter, a digit or an underscore
abbrev pub is_name_byte : ℕ → Bool
is_name_byte b = nat_le 97 b && nat_le b 122 || nat_le 65 b && nat_le b 90 || is_digit b || b == 95

-- a blank inside a line: a space, a tab or a carriage return
abbrev pub is_space : ℕ → Bool
is_space b = b == 32 || b == 9 || b == 13

-- any other byte of a line
abbrev pub is_dark : ℕ → Bool
is_dark b = not (is_space b)

-- a byte that ends no line
abbrev pub is_in_line : ℕ → Bool
is_in_line b = not (b == 10)

-- whether a word is a name: name bytes as long as it goes, of which the first is no digit
abbrev pub is_name : List ℕ → Bool
is_name [] = false
is_name (b ∷ bytes) = not (is_digit b) && prefix_len is_name_byte (b ∷ bytes) == length (b ∷ bytes)

-- whether a text begins with these bytes
abbrev pub begins : List ℕ → List ℕ → Bool
begins text bytes = starts_with nat_eq text bytes
