-- The bytes of specification texts, as codes of ASCII: those of C texts.
use Rattle.std.specs.Prelude.{ℕ, List, nat_le, nat_eq, Bool, not, ◌&&◌, ◌||◌, ◌==◌}
use Rattle.std.specs.List.{starts_with}

-- a decimal digit
abbrev pub is_digit : ℕ → Bool
is_digit b = nat_le 48 b && nat_le b 57

-- a byte of names and numbers: a letter, a digit or an underscore
abbrev pub is_name_byte : ℕ → Bool
is_name_byte b = nat_le 97 b && nat_le b 122 || nat_le 65 b && nat_le b 90 || is_digit b || b == 95

-- a blank: a space, a tab, a carriage return or a line feed
abbrev pub is_blank : ℕ → Bool
is_blank b = b == 32 || b == 9 || b == 13 || b == 10

-- a byte that ends no line
abbrev pub is_in_line : ℕ → Bool
is_in_line b = not (b == 10)

-- whether a text begins with these bytes
abbrev pub begins : List ℕ → List ℕ → Bool
begins text bytes = starts_with nat_eq text bytes
