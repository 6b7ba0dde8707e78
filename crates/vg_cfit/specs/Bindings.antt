-- What a name of a C text is bound to in a specification.
use Rattle.std.specs.Prelude.{ℕ, nat_lt, List, Bool, Option, Some, None, if◌then◌else◌}
use Rattle.std.specs.List.{position_from}
use Rattle.std.specs.Str.{bytes_eq}
use Rattle.vg_stree.specs.Names.{Name, spelled_at}
use Rattle.vg_stree.specs.Specification.{Specification}
use Rattle.vg_cfit.specs.declared.binding.Binding.{Binding}
use Rattle.vg_cfit.specs.declared.binding.Binding.TheVariants as bindings

-- a word is the name that is declared at a place
abbrev pub is_named : List Name → ℕ → List ℕ → Bool
is_named names at word = bytes_eq (spelled_at names at) word

-- a number of 16 bits, by which calls of the library tell an object
abbrev pub of_16_bits : Option ℕ → Option ℕ
of_16_bits None = None
of_16_bits (Some place) = if nat_lt place 65536 then Some place else None

-- the declared number with a name
abbrev pub number_named : Specification → List ℕ → Option ℕ
number_named spec word = of_16_bits (position_from (λ number. is_named spec.names number.at word) 0 spec.shape.numbers)

-- the object with a name
abbrev pub object_named : Specification → List ℕ → Option ℕ
object_named spec word = of_16_bits (position_from (λ object. is_named spec.names object.at word) 0 spec.shape.objects)

abbrev pub bound : Option ℕ → Option ℕ → Option Binding
bound (Some number) object = Some (bindings.Number number)
bound None (Some object) = Some (bindings.Object object)
bound None None = None

-- the number or object that a name is bound to
abbrev pub binding : Specification → List ℕ → Option Binding
binding spec word = bound (number_named spec word) (object_named spec word)
