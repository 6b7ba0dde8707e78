-- Files in memory that can be read, by their names.
use Rattle.std.specs.Prelude.{ℕ, zero, suc, ◌<◌, ◌≡◌, List, [], ◌∷◌, length, Option, Some, None, if◌then◌else◌, String, Vec, string_bytes, bytes_eq}
use Rattle.std.specs.declared.alloc.Global.{Global}

-- a name and the bytes under it
abbrev pub Named : Type 0
Named = String Global × Vec ℕ Global

-- the bytes of the first file of a name
abbrev pub lookup : List Named → List ℕ → Option (List ℕ)
lookup [] name = None
lookup (file ∷ files) name = if bytes_eq (string_bytes file.0) name then Some file.1.items else lookup files name

-- the name of the file at a place
abbrev pub name_at : List Named → ℕ → List ℕ
name_at [] i = []
name_at (file ∷ files) zero = string_bytes file.0
name_at (file ∷ files) (suc i) = name_at files i

-- the bytes of the file at a place
abbrev pub bytes_at : List Named → ℕ → List ℕ
bytes_at [] i = []
bytes_at (file ∷ files) zero = file.1.items
bytes_at (file ∷ files) (suc i) = bytes_at files i

-- the file at this place is the first of its name
pub record IsFirst (files : List Named) (i : ℕ) : Type 0 where
  pub within : i < length files
  pub found : lookup files (name_at files i) ≡ Some (bytes_at files i)
