-- What a small function looks like as a text: the definition of the small form. In C it is a function definition
-- (C11 6.9.1) of `if` and `return` statements; the form of the specification is this program's own.
use Rattle.std.specs.Prelude.{ℕ, ◌≡◌, ◌<◌, ◌≤◌, List, [], ◌∷◌, ◌++◌, codes, All}
use Rattle.std.specs.List.{flat_map}
use Rattle.std.specs.Fmt.{decimal}
use Rattle.vg_small.specs.Words.{Placed, IsCut, spelled}
use Rattle.vg_small.specs.declared.small.Test.{Test}
use Rattle.vg_small.specs.declared.small.Small.{Small}
use Rattle.vg_small.specs.declared.small.Lang.{Lang}
use Rattle.vg_small.specs.declared.small.Lang.TheVariants.{C, Spec}

-- `int nf_process(uint16_t port, uint64_t now) {`, or `ports N; step {`
abbrev pub head_words : Lang → ℕ → List (List ℕ)
head_words C ports =
    codes "int" ∷ codes "nf_process" ∷ codes "(" ∷ codes "uint16_t" ∷ codes "port" ∷ codes "," ∷ codes "uint64_t" ∷ codes "now" ∷ codes ")" ∷ codes "{" ∷ []
head_words Spec ports = codes "ports" ∷ decimal ports ∷ codes ";" ∷ codes "step" ∷ codes "{" ∷ []

-- `if (port == A) return B;`, or `if port == A { send B; }`
abbrev pub test_words : Lang → Test → List (List ℕ)
test_words C t =
    codes "if" ∷ codes "(" ∷ codes "port" ∷ codes "==" ∷ decimal t.port ∷ codes ")" ∷ codes "return" ∷ decimal t.value ∷ codes ";" ∷ []
test_words Spec t =
    codes "if" ∷ codes "port" ∷ codes "==" ∷ decimal t.port ∷ codes "{" ∷ codes "send" ∷ decimal t.value ∷ codes ";" ∷ codes "}" ∷ []

-- `return B; }`, or `send B; }`
abbrev pub last_words : Lang → ℕ → List (List ℕ)
last_words C value = codes "return" ∷ decimal value ∷ codes ";" ∷ codes "}" ∷ []
last_words Spec value = codes "send" ∷ decimal value ∷ codes ";" ∷ codes "}" ∷ []

-- the words of a small function: its head, its tests in order, and what it does where none holds
abbrev pub spelling : Lang → Small → List (List ℕ)
spelling lang s = head_words lang s.ports ++ (flat_map (test_words lang) s.tests ++ last_words lang s.last)

-- the number of ports that a text declares: 1 to 16 in a specification, and none in a C text
abbrev pub DeclaresPorts : Lang → ℕ → Type 0
DeclaresPorts C ports = ports ≡ 0
DeclaresPorts Spec ports = (1 ≤ ports) × (ports ≤ 16)

-- each value is below this: the number of ports that are declared, or the most that could be
abbrev pub value_bound : Lang → ℕ → ℕ
value_bound C ports = 16
value_bound Spec ports = ports

-- the place of the second word
abbrev pub second_at : List Placed → ℕ
second_at (type ∷ name ∷ words) = name.at
second_at _ = 0

-- the place of the function's name, which follows its type `int`; a specification has none
abbrev pub name_at : Lang → List Placed → ℕ
name_at C words = second_at words
name_at Spec words = 0

-- a port is a 16-bit number, and a value is below a bound
pub record IsTest (bound : ℕ) (t : Test) : Type 0 where
  pub port : t.port < 65536
  pub value : t.value < bound

-- the text, cut into words, spells this small function
pub record Spells (lang : Lang) (text : List ℕ) (s : Small) : Type 0 where
  pub words : List Placed
  pub cut : IsCut text words
  pub form : spelled words ≡ spelling lang s
  pub ports : DeclaresPorts lang s.ports
  pub at : s.at ≡ name_at lang words
  pub tests : All (IsTest (value_bound lang s.ports)) s.tests
  pub last : s.last < value_bound lang s.ports

-- the text spells no small function
abbrev pub SpellsNone : Lang → List ℕ → Type 0
SpellsNone lang text = (s : Small) → Spells lang text s → ⊥
