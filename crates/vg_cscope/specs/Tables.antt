-- The table that names are looked up in: the declarations that are seen at some place, the last one on top, and for each hash the last of them with it.
-- No public clause rests on this file.
use Rattle.std.specs.Prelude.{◌≡◌, ℕ, zero, suc, ◌+◌, ◌*◌, ◌%◌, ◌<◌, nat_eq, List, [], ◌∷◌, length, slice_get, Bool, false, Option, Some, None, if◌then◌else◌}
use Rattle.vg_core.specs.declared.tree.Name.{Name}
use Rattle.vg_core.specs.declared.tree.Kind.{Kind}
use Rattle.vg_core.specs.declared.tree.Kind.TheVariants as nodes
use Rattle.vg_cscope.specs.declared.names.Wanted.{Wanted}
use Rattle.vg_cscope.specs.declared.names.Wanted.TheVariants as wanted
use Rattle.vg_cscope.specs.declared.table.Entry.{Entry}
use Rattle.vg_cscope.specs.declared.answers.Answer.{Answer}
use Rattle.vg_cscope.specs.Scopes.{kind_at, seen_at}
use Rattle.vg_cscope.specs.Names.{Scoped, spelling, ordinary_name, is_wanted, found}

-- ---- hashes

abbrev pub hashed : ℕ → List ℕ → ℕ
hashed hash [] = hash
hashed hash (byte ∷ bytes) = hashed ((hash * 31 + byte) % 4294967296) bytes

abbrev pub bucket : ℕ → List ℕ → ℕ
bucket size bytes = hashed 0 bytes % size

-- the name that a node declares, in whichever name space
abbrev pub declared_name : Kind → Option Name
declared_name (nodes.Struct tag fields attribute) = Some tag
declared_name (nodes.Field base name count) = Some name
declared_name kind = ordinary_name kind

abbrev pub wanted_name : Wanted → Option Name
wanted_name (wanted.Ordinary name) = Some name
wanted_name (wanted.Tag name) = Some name
wanted_name (wanted.Field name) = Some name
wanted_name wanted.Function = None

abbrev pub bytes_of : List ℕ → Option Name → List ℕ
bytes_of text None = []
bytes_of text (Some name) = spelling text name

abbrev pub bucket_at : Scoped → ℕ → ℕ → ℕ
bucket_at s size d = bucket size (bytes_of s.text (declared_name (kind_at s.tree d)))

-- ---- the stack, by heights: 0 is below all

abbrev pub declaration_of : Option Entry → Option ℕ
declaration_of None = None
declaration_of (Some entry) = Some entry.declaration

-- the declaration on top of so many
abbrev pub at : List Entry → ℕ → Option ℕ
at stack zero = None
at stack (suc h) = declaration_of (slice_get stack h)

abbrev pub has_bucket : ℕ → Option Entry → Bool
has_bucket b None = false
has_bucket b (Some entry) = nat_eq entry.bucket b

-- the height of the last of so many with a bucket; 0 for none
abbrev pub last_in : ℕ → List Entry → ℕ → ℕ
last_in b stack zero = 0
last_in b stack (suc h) = if has_bucket b (slice_get stack h) then suc h else last_in b stack h

abbrev pub nearer : Scoped → Wanted → Option Entry → Option ℕ → Option ℕ
nearer s what None below = below
nearer s what (Some entry) below = if is_wanted s.text what (kind_at s.tree entry.declaration) then Some entry.declaration else below

-- the last of so many that is what is looked for
abbrev pub nearest : Scoped → Wanted → List Entry → ℕ → Option ℕ
nearest s what stack zero = None
nearest s what stack (suc h) = nearer s what (slice_get stack h) (nearest s what stack h)

-- the stack and the heads of its buckets: each declaration sees the one below it, and each bucket is linked from its head down
pub record IsTable (s : Scoped) (stack : List Entry) (heads : List ℕ) : Type 0 where
  pub some : 0 < length heads
  pub chain : (h : ℕ) (entry : Entry) → slice_get stack h ≡ Some entry → seen_at s.standings entry.declaration ≡ at stack h
  pub buckets : (h : ℕ) (entry : Entry) → slice_get stack h ≡ Some entry → entry.bucket ≡ bucket_at s (length heads) entry.declaration
  pub belows : (h : ℕ) (entry : Entry) → slice_get stack h ≡ Some entry → entry.below ≡ last_in entry.bucket stack h
  pub heads_are : (b : ℕ) → b < length heads → slice_get heads b ≡ Some (last_in b stack (length stack))

-- ---- answers

-- each answer is what its node finds
abbrev pub AreAnswers : Scoped → List (Option Answer) → Type 0
AreAnswers s answers = (n : ℕ) (answer : Answer) → slice_get answers n ≡ Some (Some answer) → found s answer.wanted n ≡ answer.declaration
