-- The pages of files in memory: each is for one file that is opened or created, and its number is the id. No clause of the traits rests on this file.
use Rattle.std.specs.Prelude.{ℕ, zero, suc, ◌+◌, ◌<◌, ◌≤◌, ◌≡◌, ◌≢◌, List, [], ◌∷◌, length, Bool, true, false, ◌&&◌, Option, Some, None}
use Rattle.std.specs.Prelude.{if◌then◌else◌, string_bytes, string_capacity, vec_len, vec_capacity, bytes_eq, All, unwrap_or}
use Rattle.vg_doubles.specs.declared.pages.Place.{Place}
use Rattle.vg_doubles.specs.declared.pages.Role.{Role}
use Rattle.vg_doubles.specs.declared.pages.Role.TheVariants.{Free, Reading, Writing, WasRead, Written}
use Rattle.vg_doubles.specs.declared.pages.Page.{Page}
use Rattle.vg_base.specs.Files.{Opened, AreBytes, reading, writing, GivesNext}
use Rattle.vg_doubles.specs.Named.{Named, name_at, bytes_at, IsFirst}
use Rattle.vg_doubles.specs.Plan.{longest_name}

-- a page is, or was, for a created file
abbrev pub is_made : Role → Bool
is_made Writing = true
is_made Written = true
is_made _ = false

-- a page is, or was, for the created file of this name
abbrev pub is_made_as : List ℕ → Page → Bool
is_made_as name page = is_made page.role && bytes_eq (string_bytes page.name) name

-- what was written under a name stands on the first page for it
abbrev pub made_on : List Page → List ℕ → Option (List ℕ)
made_on [] name = None
made_on (page ∷ pages) name = if is_made_as name page then Some page.bytes.items else made_on pages name

-- this page is the first for the created file of this name
abbrev pub IsFirstMade : List ℕ → List Page → ℕ → Type 0
IsFirstMade name [] i = ⊥
IsFirstMade name (page ∷ pages) zero = is_made_as name page ≡ true
IsFirstMade name (page ∷ pages) (suc i) = (is_made_as name page ≡ false) × IsFirstMade name pages i

-- what is seen of an id whose page is for this
abbrev pub seen_as : List Named → List ℕ → Role → Option Opened
seen_as held name (Reading place) = reading (name_at held place.file) place.at
seen_as held name Writing = writing name
seen_as held name _ = None

-- what is seen of a page
abbrev pub seen : List Named → Page → Option Opened
seen held page = seen_as held (string_bytes page.name) page.role

-- what is seen of an id
abbrev pub opened_on : List Named → List Page → ℕ → Option Opened
opened_on held [] id = None
opened_on held (page ∷ pages) zero = seen held page
opened_on held (page ∷ pages) (suc id) = opened_on held pages id

-- what the page at a place is for
abbrev pub role_at : List Page → ℕ → Role
role_at [] i = Free
role_at (page ∷ pages) zero = page.role
role_at (page ∷ pages) (suc i) = role_at pages i

-- the name on the page at a place
abbrev pub name_on : List Page → ℕ → List ℕ
name_on [] i = []
name_on (page ∷ pages) zero = string_bytes page.name
name_on (page ∷ pages) (suc i) = name_on pages i

-- the bytes on the page at a place
abbrev pub bytes_on : List Page → ℕ → List ℕ
bytes_on [] i = []
bytes_on (page ∷ pages) zero = page.bytes.items
bytes_on (page ∷ pages) (suc i) = bytes_on pages i

-- what was written to the file of the page at a place
abbrev pub made_at : List Page → ℕ → List ℕ
made_at pages i = unwrap_or (made_on pages (name_on pages i)) []

-- whether a page's file is open for reading
abbrev pub is_reading : Role → Bool
is_reading (Reading place) = true
is_reading _ = false

-- 1 for a page whose file is open
abbrev pub open_weight : Role → ℕ
open_weight (Reading place) = 1
open_weight Writing = 1
open_weight _ = 0

-- 1 for a page that was for no file so far
abbrev pub free_weight : Role → ℕ
free_weight Free = 1
free_weight _ = 0

-- how many files are open
abbrev pub open_pages : List Page → ℕ
open_pages [] = 0
open_pages (page ∷ pages) = open_weight page.role + open_pages pages

-- how many pages were for no file so far
abbrev pub free_pages : List Page → ℕ
free_pages [] = 0
free_pages (page ∷ pages) = free_weight page.role + free_pages pages

-- a page has its memory: for each name that it is to take, and for all that may be written to it
pub record HasMemory (room : ℕ) (page : Page) : Type 0 where
  pub name : longest_name ≤ string_capacity page.name
  pub reserved : room ≤ vec_capacity page.bytes
  pub within : vec_len page.bytes ≤ room

-- what a page reads is there, up to where it reads on
pub record IsReadable (held : List Named) (page : Page) : Type 0 where
  pub first : (place : Place) → page.role ≡ Reading place → IsFirst held place.file
  pub within : (place : Place) → page.role ≡ Reading place → place.at ≤ length (bytes_at held place.file)

-- this id is opened, on a page that was free, and no other is touched
pub record TakesPage (held : List Named) (old new : List Page) (file : Option Opened) (id : ℕ) : Type 0 where
  pub was : opened_on held old id ≡ None
  pub now : opened_on held new id ≡ file
  pub others : (j : ℕ) → j ≢ id → opened_on held new j ≡ opened_on held old j
  pub one_more : open_pages new ≡ open_pages old + 1
  pub one_less : free_pages old ≡ free_pages new + 1

-- the pages with one of them for something else
abbrev pub with_role : List Page → ℕ → Role → List Page
with_role [] i role = []
with_role (page ∷ pages) zero role = record page { role = role } ∷ pages
with_role (page ∷ pages) (suc i) role = page ∷ with_role pages i role

-- the same files are open, the same pages free, and each page is for what it was for
pub record SameRoles (old new : List Page) : Type 0 where
  pub opened : (held : List Named) → opened_on held new ≡ opened_on held old
  pub open_pages : open_pages new ≡ open_pages old
  pub free_pages : free_pages new ≡ free_pages old
  pub roles : (i : ℕ) → role_at new i ≡ role_at old i
  pub count : length new ≡ length old

-- the memory of each page, and what it reads, is there as before
pub record KeepsFit (old new : List Page) : Type 0 where
  pub memory : (room : ℕ) → All (HasMemory room) old → All (HasMemory room) new
  pub readable : (held : List Named) → All (IsReadable held) old → All (IsReadable held) new
  pub count : length new ≡ length old

-- a free page was taken to read the first file of this name from its start
pub record StartsReading (held : List Named) (old new : List Page) (name : List ℕ) (id : ℕ) : Type 0 where
  pub file : ℕ
  pub first : IsFirst held file
  pub named : name_at held file ≡ name
  pub bytes : AreBytes (bytes_at held file)
  pub within : id < length old
  pub was : role_at old id ≡ Free
  pub now : new ≡ with_role old id (Reading (record { file = file; at = 0 }))

-- the page of an id reads on behind the bytes that were given, which are the next of its file
pub record ReadsOn (held : List Named) (old new : List Page) (id n : ℕ) (into : List ℕ) : Type 0 where
  pub place : Place
  pub was : role_at old id ≡ Reading place
  pub first : IsFirst held place.file
  pub next : GivesNext (bytes_at held place.file) place.at n into
  pub now : new ≡ with_role old id (Reading (record { file = place.file; at = place.at + n }))

-- what a page is for once its file is closed
abbrev pub closed : Role → Role
closed (Reading place) = WasRead
closed _ = Written
