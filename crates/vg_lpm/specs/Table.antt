-- The table behind a look-up, as three lists of words. The first has an entry for each value of an address's upper 16 bits. The others
-- are blocks of 256 entries, one for each value of the next 8 bits, and of the last 8.
use Rattle.std.specs.Prelude.{ℕ, ◌≡◌, ◌+◌, ◌*◌, ◌-◌, ◌/◌, ◌%◌, ◌^◌, ◌<◌, ◌≤◌, List, length, slice_index, Option, Some, None, nat_lt, if◌then◌else◌}
use Rattle.vg_stree.specs.declared.config.Route.{Route}
use Rattle.vg_lpm.specs.declared.entry.Entry.{Entry}
use Rattle.vg_lpm.specs.declared.entry.Entry.TheVariants.{Leaf, Link}
use Rattle.vg_stree.specs.Routes.{IsLongestMatch}

-- the least word that is a link: 0 is the leaf without a value, and the 2 ^ 16 words after it are those with one
abbrev pub link : ℕ
link = 65537

-- the word of a leaf
abbrev pub leaf : Option ℕ → ℕ
leaf None = 0
leaf (Some value) = value + 1

-- what a word says
abbrev pub Says : ℕ → Entry → Type 0
Says word (Leaf value) = (word ≡ leaf value) × (word < link)
Says word (Link block) = word ≡ link + block

-- where a word leads on a level: a leaf stays, and a link leads to the entry of its block that the lowest 8 of some bits say
abbrev pub follow : List ℕ → ℕ → ℕ → ℕ
follow level word bits = if nat_lt word link then word else slice_index level ((word - link) * 256 + bits % 256)

-- where an address leads: the word that its look-up ends with
abbrev pub walk : List ℕ → List ℕ → List ℕ → ℕ → ℕ
walk first second third address = follow third (follow second (slice_index first (address / 2 ^ 16)) (address / 2 ^ 8)) address

-- each link of a level leads to a whole block of the level below, and no two lead to one
pub record AreLinks (upper lower : List ℕ) : Type 0 where
  pub blocks : (i : ℕ) → i < length upper → link ≤ slice_index upper i → (slice_index upper i - link) * 256 + 256 ≤ length lower
  pub apart : (i j : ℕ) → i < length upper → j < length upper → link ≤ slice_index upper i → slice_index upper i ≡ slice_index upper j → i ≡ j
  pub whole : length lower % 256 ≡ 0

-- three lists that are a table
pub record IsTable (first second third : List ℕ) : Type 0 where
  pub all_addresses : length first ≡ 2 ^ 16
  pub links : AreLinks first second
  pub lower_links : AreLinks second third
  pub leaves : (i : ℕ) → slice_index third i < link

-- the table answers for a list of routes
pub record IsTableOf (routes : List Route) (first second third : List ℕ) : Type 0 where
  pub table : IsTable first second third
  pub fits_second : length second < 2 ^ 32
  pub fits_third : length third < 2 ^ 32
  pub answers : (address : ℕ) → address < 2 ^ 32 → (answer : Option ℕ) × (walk first second third address ≡ leaf answer) × IsLongestMatch routes address answer
