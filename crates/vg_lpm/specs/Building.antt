-- How the table comes about: one pass over the routes for each length, the shortest first. A route takes over each address that it
-- matches, so a longer one wins over a shorter, and of equally long ones the later.
use Rattle.std.specs.Prelude.{ℕ, zero, suc, ◌≡◌, ◌+◌, ◌/◌, ◌^◌, ◌<◌, ◌≤◌, ◌≢◌, List, [], ◌∷◌, length, slice_index, Some, nat_eq, if◌then◌else◌}
use Rattle.vg_stree.specs.declared.config.Route.{Route}
use Rattle.vg_stree.specs.Routes.{matches}
use Rattle.vg_lpm.specs.Table.{leaf, link, follow, AreLinks}

-- the word at an address after a route took over what it matches
abbrev pub taken : Route → ℕ → ℕ → ℕ
taken route address word = if matches route address then leaf (Some route.value) else word

-- the word at an address after a pass for the routes of one length
abbrev pub passed : ℕ → List Route → ℕ → ℕ → ℕ
passed len [] address word = word
passed len (route ∷ routes) address word = passed len routes address (if nat_eq route.len len then taken route address word else word)

-- the word at an address after the passes for all lengths below a number
abbrev pub passes : ℕ → List Route → ℕ → ℕ
passes zero routes address = 0
passes (suc len) routes address = passed len routes address (passes len routes address)

-- a word that was put into the entries whose index has the same bits as `place`, all but the lowest `free`
pub record Fills (old new : List ℕ) (place free word : ℕ) : Type 0 where
  pub same_length : length new ≡ length old
  pub filled : (j : ℕ) → j < length old → j / 2 ^ free ≡ place / 2 ^ free → slice_index new j ≡ word
  pub others : (j : ℕ) → j / 2 ^ free ≢ place / 2 ^ free → slice_index new j ≡ slice_index old j

-- an entry of the upper list became a link to a block, which leads wherever the entry led
pub record Opens (upper lower newer_upper newer_lower : List ℕ) (at block : ℕ) : Type 0 where
  pub same_length : length newer_upper ≡ length upper
  pub opened : slice_index newer_upper at ≡ link + block
  pub others : (j : ℕ) → j ≢ at → slice_index newer_upper j ≡ slice_index upper j
  pub links : AreLinks newer_upper newer_lower
  pub kept : (j : ℕ) → j < length lower → slice_index newer_lower j ≡ slice_index lower j
  pub leaves : (j : ℕ) → length lower ≤ j → slice_index newer_lower j < link
  pub longer : length lower ≤ length newer_lower
  pub at_most : length newer_lower ≤ length lower + 256
  pub leads : (i bits : ℕ) → i < length upper → follow newer_lower (slice_index newer_upper i) bits ≡ follow lower (slice_index upper i) bits
