-- A route inserted: what stays a table, and what each address leads to afterwards.
use Rattle.std.proofs.Common.{◌≡◌, ℕ, ◌+◌, ◌-◌, ◌*◌, ◌/◌, ◌%◌, ◌^◌, ◌<◌, ◌≤◌, List, length, get_or, sym, ◌∙◌, ap, inl, inr, arith}
use Rattle.std.proofs.lemmas.Bool.{cases_lt}
use Rattle.vg_stree.specs.declared.config.Route.{Route}
use Rattle.vg_lpm.specs.Table.{walk, IsTable}
use Rattle.vg_lpm.specs.Building.{taken, Fills, Opens}
use Rattle.vg_lpm.proofs.Runs.{run_fits, run_in_block}
use Rattle.vg_lpm.proofs.Links.{AreLinks-lower, leaves-filled}
use Rattle.vg_lpm.proofs.Walks.{walk-opened_first, walk-opened_second, walk-filled_first, walk-filled_second, walk-filled_third}

-- the run of entries that is filled is there
pub fits_first : (address len n : ℕ) → address < 2 ^ 32 → n ≡ len → n ≤ 16 → address / 65536 / 2 ^ (16 - n) * 2 ^ (16 - n) + 2 ^ (16 - n) ≤ 65536
fits_first address len n fits n_is short = run_fits (address / 65536) (16 - n) 16 (omega arith) (omega arith)

pub fits_block : {upper lower newer_upper newer_lower : List ℕ} {at b : ℕ} (place bits free : ℕ) → Opens upper lower newer_upper newer_lower at b
    → at < length upper → place ≡ b * 256 + bits % 256 → free ≤ 8
    → place / 2 ^ free * 2 ^ free + 2 ^ free ≤ length newer_lower
fits_block {upper} {lower} {newer_upper} {newer_lower} {at} {b} place bits free opens within place_is small =
    let opened = opens.opened in
    let block = opens.links.blocks at (omega (arith, opens.same_length)) (omega arith) in
    let run = run_in_block b bits free small in
    rw place_is (omega arith)

-- what was opened still has leaves alone
pub leaves-opened : {upper lower newer_upper newer_lower : List ℕ} {at b : ℕ} → Opens upper lower newer_upper newer_lower at b
    → ((j : ℕ) → get_or lower j 0 < 65537) → (j : ℕ) → get_or newer_lower j 0 < 65537
leaves-opened {lower = lower} opens leaves j = elim (cases_lt j (length lower)) [
  | inl within ↦ omega (arith, opens.kept j within, leaves j)
  | inr new ↦ opens.leaves j new
]

pub table_third : {first second third newer_first newer_second last_second newer_third last_third : List ℕ} {at b lower_at c place free word : ℕ}
    → IsTable first second third
    → Opens first second newer_first newer_second at b → Opens newer_second third last_second newer_third lower_at c
    → Fills newer_third last_third place free word → word < 65537
    → IsTable newer_first last_second last_third
table_third table opens lower_opens fills leaf = record {
  all_addresses = opens.same_length ∙ table.all_addresses;
  links = AreLinks-lower opens.links lower_opens.same_length;
  lower_links = AreLinks-lower lower_opens.links fills.same_length;
  leaves = leaves-filled fills leaf (leaves-opened lower_opens table.leaves);
}

pub taken_first : {first second third newer : List ℕ} (route : Route) (n word : ℕ) → IsTable first second third → route.address < 2 ^ 32
    → n ≡ route.len → n ≤ 16 → word ≡ route.value + 1 → word < 65537
    → Fills first newer (route.address / 65536) (16 - n) word
    → (a : ℕ) → a < 2 ^ 32 → walk newer second third a ≡ taken route a (walk first second third a)
taken_first {first} {second} {third} {newer} route n word table fits n_is short word_is leaf fills a a_fits =
    let filled = rw (n_is, word_is) at fills in
    walk-filled_first second third route (omega arith) (omega arith) table.all_addresses filled a a_fits

pub taken_second : {first second third newer_first newer_second last_second : List ℕ} {b : ℕ} (route : Route) (n word place : ℕ)
    → IsTable first second third → route.address < 2 ^ 32
    → n ≡ route.len → 16 < n → n ≤ 24 → word ≡ route.value + 1 → word < 65537 → place ≡ b * 256 + route.address / 256 % 256
    → Opens first second newer_first newer_second (route.address / 65536) b → Fills newer_second last_second place (24 - n) word
    → (a : ℕ) → a < 2 ^ 32 → walk newer_first last_second third a ≡ taken route a (walk first second third a)
taken_second {first} {second} {third} {newer_first} {newer_second} {last_second} {b} route n word place table fits n_is long short word_is leaf
    place_is opens fills a a_fits =
    let filled = rw (n_is, word_is, place_is) at fills in
    let whole = opens.same_length ∙ table.all_addresses in
    walk-filled_second third route b (omega arith) (omega arith) (omega arith) fits whole opens.links opens.opened filled a a_fits
    ∙ ap (taken route a) (walk-opened_first third opens table.all_addresses a a_fits)

pub taken_third : {first second third newer_first newer_second last_second newer_third last_third : List ℕ} {b c : ℕ} (route : Route)
    (n word lower_at place : ℕ) → IsTable first second third
    → route.address < 2 ^ 32 → n ≡ route.len → 24 < n → n ≤ 32 → word ≡ route.value + 1 → word < 65537
    → lower_at ≡ b * 256 + route.address / 256 % 256 → place ≡ c * 256 + route.address % 256
    → Opens first second newer_first newer_second (route.address / 65536) b → Opens newer_second third last_second newer_third lower_at c
    → Fills newer_third last_third place (32 - n) word
    → (a : ℕ) → a < 2 ^ 32 → walk newer_first last_second last_third a ≡ taken route a (walk first second third a)
taken_third {first} {second} {third} {newer_first} {newer_second} {last_second} {newer_third} {last_third} {b} {c} route n word lower_at place table
    fits n_is long short word_is leaf lower_at_is place_is opens lower_opens fills a a_fits =
    let filled = rw (n_is, word_is, place_is) at fills in
    let opened : get_or last_second (b * 256 + route.address / 256 % 256) 0 ≡ 65537 + c = sym (ap (λ n. get_or last_second n 0) lower_at_is)
    ∙ lower_opens.opened in
    let whole = opens.same_length ∙ table.all_addresses in
    let links = AreLinks-lower opens.links lower_opens.same_length in
    walk-filled_third route b c (omega arith) (omega arith) (omega arith) fits whole links lower_opens.links opens.opened opened filled a a_fits
    ∙ ap (taken route a) (walk-opened_second opens.links lower_opens whole a a_fits ∙ walk-opened_first third opens table.all_addresses a a_fits)

-- a place in a block that was opened is there
pub place_within : {upper lower newer_upper newer_lower : List ℕ} {at b : ℕ} (place bits : ℕ) → Opens upper lower newer_upper newer_lower at b
    → at < length upper → place ≡ b * 256 + bits % 256 → place < length newer_lower
place_within {upper} {lower} {newer_upper} {newer_lower} {at} {b} place bits opens within place_is =
    let opened = opens.opened in
    let block = opens.links.blocks at (omega (arith, opens.same_length)) (omega arith) in
    omega arith
