-- What a call on one of its containers makes of a link.
use Rattle.std.proofs.Common.{◌≡◌, ℕ, ◌-◌, ◌<◌, List, [], ◌∷◌, ◌++◌, length, replicate, Option, Some, None, slice_get, refl, sym, ◌∙◌, ap, arith}
use Rattle.std.proofs.Common.{Bool, true, false, cond}
use Rattle.std.specs.Prelude.{IsSome, IfSome}
use Rattle.std.specs.Option.{option_map}
use Rattle.std.specs.FinMap.{get, empty, get-empty, len-empty}
use Rattle.std.specs.List.{range_with_len}
use Rattle.std.specs.Ordering.{nat_cmp}
use Rattle.std.specs.Cmp.Lexicographic.{slice_cmp}
use Rattle.vg_abs.specs.Opening.{opening_link}
use Rattle.vg_plain.proofs.KeySlots.{same_keys}
use Rattle.vg_store.specs.RealTables.{key_table}
use Rattle.std.specs.Str.{bytes_eq}
use Rattle.std.proofs.lemmas.List.{length_push, length-replicate}
use Rattle.vg_map.specs.Map as maps
use Rattle.vg_dchain.specs.ChainState.{ChainState, IsFree, IsLawful, time_at, others, after_allocation, after_rejuvenation, after_freeing}
use Rattle.vg_vector.specs.Cells as cells
use Rattle.vg_abs.specs.Effects.{with_key, without_key, with_index, with_time, without_index, with_cell}
use Rattle.vg_plain.specs.LinkStates.{with_link}
use Rattle.vg_plain.proofs.ListPlaces.{none_some, bytes_true}
use Rattle.vg_plain.proofs.Places.{cell_is, cell_set, zeros}
use Rattle.vg_store.specs.RealLinks.{Parts, AreLinked, link_of, seen}
use Rattle.vg_store.proofs.TableLaws.{key_is, age_is, index_put, index_erased, table_put, table_erased, size_put, size_erased, ages_pushed}
use Rattle.vg_store.proofs.TableLaws.{ages_freed, ages_moved}

pub put_seen : (p : Parts) (key : List ℕ) (index : ℕ) → get p.keys.indices key ≡ None → seen (record p { keys = maps.with_key p.keys key index }) ≡
    with_link (seen p) (with_key (link_of p) key index)
put_seen p key index absent = rw (table_put p.keys.indices key index, size_put p.keys.indices key index absent) refl

pub erase_seen : (p : Parts) (key : List ℕ) → IsSome (get p.keys.indices key) → seen (record p { keys = maps.without_key p.keys key }) ≡ with_link
    (seen p) (without_key true (link_of p) key)
erase_seen p key present = rw (table_erased p.keys.indices key, size_erased p.keys.indices key present) refl

pub allocate_seen : (p : Parts) (i now : ℕ) → time_at p.ages.entries i ≡ None → seen (record p { ages = after_allocation p.ages i now }) ≡ with_link
    (seen p) (with_index (link_of p) i now)
allocate_seen p i now none = rw (ages_pushed p.ages.entries i now none, length_push p.ages.entries (i, now)) refl

-- one entry less, by the counts of free indices
fewer : (c : ChainState) (i : ℕ) → IsLawful c → IsLawful (after_freeing c i) → length (others c.entries i) ≡ length c.entries - 1
fewer c i was now = omega (arith, was.count, now.count)

pub free_seen : (p : Parts) (i : ℕ) → IsLawful p.ages → IsLawful (after_freeing p.ages i) → seen (record p { ages = after_freeing p.ages i }) ≡
    with_link (seen p) (without_index true (link_of p) i)
free_seen p i was now = rw (ages_freed p.ages.entries i, fewer p.ages i was now) refl

as_many : (c : ChainState) (i now : ℕ) → IsLawful c → IsLawful (after_rejuvenation c i now) → length (others c.entries i ++ (i, now) ∷ []) ≡ length c.entries
as_many c i now was is = omega (arith, was.count, is.count)

pub rejuvenate_seen : (p : Parts) (i now : ℕ) → IsLawful p.ages → IsLawful (after_rejuvenation p.ages i now)
    → seen (record p { ages = after_rejuvenation p.ages i now }) ≡ with_link (seen p) (with_time (link_of p) i now)
rejuvenate_seen p i now was is = rw (ages_moved p.ages.entries i now, as_many p.ages i now was is) refl

pub cell_seen : (p : Parts) (i : ℕ) → get (link_of p).cells i ≡ slice_get p.cells.cells i
cell_seen p i = cell_is p.cells.cells i

pub store_seen : (p : Parts) (i : ℕ) (bytes : List ℕ) → i < length p.cells.cells → seen (record p { cells = cells.with_cell p.cells i bytes }) ≡
    with_link (seen p) (with_cell (link_of p) i bytes)
store_seen p i bytes inside = rw (cell_set p.cells.cells i bytes inside) refl

-- the parts stay of one link
long_put : (length_is : ℕ) (b : Bool) (key other : List ℕ) (index new : ℕ) (found : Option ℕ) → length key ≡ length_is → (b ≡ true → other ≡ key)
    → (found ≡ Some index → length other ≡ length_is) → cond b (Some new) found ≡ Some index → length other ≡ length_is
long_put length_is true key other index new found long same was is = ap (λ (k : List ℕ). length k) (same refl) ∙ long
long_put length_is false key other index new found long same was is = was is

long_erased : (length_is : ℕ) (b : Bool) (other : List ℕ) (index : ℕ) (found : Option ℕ) → (found ≡ Some index → length other ≡ length_is)
    → cond b None found ≡ Some index → length other ≡ length_is
long_erased length_is true other index found was is = absurd (none_some index is)
long_erased length_is false other index found was is = was is

pub put_linked : (p : Parts) (key : List ℕ) (index : ℕ) → AreLinked p → length key ≡ p.keys.key_len
    → AreLinked (record p { keys = maps.with_key p.keys key index })
put_linked p key index linked long = record {
  room = linked.room;
  cells = linked.cells;
  loans = linked.loans;
  size = linked.size;
  long = λ other at is. long_put p.keys.key_len (bytes_eq other key) key other at index (get p.keys.indices other) long (bytes_true other key)
      (linked.long other at) (sym (index_put p.keys.indices key other index) ∙ is);
  lawful = linked.lawful;
}

pub erase_linked : (p : Parts) (key : List ℕ) → AreLinked p → AreLinked (record p { keys = maps.without_key p.keys key })
erase_linked p key linked = record {
  room = linked.room;
  cells = linked.cells;
  loans = linked.loans;
  size = linked.size;
  long = λ other at is. long_erased p.keys.key_len (bytes_eq key other) other at (get p.keys.indices other) (linked.long other at)
      (sym (index_erased p.keys.indices key other) ∙ is);
  lawful = linked.lawful;
}

pub ages_linked : (p : Parts) (ages : ChainState) → AreLinked p → ages.range ≡ p.ages.range → IsLawful ages → AreLinked (record p { ages = ages })
ages_linked p ages linked same lawful = record {
  room = linked.room ∙ sym same;
  cells = linked.cells ∙ sym same;
  loans = linked.loans ∙ sym same;
  size = linked.size;
  long = linked.long;
  lawful = lawful;
}

pub cells_linked : (p : Parts) (now : cells.CellList) → AreLinked p → length now.cells ≡ length p.cells.cells → length now.lent ≡ length p.cells.lent
    → now.size ≡ p.cells.size → AreLinked (record p { cells = now })
cells_linked p now linked cells loans size = record {
  room = linked.room;
  cells = cells ∙ linked.cells;
  loans = loans ∙ linked.loans;
  size = size ∙ linked.size;
  long = linked.long;
  lawful = linked.lawful;
}

-- an allocation
pub free_time : (p : Parts) (i : Option ℕ) → IfSome i (λ index. IsFree p.ages index) → IfSome i (λ index. get (link_of p).times index ≡ None)
free_time p None free = tt
free_time p (Some i) free = age_is p.ages.entries i ∙ ap (λ (o : Option ℕ). option_map Some o) free.not_handed

pub handed_seen : (p : Parts) (ages : ChainState) (now : ℕ) (i : Option ℕ) → IfSome i (λ index. IsFree p.ages index)
    → IfSome i (λ index. ages ≡ after_allocation p.ages index now) →
    IfSome i (λ index. seen (record p { ages = ages }) ≡ with_link (seen p) (with_index (link_of p) index now))
handed_seen p ages now None free is = tt
handed_seen p ages now (Some i) free is = rw is (allocate_seen p i now free.not_handed)

-- a link at the start
pub record Opens (p : Parts) (capacity key_length : ℕ) : Type 0 where
  pub keys : p.keys ≡ maps.empty_map capacity key_length
  pub ages : p.ages ≡ record { range = capacity; entries = []; free = range_with_len 0 capacity; highest = 0 }
  pub lawful : IsLawful p.ages
  pub size : p.cells.size ≡ key_length
  pub zeros : p.cells.cells ≡ replicate capacity (replicate key_length 0)
  pub free : p.cells.lent ≡ replicate capacity false

pub opens_linked : (p : Parts) (capacity key_length : ℕ) → Opens p capacity key_length → AreLinked p
opens_linked p capacity key_length opens =
    let range : p.ages.range ≡ capacity = ap (λ (a : ChainState). a.range) opens.ages in
    record {
      room = ap (λ (m : maps.FixedMap). m.capacity) opens.keys ∙ sym range;
      cells = ap length opens.zeros ∙ length-replicate capacity (replicate key_length 0) ∙ sym range;
      loans = ap length opens.free ∙ length-replicate capacity false ∙ sym range;
      size = opens.size ∙ sym (ap (λ (m : maps.FixedMap). m.key_len) opens.keys);
      long = λ key index is. absurd (none_some index (sym (get-empty (slice_cmp nat_cmp) key)
          ∙ sym (ap (λ (m : maps.FixedMap). get m.indices key) opens.keys) ∙ is));
      lawful = opens.lawful;
    }

no_keys : key_table empty ≡ empty
no_keys = same_keys _ _ (λ key. key_is empty key ∙ ap (λ (o : Option ℕ). option_map Some o) (get-empty (slice_cmp nat_cmp) key)
    ∙ sym (get-empty (slice_cmp nat_cmp) key))

pub opens_seen : (p : Parts) (capacity key_length : ℕ) → Opens p capacity key_length → seen p ≡
    record { link = opening_link capacity key_length; lent = replicate capacity false }
opens_seen p capacity key_length opens = rw (
  opens.keys,
  opens.ages,
  opens.zeros,
  opens.free,
  no_keys,
  len-empty (slice_cmp nat_cmp) ℕ,
  zeros capacity key_length,
) refl
