-- Expiry of the oldest indices, one by one.
use Rattle.std.proofs.Common.{◌≡◌, ℕ, suc, ◌+◌, ◌<◌, ◌≤◌, ◌≢◌, List, [], ◌∷◌, ◌++◌, length, take, drop, Some, None, refl, sym, ◌∙◌, ap, subst, arith}
use Rattle.std.proofs.Common.{false, cond, inl, inr}
use Rattle.std.specs.Prelude.{◌⊎◌, All, reverse, slice_get, unwrap_or, is_some, IsSome}
use Rattle.std.specs.Str.{bytes_eq}
use Rattle.std.specs.Ordering.{nat_cmp}
use Rattle.std.specs.Cmp.Lexicographic.{slice_cmp}
use Rattle.std.specs.FinMap.{get, get-empty, remove, len, empty_of_len}
use Rattle.std.proofs.lemmas.Bool.{cases_lt, eq-eqb, ne_eqb}
use Rattle.std.proofs.lemmas.List.{map-append, reverse-append}
use Rattle.std.proofs.lemmas.List.Elements.{All-nil, All-cons, All-append}
use Rattle.std.proofs.lemmas.List.Sums.{fold-append}
use Rattle.vg_map.specs.Map.{Indices, FixedMap, without_key}
use Rattle.vg_dchain.specs.Indices.{IsAbsent, IsDistinct, AllBelow}
use Rattle.vg_dchain.specs.ChainState.{ChainState, IsLawful, time_at, others, oldest_below, after_freeing, indices}
use Rattle.vg_dchain.proofs.IndexLemmas.{IsDistinct-front, AllBelow-front}
use Rattle.vg_vector.specs.Cells.{CellList}
use Rattle.vg_plain.proofs.ListPlaces.{some_is, none_some}
use Rattle.vg_plain.proofs.KeySlots.{bytes_cases}
use Rattle.vg_store.specs.RealLinks.{AreTied, without_keys, after_expiry}
use Rattle.vg_store.proofs.TableLaws.{index_erased, size_erased}
use Rattle.vg_store.proofs.Ages.{IsFirst, first_below, Behind, behind, others_first, time_absent, all_late}

some_keys : (m : Indices) (key : List ℕ) → IsSome (get m key) → 0 < len m
some_keys m key is = elim (cases_lt 0 (len m)) [
  | inl more ↦ more
  | inr none ↦ absurd (let no : get m key ≡ None = ap (λ (n : Indices). get n key) (empty_of_len m (omega arith))
      ∙ get-empty (slice_cmp nat_cmp) key in let off : is_some (get m key) ≡ false = ap is_some no in cc)
]

-- so many of the oldest are free
pub record Expiring (before : ℕ) (was_keys : FixedMap) (was : ChainState) (cells : CellList) (keys : FixedMap) (ages : ChainState) (freed : ℕ) : Type 0 where
  pub within : freed ≤ length was.entries
  pub ages_are : ages ≡ after_expiry was freed
  pub lawful : IsLawful ages
  pub keys_are : keys ≡ without_keys cells.cells was_keys (take freed was.entries)
  pub counted : len keys.indices + freed ≡ len was_keys.indices
  pub early : All (λ entry. entry.1 < before) (take freed was.entries)
  pub tied : AreTied keys ages.entries cells.cells
  pub size : cells.size ≡ keys.key_len
  pub whole : length cells.cells ≡ ages.range

pub expiring_start : (before : ℕ) (keys : FixedMap) (ages : ChainState) (cells : CellList) → cells.size ≡ keys.key_len
    → length cells.cells ≡ ages.range → IsLawful ages → AreTied keys ages.entries cells.cells →
    Expiring before keys ages cells keys ages 0
expiring_start before keys ages cells size whole lawful tied = record {
  within = omega arith;
  ages_are = refl;
  lawful = lawful;
  keys_are = refl;
  counted = omega arith;
  early = All-nil (λ (entry : ℕ × ℕ). entry.1 < before);
  tied = tied;
  size = size;
  whole = whole;
}

pub no_more : (before : ℕ) (was_keys : FixedMap) (was : ChainState) (cells : CellList) (keys : FixedMap) (ages : ChainState) (freed : ℕ)
    → Expiring before was_keys was cells keys ages freed →
    oldest_below before ages.entries ≡ None → All (λ entry. before ≤ entry.1) (drop freed was.entries)
no_more before was_keys was cells keys ages freed x none = all_late before (drop freed was.entries)
    (sym (ap (λ (a : ChainState). oldest_below before a.entries) x.ages_are) ∙ none)

module _ (before : ℕ) (was_keys : FixedMap) (was : ChainState) (cells : CellList) (keys : FixedMap) (ages : ChainState) (freed i : ℕ)
    (x : Expiring before was_keys was cells keys ages freed) (oldest : oldest_below before ages.entries ≡ Some i) where
  pub first : IsFirst before i ages.entries
  first = first_below before 0 ages.highest i ages.entries x.lawful.rises oldest

  next : Behind freed (i, first.time) first.rest was.entries
  next = behind freed (i, first.time) first.rest was.entries (sym (ap (λ (a : ChainState). a.entries) x.ages_are) ∙ first.is)

  absent : IsAbsent i (indices first.rest)
  absent = (subst (λ (es : List (ℕ × ℕ)). IsDistinct (indices es)) first.is (IsDistinct-front (indices ages.entries) ages.free x.lawful.distinct)).0

  pub handed : time_at ages.entries i ≡ Some first.time
  handed = ap (λ (es : List (ℕ × ℕ)). time_at es i) first.is ∙ ap (λ b. cond b (Some first.time) (time_at first.rest i)) (eq-eqb i i refl)

  -- its cell is there, and holds a key
  pub cell_inside : i < length cells.cells
  cell_inside =
      let below : AllBelow ages.range (i ∷ indices first.rest) = subst (λ (es : List (ℕ × ℕ)). AllBelow ages.range (indices es)) first.is
      (AllBelow-front ages.range (indices ages.entries) ages.free x.lawful.below) in
      let less : i < ages.range = below.0 in omega (arith, x.whole)

  mapped : (key : List ℕ) → slice_get cells.cells i ≡ Some key → get keys.indices key ≡ Some i
  mapped key there =
      let pair = x.tied i first.time handed in
      ap (λ (k : List ℕ). get keys.indices k) (some_is key pair.0 (sym there ∙ pair.1)) ∙ pair.2

  pub present : (key : List ℕ) → slice_get cells.cells i ≡ Some key → IsSome (get keys.indices key)
  present key there = ap is_some (mapped key there)

  stays_tied : (key : List ℕ) → slice_get cells.cells i ≡ Some key → AreTied (without_key keys key) first.rest cells.cells
  stays_tied key there index time is =
      let other : index ≢ i = λ same. none_some time (sym (time_absent first.rest i absent) ∙ ap (λ (k : ℕ). time_at first.rest k) (sym same) ∙ is) in
      let old : time_at ages.entries index ≡ Some time = ap (λ (es : List (ℕ × ℕ)). time_at es index) first.is
      ∙ ap (λ b. cond b (Some first.time) (time_at first.rest index)) (ne_eqb i index (λ same. other (sym same))) ∙ is in
      let pair = x.tied index time old in
      (pair.0, pair.1, index_erased keys.indices key pair.0 ∙ kept pair.0 index other pair.2 (bytes_cases key pair.0))
    where
      kept : (k : List ℕ) (index : ℕ) → index ≢ i → get keys.indices k ≡ Some index → (key ≡ k) ⊎ (bytes_eq key k ≡ false)
          → cond (bytes_eq key k) None (get keys.indices k) ≡ Some index
      kept k index other there_k (inl same) =
          absurd (other (some_is index i (sym there_k ∙ ap (λ (j : List ℕ). get keys.indices j) (sym same) ∙ mapped key there)))
      kept k index other there_k (inr ne) = ap (λ b. cond b None (get keys.indices k)) ne ∙ there_k

  freed_more : after_freeing ages i ≡ after_expiry was (suc freed)
  freed_more =
      let entries_are : others (drop freed was.entries) i ≡ drop (suc freed) was.entries =
      ap (λ (l : List (ℕ × ℕ)). others l i) (sym (ap (λ (a : ChainState). a.entries) x.ages_are) ∙ first.is)
      ∙ others_first i first.time first.rest absent ∙ sym next.left in
      let free_is : i ∷ reverse (indices (take freed was.entries)) ++ was.free ≡ reverse (indices (take (suc freed) was.entries)) ++ was.free =
      sym (ap (λ (l : List (ℕ × ℕ)). reverse (indices l) ++ was.free) next.done
      ∙ ap (λ (l : List ℕ). reverse l ++ was.free) (map-append (λ (entry : ℕ × ℕ). entry.0) (take freed was.entries) ((i, first.time) ∷ []))
      ∙ ap (λ (l : List ℕ). l ++ was.free) (reverse-append (indices (take freed was.entries)) (i ∷ []))) in
      ap (λ (a : ChainState). after_freeing a i) x.ages_are
      ∙ ap (λ (l : List (ℕ × ℕ)). record was { entries = l; free = i ∷ reverse (indices (take freed was.entries)) ++ was.free }) entries_are
      ∙ ap (λ (l : List ℕ). record was { entries = drop (suc freed) was.entries; free = l }) free_is

  pub expiring_next : (now : ChainState) (now_keys : FixedMap) (key : List ℕ) → now ≡ after_freeing ages i → IsLawful now
      → slice_get cells.cells i ≡ Some key → now_keys ≡ without_key keys key →
      Expiring before was_keys was cells now_keys now (suc freed)
  expiring_next now now_keys key now_is lawful there keys_is =
      let left : now.entries ≡ first.rest = ap (λ (a : ChainState). a.entries) now_is ∙ ap (λ (l : List (ℕ × ℕ)). others l i) first.is
      ∙ others_first i first.time first.rest absent in
      let one = present key there in
      record {
        within = (let less : freed < length was.entries = next.inside in omega arith);
        ages_are = now_is ∙ freed_more;
        lawful = lawful;
        keys_are = keys_is
            ∙ ap (λ (m : FixedMap). without_key m key) x.keys_are
            ∙ ap (λ (b : List ℕ). without_key (without_keys cells.cells was_keys (take freed was.entries)) b) (sym (ap (λ o. unwrap_or o []) there))
            ∙ sym (fold-append (λ left entry. without_key left (unwrap_or (slice_get cells.cells entry.0) [])) was_keys (take freed was.entries)
            ((i, first.time) ∷ []))
            ∙ sym (ap (λ (l : List (ℕ × ℕ)). without_keys cells.cells was_keys l) next.done);
        counted = (let sizes : len now_keys.indices ≡ len (remove keys.indices key) = ap (λ (m : FixedMap). len m.indices) keys_is in
            omega (arith, sizes, size_erased keys.indices key one, some_keys keys.indices key one, x.counted));
        early = subst (λ (l : List (ℕ × ℕ)). All (λ entry. entry.1 < before) l) (sym next.done)
            (All-append (λ (entry : ℕ × ℕ). entry.1 < before) (take freed was.entries) ((i, first.time) ∷ []) x.early
            (All-cons (λ (entry : ℕ × ℕ). entry.1 < before) (i, first.time) [] first.early (All-nil (λ (entry : ℕ × ℕ). entry.1 < before))));
        tied = subst (λ (m : FixedMap). AreTied m now.entries cells.cells) (sym keys_is) (subst
            (λ (l : List (ℕ × ℕ)). AreTied (without_key keys key) l cells.cells) (sym left) (stays_tied key there));
        size = x.size ∙ sym (ap (λ (m : FixedMap). m.key_len) keys_is);
        whole = x.whole ∙ sym (ap (λ (a : ChainState). a.range) now_is);
      }
