-- What an expiry of the oldest makes of a link.
use Rattle.std.proofs.Common.{◌≡◌, ℕ, ◌+◌, ◌-◌, ◌<◌, ◌≤◌, List, [], ◌∷◌, ◌++◌, length, take, drop, Some, None, Option, refl, sym, ◌∙◌, ap, subst}
use Rattle.std.proofs.Common.{arith, Bool, true, false, cond, inl, inr}
use Rattle.std.specs.Prelude.{All, slice_get, unwrap_or, nat_lt, ◌&&◌, ◌||◌, count_by}
use Rattle.std.specs.List.{list_any}
use Rattle.std.specs.Option.{option_map}
use Rattle.std.specs.Str.{bytes_eq}
use Rattle.std.specs.Cmp.{nat_cmp_total}
use Rattle.std.specs.Cmp.Lexicographic.{nat_list_cmp_total}
use Rattle.std.specs.FinMap.{get, len, entries, nat_cmp-IsAntisymmetric, slice_cmp-IsAntisymmetric}
use Rattle.std.proofs.lemmas.Bool.{cases_lt, lt-ltb, le-ltb}
use Rattle.std.proofs.lemmas.List.{take-append-drop, length-drop}
use Rattle.std.proofs.lemmas.Option.{slice_get_within}
use Rattle.vg_map.specs.Map.{FixedMap, without_key}
use Rattle.vg_dchain.specs.Indices.{IsDistinct, AllBelow}
use Rattle.vg_dchain.specs.ChainState.{ChainState, IsLawful, time_at, indices}
use Rattle.vg_dchain.proofs.IndexLemmas.{IsDistinct-front, AllBelow-front}
use Rattle.vg_abs.specs.Answers.{is_before, count_before}
use Rattle.vg_abs.specs.Effects.{without, expires, is_key_of, key_expires, expired}
use Rattle.vg_abs.proofs.Forgetting.{forgets}
use Rattle.vg_plain.specs.LinkStates.{with_link}
use Rattle.vg_plain.proofs.ListPlaces.{some_is, none_some, bytes_same}
use Rattle.vg_plain.proofs.KeySlots.{same_keys}
use Rattle.vg_plain.proofs.Places.{same_numbers, cell_is, time_list, time_entries}
use Rattle.vg_plain.proofs.ExpiredLinks.{both, same_bool, Found, any_found, any_there, of_key, early_entries}
use Rattle.vg_store.specs.RealTables.{key_table, age_table}
use Rattle.vg_store.specs.RealLinks.{Parts, AreLinked, AreTied, without_keys, link_of, seen, after_expiry}
use Rattle.vg_store.proofs.TableLaws.{key_is, age_is, index_erased}
use Rattle.vg_store.proofs.Ages.{time_past, time_front, time_back, time_apart, all_at, any_at, Passes, at_any, early_are}
use Rattle.vg_store.proofs.TimeLists.{times_of, length_times, times_at, age_times, early_times}

-- the key in a cell
abbrev cell_at : List (List ℕ) → ℕ → List ℕ
cell_at cells i = unwrap_or (slice_get cells i) []

abbrev is_at : List (List ℕ) → List ℕ → ℕ → Bool
is_at cells key i = bytes_eq (cell_at cells i) key

gone_twice : (a b : Bool) (found : Option ℕ) → cond a None (cond b None found) ≡ cond (b || a) None found
gone_twice true true found = refl
gone_twice true false found = refl
gone_twice false true found = refl
gone_twice false false found = refl

pub index_without : (cells : List (List ℕ)) (m : FixedMap) (es : List (ℕ × ℕ)) (key : List ℕ)
    → get (without_keys cells m es).indices key ≡ cond (list_any (λ entry. is_at cells key entry.0) es) None (get m.indices key)
index_without cells m [] key = refl
index_without cells m (e ∷ es) key =
    index_without cells (without_key m (cell_at cells e.0)) es key
    ∙ ap (λ o. cond (list_any (λ (entry : ℕ × ℕ). is_at cells key entry.0) es) None o) (index_erased m.indices (cell_at cells e.0) key)
    ∙ gone_twice (list_any (λ (entry : ℕ × ℕ). is_at cells key entry.0) es) (is_at cells key e.0) (get m.indices key)

pub same_shape : (cells : List (List ℕ)) (m : FixedMap) (es : List (ℕ × ℕ)) → ((without_keys cells m es).capacity ≡ m.capacity)
    × ((without_keys cells m es).key_len ≡ m.key_len)
same_shape cells m [] = (refl, refl)
same_shape cells m (e ∷ es) = same_shape cells (without_key m (cell_at cells e.0)) es

only_some : (b : Bool) (index : ℕ) (found : Option ℕ) → cond b None found ≡ Some index → found ≡ Some index
only_some true index found is = absurd (none_some index is)
only_some false index found is = is

none_mapped : (b : Bool) (found : Option ℕ) → option_map Some (cond b None found) ≡ cond b None (option_map Some found)
none_mapped true found = refl
none_mapped false found = refl

-- a link, and how many of its indices were freed
module _ (p : Parts) (before n : ℕ) (lawful : IsLawful p.ages) (tied : AreTied p.keys p.ages.entries p.cells.cells) (within : n ≤ length p.ages.entries)
    (early : All (λ entry. entry.1 < before) (take n p.ages.entries)) (late : All (λ entry. before ≤ entry.1) (drop n p.ages.entries)) where
  below : AllBelow p.ages.range (indices p.ages.entries)
  below = AllBelow-front p.ages.range (indices p.ages.entries) p.ages.free lawful.below

  distinct : IsDistinct (indices p.ages.entries)
  distinct = IsDistinct-front (indices p.ages.entries) p.ages.free lawful.distinct

  joined : take n p.ages.entries ++ drop n p.ages.entries ≡ p.ages.entries
  joined = take-append-drop n p.ages.entries

  pub freed_are : Some n ≡ count_before true (link_of p) before
  freed_are = ap (λ (k : ℕ). Some k) (sym (early_are before n p.ages.entries within early late)
      ∙ sym (early_times before p.ages.range p.ages.entries below distinct) ∙ early_entries before (times_of p.ages.range p.ages.entries)
      ∙ sym (ap (λ t. count_by (λ (entry : ℕ × Option ℕ). is_before before (Some entry.1)) (entries t)) (age_times p.ages.range p.ages.entries below)))

  -- which indices are freed
  is_freed : (q t : ℕ) → time_at p.ages.entries q ≡ Some t → t < before → (time : ℕ) × (time_at (take n p.ages.entries) q ≡ Some time)
  is_freed q t there less = go (time_at (take n p.ages.entries) q) refl
    where
      go : (found : Option ℕ) → time_at (take n p.ages.entries) q ≡ found → (time : ℕ) × (time_at (take n p.ages.entries) q ≡ Some time)
      go (Some time) is = (time, is)
      go None is = absurd (
          let behind : time_at (drop n p.ages.entries) q ≡ Some t = sym (time_back (take n p.ages.entries) (drop n p.ages.entries) q is)
          ∙ ap (λ (l : List (ℕ × ℕ)). time_at l q) joined ∙ there in
          let more : before ≤ t = all_at (λ (k : ℕ). before ≤ k) (drop n p.ages.entries) q t late behind in omega arith)

  front_time : (q t : ℕ) → time_at (take n p.ages.entries) q ≡ Some t → time_at p.ages.entries q ≡ Some t
  front_time q t there = sym (ap (λ (l : List (ℕ × ℕ)). time_at l q) joined) ∙ time_front (take n p.ages.entries) (drop n p.ages.entries) q t there

  front_early : (q t : ℕ) → time_at (take n p.ages.entries) q ≡ Some t → t < before
  front_early q t there = all_at (λ (k : ℕ). k < before) (take n p.ages.entries) q t early there

  front_gone : (q t : ℕ) → time_at (take n p.ages.entries) q ≡ Some t → time_at (drop n p.ages.entries) q ≡ None
  front_gone q t there = time_apart (take n p.ages.entries) (drop n p.ages.entries) q t (subst (λ (l : List (ℕ × ℕ)). IsDistinct (indices l))
      (sym joined) distinct) there

  back_time : (q : ℕ) → time_at (take n p.ages.entries) q ≡ None → time_at (drop n p.ages.entries) q ≡ time_at p.ages.entries q
  back_time q none = sym (time_back (take n p.ages.entries) (drop n p.ages.entries) q none) ∙ ap (λ (l : List (ℕ × ℕ)). time_at l q) joined

  inside : (q t : ℕ) → time_at p.ages.entries q ≡ Some t → q < p.ages.range
  inside q t there = elim (cases_lt q p.ages.range) [
    | inl less ↦ less
    | inr past ↦ absurd (none_some t (sym (time_past p.ages.range p.ages.entries q below past) ∙ there))
  ]

  goes : (q t : ℕ) → time_at p.ages.entries q ≡ Some t → expires true (link_of p) before q ≡ nat_lt t before
  goes q t there =
      let found : get (age_table p.ages.entries) q ≡ Some (Some t) = age_is p.ages.entries q ∙ ap (λ (o : Option ℕ). option_map Some o) there in
      rw (lt-ltb q p.ages.range (inside q t there), found) refl

  left : (q : ℕ) (found front : Option ℕ) → time_at p.ages.entries q ≡ found → time_at (take n p.ages.entries) q ≡ front →
      option_map Some (time_at (drop n p.ages.entries) q) ≡ cond (expires true (link_of p) before q) None (option_map Some found)
  left q None None there none = ap (λ (o : Option ℕ). option_map Some o) (back_time q none ∙ there) ∙ sym (no_matter (expires true (link_of p) before q))
    where
      no_matter : (b : Bool) → ◌≡◌ {A = Option (Option ℕ)} (cond b None None) None
      no_matter true = refl
      no_matter false = refl
  left q None (Some t) there here = absurd (none_some t (sym there ∙ front_time q t here))
  left q (Some t) (Some u) there here =
      let same : u ≡ t = some_is u t (sym (front_time q u here) ∙ there) in
      let less : u < before = front_early q u here in
      ap (λ (o : Option ℕ). option_map Some o) (front_gone q u here)
      ∙ sym (ap (λ b. cond b None (Some (Some t))) (goes q t there ∙ lt-ltb t before (omega arith)))
  left q (Some t) None there none = elim (cases_lt t before) [
    | inl less ↦ absurd (let freed = is_freed q t there less in none_some freed.0 (sym none ∙ freed.1))
    | inr more ↦ ap (λ (o : Option ℕ). option_map Some o) (back_time q none ∙ there) ∙ sym
        (ap (λ b. cond b None (Some (Some t))) (goes q t there ∙ le-ltb t before more))
  ]

  pub ages_expired : age_table (drop n p.ages.entries) ≡ without true (expires true (link_of p) before) (age_table p.ages.entries)
  ages_expired = same_numbers _ _ (λ q. age_is (drop n p.ages.entries) q ∙ left q (time_at p.ages.entries q) (time_at (take n p.ages.entries) q) refl refl
      ∙ ap (λ o. cond (expires true (link_of p) before q) None o) (sym (age_is p.ages.entries q))
      ∙ sym ((forgets nat_cmp_total nat_cmp-IsAntisymmetric).of_full (expires true (link_of p) before) (age_table p.ages.entries) q))

  -- which keys are erased
  abbrev test : List ℕ → (ℕ × Option ℕ) → Bool
  test key entry = is_before before (Some entry.1) && is_key_of (get (link_of p).cells entry.0) key

  listed_same : (key : List ℕ) → key_expires (link_of p) before key ≡ list_any (test key) (time_list 0 (times_of p.ages.range p.ages.entries))
  listed_same key = ap (λ t. list_any (test key) (entries t)) (age_times p.ages.range p.ages.entries below)
      ∙ ap (λ es. list_any (test key) es) (time_entries 0 (times_of p.ages.range p.ages.entries))

  is_gone : (key : List ℕ) → Passes (is_at p.cells.cells key) (take n p.ages.entries) → key_expires (link_of p) before key ≡ true
  is_gone key found =
      let there = front_time found.index found.time found.there in
      let pair = tied found.index found.time there in
      let less = front_early found.index found.time found.there in
      let zero_is : 0 + found.index ≡ found.index = omega arith in
      let here : slice_get (times_of p.ages.range p.ages.entries) found.index ≡ Some (Some found.time) =
      times_at p.ages.range p.ages.entries found.index below (inside found.index found.time there) ∙ ap (λ (o : Option ℕ). Some o) there in
      let cell : get (link_of p).cells (0 + found.index) ≡ Some pair.0 = ap (λ (k : ℕ). get (link_of p).cells k) zero_is
      ∙ cell_is p.cells.cells found.index ∙ pair.1 in
      let same : bytes_eq pair.0 key ≡ true = sym (ap (λ o. bytes_eq (unwrap_or o []) key) pair.1) ∙ found.passes in
      listed_same key ∙ any_there (test key) 0 found.index found.time (times_of p.ages.range p.ages.entries) here
      (ap (λ b. b && is_key_of (get (link_of p).cells (0 + found.index)) key) (lt-ltb found.time before less) ∙ ap (λ o. is_key_of o key) cell ∙ same)

  is_early_time : (t : ℕ) → nat_lt t before ≡ true → t < before
  is_early_time t is = elim (cases_lt t before) [
    | inl less ↦ less
    | inr more ↦ absurd (let off = le-ltb t before more in cc)
  ]

  was_gone : (key : List ℕ) → Found (test key) 0 (times_of p.ages.range p.ages.entries) → list_any (λ entry. is_at p.cells.cells key entry.0)
      (take n p.ages.entries) ≡ true
  was_gone key found =
      let less : found.index < p.ages.range =
      omega (
        arith,
        slice_get_within (times_of p.ages.range p.ages.entries) found.index (Some found.time) found.there,
        length_times p.ages.range p.ages.entries,
      ) in
      let there : time_at p.ages.entries found.index ≡ Some found.time =
      some_is (time_at p.ages.entries found.index) (Some found.time) (sym (times_at p.ages.range p.ages.entries found.index below less) ∙ found.there) in
      let zero_is : 0 + found.index ≡ found.index = omega arith in
      let parts = both (nat_lt found.time before) (is_key_of (get (link_of p).cells (0 + found.index)) key) found.passes in
      let freed = is_freed found.index found.time there (is_early_time found.time parts.0) in
      let cell : slice_get p.cells.cells found.index ≡ Some key =
      sym (cell_is p.cells.cells found.index) ∙ ap (λ (k : ℕ). get (link_of p).cells k) (sym zero_is)
      ∙ of_key (get (link_of p).cells (0 + found.index)) key parts.1 in
      any_at (is_at p.cells.cells key) (take n p.ages.entries) found.index freed.0 freed.1 (ap (λ o. bytes_eq (unwrap_or o []) key) cell ∙ bytes_same key)

  pub keys_expired : key_table (without_keys p.cells.cells p.keys (take n p.ages.entries)).indices ≡ without true (key_expires (link_of p) before)
      (key_table p.keys.indices)
  keys_expired = same_keys _ _ (λ key. key_is (without_keys p.cells.cells p.keys (take n p.ages.entries)).indices key
      ∙ ap (λ (o : Option ℕ). option_map Some o) (index_without p.cells.cells p.keys (take n p.ages.entries) key)
      ∙ none_mapped (list_any (λ (entry : ℕ × ℕ). is_at p.cells.cells key entry.0) (take n p.ages.entries)) (get p.keys.indices key)
      ∙ ap (λ b. cond b None (option_map Some (get p.keys.indices key)))
      (same_bool (list_any (λ (entry : ℕ × ℕ). is_at p.cells.cells key entry.0) (take n p.ages.entries)) (key_expires (link_of p) before key)
      (λ any. is_gone key (at_any (is_at p.cells.cells key) (take n p.ages.entries) any))
      (λ any. was_gone key (any_found (test key) 0 (times_of p.ages.range p.ages.entries) (sym (listed_same key) ∙ any))))
      ∙ ap (λ o. cond (key_expires (link_of p) before key) None o) (sym (key_is p.keys.indices key))
      ∙ sym ((forgets nat_list_cmp_total (slice_cmp-IsAntisymmetric nat_cmp-IsAntisymmetric)).of_full (key_expires (link_of p) before)
      (key_table p.keys.indices) key))

  pub expired_seen : len (without_keys p.cells.cells p.keys (take n p.ages.entries)).indices + n ≡ len p.keys.indices →
      seen (record p { keys = without_keys p.cells.cells p.keys (take n p.ages.entries); ages = after_expiry p.ages n }) ≡ with_link (seen p)
      (expired true (link_of p) before n)
  expired_seen counted =
      let size : len (without_keys p.cells.cells p.keys (take n p.ages.entries)).indices ≡ len p.keys.indices - n = omega (arith, counted) in
      rw (keys_expired, ages_expired, size, length-drop n p.ages.entries, (same_shape p.cells.cells p.keys (take n p.ages.entries)).1) refl

pub expired_linked : (p : Parts) (es : List (ℕ × ℕ)) (ages : ChainState) → AreLinked p → ages.range ≡ p.ages.range → IsLawful ages
    → AreLinked (record p { keys = without_keys p.cells.cells p.keys es; ages = ages })
expired_linked p es ages linked same lawful = record {
  room = (same_shape p.cells.cells p.keys es).0 ∙ linked.room ∙ sym same;
  cells = linked.cells ∙ sym same;
  loans = linked.loans ∙ sym same;
  size = linked.size ∙ sym (same_shape p.cells.cells p.keys es).1;
  long = λ key index is. linked.long key index (only_some (list_any (λ (entry : ℕ × ℕ). is_at p.cells.cells key entry.0) es) index
      (get p.keys.indices key) (sym (index_without p.cells.cells p.keys es key) ∙ is)) ∙ sym (same_shape p.cells.cells p.keys es).1;
  lawful = lawful;
}

-- what is asked of a link
pub are_tied : (p : Parts) → ((index time : ℕ) → get (link_of p).times index ≡ Some (Some time) → (key : List ℕ)
    × (get (link_of p).cells index ≡ Some key) × (get (link_of p).keys key ≡ Some (Some index))) → AreTied p.keys p.ages.entries p.cells.cells
are_tied p keyed index time there =
    let pair = keyed index time (age_is p.ages.entries index ∙ ap (λ (o : Option ℕ). option_map Some o) there) in
    (pair.0, sym (cell_is p.cells.cells index) ∙ pair.1, mapped (get p.keys.indices pair.0) (sym (key_is p.keys.indices pair.0) ∙ pair.2))
  where
    mapped : (found : Option ℕ) → option_map Some found ≡ Some (Some index) → found ≡ Some index
    mapped None is = absurd (none_some (Some index) is)
    mapped (Some i) is = some_is (Some i) (Some index) is
