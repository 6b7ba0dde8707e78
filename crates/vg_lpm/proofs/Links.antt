-- Links between two levels: what a word leads to, and what keeps them.
use Rattle.std.proofs.Common.{◌≡◌, ◌≢◌, ℕ, ◌+◌, ◌-◌, ◌*◌, ◌/◌, ◌%◌, ◌^◌, ◌<◌, ◌≤◌, ◌⊎◌, List, ◌++◌, length, get_or, set, take, sym, ◌∙◌, ap, inl, inr}
use Rattle.std.proofs.Common.{arith, length-append, get_or-set_same, get_or-set_other}
use Rattle.std.proofs.lemmas.Bool.{cases_lt, cases_eq, lt-ltb, le-ltb, cond-true, cond-false}
use Rattle.std.proofs.lemmas.List.{get_or_append_left, get_or-replicate, get_or_past, take_all}
use Rattle.std.proofs.Math.Seq.{get_or-append_right}
use Rattle.std.proofs.Math.ListN.{length-set, replicate, length-replicate}
use Rattle.vg_lpm.specs.Table.{follow, AreLinks}
use Rattle.vg_lpm.specs.Building.{Fills, Opens}

pub follow-leaf : (level : List ℕ) (word bits : ℕ) → word < 65537 → follow level word bits ≡ word
follow-leaf level word bits h = cond-true _ word _ (lt-ltb word 65537 h)

pub follow-link : (level : List ℕ) (word bits : ℕ) → 65537 ≤ word → follow level word bits ≡ get_or level ((word - 65537) * 256 + bits % 256) 0
follow-link level word bits h = cond-false _ word _ (le-ltb word 65537 h)

-- links stay links where each link that there is now stood there before
pub AreLinks-upper : {upper newer lower : List ℕ} → AreLinks upper lower
    → ((j : ℕ) → j < length newer → 65537 ≤ get_or newer j 0 → (j < length upper) × (get_or newer j 0 ≡ get_or upper j 0)) → AreLinks newer lower
AreLinks-upper {upper} {newer} {lower} links old = record {
  blocks = λ i within is.
      let was = old i within is in
      let at = links.blocks i was.0 (omega (arith, was.1)) in
      omega (arith, was.1, at);
  apart = λ i j i_in j_in is same.
      let was_i = old i i_in is in
      let was_j = old j j_in (omega arith) in
      links.apart i j was_i.0 was_j.0 (omega (arith, was_i.1)) (sym was_i.1 ∙ same ∙ was_j.1);
  whole = links.whole;
}

pub AreLinks-lower : {upper lower newer : List ℕ} → AreLinks upper lower → length newer ≡ length lower → AreLinks upper newer
AreLinks-lower {upper} {lower} {newer} links same = record {
  blocks = λ i within is. omega (arith, links.blocks i within is);
  apart = links.apart;
  whole = omega (arith, links.whole);
}

-- what stands where a leaf was filled in: the leaf or what stood there
pub Fills-at : {old new : List ℕ} {place free word : ℕ} → Fills old new place free word → (j : ℕ) → j < length old → (get_or new j 0 ≡ word)
    ⊎ (get_or new j 0 ≡ get_or old j 0)
Fills-at {old} {new} {place} {free} fills j within = elim (cases_eq (j / 2 ^ free) (place / 2 ^ free)) [
  | inl same ↦ inl (fills.filled j within same)
  | inr ne ↦ inr (fills.others j ne)
]

pub AreLinks-filled : {upper newer lower : List ℕ} {place free word : ℕ} → AreLinks upper lower → Fills upper newer place free word → word < 65537
    → AreLinks newer lower
AreLinks-filled {upper} {newer} {lower} {place} {free} {word} links fills leaf = AreLinks-upper links (λ j within is.
    let old_in : j < length upper = omega (arith, fills.same_length) in
    elim (Fills-at fills j old_in) [ inl now ↦ absurd (omega arith) | inr was ↦ (old_in, was) ])

pub leaves-filled : {old new : List ℕ} {place free word : ℕ} → Fills old new place free word → word < 65537
    → ((j : ℕ) → get_or old j 0 < 65537) → (j : ℕ) → get_or new j 0 < 65537
leaves-filled {old} {new} fills leaf leaves j = elim (cases_lt j (length old)) [
  | inl within ↦ elim (Fills-at fills j within) [ inl now ↦ omega arith | inr was ↦ omega (arith, leaves j) ]
  | inr past ↦ omega (arith, get_or_past new j 0 (omega (arith, fills.same_length)))
]

-- a new block at the end of a level
pushed : (lower : List ℕ) (word j : ℕ) → length lower ≤ j → j < length lower + 256 → get_or (lower ++ replicate 256 word) j 0 ≡ word
pushed lower word j low high = get_or-append_right lower (replicate 256 word) j 0 low ∙ get_or-replicate 256 (j - length lower) word 0 (omega arith)

pushed-length : (lower : List ℕ) (word : ℕ) → length (lower ++ replicate 256 word) ≡ length lower + 256
pushed-length lower word = length-append lower (replicate 256 word) ∙ ap (λ n. length lower + n) (length-replicate 256 word)

pushed-leaf : (lower : List ℕ) (word j : ℕ) → word < 65537 → length lower ≤ j → get_or (lower ++ replicate 256 word) j 0 < 65537
pushed-leaf lower word j leaf low = elim (cases_lt j (length lower + 256)) [
  | inl within ↦ omega (arith, pushed lower word j low within)
  | inr past ↦ omega (arith, get_or_past (lower ++ replicate 256 word) j 0 (omega (arith, pushed-length lower word)))
]

pushed_links : {upper lower : List ℕ} (at word : ℕ) → AreLinks upper lower → at < length upper
    → AreLinks (set upper at (65537 + length lower / 256)) (lower ++ replicate 256 word)
pushed_links {upper} {lower} at word links within =
    let block = length lower / 256 in
    let here = get_or-set_same upper at (65537 + block) 0 within in
    let other = λ (j : ℕ) (ne : j ≢ at). get_or-set_other upper at j (65537 + block) 0 ne in
    let same_length = length-set upper at (65537 + block) in
    let longer = pushed-length lower word in
    let whole = links.whole in
    record {
      blocks = λ i i_in is. elim (cases_eq i at) [
        | inl same ↦ let value = ap (λ n. get_or (set upper at (65537 + block)) n 0) same ∙ here in omega arith
        | inr ne ↦ let was = other i ne in let at_i = links.blocks i (omega arith) (omega arith) in omega arith
      ];
      apart = λ i j i_in j_in is same. elim (cases_eq i at) [
        | inl i_at ↦ elim (cases_eq j at) [
          | inl j_at ↦ i_at ∙ sym j_at
          | inr j_ne ↦
              let value = ap (λ n. get_or (set upper at (65537 + block)) n 0) i_at ∙ here in
              let was = other j j_ne in
              absurd (omega (arith, links.blocks j (omega arith) (omega arith)))
        ]
        | inr i_ne ↦ elim (cases_eq j at) [
          | inl j_at ↦
              let value = ap (λ n. get_or (set upper at (65537 + block)) n 0) j_at ∙ here in
              let was = other i i_ne in
              absurd (omega (arith, links.blocks i (omega arith) (omega arith)))
          | inr j_ne ↦
              let was_i = other i i_ne in
              let was_j = other j j_ne in
              links.apart i j (omega arith) (omega arith) (omega arith) (sym was_i ∙ same ∙ was_j)
        ]
      ];
      whole = omega arith;
    }

pushed_leads : {upper lower : List ℕ} (at word : ℕ) → AreLinks upper lower → at < length upper → word ≡ get_or upper at 0 → word < 65537
    → (i bits : ℕ) → i < length upper
    → follow (lower ++ replicate 256 word) (get_or (set upper at (65537 + length lower / 256)) i 0) bits ≡ follow lower (get_or upper i 0) bits
pushed_leads {upper} {lower} at word links within stood leaf i bits i_in =
    let block = length lower / 256 in
    let newer = lower ++ replicate 256 word in
    let whole = links.whole in
    elim (cases_eq i at) [
      | inl same ↦
          let value = ap (λ n. get_or (set upper at (65537 + block)) n 0) same ∙ get_or-set_same upper at (65537 + block) 0 within in
          let old : get_or upper i 0 ≡ word = ap (λ n. get_or upper n 0) same ∙ sym stood in
          ap (λ v. follow newer v bits) value ∙ follow-link newer (65537 + block) bits (omega arith)
          ∙ pushed lower word ((65537 + block - 65537) * 256 + bits % 256) (omega arith) (omega arith)
          ∙ sym (ap (λ v. follow lower v bits) old ∙ follow-leaf lower word bits leaf)
      | inr ne ↦
          let w = get_or upper i 0 in
          ap (λ v. follow newer v bits) (get_or-set_other upper at i (65537 + block) 0 ne)
          ∙ elim (cases_lt w 65537) [
            | inl is_leaf ↦ follow-leaf newer w bits is_leaf ∙ sym (follow-leaf lower w bits is_leaf)
            | inr is_link ↦
                let at_i = links.blocks i i_in is_link in
                follow-link newer w bits is_link ∙ get_or_append_left lower (replicate 256 word) 0 ((w - 65537) * 256 + bits % 256) (omega arith)
                ∙ sym (follow-link lower w bits is_link)
          ]
    ]

-- an entry that was a leaf links to a new block, which holds the leaf everywhere
pub Opens-new : {upper lower : List ℕ} (at word : ℕ) → AreLinks upper lower → at < length upper → word ≡ get_or upper at 0 → word < 65537
    → Opens upper lower (set upper at (65537 + length lower / 256)) (lower ++ replicate 256 word) at (length lower / 256)
Opens-new {upper} {lower} at word links within stood leaf = record {
  same_length = length-set upper at (65537 + length lower / 256);
  opened = get_or-set_same upper at (65537 + length lower / 256) 0 within;
  others = λ j ne. get_or-set_other upper at j (65537 + length lower / 256) 0 ne;
  links = pushed_links at word links within;
  kept = λ j h. get_or_append_left lower (replicate 256 word) 0 j h;
  leaves = λ j h. pushed-leaf lower word j leaf h;
  longer = omega (arith, pushed-length lower word);
  at_most = omega (arith, pushed-length lower word);
  leads = pushed_leads at word links within stood leaf;
}

-- as `resize` says it
resized : (lower : List ℕ) (word n : ℕ) → n ≡ length lower → take (n + 256) lower ++ replicate (n + 256 - length lower) word ≡ lower ++ replicate 256 word
resized lower word n e =
    let more : n + 256 - length lower ≡ 256 = omega arith in
    ap (λ xs. xs ++ replicate (n + 256 - length lower) word) (take_all (n + 256) lower (omega arith)) ∙ ap (λ k. lower ++ replicate k word) more

pub Opens-resized : {upper lower items : List ℕ} (at word linked n m len : ℕ) → AreLinks upper lower → at < length upper → word ≡ get_or upper at 0
    → word < 65537
    → n ≡ length lower → m ≡ length lower → len ≡ length lower → linked ≡ 65537 + n / 256 → items ≡ take (m + 256) lower
    ++ replicate (m + 256 - len) word → Opens upper lower (set upper at linked) items at (n / 256)
Opens-resized {upper} {lower} {items} at word linked n m len links within stood leaf n_is m_is len_is linked_is items_is =
    let linked_e : linked ≡ 65537 + length lower / 256 = linked_is ∙ ap (λ k. 65537 + k / 256) n_is in
    let items_e : items ≡ lower ++ replicate 256 word = items_is ∙ ap (λ k. take (m + 256) lower ++ replicate (m + 256 - k) word) len_is
    ∙ resized lower word m m_is in
    rw (linked_e, items_e, n_is) (Opens-new at word links within stood leaf)
