-- How keys stand in the slots: what a search finds, and that each key is still met after a slot is filled or emptied.
use Rattle.std.proofs.Common.{◌≡◌, ◌≢◌, ◌⊎◌, inl, inr, ℕ, zero, suc, ◌+◌, ◌≤◌, ◌<◌, List, [], ◌∷◌, length, set, Option, Some, None, IsSome, refl, sym}
use Rattle.std.proofs.Common.{◌∙◌, ap, subst, arith}
use Rattle.std.specs.Option.{is_some}
use Rattle.std.proofs.lemmas.List.{get_or-set_same, get_or-set_other, length-set}
use Rattle.std.proofs.lemmas.Bool.{cases_eq, cases_lt}
use Rattle.vg_map.specs.declared.hash.Homes.{Homes}
use Rattle.vg_map.specs.Hash.{home_of}
use Rattle.vg_map.specs.Slots.{Entry, slot, IsMet, StandOnce}
use Rattle.vg_map.specs.Search.{IsOther, IsEnd, EndsAt, HasGap}
use Rattle.vg_map.proofs.Found.{IsAbsent, found, found_at, same_entry, moved, moved_is, once-empty, once-moved, slot-emptied, slot-filled}

-- each key is met by a search
abbrev pub AreMet : Homes → List (Option Entry) → Type 0
AreMet homes slots = (i : ℕ) (e : Entry) → slot slots i ≡ Some e → IsMet homes slots i e.0

some_is : (o : Option Entry) (e : Entry) → o ≡ Some e → IsSome o
some_is o e at = ap is_some at

not_empty : (o : Option Entry) → o ≡ None → IsSome o → ⊥
not_empty None at h = cc
not_empty (Some e) at h = cc

-- ---- searches

other_full : (key : List ℕ) (o : Option Entry) → IsOther key o → IsSome o
other_full key None h = absurd h
other_full key (Some e) h = refl

other_is : (key : List ℕ) (o : Option Entry) (e : Entry) → o ≡ Some e → IsOther key o → e.0 ≢ key
other_is key o e at h = subst (IsOther key) at h

pub end_is : (key : List ℕ) (o : Option Entry) (e : Entry) → o ≡ Some e → IsEnd key o → e.0 ≡ key
end_is key o e at h = subst (IsEnd key) at h

-- where a search ends at an empty slot, the key stands nowhere
pub absent_at_empty : (homes : Homes) (slots : List (Option Entry)) (key : List ℕ) (at : ℕ) → AreMet homes slots
    → EndsAt slots key (home_of homes key) at → slot slots at ≡ None → IsAbsent key slots
absent_at_empty homes slots key at met ends none i e here same =
    let m = met i e here in
    let from : home_of homes key ≤ i = subst (λ k. home_of homes k ≤ i) same m.home in
    elim (cases_lt i at) [
      | inl before ↦ other_is key (slot slots i) e here (ends.passed i from before) same
      | inr after ↦ elim (cases_eq i at) [
        | inl p ↦ not_empty (slot slots at) none (subst (λ j. IsSome (slot slots j)) p (some_is _ e here))
        | inr ne ↦ not_empty (slot slots at) none (m.full at (subst (λ k. home_of homes k ≤ at) (sym same) ends.from) (omega arith))
      ]
    ]

empty_else : (o : Option Entry) → ((e : Entry) → o ≡ Some e → ⊥) → o ≡ None
empty_else None h = refl
empty_else (Some e) h = absurd (h e refl)

-- a search ends where the key stands or, where it stands nowhere, at an empty slot; the slots before are full
pub empty_if_absent : (slots : List (Option Entry)) (key : List ℕ) (home at : ℕ) → EndsAt slots key home at → IsAbsent key slots → slot slots at ≡ None
empty_if_absent slots key home at ends new = empty_else (slot slots at) (λ e here. new at e here (end_is key _ e here ends.end))

-- what the map has at the key
pub found_at_end : (homes : Homes) (slots : List (Option Entry)) (key : List ℕ) (at : ℕ) (v : ℕ) (k : List ℕ) → StandOnce slots
    → EndsAt slots key (home_of homes key) at → slot slots at ≡ Some (k, v) → found key slots ≡ Some v
found_at_end homes slots key at v k once ends here = ap (λ q. found q slots) (sym (end_is key _ (k, v) here ends.end)) ∙ found_at slots at (k, v) once here

pub full_before : (slots : List (Option Entry)) (key : List ℕ) (home at : ℕ) → EndsAt slots key home at → (j : ℕ) → home ≤ j → j < at → IsSome (slot slots j)
full_before slots key home at ends j a b = other_full key (slot slots j) (ends.passed j a b)

-- ---- a slot is filled

full_filled : (slots : List (Option Entry)) (at j : ℕ) (d : Entry) → at < length slots → IsSome (slot slots j) → IsSome (slot (set slots at (Some d)) j)
full_filled [] at j d h full = absurd (omega arith)
full_filled (x ∷ s) zero zero d h full = refl
full_filled (x ∷ s) zero (suc j) d h full = full
full_filled (x ∷ s) (suc at) zero d h full = full
full_filled (x ∷ s) (suc at) (suc j) d h full = full_filled s at j d (omega arith) full

pub met-fill : (homes : Homes) (slots : List (Option Entry)) (d : Entry) (at : ℕ) → at < length slots → home_of homes d.0 ≤ at
    → ((j : ℕ) → home_of homes d.0 ≤ j → j < at → IsSome (slot slots j))
    → AreMet homes slots → AreMet homes (set slots at (Some d))
met-fill homes slots d at within from full met i e here = elim (slot-filled slots at i d e here) [
  | inl r ↦ record {
    home = subst (λ (x : Entry). home_of homes x.0 ≤ i) r.1 (subst (λ k. home_of homes d.0 ≤ k) (sym r.0) from);
    full = λ j a b. full_filled slots at j d within (full j (subst (λ (x : Entry). home_of homes x.0 ≤ j) (sym r.1) a) (subst (λ k. j < k) r.0 b));
  }
  | inr r ↦ record {
    home = (met i e r.1).home;
    full = λ j a b. full_filled slots at j d within ((met i e r.1).full j a b);
  }
]

-- ---- a slot is emptied, and its gap closed

pub gap-start : (homes : Homes) (slots : List (Option Entry)) (at : ℕ) → at < length slots → AreMet homes slots → StandOnce slots
    → HasGap homes (set slots at None) at (at + 1)
gap-start homes slots at within met once = record {
  empty = get_or-set_same slots at None None within;
  home = λ i e here. (met i e (slot-emptied slots at i e here).1).home;
  full = λ i j e here a b. elim (cases_eq j at) [
    | inl p ↦ inr (p, omega arith)
    | inr ne ↦ inl (subst IsSome (sym (get_or-set_other slots at j None None ne)) ((met i e (slot-emptied slots at i e here).1).full j a b))
  ];
  once = once-empty slots at once;
}

stays : (homes : Homes) (slots : List (Option Entry)) (gap at i j : ℕ) (e f : Entry) → slot slots at ≡ Some e → slot slots i ≡ Some f → i ≡ at
    → j ≡ gap → gap < home_of homes e.0 → home_of homes f.0 ≤ j → ⊥
stays homes slots gap at i j e f here there p q behind a =
    let same : e ≡ f = same_entry e f (sym here ∙ ap (slot slots) (sym p) ∙ there) in
    let a' : home_of homes e.0 ≤ j = subst (λ (x : Entry). home_of homes x.0 ≤ j) (sym same) a in
    absurd (omega arith)

-- what stands at `at` has its home behind the gap, and stays
pub gap-stay : (homes : Homes) (slots : List (Option Entry)) (gap at : ℕ) (e : Entry) → HasGap homes slots gap at → slot slots at ≡ Some e
    → gap < home_of homes e.0 → HasGap homes slots gap (at + 1)
gap-stay homes slots gap at e g here behind = record {
  empty = g.empty;
  home = g.home;
  full = λ i j f there a b. elim (g.full i j f there a b) [
    | inl full ↦ inl full
    | inr r ↦ elim (cases_eq i at) [
      | inl p ↦ absurd (stays homes slots gap at i j e f here there p r.0 behind a)
      | inr ne ↦ inr (r.0, omega arith)
    ]
  ];
  once = g.once;
}

full_moved : (slots : List (Option Entry)) (from to j : ℕ) (e : Entry) → slot slots from ≡ Some e → to ≢ from → to < length slots → j ≢ from
    → IsSome (slot slots j) → IsSome (slot (moved slots from to) j)
full_moved slots from to j e here ne within other full =
    subst (λ s. IsSome (slot s j)) (sym (moved_is slots from to e here ne))
    (full_filled (set slots from None) to j e (omega (arith, length-set slots from None)) (subst IsSome
    (sym (get_or-set_other slots from j None None other)) full))

full_at_gap : (slots : List (Option Entry)) (from to : ℕ) (e : Entry) → slot slots from ≡ Some e → to ≢ from → to < length slots
    → IsSome (slot (moved slots from to) to)
full_at_gap slots from to e here ne within =
    some_is _ e (ap (λ s. slot s to) (moved_is slots from to e here ne) ∙ get_or-set_same (set slots from None) to (Some e) None
    (omega (arith, length-set slots from None)))

-- a full slot after the move: the one that was moved, or another as it was
moved_slot : (slots : List (Option Entry)) (from to i : ℕ) (e f : Entry) → slot slots from ≡ Some e → to ≢ from → slot (moved slots from to) i ≡ Some f
    → ((i ≡ to) × (e ≡ f)) ⊎ (slot slots i ≡ Some f)
moved_slot slots from to i e f here ne there =
    elim (slot-filled (set slots from None) to i e f (ap (λ s. slot s i) (sym (moved_is slots from to e here ne)) ∙ there)) [
      | inl r ↦ inl r
      | inr r ↦ inr (slot-emptied slots from i f r.1).1
    ]

full_below : (homes : Homes) (slots : List (Option Entry)) (gap at : ℕ) (e : Entry) → HasGap homes slots gap at → slot slots at ≡ Some e → gap < at
    → at < length slots
    → (i j : ℕ) (f : Entry) → i ≡ gap → e ≡ f → home_of homes f.0 ≤ j → j < i → IsSome (slot (moved slots at gap) j)
full_below homes slots gap at e g here order within i j f p same a b =
    let ne : gap ≢ at = λ p. absurd (omega arith) in
    elim (g.full at j e here (subst (λ (x : Entry). home_of homes x.0 ≤ j) (sym same) a) (omega arith)) [
      | inl full ↦ full_moved slots at gap j e here ne (omega arith) (λ q. absurd (omega arith)) full
      | inr r ↦ absurd (omega arith)
    ]

full_else : (homes : Homes) (slots : List (Option Entry)) (gap at : ℕ) (e : Entry) → HasGap homes slots gap at → slot slots at ≡ Some e → gap < at
    → at < length slots
    → (i j : ℕ) (f : Entry) → slot slots i ≡ Some f → home_of homes f.0 ≤ j → j < i → IsSome (slot (moved slots at gap) j) ⊎ ((j ≡ at) × (at + 1 ≤ i))
full_else homes slots gap at e g here order within i j f there a b =
    let ne : gap ≢ at = λ p. absurd (omega arith) in
    elim (cases_eq j at) [
      | inl p ↦ inr (p, omega arith)
      | inr other ↦ elim (g.full i j f there a b) [
        | inl full ↦ inl (full_moved slots at gap j e here ne (omega arith) other full)
        | inr r ↦ inl (subst (λ k. IsSome (slot (moved slots at gap) k)) (sym r.0) (full_at_gap slots at gap e here ne (omega arith)))
      ]
    ]

-- what stands at `at` has its home at the gap or before, and moves into it: the gap is now at `at`
pub gap-move : (homes : Homes) (slots : List (Option Entry)) (gap at : ℕ) (e : Entry) → HasGap homes slots gap at → slot slots at ≡ Some e → gap < at
    → at < length slots → home_of homes e.0 ≤ gap
    → HasGap homes (moved slots at gap) at (at + 1)
gap-move homes slots gap at e g here order within before =
    let ne : gap ≢ at = λ p. absurd (omega arith) in
    record {
      empty = get_or-set_same (set slots gap (slot slots at)) at None None (omega (arith, length-set slots gap (slot slots at)));
      home = λ i f there. elim (moved_slot slots at gap i e f here ne there) [
        | inl r ↦ subst (λ (x : Entry). home_of homes x.0 ≤ i) r.1 (subst (λ k. home_of homes e.0 ≤ k) (sym r.0) before)
        | inr r ↦ g.home i f r
      ];
      full = λ i j f there a b. elim (moved_slot slots at gap i e f here ne there) [
        | inl r ↦ inl (full_below homes slots gap at e g here order within i j f r.0 r.1 a b)
        | inr r ↦ full_else homes slots gap at e g here order within i j f r a b
      ];
      once = once-moved slots at gap e here ne g.once;
    }

ended : (homes : Homes) (slots : List (Option Entry)) (gap at : ℕ) → HasGap homes slots gap at → slot slots at ≡ None → gap < at
    → (i j : ℕ) (e : Entry) → slot slots i ≡ Some e → j ≡ gap → at ≤ i → home_of homes e.0 ≤ j → ⊥
ended homes slots gap at g none order i j e here p q a = elim (cases_eq i at) [
  | inl same ↦ not_empty (slot slots at) none (subst (λ k. IsSome (slot slots k)) same (some_is _ e here))
  | inr ne ↦ elim (g.full i at e here (omega arith) (omega arith)) [
    | inl full ↦ not_empty (slot slots at) none full
    | inr r ↦ absurd (omega arith)
  ]
]

-- at an empty slot the gap needs no closing any more
pub gap-end : (homes : Homes) (slots : List (Option Entry)) (gap at : ℕ) → HasGap homes slots gap at → slot slots at ≡ None → gap < at → AreMet homes slots
gap-end homes slots gap at g none order i e here = record {
  home = g.home i e here;
  full = λ j a b. elim (g.full i j e here a b) [
    | inl full ↦ full
    | inr r ↦ absurd (ended homes slots gap at g none order i j e here r.0 r.1 a)
  ];
}
