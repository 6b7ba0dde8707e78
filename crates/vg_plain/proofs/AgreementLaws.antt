-- When objects and a state of their shape agree.
use Rattle.std.proofs.Common.{◌≡◌, ℕ, ◌-◌, ◌<◌, ◌≤◌, List, length, map, get_or, Option, Some, None, slice_get, refl, sym, ◌∙◌, ap, subst, arith, Bool}
use Rattle.std.proofs.Common.{true, false, cond, inl, inr}
use Rattle.std.specs.Prelude.{IsTrue, nat_lt, ◌↔◌}
use Rattle.std.specs.Option.{option_map}
use Rattle.std.specs.FinMap.{get, get-empty}
use Rattle.std.specs.Ordering.{nat_cmp}
use Rattle.std.proofs.lemmas.Bool.{cases_lt, lt-ltb, le-ltb}
use Rattle.std.proofs.lemmas.List.{length-map}
use Rattle.std.proofs.lemmas.Option.{slice_get_within, slice_get-get_or, slice_get_past, slice_get-map}
use Rattle.vg_abs.specs.declared.object.Object.{Object}
use Rattle.vg_abs.specs.declared.object.Object.TheVariants as objects
use Rattle.vg_abs.specs.Tables.{Link, Vector}
use Rattle.vg_abs.specs.State.{State, no_link, link_in, link_of_map, vector_in, vector_of}
use Rattle.vg_abs.specs.Answers.{time_of, index_of, listed_or_none}
use Rattle.vg_abs.specs.Agreement.{BothTell, ChainsAgree, MapsAgree, VectorsAgree, AgreeIn, AgreeAt}
use Rattle.vg_abs.specs.Library.{SameShape, SameKind}
use Rattle.vg_vector.specs.Cells.{CellList}
use Rattle.vg_plain.specs.declared.object.PlainObject.{PlainObject}
use Rattle.vg_plain.specs.declared.object.PlainObject.TheVariants.{Map, Chain, Keys, Cells, Prefixes}
use Rattle.vg_plain.specs.PlainTables.{time_table, cell_table, joined}
use Rattle.vg_plain.specs.LinkStates.{LinkState, CellsAgree}
use Rattle.vg_plain.specs.PlainStates.{object_of, state_of, plain_link, table_in}
use Rattle.vg_plain.proofs.ListPlaces.{some_is, none_some}
use Rattle.vg_plain.proofs.Places.{listed, time_is}
use Rattle.vg_plain.proofs.StateLaws.{seen_at}

-- chains
told_time : (found : Option (Option ℕ)) → listed_or_none true (listed found) ≡ Some (joined found)
told_time None = refl
told_time (Some None) = refl
told_time (Some (Some time)) = refl

abbrev free_time : Option ℕ
free_time = None

pub chains_to : (link other : Link) (full : Bool) (times : List (Option ℕ)) → link.times ≡ time_table 0 times → link.capacity ≡ length times
    → link.capacity ≡ other.capacity → link.count ≡ other.count → link.highest ≡ other.highest →
    ((index : ℕ) → index < length times → BothTell (Some (joined (slice_get times index))) (listed_or_none full (get other.times index)))
    → ChainsAgree true full link other
chains_to link other full times are long same count highest told = record {
  count = count;
  highest = highest;
  times = λ index. elim (cases_lt index link.capacity) [
    | inl less ↦ (let here : time_of true link index ≡ Some (joined (slice_get times index)) =
        ap (λ b. cond b (listed_or_none true (get link.times index)) (Some None)) (lt-ltb index link.capacity less)
        ∙ ap (λ t. listed_or_none true (get t index)) are ∙ ap (λ f. listed_or_none true f) (time_is times index)
        ∙ told_time (slice_get times index) in
        let there : time_of full other index ≡ listed_or_none full (get other.times index) =
        ap (λ b. cond b (listed_or_none full (get other.times index)) (Some None)) (lt-ltb index other.capacity (omega arith)) in
        subst (λ (x : Option (Option ℕ)). BothTell x (time_of full other index)) (sym here)
        (subst (λ (y : Option (Option ℕ)). BothTell (Some (joined (slice_get times index))) y) (sym there) (told index (omega arith))))
    | inr more ↦ (let past : other.capacity ≤ index = omega arith in
        let here : time_of true link index ≡ Some None = ap (λ b. cond b (listed_or_none true (get link.times index)) (Some None))
        (le-ltb index link.capacity more) in
        let there : time_of full other index ≡ Some None = ap (λ b. cond b (listed_or_none full (get other.times index)) (Some None))
        (le-ltb index other.capacity past) in
        subst (λ (x : Option (Option ℕ)). BothTell x (time_of full other index)) (sym here)
        (subst (λ (y : Option (Option ℕ)). BothTell (Some free_time) y) (sym there) refl))
  ];
}

pub chains_from : (link other : Link) (full : Bool) (times : List (Option ℕ)) → link.times ≡ time_table 0 times → link.capacity ≡ length times
    → link.capacity ≡ other.capacity → ChainsAgree true full link other →
    (index : ℕ) → index < length times → BothTell (Some (joined (slice_get times index))) (listed_or_none full (get other.times index))
chains_from link other full times are long same agree index less =
    let below : index < link.capacity = omega arith in
    let here : time_of true link index ≡ Some (joined (slice_get times index)) =
    ap (λ b. cond b (listed_or_none true (get link.times index)) (Some None)) (lt-ltb index link.capacity below)
    ∙ ap (λ t. listed_or_none true (get t index)) are ∙ ap (λ f. listed_or_none true f) (time_is times index)
    ∙ told_time (slice_get times index) in
    let there : time_of full other index ≡ listed_or_none full (get other.times index) = ap
    (λ b. cond b (listed_or_none full (get other.times index)) (Some None)) (lt-ltb index other.capacity (omega arith)) in
    subst (λ (x : Option (Option ℕ)). BothTell x (listed_or_none full (get other.times index))) here
    (subst (λ (y : Option (Option ℕ)). BothTell (time_of true link index) y) there (agree.times index))

-- maps
told_index : (found : Option (Option ℕ)) → listed_or_none true found ≡ Some (joined found)
told_index None = refl
told_index (Some answer) = refl

pub maps_to : (link other : Link) (full : Bool) → link.size ≡ other.size → ((key : List ℕ)
    → BothTell (Some (joined (get link.keys key))) (listed_or_none full (get other.keys key))) → MapsAgree true full link other
maps_to link other full size told =
    record {
      size = size;
      keys = λ key. subst (λ (x : Option (Option ℕ)). BothTell x (index_of full other key)) (sym (told_index (get link.keys key)))
          (told key);
    }

pub maps_from : (link other : Link) (full : Bool) → MapsAgree true full link other → (key : List ℕ)
    → BothTell (Some (joined (get link.keys key))) (listed_or_none full (get other.keys key))
maps_from link other full agree key = subst (λ (x : Option (Option ℕ)). BothTell x (index_of full other key)) (told_index (get link.keys key)) (agree.keys key)

-- links of one shape
shaped : (kept : List PlainObject) (state : State) (i : ℕ) (object : PlainObject) → SameShape (state_of kept) state → slice_get kept i ≡ Some object
    → (other : Object) × (slice_get state.objects i ≡ Some other) × SameKind (object_of object) other
shaped kept state i object shape there =
    let inside : i < length state.objects = omega (arith, slice_get_within kept i object there, length-map kept object_of, shape.as_many) in
    let at = slice_get-get_or state.objects i objects.Chain inside in
    (get_or state.objects i objects.Chain, at, shape.each i (object_of object) (get_or state.objects i objects.Chain) (seen_at kept i object there) at)

of_link : (found : Option PlainObject) (link : LinkState) → plain_link found ≡ Some link → found ≡ Some (Map link)
of_link None link is = absurd (none_some link is)
of_link (Some (Map other)) link is = ap (λ (l : LinkState). Some (Map l)) (some_is other link is)
of_link (Some Chain) link is = absurd (none_some link is)
of_link (Some Keys) link is = absurd (none_some link is)
of_link (Some (Cells cells)) link is = absurd (none_some link is)
of_link (Some (Prefixes routes)) link is = absurd (none_some link is)

of_table : (found : Option Object) (table : Link) → table_in found ≡ Some table → found ≡ Some (objects.Map table)
of_table None table is = absurd (none_some table is)
of_table (Some (objects.Map other)) table is = ap (λ (l : Link). Some (objects.Map l)) (some_is other table is)
of_table (Some objects.Chain) table is = absurd (none_some table is)
of_table (Some objects.Keys) table is = absurd (none_some table is)
of_table (Some (objects.Cells cells)) table is = absurd (none_some table is)
of_table (Some (objects.Prefixes routes)) table is = absurd (none_some table is)

pub record BothLinks (kept : List PlainObject) (state : State) (i : ℕ) (link : LinkState) (other : Link) : Type 0 where
  pub one : link_of_map (state_of kept) i ≡ link.link
  pub two : link_of_map state i ≡ other
  pub capacity : link.link.capacity ≡ other.capacity

pub both_links : (kept : List PlainObject) (state : State) (i : ℕ) (link : LinkState) (other : Link) → SameShape (state_of kept) state
    → plain_link (slice_get kept i) ≡ Some link → table_in (slice_get state.objects i) ≡ Some other → BothLinks kept state i link other
both_links kept state i link other shape is has =
    let here = of_link (slice_get kept i) link is in
    let there = of_table (slice_get state.objects i) other has in
    let kind = shape.each i (objects.Map link.link) (objects.Map other) (seen_at kept i (Map link) here) there in
    record { one = ap link_in (seen_at kept i (Map link) here); two = ap link_in there; capacity = kind.0 }

no_kind : (link : LinkState) (object : Object) → table_in (Some object) ≡ None → SameKind (objects.Map link.link) object → ⊥
no_kind link (objects.Map other) none kind = none_some other (sym none)
no_kind link objects.Chain none kind = kind
no_kind link objects.Keys none kind = kind
no_kind link (objects.Cells cells) none kind = kind
no_kind link (objects.Prefixes routes) none kind = kind

pub no_table : (kept : List PlainObject) (state : State) (i : ℕ) (link : LinkState) → SameShape (state_of kept) state
    → plain_link (slice_get kept i) ≡ Some link → table_in (slice_get state.objects i) ≡ None → ⊥
no_table kept state i link shape is none =
    let other = shaped kept state i (Map link) shape (of_link (slice_get kept i) link is) in
    no_kind link other.0 (sym (ap table_in other.1) ∙ none) other.2

not_a_link : (found : Option PlainObject) → plain_link found ≡ None → link_in (option_map object_of found) ≡ no_link
not_a_link None none = refl
not_a_link (Some (Map link)) none = absurd (none_some link (sym none))
not_a_link (Some Chain) none = refl
not_a_link (Some Keys) none = refl
not_a_link (Some (Cells cells)) none = refl
not_a_link (Some (Prefixes routes)) none = refl

other_kind : (object : PlainObject) (other : Object) → plain_link (Some object) ≡ None → SameKind (object_of object) other → link_in (Some other) ≡ no_link
other_kind (Map link) other none kind = absurd (none_some link (sym none))
other_kind Chain (objects.Map other) none kind = absurd kind
other_kind Chain objects.Chain none kind = refl
other_kind Chain objects.Keys none kind = refl
other_kind Chain (objects.Cells cells) none kind = refl
other_kind Chain (objects.Prefixes routes) none kind = refl
other_kind Keys (objects.Map other) none kind = absurd kind
other_kind Keys objects.Chain none kind = refl
other_kind Keys objects.Keys none kind = refl
other_kind Keys (objects.Cells cells) none kind = refl
other_kind Keys (objects.Prefixes routes) none kind = refl
other_kind (Cells own) (objects.Map other) none kind = absurd kind
other_kind (Cells own) objects.Chain none kind = refl
other_kind (Cells own) objects.Keys none kind = refl
other_kind (Cells own) (objects.Cells cells) none kind = refl
other_kind (Cells own) (objects.Prefixes routes) none kind = refl
other_kind (Prefixes kept) (objects.Map other) none kind = absurd kind
other_kind (Prefixes kept) objects.Chain none kind = refl
other_kind (Prefixes kept) objects.Keys none kind = refl
other_kind (Prefixes kept) (objects.Cells cells) none kind = refl
other_kind (Prefixes kept) (objects.Prefixes routes) none kind = refl

pub no_links : (kept : List PlainObject) (state : State) (i : ℕ) → SameShape (state_of kept) state → plain_link (slice_get kept i) ≡ None
    → (link_of_map (state_of kept) i ≡ no_link) × (link_of_map state i ≡ no_link)
no_links kept state i shape none = (ap link_in (slice_get-map object_of kept i) ∙ not_a_link (slice_get kept i) none, go (slice_get kept i) refl)
  where
    go : (found : Option PlainObject) → slice_get kept i ≡ found → link_of_map state i ≡ no_link
    go None there = ap link_in (slice_get_past state.objects i (omega (arith, none_past there, length-map kept object_of, shape.as_many)))
      where
        none_past : slice_get kept i ≡ None → length kept ≤ i
        none_past is = elim (cases_lt i (length kept)) [
          | inl less ↦ absurd (none_some (get_or kept i Chain) (sym is ∙ slice_get-get_or kept i Chain less))
          | inr more ↦ more
        ]
    go (Some object) there = (let other = shaped kept state i object shape there in ap link_in other.1
        ∙ other_kind object other.0 (sym (ap plain_link there) ∙ none) other.2)

pub no_chains : (full : Bool) → ChainsAgree true full no_link no_link
no_chains full = record {
  count = refl;
  highest = refl;
  times = λ index. (let past : ◌≡◌ {A = Bool} (nat_lt index 0) false = le-ltb index 0 (omega arith) in rw past refl);
}

pub no_cells : CellsAgree no_link.cells no_link.cells
no_cells index = subst (λ (found : Option (List ℕ)). BothTell found found) (sym (get-empty nat_cmp index)) tt

-- at an object
pub at_object : (kept : List PlainObject) (state : State) (i : ℕ) (object : PlainObject) (answer : Bool) → slice_get kept i ≡ Some object
    → (IsTrue answer ↔ AgreeIn (state_of kept) state i (Some (object_of object))) → (IsTrue answer ↔ AgreeAt (state_of kept) state i)
at_object kept state i object answer there same = (
  λ yes. subst (λ (o : Option Object). AgreeIn (state_of kept) state i o) (sym (seen_at kept i object there)) (same.0 yes),
  λ agree. same.1 (subst (λ (o : Option Object). AgreeIn (state_of kept) state i o) (seen_at kept i object there) agree),
)

-- behind the last object all agree
pub past_agrees : (kept : List PlainObject) (state : State) (i : ℕ) → length kept ≤ i → AgreeAt (state_of kept) state i
past_agrees kept state i past = subst (λ (o : Option Object). AgreeIn (state_of kept) state i o)
    (sym (slice_get_past (map object_of kept) i (omega (arith, length-map kept object_of)))) tt

-- the kind of the other object
pub keys_kind : (kept : List PlainObject) (state : State) (i : ℕ) → SameShape (state_of kept) state → slice_get kept i ≡ Some Keys
    → slice_get state.objects i ≡ Some objects.Keys
keys_kind kept state i shape there = (let other = shaped kept state i Keys shape there in other.1 ∙ ap Some (is_keys other.0 other.2))
  where
    is_keys : (object : Object) → SameKind objects.Keys object → object ≡ objects.Keys
    is_keys (objects.Map other) kind = absurd kind
    is_keys objects.Chain kind = absurd kind
    is_keys objects.Keys kind = refl
    is_keys (objects.Cells cells) kind = absurd kind
    is_keys (objects.Prefixes routes) kind = absurd kind

pub map_kind : (kept : List PlainObject) (state : State) (i : ℕ) (link : LinkState) (found : Object) → SameShape (state_of kept) state
    → slice_get kept i ≡ Some (Map link) → found ≡ get_or state.objects i found → ((other : Link) → found ≡ objects.Map other → ⊥) → ⊥
map_kind kept state i link found shape there read none = (let other = shaped kept state i (Map link) shape there in
    let same : found ≡ other.0 = some_is found other.0 (sym (slice_get-get_or state.objects i found (slice_get_within state.objects i other.0 other.1)
    ∙ ap Some (sym read)) ∙ other.1) in go other.0 same other.2)
  where
    go : (object : Object) → found ≡ object → SameKind (objects.Map link.link) object → ⊥
    go (objects.Map other) is kind = none other is
    go objects.Chain is kind = kind
    go objects.Keys is kind = kind
    go (objects.Cells cells) is kind = kind
    go (objects.Prefixes routes) is kind = kind

pub cells_kind : (kept : List PlainObject) (state : State) (i : ℕ) (own : CellList) (found : Object) → SameShape (state_of kept) state
    → slice_get kept i ≡ Some (Cells own) → found ≡ get_or state.objects i found → ((other : Vector) → found ≡ objects.Cells other → ⊥) → ⊥
cells_kind kept state i own found shape there read none = (let other = shaped kept state i (Cells own) shape there in
    let same : found ≡ other.0 = some_is found other.0 (sym (slice_get-get_or state.objects i found (slice_get_within state.objects i other.0 other.1)
    ∙ ap Some (sym read)) ∙ other.1) in go other.0 same other.2)
  where
    go : (object : Object) → found ≡ object → SameKind (object_of (Cells own)) object → ⊥
    go (objects.Map other) is kind = kind
    go objects.Chain is kind = kind
    go objects.Keys is kind = kind
    go (objects.Cells cells) is kind = none cells is
    go (objects.Prefixes routes) is kind = kind

-- vectors of keys
abbrev keys_of : State → ℕ → Vector
keys_of s i = record { cell_count = (link_of_map s (i - 2)).capacity; cells = (link_of_map s (i - 2)).cells }

pub keys_same : (kept : List PlainObject) (state : State) (i place : ℕ) (answer : Bool) → SameShape (state_of kept) state
    → slice_get kept i ≡ Some Keys → place ≡ i - 2 →
    (IsTrue answer ↔ CellsAgree (link_of_map (state_of kept) place).cells (link_of_map state place).cells) → (IsTrue answer ↔ AgreeAt (state_of kept) state i)
keys_same kept state i place answer shape there is same = at_object kept state i Keys answer there (
  λ yes. subst (λ (v : Vector). VectorsAgree (vector_of (state_of kept) i) v) (sym other) (subst (λ (v : Vector). VectorsAgree v (keys_of state i))
      (sym one) (moved (same.0 yes))),
  λ agree. same.1 (back (subst (λ (v : Vector). VectorsAgree v (keys_of state i)) one (subst
      (λ (v : Vector). VectorsAgree (vector_of (state_of kept) i) v) other agree))),
)
  where
    one : vector_of (state_of kept) i ≡ record {
      cell_count = (link_of_map (state_of kept) (i - 2)).capacity;
      cells =
          (link_of_map (state_of kept) (i - 2)).cells;
    }
    one = ap (λ o. vector_in (state_of kept) i o) (seen_at kept i Keys there)

    other : vector_of state i ≡ record { cell_count = (link_of_map state (i - 2)).capacity; cells = (link_of_map state (i - 2)).cells }
    other = ap (λ o. vector_in state i o) (keys_kind kept state i shape there)

    moved : CellsAgree (link_of_map (state_of kept) place).cells (link_of_map state place).cells
        → CellsAgree (link_of_map (state_of kept) (i - 2)).cells (link_of_map state (i - 2)).cells
    moved agree = subst (λ (k : ℕ). CellsAgree (link_of_map (state_of kept) k).cells (link_of_map state k).cells) is agree

    back : CellsAgree (link_of_map (state_of kept) (i - 2)).cells (link_of_map state (i - 2)).cells
        → CellsAgree (link_of_map (state_of kept) place).cells (link_of_map state place).cells
    back agree = subst (λ (k : ℕ). CellsAgree (link_of_map (state_of kept) k).cells (link_of_map state k).cells) (sym is) agree

-- vectors of their own
pub cells_same : (kept : List PlainObject) (state : State) (i : ℕ) (own : CellList) (other : Vector) (answer : Bool)
    → slice_get kept i ≡ Some (Cells own) → slice_get state.objects i ≡ Some (objects.Cells other) →
    (IsTrue answer ↔ CellsAgree (cell_table 0 own.cells) other.cells) → (IsTrue answer ↔ AgreeAt (state_of kept) state i)
cells_same kept state i own other answer here there same = at_object kept state i (Cells own) answer here (
  λ yes. subst (λ (v : Vector). CellsAgree (cell_table 0 own.cells) v.cells) (sym seen) (same.0 yes),
  λ agree. same.1 (subst (λ (v : Vector). CellsAgree (cell_table 0 own.cells) v.cells) seen agree),
)
  where
    seen : vector_of state i ≡ other
    seen = ap (λ o. vector_in state i o) there
