-- What a call on one object makes of the real library, by what it makes of the list library's.
use Rattle.std.proofs.Common.{◌≡◌, ℕ, ◌-◌, ◌<◌, ◌≤◌, List, length, map, set, get_or, Option, Some, None, slice_get, refl, sym, ◌∙◌, ap, subst, arith}
use Rattle.std.proofs.Common.{Bool, true, cond, inl, inr}
use Rattle.std.specs.Prelude.{is_some, IsSome, IfSome, IfNone, IsTrue, nat_le, nat_lt, ◌∷◌, ◌↔◌}
use Rattle.std.specs.Option.{option_map}
use Rattle.std.specs.FinMap.{get}
use Rattle.std.proofs.lemmas.Bool.{cases_lt, le-ltb, lt-ltb, lt-leb}
use Rattle.std.proofs.Math.ListN.{get_or-map}
use Rattle.std.proofs.lemmas.List.{map-set, length-map}
use Rattle.std.proofs.lemmas.Option.{slice_get_within, slice_get-get_or, slice_get-map}
use Rattle.vg_dchain.specs.ChainState.{ChainState}
use Rattle.vg_abs.specs.Tables.{Link}
use Rattle.vg_abs.specs.State.{State, link_in, link_of_map, prefixes_in, prefixes_of}
use Rattle.vg_abs.specs.Agreement.{MapsAgree, ChainsAgree, AgreeAt}
use Rattle.vg_abs.specs.declared.object.Object.TheVariants as objects
use Rattle.vg_plain.proofs.AgreementLaws.{at_object}
use Rattle.vg_abs.specs.Answers.{listed_or_none, index_of, time_of, match_in}
use Rattle.vg_abs.specs.Library.{IsMapIn, IsTableIn, IsVector, Asks, Becomes, Gets, Tells, LooksUp}
use Rattle.vg_plain.specs.declared.object.PlainObject.{PlainObject}
use Rattle.vg_plain.specs.declared.object.PlainObject.TheVariants as plain
use Rattle.vg_plain.specs.PlainTables.{joined}
use Rattle.vg_plain.specs.PlainStates.{object_of, state_of, holder_of}
use Rattle.vg_plain.specs.LinkStates.{LinkState}
use Rattle.vg_plain.proofs.ListPlaces.{some_is, none_some, set_here}
use Rattle.vg_plain.proofs.StateLaws.{as_library, map_within, no_map, not_missed, link_is, seen_at}
use Rattle.vg_plain.proofs.VectorLaws.{no_arm}
use Rattle.vg_vector.specs.Cells.{CellList}
use Rattle.vg_abs.specs.declared.object.Object.{Object}
use Rattle.vg_stree.specs.Routes.{longest_match}
use Rattle.vg_store.specs.declared.routes.RealRoutes.{RealRoutes}
use Rattle.vg_store.specs.declared.object.RealObject.{RealObject}
use Rattle.vg_store.specs.declared.object.RealObject.TheVariants.{Map, Chain, Keys, Cells, Prefixes}
use Rattle.vg_store.specs.RealLinks.{Parts, link_of, seen}
use Rattle.vg_store.specs.RealStates.{as_plain, plainly, ages_in}

-- what is said of objects as the list library's after one of them was set
pub set_plainly : (P : List PlainObject → Type 0) (objects : List RealObject) (i : ℕ) (next : RealObject)
    → P (set (plainly objects) i (as_plain next)) → P (plainly (set objects i next))
set_plainly P objects i next is = subst P (sym (map-set as_plain objects i next)) is

pub read_plain : (objects : List RealObject) (i : ℕ) (found : RealObject) → found ≡ get_or objects i found
    → as_plain found ≡ get_or (plainly objects) i (as_plain found)
read_plain objects i found read = ap as_plain read ∙ sym (get_or-map as_plain objects i found)

-- what stands at a place
pub real_within : (objects : List RealObject) (i : ℕ) → IsMapIn (slice_get (map object_of (plainly objects)) i) → i < length objects
real_within objects i is = (let less = map_within (plainly objects) i is in omega (arith, less, length-map objects as_plain))

pub real_stands : (objects : List RealObject) (i : ℕ) (found object : RealObject) → i < length objects → found ≡ get_or objects i found
    → found ≡ object → slice_get objects i ≡ Some object
real_stands objects i found object inside read is = slice_get-get_or objects i found inside ∙ ap Some (sym read ∙ is)

pub stands_plain : (objects : List RealObject) (i : ℕ) (object : RealObject) → slice_get objects i ≡ Some object
    → slice_get (plainly objects) i ≡ Some (as_plain object)
stands_plain objects i object there = slice_get-map as_plain objects i ∙ ap (λ found. option_map as_plain found) there

-- an object that isn't a map isn't one
only_maps : (object : RealObject) → ((link : Parts) → object ≡ Map link → ⊥) → (state : LinkState) → as_plain object ≡ plain.Map state → ⊥
only_maps (Map link) none state is = none link refl
only_maps Chain none state is = cc
only_maps Keys none state is = cc
only_maps (Cells cells) none state is = cc
only_maps (Prefixes routes) none state is = cc

pub real_no_map : (objects : List RealObject) (i : ℕ) (found : RealObject) → IsMapIn (slice_get (map object_of (plainly objects)) i)
    → found ≡ get_or objects i found → ((link : Parts) → found ≡ Map link → ⊥) → ⊥
real_no_map objects i found is read none = no_map (plainly objects) i (as_plain found) is (read_plain objects i found read) (only_maps found none)

-- the order of a link's indices
pub ages_here : (objects : List RealObject) (i : ℕ) (link : Parts) → slice_get objects i ≡ Some (Map link) → ages_in (slice_get objects i) ≡ link.ages
ages_here objects i link there = ap ages_in there

pub ages_now : (objects : List RealObject) (i : ℕ) (link : Parts) → i < length objects → ages_in (slice_get (set objects i (Map link)) i) ≡ link.ages
ages_now objects i link inside = ap ages_in (set_here objects i (Map link) inside)

-- needs that are met
pub is_there : (found : Option (Option ℕ)) → option_map (λ answer. is_some answer) (listed_or_none true found) ≡ Some true → IsSome (joined found)
is_there None is = absurd (cc)
is_there (Some None) is = absurd (cc)
is_there (Some (Some x)) is = refl

is_less : (a b : ℕ) → nat_lt a b ≡ true → a < b
is_less a b is = elim (cases_lt a b) [
  | inl less ↦ less
  | inr more ↦ absurd (let off = le-ltb a b more in cc)
]

pub met_less : (a b : ℕ) → Some (nat_lt a b) ≡ Some true → a < b
met_less a b is = is_less a b (some_is (nat_lt a b) true is)

pub met_least : (a b : ℕ) → Some (nat_le a b) ≡ Some true → a ≤ b
met_least a b is = elim (cases_lt b a) [
  | inl less ↦ absurd (let on = some_is (nat_le a b) true is in let off = lt-leb a b less in cc)
  | inr more ↦ more
]

told_joined : (found : Option (Option ℕ)) → listed_or_none true found ≡ Some (joined found)
told_joined None = refl
told_joined (Some answer) = refl

pub time_told : (link : Link) (index : ℕ) → index < link.capacity → time_of true link index ≡ Some (joined (get link.times index))
time_told link index less = ap (λ b. cond b (listed_or_none true (get link.times index)) (Some None)) (lt-ltb index link.capacity less)
    ∙ told_joined (get link.times index)

-- an index that is told as allocated
pub allocated_there : (link : Link) (index : ℕ) → index < link.capacity → option_map (λ answer. is_some answer) (time_of true link index) ≡ Some true
    → IsSome (joined (get link.times index))
allocated_there link index less is = some_is (is_some (joined (get link.times index))) true
    (sym (ap (λ o. option_map (λ answer. is_some answer) o) (time_told link index less)) ∙ is)

-- a question
asks : {A : Type 0} (kept : List PlainObject) (question : Option A) (Fact : A → Type 0) (answer : A) → question ≡ Some answer → Fact answer
    → Asks (as_library kept) (as_library kept) question Fact
asks kept question Fact answer is fact = record {
  stays = λ missed. not_missed missed;
  untold = λ none. absurd (none_some answer (sym none ∙ is));
  told = λ _ other there. subst Fact (some_is answer other (sym is ∙ there)) fact;
}

unchanged : (kept : List PlainObject) → Becomes (as_library kept) (as_library kept) (state_of kept)
unchanged kept = record { state_is = refl; same_lent = λ vector index. refl; same_choices = refl; same_missed = refl }

pub gets : (kept : List PlainObject) (i : ℕ) (link : LinkState) (key : List ℕ) (result : Option ℕ) → slice_get kept i ≡ Some (plain.Map link)
    → result ≡ joined (get link.link.keys key) → Gets (as_library kept) (as_library kept) i key result
gets kept i link key result there is =
    asks kept (index_of true (link_of_map (state_of kept) i) key) (λ answer. (result ≡ answer)
    × Becomes (as_library kept) (as_library kept) (state_of kept)) (joined (get link.link.keys key))
    (ap (λ (l : Link). index_of true l key) (link_is kept i link there) ∙ told_joined (get link.link.keys key)) (is, unchanged kept)

pub tells : (kept : List PlainObject) (chain : ℕ) (link : LinkState) (index : ℕ) (result : Bool) → slice_get kept (chain - 1) ≡ Some (plain.Map link)
    → index < link.link.capacity → result ≡ is_some (joined (get link.link.times index)) →
    Tells (as_library kept) (as_library kept) chain index result
tells kept chain link index result there less is =
    asks kept (time_of true (link_of_map (state_of kept) (chain - 1)) index) (λ answer. (result ≡ is_some answer)
    × Becomes (as_library kept) (as_library kept) (state_of kept)) (joined (get link.link.times index))
    (ap (λ (l : Link). time_of true l index) (link_is kept (chain - 1) link there) ∙ time_told link.link index less) (is, unchanged kept)

-- an allocation
pub seen_kept : (link next : Parts) (result : Option ℕ) → IfNone result (((link_of link).count ≡ (link_of link).capacity) × (next ≡ link))
    → IfNone result (((link_of link).count ≡ (link_of link).capacity) × (seen next ≡ seen link))
seen_kept link next None none = (none.0, ap seen none.1)
seen_kept link next (Some index) none = tt

pub first_in : (was now a b : ChainState) (result : Option ℕ) → was ≡ a → now ≡ b → IfSome result (λ index. a.free ≡ index ∷ b.free)
    → IfSome result (λ index. was.free ≡ index ∷ now.free)
first_in was now a b None was_is now_is first = tt
first_in was now a b (Some index) was_is now_is first = ap (λ (c : ChainState). c.free) was_is ∙ first ∙ ap (λ (c : ChainState). index ∷ c.free) (sym now_is)

-- a vector's holder is no other object
pub only_cells : (object : RealObject) → ((cells : CellList) → object ≡ Cells cells → ⊥) → (own : CellList) → as_plain object ≡ plain.Cells own → ⊥
only_cells (Map link) none own is = cc
only_cells Chain none own is = cc
only_cells Keys none own is = cc
only_cells (Cells cells) none own is = none cells refl
only_cells (Prefixes routes) none own is = cc

pub real_no_arm : (objects : List RealObject) (vector holder : ℕ) (found : RealObject) → IsVector (as_library (plainly objects)) vector
    → holder ≡ holder_of (plainly objects) vector → found ≡ get_or objects holder found →
    ((link : Parts) → found ≡ Map link → ⊥) → ((cells : CellList) → found ≡ Cells cells → ⊥) → ⊥
real_no_arm objects vector holder found is holder_is read no_link no_own =
    no_arm (plainly objects) vector holder (as_plain found) is holder_is (read_plain objects holder found read) (only_maps found no_link)
    (only_cells found no_own)

-- a look-up
no_table : (object : RealObject) → ((routes : RealRoutes) → object ≡ Prefixes routes → ⊥) → IsTableIn (Some (object_of (as_plain object))) → ⊥
no_table (Map link) none is = is
no_table Chain none is = is
no_table Keys none is = is
no_table (Cells cells) none is = is
no_table (Prefixes routes) none is = none routes refl

seen_there : (objects : List RealObject) (i : ℕ) (found : RealObject) → i < length objects → found ≡ get_or objects i found
    → slice_get (map object_of (plainly objects)) i ≡ Some (object_of (as_plain found))
seen_there objects i found inside read =
    seen_at (plainly objects) i (as_plain found) (stands_plain objects i found (real_stands objects i found found inside read refl))

pub real_no_table : (objects : List RealObject) (i : ℕ) (found : RealObject) → IsTableIn (slice_get (map object_of (plainly objects)) i)
    → i < length objects → found ≡ get_or objects i found → ((routes : RealRoutes) → found ≡ Prefixes routes → ⊥) → ⊥
real_no_table objects i found is inside read none = no_table found none (subst IsTableIn (seen_there objects i found inside read) is)

pub table_within : (objects : List RealObject) (i : ℕ) → IsTableIn (slice_get (map object_of (plainly objects)) i) → i < length objects
table_within objects i is = go (slice_get (map object_of (plainly objects)) i) refl is
  where
    go : (found : Option Object) → slice_get (map object_of (plainly objects)) i ≡ found → IsTableIn found → i < length objects
    go None there is_table = absurd is_table
    go (Some object) there is_table = (let below = slice_get_within (map object_of (plainly objects)) i object there in
        omega (arith, below, length-map (plainly objects) object_of, length-map objects as_plain))

pub looks_up : (objects : List RealObject) (i address : ℕ) (routes : RealRoutes) (result : Option ℕ) → slice_get objects i ≡ Some (Prefixes routes)
    → result ≡ longest_match routes.routes.value.items address →
    LooksUp (as_library (plainly objects)) (as_library (plainly objects)) i address result
looks_up objects i address routes result there is =
    asks (plainly objects) (match_in true (prefixes_of (state_of (plainly objects)) i) address)
    (λ answer. (result ≡ answer) × Becomes (as_library (plainly objects)) (as_library (plainly objects)) (state_of (plainly objects))) result
    (ap (λ o. match_in true (prefixes_in o) address) (seen_at (plainly objects) i (plain.Prefixes routes.routes.value)
    (stands_plain objects i (Prefixes routes) there)) ∙ ap (λ (o : Option ℕ). Some o) (sym is)) (refl, unchanged (plainly objects))

-- agreement at an object
pub maps_same : (kept : List PlainObject) (state : State) (i : ℕ) (link : LinkState) (other : Link) (full : Bool) (answer : Bool)
    → slice_get kept i ≡ Some (plain.Map link) → slice_get state.objects i ≡ Some (objects.Map other) → full ≡ state.full →
    (IsTrue answer ↔ MapsAgree true full link.link other) → (IsTrue answer ↔ AgreeAt (state_of kept) state i)
maps_same kept state i link other full answer here there full_is same =
    let seen_is : link_of_map state i ≡ other = ap link_in there in
    at_object kept state i (plain.Map link) answer here (
      λ yes. subst (λ (f : Bool). MapsAgree true f link.link (link_of_map state i)) full_is
          (subst (λ (l : Link). MapsAgree true full link.link l) (sym seen_is) (same.0 yes)),
      λ agree. same.1 (subst (λ (l : Link). MapsAgree true full link.link l) seen_is (subst
          (λ (f : Bool). MapsAgree true f link.link (link_of_map state i)) (sym full_is) agree)),
    )

pub chains_same : (kept : List PlainObject) (state : State) (i place : ℕ) (answer : Bool) → slice_get kept i ≡ Some plain.Chain → place ≡ i - 1 →
    (IsTrue answer ↔ ChainsAgree true state.full (link_of_map (state_of kept) place) (link_of_map state place))
    → (IsTrue answer ↔ AgreeAt (state_of kept) state i)
chains_same kept state i place answer here is same = at_object kept state i plain.Chain answer here (
  λ yes. subst (λ (k : ℕ). ChainsAgree true state.full (link_of_map (state_of kept) k) (link_of_map state k)) is (same.0 yes),
  λ agree. same.1 (subst (λ (k : ℕ). ChainsAgree true state.full (link_of_map (state_of kept) k) (link_of_map state k)) (sym is) agree),
)
