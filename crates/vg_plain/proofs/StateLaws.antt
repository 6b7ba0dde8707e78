-- What a call on one object makes of the library.
use Rattle.std.proofs.Common.{◌≡◌, ℕ, ◌-◌, ◌<◌, ◌≢◌, List, length, map, set, get_or, Option, Some, None, slice_get, refl, sym, ◌∙◌, ap, subst, arith}
use Rattle.std.proofs.Common.{Bool, true, false, cond}
use Rattle.std.specs.Prelude.{is_none, ◌==◌, nat_lt, unwrap_or, IfSome, IfNone}
use Rattle.std.specs.Option.{option_map}
use Rattle.std.specs.FinMap.{get}
use Rattle.std.proofs.lemmas.Bool.{eq-eqb, eqb-true, lt-ltb}
use Rattle.std.proofs.lemmas.List.{map-set, set-get_or, length-map}
use Rattle.std.proofs.lemmas.Option.{slice_get_within, slice_get-get_or, get_or_from_slice_get, slice_get-map}
use Rattle.vg_abs.specs.declared.object.Object.{Object}
use Rattle.vg_abs.specs.declared.object.Object.TheVariants as objects
use Rattle.vg_abs.specs.Tables.{Link}
use Rattle.vg_abs.specs.State.{State, link_in, link_of_map}
use Rattle.vg_abs.specs.Effects.{with_link, with_index, expired}
use Rattle.vg_abs.specs.Rows.{Call, effect, is_used_up}
use Rattle.vg_abs.specs.Answers.{time_of, count_before, listed_or_none}
use Rattle.vg_abs.specs.Library.{Library, IsMapIn, Becomes, Does, Allocates, Expires}
use Rattle.vg_plain.specs.declared.object.PlainObject.{PlainObject}
use Rattle.vg_plain.specs.declared.object.PlainObject.TheVariants.{Map, Chain, Keys, Cells, Prefixes}
use Rattle.vg_plain.specs.PlainTables.{joined}
use Rattle.vg_plain.specs.LinkStates as links
use Rattle.vg_plain.specs.LinkStates.{LinkState}
use Rattle.vg_plain.specs.PlainStates.{object_of, state_of, lent_of_link, lent_at, lent_in}
use Rattle.vg_plain.proofs.ListPlaces.{some_is, none_some, set_at}

-- the library that objects are
abbrev pub as_library : List PlainObject → Library
as_library kept = record { state = state_of kept; lent = lent_in kept; missed = false; choices = None }

-- what stands at a place
pub stands : (kept : List PlainObject) (i : ℕ) (found object : PlainObject) → i < length kept → found ≡ get_or kept i found → found ≡ object
    → slice_get kept i ≡ Some object
stands kept i found object inside read is = slice_get-get_or kept i found inside ∙ ap Some (sym read ∙ is)

pub map_within : (kept : List PlainObject) (i : ℕ) → IsMapIn (slice_get (map object_of kept) i) → i < length kept
map_within kept i is = go (slice_get (map object_of kept) i) refl is
  where
    go : (found : Option Object) → slice_get (map object_of kept) i ≡ found → IsMapIn found → i < length kept
    go None there is_map = absurd is_map
    go (Some object) there is_map = (let below = slice_get_within (map object_of kept) i object there in omega (arith, below, length-map kept object_of))

pub seen_at : (kept : List PlainObject) (i : ℕ) (object : PlainObject) → slice_get kept i ≡ Some object
    → slice_get (map object_of kept) i ≡ Some (object_of object)
seen_at kept i object there = slice_get-map object_of kept i ∙ ap (λ found. option_map object_of found) there

pub link_is : (kept : List PlainObject) (i : ℕ) (link : LinkState) → slice_get kept i ≡ Some (Map link) → link_of_map (state_of kept) i ≡ link.link
link_is kept i link there = ap link_in (seen_at kept i (Map link) there)

-- an object that isn't a map isn't one
pub no_map : (kept : List PlainObject) (i : ℕ) (found : PlainObject) → IsMapIn (slice_get (map object_of kept) i) → found ≡ get_or kept i found
    → ((link : LinkState) → found ≡ Map link → ⊥) → ⊥
no_map kept i found is read other = go found refl
  where
    here : (object : PlainObject) → found ≡ object → IsMapIn (Some (object_of object))
    here object same = subst IsMapIn (seen_at kept i object (stands kept i found object (map_within kept i is) read same)) is

    go : (object : PlainObject) → found ≡ object → ⊥
    go (Map link) same = other link same
    go Chain same = here Chain same
    go Keys same = here Keys same
    go (Cells cells) same = here (Cells cells) same
    go (Prefixes routes) same = here (Prefixes routes) same

-- loans stay where a link's do
loans_of_link : (b : Bool) (o : Option PlainObject) (link next : LinkState) (index : ℕ) → (b ≡ true → o ≡ Some (Map link)) → next.lent ≡ link.lent
    → lent_of_link (cond b (Some (Map next)) o) index ≡ lent_of_link o index
loans_of_link true o link next index was same = ap (λ (l : List Bool). unwrap_or (slice_get l index) false) same
    ∙ sym (ap (λ p. lent_of_link p index) (was refl))
loans_of_link false o link next index was same = refl

same_link : (kept : List PlainObject) (i : ℕ) (link next : LinkState) → slice_get kept i ≡ Some (Map link) → next.lent ≡ link.lent → (j index : ℕ) →
    lent_of_link (slice_get (set kept i (Map next)) j) index ≡ lent_of_link (slice_get kept j) index
same_link kept i link next there same j index =
    ap (λ o. lent_of_link o index) (set_at kept i j (Map next) (slice_get_within kept i (Map link) there))
    ∙ loans_of_link (i == j) (slice_get kept j) link next index (λ is. ap (λ (k : ℕ). slice_get kept k) (sym (eqb-true i j is)) ∙ there) same

loans_at : (b : Bool) (kept now : List PlainObject) (o : Option PlainObject) (link next : LinkState) (vector index : ℕ) → (b ≡ true → o ≡ Some (Map link)) →
    lent_of_link (slice_get now (vector - 2)) index ≡ lent_of_link (slice_get kept (vector - 2)) index
    → lent_at now vector index (cond b (Some (Map next)) o) ≡ lent_at kept vector index o
loans_at true kept now o link next vector index was same = sym (ap (λ p. lent_at kept vector index p) (was refl))
loans_at false kept now None link next vector index was same = refl
loans_at false kept now (Some (Map other)) link next vector index was same = refl
loans_at false kept now (Some Chain) link next vector index was same = refl
loans_at false kept now (Some Keys) link next vector index was same = ap (λ b. cond (nat_lt 1 vector) b false) same
loans_at false kept now (Some (Cells cells)) link next vector index was same = refl
loans_at false kept now (Some (Prefixes routes)) link next vector index was same = refl

pub same_loans : (kept : List PlainObject) (i : ℕ) (link next : LinkState) → slice_get kept i ≡ Some (Map link) → next.lent ≡ link.lent
    → (vector index : ℕ) → lent_in (set kept i (Map next)) vector index ≡ lent_in kept vector index
same_loans kept i link next there same vector index =
    ap (λ o. lent_at (set kept i (Map next)) vector index o) (set_at kept i vector (Map next) (slice_get_within kept i (Map link) there))
    ∙ loans_at (i == vector) kept (set kept i (Map next)) (slice_get kept vector) link next vector index
    (λ is. ap (λ (k : ℕ). slice_get kept k) (sym (eqb-true i vector is)) ∙ there)
    (same_link kept i link next there same (vector - 2) index)

pub set_state : (kept : List PlainObject) (i : ℕ) (object : PlainObject) → state_of (set kept i object) ≡ record (state_of kept)
    { objects = set (map object_of kept) i (object_of object) }
set_state kept i object = ap (λ (os : List Object). record (state_of kept) { objects = os }) (map-set object_of kept i object)

-- a link is this now
pub becomes : (kept : List PlainObject) (i : ℕ) (link next : LinkState) (now : Link) → slice_get kept i ≡ Some (Map link)
    → next ≡ links.with_link link now → Becomes (as_library kept) (as_library (set kept i (Map next))) (with_link (state_of kept) i now)
becomes kept i link next now there is = record {
  state_is = set_state kept i (Map next) ∙ ap (λ (s : LinkState). with_link (state_of kept) i s.link) is;
  same_lent = same_loans kept i link next there (ap (λ (s : LinkState). s.lent) is);
  same_choices = refl;
  same_missed = refl;
}

pub not_missed : {A : Type 0} → false ≡ true → A
not_missed is = absurd (cc)

pub does : (kept : List PlainObject) (i : ℕ) (link next : LinkState) (now : Link) (call : Call) → slice_get kept i ≡ Some (Map link)
    → next ≡ links.with_link link now →
    with_link (state_of kept) i now ≡ effect (state_of kept) call 0 → Does (as_library kept) (as_library (set kept i (Map next))) call
does kept i link next now call there is leaves = record {
  stays = λ missed. not_missed missed;
  done = λ _. subst (λ (s : State). Becomes (as_library kept) (as_library (set kept i (Map next))) s) leaves (becomes kept i link next now there is);
}

-- where an object is seen the same, so is the state
pub same_state : (kept : List PlainObject) (i : ℕ) (object next : PlainObject) → slice_get kept i ≡ Some object → object_of next ≡ object_of object
    → state_of (set kept i next) ≡ state_of kept
same_state kept i object next there same = set_state kept i next ∙ ap (λ (os : List Object). record (state_of kept) { objects = os })
    (ap (λ (o : Object). set (map object_of kept) i o)
    (same ∙ sym (get_or_from_slice_get (map object_of kept) i (object_of object) objects.Chain (seen_at kept i object there)))
    ∙ set-get_or (map object_of kept) i objects.Chain)

-- an allocation
some_none : {X : Type 0} (x : X) → Some x ≡ None → ⊥
some_none x same = absurd (cc)

off_on : {A : Type 0} → true ≡ false → A
off_on is = absurd (cc)

can_hand_out : (l : Link) (index : ℕ) → index < l.capacity → get l.times index ≡ None
    → (cond (nat_lt index l.capacity) (option_map (λ answer. is_none answer) (time_of true l index)) (Some false)) ≡ Some true
can_hand_out l index inside free = let below = lt-ltb index l.capacity inside in rw (below, free) refl

pub allocates : (kept : List PlainObject) (chain : ℕ) (link next : LinkState) (now : ℕ) (result : Option ℕ) → slice_get kept (chain - 1) ≡ Some (Map link) →
    IfNone result ((link.link.count ≡ link.link.capacity) × (next ≡ link)) → IfSome result
    (λ index. (index < link.link.capacity) × (link.link.count ≢ link.link.capacity)) →
    IfSome result (λ index. get link.link.times index ≡ None) → IfSome result (λ index. next ≡ links.with_link link (with_index link.link index now)) →
    Allocates (as_library kept) (as_library (set kept (chain - 1) (Map next))) chain now result
allocates kept chain link next now None there none inside free handed =
    let all : is_used_up (state_of kept) chain ≡ true = ap (λ (l : Link). l.count == l.capacity) (link_is kept (chain - 1) link there)
    ∙ eq-eqb link.link.count link.link.capacity none.0 in
    let same : Becomes (as_library kept) (as_library (set kept (chain - 1) (Map next))) (state_of kept) = record {
      state_is = same_state kept (chain - 1) (Map link) (Map next) there (ap (λ (s : LinkState). objects.Map s.link) none.1);
      same_lent = same_loans kept (chain - 1) link next there (ap (λ (s : LinkState). s.lent) none.1);
      same_choices = refl;
      same_missed = refl;
    } in
    record {
      stays = λ missed. not_missed missed;
      used_up = λ _ _. (refl, same);
      untold = λ _ _ lacks. not_missed lacks;
      handed = λ _ some_left _. off_on (sym all ∙ some_left);
    }
allocates kept chain link next now (Some index) there none inside free handed =
    let seen : link_of_map (state_of kept) (chain - 1) ≡ link.link = link_is kept (chain - 1) link there in
    record {
      stays = λ missed. not_missed missed;
      used_up = λ _ full. absurd (inside.1 (eqb-true link.link.count link.link.capacity (sym (ap (λ (l : Link). l.count == l.capacity) seen) ∙ full)));
      untold = λ _ _ lacks. not_missed lacks;
      handed = λ _ some_left _. (record {
        free = subst (λ (l : Link). (cond (nat_lt index l.capacity) (option_map (λ answer. is_none answer) (time_of true l index)) (Some false)) ≡
            Some true) (sym seen) (can_hand_out link.link index inside.0 free);
        next = λ told. absurd (told refl);
        state_is = set_state kept (chain - 1) (Map next) ∙ ap (λ (s : LinkState). with_link (state_of kept) (chain - 1) s.link) handed
            ∙ ap (λ (l : Link). with_link (state_of kept) (chain - 1) (with_index l index now)) (sym seen)
            ∙ sym (ap (λ b. cond b (state_of kept)
            (with_link (state_of kept) (chain - 1) (with_index (link_of_map (state_of kept) (chain - 1)) index now))) some_left);
        same_lent = same_loans kept (chain - 1) link next there (ap (λ (s : LinkState). s.lent) handed);
        choices_left = refl;
        same_missed = refl;
      });
    }

pub least : (kept : List PlainObject) (chain : ℕ) (link : LinkState) (result : Option ℕ) → slice_get kept (chain - 1) ≡ Some (Map link) →
    IfSome result (λ index. (other : ℕ) → other < index → get link.link.times other ≡ None → ⊥) →
    IfSome result (λ index. (other : ℕ) → other < index → get (link_of_map (state_of kept) (chain - 1)).times other ≡ None → ⊥)
least kept chain link None there first = tt
least kept chain link (Some index) there first =
    λ other less none. first other less (sym (ap (λ (l : Link). get l.times other) (link_is kept (chain - 1) link there)) ∙ none)

-- an expiry
pub expires_so : (kept : List PlainObject) (i before freed : ℕ) (link next : LinkState) → slice_get kept i ≡ Some (Map link)
    → Some freed ≡ count_before true link.link before →
    next ≡ links.with_link link (expired true link.link before freed) → Expires (as_library kept) (as_library (set kept i (Map next))) i before freed
expires_so kept i before freed link next there count is =
    let seen : link_of_map (state_of kept) i ≡ link.link = link_is kept i link there in
    let counted : count_before true (link_of_map (state_of kept) i) before ≡ Some freed = ap (λ (l : Link). count_before true l before) seen ∙ sym count in
    record {
      stays = λ missed. not_missed missed;
      untold = λ none. absurd (none_some freed (sym none ∙ counted));
      told = λ _ answer answer_is. (
        some_is freed answer (sym counted ∙ answer_is),
        subst (λ (s : State). Becomes (as_library kept) (as_library (set kept i (Map next))) s)
            (ap (λ (n : ℕ). with_link (state_of kept) i (expired true link.link before n)) (sym (ap (λ (o : Option ℕ). unwrap_or o 0) counted))
            ∙ ap (λ (l : Link). with_link (state_of kept) i
            (expired true l before (unwrap_or (count_before true (link_of_map (state_of kept) i) before) 0))) (sym seen))
            (becomes kept i link next (expired true link.link before freed) there is),
      );
    }

-- a key that is told as absent
pub is_absent : (found : Option (Option ℕ)) → option_map (λ answer. is_none answer) (listed_or_none true found) ≡ Some true → joined found ≡ None
is_absent None is = refl
is_absent (Some None) is = refl
is_absent (Some (Some x)) is = absurd (cc)
