-- The objects at the start.
use Rattle.std.proofs.Common.{◌≡◌, ℕ, zero, suc, ◌+◌, ◌-◌, ◌<◌, ◌≤◌, List, [], ◌∷◌, ◌++◌, length, drop, map, get_or, Option, Some, None, slice_get}
use Rattle.std.proofs.Common.{refl, sym, ◌∙◌, ap, subst, arith, Bool, true, false, cond, inl, inr, append_assoc}
use Rattle.std.specs.Prelude.{unwrap_or, nat_lt, All, replicate}
use Rattle.std.specs.FinMap.{get}
use Rattle.std.proofs.lemmas.Bool.{cases_lt}
use Rattle.std.proofs.lemmas.List.{map-append, get_or-replicate, length-replicate}
use Rattle.std.proofs.lemmas.List.Elements.{All-nil, All-cons, All-append}
use Rattle.std.proofs.lemmas.Option.{slice_get_within, slice_get_past, slice_get-get_or, get_or_from_slice_get}
use Rattle.vg_stree.specs.declared.shape.Object as declarations
use Rattle.vg_stree.specs.declared.shape.ObjectKind.{ObjectKind}
use Rattle.vg_stree.specs.declared.shape.ObjectKind.TheVariants as kinds
use Rattle.vg_stree.specs.Declarations.{Declarations}
use Rattle.vg_stree.specs.Specification.{Specification}
use Rattle.vg_stree.specs.Configuration.{Configuration}
use Rattle.vg_abs.specs.declared.object.Object.{Object}
use Rattle.vg_abs.specs.Tables.{CellTable}
use Rattle.vg_abs.specs.Shape.{IsObjectOf}
use Rattle.vg_abs.specs.Lawful.{IsLawful, IsLawfulObject}
use Rattle.vg_abs.specs.Opening.{opening, opening_object, opening_objects, IsValid, StateOpensLawful}
use Rattle.vg_plain.specs.declared.object.PlainObject.{PlainObject}
use Rattle.vg_plain.specs.declared.object.PlainObject.TheVariants.{Map, Chain, Keys, Cells, Prefixes}
use Rattle.vg_plain.specs.PlainTables.{cell_table}
use Rattle.vg_plain.specs.PlainStates.{object_of, lent_of_link, lent_at, lent_in}
use Rattle.vg_plain.specs.Beginning.{AreWhole, Begins, AreFree, NoneIsLent}
use Rattle.vg_plain.proofs.ListPlaces.{some_is, none_some}
use Rattle.vg_plain.proofs.Places.{cell_is, same_numbers}

-- cells that were copied one by one
pub copied_all : (count size i : ℕ) (made : List (List ℕ)) (table : CellTable) → AreWhole count size table → length made ≡ count → count ≤ i
    → ((j : ℕ) → j < i → slice_get made j ≡ get table j) → cell_table 0 made ≡ table
copied_all count size i made table whole counted end copied = same_numbers _ _ (λ q. cell_is made q ∙ elim (cases_lt q count) [
  | inl less ↦ copied q (omega arith)
  | inr past ↦ slice_get_past made q (omega arith) ∙ sym (go q (get table q) refl past)
])
  where
    go : (q : ℕ) (found : Option (List ℕ)) → get table q ≡ found → count ≤ q → get table q ≡ None
    go q None is past = is
    go q (Some bytes) is past = absurd (let below : q < count = whole.inside q bytes is in omega arith)

-- an object at the start, by its place
object_at : (shape : Declarations) (config : Configuration) (start place : ℕ) (declared : List declarations.Object) (one : declarations.Object)
    (object : Object) →
    slice_get declared place ≡ Some one → slice_get (opening_objects shape config start declared) place ≡ Some object
    → object ≡ opening_object shape config (start + place) one.kind
object_at shape config start place [] one object there found = absurd (none_some one there)
object_at shape config start zero (first ∷ more) one object there found =
    let same : start ≡ start + 0 = omega arith in
    sym (some_is (opening_object shape config start first.kind) object found)
    ∙ ap (λ (n : ℕ). opening_object shape config n first.kind) same
    ∙ ap (λ (other : declarations.Object). opening_object shape config (start + 0) other.kind) (some_is first one there)
object_at shape config start (suc place) (first ∷ more) one object there found =
    let same : start + 1 + place ≡ start + suc place = omega arith in
    object_at shape config (start + 1) place more one object there found
    ∙ ap (λ (n : ℕ). opening_object shape config n one.kind) same

whole : (shape : Declarations) (config : Configuration) (number : ℕ) (kind : ObjectKind) → IsLawfulObject 0 true kind
    (opening_object shape config number kind) → IsObjectOf shape config.numbers kind (opening_object shape config number kind) →
    Begins shape kind (opening_object shape config number kind)
whole shape config number (kinds.Map key capacity) lawful shaped = refl
whole shape config number kinds.Chain lawful shaped = tt
whole shape config number kinds.Keys lawful shaped = tt
whole shape config number (kinds.Vector cell count) lawful shaped = record {
  there = λ index less. lawful.all_cells refl index less;
  inside = λ index bytes found. lawful.inside index bytes found;
  sized = λ index bytes found. (shaped.cells_have index bytes found).counted;
}
whole shape config number (kinds.Table low high) lawful shaped = refl

pub begins : (spec : Specification) (config : Configuration) (place : ℕ) (one : declarations.Object) (object : Object) → StateOpensLawful
    → IsValid spec config →
    slice_get spec.shape.objects place ≡ Some one → slice_get (opening spec config).objects place ≡ Some object → Begins spec.shape one.kind object
begins spec config place one object opens valid there found =
    let lawful : IsLawful spec config.numbers 0 (opening spec config) = opens spec config valid in
    let is : object ≡ opening_object spec.shape config (0 + place) one.kind = object_at spec.shape config 0 place spec.shape.objects one object there found in
    subst (λ (o : Object). Begins spec.shape one.kind o) (sym is) (whole spec.shape config (0 + place) one.kind
    (subst (λ (o : Object). IsLawfulObject 0 true one.kind o) is (lawful.each place one object there found))
    (subst (λ (o : Object). IsObjectOf spec.shape config.numbers one.kind o) is (lawful.shaped.each place one object there found)))

pub as_many_open : (spec : Specification) (config : Configuration) → StateOpensLawful → IsValid spec config
    → length (opening spec config).objects ≡ length spec.shape.objects
as_many_open spec config opens valid = (opens spec config valid).shaped.as_many

dropped : (i : ℕ) (items : List Object) (item : Object) → i < length items → drop i items ≡ get_or items i item ∷ drop (i + 1) items
dropped i [] item less = absurd (omega arith)
dropped zero (x ∷ xs) item less = refl
dropped (suc i) (x ∷ xs) item less = (let same : suc i + 1 ≡ suc (i + 1) = omega arith in dropped i xs item (omega arith)
    ∙ ap (λ (k : ℕ). get_or xs i item ∷ drop k (x ∷ xs)) (sym same))

-- one object more
pub made_more : (kept : List PlainObject) (items : List Object) (i : ℕ) (made : PlainObject) (item : Object) → i < length items
    → item ≡ get_or items i item → object_of made ≡ item →
    map object_of kept ++ drop i items ≡ items → map object_of (kept ++ made ∷ []) ++ drop (i + 1) items ≡ items
made_more kept items i made item less read is so_far =
    ap (λ (os : List Object). os ++ drop (i + 1) items) (map-append object_of kept (made ∷ []))
    ∙ append_assoc (map object_of kept) (object_of made ∷ []) (drop (i + 1) items)
    ∙ ap (λ (os : List Object). map object_of kept ++ os) (ap (λ (o : Object). o ∷ drop (i + 1) items) (is ∙ read) ∙ sym (dropped i items item less)) ∙ so_far

-- no loan
pub free_lent : (count : ℕ) → AreFree (replicate count false)
free_lent count = λ k d less. get_or-replicate count k false d (omega (arith, less, length-replicate count false))

free_at : (lent : List Bool) (index : ℕ) → AreFree lent → unwrap_or (slice_get lent index) false ≡ false
free_at lent index free = go (slice_get lent index) refl
  where
    go : (found : Option Bool) → slice_get lent index ≡ found → unwrap_or (slice_get lent index) false ≡ false
    go None is = ap (λ o. unwrap_or o false) is
    go (Some one) is = ap (λ o. unwrap_or o false) is ∙ sym (get_or_from_slice_get lent index one one is) ∙ free index one (slice_get_within lent index one is)

free_link : (found : Option PlainObject) (index : ℕ) → ((object : PlainObject) → found ≡ Some object → NoneIsLent object) → lent_of_link found index ≡ false
free_link None index free = refl
free_link (Some (Map link)) index free = free_at link.lent index (free (Map link) refl)
free_link (Some Chain) index free = refl
free_link (Some Keys) index free = refl
free_link (Some (Cells cells)) index free = refl
free_link (Some (Prefixes routes)) index free = refl

hidden : (b : Bool) (x : Bool) → x ≡ false → cond b x false ≡ false
hidden true x is = is
hidden false x is = refl

free_object : (kept : List PlainObject) (vector index : ℕ) (found : Option PlainObject) → ((object : PlainObject) → found ≡ Some object
    → NoneIsLent object) → lent_of_link (slice_get kept (vector - 2)) index ≡ false → lent_at kept vector index found ≡ false
free_object kept vector index None free link = refl
free_object kept vector index (Some (Map other)) free link = refl
free_object kept vector index (Some Chain) free link = refl
free_object kept vector index (Some Keys) free link = hidden (nat_lt 1 vector) _ link
free_object kept vector index (Some (Cells cells)) free link = free_at cells.lent index (free (Cells cells) refl)
free_object kept vector index (Some (Prefixes routes)) free link = refl

at_all : (kept : List PlainObject) (i : ℕ) (object : PlainObject) → All NoneIsLent kept → slice_get kept i ≡ Some object → NoneIsLent object
at_all kept i object all there = subst NoneIsLent (get_or_from_slice_get kept i object object there) (all i object (slice_get_within kept i object there))

pub none_lent : (kept : List PlainObject) → All NoneIsLent kept → (vector index : ℕ) → lent_in kept vector index ≡ false
none_lent kept all vector index = free_object kept vector index (slice_get kept vector) (λ object there. at_all kept vector object all there)
    (free_link (slice_get kept (vector - 2)) index (λ object there. at_all kept (vector - 2) object all there))

pub begins_at : (spec : Specification) (config : Configuration) (items : List Object) (place : ℕ) (default : declarations.Object) (object : Object)
    → StateOpensLawful → IsValid spec config → items ≡ (opening spec config).objects →
    place < length items → object ≡ get_or items place object → Begins spec.shape (get_or spec.shape.objects place default).kind object
begins_at spec config items place default object opens valid items_are less read =
    let many = as_many_open spec config opens valid in
    let inside : place < length spec.shape.objects = omega (arith, less, ap length items_are, many) in
    begins spec config place (get_or spec.shape.objects place default) object opens valid (slice_get-get_or spec.shape.objects place default inside)
    (sym (ap (λ (os : List Object). slice_get os place) items_are) ∙ slice_get-get_or items place object less ∙ ap Some (sym read))

pub free_more : (kept : List PlainObject) (made : PlainObject) → All NoneIsLent kept → NoneIsLent made → All NoneIsLent (kept ++ made ∷ [])
free_more kept made all free = All-append NoneIsLent kept (made ∷ []) all (All-cons NoneIsLent made [] free (All-nil NoneIsLent))
