-- The whole state at the start is lawful.
use Rattle.std.proofs.Common.{◌≡◌, ℕ, zero, suc, ◌+◌, ◌-◌, ◌%◌, ◌/◌, ◌^◌, ◌<◌, ◌≤◌, ◌≢◌, List, [], ◌∷◌, ◌++◌, length, take, drop, fold, Bool, true}
use Rattle.std.proofs.Common.{false, ◌&&◌, Option, Some, None, refl, sym, ◌∙◌, ap, subst, inl, inr, arith, cond}
use Rattle.std.specs.Prelude.{◌==◌, not, replicate, reverse, IsSome, All, slice_get, slice_index_or, unwrap_or}
use Rattle.std.specs.List.{list_any}
use Rattle.std.specs.Ordering.{nat_cmp}
use Rattle.std.specs.Cmp.{nat_cmp_total}
use Rattle.std.specs.Cmp.Lexicographic.{slice_cmp}
use Rattle.std.specs.FinMap.{get, insert, empty, len-empty, get-insert, get-empty}
use Rattle.std.proofs.lemmas.Bool.{cases_eq, eq-eqb, ne_eqb}
use Rattle.std.proofs.lemmas.List.{length-append, length-take-le, length-drop, length-replicate, length-reverse, get_or-replicate, get_or-reverse}
use Rattle.std.proofs.lemmas.List.Elements.{All-nil, All-cons, All-head, All-tail, All-append, All-take, All-drop}
use Rattle.std.proofs.lemmas.List.Sums.{sum_by-cons}
use Rattle.vg_stree.specs.declared.config.Route.{Route}
use Rattle.vg_stree.specs.declared.config.Fill.{Fill}
use Rattle.vg_stree.specs.declared.shape.Field.{Field}
use Rattle.vg_stree.specs.declared.shape.FieldType.{FieldType}
use Rattle.vg_stree.specs.declared.shape.FieldType.TheVariants as types
use Rattle.vg_stree.specs.declared.shape.Object as objects
use Rattle.vg_stree.specs.declared.shape.ObjectKind.{ObjectKind}
use Rattle.vg_stree.specs.declared.shape.ObjectKind.TheVariants as kinds
use Rattle.vg_stree.specs.declared.shape.Size.{Size}
use Rattle.vg_stree.specs.Declarations.{Declarations, field_bytes, fields_of, struct_bytes, bytes_of, field_place}
use Rattle.vg_stree.specs.Specification.{Specification}
use Rattle.vg_stree.specs.Configuration.{Configuration}
use Rattle.vg_abs.specs.declared.object.Object.{Object}
use Rattle.vg_abs.specs.Tables.{CellTable}
use Rattle.vg_abs.specs.Fields.{low_bytes, bytes_in, with_field}
use Rattle.vg_abs.specs.Shape.{size_of, AreBytes, IsObjectOf}
use Rattle.vg_abs.specs.Lawful.{IsLawfulObject}
use Rattle.vg_abs.specs.Opening.{zero_cells, filled, with_fill, opening_cells, has_prefix, prefix_of, routes_of, opening_object, opening_objects}
use Rattle.vg_abs.specs.Opening.{FitsTable, FitsVector, FitsKind, FitsCells, IsValid, StateOpensLawful}
use Rattle.vg_abs.proofs.Starting.{same_test}
use Rattle.vg_abs.proofs.OpeningLaws.{no_some, one_more, zero_there, zero_none, opens_lawful}

-- the objects are as many as were declared, and each is the one at its place
as_many : (shape : Declarations) (config : Configuration) (number : ℕ) (declared : List objects.Object)
    → length (opening_objects shape config number declared) ≡ length declared
as_many shape config number [] = refl
as_many shape config number (one ∷ more) = ap suc (as_many shape config (number + 1) more)

some_is : {X : Type 0} (x y : X) → Some x ≡ Some y → x ≡ y
some_is x y same = ap (λ found. unwrap_or found x) same

none_some : {X : Type 0} (x : X) → None ≡ Some x → ⊥
none_some x same = absurd (cc)

object_at : (shape : Declarations) (config : Configuration) (start place : ℕ) (declared : List objects.Object) (one : objects.Object) (object : Object) →
    slice_get declared place ≡ Some one → slice_get (opening_objects shape config start declared) place ≡ Some object
    → object ≡ opening_object shape config (start + place) one.kind
object_at shape config start place [] one object there found = absurd (none_some one there)
object_at shape config start zero (first ∷ more) one object there found =
    let same : start ≡ start + 0 = omega arith in
    sym (some_is (opening_object shape config start first.kind) object found)
    ∙ ap (λ (n : ℕ). opening_object shape config n first.kind) same
    ∙ ap (λ (other : objects.Object). opening_object shape config (start + 0) other.kind) (some_is first one there)
object_at shape config start (suc place) (first ∷ more) one object there found =
    let same : start + 1 + place ≡ start + suc place = omega arith in
    object_at shape config (start + 1) place more one object there found
    ∙ ap (λ (n : ℕ). opening_object shape config n one.kind) same

object_is : (shape : Declarations) (config : Configuration) (number : ℕ) (one : objects.Object) (object : Object) →
    slice_get shape.objects number ≡ Some one → slice_get (opening_objects shape config 0 shape.objects) number ≡ Some object
    → object ≡ opening_object shape config number one.kind
object_is shape config number one object there found =
    let same : 0 + number ≡ number = omega arith in
    object_at shape config 0 number shape.objects one object there found ∙ ap (λ (n : ℕ). opening_object shape config n one.kind) same

-- bytes
zeros_are : (count : ℕ) → AreBytes count (replicate count 0)
zeros_are count = record {
  counted = length-replicate count 0;
  small = λ k d less. (let inside : k < count = subst (λ (n : ℕ). k < n) (length-replicate count 0) less in
      let is : slice_index_or (replicate count 0) k d ≡ 0 = get_or-replicate count k 0 d inside in omega arith);
}

low_counted : (count number : ℕ) → length (low_bytes count number) ≡ count
low_counted zero number = refl
low_counted (suc count) number = ap suc (low_counted count (number / 256))

low_small : (count number : ℕ) → All (λ byte. byte < 2 ^ 8) (low_bytes count number)
low_small zero number = All-nil (λ byte. byte < 2 ^ 8)
low_small (suc count) number = All-cons (λ byte. byte < 2 ^ 8) (number % 256) (low_bytes count (number / 256)) (omega arith) (low_small count (number / 256))

reversed_small : (bytes : List ℕ) → All (λ byte. byte < 2 ^ 8) bytes → All (λ byte. byte < 2 ^ 8) (reverse bytes)
reversed_small bytes all k d less =
    let inside : k < length bytes = subst (λ (n : ℕ). k < n) (length-reverse bytes) less in
    subst (λ (byte : ℕ). byte < 2 ^ 8) (sym (get_or-reverse bytes k d inside)) (all (length bytes - 1 - k) d (omega arith))

field_are : (of : FieldType) (number : ℕ) → AreBytes (field_bytes of) (bytes_in of number)
field_are (types.Number width) number = record {
  counted = low_counted (field_bytes (types.Number width)) number;
  small =
      low_small (field_bytes (types.Number width)) number;
}
field_are (types.Bytes count) number = record {
  counted = length-reverse (low_bytes count number) ∙ low_counted count number;
  small = reversed_small (low_bytes count number) (low_small count number);
}

-- a field ends within its struct
field_inside : (fields : List Field) (place : ℕ) (field : Field) → slice_get fields place ≡ Some field
    → bytes_of (take place fields) + field_bytes field.of ≤ bytes_of fields
field_inside [] place field found = absurd (none_some field found)
field_inside (first ∷ more) zero field found =
    let whole : bytes_of (first ∷ more) ≡ field_bytes first.of + bytes_of more = sum_by-cons (λ (one : Field). field_bytes one.of) first more in
    let same : field_bytes first.of ≡ field_bytes field.of = ap (λ (one : Field). field_bytes one.of) (some_is first field found) in
    omega arith
field_inside (first ∷ more) (suc place) field found =
    let whole : bytes_of (first ∷ more) ≡ field_bytes first.of + bytes_of more = sum_by-cons (λ (one : Field). field_bytes one.of) first more in
    let part : bytes_of (first ∷ take place more) ≡ field_bytes first.of + bytes_of (take place more) =
    sum_by-cons (λ (one : Field). field_bytes one.of) first (take place more) in
    let rest : bytes_of (take place more) + field_bytes field.of ≤ bytes_of more = field_inside more place field found in
    omega arith

-- a cell has as many bytes after a field of it was filled
field_set : (count place : ℕ) (of : FieldType) (number : ℕ) (bytes : List ℕ) → place + field_bytes of ≤ count → AreBytes count bytes
    → AreBytes count (with_field place of number bytes)
field_set count place of number bytes inside are = record {
  counted = (let whole : length bytes ≡ count = are.counted in
      let middle : length (bytes_in of number) ≡ field_bytes of = (field_are of number).counted in
      let first : length (take place bytes) ≡ place = length-take-le place bytes (omega arith) in
      let dropped : length (drop place bytes) ≡ length bytes - place = length-drop place bytes in
      let last : length (drop (field_bytes of) (drop place bytes)) ≡ length (drop place bytes) - field_bytes of =
      length-drop (field_bytes of) (drop place bytes) in
      let inner : length (bytes_in of number ++ drop (field_bytes of) (drop place bytes)) ≡ length (bytes_in of number) + length
      (drop (field_bytes of) (drop place bytes)) =
      length-append (bytes_in of number) (drop (field_bytes of) (drop place bytes)) in
      let outer : length (with_field place of number bytes) ≡ length (take place bytes) + length
      (bytes_in of number ++ drop (field_bytes of) (drop place bytes)) =
      length-append (take place bytes) (bytes_in of number ++ drop (field_bytes of) (drop place bytes)) in
      omega arith);
  small = All-append (λ byte. byte < 2 ^ 8) (take place bytes) (bytes_in of number ++ drop (field_bytes of) (drop place bytes))
      (All-take (λ byte. byte < 2 ^ 8) place bytes are.small)
      (All-append (λ byte. byte < 2 ^ 8) (bytes_in of number) (drop (field_bytes of) (drop place bytes)) (field_are of number).small
      (All-drop (λ byte. byte < 2 ^ 8) (field_bytes of) (drop place bytes) (All-drop (λ byte. byte < 2 ^ 8) place bytes are.small)));
}

-- so many cells of so many bytes, and no more
record AreCells (count size : ℕ) (cells : CellTable) : Type 0 where
  pub there : (index : ℕ) → index < count → IsSome (get cells index)
  pub inside : (index : ℕ) (bytes : List ℕ) → get cells index ≡ Some bytes → index < count
  pub sized : (index : ℕ) (bytes : List ℕ) → get cells index ≡ Some bytes → AreBytes size bytes

zero_sized : (count size index : ℕ) (bytes : List ℕ) → get (zero_cells count size) index ≡ Some bytes → AreBytes size bytes
zero_sized zero size index bytes found = absurd (no_some (get (empty {X = List ℕ} {R = nat_cmp}) index) bytes (get-empty nat_cmp index) found)
zero_sized (suc count) size index bytes found = elim (cases_eq count index) [
  | inl same ↦ subst (λ (cell : List ℕ). AreBytes size cell)
      (some_is (replicate size 0) bytes
      (sym (one_more count size index ∙ ap (λ b. cond b (Some (replicate size 0)) (get (zero_cells count size) index)) (eq-eqb count index same))
      ∙ found)) (zeros_are size)
  | inr ne ↦ zero_sized count size index bytes
      (sym (one_more count size index ∙ ap (λ b. cond b (Some (replicate size 0)) (get (zero_cells count size) index)) (ne_eqb count index ne))
      ∙ found)
]

zero_are : (count size : ℕ) → AreCells count size (zero_cells count size)
zero_are count size = record { there = zero_there count size; inside = zero_none count size; sized = zero_sized count size }

-- one of them is put anew
put_here : (cells : CellTable) (at index : ℕ) (cell : List ℕ) → index ≡ at → get (insert cells at cell) index ≡ Some cell
put_here cells at index cell same =
    get-insert nat_cmp_total cells at cell index ∙ ap (λ b. cond b (Some cell) (get cells index)) (same_test index at ∙ eq-eqb at index (sym same))

put_other : (cells : CellTable) (at index : ℕ) (cell : List ℕ) → index ≢ at → get (insert cells at cell) index ≡ get cells index
put_other cells at index cell ne =
    get-insert nat_cmp_total cells at cell index ∙ ap (λ b. cond b (Some cell) (get cells index)) (same_test index at ∙ ne_eqb at index (λ same. ne (sym same)))

put_are : (count size : ℕ) (cells : CellTable) (at : ℕ) (cell : List ℕ) → at < count → AreBytes size cell → AreCells count size cells
    → AreCells count size (insert cells at cell)
put_are count size cells at cell less sized are = record {
  there = λ index below. elim (cases_eq index at) [
    | inl same ↦ subst (λ (found : Option (List ℕ)). IsSome found) (sym (put_here cells at index cell same)) refl
    | inr ne ↦ subst (λ (found : Option (List ℕ)). IsSome found) (sym (put_other cells at index cell ne)) (are.there index below)
  ];
  inside = λ index bytes found. elim (cases_eq index at) [
    | inl same ↦ omega arith
    | inr ne ↦ are.inside index bytes (sym (put_other cells at index cell ne) ∙ found)
  ];
  sized = λ index bytes found. elim (cases_eq index at) [
    | inl same ↦ subst (λ (bytes : List ℕ). AreBytes size bytes) (some_is cell bytes (sym (put_here cells at index cell same) ∙ found)) sized
    | inr ne ↦ are.sized index bytes (sym (put_other cells at index cell ne) ∙ found)
  ];
}

-- a cell that is there is what is told of it
there_is : (found : Option (List ℕ)) → IsSome found → found ≡ Some (unwrap_or found [])
there_is None there = absurd (cc)
there_is (Some bytes) there = refl

-- after a fill
filled_are : (shape : Declarations) (numbers : List ℕ) (cell : ℕ) (count : Size) (fill : Fill) (cells : CellTable) (found : Option Field)
    → slice_get (fields_of shape cell) fill.field ≡ found →
    fill.index < size_of numbers count → AreCells (size_of numbers count) (struct_bytes shape cell) cells →
    AreCells (size_of numbers count) (struct_bytes shape cell) (filled (field_place shape cell fill.field) cells fill found)
filled_are shape numbers cell count fill cells None is less are = are
filled_are shape numbers cell count fill cells (Some field) is less are =
    put_are (size_of numbers count) (struct_bytes shape cell) cells fill.index (with_field (field_place shape cell fill.field) field.of fill.value
    (unwrap_or (get cells fill.index) [])) less
    (field_set (struct_bytes shape cell) (field_place shape cell fill.field) field.of fill.value (unwrap_or (get cells fill.index) [])
    (field_inside (fields_of shape cell) fill.field field is)
    (are.sized fill.index (unwrap_or (get cells fill.index) []) (there_is (get cells fill.index) (are.there fill.index less)))) are

fits_below : (shape : Declarations) (numbers : List ℕ) (cell : ℕ) (count : Size) (fill : Fill) (vector : ℕ) (declared : objects.Object)
    → slice_get shape.objects vector ≡ Some declared →
    declared.kind ≡ kinds.Vector cell count → fill.vector ≡ vector → FitsVector shape numbers fill → fill.index < size_of numbers count
fits_below shape numbers cell count fill vector declared there kind same fits =
    let one : fits.0 ≡ declared = some_is fits.0 declared (sym fits.1 ∙ ap (λ (n : ℕ). slice_get shape.objects n) same ∙ there) in
    (subst (λ (of : ObjectKind). FitsCells shape numbers fill of) (ap (λ (object : objects.Object). object.kind) one ∙ kind) fits.2).0

fill_are : (shape : Declarations) (numbers : List ℕ) (cell : ℕ) (count : Size) (vector : ℕ) (declared : objects.Object)
    → slice_get shape.objects vector ≡ Some declared →
    declared.kind ≡ kinds.Vector cell count → (fill : Fill) → FitsVector shape numbers fill → (cells : CellTable)
    → AreCells (size_of numbers count) (struct_bytes shape cell) cells →
    AreCells (size_of numbers count) (struct_bytes shape cell) (with_fill shape cell vector cells fill)
fill_are shape numbers cell count vector declared there kind fill fits cells are = elim (cases_eq fill.vector vector) [
  | inl same ↦ subst (λ (b : Bool). AreCells (size_of numbers count) (struct_bytes shape cell)
      (cond b (filled (field_place shape cell fill.field) cells fill (slice_get (fields_of shape cell) fill.field)) cells))
      (sym (eq-eqb fill.vector vector same))
      (filled_are shape numbers cell count fill cells (slice_get (fields_of shape cell) fill.field) refl
      (fits_below shape numbers cell count fill vector declared there kind same fits) are)
  | inr ne ↦ subst (λ (b : Bool). AreCells (size_of numbers count) (struct_bytes shape cell)
      (cond b (filled (field_place shape cell fill.field) cells fill (slice_get (fields_of shape cell) fill.field)) cells))
      (sym (ne_eqb fill.vector vector ne)) are
]

fills_are : (shape : Declarations) (numbers : List ℕ) (cell : ℕ) (count : Size) (vector : ℕ) (declared : objects.Object)
    → slice_get shape.objects vector ≡ Some declared →
    declared.kind ≡ kinds.Vector cell count → (fills : List Fill) → All (FitsVector shape numbers) fills → (cells : CellTable)
    → AreCells (size_of numbers count) (struct_bytes shape cell) cells →
    AreCells (size_of numbers count) (struct_bytes shape cell) (fold (with_fill shape cell vector) cells fills)
fills_are shape numbers cell count vector declared there kind [] fit cells are = are
fills_are shape numbers cell count vector declared there kind (fill ∷ fills) fit cells are =
    fills_are shape numbers cell count vector declared there kind fills (All-tail (FitsVector shape numbers) fill fills fit)
    (with_fill shape cell vector cells fill)
    (fill_are shape numbers cell count vector declared there kind fill (All-head (FitsVector shape numbers) fill fills fit) cells are)

-- a table's routes lie in its range
abbrev InRange : ℕ → ℕ → Route → Type 0
InRange low high route = (low ≤ route.value) × (route.value ≤ high) × (route.len ≤ 32)

and_left : (a b : Bool) → (a && b) ≡ true → a ≡ true
and_left true b e = refl
and_left false b e = e

route_in : (shape : Declarations) (low high table : ℕ) (declared : objects.Object) → slice_get shape.objects table ≡ Some declared
    → declared.kind ≡ kinds.Table low high →
    (route : Route) → FitsTable shape route → route.table ≡ table → InRange low high route
route_in shape low high table declared there kind route fits same =
    let one : fits.0 ≡ declared = some_is fits.0 declared (sym fits.1 ∙ ap (λ (n : ℕ). slice_get shape.objects n) same ∙ there) in
    let fit = subst (λ (of : ObjectKind). FitsKind route of) (ap (λ (object : objects.Object). object.kind) one ∙ kind) fits.2 in
    (fit.1, fit.2, fit.0)

route_kept : (low high table : ℕ) (route : Route) (rest : List Route) (b : Bool) → (b ≡ true → InRange low high route) → All (InRange low high) rest
    → All (InRange low high) (cond b (route ∷ rest) rest)
route_kept low high table route rest true fits all = All-cons (InRange low high) route rest (fits refl) all
route_kept low high table route rest false fits all = all

same_table : (a b : ℕ) → (a == b) ≡ true → a ≡ b
same_table a b test = elim (cases_eq a b) [
  | inl same ↦ same
  | inr ne ↦ absurd (let no : (a == b) ≡ false = ne_eqb a b ne in cc)
]

routes_in : (shape : Declarations) (low high table : ℕ) (declared : objects.Object) → slice_get shape.objects table ≡ Some declared
    → declared.kind ≡ kinds.Table low high →
    (routes : List Route) → All (FitsTable shape) routes → All (InRange low high) (routes_of table routes)
routes_in shape low high table declared there kind [] fit = All-nil (InRange low high)
routes_in shape low high table declared there kind (route ∷ routes) fit =
    route_kept low high table route (routes_of table routes) ((route.table == table) && not (list_any (has_prefix table (prefix_of route)) routes))
    (λ test. route_in shape low high table declared there kind route (All-head (FitsTable shape) route routes fit)
    (same_table route.table table (and_left (route.table == table) (not (list_any (has_prefix table (prefix_of route)) routes)) test)))
    (routes_in shape low high table declared there kind routes (All-tail (FitsTable shape) route routes fit))

-- an object at the start has its shape
module _ (spec : Specification) (config : Configuration) (valid : IsValid spec config) (number : ℕ) (declared : objects.Object)
    (there : slice_get spec.shape.objects number ≡ Some declared) where
  cells_are : (cell : ℕ) (count : Size) → declared.kind ≡ kinds.Vector cell count →
      AreCells (size_of config.numbers count) (struct_bytes spec.shape cell) (opening_cells spec.shape config.fills number cell (size_of config.numbers count))
  cells_are cell count kind =
      fills_are spec.shape config.numbers cell count number declared there kind config.fills valid.fills
      (zero_cells (size_of config.numbers count) (struct_bytes spec.shape cell))
      (zero_are (size_of config.numbers count) (struct_bytes spec.shape cell))

  shaped : (kind : ObjectKind) → declared.kind ≡ kind → IsObjectOf spec.shape config.numbers kind (opening_object spec.shape config number kind)
  shaped (kinds.Map key capacity) is = record {
    capacity_is = refl;
    key_length_is = refl;
    keys_have = λ bytes answer found. absurd (no_some (get (empty {X = Option ℕ} {R = slice_cmp nat_cmp}) bytes) answer
        (get-empty (slice_cmp nat_cmp) bytes) found);
    cells_have = zero_sized (size_of config.numbers capacity) (struct_bytes spec.shape key);
  }
  shaped kinds.Chain is = tt
  shaped kinds.Keys is = tt
  shaped (kinds.Vector cell count) is = record { count_is = refl; cells_have = (cells_are cell count is).sized }
  shaped (kinds.Table low high) is = tt

  lawful : (kind : ObjectKind) → declared.kind ≡ kind → IsLawfulObject 0 true kind (opening_object spec.shape config number kind)
  lawful (kinds.Map key capacity) is = opens_lawful (size_of config.numbers capacity) (struct_bytes spec.shape key)
  lawful kinds.Chain is = tt
  lawful kinds.Keys is = tt
  lawful (kinds.Vector cell count) is = record { inside = (cells_are cell count is).inside; all_cells = λ full. (cells_are cell count is).there }
  lawful (kinds.Table low high) is =
      record {
        routes = routes_in spec.shape low high number declared there is config.routes valid.routes;
        no_addresses =
            len-empty nat_cmp (Option ℕ);
      }

pub opening_lawful : StateOpensLawful
opening_lawful spec config valid = record {
  shaped = record {
    as_many = as_many spec.shape config 0 spec.shape.objects;
    each = λ number declared object there found. subst (λ (one : Object). IsObjectOf spec.shape config.numbers declared.kind one)
        (sym (object_is spec.shape config number declared object there found))
        (shaped spec config valid number declared there declared.kind refl);
  };
  each = λ number declared object there found. subst (λ (one : Object). IsLawfulObject 0 true declared.kind one)
      (sym (object_is spec.shape config number declared object there found))
      (lawful spec config valid number declared there declared.kind refl);
  rules = valid.rules;
}
