-- What is read is valid.
use Rattle.std.proofs.Common.{◌≡◌, ◌≢◌, ℕ, zero, suc, ◌+◌, ◌<◌, ◌≤◌, ◌^◌, List, [], ◌∷◌, ◌++◌, length, get_or, Option, Some, None, Bool, true, false}
use Rattle.std.proofs.Common.{◌&&◌, Ok, Err, Result, cond, refl, sym, ◌∙◌, ap, subst, arith, ◌⊎◌, inl, inr}
use Rattle.std.specs.Prelude.{◌==◌, nat_lt, nat_le, slice_get, slice_set, slice_index_or, replicate, unwrap_or, All}
use Rattle.std.proofs.lemmas.Bool.Decides.{Decides-ltb, Decides-eqb, nat_tests}
use Rattle.std.proofs.lemmas.List.{length-append, length-set, length-replicate}
use Rattle.std.proofs.lemmas.Option.{slice_get-get_or}
use Rattle.std.proofs.lemmas.List.Elements.{All-nil, All-cons, All-head, All-tail, All-append}
use Rattle.vg_stree.specs.declared.config.Route.{Route}
use Rattle.vg_stree.specs.declared.config.Fill.{Fill}
use Rattle.vg_stree.specs.declared.shape.Number.{Number}
use Rattle.vg_stree.specs.declared.shape.Field.{Field}
use Rattle.vg_stree.specs.declared.shape.Rule.{Rule}
use Rattle.vg_stree.specs.declared.shape.Size.{Size}
use Rattle.vg_stree.specs.declared.shape.Object.{Object}
use Rattle.vg_stree.specs.declared.shape.ObjectKind.{ObjectKind}
use Rattle.vg_stree.specs.declared.shape.ObjectKind.TheVariants as kinds
use Rattle.vg_stree.specs.Declarations.{Declarations, field_bytes, fields_of}
use Rattle.vg_stree.specs.Specification.{Specification}
use Rattle.vg_stree.specs.Configuration.{Configuration}
use Rattle.std.specs.Bool.{Decides}
use Rattle.std.proofs.lemmas.Bool.{cases_eq}
use Rattle.vg_abs.specs.State.{State}
use Rattle.vg_abs.specs.Lawful.{Holds}
use Rattle.vg_abs.specs.Expressions.{PremiseHolds, value_of}
use Rattle.vg_abs.specs.Opening.{IsInRange, AreInRange, FitsKind, FitsTable, FitsCells, FitsVector, IsValid}
use Rattle.vg_conf.specs.declared.fault.ConfFault.{ConfFault}
use Rattle.vg_conf.specs.declared.fault.ConfFault.TheVariants as faults
use Rattle.vg_conf.specs.declared.given.CellLine.{CellLine}
use Rattle.vg_conf.specs.declared.lines.Prefix.{Prefix}
use Rattle.vg_conf.specs.Numbers.{decimal_in, address_in, number_in}
use Rattle.vg_conf.specs.Pieces.{pieces, lines_of, words_of}
use Rattle.vg_conf.specs.Named.{first_from, number_named, table_named, vector_named, field_named}
use Rattle.vg_conf.specs.Given.{Gathered, nothing_given}
use Rattle.vg_conf.specs.Lines as lines
use Rattle.vg_conf.specs.Lines.{Answer, most_routes}
use Rattle.vg_conf.specs.Reading as reading
use Rattle.vg_conf.specs.Reading.{IsRead, IsFirstBroken}

false_true : false ≡ true → ⊥
false_true e = absurd (cc)

some_is : {X : Type 0} (x y : X) → Some x ≡ Some y → x ≡ y
some_is x y same = ap (λ found. unwrap_or found x) same

none_some : {X : Type 0} (x : X) → None ≡ Some x → ⊥
none_some x same = absurd (cc)

ok_is : {X : Type 0} (x y : X) → ◌≡◌ {A = Result X ConfFault} (Ok x) (Ok y) → x ≡ y
ok_is x y same = cc

err_ok : {X : Type 0} (fault : ConfFault) (x : X) → ◌≡◌ {A = Result X ConfFault} (Err fault) (Ok x) → ⊥
err_ok fault x same = absurd (cc)

and_first : (a b : Bool) → (a && b) ≡ true → a ≡ true
and_first true b e = refl
and_first false b e = e

and_second : (a b : Bool) → (a && b) ≡ true → b ≡ true
and_second true b e = e
and_second false b e = absurd (cc)

le_is : (a b : ℕ) → nat_le a b ≡ true → a ≤ b
le_is a b e = grind (arith, nat_tests)

not_le : (a b : ℕ) → nat_le a b ≡ false → b < a
not_le a b e = grind (arith, nat_tests)

-- a line on a cell is of a vector of its own, and of a field that holds its value
abbrev HoldsField : Declarations → CellLine → ObjectKind → Type 0
HoldsField shape cell (kinds.Vector struct count) = (field : Field) × ((slice_get (fields_of shape struct) cell.field ≡ Some field)
    × (cell.value < 256 ^ field_bytes field.of))
HoldsField shape cell _ = ⊥

abbrev FitsField : Declarations → CellLine → Type 0
FitsField shape cell = (object : Object) × ((slice_get shape.objects cell.vector ≡ Some object) × HoldsField shape cell object.kind)

-- what lines give, as far as they were read, can become valid
record Good (shape : Declarations) (given : Gathered) : Type 0 where
  pub counted : length given.numbers ≡ length shape.numbers
  pub ranged : (place value : ℕ) (number : Number) → slice_get shape.numbers place ≡ Some number → slice_get given.numbers place ≡ Some (Some value)
      → IsInRange number value
  pub few : length given.routes ≤ 65536
  pub routed : All (FitsTable shape) given.routes
  pub celled : All (FitsField shape) given.cells

none_given : (count place value : ℕ) → ◌≡◌ {A = Option (Option ℕ)} (slice_get (replicate count None) place) (Some (Some value)) → ⊥
none_given zero place value found = none_some (Some value) found
none_given (suc count) zero value found = none_some value (some_is None (Some value) found)
none_given (suc count) (suc place) value found = none_given count place value found

good_first : (spec : Specification) → Good spec.shape (nothing_given spec)
good_first spec = record {
  counted = length-replicate (length spec.shape.numbers) None;
  ranged = λ place value number there found. absurd (none_given (length spec.shape.numbers) place value found);
  few = omega arith;
  routed = All-nil (FitsTable spec.shape);
  celled = All-nil (FitsField spec.shape);
}

-- a number more
set_get : (xs : List (Option ℕ)) (place other v value : ℕ) → slice_get (slice_set xs place (Some v)) other ≡ Some (Some value)
    → ((other ≡ place) × (v ≡ value)) ⊎ (slice_get xs other ≡ Some (Some value))
set_get [] place other v value found = absurd (none_some (Some value) found)
set_get (x ∷ xs) zero zero v value found = inl (refl, some_is v value (some_is (Some v) (Some value) found))
set_get (x ∷ xs) zero (suc other) v value found = inr found
set_get (x ∷ xs) (suc place) zero v value found = inr found
set_get (x ∷ xs) (suc place) (suc other) v value found = elim (set_get xs place other v value found) [
  | inl same ↦ inl (ap suc same.0, same.1)
  | inr there ↦ inr there
]

module _ (spec : Specification) where
  with_number_good : (given : Gathered) (place value : ℕ) (number : Number) → Good spec.shape given → slice_get spec.shape.numbers place ≡ Some number
      → IsInRange number value →
      Good spec.shape (record given { numbers = slice_set given.numbers place (Some value) })
  with_number_good given place value number good there within = record {
    counted = length-set given.numbers place (Some value) ∙ good.counted;
    ranged = λ other found one is has. elim (set_get given.numbers place other value found has) [
      | inl same ↦ subst (λ (n : ℕ). IsInRange one n) same.1
          (subst (λ (declared : Number). IsInRange declared value) (some_is number one (sym there
          ∙ ap (λ n. slice_get spec.shape.numbers n) (sym same.0) ∙ is)) within)
      | inr before ↦ good.ranged other found one is before
    ];
    few = good.few;
    routed = good.routed;
    celled = good.celled;
  }

  within_good : (given : Gathered) (place value : ℕ) (number : Number) (next : Gathered) (b : Bool) → lines.is_within number.low number.high value ≡ b
      → Good spec.shape given →
      slice_get spec.shape.numbers place ≡ Some number →
      ◌≡◌ {A = Answer} (cond b (Ok (record given { numbers = slice_set given.numbers place (Some value) })) (Err (faults.Range number.at))) (Ok next)
      → Good spec.shape next
  within_good given place value number next true is good there same =
      subst (λ (g : Gathered). Good spec.shape g) (ok_is _ _ same) (with_number_good given place value number good there (
        le_is number.low value (and_first (nat_le number.low value) (nat_le value number.high) is),
        le_is value number.high (and_second (nat_le number.low value) (nat_le value number.high) is),
      ))
  within_good given place value number next false is good there same = absurd (err_ok _ _ same)

  once_good : (given : Gathered) (place value : ℕ) (number : Number) (next : Gathered) (before : Option (Option ℕ)) → Good spec.shape given
      → slice_get spec.shape.numbers place ≡ Some number →
      lines.give_once given place number value before ≡ Ok next → Good spec.shape next
  once_good given place value number next (Some (Some earlier)) good there same = absurd (err_ok _ _ same)
  once_good given place value number next (Some None) good there same = within_good given place value number next
      (lines.is_within number.low number.high value) refl good there same
  once_good given place value number next None good there same = within_good given place value number next
      (lines.is_within number.low number.high value) refl good there same

  give_good : (line : ℕ) (given : Gathered) (place value : ℕ) (found : Option Number) (next : Gathered) → Good spec.shape given
      → slice_get spec.shape.numbers place ≡ found →
      lines.give line given place found value ≡ Ok next → Good spec.shape next
  give_good line given place value None next good there same = absurd (err_ok _ _ same)
  give_good line given place value (Some number) next good there same = once_good given place value number next (slice_get given.numbers place) good there same

  number_good : (line : ℕ) (given : Gathered) (place value : Option ℕ) (next : Gathered) → Good spec.shape given
      → lines.number_line spec line given place value ≡ Ok next → Good spec.shape next
  number_good line given (Some place) (Some value) next good same = give_good line given place value (slice_get spec.shape.numbers place) next good refl same
  number_good line given (Some place) None next good same = absurd (err_ok _ _ same)
  number_good line given None value next good same = absurd (err_ok _ _ same)

  -- a route more
  abbrev Short : Option Prefix → Type 0
  Short None = Unit {0}
  Short (Some prefix) = prefix.len ≤ 32

  short_if : (address len : ℕ) (b : Bool) → nat_le len 32 ≡ b → Short (cond b (Some (record { address = address; len = len })) None)
  short_if address len true is = le_is len 32 is
  short_if address len false is = tt

  short_of : (address len : Option ℕ) → Short (lines.prefix_of address len)
  short_of None len = tt
  short_of (Some address) None = tt
  short_of (Some address) (Some len) = short_if address len (nat_le len 32) refl

  short_by : (parts : List (List ℕ)) → Short (lines.prefix_by parts)
  short_by [] = tt
  short_by (a ∷ []) = tt
  short_by (a ∷ b ∷ []) = short_of (address_in a) (decimal_in b)
  short_by (a ∷ b ∷ c ∷ parts) = tt

  with_route_good : (given : Gathered) (route : Route) → Good spec.shape given → length given.routes < 65536 → FitsTable spec.shape route
      → Good spec.shape (record given { routes = given.routes ++ route ∷ [] })
  with_route_good given route good less fits = record {
    counted = good.counted;
    ranged = good.ranged;
    few = (let more : length (given.routes ++ route ∷ []) ≡ length given.routes + 1 = length-append given.routes (route ∷ []) in omega arith);
    routed = All-append (FitsTable spec.shape) given.routes (route ∷ []) good.routed (All-cons (FitsTable spec.shape) route [] fits
        (All-nil (FitsTable spec.shape)));
    celled = good.celled;
  }

  range_good : (given : Gathered) (table : ℕ) (object : Object) (low high : ℕ) (prefix : Prefix) (value : ℕ) (next : Gathered) (b : Bool)
      → lines.is_within low high value ≡ b → Good spec.shape given →
      length given.routes < 65536 → slice_get spec.shape.objects table ≡ Some object → object.kind ≡ kinds.Table low high → prefix.len ≤ 32 →
      ◌≡◌ {A = Answer} (cond b (Ok (record given {
        routes = given.routes ++ record {
          table = table;
          address = prefix.address;
          len =
              prefix.len;
          value = value;
        } ∷ [];
      })) (Err (faults.Range object.at))) (Ok next) →
      Good spec.shape next
  range_good given table object low high prefix value next true is good less there kind short same =
      subst (λ (g : Gathered). Good spec.shape g) (ok_is _ _ same)
      (with_route_good given (record { table = table; address = prefix.address; len = prefix.len; value = value }) good less (
        object,
        there,
        subst (λ (of : ObjectKind). FitsKind (record { table = table; address = prefix.address; len = prefix.len; value = value }) of) (sym kind) (
          short,
          le_is low value (and_first (nat_le low value) (nat_le value high) is),
          le_is value high (and_second (nat_le low value) (nat_le value high) is),
        ),
      ))
  range_good given table object low high prefix value next false is good less there kind short same = absurd (err_ok _ _ same)

  room_good : (line : ℕ) (given : Gathered) (table : ℕ) (object : Object) (low high : ℕ) (prefix : Prefix) (value : ℕ) (next : Gathered) (b : Bool)
      → nat_le most_routes (length given.routes) ≡ b →
      Good spec.shape given → slice_get spec.shape.objects table ≡ Some object → object.kind ≡ kinds.Table low high → prefix.len ≤ 32 →
      ◌≡◌ {A = Answer} (cond b (Err (faults.Line line)) (cond (lines.is_within low high value)
      (Ok (record given { routes = given.routes ++ record { table = table; address = prefix.address; len = prefix.len; value = value } ∷ [] }))
      (Err (faults.Range object.at)))) (Ok next) → Good spec.shape next
  room_good line given table object low high prefix value next true is good there kind short same = absurd (err_ok _ _ same)
  room_good line given table object low high prefix value next false is good there kind short same =
      range_good given table object low high prefix value next (lines.is_within low high value) refl good
      (not_le most_routes (length given.routes) is) there kind short same

  kind_good : (line : ℕ) (given : Gathered) (table : ℕ) (object : Object) (kind : ObjectKind) (prefix : Prefix) (value : ℕ) (next : Gathered)
      → Good spec.shape given →
      slice_get spec.shape.objects table ≡ Some object → object.kind ≡ kind → prefix.len ≤ 32
      → lines.add_in line given table object.at kind prefix value ≡ Ok next → Good spec.shape next
  kind_good line given table object (kinds.Table low high) prefix value next good there kind short same =
      room_good line given table object low high prefix value next (nat_le most_routes (length given.routes)) refl good there kind short same
  kind_good line given table object (kinds.Map key capacity) prefix value next good there kind short same = absurd (err_ok _ _ same)
  kind_good line given table object kinds.Chain prefix value next good there kind short same = absurd (err_ok _ _ same)
  kind_good line given table object kinds.Keys prefix value next good there kind short same = absurd (err_ok _ _ same)
  kind_good line given table object (kinds.Vector cell count) prefix value next good there kind short same = absurd (err_ok _ _ same)

  add_good : (line : ℕ) (given : Gathered) (table : ℕ) (found : Option Object) (prefix : Prefix) (value : ℕ) (next : Gathered) → Good spec.shape given
      → slice_get spec.shape.objects table ≡ found →
      prefix.len ≤ 32 → lines.add line given table found prefix value ≡ Ok next → Good spec.shape next
  add_good line given table None prefix value next good there short same = absurd (err_ok _ _ same)
  add_good line given table (Some object) prefix value next good there short same = kind_good line given table object object.kind prefix value next
      good there refl short same

  route_good : (line : ℕ) (given : Gathered) (table : Option ℕ) (prefix : Option Prefix) (value : Option ℕ) (next : Gathered) → Good spec.shape given
      → Short prefix →
      lines.route_line spec line given table prefix value ≡ Ok next → Good spec.shape next
  route_good line given (Some table) (Some prefix) (Some value) next good short same = add_good line given table (slice_get spec.shape.objects table)
      prefix value next good refl short same
  route_good line given (Some table) (Some prefix) None next good short same = absurd (err_ok _ _ same)
  route_good line given (Some table) None value next good short same = absurd (err_ok _ _ same)
  route_good line given None prefix value next good short same = absurd (err_ok _ _ same)

  -- a cell more
  with_cell_good : (given : Gathered) (cell : CellLine) → Good spec.shape given → FitsField spec.shape cell
      → Good spec.shape (record given { cells = given.cells ++ cell ∷ [] })
  with_cell_good given cell good fits = record {
    counted = good.counted;
    ranged = good.ranged;
    few = good.few;
    routed = good.routed;
    celled = All-append (FitsField spec.shape) given.cells (cell ∷ []) good.celled (All-cons (FitsField spec.shape) cell [] fits
        (All-nil (FitsField spec.shape)));
  }

  abbrev IsCell : ℕ → Object → ℕ → Type 0
  IsCell vector object struct = (slice_get spec.shape.objects vector ≡ Some object) × ((count : Size) × (object.kind ≡ kinds.Vector struct count))

  held_good : (line : ℕ) (given : Gathered) (vector index place value struct : ℕ) (object : Object) (field : Field) (next : Gathered) (b : Bool)
      → nat_lt value (256 ^ field_bytes field.of) ≡ b →
      Good spec.shape given → IsCell vector object struct → slice_get (fields_of spec.shape struct) place ≡ Some field →
      ◌≡◌ {A = Answer} (cond b (Ok (record given {
        cells = given.cells ++ record {
          line = line;
          vector = vector;
          index = index;
          field = place;
          value =
              value;
        } ∷ [];
      })) (Err (faults.Line line))) (Ok next) →
      Good spec.shape next
  held_good line given vector index place value struct object field next true is good at there same =
      subst (λ (g : Gathered). Good spec.shape g) (ok_is _ _ same)
      (with_cell_good given (record { line = line; vector = vector; index = index; field = place; value = value }) good (
        object,
        (
          at.0,
          subst (λ (of : ObjectKind). HoldsField spec.shape (record { line = line; vector = vector; index = index; field = place; value = value }) of)
              (sym at.1.1)
              (field, (there, (Decides-ltb value (256 ^ field_bytes field.of)).0 is)),
        ),
      ))
  held_good line given vector index place value struct object field next false is good at there same = absurd (err_ok _ _ same)

  field_good : (line : ℕ) (given : Gathered) (vector index place value struct : ℕ) (object : Object) (found : Option Field) (next : Gathered)
      → Good spec.shape given → IsCell vector object struct →
      slice_get (fields_of spec.shape struct) place ≡ found → lines.put_in line given vector index place found value ≡ Ok next → Good spec.shape next
  field_good line given vector index place value struct object None next good at there same = absurd (err_ok _ _ same)
  field_good line given vector index place value struct object (Some field) next good at there same =
      held_good line given vector index place value struct object field next (nat_lt value (256 ^ field_bytes field.of)) refl good at there same

  place_good : (line : ℕ) (given : Gathered) (vector index value struct : ℕ) (object : Object) (place : Option ℕ) (next : Gathered)
      → Good spec.shape given → IsCell vector object struct →
      lines.put_at spec line given vector index struct place value ≡ Ok next → Good spec.shape next
  place_good line given vector index value struct object None next good at same = absurd (err_ok _ _ same)
  place_good line given vector index value struct object (Some place) next good at same =
      field_good line given vector index place value struct object (slice_get (fields_of spec.shape struct) place) next good at refl same

  struct_good : (line : ℕ) (given : Gathered) (vector index value : ℕ) (word : List ℕ) (object : Object) (kind : ObjectKind) (next : Gathered)
      → Good spec.shape given →
      slice_get spec.shape.objects vector ≡ Some object → object.kind ≡ kind → lines.put spec line given vector index (lines.struct_of kind) word
      value ≡ Ok next → Good spec.shape next
  struct_good line given vector index value word object (kinds.Vector struct count) next good there kind same =
      place_good line given vector index value struct object (field_named spec struct word) next good (there, (count, kind)) same
  struct_good line given vector index value word object (kinds.Map key capacity) next good there kind same = absurd (err_ok _ _ same)
  struct_good line given vector index value word object kinds.Chain next good there kind same = absurd (err_ok _ _ same)
  struct_good line given vector index value word object kinds.Keys next good there kind same = absurd (err_ok _ _ same)
  struct_good line given vector index value word object (kinds.Table low high) next good there kind same = absurd (err_ok _ _ same)

  put_good : (line : ℕ) (given : Gathered) (vector index value : ℕ) (word : List ℕ) (found : Option Object) (next : Gathered) → Good spec.shape given
      → slice_get spec.shape.objects vector ≡ found →
      lines.put spec line given vector index (lines.struct_in found) word value ≡ Ok next → Good spec.shape next
  put_good line given vector index value word None next good there same = absurd (err_ok _ _ same)
  put_good line given vector index value word (Some object) next good there same = struct_good line given vector index value word object object.kind
      next good there refl same

  cell_good : (line : ℕ) (given : Gathered) (vector index : Option ℕ) (word : List ℕ) (value : Option ℕ) (next : Gathered) → Good spec.shape given →
      lines.cell_line spec line given vector index word value ≡ Ok next → Good spec.shape next
  cell_good line given (Some vector) (Some index) word (Some value) next good same = put_good line given vector index value word
      (slice_get spec.shape.objects vector) next good refl same
  cell_good line given (Some vector) (Some index) word None next good same = absurd (err_ok _ _ same)
  cell_good line given (Some vector) None word value next good same = absurd (err_ok _ _ same)
  cell_good line given None index word value next good same = absurd (err_ok _ _ same)

  -- a line more
  if_good : (given next : Gathered) (answer : Answer) (line : ℕ) (b : Bool) → (answer ≡ Ok next → Good spec.shape next)
      → ◌≡◌ {A = Answer} (cond b answer (Err (faults.Line line))) (Ok next) → Good spec.shape next
  if_good given next answer line true good same = good same
  if_good given next answer line false good same = absurd (err_ok _ _ same)

  words_good : (line : ℕ) (given : Gathered) (words : List (List ℕ)) (next : Gathered) → Good spec.shape given
      → lines.after_words spec line given words ≡ Ok next → Good spec.shape next
  words_good line given [] next good same = absurd (err_ok _ _ same)
  words_good line given (a ∷ []) next good same = absurd (err_ok _ _ same)
  words_good line given (a ∷ b ∷ []) next good same = number_good line given (number_named spec a) (number_in b) next good same
  words_good line given (a ∷ b ∷ c ∷ []) next good same = absurd (err_ok _ _ same)
  words_good line given (a ∷ b ∷ c ∷ d ∷ []) next good same =
      if_good given next (lines.route_line spec line given (table_named spec b) (lines.prefix_in c) (number_in d)) line _
      (λ is. route_good line given (table_named spec b) (lines.prefix_in c) (number_in d) next good (short_by (pieces 47 c)) is) same
  words_good line given (a ∷ b ∷ c ∷ d ∷ e ∷ []) next good same =
      if_good given next (lines.cell_line spec line given (vector_named spec b) (number_in c) d (number_in e)) line _
      (λ is. cell_good line given (vector_named spec b) (number_in c) d (number_in e) next good is) same
  words_good line given (a ∷ b ∷ c ∷ d ∷ e ∷ f ∷ words) next good same = absurd (err_ok _ _ same)

  line_good : (line : ℕ) (given : Gathered) (bytes : List ℕ) (next : Gathered) (b : Bool) → Good spec.shape given →
      ◌≡◌ {A = Answer} (cond b (Ok given) (lines.after_words spec line given (words_of bytes))) (Ok next) → Good spec.shape next
  line_good line given bytes next true good same = subst (λ (g : Gathered). Good spec.shape g) (ok_is _ _ same) good
  line_good line given bytes next false good same = words_good line given (words_of bytes) next good same

  lines_good : (line : ℕ) (given : Gathered) (rest : List (List ℕ)) (next : Gathered) → Good spec.shape given
      → lines.after_lines spec line given rest ≡ Ok next → Good spec.shape next
  lines_good line given [] next good same = subst (λ (g : Gathered). Good spec.shape g) (ok_is _ _ same) good
  lines_good line given (bytes ∷ more) next good same =
      elim (lines.after_line spec line given bytes) as (λ (r : Answer). lines.after_line spec line given bytes ≡ r
      → lines.and_then r (λ then. lines.after_lines spec (line + 1) then more) ≡ Ok next → Good spec.shape next) [
        | Ok then ↦ λ is rest. lines_good (line + 1) then more next (line_good line given bytes then (lines.is_skipped bytes) good is) rest
        | Err fault ↦ λ is rest. absurd (err_ok _ _ rest)
      ] refl same

  gathered_good : (text : List ℕ) (given : Gathered) → lines.gathered spec text ≡ Ok given → Good spec.shape given
  gathered_good text given is = lines_good 1 (nothing_given spec) (lines_of text) given (good_first spec) is

-- one step behind another was answered
after_ok : {A B : Type 0} (r : Result A ConfFault) (next : A → Result B ConfFault) (x : B) → reading.after r next ≡ Ok x → (a : A)
    × ((r ≡ Ok a) × (next a ≡ Ok x))
after_ok (Ok a) next x is = (a, (refl, is))
after_ok (Err fault) next x is = absurd (err_ok fault x is)

-- the values of declared numbers
abbrev AreGiven : List (Option ℕ) → List ℕ → Type 0
AreGiven given values = (place value : ℕ) → slice_get values place ≡ Some value → slice_get given place ≡ Some (Some value)

last_or_before : (xs : List ℕ) (y place value : ℕ) → slice_get (xs ++ y ∷ []) place ≡ Some value → ((place ≡ length xs) × (y ≡ value))
    ⊎ (slice_get xs place ≡ Some value)
last_or_before [] y zero value found = inl (refl, some_is y value found)
last_or_before [] y (suc place) value found = absurd (none_some value found)
last_or_before (x ∷ xs) y zero value found = inr found
last_or_before (x ∷ xs) y (suc place) value found = elim (last_or_before xs y place value found) [
  | inl same ↦ inl (ap suc same.0, same.1)
  | inr before ↦ inr before
]

value_found : (number : Number) (found : Option (Option ℕ)) (value : ℕ) → reading.value_for number found ≡ Ok value → found ≡ Some (Some value)
value_found number (Some (Some one)) value is = ap (λ n. Some (Some n)) (ok_is one value is)
value_found number (Some None) value is = absurd (err_ok _ value is)
value_found number None value is = absurd (err_ok _ value is)

values_given : (given : List (Option ℕ)) (values : List ℕ) (numbers : List Number) (all : List ℕ) → AreGiven given values
    → reading.values_from given values numbers ≡ Ok all →
    AreGiven given all × (length all ≡ length values + length numbers)
values_given given values [] all are is =
    let same : values ≡ all = ok_is values all is in
    (subst (λ (vs : List ℕ). AreGiven given vs) same are, (let count : length values ≡ length all = ap length same in omega arith))
values_given given values (number ∷ numbers) all are is =
    let step = after_ok (reading.value_for number (slice_get given (length values))) (λ value. reading.values_from given (values ++ value ∷ [])
    numbers) all is in
    let here = value_found number (slice_get given (length values)) step.0 step.1.0 in
    let rest = values_given given (values ++ step.0 ∷ []) numbers all (λ place value found. elim (last_or_before values step.0 place value found) [
      | inl same ↦ ap (λ n. slice_get given n) same.0 ∙ here ∙ ap (λ n. Some (Some n)) same.1
      | inr before ↦ are place value before
    ]) step.1.1 in (
      rest.0,
      (let count : length all ≡ length (values ++ step.0 ∷ []) + length numbers = rest.1 in
          let more : length (values ++ step.0 ∷ []) ≡ length values + 1 = length-append values (step.0 ∷ []) in omega arith),
    )

-- premises
not_zero : (value : ℕ) (b : Bool) → (value == 0) ≡ b → b ≡ false → value ≢ 0
not_zero value b is isnt = λ zero. absurd (let yes : (value == 0) ≡ true = (Decides-eqb value 0).1 zero in cc)

premises_hold : (spec : Specification) (numbers : List ℕ) (place : ℕ) (premises : List ℕ) →
    first_from (λ premise. value_of spec.code premise (record { numbers = numbers; cell = []; names = [] }) == 0) place premises ≡ None
    → All (PremiseHolds spec.code numbers) premises
premises_hold spec numbers place [] none = All-nil (PremiseHolds spec.code numbers)
premises_hold spec numbers place (premise ∷ premises) none =
    elim (value_of spec.code premise (record { numbers = numbers; cell = []; names = [] }) == 0) as
    (λ b. (value_of spec.code premise (record { numbers = numbers; cell = []; names = [] }) == 0) ≡ b →
    cond b (Some place) (first_from (λ premise. value_of spec.code premise (record { numbers = numbers; cell = []; names = [] }) == 0) (place + 1)
    premises) ≡ None → All (PremiseHolds spec.code numbers) (premise ∷ premises)) [
      | true ↦ λ is some. absurd (none_some place (sym some))
      | false ↦ λ is rest. All-cons (PremiseHolds spec.code numbers) premise premises (not_zero
          (value_of spec.code premise (record { numbers = numbers; cell = []; names = [] })) false is refl)
          (premises_hold spec numbers (place + 1) premises rest)
    ] refl none

-- fills
cell_fits : (shape : Declarations) (numbers : List ℕ) (cell : CellLine) (kind : ObjectKind) → HoldsField shape cell kind
    → cell.index < reading.count_of numbers kind →
    FitsCells shape numbers (record { vector = cell.vector; index = cell.index; field = cell.field; value = cell.value }) kind
cell_fits shape numbers cell (kinds.Vector struct count) holds less = (less, (holds.0, holds.1.0, holds.1.1))
cell_fits shape numbers cell (kinds.Map key capacity) holds less = absurd holds
cell_fits shape numbers cell kinds.Chain holds less = absurd holds
cell_fits shape numbers cell kinds.Keys holds less = absurd holds
cell_fits shape numbers cell (kinds.Table low high) holds less = absurd holds

fill_fits : (spec : Specification) (numbers : List ℕ) (cell : CellLine) (fill : Fill) (b : Bool)
    → nat_lt cell.index (reading.count_in numbers (slice_get spec.shape.objects cell.vector)) ≡ b → FitsField spec.shape cell →
    ◌≡◌ {A = Result Fill ConfFault} (cond b (Ok (record { vector = cell.vector; index = cell.index; field = cell.field; value = cell.value }))
    (Err (faults.Line cell.line))) (Ok fill) →
    FitsVector spec.shape numbers fill
fill_fits spec numbers cell fill true is fits same =
    let less = (Decides-ltb cell.index (reading.count_in numbers (slice_get spec.shape.objects cell.vector))).0 is in
    subst (λ (f : Fill). FitsVector spec.shape numbers f) (ok_is _ _ same) (
      fits.0,
      fits.1.0,
      cell_fits spec.shape numbers cell fits.0.kind fits.1.1
          (subst (λ (found : Option Object). cell.index < reading.count_in numbers found) fits.1.0 less),
    )
fill_fits spec numbers cell fill false is fits same = absurd (err_ok _ _ same)

fills_fit : (spec : Specification) (numbers : List ℕ) (fills : List Fill) (cells : List CellLine) (all : List Fill)
    → All (FitsVector spec.shape numbers) fills → All (FitsField spec.shape) cells →
    reading.fills_from spec numbers fills cells ≡ Ok all → All (FitsVector spec.shape numbers) all
fills_fit spec numbers fills [] all fit cells is = subst (λ (fs : List Fill). All (FitsVector spec.shape numbers) fs) (ok_is fills all is) fit
fills_fit spec numbers fills (cell ∷ cells) all fit held is =
    let step = after_ok (reading.fill_for spec numbers cell) (λ fill. reading.fills_from spec numbers (fills ++ fill ∷ []) cells) all is in
    let here = fill_fits spec numbers cell step.0 (nat_lt cell.index (reading.count_in numbers (slice_get spec.shape.objects cell.vector))) refl
    (All-head (FitsField spec.shape) cell cells held) step.1.0 in
    fills_fit spec numbers (fills ++ step.0 ∷ []) cells all
    (All-append (FitsVector spec.shape numbers) fills (step.0 ∷ []) fit (All-cons (FitsVector spec.shape numbers) step.0 [] here
    (All-nil (FitsVector spec.shape numbers))))
    (All-tail (FitsField spec.shape) cell cells held) step.1.1

record Drafted (spec : Specification) (given : Gathered) (numbers : List ℕ) (found : Option ℕ) (config : Configuration) : Type 0 where
  pub none : found ≡ None
  pub fills : List Fill
  pub filled : reading.fills_from spec numbers [] given.cells ≡ Ok fills
  pub is : config ≡ record { numbers = numbers; routes = given.routes; fills = fills }

drafted_ok : (spec : Specification) (given : Gathered) (numbers : List ℕ) (found : Option ℕ) (config : Configuration)
    → reading.drafted_with spec given numbers found ≡ Ok config → Drafted spec given numbers found config
drafted_ok spec given numbers (Some premise) config is = absurd (err_ok _ config is)
drafted_ok spec given numbers None config is =
    let step = after_ok (reading.fills_from spec numbers [] given.cells)
    (λ fills. Ok (record { numbers = numbers; routes = given.routes; fills = fills })) config is in
    record { none = refl; fills = step.0; filled = step.1.0; is = sym (ok_is _ config step.1.1) }

pub read_valid : (spec : Specification) (text : List ℕ) (config : Configuration) → IsRead spec text (Ok config) → IsValid spec config
read_valid spec text config is =
    let first = after_ok (lines.gathered spec text) (reading.drafted spec) config is.0 in
    let given = first.0 in
    let good = gathered_good spec text given first.1.0 in
    let second = after_ok (reading.values_from given.numbers [] spec.shape.numbers) (λ numbers. reading.drafted_with spec given numbers
    (reading.broken_premise spec numbers)) config first.1.1 in
    let numbers = second.0 in
    let drafted = drafted_ok spec given numbers (reading.broken_premise spec numbers) config second.1.1 in
    let values = values_given given.numbers [] spec.shape.numbers numbers (λ place value found. absurd (none_some value found)) second.1.0 in
    let same_numbers : numbers ≡ config.numbers = sym (ap (λ (c : Configuration). c.numbers) drafted.is) in
    let same_routes : given.routes ≡ config.routes = sym (ap (λ (c : Configuration). c.routes) drafted.is) in
    let same_fills : drafted.fills ≡ config.fills = sym (ap (λ (c : Configuration). c.fills) drafted.is) in
    record {
      numbers = subst (λ (ns : List ℕ). AreInRange spec.shape ns) same_numbers (record {
        as_many = (let count : length numbers ≡ 0 + length spec.shape.numbers = values.1 in omega arith);
        each = λ place number value there found. good.ranged place value number there (values.0 place value found);
      });
      few_routes = subst (λ (rs : List Route). length rs ≤ 65536) same_routes good.few;
      routes = subst (λ (rs : List Route). All (FitsTable spec.shape) rs) same_routes good.routed;
      fills = subst (λ (ns : List ℕ). All (FitsVector spec.shape ns) config.fills) same_numbers
          (subst (λ (fs : List Fill). All (FitsVector spec.shape numbers) fs) same_fills (fills_fit spec numbers [] given.cells drafted.fills
          (All-nil (FitsVector spec.shape numbers)) good.celled drafted.filled));
      premises = subst (λ (ns : List ℕ). All (PremiseHolds spec.code ns) spec.shape.premises) same_numbers
          (premises_hold spec numbers 1 spec.shape.premises drafted.none);
      rules = is.1;
    }

-- a rule that holds at each place of a list
pub all_hold : (P : Rule → Type 0) (rules : List Rule) (end : ℕ) → length rules ≤ end → ((other : ℕ) (rule : Rule) → other < end
    → slice_get rules other ≡ Some rule → P rule) → All P rules
all_hold P rules end within each k d less = each k (slice_index_or rules k d) (omega arith) (slice_get-get_or rules k d less)

-- the rule at a place is the first that is broken
pub first_broken : (spec : Specification) (numbers : List ℕ) (s : State) (rules : List Rule) (place count : ℕ) (d : Rule) → rules ≡ spec.shape.rules
    → place < length rules → count ≡ place → (b : Bool) →
    Decides b (Holds spec numbers s (get_or rules place d)) → b ≡ false →
    ((other : ℕ) (rule : Rule) → other < place → slice_get rules other ≡ Some rule → Holds spec numbers s rule) → IsFirstBroken spec numbers s (count + 1)
first_broken spec numbers s rules place count d is less same b decides isnt earlier = record {
  place = place;
  counted = omega arith;
  rule = get_or rules place d;
  there = sym (ap (λ (rs : List Rule). slice_get rs place) is) ∙ slice_get-get_or rules place d less;
  broken = λ holds. false_true (sym isnt ∙ decides.1 holds);
  earlier = λ other rule below there. earlier other rule below (ap (λ (rs : List Rule). slice_get rs other) is ∙ there);
}

pub one_holds : (spec : Specification) (numbers : List ℕ) (s : State) (rules : List Rule) (place : ℕ) (d : Rule) → place < length rules
    → Holds spec numbers s (get_or rules place d) →
    ((other : ℕ) (rule : Rule) → other < place → slice_get rules other ≡ Some rule → Holds spec numbers s rule) →
    (other : ℕ) (rule : Rule) → other < place + 1 → slice_get rules other ≡ Some rule → Holds spec numbers s rule
one_holds spec numbers s rules place d less here earlier other rule below there = elim (cases_eq other place) [
  | inl same ↦ subst (λ (r : Rule). Holds spec numbers s r)
      (some_is (get_or rules place d) rule (sym (slice_get-get_or rules place d less) ∙ ap (λ n. slice_get rules n) (sym same) ∙ there)) here
  | inr ne ↦ earlier other rule (omega arith) there
]
