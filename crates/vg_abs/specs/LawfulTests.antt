-- Lawfulness as tests, which private functions answer one by one. No public clause cites them: `Shape` and `Lawful` say what is lawful.
use Rattle.std.specs.Prelude.{ℕ, zero, suc, ◌+◌, ◌-◌, ◌==◌, nat_lt, nat_le, List, [], length, Bool, true, false, not, ◌&&◌, ◌||◌, is_none, is_some}
use Rattle.std.specs.Prelude.{slice_get, Option, Some, None}
use Rattle.std.specs.Str.{bytes_eq}
use Rattle.std.specs.List.{list_all, zip}
use Rattle.std.specs.FinMap.{get, len, entries}
use Rattle.vg_stree.specs.declared.config.Route.{Route}
use Rattle.vg_stree.specs.declared.shape.Rule.{Rule}
use Rattle.vg_stree.specs.declared.shape.Size.{Size}
use Rattle.vg_stree.specs.declared.shape.ObjectKind.{ObjectKind}
use Rattle.vg_stree.specs.declared.shape.ObjectKind.TheVariants as kinds
use Rattle.vg_stree.specs.Declarations.{Declarations, fields_of, struct_bytes}
use Rattle.vg_stree.specs.Specification.{Specification}
use Rattle.vg_abs.specs.declared.object.Object.{Object}
use Rattle.vg_abs.specs.declared.object.Object.TheVariants.{Map, Chain, Keys, Cells, Prefixes}
use Rattle.vg_abs.specs.Tables.{Link, Vector, Routing, KeyTable, TimeTable, CellTable}
use Rattle.vg_abs.specs.State.{State}
use Rattle.vg_abs.specs.Answers.{is_before}
use Rattle.vg_abs.specs.Fields.{values_in}
use Rattle.vg_abs.specs.Expressions.{is_true, value_of}
use Rattle.vg_abs.specs.Shape.{size_of, cell_struct}
use Rattle.vg_abs.specs.Lawful.{count_of, is_between, is_from}

-- whether one test passes where another does
abbrev pub implies : Bool → Bool → Bool
implies given then = not given || then

-- the shape
abbrev pub are_bytes : ℕ → List ℕ → Bool
are_bytes count bytes = (length bytes == count) && list_all (λ byte. nat_lt byte 256) bytes

abbrev pub keys_have : ℕ → KeyTable → Bool
keys_have count keys = list_all (λ entry. are_bytes count entry.0) (entries keys)

abbrev pub cells_have : ℕ → CellTable → Bool
cells_have count cells = list_all (λ entry. are_bytes count entry.1) (entries cells)

abbrev pub is_link_of : Declarations → List ℕ → ℕ → Size → Link → Bool
is_link_of shape numbers key capacity link =
    (link.capacity == size_of numbers capacity) && ((link.key_length == struct_bytes shape key) &&
    (keys_have link.key_length link.keys && cells_have link.key_length link.cells))

abbrev pub is_vector_of : Declarations → List ℕ → ℕ → Size → Vector → Bool
is_vector_of shape numbers cell count vector = (vector.cell_count == size_of numbers count) && cells_have (struct_bytes shape cell) vector.cells

abbrev pub is_object_of : Declarations → List ℕ → ObjectKind → Object → Bool
is_object_of shape numbers (kinds.Map key capacity) (Map link) = is_link_of shape numbers key capacity link
is_object_of shape numbers kinds.Chain Chain = true
is_object_of shape numbers kinds.Keys Keys = true
is_object_of shape numbers (kinds.Vector cell count) (Cells vector) = is_vector_of shape numbers cell count vector
is_object_of shape numbers (kinds.Table low high) (Prefixes prefixes) = true
is_object_of shape numbers _ _ = false

abbrev pub is_shaped : Declarations → List ℕ → List Object → Bool
is_shaped shape numbers found =
    (length found == length shape.objects) && list_all (λ pair. is_object_of shape numbers pair.0.kind pair.1) (zip shape.objects found)

-- ties
abbrev pub has_index : Option (Option ℕ) → ℕ → Bool
has_index (Some (Some other)) index = other == index
has_index _ index = false

abbrev pub has_time : Option (Option ℕ) → ℕ → Bool
has_time (Some (Some time)) highest = nat_le time highest
has_time _ highest = false

abbrev pub has_key : Option (List ℕ) → List ℕ → Bool
has_key (Some bytes) key = bytes_eq bytes key
has_key None key = false

abbrev pub is_paired : Link → List ℕ → ℕ → Bool
is_paired link key index =
    has_index (get link.keys key) index && (has_time (get link.times index) link.highest && (has_key (get link.cells index) key && nat_lt index link.capacity))

abbrev pub is_mapped : Link → List ℕ → Option ℕ → Bool
is_mapped link key None = true
is_mapped link key (Some index) = is_paired link key index

abbrev pub has_pair : Link → ℕ → Option (List ℕ) → Bool
has_pair link index None = false
has_pair link index (Some key) = is_paired link key index

abbrev pub is_held : Link → ℕ → Option ℕ → Bool
is_held link index None = true
is_held link index (Some time) = has_pair link index (get link.cells index)

abbrev pub is_tied : ℕ → Link → Bool
is_tied now link =
    list_all (λ entry. is_mapped link entry.0 entry.1) (entries link.keys)
    && (list_all (λ entry. is_held link entry.0 entry.1) (entries link.times) && ((link.size == link.count) &&
    (nat_le link.size link.capacity && nat_le link.highest now)))

-- a full state's link
abbrev pub all_there : CellTable → ℕ → Bool
all_there cells zero = true
all_there cells (suc count) = is_some (get cells count) && all_there cells count

abbrev pub cells_end : CellTable → ℕ → Bool
cells_end cells count = list_all (λ entry. nat_lt entry.0 count) (entries cells)

abbrev pub none_absent : KeyTable → Bool
none_absent keys = list_all (λ entry. is_some entry.1) (entries keys)

abbrev pub none_free : TimeTable → Bool
none_free times = list_all (λ entry. is_some entry.1) (entries times)

abbrev pub is_lawful_link : ℕ → Link → Bool
is_lawful_link now link =
    is_tied now link
    && (none_absent link.keys
    && (none_free link.times
    && ((link.size == len link.keys)
    && ((link.count == len link.times) && (all_there link.cells link.capacity && (cells_end link.cells link.capacity && (len link.bounds == 0)))))))

-- a partial state's link
abbrev pub is_bound : Link → ℕ → ℕ → Bool
is_bound link bound before =
    nat_le (count_of (λ time. is_before bound (Some time)) link.times) before
    && (nat_le (before + count_of (is_from bound) link.times) link.size && (implies (nat_lt link.highest bound) (before == link.size) && implies
    (bound == 0) (before == 0)))

abbrev pub rises : TimeTable → ℕ × ℕ → ℕ × ℕ → Bool
rises times low high = implies (nat_le low.0 high.0) (nat_le (low.1 + count_of (is_between low.0 high.0) times) high.1)

abbrev pub times_end : TimeTable → ℕ → Bool
times_end times count = list_all (λ entry. nat_lt entry.0 count) (entries times)

abbrev pub cells_known : CellTable → TimeTable → Bool
cells_known cells times = list_all (λ entry. is_some (get times entry.0)) (entries cells)

abbrev pub are_bounds : Link → Bool
are_bounds link = list_all (λ entry. is_bound link entry.0 entry.1) (entries link.bounds)

abbrev pub bounds_rise : Link → Bool
bounds_rise link = list_all (λ low. list_all (λ high. rises link.times low high) (entries link.bounds)) (entries link.bounds)

abbrev pub is_lawful_part : ℕ → Link → Bool
is_lawful_part now link =
    is_tied now link
    && (times_end link.times link.capacity
    && (cells_end link.cells link.capacity
    && (cells_known link.cells link.times
    && (nat_le (count_of is_some link.times) link.size && (nat_le (count_of is_none link.times) (link.capacity - link.size) &&
    (are_bounds link && bounds_rise link))))))

-- vectors and prefix tables
abbrev pub is_lawful_vector : Bool → Vector → Bool
is_lawful_vector full vector = cells_end vector.cells vector.cell_count && implies full (all_there vector.cells vector.cell_count)

abbrev pub is_lawful_route : ℕ → ℕ → Route → Bool
is_lawful_route low high route = nat_le low route.value && (nat_le route.value high && nat_le route.len 32)

abbrev pub has_lawful_routes : ℕ → ℕ → Routing → Bool
has_lawful_routes low high prefixes = list_all (is_lawful_route low high) prefixes.routes && (len prefixes.addresses == 0)

abbrev pub is_value : ℕ → ℕ → Option ℕ → Bool
is_value low high None = true
is_value low high (Some value) = nat_le low value && nat_le value high

abbrev pub has_lawful_addresses : ℕ → ℕ → Routing → Bool
has_lawful_addresses low high prefixes = list_all (λ entry. is_value low high entry.1) (entries prefixes.addresses) && (length prefixes.routes == 0)

abbrev pub is_lawful_object : ℕ → Bool → ObjectKind → Object → Bool
is_lawful_object now true kind (Map link) = is_lawful_link now link
is_lawful_object now false kind (Map link) = is_lawful_part now link
is_lawful_object now full kind (Cells vector) = is_lawful_vector full vector
is_lawful_object now true (kinds.Table low high) (Prefixes prefixes) = has_lawful_routes low high prefixes
is_lawful_object now false (kinds.Table low high) (Prefixes prefixes) = has_lawful_addresses low high prefixes
is_lawful_object now full kind object = true

-- rules
abbrev pub cell_passes : Specification → List ℕ → Rule → List ℕ → Bool
cell_passes spec numbers rule bytes =
    is_true (value_of spec.code rule.value
    (record { numbers = numbers; cell = values_in (fields_of spec.shape (cell_struct spec.shape rule.vector)) bytes; names = [] }))

abbrev pub is_taken : Option (Option ℕ) → Bool
is_taken (Some (Some time)) = true
is_taken _ = false

abbrev pub keys_pass : Specification → List ℕ → Rule → Option Object → Bool
keys_pass spec numbers rule (Some (Map link)) =
    list_all (λ entry. implies (is_taken (get link.times entry.0)) (cell_passes spec numbers rule entry.1)) (entries link.cells)
keys_pass spec numbers rule _ = true

abbrev pub vector_passes : Specification → List ℕ → State → Rule → Option Object → Bool
vector_passes spec numbers s rule (Some (Cells vector)) = list_all (λ entry. cell_passes spec numbers rule entry.1) (entries vector.cells)
vector_passes spec numbers s rule (Some Keys) = keys_pass spec numbers rule (slice_get s.objects (rule.vector - 2))
vector_passes spec numbers s rule _ = true

-- a state, but for its rules
abbrev pub are_lawful : Declarations → List ℕ → ℕ → State → Bool
are_lawful shape numbers now s =
    is_shaped shape numbers s.objects && list_all (λ pair. is_lawful_object now s.full pair.0.kind pair.1) (zip shape.objects s.objects)

abbrev pub rules_hold : Specification → List ℕ → State → Bool
rules_hold spec numbers s = list_all (λ rule. vector_passes spec numbers s rule (slice_get s.objects rule.vector)) spec.shape.rules

abbrev pub is_lawful : Specification → List ℕ → ℕ → State → Bool
is_lawful spec numbers now s = are_lawful spec.shape numbers now s && rules_hold spec numbers s
