-- When a state is lawful at a time, for a specification and the configuration's numbers.
use Rattle.std.specs.Prelude.{ℕ, ◌≡◌, ◌+◌, ◌-◌, ◌<◌, ◌≤◌, List, [], count_by, All, Bool, true, false, not, ◌&&◌, is_none, is_some, slice_get, Option}
use Rattle.std.specs.Prelude.{Some, IsSome}
use Rattle.std.specs.FinMap.{get, len, entries}
use Rattle.vg_stree.specs.declared.shape.Rule.{Rule}
use Rattle.vg_stree.specs.declared.shape.ObjectKind.{ObjectKind}
use Rattle.vg_stree.specs.declared.shape.ObjectKind.TheVariants as kinds
use Rattle.vg_stree.specs.declared.shape.Object as objects
use Rattle.vg_stree.specs.Declarations.{fields_of}
use Rattle.vg_stree.specs.Specification.{Specification}
use Rattle.vg_abs.specs.declared.object.Object.{Object}
use Rattle.vg_abs.specs.declared.object.Object.TheVariants.{Map, Keys, Cells, Prefixes}
use Rattle.vg_abs.specs.Tables.{Link, Vector, Routing, TimeTable}
use Rattle.vg_abs.specs.State.{State, link_of_keys, vector_of}
use Rattle.vg_abs.specs.Answers.{is_before}
use Rattle.vg_abs.specs.Fields.{values_in}
use Rattle.vg_abs.specs.Expressions.{RuleHolds}
use Rattle.vg_abs.specs.Shape.{IsShaped, cell_struct}

-- a key, an index and a time belong together: map, chain and vector agree, the index is below the capacity, and the time is no later
-- than the highest
pub record Paired (link : Link) (key : List ℕ) (index time : ℕ) : Type 0 where
  pub index_is : get link.keys key ≡ Some (Some index)
  pub time_is : get link.times index ≡ Some (Some time)
  pub cell_is : get link.cells index ≡ Some key
  pub inside : index < link.capacity
  pub early : time ≤ link.highest

-- each mapped key and each allocated index is paired; there are as many of the one as of the other, and no more than the capacity
pub record IsTied (now : ℕ) (link : Link) : Type 0 where
  pub mapped : (key : List ℕ) (index : ℕ) → get link.keys key ≡ Some (Some index) → (time : ℕ) × Paired link key index time
  pub allocated : (index time : ℕ) → get link.times index ≡ Some (Some time) → (key : List ℕ) × Paired link key index time
  pub alike : link.size ≡ link.count
  pub within : link.size ≤ link.capacity
  pub past : link.highest ≤ now

-- a full state's link: what it lists is all that is mapped and all that is allocated, and it has all its cells
pub record IsLawfulLink (now : ℕ) (link : Link) : Type 0 where
  pub tied : IsTied now link
  pub no_absent : (key : List ℕ) (answer : Option ℕ) → get link.keys key ≡ Some answer → IsSome answer
  pub no_free : (index : ℕ) (answer : Option ℕ) → get link.times index ≡ Some answer → IsSome answer
  pub all_keys : link.size ≡ len link.keys
  pub all_indices : link.count ≡ len link.times
  pub all_cells : (index : ℕ) → index < link.capacity → IsSome (get link.cells index)
  pub no_more_cells : (index : ℕ) (bytes : List ℕ) → get link.cells index ≡ Some bytes → index < link.capacity
  pub no_bounds : len link.bounds ≡ 0

-- how many told indices pass a test on their times
abbrev pub count_of : (Option ℕ → Bool) → TimeTable → ℕ
count_of test times = count_by (λ entry. test entry.1) (entries times)

-- whether an index is allocated with a time from one bound on and before another
abbrev pub is_between : ℕ → ℕ → Option ℕ → Bool
is_between low high time = not (is_before low (Some time)) && is_before high (Some time)

-- whether an index is allocated with a time from a bound on
abbrev pub is_from : ℕ → Option ℕ → Bool
is_from bound time = is_some time && not (is_before bound (Some time))

-- what is told of an expiry bound fits what is told of times: there are no fewer indices before it than are told to be, and room is left
-- for those that are told not to be
pub record IsBound (link : Link) (bound before : ℕ) : Type 0 where
  pub enough : count_of (λ time. is_before bound (Some time)) link.times ≤ before
  pub room : before + count_of (is_from bound) link.times ≤ link.size
  pub above : link.highest < bound → before ≡ link.size
  pub zero : bound ≡ 0 → before ≡ 0

-- a partial state's link
pub record IsLawfulPart (now : ℕ) (link : Link) : Type 0 where
  pub tied : IsTied now link
  pub indices : (index : ℕ) (answer : Option ℕ) → get link.times index ≡ Some answer → index < link.capacity
  pub cells_inside : (index : ℕ) (bytes : List ℕ) → get link.cells index ≡ Some bytes → index < link.capacity
  pub cells_known : (index : ℕ) (bytes : List ℕ) → get link.cells index ≡ Some bytes → IsSome (get link.times index)
  pub enough : count_of is_some link.times ≤ link.size
  pub room : count_of is_none link.times ≤ link.capacity - link.size
  pub bounds : (bound before : ℕ) → get link.bounds bound ≡ Some before → IsBound link bound before
  pub rising : (low high fewer more : ℕ) → get link.bounds low ≡ Some fewer → get link.bounds high ≡ Some more → low ≤ high →
      fewer + count_of (is_between low high) link.times ≤ more

-- a vector of its own: a full state has all its cells, and none has more
pub record IsLawfulVector (full : Bool) (vector : Vector) : Type 0 where
  pub inside : (index : ℕ) (bytes : List ℕ) → get vector.cells index ≡ Some bytes → index < vector.cell_count
  pub all_cells : full ≡ true → (index : ℕ) → index < vector.cell_count → IsSome (get vector.cells index)

-- the values of a full state's routes lie in the table's range, and it tells no address by itself
pub record HasLawfulRoutes (low high : ℕ) (prefixes : Routing) : Type 0 where
  pub routes : All (λ route. (low ≤ route.value) × (route.value ≤ high) × (route.len ≤ 32)) prefixes.routes
  pub no_addresses : len prefixes.addresses ≡ 0

-- a partial state has no routes, and what it tells of addresses lies in the table's range
pub record HasLawfulAddresses (low high : ℕ) (prefixes : Routing) : Type 0 where
  pub addresses : (address value : ℕ) → get prefixes.addresses address ≡ Some (Some value) → (low ≤ value) × (value ≤ high)
  pub no_routes : prefixes.routes ≡ []

-- an object, as declared
abbrev pub IsLawfulObject : ℕ → Bool → ObjectKind → Object → Type 0
IsLawfulObject now true kind (Map link) = IsLawfulLink now link
IsLawfulObject now false kind (Map link) = IsLawfulPart now link
IsLawfulObject now full kind (Cells vector) = IsLawfulVector full vector
IsLawfulObject now true (kinds.Table low high) (Prefixes prefixes) = HasLawfulRoutes low high prefixes
IsLawfulObject now false (kinds.Table low high) (Prefixes prefixes) = HasLawfulAddresses low high prefixes
IsLawfulObject now full kind object = Unit {0}

-- a rule speaks of every allocated index's cell of a vector of keys, and of every cell of another vector
abbrev pub SpeaksOf : State → ℕ → ℕ → Option Object → Type 0
SpeaksOf s vector index (Some Keys) = (time : ℕ) × (get (link_of_keys s vector).times index ≡ Some (Some time))
SpeaksOf s vector index _ = Unit {0}

-- a rule holds on each told cell of its vector that it speaks of
abbrev pub Holds : Specification → List ℕ → State → Rule → Type 0
Holds spec numbers s rule = (index : ℕ) (bytes : List ℕ) → get (vector_of s rule.vector).cells index ≡ Some bytes
    → SpeaksOf s rule.vector index (slice_get s.objects rule.vector) →
    RuleHolds spec.code numbers rule.value (values_in (fields_of spec.shape (cell_struct spec.shape rule.vector)) bytes)

-- a state is lawful at a time
pub record IsLawful (spec : Specification) (numbers : List ℕ) (now : ℕ) (s : State) : Type 0 where
  pub shaped : IsShaped spec.shape numbers s
  pub each : (number : ℕ) (declared : objects.Object) (object : Object) → slice_get spec.shape.objects number ≡ Some declared
      → slice_get s.objects number ≡ Some object →
      IsLawfulObject now s.full declared.kind object
  pub rules : All (Holds spec numbers s) spec.shape.rules
