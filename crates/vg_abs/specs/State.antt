-- What the library holds: for each declared object, in order of declaration, its table. A link stands as its map; the two objects behind are its
-- chain and the vector of its keys.
use Rattle.std.specs.Prelude.{ℕ, ◌-◌, List, [], Bool, Option, Some, slice_get}
use Rattle.std.specs.FinMap.{empty}
use Rattle.vg_abs.specs.declared.object.Object.{Object}
use Rattle.vg_abs.specs.declared.object.Object.TheVariants.{Map, Keys, Cells, Prefixes}
use Rattle.vg_abs.specs.Tables.{Link, Vector, Routing}

-- A state is full or partial. What a full state doesn't list is absent, or free; what a partial one doesn't list, it doesn't tell. A full
-- state lists no absent key and no free index.
pub record State : Type 0 where
  pub full : Bool
  pub objects : List Object

-- the link whose map is an object, and a link of nothing where it is none
abbrev pub no_link : Link
no_link = record { capacity = 0; key_length = 0; keys = empty; times = empty; cells = empty; size = 0; count = 0; highest = 0; bounds = empty }

abbrev pub link_in : Option Object → Link
link_in (Some (Map link)) = link
link_in _ = no_link

-- the link with a map
abbrev pub link_of_map : State → ℕ → Link
link_of_map s map = link_in (slice_get s.objects map)

-- the link with a chain, which stands one behind the map
abbrev pub link_of_chain : State → ℕ → Link
link_of_chain s chain = link_of_map s (chain - 1)

-- the link with a vector of keys, which stands two behind the map
abbrev pub link_of_keys : State → ℕ → Link
link_of_keys s vector = link_of_map s (vector - 2)

-- the cells of a vector, which is that of a link or one of its own
abbrev pub vector_in : State → ℕ → Option Object → Vector
vector_in s vector (Some (Cells cells)) = cells
vector_in s vector (Some Keys) = let link = link_of_keys s vector in record { cell_count = link.capacity; cells = link.cells }
vector_in s vector _ = record { cell_count = 0; cells = empty }

abbrev pub vector_of : State → ℕ → Vector
vector_of s vector = vector_in s vector (slice_get s.objects vector)

-- a prefix table
abbrev pub prefixes_in : Option Object → Routing
prefixes_in (Some (Prefixes prefixes)) = prefixes
prefixes_in _ = record { routes = []; addresses = empty }

abbrev pub prefixes_of : State → ℕ → Routing
prefixes_of s table = prefixes_in (slice_get s.objects table)
