-- The calls of the library, after libVig. Its rows are numbered from 1.
use Rattle.std.specs.Prelude.{ℕ, ◌+◌, nat_eq, List, [], ◌∷◌, codes, true, false, Option, Some, None, if◌then◌else◌}
use Rattle.std.specs.Str.{bytes_eq}
use Rattle.vg_core.specs.declared.tree.HandleKind.{HandleKind}
use Rattle.vg_core.specs.declared.tree.HandleKind.TheVariants as handles
use Rattle.vg_core.specs.declared.types.CType.{CType}
use Rattle.vg_core.specs.declared.types.CType.TheVariants as types
use Rattle.vg_core.specs.declared.types.Target.{Target}
use Rattle.vg_core.specs.declared.types.Target.TheVariants as targets

-- a name, the type of the answer, and those of the parameters
abbrev pub Row : Type 0
Row = List ℕ × CType × List CType

abbrev pub any_pointer : CType
any_pointer = types.Pointer targets.Void

abbrev pub pointer_to_unsigned : ℕ → CType
pointer_to_unsigned bits = types.Pointer (targets.Int bits false)

abbrev pub unsigned : ℕ → CType
unsigned bits = types.Int bits false

abbrev pub int : CType
int = types.Int 32 true

abbrev pub map : CType
map = types.Handle handles.Map

abbrev pub chain : CType
chain = types.Handle handles.Chain

abbrev pub vector : CType
vector = types.Handle handles.Vector

abbrev pub prefix : CType
prefix = types.Handle handles.Prefix

abbrev pub rows : List Row
rows =
    (codes "packet_length", unsigned 32, []) ∷
    (codes "packet_borrow", any_pointer, unsigned 32 ∷ []) ∷
    (codes "packet_return", types.Void, any_pointer ∷ []) ∷
    (codes "map_get", int, map ∷ any_pointer ∷ pointer_to_unsigned 32 ∷ []) ∷
    (codes "map_put", types.Void, map ∷ any_pointer ∷ unsigned 32 ∷ []) ∷
    (codes "map_erase", types.Void, map ∷ any_pointer ∷ []) ∷
    (codes "map_size", unsigned 32, map ∷ []) ∷
    (codes "chain_allocate", int, chain ∷ pointer_to_unsigned 32 ∷ unsigned 64 ∷ []) ∷
    (codes "chain_is_allocated", int, chain ∷ unsigned 32 ∷ []) ∷
    (codes "chain_rejuvenate", types.Void, chain ∷ unsigned 32 ∷ unsigned 64 ∷ []) ∷
    (codes "chain_free", types.Void, chain ∷ unsigned 32 ∷ []) ∷
    (codes "expire_items", unsigned 32, map ∷ chain ∷ vector ∷ unsigned 64 ∷ []) ∷
    (codes "vector_borrow", any_pointer, vector ∷ unsigned 32 ∷ []) ∷
    (codes "vector_return", types.Void, vector ∷ any_pointer ∷ []) ∷
    (codes "prefix_lookup", int, prefix ∷ unsigned 32 ∷ pointer_to_unsigned 16 ∷ []) ∷
    []

-- the number of the first row with a name, where the rows are numbered from one on
abbrev pub number_from : ℕ → List Row → List ℕ → Option ℕ
number_from n [] name = None
number_from n (row ∷ more) name = if bytes_eq row.0 name then Some n else number_from (n + 1) more name

-- the number of the row with a name
abbrev pub row_named : List ℕ → Option ℕ
row_named name = number_from 1 rows name

-- what the row with a number answers, where the rows are numbered from one on
abbrev pub answer_from : ℕ → List Row → ℕ → Option CType
answer_from n [] number = None
answer_from n (row ∷ more) number = if nat_eq n number then Some row.1 else answer_from (n + 1) more number

abbrev pub answer_of : ℕ → Option CType
answer_of number = answer_from 1 rows number

-- what it takes; nothing where no row has the number
abbrev pub takes_from : ℕ → List Row → ℕ → List CType
takes_from n [] number = []
takes_from n (row ∷ more) number = if nat_eq n number then row.2 else takes_from (n + 1) more number

abbrev pub takes : ℕ → List CType
takes number = takes_from 1 rows number
