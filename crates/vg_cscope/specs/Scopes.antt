-- What a node sees (C11 6.2.1): the scope of a name begins behind its declaration, a variable's before its initializer, a function's at its own
-- name, and ends with the block, loop or text that it stands in.
use Rattle.std.specs.Prelude.{ℕ, zero, suc, List, [], ◌∷◌, ◌++◌, length, replicate, slice_get, slice_set, Bool, true, false, Option, Some, None, if◌then◌else◌}
use Rattle.vg_core.specs.Syntax.{Syntax, listed}
use Rattle.vg_core.specs.declared.tree.Node.{Node}
use Rattle.vg_core.specs.declared.tree.Kind.{Kind}
use Rattle.vg_core.specs.declared.tree.Kind.TheVariants as nodes
use Rattle.vg_cscope.specs.declared.standing.Standing.{Standing}

-- what a node is; a number that none has counts as an empty statement
abbrev pub kind_of : Option Node → Kind
kind_of None = nodes.Empty
kind_of (Some node) = node.kind

abbrev pub kind_at : Syntax → ℕ → Kind
kind_at tree n = kind_of (slice_get tree.nodes n)

abbrev pub seen_of : Option Standing → Option ℕ
seen_of None = None
seen_of (Some standing) = standing.seen

-- the last declaration that a node sees
abbrev pub seen_at : List Standing → ℕ → Option ℕ
seen_at standings n = seen_of (slice_get standings n)

abbrev pub optional : Option ℕ → List ℕ
optional None = []
optional (Some part) = part ∷ []

-- whether what stands behind sees it
abbrev pub declares : Kind → Bool
declares (nodes.Struct tag fields attribute) = true
declares (nodes.Field base name count) = true
declares (nodes.ExternHandle handle name) = true
declares (nodes.ExternNumber of name) = true
declares (nodes.Function is_static is_inline answer name params body) = true
declares (nodes.Param base pointer name) = true
declares (nodes.Declare base pointer name count value) = true
declares _ = false

-- what a part sees, for each part
abbrev pub Sight : Type 0
Sight = List (ℕ × Option ℕ)

-- each part sees the same
abbrev pub all_see : Option ℕ → List ℕ → Sight
all_see seen [] = []
all_see seen (part ∷ parts) = (part, seen) ∷ all_see seen parts

-- what is seen behind a part: the part where it declares something
abbrev pub behind : Syntax → Option ℕ → ℕ → Option ℕ
behind tree seen part = if declares (kind_at tree part) then Some part else seen

-- each part sees what is seen behind the one before it
abbrev pub in_row : Syntax → Option ℕ → List ℕ → Sight
in_row tree seen [] = []
in_row tree seen (part ∷ parts) = (part, seen) ∷ in_row tree (behind tree seen part) parts

-- what is seen behind a row
abbrev pub seen_behind : Syntax → Option ℕ → List ℕ → Option ℕ
seen_behind tree seen [] = seen
seen_behind tree seen (part ∷ parts) = seen_behind tree (behind tree seen part) parts

-- what the parts of a node see, by what it sees itself
abbrev pub sight : Syntax → ℕ → Option ℕ → Kind → Sight
sight tree n seen (nodes.Unit items) = in_row tree None (listed tree.items items)
sight tree n seen (nodes.Struct tag fields attribute) = in_row tree (Some n) (listed tree.items fields)
sight tree n seen (nodes.Field base name count) = all_see seen (optional count)
sight tree n seen (nodes.ExternHandle handle name) = []
sight tree n seen (nodes.ExternNumber of name) = []
sight tree n seen (nodes.Function is_static is_inline answer name params body) =
    in_row tree (Some n) (listed tree.items params) ++ all_see (seen_behind tree (Some n) (listed tree.items params)) (body ∷ [])
sight tree n seen (nodes.Param base pointer name) = []
sight tree n seen (nodes.Block statements end) = in_row tree seen (listed tree.items statements)
sight tree n seen (nodes.Declare base pointer name count value) = all_see seen (optional count) ++ all_see (Some n) (optional value)
sight tree n seen nodes.Empty = []
sight tree n seen (nodes.Evaluate value) = all_see seen (value ∷ [])
sight tree n seen (nodes.Assign op target value) = all_see seen (target ∷ value ∷ [])
sight tree n seen (nodes.Increment target) = all_see seen (target ∷ [])
sight tree n seen (nodes.Decrement target) = all_see seen (target ∷ [])
sight tree n seen (nodes.If condition first otherwise) = all_see seen (condition ∷ first ∷ []) ++ all_see seen (optional otherwise)
sight tree n seen (nodes.For of counter start tested bound stepped step body) = all_see (Some n) (start ∷ bound ∷ [])
    ++ all_see (Some n) (optional step) ++ all_see (Some n) (body ∷ [])
sight tree n seen (nodes.Return value) = all_see seen (optional value)
sight tree n seen (nodes.Choose condition first otherwise) = all_see seen (condition ∷ first ∷ otherwise ∷ [])
sight tree n seen (nodes.Binary op left right) = all_see seen (left ∷ right ∷ [])
sight tree n seen (nodes.Unary op operand) = all_see seen (operand ∷ [])
sight tree n seen (nodes.Cast base pointer operand) = all_see seen (operand ∷ [])
sight tree n seen (nodes.Sizeof base) = []
sight tree n seen (nodes.Index array index) = all_see seen (array ∷ index ∷ [])
sight tree n seen (nodes.Member whole field) = all_see seen (whole ∷ [])
sight tree n seen (nodes.Arrow pointer field) = all_see seen (pointer ∷ [])
sight tree n seen (nodes.Number value of) = []
sight tree n seen (nodes.Variable name) = []
sight tree n seen (nodes.Call name arguments) = all_see seen (listed tree.items arguments)
sight tree n seen (nodes.Parens inner) = all_see seen (inner ∷ [])

-- each part is told what it sees, and of which node it is a part
abbrev pub told : ℕ → Sight → List Standing → List Standing
told n [] standings = standings
told n (part ∷ parts) standings = told n parts (slice_set standings part.0 (record { within = n; seen = part.1 }))

-- the nodes below a number tell their parts, the last node first
abbrev pub told_below : Syntax → ℕ → List Standing → List Standing
told_below tree zero standings = standings
told_below tree (suc n) standings = told_below tree n (told n (sight tree n (seen_at standings n) (kind_at tree n)) standings)

abbrev pub alone : Standing
alone = record { within = 0; seen = None }

-- where each node stands: the whole sees nothing, and each node tells its parts what they see
abbrev pub standings_of : Syntax → List Standing
standings_of tree = told_below tree (length tree.nodes) (replicate (length tree.nodes) alone)
