-- How deep a run of a text nests: constructs in one another, where a called function stands in the call. The machine's own stack grows with it, so there
-- is a limit. A statement, a block, and an expression that stands in one of them, in parentheses, in brackets, behind a sign or a cast, as an argument or
-- as the second or third operand of `?:` is a construct, and what stands to the right of an operator counts as one; a chain of operators or suffixes is
-- one, however long it is. An `else if` is the statement that stands in its `if`. What a run doesn't come to counts nothing: a loop's start, bound and
-- step are constants, and so is the length of an array.
use Rattle.std.specs.Prelude.{ℕ, zero, suc, ◌+◌, max, min, List, [], ◌∷◌, ◌++◌, length, slice_index_or, option_to_list, Option, Some, None}
use Rattle.vg_core.specs.Syntax.{list_of, named_by, listed}
use Rattle.vg_core.specs.Units.{Typed}
use Rattle.vg_core.specs.declared.tree.Kind.{Kind}
use Rattle.vg_core.specs.declared.tree.Kind.TheVariants as nodes
use Rattle.vg_core.specs.declared.unit.Referent.{Referent}
use Rattle.vg_core.specs.declared.unit.Referent.TheVariants as referents
use Rattle.vg_cmean.specs.Typings.{kind_at, referent_at}
use Rattle.vg_cmean.specs.Runs.{process_of}

abbrev pub most_nested : ℕ
most_nested = 1000

-- the parts that belong to the construct that their node belongs to
abbrev pub operands : Kind → List ℕ
operands (nodes.Binary op left right) = left ∷ []
operands (nodes.Choose condition one other) = condition ∷ []
operands (nodes.Index array index) = array ∷ []
operands (nodes.Member whole field) = whole ∷ []
operands (nodes.Arrow pointer field) = pointer ∷ []
operands (nodes.Declare base pointer name count value) = option_to_list value
operands _ = []

-- the parts that are constructs of their own, but for those in a list
abbrev pub inner : Kind → List ℕ
inner (nodes.Binary op left right) = right ∷ []
inner (nodes.Choose condition one other) = one ∷ other ∷ []
inner (nodes.Index array index) = index ∷ []
inner (nodes.Member whole field) = []
inner (nodes.Arrow pointer field) = []
inner (nodes.Declare base pointer name count value) = []
inner (nodes.For type counter start tested bound stepped step body) = body ∷ []
inner kind = named_by kind

-- the greatest depth of some nodes, where each counts for so many more
abbrev pub deepest : (depths : List ℕ) → (more : ℕ) → (nodes : List ℕ) → ℕ
deepest depths more [] = 0
deepest depths more (n ∷ ns) = max (more + slice_index_or depths n 0) (deepest depths more ns)

-- of the function that a call calls
abbrev pub depth_called : List ℕ → Kind → Option Referent → ℕ
depth_called depths (nodes.Call name arguments) (Some (referents.Declared function)) = slice_index_or depths function 0
depth_called depths kind _ = 0

abbrev pub depth_in : Typed → (depths : List ℕ) → (n : ℕ) → Kind → ℕ
depth_in u depths n kind =
    max (deepest depths 1 (listed u.tree.items (list_of kind)))
    (max (deepest depths 1 (inner kind)) (max (deepest depths 0 (operands kind)) (depth_called depths kind (referent_at u n))))

-- how many constructs stand in one another in a node. A depth above the limit counts as one more than the limit
abbrev pub depth_of : Typed → (depths : List ℕ) → (n : ℕ) → ℕ
depth_of u depths n = min (most_nested + 1) (depth_in u depths n (kind_at u n))

unfoldable pub depths_below : Typed → ℕ → List ℕ
depths_below u zero = []
depths_below u (suc n) = depths_below u n ++ depth_of u (depths_below u n) n ∷ []

abbrev pub depth_at : List ℕ → Option ℕ → ℕ
depth_at depths None = 0
depth_at depths (Some n) = slice_index_or depths n 0

-- how deep a run of `nf_process` nests
abbrev pub nesting : Typed → ℕ
nesting u = depth_at (depths_below u (length u.tree.nodes)) (process_of u)
