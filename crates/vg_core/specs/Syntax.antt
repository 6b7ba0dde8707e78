-- What contracts see of a tree.
use Rattle.std.specs.Prelude.{◌≡◌, ℕ, ◌+◌, ◌<◌, ◌≤◌, List, [], ◌∷◌, ◌++◌, length, take, drop, slice_get, flat_map, count_by, All, AllPairs, ◌==◌}
use Rattle.std.specs.Prelude.{if◌then◌else◌, Some, option_to_list}
use Rattle.vg_core.specs.declared.tree.Kind.{Kind}
use Rattle.vg_core.specs.declared.tree.Kind.TheVariants as kinds
use Rattle.vg_core.specs.declared.tree.Node.{Node}
use Rattle.vg_core.specs.declared.tree.Parts.{Parts}

-- the nodes in the order of their numbers, and the numbers of parts in lists, one list behind the other
pub record Syntax : Type 0 where
  pub nodes : List Node
  pub items : List ℕ

-- one node more
abbrev pub with_node : Syntax → ℕ → Kind → Syntax
with_node t at kind = record t { nodes = t.nodes ++ record { kind = kind; at = at } ∷ [] }

-- one list of parts more
abbrev pub with_parts : Syntax → List ℕ → Syntax
with_parts t parts = record t { items = t.items ++ parts }

-- where the list of parts of a node stands, with no item where it has none
abbrev pub list_of : Kind → Parts
list_of (kinds.Unit items) = items
list_of (kinds.Struct tag fields attribute) = fields
list_of (kinds.Function is_static is_inline answer name params body) = params
list_of (kinds.Block statements end) = statements
list_of (kinds.Call name arguments) = arguments
list_of _ = record { from = 0; count = 0 }

-- the parts that a node names by itself, in the order of the text
abbrev pub named_by : Kind → List ℕ
named_by (kinds.Field base name length) = option_to_list length
named_by (kinds.Function is_static is_inline answer name params body) = body ∷ []
named_by (kinds.Declare base pointer name length value) = option_to_list length ++ option_to_list value
named_by (kinds.Evaluate value) = value ∷ []
named_by (kinds.Assign op target value) = target ∷ value ∷ []
named_by (kinds.Increment target) = target ∷ []
named_by (kinds.Decrement target) = target ∷ []
named_by (kinds.If condition body otherwise) = condition ∷ body ∷ option_to_list otherwise
named_by (kinds.For of counter start tested bound stepped step body) = start ∷ bound ∷ option_to_list step ++ body ∷ []
named_by (kinds.Return value) = option_to_list value
named_by (kinds.Choose condition one other) = condition ∷ one ∷ other ∷ []
named_by (kinds.Binary op left right) = left ∷ right ∷ []
named_by (kinds.Unary op operand) = operand ∷ []
named_by (kinds.Cast base pointer operand) = operand ∷ []
named_by (kinds.Index array index) = array ∷ index ∷ []
named_by (kinds.Member whole field) = whole ∷ []
named_by (kinds.Arrow pointer field) = pointer ∷ []
named_by (kinds.Parens inner) = inner ∷ []
named_by _ = []

-- so many items, from one on
abbrev pub listed : List ℕ → Parts → List ℕ
listed items parts = take parts.count (drop parts.from items)

-- the parts of a node, by their nodes' numbers, in the order of the text
abbrev pub parts_of : List ℕ → Kind → List ℕ
parts_of items kind = listed items (list_of kind) ++ named_by kind

-- a node's list of parts lies in the items, and its parts stand before it, in the order of the text
pub record IsBehindParts (items : List ℕ) (number : ℕ) (kind : Kind) : Type 0 where
  pub within : (list_of kind).from + (list_of kind).count ≤ length items
  pub before : All (λ part. part < number) (parts_of items kind)
  pub rising : AllPairs (λ one other. one < other) (parts_of items kind)

-- each node stands behind its parts
abbrev pub IsOrdered : Syntax → Type 0
IsOrdered tree = (number : ℕ) (node : Node) → slice_get tree.nodes number ≡ Some node → IsBehindParts tree.items number node.kind

-- the parts of all nodes, node by node
abbrev pub all_parts : Syntax → List ℕ
all_parts tree = flat_map (λ node. parts_of tree.items node.kind) tree.nodes

-- the last node is the root, which is a part of none; each other is a part of one node, and once
pub record IsUsedOnce (tree : Syntax) : Type 0 where
  pub some : 0 < length tree.nodes
  pub once : (number : ℕ) → number < length tree.nodes → count_by (λ part. part == number) (all_parts tree) ≡ (if number + 1 == length tree.nodes then 0 else 1)
