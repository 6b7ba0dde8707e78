-- The scope of a declaration (C11 6.2.1), as a part of the tree, without an order of looking. A block's declarations, a
-- function's parameters and the counter of a loop end with the block, function or loop; the declarations of a file hold to
-- its end, and those of a struct's members to the end of the struct: what stands behind `.` and `->` is looked up in it by
-- typing, and isn't told here. A tag's scope begins behind the tag, a variable's behind its declarator (6.2.1 p7), so that it
-- has the initializer. A function's begins at its own name: C11 begins it behind the parameters, among which nothing can tell.
use Rattle.std.specs.Prelude.{◌≡◌, ℕ, ◌<◌, List, [], ◌∷◌, ◌++◌, Contains, true, option_to_list}
use Rattle.vg_core.specs.Syntax.{Syntax, listed, parts_of}
use Rattle.vg_core.specs.declared.tree.Kind.{Kind}
use Rattle.vg_core.specs.declared.tree.Kind.TheVariants as nodes
use Rattle.vg_cscope.specs.Scopes.{kind_at, declares}

-- the parts of a declaration that lie in its own scope
abbrev pub rest_of : Syntax → Kind → List ℕ
rest_of tree (nodes.Struct tag fields attribute) = listed tree.items fields
rest_of tree (nodes.Function is_static is_inline answer name params body) = listed tree.items params ++ body ∷ []
rest_of tree (nodes.Declare base pointer name count value) = option_to_list value
rest_of tree (nodes.For of counter start tested bound stepped step body) = start ∷ bound ∷ option_to_list step ++ body ∷ []
rest_of tree kind = []

-- parts of which each lies in the scopes of the declarations before it: the items of a file, the fields of a struct, the
-- parameters of a function and its body, and the statements of a block
abbrev pub row_of : Syntax → Kind → List ℕ
row_of tree (nodes.Unit items) = listed tree.items items
row_of tree (nodes.Struct tag fields attribute) = listed tree.items fields
row_of tree (nodes.Function is_static is_inline answer name params body) = listed tree.items params ++ body ∷ []
row_of tree (nodes.Block statements end) = listed tree.items statements
row_of tree kind = []

-- a part with which the scope of a declaration begins: it lies in it whole
pub data Begins (tree : Syntax) (d n : ℕ) : Type 0 where
  in_it : Contains (rest_of tree (kind_at tree d)) n → Begins tree d n
  -- parts are numbered in the order of the text
  after : (whole : ℕ) → declares (kind_at tree d) ≡ true → Contains (row_of tree (kind_at tree whole)) d →
      Contains (row_of tree (kind_at tree whole)) n → d < n → Begins tree d n

-- the parts of a node that lie where it lies. A file lies in no scope
abbrev pub within : Syntax → Kind → List ℕ
within tree (nodes.Unit items) = []
within tree kind = parts_of tree.items kind

-- a node lies in the scope of a declaration
pub data IsInScope (tree : Syntax) (d : ℕ) : ℕ → Type 0 where
  begins : (n : ℕ) → Begins tree d n → IsInScope tree d n
  part : (whole n : ℕ) → IsInScope tree d whole → Contains (within tree (kind_at tree whole)) n → IsInScope tree d n
