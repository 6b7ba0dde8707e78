-- What the parts of a node see, in four forms: the items of a file, parts behind a declarator and in a row, statements of a block, and parts in two lots,
-- of which one sees what the node sees and the other the node itself.
use Rattle.std.proofs.Common.{◌≡◌, ◌∙◌, ℕ, List, [], ◌∷◌, ◌++◌, Option, Some, None, refl, sym, ap}
use Rattle.std.proofs.lemmas.List.{append-nil}
use Rattle.vg_core.specs.Syntax.{Syntax, listed, parts_of}
use Rattle.vg_core.specs.declared.tree.Kind.{Kind}
use Rattle.vg_core.specs.declared.tree.Kind.TheVariants as nodes
use Rattle.vg_cscope.specs.Scopes.{Sight, all_see, in_row, behind, seen_behind, sight}
use Rattle.vg_cnames.specs.Scoping.{rest_of, row_of, within}

abbrev pub parts_in : Sight → List ℕ
parts_in [] = []
parts_in (x ∷ xs) = x.0 ∷ parts_in xs

pub parts_append : (xs ys : Sight) → parts_in (xs ++ ys) ≡ parts_in xs ++ parts_in ys
parts_append [] ys = refl
parts_append (x ∷ xs) ys = ap (λ zs. x.0 ∷ zs) (parts_append xs ys)

pub parts_all : (seen : Option ℕ) (xs : List ℕ) → parts_in (all_see seen xs) ≡ xs
parts_all seen [] = refl
parts_all seen (x ∷ xs) = ap (λ zs. x ∷ zs) (parts_all seen xs)

pub parts_row : (tree : Syntax) (seen : Option ℕ) (xs : List ℕ) → parts_in (in_row tree seen xs) ≡ xs
parts_row tree seen [] = refl
parts_row tree seen (x ∷ xs) = ap (λ zs. x ∷ zs) (parts_row tree (behind tree seen x) xs)

-- one more in a row
row_push : (tree : Syntax) (seen : Option ℕ) (xs : List ℕ) (y : ℕ) → in_row tree seen xs ++ all_see (seen_behind tree seen xs) (y ∷ []) ≡ in_row tree
    seen (xs ++ y ∷ [])
row_push tree seen [] y = refl
row_push tree seen (x ∷ xs) y = ap (λ zs. (x, seen) ∷ zs) (row_push tree (behind tree seen x) xs y)

pub data Looks (tree : Syntax) (n : ℕ) (seen : Option ℕ) (kind : Kind) : Type 0 where
  file : sight tree n seen kind ≡ in_row tree None (row_of tree kind) → parts_of tree.items kind ≡ row_of tree kind → within tree kind ≡ []
      → rest_of tree kind ≡ [] →
      Looks tree n seen kind
  opens : sight tree n seen kind ≡ in_row tree (Some n) (row_of tree kind) → parts_of tree.items kind ≡ row_of tree kind
      → within tree kind ≡ parts_of tree.items kind →
      rest_of tree kind ≡ row_of tree kind → Looks tree n seen kind
  block : sight tree n seen kind ≡ in_row tree seen (row_of tree kind) → parts_of tree.items kind ≡ row_of tree kind
      → within tree kind ≡ parts_of tree.items kind →
      rest_of tree kind ≡ [] → Looks tree n seen kind
  splits : (front back : List ℕ) → sight tree n seen kind ≡ all_see seen front ++ all_see (Some n) back → parts_of tree.items kind ≡ front ++ back →
      within tree kind ≡ parts_of tree.items kind → rest_of tree kind ≡ back → row_of tree kind ≡ [] → Looks tree n seen kind

plain : (tree : Syntax) (n : ℕ) (seen : Option ℕ) (kind : Kind) → sight tree n seen kind ≡ all_see seen (parts_of tree.items kind) →
    within tree kind ≡ parts_of tree.items kind → rest_of tree kind ≡ [] → row_of tree kind ≡ [] → Looks tree n seen kind
plain tree n seen kind e f g h =
    splits (parts_of tree.items kind) [] (e ∙ sym (append-nil (all_see seen (parts_of tree.items kind)))) (sym (append-nil (parts_of tree.items kind))) f g h

module _ (tree : Syntax) (n : ℕ) (seen : Option ℕ) where
  pub looks : (kind : Kind) → Looks tree n seen kind
  looks (nodes.Unit items) = file refl (append-nil (listed tree.items items)) refl refl
  looks (nodes.Struct tag fields attribute) = opens refl (append-nil (listed tree.items fields)) refl refl
  looks (nodes.Field base name None) = plain tree n seen _ refl refl refl refl
  looks (nodes.Field base name (Some count)) = plain tree n seen _ refl refl refl refl
  looks (nodes.ExternHandle handle name) = plain tree n seen _ refl refl refl refl
  looks (nodes.ExternNumber of name) = plain tree n seen _ refl refl refl refl
  looks (nodes.Function is_static is_inline answer name params body) = opens (row_push tree (Some n) (listed tree.items params) body) refl refl refl
  looks (nodes.Param base pointer name) = plain tree n seen _ refl refl refl refl
  looks (nodes.Block statements end) = block refl (append-nil (listed tree.items statements)) refl refl
  looks (nodes.Declare base pointer name None None) = splits [] [] refl refl refl refl refl
  looks (nodes.Declare base pointer name None (Some value)) = splits [] (value ∷ []) refl refl refl refl refl
  looks (nodes.Declare base pointer name (Some count) None) = splits (count ∷ []) [] refl refl refl refl refl
  looks (nodes.Declare base pointer name (Some count) (Some value)) = splits (count ∷ []) (value ∷ []) refl refl refl refl refl
  looks nodes.Empty = plain tree n seen _ refl refl refl refl
  looks (nodes.Evaluate value) = plain tree n seen _ refl refl refl refl
  looks (nodes.Assign op target value) = plain tree n seen _ refl refl refl refl
  looks (nodes.Increment target) = plain tree n seen _ refl refl refl refl
  looks (nodes.Decrement target) = plain tree n seen _ refl refl refl refl
  looks (nodes.If condition first None) = plain tree n seen _ refl refl refl refl
  looks (nodes.If condition first (Some otherwise)) = plain tree n seen _ refl refl refl refl
  looks (nodes.For of counter start tested bound stepped None body) = splits [] (start ∷ bound ∷ body ∷ []) refl refl refl refl refl
  looks (nodes.For of counter start tested bound stepped (Some step) body) = splits [] (start ∷ bound ∷ step ∷ body ∷ []) refl refl refl refl refl
  looks (nodes.Return None) = plain tree n seen _ refl refl refl refl
  looks (nodes.Return (Some value)) = plain tree n seen _ refl refl refl refl
  looks (nodes.Choose condition first otherwise) = plain tree n seen _ refl refl refl refl
  looks (nodes.Binary op left right) = plain tree n seen _ refl refl refl refl
  looks (nodes.Unary op operand) = plain tree n seen _ refl refl refl refl
  looks (nodes.Cast base pointer operand) = plain tree n seen _ refl refl refl refl
  looks (nodes.Sizeof base) = plain tree n seen _ refl refl refl refl
  looks (nodes.Index array index) = plain tree n seen _ refl refl refl refl
  looks (nodes.Member whole field) = plain tree n seen _ refl refl refl refl
  looks (nodes.Arrow pointer field) = plain tree n seen _ refl refl refl refl
  looks (nodes.Number value of) = plain tree n seen _ refl refl refl refl
  looks (nodes.Variable name) = plain tree n seen _ refl refl refl refl
  looks (nodes.Call name arguments) =
      plain tree n seen _ (ap (all_see seen) (sym (append-nil (listed tree.items arguments)))) refl refl refl
  looks (nodes.Parens inner) = plain tree n seen _ refl refl refl refl

  parts_of_look : (kind : Kind) → Looks tree n seen kind → parts_in (sight tree n seen kind) ≡ parts_of tree.items kind
  parts_of_look kind (file e f g h) = ap parts_in e ∙ parts_row tree None (row_of tree kind) ∙ sym f
  parts_of_look kind (opens e f g h) = ap parts_in e ∙ parts_row tree (Some n) (row_of tree kind) ∙ sym f
  parts_of_look kind (block e f g h) = ap parts_in e ∙ parts_row tree seen (row_of tree kind) ∙ sym f
  parts_of_look kind (splits front back e f g h i) =
      ap parts_in e ∙ parts_append (all_see seen front) (all_see (Some n) back) ∙ ap (λ xs. xs ++ parts_in (all_see (Some n) back)) (parts_all seen front)
      ∙ ap (λ xs. front ++ xs) (parts_all (Some n) back) ∙ sym f

  -- the parts that are told what they see are the node's parts
  pub sight_parts : (kind : Kind) → parts_in (sight tree n seen kind) ≡ parts_of tree.items kind
  sight_parts kind = parts_of_look kind (looks kind)
