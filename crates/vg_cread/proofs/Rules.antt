-- Rule by rule: a construct leaves the nodes that its value names, and its node takes them all, in the order of the text.
use Rattle.std.proofs.Common.{◌≡◌, ℕ, zero, suc, true, false, List, [], ◌∷◌, ◌++◌, length, Some, None, refl, sym, subst, arith}
use Rattle.std.specs.Prelude.{option_to_list}
use Rattle.std.proofs.lemmas.List.{append-nil}
use Rattle.vg_core.specs.Syntax.{Syntax, IsOrdered, IsUsedOnce}
use Rattle.vg_core.specs.declared.tree.Base.TheVariants as bases
use Rattle.vg_core.specs.declared.tree.Kind.TheVariants as nodes
use Rattle.vg_ctok.specs.declared.kinds.Token.{Token}
use Rattle.vg_ctok.specs.declared.kinds.Keyword.{Keyword}
use Rattle.vg_ctok.specs.declared.kinds.Keyword.TheVariants as words
use Rattle.vg_ctok.specs.declared.kinds.Sign.{Sign}
use Rattle.vg_cread.specs.Forms.{Nested, Expression, Operand, Statement, Body}
use Rattle.vg_cread.specs.Grammar.{form, sign, word, name, flagged, base, int_type, star, handle, array_length, initial, expression, operator, binary}
use Rattle.vg_cread.specs.Grammar.{link, unary, postfix, suffix, primary, arguments, no_postfix, opened, statement, block, pieces, piece, declaration}
use Rattle.vg_cread.specs.Grammar.{if_statement, otherwise, for_statement, step, return_statement, simple_statement, assignment, action, field}
use Rattle.vg_cread.specs.Grammar.{fields, attribute, packing, struct_item, extern_item, param, params, answer, function, item, items, unit}
use Rattle.vg_cread.specs.Spelling.{start}
use Rattle.vg_cread.specs.Guided.{guided_inner, Guides}
use Rattle.vg_cread.proofs.Waiting.{Waiting, waiting_none, used_once}
use Rattle.vg_cread.proofs.Leaving.{Leaves, Keeps, leaves, Takes, Passes, Names, itself, takes_node, takes_list}

sign_passes : (s : Sign) → Passes (sign s)
unfolding sign
sign_passes s l P h = λ x a is. h a

word_passes : (w : Keyword) → Passes (word w)
unfolding word
word_passes w l P h = λ x a is. h a

name_passes : Passes name
unfolding name
name_passes l P h = λ x a is. h a

int_type_passes : Passes int_type
unfolding int_type word
int_type_passes l P h = ((λ x a is. ((λ y b so. h _), h _)), λ x a is. h a)

base_passes : Passes base
unfolding base word name
base_passes l P h = ((λ at x a is y n so. h (bases.Struct at n)), int_type_passes l _ (λ t. h (bases.Int t)))

star_passes : Passes star
unfolding star sign
star_passes l P h = ((λ x a is. h true), h false)

array_length_names : Names array_length option_to_list
unfolding array_length sign
array_length_names l P h = ((λ x a is k y b so. h (Some k)), subst (λ m. P None m) (append-nil l) (h None))

initial_names : Names initial option_to_list
unfolding initial sign
initial_names l P h = ((λ x a is k. h (Some k)), subst (λ m. P None m) (append-nil l) (h None))

-- expressions
abbrev all_of : List ℕ → List ℕ
all_of parts = parts

arguments_names : Names arguments all_of
unfolding arguments sign
arguments_names l P h = (
  (all_of, (λ k. refl), (λ x a is k at parts tree row w. w), h),
  subst (λ m. P [] m) (append-nil l) (h []),
)

opened_names : Names opened itself
unfolding opened no_postfix sign
opened_names l P h = λ at x a is. (
  base_passes [] _ (λ b. star_passes [] _ (λ pointer y c so k u. (itself, takes_node at (nodes.Cast b pointer k) (k ∷ []) (λ items. (omega arith, refl)), h))),
  λ k y c so. (itself, takes_node at (nodes.Parens k) (k ∷ []) (λ items. (omega arith, refl)), h),
)

primary_names : Names primary itself
unfolding primary name sign
primary_names l P h = (
  opened_names l P h,
  (
    (λ at x n is. (itself, takes_node at _ [] (λ items. (omega arith, refl)), h)),
    λ at x n is. (
      (λ y b so. arguments_names [] _
          (λ parts z c closed. (itself, takes_list at (nodes.Call n) parts [] parts (λ ps. (refl, refl)) (sym (append-nil parts)), h))),
      (itself, takes_node at (nodes.Variable n) [] (λ items. (omega arith, refl)), h),
    ),
  ),
)

suffix_takes : Leaves suffix [] (λ g m. (at : ℕ) (a : ℕ) → Takes itself (g at a) (itself a ++ m))
unfolding suffix name sign
suffix_takes = (
  (λ x u is index y v so at a. takes_node at (nodes.Index a index) (a ∷ index ∷ []) (λ items. (omega arith, refl))),
  (
    (λ x u is y field so at a. takes_node at (nodes.Member a field) (a ∷ []) (λ items. (omega arith, refl))),
    λ x u is y field so at a. takes_node at (nodes.Arrow a field) (a ∷ []) (λ items. (omega arith, refl)),
  ),
)

postfix_names : Names postfix itself
unfolding postfix
postfix_names l P h = (itself, primary_names [] _ (λ k. refl), suffix_takes, h)

unary_names : Names unary itself
unfolding unary no_postfix word sign
unary_names l P h = (
  (λ at x op is k u. (itself, takes_node at (nodes.Unary op k) (k ∷ []) (λ items. (omega arith, refl)), h)),
  (
    (λ at x a is y b so. base_passes [] _ (λ t z c closed u. (itself, takes_node at (nodes.Sizeof t) [] (λ items. (omega arith, refl)), h))),
    postfix_names l P h,
  ),
)

binary_names : (rank : ℕ) → Names (binary rank) itself
unfolding binary link operator
binary_names zero l P h = unary_names l P h
binary_names (suc rank) l P h = (
  itself,
  binary_names rank [] _ (λ k. refl),
  (λ x op is. binary_names rank [] _ (λ right at left. takes_node at (nodes.Binary op left right) (left ∷ right ∷ []) (λ items. (omega arith, refl)))),
  h,
)

expression_names : Names expression itself
unfolding expression sign
expression_names l P h = λ at. binary_names 10 [] _ (λ c. (
  (λ x u is one y v so other. (itself, takes_node at (nodes.Choose c one other) (c ∷ one ∷ other ∷ []) (λ items. (omega arith, refl)), h)),
  (itself, (λ tree row w. w), h),
))

-- statements
declaration_names : Names declaration itself
unfolding declaration name sign
declaration_names l P h = λ at. base_passes [] _
    (λ b. star_passes [] _ (λ pointer x n is. array_length_names [] _ (λ size. initial_names (option_to_list size) _ (λ value y u so.
    (itself, takes_node at (nodes.Declare b pointer n size value) (option_to_list size ++ option_to_list value) (λ items. (omega arith, refl)), h)))))

piece_names : Names piece itself
unfolding piece
piece_names l P h = (declaration_names l P h, h)

pieces_names : Names pieces all_of
unfolding pieces
pieces_names l P h = (all_of, refl, piece_names [] _ (λ k at parts tree row w. w), h)

block_names : Names block itself
unfolding block sign
block_names l P h = λ at x a is. pieces_names [] _
    (λ parts end y b so. (
      itself,
      takes_list at (λ statements. nodes.Block statements end) parts [] parts (λ ps. (refl, refl))
          (sym (append-nil parts)),
      h,
    ))

if_names : Names if_statement itself
unfolding if_statement otherwise word sign
if_names l P h = λ at x a is y b so condition z c closed body. (
  (λ v d els other. (itself, takes_node at (nodes.If condition body (Some other)) (condition ∷ body ∷ other ∷ []) (λ items. (omega arith, refl)), h)),
  λ u. (itself, takes_node at (nodes.If condition body None) (condition ∷ body ∷ []) (λ items. (omega arith, refl)), h),
)

step_names : Names step option_to_list
unfolding step sign
step_names l P h = ((λ x a is. subst (λ m. P None m) (append-nil l) (h None)), λ x a is k. h (Some k))

for_names : Names for_statement itself
unfolding for_statement word sign name
for_names l P h = λ at x₁ a₁ i₁ x₂ a₂ i₂. int_type_passes [] _ (λ of x₃ counter i₃ x₄ a₄ i₄ from x₅ a₅ i₅ x₆ tested i₆ x₇ a₇ i₇ bound x₈ a₈ i₈ x₉ stepped i₉.
    step_names (from ∷ bound ∷ []) _ (λ by x a is body. (
      itself,
      takes_node at (nodes.For of counter from tested bound stepped by body) (from ∷ bound ∷ (option_to_list by ++ body ∷ []))
          (λ items. (omega arith, refl)),
      h,
    )))

return_names : Names return_statement itself
unfolding return_statement word sign
return_names l P h = λ at x a is. (
  (λ k y b so. (itself, takes_node at (nodes.Return (Some k)) (k ∷ []) (λ items. (omega arith, refl)), h)),
  λ y b so. (itself, takes_node at (nodes.Return None) [] (λ items. (omega arith, refl)), h),
)

simple_names : Names simple_statement itself
unfolding simple_statement action assignment sign
simple_names l P h = λ at target. (
  (λ x op is value y b so. (itself, takes_node at (nodes.Assign op target value) (target ∷ value ∷ []) (λ items. (omega arith, refl)), h)),
  (
    (λ x a is y b so. (itself, takes_node at (nodes.Increment target) (target ∷ []) (λ items. (omega arith, refl)), h)),
    (
      (λ x a is y b so. (itself, takes_node at (nodes.Decrement target) (target ∷ []) (λ items. (omega arith, refl)), h)),
      λ y b so. (itself, takes_node at (nodes.Evaluate target) (target ∷ []) (λ items. (omega arith, refl)), h),
    ),
  ),
)

statement_names : Names statement itself
unfolding statement sign
statement_names l P h = (
  block_names l P h,
  (
    (λ at x a is. (itself, takes_node at nodes.Empty [] (λ items. (omega arith, refl)), h)),
    (if_names l P h, (for_names l P h, (return_names l P h, simple_names l P h))),
  ),
)

form_names : (n : Nested) → Names (form n) itself
form_names Expression = expression_names
form_names Operand = unary_names
form_names Statement = statement_names
form_names Body = block_names

-- items
field_names : Names field itself
unfolding field name sign
field_names l P h = λ at. base_passes [] _
    (λ b x n is. array_length_names [] _
    (λ size y u so. (itself, takes_node at (nodes.Field b n size) (option_to_list size) (λ items. (omega arith, refl)), h)))

fields_names : Names fields all_of
unfolding fields
fields_names l P h = (all_of, field_names [] _ (λ k. refl), field_names [] _ (λ k at parts tree row w. w), h)

packing_passes : Passes packing
unfolding packing attribute word name sign
packing_passes l P h = ((λ x₁ a₁ i₁ x₂ a₂ i₂ x₃ a₃ i₃ x₄ n i₄ x₅ a₅ i₅ x₆ a₆ i₆. h (Some n)), h None)

struct_names : Names struct_item itself
unfolding struct_item word name sign
struct_names l P h = λ at x₁ a₁ i₁ x₂ tag i₂ x₃ a₃ i₃. fields_names [] _ (λ parts x₄ a₄ i₄. packing_passes parts _ (λ packed x₅ a₅ i₅.
    (itself, takes_list at (λ ps. nodes.Struct tag ps packed) parts [] parts (λ ps. (refl, refl)) (sym (append-nil parts)), h)))

extern_names : Names extern_item itself
unfolding extern_item handle word name sign
extern_names l P h = λ at x₁ a₁ i₁. (
  (λ x₂ a₂ i₂. int_type_passes [] _ (λ of x₃ n i₃ x₄ a₄ i₄. (itself, takes_node at (nodes.ExternNumber of n) [] (λ items. (omega arith, refl)), h))),
  λ x₂ which i₂ x₃ n i₃ x₄ a₄ i₄. (itself, takes_node at (nodes.ExternHandle which n) [] (λ items. (omega arith, refl)), h),
)

param_names : Names param itself
unfolding param name
param_names l P h = λ at. base_passes [] _
    (λ b. star_passes [] _ (λ pointer x n is. (itself, takes_node at (nodes.Param b pointer n) [] (λ items. (omega arith, refl)), h)))

params_names : Names params all_of
unfolding params word sign
params_names l P h = (
  (λ x a is. subst (λ m. P [] m) (append-nil l) (h [])),
  (all_of, param_names [] _ (λ k. refl), (λ x a is. param_names [] _ (λ k at parts tree row w. w)), h),
)

answer_passes : Passes answer
unfolding answer word
answer_passes l P h = ((λ x a is. h None), int_type_passes l _ (λ t. h (Some t)))

flagged_passes : (w : Keyword) → Passes (flagged w)
unfolding flagged word
flagged_passes w l P h = ((λ x a is. h true), h false)

function_names : Names function itself
unfolding function name sign
function_names l P h = λ at. flagged_passes words.Static [] _ (λ is_static. flagged_passes words.Inline [] _
    (λ is_inline. answer_passes [] _ (λ of x n is y a so. params_names [] _ (λ parts z b closed body.
    (itself, takes_list at (λ ps. nodes.Function is_static is_inline of n ps body) parts (body ∷ []) (parts ++ body ∷ []) (λ ps. (refl, refl)) refl, h)))))

item_names : Names item itself
unfolding item
item_names l P h = (struct_names l P h, (extern_names l P h, function_names l P h))

items_names : Names items all_of
unfolding items
items_names l P h = (all_of, refl, item_names [] _ (λ k at parts tree row w. w), h)

unit_names : Names unit itself
unfolding unit
unit_names l P h = λ at. items_names [] _ (λ parts. (itself, takes_list at nodes.Unit parts [] parts (λ ps. (refl, refl)) (sym (append-nil parts)), h))

-- whole texts
inner_keeps : (toks : List Token) (room : ℕ) → Keeps toks (guided_inner toks room)
inner_keeps toks zero n s a t row is w = absurd is
inner_keeps toks (suc room) n s a t row (so, is) w =
    let left = leaves toks (guided_inner toks room) (inner_keeps toks room) (form n) [] (λ k m. m ≡ k ∷ []) (form_names n [] _ (λ k. refl)) s a t row
    is (subst (λ m. Waiting s.tree m) (sym (append-nil row)) w) in
    subst (λ m. Waiting t.tree (row ++ m)) left.2 left.1

root_waits : (toks : List Token) (room : ℕ) (tree : Syntax) → Guides room toks tree → (root : ℕ) × Waiting tree (root ∷ [])
root_waits toks room tree (root, is) =
    let left = leaves toks (guided_inner toks room) (inner_keeps toks room) unit [] (λ k m. m ≡ k ∷ []) (unit_names [] _ (λ k. refl)) start root
    (record { at = length toks; tree = tree }) [] is waiting_none in
    (root, subst (λ m. Waiting tree m) left.2 left.1)

pub parts_first : (toks : List Token) (room : ℕ) (tree : Syntax) → Guides room toks tree → IsOrdered tree
parts_first toks room tree is = (root_waits toks room tree is).1.ordered

pub parts_used_once : (toks : List Token) (room : ℕ) (tree : Syntax) → Guides room toks tree → IsUsedOnce tree
parts_used_once toks room tree is = let last = root_waits toks room tree is in used_once tree last.0 last.1
