-- A type that a note has takes at most 65,536 bytes.
use Rattle.std.proofs.Common.{◌≡◌, ℕ, zero, suc, ◌+◌, ◌*◌, ◌/◌, ◌<◌, ◌≤◌, Bool, true, false, List, [], ◌∷◌, length, take, slice_get, Option, Some}
use Rattle.std.proofs.Common.{None, if◌then◌else◌, refl, sym, ap, subst, ◌∙◌, arith, inl, inr}
use Rattle.std.specs.Prelude.{nat_le}
use Rattle.std.proofs.lemmas.Option.{slice_get_within}
use Rattle.vg_core.specs.Syntax.{Syntax, listed}
use Rattle.vg_core.specs.Units.{Typed}
use Rattle.vg_core.specs.Layouts.{layout, target_layout, struct_layout, noted_layout, or_no_bytes}
use Rattle.vg_core.specs.Library.{Row, rows, answer_from}
use Rattle.vg_core.specs.declared.tree.Base.{Base}
use Rattle.vg_core.specs.declared.tree.Base.TheVariants as bases
use Rattle.vg_core.specs.declared.tree.BinaryOp.{BinaryOp}
use Rattle.vg_core.specs.declared.tree.IntType.{IntType}
use Rattle.vg_core.specs.declared.tree.IntType.TheVariants as words
use Rattle.vg_core.specs.declared.tree.Kind.{Kind}
use Rattle.vg_core.specs.declared.tree.Kind.TheVariants as nodes
use Rattle.vg_core.specs.declared.tree.UnaryOp.{UnaryOp}
use Rattle.vg_core.specs.declared.tree.UnaryOp.TheVariants as unary
use Rattle.vg_core.specs.declared.types.CType.{CType}
use Rattle.vg_core.specs.declared.types.CType.TheVariants as types
use Rattle.vg_core.specs.declared.types.Integer.{Integer}
use Rattle.vg_core.specs.declared.types.Layout.{Layout}
use Rattle.vg_core.specs.declared.types.Target.{Target}
use Rattle.vg_core.specs.declared.types.Target.TheVariants as targets
use Rattle.vg_core.specs.declared.unit.Note.{Note}
use Rattle.vg_core.specs.declared.unit.Referent.{Referent}
use Rattle.vg_core.specs.declared.unit.Referent.TheVariants as referents
use Rattle.vg_cint.specs.Types.{int, integer_of, promoted, greater, mixed, usual, common, is_test, is_apart, type_of_binary}
use Rattle.vg_ctyper.specs.declared.fault.TypeFault.{TypeFault}
use Rattle.vg_cscope.specs.declared.names.Wanted.TheVariants as wanted
use Rattle.vg_cscope.specs.Scopes.{kind_at}
use Rattle.vg_ctyper.specs.Names.{Known, found, callee}
use Rattle.vg_ctyper.specs.Types.{◌>>=◌, noted, type_at, of_integer, as_integer, of_target, pointee, pointed, address, integer_at, laid_out}
use Rattle.vg_ctyper.specs.Types.{base_target, length_at, array_of, is_small, if_small, object_type, declared_type, answer_type, type_declared}
use Rattle.vg_ctyper.specs.Types.{type_of_referent, cast_type, referent, unary_type, expression_type}
use Rattle.vg_ctyper.specs.Fields.{layout_at, fields_before}
use Rattle.vg_ctyper.specs.DeclarationRules.{last_of}
use Rattle.vg_ctyper.specs.Notes.{laid, behind_field, whole_struct, node_layout, or_else, node_type, note_of, note_unless}
use Rattle.vg_ctyper.specs.WellTyped.{known_at, broken_at, AreNotes, IsWellTyped}
use Rattle.vg_ctyper.specs.Small.{AreSmall}
use Rattle.vg_ctyper.proofs.Growing.{below_next}

-- ---- what there may be

abbrev Every : {A : Type 0} → (A → Type 0) → Option A → Type 0
Every P None = Unit {0}
Every P (Some x) = P x

bound : {A B : Type 0} (P : B → Type 0) (o : Option A) (f : A → Option B) → ((x : A) → o ≡ Some x → Every P (f x)) → Every P (o >>= f)
bound P None f h = tt
bound P (Some x) f h = h x refl

through : {A B : Type 0} (P : A → Type 0) (Q : B → Type 0) (o : Option A) (f : A → Option B) → Every P o → ((x : A) → P x → Every Q (f x)) → Every Q (o >>= f)
through P Q None f e h = tt
through P Q (Some x) f e h = h x e

if_some : {A : Type 0} (P : A → Type 0) (b : Bool) (x : A) → (b ≡ true → P x) → Every P (if b then Some x else None)
if_some P true x h = h refl
if_some P false x h = tt

if_every : {A : Type 0} (P : A → Type 0) (b : Bool) (o p : Option A) → Every P o → Every P p → Every P (if b then o else p)
if_every P true o p g h = g
if_every P false o p g h = h

every_at : {A : Type 0} (P : A → Type 0) (o : Option A) (x : A) → Every P o → o ≡ Some x → P x
every_at P None x h e = absurd (cc e)
every_at P (Some y) x h e = subst P (cc e) h

noted_every : {A : Type 0} (P : A → Type 0) (field : Note → Option A) (o : Option Note) → ((note : Note) → o ≡ Some note → Every P (field note))
    → Every P (noted field o)
noted_every P field None h = tt
noted_every P field (Some note) h = h note refl

noted_some : {A : Type 0} (field : Note → Option A) (o : Option Note) (x : A) → noted field o ≡ Some x → (note : Note) × (o ≡ Some note)
noted_some field None x e = absurd (cc e)
noted_some field (Some note) x e = (note, refl)

le_true : (m n : ℕ) → nat_le m n ≡ true → m ≤ n
le_true m n e = grind arith

-- ---- integers

abbrev Narrow : Integer → Type 0
Narrow t = t.bits ≤ 64

if_narrow : (b : Bool) (t u : Integer) → Narrow t → Narrow u → Narrow (if b then t else u)
if_narrow true t u g h = g
if_narrow false t u g h = h

int_narrow : Narrow int
int_narrow = omega arith

integer_narrow : (of : IntType) → Narrow (integer_of of)
integer_narrow words.Int = omega arith
integer_narrow words.Unsigned = omega arith
integer_narrow words.Int8 = omega arith
integer_narrow words.Int16 = omega arith
integer_narrow words.Int32 = omega arith
integer_narrow words.Int64 = omega arith
integer_narrow words.Uint8 = omega arith
integer_narrow words.Uint16 = omega arith
integer_narrow words.Uint32 = omega arith
integer_narrow words.Uint64 = omega arith

promoted_narrow : (t : Integer) → Narrow t → Narrow (promoted t)
promoted_narrow t h = if_narrow _ int t int_narrow h

greater_narrow : (t u : Integer) → Narrow t → Narrow u → Narrow (greater t u)
greater_narrow t u g h = if_narrow _ u t h g

mixed_narrow : (t u : Integer) → Narrow t → Narrow u → Narrow (mixed t u)
mixed_narrow t u g h = if_narrow _ t u g h

usual_narrow : (t u : Integer) → Narrow t → Narrow u → Narrow (usual t u)
usual_narrow t u g h =
    if_narrow t.signed _ _
    (if_narrow u.signed (greater t u) (mixed t u) (greater_narrow t u g h) (mixed_narrow t u g h))
    (if_narrow u.signed (mixed u t) (greater t u) (mixed_narrow u t h g) (greater_narrow t u g h))

common_narrow : (t u : Integer) → Narrow t → Narrow u → Narrow (common t u)
common_narrow t u g h = usual_narrow (promoted t) (promoted u) (promoted_narrow t g) (promoted_narrow u h)

binary_narrow : (op : BinaryOp) (t u : Integer) → Narrow t → Narrow u → Narrow (type_of_binary op t u)
binary_narrow op t u g h =
    if_narrow (is_test op) int _ int_narrow (if_narrow (is_apart op) (promoted t) (common t u) (promoted_narrow t g) (common_narrow t u g h))

-- ---- types

abbrev GoodTarget : Target → Type 0
GoodTarget targets.Void = Unit {0}
GoodTarget (targets.Int bits signed) = bits ≤ 64
GoodTarget (targets.Struct tag) = Unit {0}

abbrev Small : Layout → Type 0
Small l = l.size ≤ 65536

laid_small : (size align : ℕ) → Every Small (laid size align)
laid_small size align = if_some Small (nat_le size 65536) (record { size = size; align = align }) (λ e. le_true size 65536 e)

whole_small : (fields : Layout) → Every Small (whole_struct fields)
whole_small fields = laid_small _ _

bytes_small : (o : Option Layout) → Every Small o → Small (or_no_bytes o)
bytes_small None h = omega arith
bytes_small (Some l) h = h

noted_small : (o : Option Note) → ((note : Note) → o ≡ Some note → Every Small note.layout) → Small (noted_layout o)
noted_small None h = omega arith
noted_small (Some note) h = bytes_small note.layout (h note refl)

eighth : (bits : ℕ) → bits ≤ 64 → bits / 8 ≤ 65536
eighth bits h = omega arith

module _ (notes : List Note) where
  abbrev Good : CType → Type 0
  Good types.Void = Unit {0}
  Good (types.Int bits signed) = bits ≤ 64
  Good (types.Pointer target) = GoodTarget target
  Good (types.Array target count) = GoodTarget target × ((target_layout notes target).size * count ≤ 65536)
  Good (types.Struct tag) = Unit {0}
  Good (types.Handle kind) = Unit {0}

  good_small : ((tag : ℕ) → Small (struct_layout notes tag)) → (type : CType) → Good type → Small (layout notes type)
  good_small h types.Void g = omega arith
  good_small h (types.Int bits signed) g = eighth bits g
  good_small h (types.Pointer target) g = omega arith
  good_small h (types.Array target count) g = g.1
  good_small h (types.Struct tag) g = h tag
  good_small h (types.Handle kind) g = omega arith

  integer_good : (type : CType) → Good type → Every Narrow (as_integer type)
  integer_good types.Void g = tt
  integer_good (types.Int bits signed) g = g
  integer_good (types.Pointer target) g = tt
  integer_good (types.Array target count) g = tt
  integer_good (types.Struct tag) g = tt
  integer_good (types.Handle kind) g = tt

  target_good : (target : Target) → GoodTarget target → Good (of_target target)
  target_good targets.Void g = tt
  target_good (targets.Int bits signed) g = g
  target_good (targets.Struct tag) g = tt

  pointee_good : (type : CType) → Good type → Every GoodTarget (pointee type)
  pointee_good types.Void g = tt
  pointee_good (types.Int bits signed) g = tt
  pointee_good (types.Pointer targets.Void) g = tt
  pointee_good (types.Pointer (targets.Int bits signed)) g = g
  pointee_good (types.Pointer (targets.Struct tag)) g = tt
  pointee_good (types.Array target count) g = g.0
  pointee_good (types.Struct tag) g = tt
  pointee_good (types.Handle kind) g = tt

  address_good : (type : CType) → Good type → Every Good (address type)
  address_good types.Void g = tt
  address_good (types.Int bits signed) g = g
  address_good (types.Pointer target) g = tt
  address_good (types.Array target count) g = tt
  address_good (types.Struct tag) g = tt
  address_good (types.Handle kind) g = tt

  cast_good : (pointer : Bool) (target : Target) (from : CType) → GoodTarget target → Every Good (cast_type pointer target from)
  cast_good true target from g = bound Good (pointed from) (λ _. Some (types.Pointer target)) (λ _ _. g)
  cast_good false target from g =
      bound Good (as_integer (of_target target)) (λ _. as_integer from >>= λ _. Some (of_target target))
      (λ _ _. bound Good (as_integer from) (λ _. Some (of_target target)) (λ _ _. target_good target g))

  answer_good : (answer : Option IntType) → Good (answer_type answer)
  answer_good None = tt
  answer_good (Some of) = integer_narrow of

  abbrev AnswersGood : List Row → Type 0
  AnswersGood [] = Unit {0}
  AnswersGood (row ∷ more) = Good row.1 × AnswersGood more

  row_good : (n : ℕ) (list : List Row) (number : ℕ) → AnswersGood list → Every Good (answer_from n list number)
  row_good n [] number h = tt
  row_good n (row ∷ more) number h = if_every Good _ (Some row.1) (answer_from (n + 1) more number) h.0 (row_good (n + 1) more number h.1)

  rows_good : AnswersGood rows
  rows_good =
      let h : 32 ≤ 64 = omega arith in
      (h, (tt, (tt, (h, (tt, (tt, (h, (h, (h, (tt, (tt, (h, (tt, (tt, (h, tt)))))))))))))))

  -- at a node: the notes before it are among all notes, and are good
  module _ (k : Known) (agree : (i : ℕ) (note : Note) → slice_get k.notes i ≡ Some note → slice_get notes i ≡ Some note)
      (good : (i : ℕ) (note : Note) → slice_get k.notes i ≡ Some note → Every Good note.of) where
    type_good : (n : ℕ) → Every Good (type_at k n)
    type_good n = noted_every Good (λ note. note.of) (slice_get k.notes n) (good n)

    integer_at_narrow : (n : ℕ) → Every Narrow (integer_at k n)
    integer_at_narrow n = through Good Narrow (type_at k n) as_integer (type_good n) integer_good

    abbrev Placed : Target → Type 0
    Placed target = GoodTarget target × (target_layout k.notes target ≡ target_layout notes target)

    struct_placed : (tag : ℕ) → Every Placed (laid_out k tag)
    struct_placed tag =
        bound Placed (noted (λ note. note.layout) (slice_get k.notes tag)) (λ _. Some (targets.Struct tag))
        (λ x e.
        let r : (note : Note) × (slice_get k.notes tag ≡ Some note) = noted_some (λ note. note.layout) (slice_get k.notes tag) x e in
        (tt, ap noted_layout (r.1 ∙ sym (agree tag r.0 r.1))))

    base_placed : (n : ℕ) (base : Base) → Every Placed (base_target k n base)
    base_placed n (bases.Int of) = (integer_narrow of, refl)
    base_placed n (bases.Struct at tag) = bound Placed (found k (wanted.Tag tag) n) (laid_out k) (λ d _. struct_placed d)

    array_good : (target : Target) (count : Option ℕ) → Placed target → Every Good (if_small k (array_of target count))
    array_good target None p = tt
    array_good target (Some count) p =
        if_some Good (is_small k (types.Array target count)) (types.Array target count)
        (λ e. (p.0, subst (λ (l : Layout). l.size * count ≤ 65536) p.1 (le_true ((target_layout k.notes target).size * count) 65536 e)))

    object_good : (pointer : Bool) (target : Target) (count : Option ℕ) → Placed target → Every Good (object_type k pointer target count)
    object_good true target None p = p.0
    object_good true target (Some count) p = tt
    object_good false target None p = if_some Good (is_small k (of_target target)) (of_target target) (λ _. target_good target p.0)
    object_good false target (Some count) p = array_good target (length_at k count) p

    declared_good : (n : ℕ) (base : Base) (pointer : Bool) (count : Option ℕ) → Every Good (declared_type k n base pointer count)
    declared_good n base pointer count =
        through Placed Good (base_target k n base) (λ target. object_type k pointer target count) (base_placed n base)
        (λ target p. object_good pointer target count p)

    type_declared_good : (n : ℕ) (kind : Kind) → Every Good (type_declared k n kind)
    type_declared_good n (nodes.Declare base pointer name count value) = declared_good n base pointer count
    type_declared_good n (nodes.Param base pointer name) = declared_good n base pointer None
    type_declared_good n (nodes.Field base name count) = declared_good n base false count
    type_declared_good n (nodes.For of counter start tested bound stepped step body) = integer_narrow of
    type_declared_good n (nodes.ExternNumber of name) = integer_narrow of
    type_declared_good n (nodes.ExternHandle handle name) = tt
    type_declared_good n (nodes.Function is_static is_inline answer name params body) = answer_good answer
    type_declared_good n (nodes.Unit items) = tt
    type_declared_good n (nodes.Struct tag fields attribute) = tt
    type_declared_good n (nodes.Block statements end) = tt
    type_declared_good n nodes.Empty = tt
    type_declared_good n (nodes.Evaluate value) = tt
    type_declared_good n (nodes.Assign op target value) = tt
    type_declared_good n (nodes.Increment target) = tt
    type_declared_good n (nodes.Decrement target) = tt
    type_declared_good n (nodes.If condition first otherwise) = tt
    type_declared_good n (nodes.Return value) = tt
    type_declared_good n (nodes.Choose condition one other) = tt
    type_declared_good n (nodes.Binary op left right) = tt
    type_declared_good n (nodes.Unary op operand) = tt
    type_declared_good n (nodes.Cast base pointer operand) = tt
    type_declared_good n (nodes.Sizeof base) = tt
    type_declared_good n (nodes.Index array index) = tt
    type_declared_good n (nodes.Member whole field) = tt
    type_declared_good n (nodes.Arrow pointer field) = tt
    type_declared_good n (nodes.Number value of) = tt
    type_declared_good n (nodes.Variable name) = tt
    type_declared_good n (nodes.Call name arguments) = tt
    type_declared_good n (nodes.Parens inner) = tt

    referent_good : (r : Referent) → Every Good (type_of_referent k r)
    referent_good (referents.Declared d) = type_declared_good d (kind_at k.tree d)
    referent_good (referents.Library row) = row_good 1 rows row rows_good

    named_good : (r : Option Referent) → Every Good (r >>= type_of_referent k)
    named_good r = bound Good r (type_of_referent k) (λ x _. referent_good x)

    pointee_at_good : (n : ℕ) → Every GoodTarget (type_at k n >>= pointee)
    pointee_at_good n = through Good GoodTarget (type_at k n) pointee (type_good n) pointee_good

    plain_good : (operand : ℕ) (f : Integer → Integer) → ((t : Integer) → Narrow t → Narrow (f t))
        → Every Good (integer_at k operand >>= λ t. Some (of_integer (f t)))
    plain_good operand f h = through Narrow Good (integer_at k operand) (λ t. Some (of_integer (f t))) (integer_at_narrow operand) h

    unary_good : (op : UnaryOp) (operand : ℕ) → Every Good (unary_type k op operand)
    unary_good unary.Load operand = through GoodTarget Good (type_at k operand >>= pointee) (λ target. Some (of_target target))
        (pointee_at_good operand) target_good
    unary_good unary.Address operand = through Good Good (type_at k operand) address (type_good operand) address_good
    unary_good unary.Not operand = plain_good operand (λ _. int) (λ _ _. int_narrow)
    unary_good unary.Negate operand = plain_good operand promoted promoted_narrow
    unary_good unary.Complement operand = plain_good operand promoted promoted_narrow

    expression_good : (n : ℕ) (kind : Kind) → Every Good (expression_type k n kind)
    expression_good n (nodes.Number value of) = integer_narrow of
    expression_good n (nodes.Variable name) = named_good (referent k n (nodes.Variable name))
    expression_good n (nodes.Parens inner) = type_good inner
    expression_good n (nodes.Sizeof base) = let h : 64 ≤ 64 = omega arith in bound Good (base_target k n base) _ (λ _ _. h)
    expression_good n (nodes.Cast base pointer operand) =
        through Placed Good (base_target k n base) (λ target. type_at k operand >>= cast_type pointer target) (base_placed n base)
        (λ target p. bound Good (type_at k operand) (cast_type pointer target) (λ from _. cast_good pointer target from p.0))
    expression_good n (nodes.Unary op operand) = unary_good op operand
    expression_good n (nodes.Binary op left right) =
        through Narrow Good (integer_at k left) (λ l. integer_at k right >>= λ r. Some (of_integer (type_of_binary op l r))) (integer_at_narrow left)
        (λ l g. plain_good right (λ r. type_of_binary op l r) (λ r h. binary_narrow op l r g h))
    expression_good n (nodes.Choose condition one other) =
        bound Good (integer_at k condition) (λ _. integer_at k one >>= λ a. integer_at k other >>= λ b. Some (of_integer (common a b)))
        (λ _ _. through Narrow Good (integer_at k one) (λ a. integer_at k other >>= λ b. Some (of_integer (common a b))) (integer_at_narrow one)
        (λ a g. plain_good other (λ b. common a b) (λ b h. common_narrow a b g h)))
    expression_good n (nodes.Index array index) =
        through GoodTarget Good (type_at k array >>= pointee) (λ target. integer_at k index >>= λ _. Some (of_target target)) (pointee_at_good array)
        (λ target g. bound Good (integer_at k index) (λ _. Some (of_target target)) (λ _ _. target_good target g))
    expression_good n (nodes.Member whole field) = named_good (referent k n (nodes.Member whole field))
    expression_good n (nodes.Arrow pointer field) = named_good (referent k n (nodes.Arrow pointer field))
    expression_good n (nodes.Call name arguments) = if_every Good _ (callee k n name >>= type_of_referent k) None (named_good (callee k n name)) tt
    expression_good n (nodes.Declare base pointer name count value) = tt
    expression_good n (nodes.Param base pointer name) = tt
    expression_good n (nodes.Field base name count) = tt
    expression_good n (nodes.For of counter start tested bound stepped step body) = tt
    expression_good n (nodes.ExternNumber of name) = tt
    expression_good n (nodes.ExternHandle handle name) = tt
    expression_good n (nodes.Function is_static is_inline answer name params body) = tt
    expression_good n (nodes.Unit items) = tt
    expression_good n (nodes.Struct tag fields attribute) = tt
    expression_good n (nodes.Block statements end) = tt
    expression_good n nodes.Empty = tt
    expression_good n (nodes.Evaluate value) = tt
    expression_good n (nodes.Assign op target value) = tt
    expression_good n (nodes.Increment target) = tt
    expression_good n (nodes.Decrement target) = tt
    expression_good n (nodes.If condition first otherwise) = tt
    expression_good n (nodes.Return value) = tt

    either_good : (a b : Option CType) → Every Good a → Every Good b → Every Good (or_else a b)
    either_good None b g h = h
    either_good (Some x) b g h = g

    node_good : (n : ℕ) (kind : Kind) → Every Good (node_type k n kind)
    node_good n kind = either_good (type_declared k n kind) (expression_type k n kind) (type_declared_good n kind) (expression_good n kind)

  unless_good : (o : Option TypeFault) (note : Note) → Every Good note.of → Every Good (note_unless o note).of
  unless_good None note g = g
  unless_good (Some fault) note g = tt

-- ---- layouts

layout_small : (k : Known) (n : ℕ) (kind : Kind) → Every Small (node_layout k n kind)
layout_small k n (nodes.Field base name count) =
    bound Small (type_declared k n (nodes.Field base name count)) (λ type. fields_before k n >>= λ before. behind_field k n type before)
    (λ type _. bound Small (fields_before k n) (λ before. behind_field k n type before) (λ before _. laid_small _ _))
layout_small k n (nodes.Struct tag fields attribute) = bound Small (last_of (listed k.tree.items fields) >>= layout_at k) whole_struct (λ l _. whole_small l)
layout_small k n (nodes.Declare base pointer name count value) = tt
layout_small k n (nodes.Param base pointer name) = tt
layout_small k n (nodes.For of counter start tested bound stepped step body) = tt
layout_small k n (nodes.ExternNumber of name) = tt
layout_small k n (nodes.ExternHandle handle name) = tt
layout_small k n (nodes.Function is_static is_inline answer name params body) = tt
layout_small k n (nodes.Unit items) = tt
layout_small k n (nodes.Block statements end) = tt
layout_small k n nodes.Empty = tt
layout_small k n (nodes.Evaluate value) = tt
layout_small k n (nodes.Assign op target value) = tt
layout_small k n (nodes.Increment target) = tt
layout_small k n (nodes.Decrement target) = tt
layout_small k n (nodes.If condition first otherwise) = tt
layout_small k n (nodes.Return value) = tt
layout_small k n (nodes.Choose condition one other) = tt
layout_small k n (nodes.Binary op left right) = tt
layout_small k n (nodes.Unary op operand) = tt
layout_small k n (nodes.Cast base pointer operand) = tt
layout_small k n (nodes.Sizeof base) = tt
layout_small k n (nodes.Index array index) = tt
layout_small k n (nodes.Member whole field) = tt
layout_small k n (nodes.Arrow pointer field) = tt
layout_small k n (nodes.Number value of) = tt
layout_small k n (nodes.Variable name) = tt
layout_small k n (nodes.Call name arguments) = tt
layout_small k n (nodes.Parens inner) = tt

unless_small : (o : Option TypeFault) (note : Note) → Every Small note.layout → Every Small (note_unless o note).layout
unless_small None note g = g
unless_small (Some fault) note g = tt

-- ---- all notes

take_get : {A : Type 0} (n : ℕ) (xs : List A) (i : ℕ) (x : A) → slice_get (take n xs) i ≡ Some x → (slice_get xs i ≡ Some x) × (i < n)
take_get zero xs i x e = absurd (cc e)
take_get (suc n) [] i x e = absurd (cc e)
take_get (suc n) (y ∷ ys) zero x e = (e, omega arith)
take_get (suc n) (y ∷ ys) (suc i) x e =
    let r : (slice_get ys i ≡ Some x) × (i < n) = take_get n ys i x e in
    let l : i < n = r.1 in
    (r.0, omega arith)

module _ (text : List ℕ) (tree : Syntax) (notes : List Note) (are : AreNotes text tree notes) where
  is_note : (n : ℕ) (note : Note) → slice_get notes n ≡ Some note → note_unless (broken_at text tree notes n)
      (note_of (known_at text tree notes n) n (kind_at tree n)) ≡ note
  is_note n note e =
      let l : n < length notes = slice_get_within notes n note e in
      let c : length notes ≡ length tree.nodes = are.count in
      let h : n < length tree.nodes = omega arith in
      cc (are.each n h, e)

  layouts_small : (n : ℕ) (note : Note) → slice_get notes n ≡ Some note → Every Small note.layout
  layouts_small n note e =
      subst (λ (x : Note). Every Small x.layout) (is_note n note e)
      (unless_small (broken_at text tree notes n) (note_of (known_at text tree notes n) n (kind_at tree n))
      (layout_small (known_at text tree notes n) n (kind_at tree n)))

  good_next : (m : ℕ) → ((i : ℕ) (note : Note) → i < m → slice_get notes i ≡ Some note → Every (Good notes) note.of) → (note : Note)
      → slice_get notes m ≡ Some note → Every (Good notes) note.of
  good_next m before note e =
      subst (λ (x : Note). Every (Good notes) x.of) (is_note m note e)
      (unless_good notes (broken_at text tree notes m) (note_of (known_at text tree notes m) m (kind_at tree m))
      (node_good notes (known_at text tree notes m)
      (λ i x h. (take_get m notes i x h).0)
      (λ i x h. before i x (take_get m notes i x h).1 (take_get m notes i x h).0)
      m (kind_at tree m)))

  good_below : (m i : ℕ) (note : Note) → i < m → slice_get notes i ≡ Some note → Every (Good notes) note.of
  good_below zero i note h e = absurd (omega arith)
  good_below (suc m) i note h e = elim (below_next i m h) [
    | inl l ↦ good_below m i note l e
    | inr q ↦ good_next m (good_below m) note (ap (slice_get notes) (sym q) ∙ e)
  ]

  pub are_small : AreSmall notes
  are_small n note type e of =
      good_small notes (λ tag. noted_small (slice_get notes tag) (layouts_small tag)) type
      (every_at (Good notes) note.of type (good_below (suc n) n note (omega arith) e) of)

pub small_typed : (u : Typed) → IsWellTyped u → AreSmall u.notes
small_typed u is = are_small u.text u.tree u.notes is.notes
