-- What rules ask of the parts of a node. A part without a type breaks no rule of the node that it is a part of.
use Rattle.std.specs.Prelude.{ℕ, List, [], ◌∷◌, slice_get, Bool, true, false, not, ◌&&◌, nat_eq, is_some, Option, Some, None, if◌then◌else◌}
use Rattle.std.specs.Str.{bytes_eq}
use Rattle.vg_core.specs.Syntax.{Syntax}
use Rattle.vg_core.specs.declared.tree.HandleKind.{HandleKind}
use Rattle.vg_core.specs.declared.tree.HandleKind.TheVariants as handles
use Rattle.vg_core.specs.declared.tree.Kind.{Kind}
use Rattle.vg_core.specs.declared.tree.Kind.TheVariants as nodes
use Rattle.vg_core.specs.declared.tree.Name.{Name}
use Rattle.vg_core.specs.declared.tree.Node.{Node}
use Rattle.vg_core.specs.declared.tree.UnaryOp.TheVariants as unary
use Rattle.vg_core.specs.declared.types.CType.{CType}
use Rattle.vg_core.specs.declared.types.CType.TheVariants as types
use Rattle.vg_core.specs.declared.types.Target.{Target}
use Rattle.vg_core.specs.declared.types.Target.TheVariants as targets
use Rattle.vg_ctyper.specs.declared.demands.Demand.{Demand}
use Rattle.vg_ctyper.specs.declared.demands.Demand.TheVariants as demands
use Rattle.vg_ctyper.specs.declared.fault.Rule.{Rule}
use Rattle.vg_ctyper.specs.declared.fault.Rule.TheVariants as rules
use Rattle.vg_ctyper.specs.declared.fault.TypeFault.{TypeFault}
use Rattle.vg_ctyper.specs.declared.fault.TypeFault.TheVariants as type_faults
use Rattle.vg_cscope.specs.declared.names.Wanted.TheVariants as wanted
use Rattle.vg_ctyper.specs.Faults.{sooner}
use Rattle.vg_cscope.specs.Scopes.{kind_at}
use Rattle.vg_cscope.specs.Names.{spelling}
use Rattle.vg_ctyper.specs.Names.{Known, found}
use Rattle.vg_ctyper.specs.Types.{◌>>=◌, type_at, as_integer, pointee, pointed}

-- ---- places

abbrev pub place_of : Option Node → ℕ
place_of None = 0
place_of (Some node) = node.at

-- the place of a node is that of its first token
abbrev pub place : Known → ℕ → ℕ
place k n = place_of (slice_get k.tree.nodes n)

-- a node breaks a rule
abbrev pub fault_at : Known → ℕ → Rule → Option TypeFault
fault_at k n rule = Some (type_faults.Typing (place k n) rule)

abbrev pub unless : Known → ℕ → Rule → Bool → Option TypeFault
unless k n rule holds = if holds then None else fault_at k n rule

abbrev pub is_spelled : Known → Name → List ℕ → Bool
is_spelled k name bytes = bytes_eq (spelling k.text name) bytes

-- ---- values

-- an object of the library stands only as an argument, and a call of a `void` function only as a statement. Where such a part stands as a value it
-- is that part that is at fault, and its node's own rules don't look at it; else they do
abbrev pub used_as : Known → ℕ → CType → Option TypeFault → Option TypeFault
used_as k part (types.Handle handle) otherwise = fault_at k part rules.Handle
used_as k part types.Void otherwise = fault_at k part rules.Statement
used_as k part _ otherwise = otherwise

abbrev pub used : Known → ℕ → Option TypeFault → Option TypeFault
used k part otherwise = type_at k part >>= λ type. used_as k part type otherwise

-- the type of a part that is a value
abbrev pub as_value : CType → Option CType
as_value (types.Handle handle) = None
as_value types.Void = None
as_value type = Some type

abbrev pub value_at : Known → ℕ → Option CType
value_at k part = type_at k part >>= as_value

-- what an operator may want of an operand's type: any, an integer, or what `*`, `->` and `[]` take
abbrev pub meets : Demand → CType → Bool
meets demands.Value type = true
meets demands.Integer type = is_some (as_integer type)
meets demands.Object type = is_some (pointee type)

abbrev pub wanted_of : Known → ℕ → Demand → Rule → CType → Option TypeFault
wanted_of k part demand rule type = used_as k part type (unless k part rule (meets demand type))

abbrev pub wants : Known → ℕ → Demand → Rule → Option TypeFault
wants k part demand rule = type_at k part >>= wanted_of k part demand rule

-- ---- lvalues (C11 6.3.2.1, 6.5.1, 6.5.3.2)

abbrev pub inner : Kind → Option ℕ
inner (nodes.Parens part) = Some part
inner _ = None

-- what stands in parentheses; there are no more of them than nodes
abbrev pub unwrapped : Syntax → List Node → ℕ → ℕ
unwrapped tree [] n = n
unwrapped tree (node ∷ more) n = elim (inner (kind_at tree n)) as (λ _. ℕ) [ None ↦ n | Some part ↦ unwrapped tree more part ]

abbrev pub without_parens : Known → ℕ → ℕ
without_parens k n = unwrapped k.tree k.tree.nodes n

abbrev pub kind_found : Syntax → Option ℕ → Kind
kind_found tree None = nodes.Empty
kind_found tree (Some d) = kind_at tree d

-- what declares the name that an expression is
abbrev pub declaration_of : Known → ℕ → Kind → Kind
declaration_of k n (nodes.Variable name) = kind_found k.tree (found k (wanted.Ordinary name) n)
declaration_of k n _ = nodes.Empty

abbrev pub is_extern_number : Kind → Bool
is_extern_number (nodes.ExternNumber of name) = true
is_extern_number _ = false

abbrev pub is_loop : Kind → Bool
is_loop (nodes.For of counter start tested bound stepped step body) = true
is_loop _ = false

-- a variable, other than a number from outside, an element, or what a pointer points to; and a member, since only lvalues are of struct types
abbrev pub is_object : Known → ℕ → Kind → Bool
is_object k n (nodes.Variable name) = not (is_extern_number (declaration_of k n (nodes.Variable name)))
is_object k n (nodes.Member whole field) = true
is_object k n (nodes.Arrow pointer field) = true
is_object k n (nodes.Index array index) = true
is_object k n (nodes.Unary unary.Load operand) = true
is_object k n _ = false

abbrev pub is_object_at : Known → ℕ → Bool
is_object_at k n = is_object k n (kind_at k.tree n)

abbrev pub is_lvalue : Known → ℕ → Bool
is_lvalue k n = is_object_at k (without_parens k n)

-- whether a part is a loop's counter
abbrev pub is_counter_at : Known → ℕ → Bool
is_counter_at k n = is_loop (declaration_of k n (kind_at k.tree n))

abbrev pub is_counter : Known → ℕ → Bool
is_counter k n = is_counter_at k (without_parens k n)

-- what is assigned to, incremented or has its address taken is an lvalue, and no loop's counter
abbrev pub object_fault : Known → ℕ → Option TypeFault
object_fault k part = sooner (unless k part rules.Lvalue (is_lvalue k part)) (unless k part rules.Loop (not (is_counter k part)))

-- ---- assignment (C11 6.5.16.1)

abbrev pub same_bool : Bool → Bool → Bool
same_bool true b = b
same_bool false b = not b

abbrev pub is_same_target : Target → Target → Bool
is_same_target targets.Void targets.Void = true
is_same_target (targets.Int bits signed) (targets.Int width sign) = nat_eq bits width && same_bool signed sign
is_same_target (targets.Struct tag) (targets.Struct other) = nat_eq tag other
is_same_target _ _ = false

abbrev pub is_void : Target → Bool
is_void targets.Void = true
is_void _ = false

-- a pointer takes one to the same type or to `void`
abbrev pub takes_pointer : Target → Option Target → Bool
takes_pointer target None = false
takes_pointer target (Some source) = if is_void source then true else is_same_target target source

-- an integer takes any integer, and nothing but integers and pointers is assigned
abbrev pub is_assignable : CType → CType → Bool
is_assignable (types.Int bits signed) source = is_some (as_integer source)
is_assignable (types.Pointer target) source = takes_pointer target (pointed source)
is_assignable _ source = false

abbrev pub is_same_handle : HandleKind → HandleKind → Bool
is_same_handle handles.Map handles.Map = true
is_same_handle handles.Chain handles.Chain = true
is_same_handle handles.Vector handles.Vector = true
is_same_handle handles.Prefix handles.Prefix = true
is_same_handle _ _ = false

abbrev pub is_handle : HandleKind → CType → Bool
is_handle handle (types.Handle other) = is_same_handle handle other
is_handle handle _ = false

-- an argument is assigned to its parameter; `void *` takes any pointer, and an object of the library its name
abbrev pub is_passed : CType → CType → Bool
is_passed (types.Handle handle) source = is_handle handle source
is_passed (types.Pointer targets.Void) source = is_some (pointed source)
is_passed type source = is_assignable type source

-- an initializer or right side that is assigned to an object of a type
abbrev pub assigned : Known → ℕ → CType → ℕ → Option TypeFault
assigned k n type value = value_at k value >>= λ source. unless k n rules.Assignment (is_assignable type source)
