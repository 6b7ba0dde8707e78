-- The first rule that a node breaks, by the notes on the nodes before it.
use Rattle.std.specs.Prelude.{ℕ, Option, None}
use Rattle.vg_core.specs.Syntax.{listed}
use Rattle.vg_core.specs.declared.tree.Kind.{Kind}
use Rattle.vg_core.specs.declared.tree.Kind.TheVariants as nodes
use Rattle.vg_ctyper.specs.declared.demands.Demand.TheVariants as demands
use Rattle.vg_ctyper.specs.declared.fault.Rule.TheVariants as rules
use Rattle.vg_ctyper.specs.declared.fault.TypeFault.{TypeFault}
use Rattle.vg_ctyper.specs.Faults.{sooner}
use Rattle.vg_cscope.specs.Scopes.{kind_at}
use Rattle.vg_ctyper.specs.Names.{Known}
use Rattle.vg_ctyper.specs.Demands.{wants}
use Rattle.vg_ctyper.specs.ExpressionRules.{expression_fault}
use Rattle.vg_ctyper.specs.StatementRules.{target_fault, assign_fault, evaluate_fault, return_fault, names_fault, counter_fault, constants_fault}
use Rattle.vg_ctyper.specs.DeclarationRules.{name_fault, declare_fault, param_fault, field_fault, struct_fault, unit_fault}

-- a loop's counter is a name of its own, in all three places, and steps from one constant up to another
abbrev pub for_fault : Known → ℕ → Kind → Option TypeFault
for_fault k n (nodes.For of counter start tested bound stepped step body) =
    sooner (name_fault k n (nodes.For of counter start tested bound stepped step body) counter)
    (sooner (names_fault k n counter tested stepped) (sooner (counter_fault k n of start bound step) (constants_fault k start bound step)))
for_fault k n _ = None

-- ---- each kind of node has the rules of one of these

-- the rules of declarations of a file, and of what stands in them
abbrev pub item_fault : Known → ℕ → Kind → Option TypeFault
item_fault k n (nodes.Unit items) = unit_fault k (listed k.tree.items items)
item_fault k n (nodes.Struct tag fields attribute) = struct_fault k n tag (listed k.tree.items fields) attribute
item_fault k n (nodes.Field base name count) = field_fault k n (nodes.Field base name count) base name count
item_fault k n (nodes.ExternHandle handle name) = name_fault k n (nodes.ExternHandle handle name) name
item_fault k n (nodes.ExternNumber of name) = name_fault k n (nodes.ExternNumber of name) name
item_fault k n (nodes.Function is_static is_inline answer name params body) =
    name_fault k n (nodes.Function is_static is_inline answer name params body) name
item_fault k n (nodes.Param base pointer name) = param_fault k n (nodes.Param base pointer name) base name
item_fault k n _ = None

-- the rules of declarations and statements in blocks; `locals` is the size of the variables of blocks before
abbrev pub statement_fault : Known → (locals n : ℕ) → Kind → Option TypeFault
statement_fault k locals n (nodes.Declare base pointer name count value) = declare_fault k locals n (nodes.Declare base pointer name count value)
statement_fault k locals n (nodes.Evaluate value) = evaluate_fault k n value
statement_fault k locals n (nodes.Assign op target value) = assign_fault k n op target value
statement_fault k locals n (nodes.Increment target) = target_fault k target demands.Integer rules.Arithmetic
statement_fault k locals n (nodes.Decrement target) = target_fault k target demands.Integer rules.Arithmetic
statement_fault k locals n (nodes.If condition first otherwise) = wants k condition demands.Integer rules.Condition
statement_fault k locals n (nodes.For of counter start tested bound stepped step body) =
    for_fault k n (nodes.For of counter start tested bound stepped step body)
statement_fault k locals n (nodes.Return value) = return_fault k n value
statement_fault k locals n _ = None

abbrev pub broken_by : Known → (locals n : ℕ) → Kind → Option TypeFault
broken_by k locals n kind = sooner (item_fault k n kind) (sooner (statement_fault k locals n kind) (expression_fault k n kind))

abbrev pub broken : Known → (locals n : ℕ) → Option TypeFault
broken k locals n = broken_by k locals n (kind_at k.tree n)
