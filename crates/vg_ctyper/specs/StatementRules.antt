-- The rules that statements meet (C11 6.8, in the profile).
use Rattle.std.specs.Prelude.{ℕ, ◌+◌, ◌-◌, ◌/◌, ◌^◌, nat_eq, nat_le, nat_lt, Bool, true, false, ◌&&◌, ◌||◌, is_some, Option, Some, None, if◌then◌else◌}
use Rattle.vg_core.specs.declared.tree.BinaryOp.{BinaryOp}
use Rattle.vg_core.specs.declared.tree.IntType.{IntType}
use Rattle.vg_core.specs.declared.tree.IntType.TheVariants as int_types
use Rattle.vg_core.specs.declared.tree.Kind.{Kind}
use Rattle.vg_core.specs.declared.tree.Kind.TheVariants as nodes
use Rattle.vg_core.specs.declared.tree.Name.{Name}
use Rattle.vg_core.specs.declared.types.CType.{CType}
use Rattle.vg_core.specs.declared.types.Integer.{Integer}
use Rattle.vg_cint.specs.Types.{integer_of, common}
use Rattle.vg_cint.specs.Values.{converted}
use Rattle.vg_cint.specs.Operators.{less}
use Rattle.vg_ctyper.specs.declared.demands.Demand.{Demand}
use Rattle.vg_ctyper.specs.declared.demands.Demand.TheVariants as demands
use Rattle.vg_ctyper.specs.declared.fault.Rule.{Rule}
use Rattle.vg_ctyper.specs.declared.fault.Rule.TheVariants as rules
use Rattle.vg_ctyper.specs.declared.fault.TypeFault.{TypeFault}
use Rattle.vg_ctyper.specs.declared.fault.TypeFault.TheVariants as type_faults
use Rattle.vg_cscope.specs.declared.names.Wanted.TheVariants as wanted
use Rattle.vg_ctyper.specs.Faults.{sooner}
use Rattle.vg_cscope.specs.Scopes.{kind_at}
use Rattle.vg_ctyper.specs.Names.{Known, is_same, found}
use Rattle.vg_ctyper.specs.Types.{◌>>=◌, type_at, integer_at, number_at, unsigned_64}
use Rattle.vg_ctyper.specs.Demands.{place, fault_at, unless, used, value_at, wants, object_fault, assigned, used_as, meets}
use Rattle.vg_ctyper.specs.ExpressionRules.{operand_rule}

-- ---- assignments (C11 6.5.16, 6.5.2.4)

-- what is assigned to or incremented
abbrev pub target_of_type : Known → ℕ → Demand → Rule → CType → Option TypeFault
target_of_type k target demand rule type = used_as k target type (sooner (object_fault k target) (unless k target rule (meets demand type)))

abbrev pub target_fault : Known → ℕ → Demand → Rule → Option TypeFault
target_fault k target demand rule = type_at k target >>= target_of_type k target demand rule

abbrev pub stored_fault : Known → ℕ → (target value : ℕ) → Option TypeFault
stored_fault k n target value = value_at k target >>= λ type. assigned k n type value

-- `=` assigns an integer to an integer, and a pointer to a pointer
abbrev pub plain_fault : Known → ℕ → (target value : ℕ) → Option TypeFault
plain_fault k n target value =
    sooner (target_fault k target demands.Value rules.Lvalue)
    (sooner (wants k value demands.Value rules.Assignment) (stored_fault k n target value))

-- `op=` has the operands of the operator
abbrev pub compound_fault : Known → BinaryOp → (target value : ℕ) → Option TypeFault
compound_fault k op target value = sooner (target_fault k target demands.Integer (operand_rule op)) (wants k value demands.Integer (operand_rule op))

abbrev pub assign_fault : Known → ℕ → Option BinaryOp → (target value : ℕ) → Option TypeFault
assign_fault k n None target value = plain_fault k n target value
assign_fault k n (Some op) target value = compound_fault k op target value

-- ---- calls

abbrev pub is_call : Kind → Bool
is_call (nodes.Call name arguments) = true
is_call _ = false

-- a statement without an assignment is a call; one with a fault in it breaks no rule besides
abbrev pub evaluate_fault : Known → ℕ → ℕ → Option TypeFault
evaluate_fault k n value = if is_call (kind_at k.tree value) then None else used k value (fault_at k n rules.Statement)

-- ---- answers (C11 6.8.6.4)

abbrev pub has_answer : Kind → Bool
has_answer (nodes.Function is_static is_inline (Some of) name params body) = true
has_answer _ = false

abbrev pub answers : Known → ℕ → Bool
answers k n = elim (found k wanted.Function n) as (λ _. Bool) [ None ↦ false | Some d ↦ has_answer (kind_at k.tree d) ]

-- `return` has a value, an integer, exactly in a function that answers one
abbrev pub answer_fault : Known → ℕ → Bool → Option ℕ → Option TypeFault
answer_fault k n true None = fault_at k n rules.Return
answer_fault k n true (Some value) = wants k value demands.Integer rules.Return
answer_fault k n false None = None
answer_fault k n false (Some value) = fault_at k n rules.Return

abbrev pub return_fault : Known → ℕ → Option ℕ → Option TypeFault
return_fault k n value = answer_fault k n (answers k n) value

-- ---- loops (C11 6.8.5.3, and narrower)

-- the greatest value of an integer type
abbrev pub greatest : Integer → ℕ
greatest t = if t.signed then 2 ^ (t.bits - 1) - 1 else 2 ^ t.bits - 1

-- a constant expression that is a whole number
abbrev pub constant_fault : Known → ℕ → Option TypeFault
constant_fault k n = used k n (unless k n rules.Loop (is_some (number_at k n)))

abbrev pub is_positive : Option ℕ → Bool
is_positive None = false
is_positive (Some n) = nat_lt 0 n

abbrev pub step_fault : Known → Option ℕ → Option TypeFault
step_fault k None = None
step_fault k (Some step) = used k step (unless k step rules.Loop (is_positive (number_at k step)))

-- without a step the counter is incremented
abbrev pub step_number : Known → Option ℕ → Option ℕ
step_number k None = Some 1
step_number k (Some step) = number_at k step

-- a loop's three names are one
abbrev pub names_fault : Known → ℕ → (counter tested stepped : Name) → Option TypeFault
names_fault k n counter tested stepped = unless k n rules.Loop (is_same k counter tested && is_same k counter stepped)

-- the counter's type holds the bound and a step more, so that the counter never wraps
abbrev pub fits : IntType → ℕ → ℕ → Bool
fits of bound step = nat_le (bound + step) (greatest (integer_of of))

abbrev pub range_fault : Known → ℕ → IntType → (bound : ℕ) → Option ℕ → Option TypeFault
range_fault k n of bound step = number_at k bound >>= λ b. step_number k step >>= λ c. unless k n rules.Loop (fits of b c)

-- how many words a counter's type has. A counter of 64 bits isn't asked for: its start is below 2 ^ 32, and so isn't negative
abbrev pub words : IntType → ℕ
words int_types.Int8 = 2 ^ 8
words int_types.Uint8 = 2 ^ 8
words int_types.Int16 = 2 ^ 16
words int_types.Uint16 = 2 ^ 16
words _ = 2 ^ 32

-- how far it is from a counter's first word to the bound. The word of a negative counter is `words` too large; and compared as an unsigned number,
-- a negative counter isn't below the bound (C11 6.3.1.8)
abbrev pub distance : IntType → (compared : Integer) → (first bound : ℕ) → ℕ
distance of u first bound =
    if less (integer_of of) first 0 then (if (common (integer_of of) u).signed then bound + (words of - first) else 0) else bound - first

-- how often a counter is below the bound that starts so far from it
abbrev pub steps_to : (distance step : ℕ) → ℕ
steps_to distance step = if nat_eq step 0 || nat_eq distance 0 then 0 else (distance - 1) / step + 1

-- how many turns a loop has; its start is converted to the counter's type
abbrev pub turns_of : IntType → Integer → (start bound step : ℕ) → ℕ
turns_of of u start bound step = steps_to (distance of u (converted (integer_of of) unsigned_64 start) bound) step

abbrev pub turns : Known → IntType → (start bound : ℕ) → Option ℕ → Option ℕ
turns k of start bound step =
    number_at k start >>= λ a. number_at k bound >>= λ b. integer_at k bound >>= λ u. step_number k step >>= λ c. Some (turns_of of u a b c)

abbrev pub turns_fault : Known → ℕ → Option ℕ → Option TypeFault
turns_fault k n None = None
turns_fault k n (Some count) = if nat_le count 4096 then None else Some (type_faults.Turns (place k n))

-- a loop steps up to its bound within its counter's type, and has at most 4,096 turns
abbrev pub counter_fault : Known → ℕ → IntType → (start bound : ℕ) → Option ℕ → Option TypeFault
counter_fault k n of start bound step = sooner (range_fault k n of bound step) (turns_fault k n (turns k of start bound step))

abbrev pub constants_fault : Known → (start bound : ℕ) → Option ℕ → Option TypeFault
constants_fault k start bound step = sooner (constant_fault k start) (sooner (constant_fault k bound) (step_fault k step))
