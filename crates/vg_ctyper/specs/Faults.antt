-- In what order faults come: by place, at one place by the numbers of rules, and behind all rules the others.
use Rattle.std.specs.Prelude.{ℕ, Bool, nat_eq, nat_lt, Option, Some, None, if◌then◌else◌}
use Rattle.vg_ctyper.specs.declared.fault.Rule.{Rule}
use Rattle.vg_ctyper.specs.declared.fault.Rule.TheVariants as rules
use Rattle.vg_ctyper.specs.declared.fault.TypeFault.{TypeFault}
use Rattle.vg_ctyper.specs.declared.fault.TypeFault.TheVariants as type_faults

-- the number of a rule
abbrev pub number : Rule → ℕ
number rules.Declared = 1
number rules.DeclaredOnce = 2
number rules.LastItem = 3
number rules.Fields = 4
number rules.Sizes = 5
number rules.Arithmetic = 6
number rules.Shift = 7
number rules.Comparison = 8
number rules.Conditional = 9
number rules.Lvalue = 10
number rules.Assignment = 11
number rules.Indirection = 12
number rules.Member = 13
number rules.Address = 14
number rules.Arguments = 15
number rules.Return = 16
number rules.Condition = 17
number rules.Loop = 18
number rules.Handle = 19
number rules.Cast = 20
number rules.Statement = 21
number rules.Borrow = 22

-- place, rank at that place, and of several gaps in one struct the offset
abbrev pub rank : TypeFault → ℕ × ℕ × ℕ
rank (type_faults.Typing at rule) = (at, number rule, 0)
rank (type_faults.Padded tag offset) = (tag, 300, offset)
rank (type_faults.Recursive at) = (at, 301, 0)
rank (type_faults.Turns at) = (at, 302, 0)
rank type_faults.Memory = (4294967295, 303, 0)

abbrev pub is_less : ℕ × ℕ × ℕ → ℕ × ℕ × ℕ → Bool
is_less a b =
    if nat_eq a.0 b.0
    then (if nat_eq a.1 b.1 then nat_lt a.2 b.2 else nat_lt a.1 b.1)
    else nat_lt a.0 b.0

abbrev pub is_before : TypeFault → TypeFault → Bool
is_before a b = is_less (rank a) (rank b)

-- of two faults the one that comes first
abbrev pub sooner : Option TypeFault → Option TypeFault → Option TypeFault
sooner None b = b
sooner (Some a) None = Some a
sooner (Some a) (Some b) = if is_before b a then Some b else Some a
