-- A place and a rank tell a fault.
use Rattle.std.proofs.Common.{◌≡◌, ℕ, refl, sym, ap, ◌∙◌, if◌then◌else◌}
use Rattle.std.specs.Prelude.{nat_eq}
use Rattle.vg_ctyper.specs.declared.fault.Rule.{Rule}
use Rattle.vg_ctyper.specs.declared.fault.Rule.TheVariants as rules
use Rattle.vg_ctyper.specs.declared.fault.TypeFault.{TypeFault}
use Rattle.vg_ctyper.specs.declared.fault.TypeFault.TheVariants as type_faults
use Rattle.vg_ctyper.specs.Faults.{rank}

-- the rule of a number
abbrev rule_numbered : ℕ → Rule
rule_numbered n =
    if nat_eq n 1 then rules.Declared
    else (if nat_eq n 2 then rules.DeclaredOnce
    else (if nat_eq n 3 then rules.LastItem
    else (if nat_eq n 4 then rules.Fields
    else (if nat_eq n 5 then rules.Sizes
    else (if nat_eq n 6 then rules.Arithmetic
    else (if nat_eq n 7 then rules.Shift
    else (if nat_eq n 8 then rules.Comparison
    else (if nat_eq n 9 then rules.Conditional
    else (if nat_eq n 10 then rules.Lvalue
    else (if nat_eq n 11 then rules.Assignment
    else (if nat_eq n 12 then rules.Indirection
    else (if nat_eq n 13 then rules.Member
    else (if nat_eq n 14 then rules.Address
    else (if nat_eq n 15 then rules.Arguments
    else (if nat_eq n 16 then rules.Return
    else (if nat_eq n 17 then rules.Condition
    else (if nat_eq n 18 then rules.Loop
    else (if nat_eq n 19 then rules.Handle
    else (if nat_eq n 20 then rules.Cast
    else (if nat_eq n 21 then rules.Statement
    else rules.Borrow))))))))))))))))))))

-- the fault of a place and a rank
abbrev fault_ranked : ℕ × ℕ × ℕ → TypeFault
fault_ranked r =
    if nat_eq r.1 300 then type_faults.Padded r.0 r.2
    else (if nat_eq r.1 301 then type_faults.Recursive r.0
    else (if nat_eq r.1 302 then type_faults.Turns r.0
    else (if nat_eq r.1 303 then type_faults.Memory
    else type_faults.Typing r.0 (rule_numbered r.1))))

ranked_typing : (at : ℕ) (rule : Rule) → fault_ranked (rank (type_faults.Typing at rule)) ≡ type_faults.Typing at rule
ranked_typing at rules.Declared = refl
ranked_typing at rules.DeclaredOnce = refl
ranked_typing at rules.LastItem = refl
ranked_typing at rules.Fields = refl
ranked_typing at rules.Sizes = refl
ranked_typing at rules.Arithmetic = refl
ranked_typing at rules.Shift = refl
ranked_typing at rules.Comparison = refl
ranked_typing at rules.Conditional = refl
ranked_typing at rules.Lvalue = refl
ranked_typing at rules.Assignment = refl
ranked_typing at rules.Indirection = refl
ranked_typing at rules.Member = refl
ranked_typing at rules.Address = refl
ranked_typing at rules.Arguments = refl
ranked_typing at rules.Return = refl
ranked_typing at rules.Condition = refl
ranked_typing at rules.Loop = refl
ranked_typing at rules.Handle = refl
ranked_typing at rules.Cast = refl
ranked_typing at rules.Statement = refl
ranked_typing at rules.Borrow = refl

ranked : (f : TypeFault) → fault_ranked (rank f) ≡ f
ranked (type_faults.Typing at rule) = ranked_typing at rule
ranked (type_faults.Padded tag offset) = refl
ranked (type_faults.Recursive at) = refl
ranked (type_faults.Turns at) = refl
ranked type_faults.Memory = refl

pub rank_tells : (e f : TypeFault) → rank e ≡ rank f → e ≡ f
rank_tells e f same = sym (ranked e) ∙ ap fault_ranked same ∙ ranked f
