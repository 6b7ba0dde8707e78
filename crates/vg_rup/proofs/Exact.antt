-- The answers exclude one another: a good refutation is accepted, but for want of memory.
use Rattle.std.proofs.Common.{◌≡◌, List, refl, sym, ap, ◌∙◌}
use Rattle.std.specs.Prelude.{ℤ, is_some}
use Rattle.std.proofs.lemmas.Bool.{true≢false}
use Rattle.vg_cnf.specs.Refutations.{IsRefutation, ends_empty}
use Rattle.vg_cnf.proofs.Steps.{clash}
use Rattle.vg_rup.specs.Fault.{IsFault}
use Rattle.vg_rup.specs.declared.checker.RupFault.{RupFault}
use Rattle.vg_rup.specs.declared.checker.RupFault.TheVariants.{NotUnit, NoEmpty, Memory}

-- of a good refutation the only fault is memory
pub IsRefutation-IsFault : (clauses steps : List (List ℤ)) (fault : RupFault) → IsRefutation clauses steps → IsFault clauses steps fault → fault ≡ Memory
IsRefutation-IsFault clauses steps (NotUnit step) good says =
    absurd (true≢false (sym (ap is_some says) ∙ good.each_follows))
IsRefutation-IsFault clauses steps NoEmpty good says = clash (ends_empty steps) good.ends says.1
IsRefutation-IsFault clauses steps Memory good says = refl
