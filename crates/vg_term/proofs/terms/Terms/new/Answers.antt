use Rattle.vg_term.proofs.Made.{nothing_kept}
use Rattle.vg_term.proofs.terms.Terms.new.Goals as goal

pub invariant_of-result : goal.invariant_of-result
invariant_of-result c = nothing_kept c.new.result.entries c.new.ensures.len
