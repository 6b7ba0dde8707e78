use Rattle.vg_term.specs.Wiring.{SameWire, wire_depth}
use Rattle.vg_term.proofs.terms.Terms.followed.Given as goal

abbrev pub invariant-loop-next : goal.invariant-loop-next
invariant-loop-next l = SameWire l.self l.initial.end l.end

abbrev pub decreases-loop-next : goal.decreases-loop-next
decreases-loop-next l = wire_depth l.end
