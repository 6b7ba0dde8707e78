use Rattle.std.proofs.Common.{◌≡◌, All}
use Rattle.vg_term.specs.Wiring.{Grown}
use Rattle.vg_simp.specs.Knowing.{IsKnown, IsTold}
use Rattle.vg_simp.proofs.knowledge.Knowledge.take.Given as goal

abbrev pub invariant-loop : goal.invariant-loop
invariant-loop l = Grown l.fn.terms l.terms × (l.self.facts.items ≡ l.fn.self.facts.items) × IsKnown l.terms l.self
    × All (IsTold l.terms l.self.facts.items) l.todo.items
