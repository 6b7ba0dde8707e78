use Rattle.std.proofs.Common.{◌∷◌, [], All, subst}
use Rattle.vg_simp.specs.declared.knowledge.Literal.{Literal}
use Rattle.vg_simp.specs.Knowing.{IsTold}
use Rattle.vg_simp.proofs.Knowing.{all_told_later, all_left, all_last}
use Rattle.vg_simp.proofs.knowledge.Knowledge.take.Goals as goal

pub open-requires-clause-told : goal.open-requires-clause-told
open-requires-clause-told c =
    let i = c.loop.invariant in
    let P : Literal → Type 0 = IsTold c.note.new.terms c.note.new.self.facts.items in
    all_last P c.pop.new.self.items c.in-Some.next
    (subst (All P) c.in-Some.ensures.items (all_told_later c.loop.terms c.note.new.terms c.loop.self.facts.items c.note.new.self.facts.items
    c.loop.todo.items i.0.made c.in_ok-note.ensures.grown.grows i.2.facts c.in_ok-note.ensures.facts i.3))

pub open-requires-clause-all : goal.open-requires-clause-all
open-requires-clause-all c =
    let i = c.loop.invariant in
    let P : Literal → Type 0 = IsTold c.note.new.terms c.note.new.self.facts.items in
    all_left P c.pop.new.self.items (c.in-Some.next ∷ [])
    (subst (All P) c.in-Some.ensures.items (all_told_later c.loop.terms c.note.new.terms c.loop.self.facts.items c.note.new.self.facts.items
    c.loop.todo.items i.0.made c.in_ok-note.ensures.grown.grows i.2.facts c.in_ok-note.ensures.facts i.3))
