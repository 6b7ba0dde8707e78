use Rattle.std.proofs.Common.{◌≡◌, ◌∙◌, ◌+◌, ◌∷◌, [], false, List, Ok, subst, length, ap, arith, length-append}
use Rattle.std.proofs.lemmas.List.{get_or_default}
use Rattle.vg_term.specs.declared.node.TermId.{TermId}
use Rattle.vg_term.specs.Terms.{Stands}
use Rattle.vg_simp.specs.Passing.{KeepsConstant}
use Rattle.vg_term.proofs.Wires.{grown_on}
use Rattle.vg_simp.proofs.Sames.{pushed_same, goal_same}
use Rattle.vg_simp.proofs.Knowing.{known_later}
use Rattle.vg_simp.proofs.Constants.{pushed_constant, goal_constant}
use Rattle.vg_simp.proofs.knowledge.Knowledge.simplified.Goals as goal

pub loop-at-preserved : goal.loop-at-preserved
loop-at-preserved c =
    let i = c.loop-at.invariant in
    let id : TermId = record { 0 = c.loop-at.at } in
    let marked = c.in_ok-marks.ensures in
    let stands : Stands c.args.terms.now id = omega (arith, c.loop-at-test.true, c.len-at-end.ensures, marked.long, c.requires.stands) in
    let long : length c.push.new.list.items ≡ c.loop-at.at + 1 = ap length c.in_ok-push.ensures
    ∙ length-append c.loop-at.others.items (c.in_ok-other.other ∷ []) ∙ omega (arith, i.3) in (
      grown_on c.args.terms.now c.loop-at.terms c.simpler.new.terms i.0 c.in_ok-other.ensures.simplifies.grown,
      pushed_same c.args.terms.now c.loop-at.terms c.simpler.new.terms c.args.self.now.facts.items c.loop-at.others.items c.push.new.list.items id
          c.in_ok-other.other i.0 i.1 c.in_ok-other.ensures.simplifies.grown c.requires.known.facts i.3 stands c.in_ok-other.ensures.simplifies.same
          c.in_ok-push.ensures,
      pushed_constant c.args.terms.now c.loop-at.terms c.simpler.new.terms c.in_ok-marks.marks.items c.args.goal c.loop-at.others.items
          c.push.new.list.items id c.in_ok-other.other c.requires.made marked i.0 i.2 c.in_ok-other.ensures.simplifies.grown i.3 stands
          (λ is. subst (λ (os : List TermId). KeepsConstant c.loop-at.terms c.simpler.new.terms os id (Ok c.in_ok-other.other)) c.deref.ensures.value
          (c.in_ok-other.ensures.constant (c.index.ensures ∙ get_or_default c.in_ok-marks.marks.items c.loop-at.at c.index.result.now false
          (omega (arith, c.loop-at-test.true, c.len-at-end.ensures)) ∙ is))) c.in_ok-push.ensures,
      long,
    )

pub returns-clause-simplifies : goal.returns-clause-simplifies
returns-clause-simplifies c =
    let i = c.loop-at.invariant in
    let marked = c.in_ok-marks.ensures in
    goal_same c.args.terms.now c.loop-at.terms c.args.self.now.facts.items c.loop-at.others.items c.args.goal c.index-2.result.now
    c.index-2.result.now i.0 i.1 (omega (arith, i.3, c.loop-at-test.false, c.loop-at.auto, c.len-at-end.ensures, marked.long)) c.index-2.ensures

pub returns-clause-closed : goal.returns-clause-closed
returns-clause-closed c =
    let i = c.loop-at.invariant in
    let marked = c.in_ok-marks.ensures in
    goal_constant c.args.terms.now c.loop-at.terms c.in_ok-marks.marks.items c.loop-at.others.items c.args.goal c.index-2.result.now
    c.index-2.result.now marked i.2 (omega (arith, i.3, c.loop-at-test.false, c.loop-at.auto, c.len-at-end.ensures, marked.long))
    c.index-2.ensures

pub simpler-requires-clause-known : goal.simpler-requires-clause-known
simpler-requires-clause-known c = known_later c.args.terms.now c.loop-at.terms c.args.self.now c.requires.made c.loop-at.invariant.0.grows c.requires.known
