use Rattle.std.proofs.Common.{refl, sym, subst, ◌<◌, length}
use Rattle.std.specs.Prelude.{MatchOption, Option, ℕ}
use Rattle.vg_sat.specs.Choices.{AreAssigned}
use Rattle.vg_sat.specs.Walks.{Walked}
use Rattle.vg_sat.specs.Learned.{IsLearnable}
use Rattle.vg_sat.proofs.Deciding.{walk_starts, walk_model}
use Rattle.vg_sat.proofs.walking.decide_all.Goals as goal

pub decide_each-requires : goal.decide_each-requires
decide_each-requires c =
    let s = c.args.search.now in
    subst (Walked s) (sym c.new-clause.ensures.items) (walk_starts s c.requires c.facts.ensures.sound (c.facts.ensures.settled c.requires.1))

pub returns-in_default-clause-led : goal.returns-in_default-clause-led
returns-in_default-clause-led c =
    let start = c.args.search.now in
    let new = c.decide_each.new.search in
    let items = c.decide_each.new.clause.items in
    let both : Walked new items × AreAssigned new =
    subst (λ (o : Option ℕ). MatchOption o (Walked new items × AreAssigned new) (λ at. IsLearnable start.variables start.clauses items
    × (0 < length new.starts))) c.in_default.is
    c.in_ok-conflict.ensures.led in
    let same = c.in_ok-conflict.ensures.same refl in
    walk_model start new items c.in_ok-values.values same.0 same.1 c.facts.ensures.over both.1 c.in_ok-values.ensures both.0
