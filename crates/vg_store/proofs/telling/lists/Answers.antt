use Rattle.std.proofs.Common.{◌∙◌, ap, map, subst}
use Rattle.std.proofs.lemmas.Bool.{eq-eqb, eqb-true}
use Rattle.vg_store.specs.RealTables.{indexed}
use Rattle.vg_store.proofs.Counting.{Answers, Counted, listed_with, counted_start, counted_step, counted_end}
use Rattle.vg_store.proofs.telling.lists.Goals as goal

pub loop-key-init : goal.loop-key-init
loop-key-init c = counted_start c.args.count _ (indexed c.args.table.now)
    (ap (λ (es : Answers). listed_with es) (ap (λ es. map (λ entry. (entry.0.items, entry.1)) es) c.into_iter-key-iterator.ensures.into_iter_gives
    ∙ c.iter-key-items.ensures))

pub loop-key-preserved : goal.loop-key-preserved
loop-key-preserved c = counted_step c.args.count (indexed c.args.table.now) c.loop-key.left c.left_after-left.result c.in-Some._key.now.items
    c.in-Some.answer.now _
    (subst (λ es. Counted c.args.count (indexed c.args.table.now) c.loop-key.left (map (λ entry. (entry.0.items, entry.1)) es))
    c.in-Some.ensures.steps c.loop-key.invariant) c.left_after-left.ensures

pub returns : goal.returns
returns c =
    let end = counted_end c.args.count (indexed c.args.table.now) c.loop-key.left
    (subst (λ es. Counted c.args.count (indexed c.args.table.now) c.loop-key.left (map (λ entry. (entry.0.items, entry.1)) es))
    c.in-None.ensures.steps.0 c.loop-key.invariant) in
    (λ yes. end.0 (eqb-true c.loop-key.left 0 yes), λ less. eq-eqb c.loop-key.left 0 (end.1 less))
