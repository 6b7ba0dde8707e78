use Rattle.std.proofs.Common.{◌≡◌, ◌∙◌, ℕ, ◌+◌, suc, None, sym, subst, arith, rules}
use Rattle.vg_store.proofs.Expiring.{Expiring, cell_inside, present, expiring_next, no_more}
use Rattle.vg_store.proofs.expiry.expire_oldest.Goals as goal

pub returns-in_default-clause-late : goal.returns-in_default-clause-late
returns-in_default-clause-late c =
    let none : c.expire_one.result ≡ None = search rules in
    no_more c.args.before c.args.keys.now c.args.ages.now c.args.cells.now c.loop-freed.keys c.loop-freed.ages c.loop-freed.freed
    c.loop-freed.invariant (sym c.expire_one.ensures.oldest ∙ none)

pub cell-requires : goal.cell-requires
cell-requires c = cell_inside c.args.before c.args.keys.now c.args.ages.now c.args.cells.now c.loop-freed.keys c.loop-freed.ages c.loop-freed.freed
    c.in-Some.index c.loop-freed.invariant (sym c.expire_one.ensures.oldest ∙ c.in-Some.is)

pub erase-requires-clause-present : goal.erase-requires-clause-present
erase-requires-clause-present c =
    present c.args.before c.args.keys.now c.args.ages.now c.args.cells.now c.loop-freed.keys c.loop-freed.ages c.loop-freed.freed c.in-Some.index
    c.loop-freed.invariant (sym c.expire_one.ensures.oldest ∙ c.in-Some.is) c.cell.result.now c.cell.ensures.value

pub loop-freed-preserved : goal.loop-freed-preserved
loop-freed-preserved c =
    let one_more : suc c.loop-freed.freed ≡ c.loop-freed.freed + 1 = omega arith in
    subst (λ (n : ℕ). Expiring c.args.before c.args.keys.now c.args.ages.now c.args.cells.now c.erase.new.self c.expire_one.new.self n) one_more
    (expiring_next c.args.before c.args.keys.now c.args.ages.now c.args.cells.now c.loop-freed.keys c.loop-freed.ages c.loop-freed.freed
    c.in-Some.index c.loop-freed.invariant (sym c.expire_one.ensures.oldest ∙ c.in-Some.is)
    c.expire_one.new.self c.erase.new.self c.cell.result.now c.in-Some.ensures.freed c.expire_one.ensures.lawful c.cell.ensures.value c.erase.ensures)
