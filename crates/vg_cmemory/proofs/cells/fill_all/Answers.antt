use Rattle.std.proofs.Common.{◌≡◌, ◌∙◌, sym, true}
use Rattle.vg_cmemory.specs.Access.{all_set}
use Rattle.vg_cmemory.proofs.Parts.{filled}
use Rattle.vg_cmemory.proofs.cells.fill_all.Goals as goal

pub returns-then-fill-clause-value : goal.returns-then-fill-clause-value
returns-then-fill-clause-value c =
    let set : all_set c.args.bytes.now ≡ true = sym c.fill.ensures.all ∙ c.if-fill.true in
    filled c.args.bytes.now c.args.into.now c.fill.new.into c.requires.as_many set (c.fill.ensures.value c.if-fill.true)
