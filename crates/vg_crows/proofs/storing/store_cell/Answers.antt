use Rattle.std.proofs.Common.{◌∙◌, take}
use Rattle.vg_cmemory.specs.Access.{bytes_of_word}
use Rattle.vg_crows.proofs.Bytes.{taken, over_same}
use Rattle.vg_crows.proofs.storing.store_cell.Goals as goal

pub returns-clause-state : goal.returns-clause-state
returns-clause-state g c =
    let told = c.cell-cell.ensures c.requires.told in
    (c.store.ensures.told c.requires.told c.cell-cell.result.now told).state_is
    ∙ over_same (g.L.Lib.library c.args.lib.now).state c.args.vector c.args.index c.args.at _ c.cell-cell.result.now
    (take c.args.size c.put_in_frame.new.frame) (bytes_of_word c.args.size c.args.word) told
    (taken c.args.size c.args.word c.put_in_frame.new.frame c.requires.at_most_a_word c.put_in_frame.ensures.value)

pub returns-clause-lent : goal.returns-clause-lent
returns-clause-lent g c =
    (c.store.ensures.told c.requires.told c.cell-cell.result.now (c.cell-cell.ensures c.requires.told)).same_lent

pub returns-clause-choices : goal.returns-clause-choices
returns-clause-choices g c =
    (c.store.ensures.told c.requires.told c.cell-cell.result.now (c.cell-cell.ensures c.requires.told)).same_choices

pub returns-clause-missed : goal.returns-clause-missed
returns-clause-missed g c =
    (c.store.ensures.told c.requires.told c.cell-cell.result.now (c.cell-cell.ensures c.requires.told)).same_missed ∙ c.requires.told
