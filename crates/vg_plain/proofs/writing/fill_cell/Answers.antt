use Rattle.vg_vector.proofs.Lent.{lent_whole}
use Rattle.vg_plain.proofs.writing.fill_cell.Goals as goal

pub returns : goal.returns
returns c = rw c.copy_from_slice.ensures.after (lent_whole c.args.cells.now c.args.i c.args.bytes.now c.requires.whole)
