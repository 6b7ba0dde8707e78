use Rattle.std.proofs.Common.{sym, ap, ◌∙◌, Some}
use Rattle.vg_doubles.proofs.PageBytes.{made-first}
use Rattle.vg_doubles.proofs.memory.MemFiles.written.Goals as goal

pub returns : goal.returns
returns c =
    let first = rw c.as_slice.ensures.value at c.in_ok-i.ensures.first in
    ap Some c.as_slice-2.ensures.value ∙ sym (made-first c.args.name.now c.args.self.now.pages.items c.in_ok-i.i c.index.result.now first c.index.ensures)
