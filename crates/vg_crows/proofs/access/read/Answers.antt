use Rattle.std.proofs.Common.{◌≡◌, ◌∙◌, sym, true}
use Rattle.vg_abs.specs.Library.{IsVector}
use Rattle.vg_crows.specs.Record.{is_lent_as}
use Rattle.vg_crows.proofs.Loans.{named_is_lent, named_vector}
use Rattle.vg_crows.proofs.access.read.Goals as goal

pub cell-requires-clause-vector : goal.cell-requires-clause-vector
cell-requires-clause-vector g c =
    let named : is_lent_as c.args.book.now c.in-Cell.vector c.in-Cell.index c.in-Cell.number ≡ true = sym c.is_lent_as.ensures ∙ cc in
    named_vector (IsVector (g.L.Lib.library c.args.lib.now)) c.args.book.now.cells c.in-Cell.vector c.in-Cell.index c.in-Cell.number
    c.requires.cells.vectors named

pub cell-requires-clause-lent : goal.cell-requires-clause-lent
cell-requires-clause-lent g c =
    let named : is_lent_as c.args.book.now c.in-Cell.vector c.in-Cell.index c.in-Cell.number ≡ true = sym c.is_lent_as.ensures ∙ cc in
    c.requires.lent c.in-Cell.vector c.in-Cell.index
    ∙ named_is_lent c.args.book.now.cells c.in-Cell.vector c.in-Cell.index c.in-Cell.number named
