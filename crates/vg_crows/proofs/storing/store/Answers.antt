use Rattle.std.proofs.Common.{◌≡◌, ◌∙◌, sym, ap, true}
use Rattle.vg_abs.specs.Library.{IsVector}
use Rattle.vg_crows.specs.Record.{is_lent_as}
use Rattle.vg_crows.proofs.Loans.{named_is_lent, named_vector}
use Rattle.vg_crows.proofs.Elsewhere.{is_cell, stored_elsewhere}
use Rattle.vg_crows.proofs.storing.store.Goals as goal

pub cell-requires-clause-vector : goal.cell-requires-clause-vector
cell-requires-clause-vector g c =
    let named : is_lent_as c.args.book.now c.in-Cell.vector c.in-Cell.index c.in-Cell.number ≡ true = sym c.is_lent_as.ensures ∙ cc in
    named_vector (IsVector (g.L.Lib.library c.args.lib.now)) c.args.book.now.cells c.in-Cell.vector c.in-Cell.index c.in-Cell.number
    c.requires.cells.vectors named

pub cell-requires-clause-lent : goal.cell-requires-clause-lent
cell-requires-clause-lent g c =
    let named : is_lent_as c.args.book.now c.in-Cell.vector c.in-Cell.index c.in-Cell.number ≡ true = sym c.is_lent_as.ensures ∙ cc in
    c.requires.lent c.in-Cell.vector c.in-Cell.index
    ∙ named_is_lent c.args.book.now.cells c.in-Cell.vector c.in-Cell.index c.in-Cell.number named

pub store_cell-requires-clause-vector : goal.store_cell-requires-clause-vector
store_cell-requires-clause-vector g c =
    let named : is_lent_as c.args.book.now c.in-Cell.vector c.in-Cell.index c.in-Cell.number ≡ true = sym c.is_lent_as.ensures ∙ cc in
    named_vector (IsVector (g.L.Lib.library c.args.lib.now)) c.args.book.now.cells c.in-Cell.vector c.in-Cell.index c.in-Cell.number
    c.requires.cells.vectors named

pub store_cell-requires-clause-lent : goal.store_cell-requires-clause-lent
store_cell-requires-clause-lent g c =
    let named : is_lent_as c.args.book.now c.in-Cell.vector c.in-Cell.index c.in-Cell.number ≡ true = sym c.is_lent_as.ensures ∙ cc in
    c.requires.lent c.in-Cell.vector c.in-Cell.index
    ∙ named_is_lent c.args.book.now.cells c.in-Cell.vector c.in-Cell.index c.in-Cell.number named

pub returns-in-Declared-clause-value : goal.returns-in-Declared-clause-value
returns-in-Declared-clause-value g c =
    stored_elsewhere (g.L.Lib.library c.args.lib.now) c.args.book.now (record { own = c.args.memory.now; frame = c.args.frame.now })
    (record { own = c.store.new.self; frame = c.store.new.frame }) c.store.result c.args.pointer c.args.room c.args.size c.args.align c.args.word
    (ap is_cell c.in-Declared.is) c.store.ensures.value
