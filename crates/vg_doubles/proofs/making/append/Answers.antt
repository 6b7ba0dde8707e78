use Rattle.std.proofs.Common.{◌∙◌, arith, length}
use Rattle.vg_doubles.specs.Pages.{made_at}
use Rattle.vg_doubles.proofs.PageBytes.{made_at-first, refuses}
use Rattle.vg_doubles.proofs.making.append.Goals as goal

pub returns-then-is_refused-clause-fails : goal.returns-then-is_refused-clause-fails
returns-then-is_refused-clause-fails c =
    let first = rw c.as_slice.ensures.value at c.made_page-i.ensures.first in
    let same = made_at-first c.args.pages.now.items c.args.id c.made_page-i.result first in
    let taken = rw (c.as_slice-2.ensures.value, ← same) at c.room_for-n.ensures.taken in
    c.if-is_refused.ensures ∙ refuses c.room_for-n.result (length c.args.piece.now) c.args.room (length (made_at c.args.pages.now.items c.args.id)) taken

pub grow_page-requires-clause-fits : goal.grow_page-requires-clause-fits
grow_page-requires-clause-fits c =
    let fits = rw c.as_slice-2.ensures.value at c.room_for-n.ensures.fits in
    omega (arith, fits, c.split_at.ensures.front_len)

pub returns-clause-fails : goal.returns-clause-fails
returns-clause-fails c =
    let first = rw c.as_slice.ensures.value at c.made_page-i.ensures.first in
    let same = made_at-first c.args.pages.now.items c.args.id c.made_page-i.result first in
    let taken = rw (c.as_slice-2.ensures.value, ← same) at c.room_for-n.ensures.taken in
    c.if-is_refused.ensures ∙ refuses c.room_for-n.result (length c.args.piece.now) c.args.room (length (made_at c.args.pages.now.items c.args.id)) taken

pub returns-clause-taken : goal.returns-clause-taken
returns-clause-taken c =
    let first = rw c.as_slice.ensures.value at c.made_page-i.ensures.first in
    rw (made_at-first c.args.pages.now.items c.args.id c.made_page-i.result first) (rw c.as_slice-2.ensures.value at c.room_for-n.ensures.taken)
