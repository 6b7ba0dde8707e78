use Rattle.std.proofs.Common.{◌∙◌, sym, ap}
use Rattle.vg_doubles.specs.Named.{lookup, bytes_at}
use Rattle.vg_doubles.proofs.PageRoles.{free_pages-some, starts}
use Rattle.vg_doubles.proofs.reading.start_reading.Goals as goal

pub returns-clause-fails : goal.returns-clause-fails
returns-clause-fails c =
    let free = rw c.as_slice.ensures.value at c.in_ok-i.ensures.free in
    let within = rw c.as_slice.ensures.value at c.in_ok-i.ensures.within in
    let first = c.in_ok-file.ensures.first in
    starts _ _ (bytes_at c.args.held.now c.in_ok-file.file) (free_pages-some c.args.pages.now.items c.in_ok-i.i within free)
    (ap (lookup c.args.held.now) (sym c.in_ok-file.ensures.name) ∙ first.found)
