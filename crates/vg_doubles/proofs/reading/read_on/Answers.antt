use Rattle.std.proofs.Common.{arith}
use Rattle.vg_doubles.proofs.PageRoles.{readable-first, readable-within}
use Rattle.vg_doubles.proofs.reading.read_on.Goals as goal

pub bytes_of-requires : goal.bytes_of-requires
bytes_of-requires c =
    let is = rw c.as_slice.ensures.value at c.place_of-place.ensures in
    (readable-first c.args.held.now c.args.pages.now.items c.args.id c.place_of-place.result (omega (arith, c.requires.within)) c.requires.readable is).within

pub copy_next-n-requires : goal.copy_next-n-requires
copy_next-n-requires c =
    let is = rw c.as_slice.ensures.value at c.place_of-place.ensures in
    rw c.bytes_of.ensures (readable-within c.args.held.now c.args.pages.now.items c.args.id c.place_of-place.result (omega (arith, c.requires.within))
    c.requires.readable is)

pub returns-clause-reads : goal.returns-clause-reads
returns-clause-reads c =
    let is = rw c.as_slice.ensures.value at c.place_of-place.ensures in
    record {
      place = c.place_of-place.result;
      was = is;
      first = readable-first c.args.held.now c.args.pages.now.items c.args.id c.place_of-place.result (omega (arith, c.requires.within)) c.requires.readable is;
      next = rw c.bytes_of.ensures at c.copy_next-n.ensures.next;
      now = c.set_role.ensures;
    }
