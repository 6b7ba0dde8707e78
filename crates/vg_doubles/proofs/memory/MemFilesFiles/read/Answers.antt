use Rattle.std.proofs.Common.{refl, arith}
use Rattle.vg_doubles.proofs.PageCalls.{reader-reading, reader-within, reads-bytes, reads-place, reads-open, reads-others, reads-open_pages}
use Rattle.vg_doubles.proofs.PageCalls.{reads-free_pages, reads-made, reads-memory, reads-readable, reads-count}
use Rattle.vg_doubles.proofs.memory.MemFilesFiles.read.Goals as goal

pub read_on-requires-clause-within : goal.read_on-requires-clause-within
read_on-requires-clause-within c = omega (
  arith,
  reader-within c.args.self.now.held.items c.args.self.now.pages.items c.args.id c.requires,
  c.args.self.now.pages.ok.0,
)

pub read_on-requires-clause-reads : goal.read_on-requires-clause-reads
read_on-requires-clause-reads c = reader-reading c.args.self.now.held.items c.args.self.now.pages.items c.args.id c.requires

pub invariant_of-self : goal.invariant_of-self
invariant_of-self c =
    let read = rw c.as_slice.ensures.value at c.read_on.ensures.reads in
    record {
      few = omega (arith, reads-count read, c.args.self.now.few, c.args.self.now.pages.ok.0, c.read_on.new.pages.ok.0);
      memory = reads-memory read c.args.self.now.room c.args.self.now.memory;
      readable = reads-readable read c.args.self.now.readable;
    }

pub returns-then-not-next_fails-clause-reads : goal.returns-then-not-next_fails-clause-reads
returns-then-not-next_fails-clause-reads c =
    let read = rw c.as_slice.ensures.value at c.read_on.ensures.reads in
    record {
      faults = record { failed = tt; same = refl; rises = omega arith };
      write_faults = refl;
      shut_faults = refl;
      held = record { tells_held = refl; held = refl; tells_made = refl };
      made = reads-made read;
      within = omega (arith, c.read_on.ensures.within);
      bytes = λ told. reads-bytes read;
      place = λ told. reads-place read;
      reads = reads-open read;
      others = reads-others read;
      open_count = reads-open_pages read;
      err = tt;
    }

pub returns-then-not-next_fails-clause-left : goal.returns-then-not-next_fails-clause-left
returns-then-not-next_fails-clause-left c =
    let read = rw c.as_slice.ensures.value at c.read_on.ensures.reads in
    reads-free_pages read

pub returns-clause-reads : goal.returns-clause-reads
returns-clause-reads c = record {
  faults = record { failed = omega (arith, c.saturating_add-self.ensures); same = tt; rises = omega (arith, c.saturating_add-self.ensures) };
  write_faults = refl;
  shut_faults = refl;
  held = record { tells_held = refl; held = refl; tells_made = refl };
  made = refl;
  within = tt;
  bytes = tt;
  place = tt;
  reads = c.requires;
  others = λ j ne. refl;
  open_count = refl;
  err = refl;
}
