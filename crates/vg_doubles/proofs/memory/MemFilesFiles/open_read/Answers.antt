use Rattle.std.proofs.Common.{refl, arith}
use Rattle.vg_doubles.proofs.PageCalls.{starts-takes, starts-made, starts-exists, starts-bytes, starts-memory, starts-readable, starts-count}
use Rattle.vg_doubles.proofs.memory.MemFilesFiles.open_read.Goals as goal

pub invariant_of-self : goal.invariant_of-self
invariant_of-self c =
    let starts = rw c.as_slice.ensures.value at c.in-Some.ensures.some in
    record {
      few = omega (arith, starts-count starts, c.args.self.now.few, c.args.self.now.pages.ok.0, c.start_reading.new.pages.ok.0);
      memory = starts-memory starts c.args.self.now.room c.args.self.now.memory;
      readable = starts-readable starts c.args.self.now.readable;
    }

pub returns-in-Some-clause-opens : goal.returns-in-Some-clause-opens
returns-in-Some-clause-opens c =
    let starts = rw c.as_slice.ensures.value at c.in-Some.ensures.some in
    let takes = starts-takes starts in
    record {
      faults = record { failed = tt; same = refl; rises = omega arith };
      write_faults = refl;
      shut_faults = refl;
      held = record { tells_held = refl; held = refl; tells_made = refl };
      made = starts-made starts;
      opens = record { was = takes.was; now = rw takes.now refl; others = takes.others; one_more = takes.one_more };
      start = λ told. takes.now;
      exists = λ told. starts-exists starts;
      bytes = λ told. starts-bytes starts;
      err = tt;
    }

pub returns-in-Some-clause-left : goal.returns-in-Some-clause-left
returns-in-Some-clause-left c =
    let starts = rw c.as_slice.ensures.value at c.in-Some.ensures.some in
    (starts-takes starts).one_less
