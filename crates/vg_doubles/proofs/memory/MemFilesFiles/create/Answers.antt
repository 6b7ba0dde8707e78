use Rattle.std.proofs.Common.{refl, arith}
use Rattle.vg_doubles.proofs.memory.MemFilesFiles.create.Goals as goal

pub invariant_of-self : goal.invariant_of-self
invariant_of-self c =
    let fit = c.in-Some.ensures.fit in
    record {
      few = omega (arith, fit.count, c.args.self.now.few, c.args.self.now.pages.ok.0, c.start_writing.new.pages.ok.0);
      memory = fit.memory c.args.self.now.room c.args.self.now.memory;
      readable = fit.readable c.args.self.now.held.items c.args.self.now.readable;
    }

pub returns-in-Some-clause-creates : goal.returns-in-Some-clause-creates
returns-in-Some-clause-creates c =
    let takes = c.in-Some.ensures.opens c.args.self.now.held.items in
    record {
      faults = record { failed = tt; same = refl; rises = omega arith };
      read_faults = refl;
      shut_faults = refl;
      held = record { tells_held = refl; held = refl; tells_made = refl };
      empty = λ told. c.in-Some.ensures.empties;
      opens = record { was = takes.was; now = rw takes.now refl; others = takes.others; one_more = takes.one_more };
      named = λ told. takes.now;
      err = tt;
    }

pub returns-in-Some-clause-left : goal.returns-in-Some-clause-left
returns-in-Some-clause-left c = (c.in-Some.ensures.opens c.args.self.now.held.items).one_less
