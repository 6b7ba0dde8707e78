use Rattle.std.proofs.Common.{◌∙◌, arith}
use Rattle.vg_base.proofs.Disks.{told_before}
use Rattle.vg_pcap.proofs.ReadAhead.{Stays-trans, Gives-more, given_all, length-put, length-part}
use Rattle.vg_pcap.proofs.buffered.Buffered.read_into.Goals as goal

pub returns-then-n-eq0 : goal.returns-then-n-eq0
returns-then-n-eq0 g c =
    let before = c.loop-done.invariant in
    let read = c.in_ok-n.ensures in
    record {
      faults = record { failed = tt; same = read.faults.same ∙ before.read_faults; rises = omega (arith, read.faults.same, before.read_faults) };
      stays = Stays-trans before.stays read.stays;
      within = let size = length-put c.loop-done.done c.loop-done.into c.read_some.new.into c.read_some.auto.into in omega arith;
      gives = λ told bytes is.
          let first = before.gives told bytes is in
          let more = read.gives (told_before before.stays.keeps told) _ first.after in
          Gives-more _ c.loop-done.done (omega (arith, c.if-n-eq0.true)) before.within read.within first more;
      end = λ told bytes is few.
          let first = before.gives told bytes is in
          given_all bytes first.within (read.end (told_before before.stays.keeps told) _ first.after c.if-n-eq0.true
          (omega (arith, c.read_some.auto.into, length-part c.loop-done.done c.loop-done.into before.within)));
    }

pub loop-done-preserved : goal.loop-done-preserved
loop-done-preserved g c =
    let before = c.loop-done.invariant in
    let read = c.in_ok-n.ensures in
    record {
      within = let size = length-put c.loop-done.done c.loop-done.into c.read_some.new.into c.read_some.auto.into in omega (arith, read.within);
      read_faults = read.faults.same ∙ before.read_faults;
      stays = Stays-trans before.stays read.stays;
      gives = λ told bytes is.
          let first = before.gives told bytes is in
          let more = read.gives (told_before before.stays.keeps told) _ first.after in
          Gives-more _ _ (omega arith) before.within read.within first more;
    }
