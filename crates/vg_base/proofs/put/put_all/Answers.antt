use Rattle.std.proofs.Common.{◌∙◌, length-drop, take_all, arith}
use Rattle.std.proofs.lemmas.List.{take_rest}
use Rattle.vg_base.proofs.Disks.{appends_after, WriteKeeps-trans}
use Rattle.vg_base.proofs.put.put_all.Goals as goal

pub loop-done-preserved : goal.loop-done-preserved
loop-done-preserved g c =
    let before = c.loop-done.invariant in
    let here = rw (take_rest c.args.piece.now c.loop-done.done) at c.in_ok-n.ensures in
    record {
      within = omega (arith, here.within, length-drop c.loop-done.done c.args.piece.now);
      write_faults = here.faults.same ∙ before.write_faults;
      keeps = WriteKeeps-trans before.keeps here.keeps;
      made = appends_after c.args.id c.args.piece.now c.loop-done.done c.in_ok-n.n before.keeps before.made here.grows;
    }

pub returns : goal.returns
returns g c =
    let before = c.loop-done.invariant in
    record {
      faults = record { failed = tt; same = before.write_faults; rises = omega (arith, before.write_faults) };
      keeps = before.keeps;
      whole = λ told name is. rw (take_all c.loop-done.done c.args.piece.now c.loop-done-test.false) at before.made told name is;
      prefix = tt;
    }
