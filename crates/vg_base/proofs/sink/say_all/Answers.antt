use Rattle.std.proofs.Common.{length-drop, ◌∙◌, ◌++◌, ap, List, append_assoc, IsTrue, take_all, refl, arith}
use Rattle.std.proofs.Math.Seq.{take-add}
use Rattle.vg_base.proofs.sink.say_all.Goals as goal

pub loop-done-preserved : goal.loop-done-preserved
loop-done-preserved g c =
    let before = c.loop-done.invariant in
    let here = rw c.split_at.ensures.back at c.in_ok-n.ensures in
    record {
      within = omega (arith, here.within, length-drop c.loop-done.done c.args.piece.now);
      faults = here.faults.same ∙ before.faults;
      tells_made = here.tells_made ∙ before.tells_made;
      made = λ told.
          let told' : IsTrue (g.O.Sink.flow c.loop-done.out).tells_made = rw before.tells_made told in
          here.grows told' ∙ rw (before.made told, append_assoc, take-add) refl;
    }

pub returns : goal.returns
returns g c =
    let before = c.loop-done.invariant in
    record {
      faults = record { failed = tt; same = before.faults; rises = omega (arith, before.faults) };
      tells_made = before.tells_made;
      whole = λ told. before.made told ∙ ap (λ (l : List _). (g.O.Sink.flow c.args.out.now).made ++ l)
          (take_all c.loop-done.done c.args.piece.now c.loop-done-test.false);
      prefix = tt;
    }
