use Rattle.std.proofs.Common.{◌≤◌, ◌+◌, subst, sym, ◌∙◌, length, take, arith}
use Rattle.std.proofs.lemmas.List.{take_all}
use Rattle.vg_units.specs.Propagating.{AreWatched}
use Rattle.vg_units.proofs.Visiting.{advances_refl, advances_trans, grown_longer, ends_watched}
use Rattle.vg_units.proofs.propagation.propagate.Goals as goal

pub loop-at-init : goal.loop-at-init
loop-at-init c = record { advances = advances_refl c.args.watches.now c.args.trail.now; within = c.requires.within; watched = c.requires.watched }

pub returns-in_err-conflict-clause-advances : goal.returns-in_err-conflict-clause-advances
returns-in_err-conflict-clause-advances c =
    advances_trans c.args.watches.now c.loop-at.watches c.settle.new.watches c.args.trail.now c.loop-at.trail c.settle.new.trail
    c.loop-at.invariant.advances c.settle.ensures.advances

pub returns-then-is_some-clause-advances : goal.returns-then-is_some-clause-advances
returns-then-is_some-clause-advances c =
    advances_trans c.args.watches.now c.loop-at.watches c.settle.new.watches c.args.trail.now c.loop-at.trail c.settle.new.trail
    c.loop-at.invariant.advances c.settle.ensures.advances

pub loop-at-preserved : goal.loop-at-preserved
loop-at-preserved c =
    let w = c.settle.new.watches in
    let t = c.settle.new.trail in
    let longer = grown_longer c.loop-at.watches.clauses c.loop-at.trail.literals t.literals c.settle.ensures.advances.grown in
    let inside = c.loop-at-test.true in
    let count = c.len.ensures.count in
    record {
      advances =
          advances_trans c.args.watches.now c.loop-at.watches w c.args.trail.now c.loop-at.trail t c.loop-at.invariant.advances c.settle.ensures.advances;
      within = omega (arith, longer, inside, count);
      watched =
          ends_watched w t.literals (take (c.loop-at.at + 1) t.literals) c.in_ok-conflict.conflict (sym c.is_some.ensures ∙ c.if-is_some.false)
          c.in_ok-conflict.ensures.ends;
    }

pub returns-clause-ends : goal.returns-clause-ends
returns-clause-ends c =
    let end : length c.loop-at.trail.literals ≤ c.loop-at.at = omega arith in
    subst (AreWatched c.loop-at.watches c.loop-at.trail.literals) (take_all c.loop-at.at c.loop-at.trail.literals end) c.loop-at.invariant.watched
