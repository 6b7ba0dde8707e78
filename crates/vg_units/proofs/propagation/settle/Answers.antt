use Rattle.std.proofs.Common.{◌≡◌, ◌≤◌, ◌-◌, subst, sym, ap, ◌∙◌, length, take, get_or, arith}
use Rattle.std.specs.Prelude.{ℤ, pos, neg_ℤ}
use Rattle.std.proofs.Math.IntN.{neg_ℤ-neg_ℤ}
use Rattle.vg_cnf.specs.Clauses.{holds}
use Rattle.vg_units.specs.Watching.{list_of}
use Rattle.vg_units.specs.Propagating.{Visits}
use Rattle.vg_units.proofs.Visiting.{advances_refl, advances_trans, grown_within, held_at, held_prefix, pending_starts, look_kept, look_moved, look_ends}
use Rattle.vg_units.proofs.propagation.settle.Goals as goal

pub loop-at-init : goal.loop-at-init
loop-at-init c =
    record {
      advances = advances_refl c.args.watches.now c.args.trail.now;
      count = c.count-count.ensures.count;
      pending =
          pending_starts c.args.watches.now c.args.trail.now.literals (take c.args.head c.args.trail.now.literals) c.negated-literal.result
          c.requires.watched c.count-count.ensures.listed;
    }

pub look_at-requires-clause-is_false : goal.look_at-requires-clause-is_false
look_at-requires-clause-is_false c =
    let t0 = c.args.trail.now in
    let p : ℤ = get_or t0.literals c.args.head (pos 0) in
    let back : neg_ℤ c.negated-literal.result ≡ p = ap neg_ℤ c.negated-literal.ensures ∙ neg_ℤ-neg_ℤ c.get.result ∙ c.get.ensures.literal in
    ap (holds c.loop-at.trail.literals) back
    ∙ grown_within c.args.watches.now.clauses t0.literals c.loop-at.trail.literals c.loop-at.invariant.advances.grown p
    (held_at t0.literals c.args.head c.requires.within)

pub returns-in_err-look_at-clause-advances : goal.returns-in_err-look_at-clause-advances
returns-in_err-look_at-clause-advances c =
    advances_trans c.args.watches.now c.loop-at.watches c.look_at.new.watches c.args.trail.now c.loop-at.trail c.look_at.new.trail
    c.loop-at.invariant.advances c.look_at.ensures.advances

pub loop-at-preserved-in-Kept : goal.loop-at-preserved-in-Kept
loop-at-preserved-in-Kept c =
    let w0 = c.args.watches.now in
    let old = c.loop-at.watches in
    let new = c.look_at.new.watches in
    let t0 = c.args.trail.now in
    let before = c.loop-at.trail in
    let after = c.look_at.new.trail in
    let f = c.negated-literal.result in
    let visits = subst (Visits old new before.literals after.literals f c.loop-at.at (get_or (list_of old f) c.loop-at.at 0)) c.in-Kept.is
    c.in_ok-look_at.ensures.visits in
    record {
      advances = advances_trans w0 old new t0 before after c.loop-at.invariant.advances c.look_at.ensures.advances;
      count = c.loop-at.invariant.count ∙ ap (λ w. length (list_of w f)) (sym visits.0);
      pending =
          look_kept w0 old new t0 before after (take c.args.head t0.literals) f c.loop-at.at c.loop-at.invariant.advances
          (held_prefix c.args.head t0.literals) c.requires.watched
          c.look_at.ensures.advances visits.0 visits.1 c.loop-at.invariant.pending;
    }

pub loop-at-preserved : goal.loop-at-preserved
loop-at-preserved c =
    let w0 = c.args.watches.now in
    let old = c.loop-at.watches in
    let new = c.look_at.new.watches in
    let t0 = c.args.trail.now in
    let before = c.loop-at.trail in
    let after = c.look_at.new.trail in
    let f = c.negated-literal.result in
    let p : ℤ = get_or t0.literals c.args.head (pos 0) in
    let back : neg_ℤ f ≡ p = ap neg_ℤ c.negated-literal.ensures ∙ neg_ℤ-neg_ℤ c.get.result ∙ c.get.ensures.literal in
    let visits = subst (Visits old new before.literals after.literals f c.loop-at.at (get_or (list_of old f) c.loop-at.at 0)) c.in-Moved.is
    c.in_ok-look_at.ensures.visits in
    record {
      advances = advances_trans w0 old new t0 before after c.loop-at.invariant.advances c.look_at.ensures.advances;
      count = (let shorter = visits.0.shorter in let count = c.loop-at.invariant.count in let e : c.loop-at.count - 1 ≡ length (list_of new f) =
          omega (arith, shorter, count) in e);
      pending =
          look_moved w0 old new t0 before after (take c.args.head t0.literals) f c.loop-at.at c.loop-at.invariant.advances
          (held_prefix c.args.head t0.literals) c.requires.watched
          c.look_at.ensures.advances (ap (holds t0.literals) back ∙ held_at t0.literals c.args.head c.requires.within) visits.0 visits.1
          c.loop-at.invariant.pending;
    }

pub returns-in-Conflict-clause-advances : goal.returns-in-Conflict-clause-advances
returns-in-Conflict-clause-advances c =
    advances_trans c.args.watches.now c.loop-at.watches c.look_at.new.watches c.args.trail.now c.loop-at.trail c.look_at.new.trail
    c.loop-at.invariant.advances c.look_at.ensures.advances

pub returns-clause-ends : goal.returns-clause-ends
returns-clause-ends c =
    let f = c.negated-literal.result in
    look_ends c.args.watches.now c.loop-at.watches c.args.trail.now c.loop-at.trail f c.args.head c.loop-at.at c.loop-at.invariant.advances c.requires.within
    (c.negated-literal.ensures ∙ ap neg_ℤ c.get.ensures.literal)
    (let count = c.loop-at.invariant.count in let end = c.loop-at-test.false in let e : length (list_of c.loop-at.watches f) ≤ c.loop-at.at =
    omega (arith, count, end) in e)
    c.loop-at.invariant.pending
