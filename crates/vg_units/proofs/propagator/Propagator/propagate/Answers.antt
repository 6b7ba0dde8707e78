use Rattle.std.proofs.Common.{subst, sym, ap, ◌∙◌}
use Rattle.std.specs.Prelude.{not}
use Rattle.vg_units.specs.Levels.{IsKept}
use Rattle.vg_units.proofs.Keeping.{kept_advanced, kept_propagated, all_settled, end_settled}
use Rattle.vg_units.proofs.Visiting.{ends_watched}
use Rattle.vg_units.proofs.propagator.Propagator.propagate.Goals as goal

pub invariant_of-self : goal.invariant_of-self
invariant_of-self c = kept_advanced c.self.inside.watches c.propagate.new.watches c.self.inside.trail c.propagate.new.trail c.self.inside.starts.items
    c.self.inside.head c.propagate.ensures.advances c.self.invariant

pub returns-in_err-conflict-clause-sound : goal.returns-in_err-conflict-clause-sound
returns-in_err-conflict-clause-sound c =
    let kept = kept_advanced c.self.inside.watches c.propagate.new.watches c.self.inside.trail c.propagate.new.trail c.self.inside.starts.items
    c.self.inside.head c.propagate.ensures.advances c.self.invariant in
    record { consistent = kept.consistent; chain = kept.chain }

pub invariant_of-self-then-is_none : goal.invariant_of-self-then-is_none
invariant_of-self-then-is_none c =
    let kept = kept_advanced c.self.inside.watches c.propagate.new.watches c.self.inside.trail c.propagate.new.trail c.self.inside.starts.items
    c.self.inside.head c.propagate.ensures.advances c.self.invariant in
    let t = c.propagate.new.trail in
    let watched = ends_watched c.propagate.new.watches t.literals t.literals c.in_ok-conflict.conflict (c.is_none.ensures ∙ ap not c.if-is_none.true)
    c.in_ok-conflict.ensures.ends in
    subst (IsKept c.propagate.new.watches t c.self.inside.starts.items) (sym c.len-self-inside.ensures.count)
    (kept_propagated c.propagate.new.watches t c.self.inside.starts.items c.self.inside.head watched kept)

pub invariant_of-self-else-is_none : goal.invariant_of-self-else-is_none
invariant_of-self-else-is_none c = kept_advanced c.self.inside.watches c.propagate.new.watches c.self.inside.trail c.propagate.new.trail
    c.self.inside.starts.items c.self.inside.head c.propagate.ensures.advances c.self.invariant

pub returns-then-is_none-clause-sound : goal.returns-then-is_none-clause-sound
returns-then-is_none-clause-sound c =
    let kept = kept_advanced c.self.inside.watches c.propagate.new.watches c.self.inside.trail c.propagate.new.trail c.self.inside.starts.items
    c.self.inside.head c.propagate.ensures.advances c.self.invariant in
    record { consistent = kept.consistent; chain = kept.chain }

pub returns-then-is_none-clause-ends : goal.returns-then-is_none-clause-ends
returns-then-is_none-clause-ends c =
    let t = c.propagate.new.trail in
    let none = c.is_none.ensures ∙ ap not c.if-is_none.true in
    let watched = ends_watched c.propagate.new.watches t.literals t.literals c.in_ok-conflict.conflict none c.in_ok-conflict.ensures.ends in
    end_settled c.args.self.now
    (record {
      variables = c.propagate.new.watches.variables;
      clauses = c.propagate.new.watches.clauses;
      trail = t.literals;
      starts =
          c.self.inside.starts.items;
      head = c.len-self-inside.result;
    }) c.in_ok-conflict.conflict none c.len-self-inside.ensures.count
    (all_settled c.propagate.new.watches t.literals watched)

pub returns-else-is_none-clause-sound : goal.returns-else-is_none-clause-sound
returns-else-is_none-clause-sound c =
    let kept = kept_advanced c.self.inside.watches c.propagate.new.watches c.self.inside.trail c.propagate.new.trail c.self.inside.starts.items
    c.self.inside.head c.propagate.ensures.advances c.self.invariant in
    record { consistent = kept.consistent; chain = kept.chain }
