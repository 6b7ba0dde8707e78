use Rattle.std.proofs.Common.{◌<◌, length, subst, sym}
use Rattle.vg_units.proofs.Keeping.{kept_back}
use Rattle.vg_units.proofs.propagator.Propagator.back_to.Goals as goal

pub invariant_of-self : goal.invariant_of-self
invariant_of-self c =
    kept_back c.self.inside.watches c.self.inside.trail c.truncate.new.self c.self.inside.starts.items c.truncate-2.new.self.items c.self.inside.head
    c.args.level c.index-start.result.now
    (subst (λ v. c.args.level < length v.starts) (sym c.self.view_is) c.requires) c.index-start.ensures c.truncate.ensures c.truncate-2.ensures.items
    c.self.invariant

pub returns-clause-sound : goal.returns-clause-sound
returns-clause-sound c =
    let kept =
    kept_back c.self.inside.watches c.self.inside.trail c.truncate.new.self c.self.inside.starts.items c.truncate-2.new.self.items c.self.inside.head
    c.args.level c.index-start.result.now
    (subst (λ v. c.args.level < length v.starts) (sym c.self.view_is) c.requires) c.index-start.ensures c.truncate.ensures c.truncate-2.ensures.items
    c.self.invariant in
    record { consistent = kept.consistent; chain = kept.chain }
