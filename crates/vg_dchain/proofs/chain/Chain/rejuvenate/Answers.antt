use Rattle.std.proofs.Common.{rules, ◌<◌, length}
use Rattle.vg_dchain.proofs.ChainLemmas.{chain_held, chain_rejuvenated}
use Rattle.vg_dchain.proofs.chain.Chain.rejuvenate.Goals as goal

pub move_last-requires-clause-contains : goal.move_last-requires-clause-contains
move_last-requires-clause-contains g c =
    (chain_held c.self.inside.by_age c.self.inside.spare c.self.inside.times.items c.self.inside.newest c.args.index c.args.self.now c.self.view_is
    c.self.invariant c.requires.allocated).contains

pub move_last-requires-clause-bound : goal.move_last-requires-clause-bound
move_last-requires-clause-bound g c =
    (chain_held c.self.inside.by_age c.self.inside.spare c.self.inside.times.items c.self.inside.newest c.args.index c.args.self.now c.self.view_is
    c.self.invariant c.requires.allocated).bound

pub move_last-requires-clause-room : goal.move_last-requires-clause-room
move_last-requires-clause-room g c =
    (chain_held c.self.inside.by_age c.self.inside.spare c.self.inside.times.items c.self.inside.newest c.args.index c.args.self.now c.self.view_is
    c.self.invariant c.requires.allocated).room

pub stamp-requires : goal.stamp-requires
stamp-requires g c =
    let within : c.args.index < length c.self.inside.times.items =
    (chain_held c.self.inside.by_age c.self.inside.spare c.self.inside.times.items c.self.inside.newest c.args.index c.args.self.now
    c.self.view_is c.self.invariant c.requires.allocated).within in
    search rules

pub invariant_of-self : goal.invariant_of-self
invariant_of-self g c = rw c.stamp.ensures.newest (chain_rejuvenated c.self.inside.by_age c.move_last.new.self c.self.inside.spare
    c.self.inside.times.items c.stamp.new.times.items c.self.inside.newest c.args.now c.args.index c.args.self.now c.self.view_is c.self.invariant
    c.requires.time c.requires.allocated c.move_last.ensures.moved c.stamp.ensures.times).0

pub returns-clause-rejuvenated : goal.returns-clause-rejuvenated
returns-clause-rejuvenated g c =
    rw c.stamp.ensures.newest (chain_rejuvenated c.self.inside.by_age c.move_last.new.self c.self.inside.spare c.self.inside.times.items
    c.stamp.new.times.items c.self.inside.newest c.args.now c.args.index c.args.self.now c.self.view_is c.self.invariant c.requires.time
    c.requires.allocated c.move_last.ensures.moved c.stamp.ensures.times).1
