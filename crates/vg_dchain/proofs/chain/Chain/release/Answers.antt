use Rattle.std.proofs.Common.{rules, ◌<◌, length, refl, None, set}
use Rattle.vg_dchain.proofs.ChainLemmas.{chain_held, chain_freed}
use Rattle.vg_dchain.proofs.chain.Chain.release.Goals as goal

pub remove-requires : goal.remove-requires
remove-requires g c = (chain_held c.self.inside.by_age c.self.inside.spare c.self.inside.times.items c.self.inside.newest c.args.index c.args.self.now
    c.self.view_is c.self.invariant c.requires).contains

pub put-requires-clause-bound : goal.put-requires-clause-bound
put-requires-clause-bound g c =
    (chain_held c.self.inside.by_age c.self.inside.spare c.self.inside.times.items c.self.inside.newest c.args.index c.args.self.now c.self.view_is
    c.self.invariant c.requires).spare_bound

pub put-requires-clause-absent : goal.put-requires-clause-absent
put-requires-clause-absent g c =
    (chain_held c.self.inside.by_age c.self.inside.spare c.self.inside.times.items c.self.inside.newest c.args.index c.args.self.now c.self.view_is
    c.self.invariant c.requires).apart

pub put-requires-clause-room : goal.put-requires-clause-room
put-requires-clause-room g c = (chain_held c.self.inside.by_age c.self.inside.spare c.self.inside.times.items c.self.inside.newest c.args.index
    c.args.self.now c.self.view_is c.self.invariant c.requires).spare_room

pub index_mut-requires : goal.index_mut-requires
index_mut-requires g c =
    let within : c.args.index < length c.self.inside.times.items =
    (chain_held c.self.inside.by_age c.self.inside.spare c.self.inside.times.items c.self.inside.newest c.args.index c.args.self.now
    c.self.view_is c.self.invariant c.requires).within in
    search rules

pub invariant_of-self : goal.invariant_of-self
invariant_of-self g c = (chain_freed c.self.inside.by_age c.remove.new.self c.self.inside.spare c.put.new.self c.self.inside.times.items
    (set c.self.inside.times.items c.args.index None) c.self.inside.newest c.args.index c.args.self.now c.self.view_is c.self.invariant c.requires
    c.remove.ensures.removed c.put.ensures.put refl).0

pub returns-clause-freed : goal.returns-clause-freed
returns-clause-freed g c = (chain_freed c.self.inside.by_age c.remove.new.self c.self.inside.spare c.put.new.self c.self.inside.times.items
    (set c.self.inside.times.items c.args.index None) c.self.inside.newest c.args.index c.args.self.now c.self.view_is c.self.invariant c.requires
    c.remove.ensures.removed c.put.ensures.put refl).1
