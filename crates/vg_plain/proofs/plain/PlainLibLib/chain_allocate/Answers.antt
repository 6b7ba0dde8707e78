use Rattle.std.proofs.Common.{◌-◌}
use Rattle.vg_plain.proofs.StateLaws.{stands, map_within, allocates, least}
use Rattle.vg_plain.proofs.plain.PlainLibLib.chain_allocate.Goals as goal

pub returns-clause-row : goal.returns-clause-row
returns-clause-row c =
    let here = stands _ _ _ _ (map_within c.args.self.now.objects.items (c.args.chain - 1) c.requires.chain.map) c.index_mut.ensures.value c.in-Map.is in
    allocates _ _ _ _ _ _ here c.allocate.ensures.none c.allocate.ensures.inside c.allocate.ensures.free c.allocate.ensures.handed

pub returns-clause-least : goal.returns-clause-least
returns-clause-least c =
    let here = stands _ _ _ _ (map_within c.args.self.now.objects.items (c.args.chain - 1) c.requires.chain.map) c.index_mut.ensures.value c.in-Map.is in
    least c.args.self.now.objects.items c.args.chain _ c.allocate.result here c.allocate.ensures.least
