use Rattle.vg_store.specs.declared.object.RealObject.TheVariants.{Prefixes}
use Rattle.vg_store.proofs.RealLaws.{real_stands, table_within, real_no_table, looks_up}
use Rattle.vg_store.proofs.real.RealLibLib.lookup.Goals as goal

pub unreachable-requires : goal.unreachable-requires
unreachable-requires c = real_no_table c.args.self.now.objects.items c.args.table c.index.result.now c.requires
    (table_within c.args.self.now.objects.items c.args.table c.requires) c.index.ensures c.in_default.not-Prefixes

pub returns : goal.returns
returns c =
    let items = c.args.self.now.objects.items in
    let here = real_stands items c.args.table c.index.result.now (Prefixes c.in-Prefixes.routes) (table_within items c.args.table c.requires)
    c.index.ensures c.in-Prefixes.is in
    looks_up items c.args.table c.args.address c.in-Prefixes.routes c.lookup.result here c.lookup.ensures
