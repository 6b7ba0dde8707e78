use Rattle.std.proofs.Common.{◌∙◌, sym, ap}
use Rattle.vg_abs.specs.Tables.{Link}
use Rattle.vg_plain.proofs.StateLaws.{link_is}
use Rattle.vg_store.specs.declared.object.RealObject.TheVariants.{Map}
use Rattle.vg_store.specs.RealLinks.{seen}
use Rattle.vg_store.specs.RealStates.{plainly}
use Rattle.vg_store.proofs.RealLaws.{real_within, real_stands, stands_plain, real_no_map}
use Rattle.vg_store.proofs.real.RealLibLib.map_size.Goals as goal

pub unreachable-requires : goal.unreachable-requires
unreachable-requires c = real_no_map c.args.self.now.objects.items (c.args.map) c.index.result.now c.requires c.index.ensures c.in_default.not-Map

pub returns : goal.returns
returns c told =
    let items = c.args.self.now.objects.items in
    let inside = real_within items (c.args.map) c.requires in
    let here = real_stands items (c.args.map) c.index.result.now (Map c.in-Map.link) inside c.index.ensures c.in-Map.is in
    let plainly_here = stands_plain items (c.args.map) (Map c.in-Map.link) here in
    c.size.ensures ∙ sym (ap (λ (l : Link). l.size) (link_is (plainly items) c.args.map (seen c.in-Map.link) plainly_here))
