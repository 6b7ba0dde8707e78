use Rattle.std.proofs.Common.{◌∙◌, ap}
use Rattle.vg_abs.specs.Tables.{Link}
use Rattle.vg_plain.proofs.StateLaws.{link_is}
use Rattle.vg_store.specs.declared.object.RealObject.TheVariants.{Map}
use Rattle.vg_store.specs.RealLinks.{seen}
use Rattle.vg_store.specs.RealStates.{plainly}
use Rattle.vg_store.proofs.RealLaws.{real_within, real_stands, stands_plain, real_no_map, gets}
use Rattle.vg_store.proofs.real.RealLibLib.map_get.Goals as goal

pub get-requires : goal.get-requires
get-requires c =
    let items = c.args.self.now.objects.items in
    let inside = real_within items (c.args.map) c.requires.map in
    let here = real_stands items (c.args.map) c.index.result.now (Map c.in-Map.link) inside c.index.ensures c.in-Map.is in
    let plainly_here = stands_plain items (c.args.map) (Map c.in-Map.link) here in
    c.requires.key ∙ ap (λ (l : Link). l.key_length) (link_is (plainly items) c.args.map (seen c.in-Map.link) plainly_here)

pub unreachable-requires : goal.unreachable-requires
unreachable-requires c = real_no_map c.args.self.now.objects.items (c.args.map) c.index.result.now c.requires.map c.index.ensures c.in_default.not-Map

pub returns : goal.returns
returns c =
    let items = c.args.self.now.objects.items in
    let inside = real_within items (c.args.map) c.requires.map in
    let here = real_stands items (c.args.map) c.index.result.now (Map c.in-Map.link) inside c.index.ensures c.in-Map.is in
    let plainly_here = stands_plain items (c.args.map) (Map c.in-Map.link) here in
    gets (plainly items) c.args.map (seen c.in-Map.link) c.args.key.now c.get.result plainly_here c.get.ensures
