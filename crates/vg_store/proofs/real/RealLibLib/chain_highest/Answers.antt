use Rattle.std.proofs.Common.{◌-◌, ◌∙◌, sym, ap}
use Rattle.vg_abs.specs.Tables.{Link}
use Rattle.vg_plain.proofs.StateLaws.{link_is}
use Rattle.vg_store.specs.declared.object.RealObject.TheVariants.{Map}
use Rattle.vg_store.specs.RealLinks.{seen}
use Rattle.vg_store.specs.RealStates.{plainly}
use Rattle.vg_store.proofs.RealLaws.{real_within, real_stands, stands_plain, real_no_map}
use Rattle.vg_store.proofs.real.RealLibLib.chain_highest.Goals as goal

pub unreachable-requires : goal.unreachable-requires
unreachable-requires c = real_no_map c.args.self.now.objects.items (c.args.chain - 1) c.index.result.now c.requires.map c.index.ensures c.in_default.not-Map

pub returns : goal.returns
returns c told =
    let items = c.args.self.now.objects.items in
    let inside = real_within items (c.args.chain - 1) c.requires.map in
    let here = real_stands items (c.args.chain - 1) c.index.result.now (Map c.in-Map.link) inside c.index.ensures c.in-Map.is in
    let plainly_here = stands_plain items (c.args.chain - 1) (Map c.in-Map.link) here in
    c.highest.ensures ∙ sym (ap (λ (l : Link). l.highest) (link_is (plainly items) (c.args.chain - 1) (seen c.in-Map.link) plainly_here))
