use Rattle.std.proofs.Common.{subst}
use Rattle.vg_abs.specs.Tables.{Link}
use Rattle.vg_plain.specs.LinkStates.{IsKeyed}
use Rattle.vg_plain.proofs.StateLaws.{stands, map_within, link_is, no_map, expires_so}
use Rattle.vg_plain.proofs.plain.PlainLibLib.expire.Goals as goal

pub expire-requires : goal.expire-requires
expire-requires c =
    let here = stands _ _ _ _ (map_within c.args.self.now.objects.items c.args.link c.requires.map) c.index_mut.ensures.value c.in-Map.is in
    subst (λ (l : Link). IsKeyed l) (link_is c.args.self.now.objects.items c.args.link _ here) c.requires.ready.keys

pub unreachable-requires : goal.unreachable-requires
unreachable-requires c = no_map c.args.self.now.objects.items c.args.link c.index_mut.result.now c.requires.map c.index_mut.ensures.value c.in_default.not-Map

pub returns : goal.returns
returns c =
    let here = stands _ _ _ _ (map_within c.args.self.now.objects.items c.args.link c.requires.map) c.index_mut.ensures.value c.in-Map.is in
    expires_so _ _ _ _ _ _ here c.expire.ensures.freed c.expire.ensures.expired
