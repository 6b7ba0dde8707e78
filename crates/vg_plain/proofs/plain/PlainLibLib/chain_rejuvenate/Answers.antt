use Rattle.std.proofs.Common.{◌-◌, ap, sym}
use Rattle.vg_abs.specs.Tables.{Link}
use Rattle.vg_abs.specs.Effects.{with_link, with_time}
use Rattle.vg_plain.specs.PlainStates.{state_of}
use Rattle.vg_plain.proofs.StateLaws.{stands, map_within, link_is, does}
use Rattle.vg_plain.proofs.plain.PlainLibLib.chain_rejuvenate.Goals as goal

pub returns : goal.returns
returns c =
    let here = stands _ _ _ _ (map_within c.args.self.now.objects.items (c.args.chain - 1) c.requires.chain.map) c.index_mut.ensures.value c.in-Map.is in
    does _ _ _ _ _ _ here c.rejuvenate.ensures
    (sym (ap (λ (l : Link). with_link (state_of c.args.self.now.objects.items) (c.args.chain - 1) (with_time l c.args.index c.args.now))
    (link_is c.args.self.now.objects.items (c.args.chain - 1) _ here)))
