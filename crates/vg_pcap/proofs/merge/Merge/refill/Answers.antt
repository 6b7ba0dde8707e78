use Rattle.std.proofs.Common.{◌≡◌, ◌<◌, length, slice_get, Some, refl}
use Rattle.std.proofs.lemmas.Option.{slice_get_read}
use Rattle.vg_pcap.proofs.Ports.{inputs-set, refilled_at}
use Rattle.vg_pcap.proofs.merge.Merge.refill.Goals as goal

pub invariant_of-self : goal.invariant_of-self
invariant_of-self g c =
    let items = c.self.inside.inputs.items in
    let lt : c.args.port < length items = rw c.self.view_is c.requires.port in
    let at : slice_get items c.args.port ≡ Some c.index_mut-input.result.now = slice_get_read items (length items) c.args.port
    c.index_mut-input.result.now refl lt c.index_mut-input.ensures.value in
    inputs-set lt at c.refill.ensures c.self.invariant

pub returns : goal.returns
returns g c =
    let items = c.self.inside.inputs.items in
    let lt : c.args.port < length items = rw c.self.view_is c.requires.port in
    let at : slice_get items c.args.port ≡ Some c.index_mut-input.result.now = slice_get_read items (length items) c.args.port
    c.index_mut-input.result.now refl lt c.index_mut-input.ensures.value in
    rw (← c.self.view_is) (refilled_at lt at c.refill.ensures c.self.invariant (rw c.self.view_is c.requires.readable))
