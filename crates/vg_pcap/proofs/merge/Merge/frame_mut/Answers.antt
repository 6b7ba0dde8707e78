use Rattle.std.proofs.Common.{◌≡◌, ◌<◌, length, slice_get, Some, refl, ◌∙◌}
use Rattle.std.proofs.lemmas.Option.{slice_get_read, slice_get_within}
use Rattle.vg_pcap.proofs.NextPort.{lent_next, next_bytes, inputs-written, written_next}
use Rattle.vg_pcap.proofs.merge.Merge.frame_mut.Goals as goal

pub invariant_of-self-lent : goal.invariant_of-self-lent
invariant_of-self-lent c w =
    let items = c.self.inside.inputs.items in
    let next = (rw (← c.self.view_is) at c.requires).1 in
    let lt : c.args.port < length items = slice_get_within items c.args.port next.input next.at in
    let at : slice_get items c.args.port ≡ Some c.index_mut-next.result.now = slice_get_read items (length items) c.args.port
    c.index_mut-next.result.now refl lt c.index_mut-next.ensures.value in
    inputs-written c.index_mut-next.result.now w lt at c.self.invariant

pub returns : goal.returns
returns c =
    let items = c.self.inside.inputs.items in
    let next = (rw (← c.self.view_is) at c.requires).1 in
    let x = c.index_mut-next.result.now in
    let lt : c.args.port < length items = slice_get_within items c.args.port next.input next.at in
    let at : slice_get items c.args.port ≡ Some x = slice_get_read items (length items) c.args.port x refl lt c.index_mut-next.ensures.value in (
      (refl, λ w. rw (← c.self.view_is) (lent_next x w next at)),
      record {
        writes_back = tt;
        value = rw (← c.self.view_is) (λ a is. c.frame_mut.ensures.value ∙ next_bytes x next at is);
        written = λ a bytes is same. written_next bytes is same;
      },
    )
