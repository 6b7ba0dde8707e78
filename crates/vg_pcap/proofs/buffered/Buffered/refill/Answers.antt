use Rattle.std.proofs.Common.{◌≡◌, ◌-◌, ℕ, Some, take, sym, ap, ◌∙◌, arith}
use Rattle.std.specs.Vec.{with_items}
use Rattle.std.proofs.lemmas.List.{with_items_is}
use Rattle.vg_pcap.specs.Buffered.{Source}
use Rattle.vg_pcap.proofs.ReadAhead.{refill_done}
use Rattle.vg_pcap.proofs.buffered.Buffered.refill.Goals as goal

pub returns : goal.returns
returns g c =
    let was : c.args.self.now.id ≡ Some c.in-Some.id = sym (ap (λ (s : Source). s.id) c.self.view_is) ∙ c.in-Some.is in
    let b = c.self.inside.buffer in
    let items = with_items_is b c.read.new.into (omega (arith, c.read.auto.into, c.as_mut_slice.ensures.len)) in
    let ahead : take (c.in_ok-n.n - 0) (with_items b c.read.new.into).items ≡ take c.in_ok-n.n c.read.new.into =
    rw items (ap (λ (k : ℕ). take k c.read.new.into) (omega arith)) in
    refill_done c.args.self.now _ was c.in-Some.is ahead (omega (arith, c.read.auto.into, c.as_mut_slice.ensures.len)) c.in_ok-n.ensures
