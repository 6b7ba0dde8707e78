use Rattle.std.proofs.Common.{◌≡◌, ◌+◌, ◌-◌, ℕ, List, take, drop, ap, ◌∙◌, arith}
use Rattle.vg_pcap.specs.Buffered.{Source}
use Rattle.vg_pcap.proofs.ReadAhead.{given_parts}
use Rattle.vg_pcap.proofs.buffered.Buffered.give.Goals as goal

pub returns-clause-given : goal.returns-clause-given
returns-clause-given c =
    let b = c.self.inside in
    let n = c.min-n.result in
    let copy : c.copy_from_slice.new.self ≡ take (b.from + n - b.from) (drop b.from b.buffer.items) =
    c.copy_from_slice.ensures.after ∙ ap (λ (xs : List ℕ). take (b.from + n - b.from) (drop b.from xs)) c.deref.ensures.value in
    given_parts b.buffer.items _ c.copy_from_slice.new.self (drop n c.args.into.now) b.from b.until n (ap (λ (s : Source). s.ahead) c.self.view_is)
    copy (omega arith) (omega arith) (omega arith)
