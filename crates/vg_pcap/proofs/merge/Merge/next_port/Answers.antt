use Rattle.std.proofs.Common.{◌≤◌, length, arith}
use Rattle.vg_pcap.proofs.Merging.{next_of_all, none_of_all, end_of_all, next_fits, next_first}
use Rattle.vg_pcap.proofs.merge.Merge.next_port.Goals as goal

pub earlier-next-requires-clause-before : goal.earlier-next-requires-clause-before
earlier-next-requires-clause-before c = rw c.deref.ensures.value c.loop-port.invariant

pub loop-port-preserved : goal.loop-port-preserved
loop-port-preserved c = rw c.deref.ensures.value at c.earlier-next.ensures

pub returns-clause-next : goal.returns-clause-next
returns-clause-next c =
    let past : length c.self.inside.inputs.items ≤ c.loop-port.port = omega arith in
    rw (← c.self.view_is) (next_of_all c.self.inside.inputs.items c.loop-port.port c.loop-port.next past c.loop-port.invariant)

pub returns-clause-fits : goal.returns-clause-fits
returns-clause-fits c = rw (← c.self.view_is) (λ a next. next_fits c.self.invariant.sound next)

pub returns-clause-first : goal.returns-clause-first
returns-clause-first c = rw (← c.self.view_is) (λ a next. next_first c.self.invariant.sound next)

pub returns-clause-none : goal.returns-clause-none
returns-clause-none c =
    let past : length c.self.inside.inputs.items ≤ c.loop-port.port = omega arith in
    rw (← c.self.view_is) (none_of_all c.self.inside.inputs.items c.loop-port.port c.loop-port.next past c.loop-port.invariant)

pub returns-clause-end : goal.returns-clause-end
returns-clause-end c =
    let past : length c.self.inside.inputs.items ≤ c.loop-port.port = omega arith in
    rw (← c.self.view_is) (end_of_all c.self.inside.inputs.items c.loop-port.port c.loop-port.next past c.loop-port.invariant)
