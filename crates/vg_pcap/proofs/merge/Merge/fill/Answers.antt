use Rattle.std.proofs.Common.{◌≡◌, ◌≤◌, length, ap, arith}
use Rattle.vg_pcap.proofs.Filling.{filling-none, filling-more, filling-all, filling-refused}
use Rattle.vg_pcap.proofs.merge.Merge.fill.Goals as goal

pub loop-port-init : goal.loop-port-init
loop-port-init g c = filling-none c.requires.readable

pub refill-requires-clause-port : goal.refill-requires-clause-port
refill-requires-clause-port g c =
    let before = c.loop-port.invariant.reads.ports in
    let same : length c.self.inside.inputs.items ≡ length c.args.self.now = ap length c.self.view_is in
    omega arith

pub refill-requires-clause-readable : goal.refill-requires-clause-readable
refill-requires-clause-readable g c = c.loop-port.invariant.reads.readable

pub returns-in-Err : goal.returns-in-Err
returns-in-Err g c = filling-refused c.loop-port.invariant c.in-Err.ensures

pub loop-port-preserved : goal.loop-port-preserved
loop-port-preserved g c = filling-more c.loop-port.invariant c.in_default.ensures

pub returns : goal.returns
returns g c =
    let before = c.loop-port.invariant.reads.ports in
    let same : length c.self.inside.inputs.items ≡ length c.args.self.now = ap length c.self.view_is in
    let all : length c.loop-port.self ≤ c.loop-port.port = omega arith in
    filling-all all c.loop-port.invariant
