use Rattle.vg_pcap.specs.Inputs.{IsLeastBelow}
use Rattle.vg_pcap.proofs.merge.Merge.next_port.Given as goal

abbrev pub invariant-loop-port : goal.invariant-loop-port
invariant-loop-port l = IsLeastBelow l.self-inside.inputs.items l.port l.next
