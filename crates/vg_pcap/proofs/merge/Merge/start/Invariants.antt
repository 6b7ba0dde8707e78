use Rattle.std.proofs.Common.{map, take, string_bytes, Global}
use Rattle.vg_pcap.proofs.Opening.{Opening}
use Rattle.vg_pcap.proofs.merge.Merge.start.Given as goal

abbrev pub invariant-loop-port : goal.invariant-loop-port
invariant-loop-port g l =
    Opening (g.F.Files.disk l.initial.files) (g.F.Files.disk l.files) (take l.port (map (string_bytes {Z = Global}) l.ins)) l.inputs.items
