use Rattle.vg_pcap.proofs.Filling.{Filling}
use Rattle.vg_pcap.proofs.merge.Merge.fill.Given as goal

abbrev pub invariant-loop-port : goal.invariant-loop-port
invariant-loop-port g l = Filling (g.F.Files.disk l.initial.files) (g.F.Files.disk l.files) l.initial.self l.self l.port
