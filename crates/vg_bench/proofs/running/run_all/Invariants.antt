use Rattle.vg_cmean.specs.Runs.{IsMadeFor}
use Rattle.vg_pcap.specs.Merge.{AreReadable}
use Rattle.vg_bench.proofs.running.run_all.Given as goal

abbrev pub invariant-loop-frame : goal.invariant-loop-frame
invariant-loop-frame g l = AreReadable (g.F.Files.disk l.files) l.merge × IsMadeFor l.machine l.unit
