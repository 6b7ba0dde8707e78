use Rattle.vg_pcap.proofs.Closing.{Closing}
use Rattle.vg_pcap.proofs.merge.close_all.Given as goal

abbrev pub invariant-loop-input : goal.invariant-loop-input
invariant-loop-input g l = Closing (g.F.Files.disk l.initial.files) (g.F.Files.disk l.files) l.initial.inputs.items l.inputs.items l.result

abbrev pub decreases-loop-input : goal.decreases-loop-input
decreases-loop-input g l = goal.left-loop-input g l
