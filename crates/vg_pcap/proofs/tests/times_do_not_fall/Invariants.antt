use Rattle.vg_doubles.specs.Memory.{disk_of}
use Rattle.vg_pcap.specs.Reader.{IsReadable}
use Rattle.vg_pcap.proofs.tests.times_do_not_fall.Given as goal

abbrev pub invariant-loop-time : goal.invariant-loop-time
invariant-loop-time g l = IsReadable (disk_of l.files) l.reader.id
