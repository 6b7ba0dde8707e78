use Rattle.vg_pcap.proofs.NextPort.{readable_changed}
use Rattle.vg_pcap.proofs.merge.tests.next_filled.Goals as goal

pub next-requires : goal.next-requires
next-requires g c = readable_changed (g.F.Files.disk c.args.files.now) (c.fill_next.ensures _ c.in-Some.ensures.next.1).1.changed c.requires
