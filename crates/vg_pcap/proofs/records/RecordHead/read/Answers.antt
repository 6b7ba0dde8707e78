use Rattle.std.proofs.Common.{arith}
use Rattle.vg_pcap.specs.Reading.{encoding_view}
use Rattle.vg_pcap.proofs.RecordBytes.{HasHead-sixteen}
use Rattle.vg_pcap.proofs.records.RecordHead.read.Goals as goal

pub returns : goal.returns
returns c =
    HasHead-sixteen (encoding_view c.args.encoding) c.args.bytes.now _ c.requires (λ k. omega (arith, c.type_inv.bytes k)) c.word.ensures
    c.word-2.ensures c.word-3.ensures c.word-4.ensures
