use Rattle.std.proofs.Common.{arith}
use Rattle.vg_pcap.specs.Reading.{head_view}
use Rattle.vg_pcap.proofs.RecordBytes.{HasHead-more}
use Rattle.vg_pcap.proofs.records.read_head.Goals as goal

pub returns-then-head-units_per_second-clause-refused :
    goal.returns-then-head-units_per_second-clause-refused
returns-then-head-units_per_second-clause-refused c = λ behind.
    (head_view c.read-head.result, behind, HasHead-more behind c.read-head.ensures, omega arith)

pub returns-then-head-gt-MAX_CAPTURED-clause-refused :
    goal.returns-then-head-gt-MAX_CAPTURED-clause-refused
returns-then-head-gt-MAX_CAPTURED-clause-refused c = λ behind.
    (head_view c.read-head.result, behind, HasHead-more behind c.read-head.ensures, omega arith, omega arith)
