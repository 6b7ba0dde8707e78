-- The exit statuses of a run that ends without counts.
use Rattle.std.specs.Prelude.{ℕ}
use Rattle.vg_bench.specs.declared.stop.Stop.{Stop}
use Rattle.vg_bench.specs.declared.stop.Stop.TheVariants.{Usage, Memory, Read, Long, Text, Capture, Print, Write, Clauses, Proof}

-- the status for each reason
abbrev pub status_of : Stop → ℕ
status_of Usage = 2
status_of (Clauses line) = 3
status_of (Proof line) = 3
status_of Text = 3
status_of Capture = 5
status_of Read = 6
status_of Print = 7
status_of Write = 7
status_of Memory = 8
status_of Long = 11
