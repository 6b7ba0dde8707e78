use Rattle.std.proofs.Common.{◌≡◌, ◌<◌, drop}
use Rattle.vg_cscope.specs.Tables as tables
use Rattle.vg_cscope.proofs.table.bucket.Given as goal

abbrev pub invariant-loop-byte : goal.invariant-loop-byte
invariant-loop-byte l = (l.hash < 4294967296) × (tables.hashed l.hash (drop l.byte-index l.bytes) ≡ tables.hashed 0 l.bytes)
