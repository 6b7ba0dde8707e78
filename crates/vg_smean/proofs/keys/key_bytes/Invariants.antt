use Rattle.std.proofs.Common.{◌≡◌, ◌++◌, drop}
use Rattle.vg_smean.specs.Step.{key_bytes}
use Rattle.vg_smean.proofs.keys.key_bytes.Given as goal

abbrev pub invariant-loop-i : goal.invariant-loop-i
invariant-loop-i l = l.bytes.items ++ key_bytes (drop l.i l.fields) (drop l.i l.values) ≡ key_bytes l.fields l.values
