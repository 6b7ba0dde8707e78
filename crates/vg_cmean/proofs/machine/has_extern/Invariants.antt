use Rattle.std.proofs.Common.{◌≡◌, drop}
use Rattle.vg_cmean.specs.Runs.{has_extern}
use Rattle.vg_cmean.proofs.machine.has_extern.Given as goal

abbrev pub invariant-loop-node : goal.invariant-loop-node
invariant-loop-node l = has_extern (drop l.node-index l.nodes) ≡ has_extern l.nodes
