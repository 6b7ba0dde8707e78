use Rattle.std.proofs.Common.{◌≡◌, drop}
use Rattle.vg_cmemory.specs.State.{sizes}
use Rattle.vg_cmean.specs.Meaning as meaning
use Rattle.vg_cmean.proofs.calls.end_all.Given as goal

abbrev pub invariant-loop-node : goal.invariant-loop-node
invariant-loop-node l = (sizes l.memory ≡ sizes l.initial.memory)
    × (meaning.ended (drop l.node-index l.nodes) l.memory ≡ meaning.ended l.nodes l.initial.memory)
