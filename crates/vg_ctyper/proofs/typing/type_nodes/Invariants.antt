use Rattle.std.proofs.Common.{◌≡◌}
use Rattle.vg_ctyper.specs.Passes as passes
use Rattle.vg_ctyper.specs.Views.{seen}
use Rattle.vg_ctyper.proofs.typing.type_nodes.Given as goal

abbrev pub invariant-loop-n : goal.invariant-loop-n
invariant-loop-n l = seen l.progress ≡ passes.typed_below l.scopes.text.now l.scopes.tree.now l.scopes.standings.items l.n
