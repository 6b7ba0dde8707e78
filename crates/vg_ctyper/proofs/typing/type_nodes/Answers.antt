use Rattle.vg_ctyper.proofs.Laws.{typed_next}
use Rattle.vg_ctyper.proofs.typing.type_nodes.Goals as goal

pub loop-n-preserved : goal.loop-n-preserved
loop-n-preserved c =
    typed_next c.args.scopes.now.text.now c.args.scopes.now.tree.now c.args.scopes.now.standings.items c.loop-n.n _ _ c.in_ok-type_node.ensures
    c.loop-n.invariant
