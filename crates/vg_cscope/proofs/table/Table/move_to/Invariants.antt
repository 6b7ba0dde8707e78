use Rattle.vg_cscope.specs.Tables as tables
use Rattle.vg_cscope.specs.Views.{walked}
use Rattle.vg_cscope.proofs.table.Table.move_to.Given as goal

abbrev pub invariant-loop-declaration : goal.invariant-loop-declaration
invariant-loop-declaration l =
    (goal.iterator-loop-declaration).can_next l.declaration-iterator × (goal.iterator-loop-declaration).is_finite l.declaration-iterator
    × tables.IsTable (walked l.walk) l.self.stack.items l.self.heads.items
