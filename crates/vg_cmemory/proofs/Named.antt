-- Names of cells, which are objects of another memory.
use Rattle.std.proofs.Common.{refl}
use Rattle.vg_cmemory.specs.declared.object.Object.TheVariants as objects
use Rattle.vg_cmemory.specs.Laws.{CellsAreElsewhere, NamesChangeNothing}

pub elsewhere : CellsAreElsewhere
elsewhere own vector index number = refl

pub names : NamesChangeNothing
names own (objects.Declared node number) = (refl, refl)
names own (objects.Chunk number) = (refl, refl)
names own (objects.Cell vector index number) = (refl, refl)
