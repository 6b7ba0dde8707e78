use Rattle.vg_cmemory.proofs.Named.{elsewhere, names}
use Rattle.vg_cmemory.proofs.laws.cells_are_elsewhere.Goals as goal

pub returns-clause-elsewhere : goal.returns-clause-elsewhere
returns-clause-elsewhere c = elsewhere

pub returns-clause-names : goal.returns-clause-names
returns-clause-names c = names
