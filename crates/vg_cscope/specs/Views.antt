-- What clauses see of what the code passes around.
use Rattle.vg_cscope.specs.declared.walk.Walk.{Walk}
use Rattle.vg_cscope.specs.Names.{Scoped, scoped}

abbrev pub walked : Walk → Scoped
walked walk = scoped walk.text.now walk.tree.now walk.standings.now
