-- What clauses see of what the code passes around.
use Rattle.vg_ctyper.specs.Names.{Known}
use Rattle.vg_ctyper.specs.declared.given.Given.{Given}
use Rattle.vg_ctyper.specs.declared.typing.Progress.{Progress}
use Rattle.vg_ctyper.specs.Passes as passes

abbrev pub known : Given → Known
known given = record {
  text = given.scopes.now.text.now;
  tree = given.scopes.now.tree.now;
  standings = given.scopes.now.standings.items;
  notes =
      given.notes.now;
}

abbrev pub seen : Progress → passes.Progress
seen p = record { notes = p.notes.items; locals = p.locals; first = p.first }
