use Rattle.std.proofs.Common.{◌<◌, ◌∙◌, ap, sym, subst, [], arith}
use Rattle.std.specs.Prelude.{is_some}
use Rattle.std.specs.FinMap.{get}
use Rattle.std.proofs.lemmas.Option.{slice_get-get_or}
use Rattle.vg_store.specs.RealLinks.{Parts, link_of}
use Rattle.vg_store.proofs.LinkSteps.{cell_seen}
use Rattle.vg_store.proofs.link.RealLink.borrow.Goals as goal

pub returns-clause-cell : goal.returns-clause-cell
returns-clause-cell c =
    let inside : c.args.index < c.self.inside.ages.range = subst (λ (p : Parts). c.args.index < (link_of p).capacity) (sym c.self.view_is) c.requires.inside in
    ap is_some (sym (ap (λ (p : Parts). get (link_of p).cells c.args.index) c.self.view_is)
    ∙ cell_seen (record { keys = c.self.inside.keys; ages = c.self.inside.ages; cells = c.self.inside.cells }) c.args.index
    ∙ slice_get-get_or c.self.inside.cells.cells c.args.index [] (omega (arith, inside, c.self.invariant.0.cells)))
