use Rattle.std.proofs.Common.{◌+◌, ◌++◌, ◌∙◌, ap, sym, subst, length, take, drop}
use Rattle.std.specs.Prelude.{IsSome}
use Rattle.std.specs.FinMap.{get}
use Rattle.std.proofs.lemmas.List.{length-set}
use Rattle.std.proofs.lemmas.Option.{slice_get_within}
use Rattle.vg_vector.specs.Cells.{CellList}
use Rattle.vg_plain.proofs.ListPlaces.{some_of}
use Rattle.vg_store.specs.RealLinks.{Parts, link_of}
use Rattle.vg_store.proofs.LinkSteps.{cell_seen, store_seen, cells_linked}
use Rattle.vg_store.proofs.link.RealLink.store.Goals as goal

pub store-requires-clause-within : goal.store-requires-clause-within
store-requires-clause-within c cell there =
    let was : Parts = record { keys = c.self.inside.keys; ages = c.self.inside.ages; cells = c.self.inside.cells } in
    c.requires.within cell (sym (ap (λ (p : Parts). get (link_of p).cells c.args.index) c.self.view_is) ∙ cell_seen was c.args.index ∙ there)

pub invariant_of-self : goal.invariant_of-self
invariant_of-self c =
    let was : Parts = record { keys = c.self.inside.keys; ages = c.self.inside.ages; cells = c.self.inside.cells } in
    let cell = some_of _ c.store.ensures.cell in
    let is = c.store.ensures.stored cell.0 cell.1 in (
      cells_linked was c.store.new.self c.self.invariant.0 (ap (λ (v : CellList). length v.cells) is
          ∙ length-set c.self.inside.cells.cells c.args.index _) (ap (λ (v : CellList). length v.lent) is) (ap (λ (v : CellList). v.size) is),
      c.self.invariant.1,
      c.self.invariant.2,
    )

pub returns-clause-cell : goal.returns-clause-cell
returns-clause-cell c =
    let was : Parts = record { keys = c.self.inside.keys; ages = c.self.inside.ages; cells = c.self.inside.cells } in
    subst IsSome (sym (sym (ap (λ (p : Parts). get (link_of p).cells c.args.index) c.self.view_is) ∙ cell_seen was c.args.index)) c.store.ensures.cell

pub returns-clause-stored : goal.returns-clause-stored
returns-clause-stored c cell there =
    let was : Parts = record { keys = c.self.inside.keys; ages = c.self.inside.ages; cells = c.self.inside.cells } in
    let found = sym (cell_seen was c.args.index) ∙ ap (λ (p : Parts). get (link_of p).cells c.args.index) c.self.view_is ∙ there in
    rw (← c.self.view_is) (rw (c.store.ensures.stored cell found) (store_seen was c.args.index
    (take c.args.from cell ++ c.args.bytes.now ++ drop (c.args.from + length c.args.bytes.now) cell)
    (slice_get_within c.self.inside.cells.cells c.args.index cell found)))
