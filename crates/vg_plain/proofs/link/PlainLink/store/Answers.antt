use Rattle.std.proofs.Common.{◌≡◌, ◌+◌, ◌++◌, ◌∙◌, ap, sym, subst, arith, refl, length, take, drop, [], get_or, slice_get, false, true}
use Rattle.std.specs.Prelude.{unwrap_or, is_some}
use Rattle.std.specs.FinMap.{get}
use Rattle.std.proofs.lemmas.List.{length-set}
use Rattle.std.proofs.lemmas.Option.{slice_get-get_or, slice_get_within}
use Rattle.vg_plain.specs.LinkStates.{LinkState}
use Rattle.vg_plain.proofs.ListPlaces.{lent_inside}
use Rattle.vg_plain.proofs.Places.{cell_is, cell_set}
use Rattle.vg_plain.proofs.link.PlainLink.store.Goals as goal

pub write_cell-requires-clause-cell : goal.write_cell-requires-clause-cell
write_cell-requires-clause-cell c =
    let below = lent_inside c.self.inside.cells.lent c.args.index (subst (λ (s : LinkState). unwrap_or (slice_get s.lent c.args.index) false ≡ true)
    (sym c.self.view_is) c.requires.lent) in
    omega (arith, below, c.self.invariant.loans, c.self.invariant.cells)

pub write_cell-requires-clause-within : goal.write_cell-requires-clause-within
write_cell-requires-clause-within c cell there =
    c.requires.within cell (sym (ap (λ (s : LinkState). get s.link.cells c.args.index) c.self.view_is) ∙ cell_is c.self.inside.cells.cells c.args.index ∙ there)

pub invariant_of-self : goal.invariant_of-self
invariant_of-self c =
    let below = lent_inside c.self.inside.cells.lent c.args.index (subst (λ (s : LinkState). unwrap_or (slice_get s.lent c.args.index) false ≡ true)
    (sym c.self.view_is) c.requires.lent) in
    let is = c.write_cell.ensures (get_or c.self.inside.cells.cells c.args.index []) (slice_get-get_or c.self.inside.cells.cells c.args.index []
    (omega (arith, below, c.self.invariant.cells, c.self.invariant.loans))) in
    record {
      few = c.self.invariant.few;
      slots = c.self.invariant.slots;
      keys = c.self.invariant.keys;
      key_size = c.self.invariant.key_size;
      places = c.self.invariant.places;
      cells = ap (λ all. length all.cells) is ∙ length-set c.self.inside.cells.cells c.args.index _ ∙ c.self.invariant.cells;
      cell_size = ap (λ all. all.size) is ∙ c.self.invariant.cell_size;
      loans = ap (λ all. length all.lent) is ∙ c.self.invariant.loans;
      few_keys = c.self.invariant.few_keys;
      size = c.self.invariant.size;
      allocated = c.self.invariant.allocated;
    }

pub returns-clause-cell : goal.returns-clause-cell
returns-clause-cell c =
    let below = lent_inside c.self.inside.cells.lent c.args.index (subst (λ (s : LinkState). unwrap_or (slice_get s.lent c.args.index) false ≡ true)
    (sym c.self.view_is) c.requires.lent) in
    ap is_some (sym (ap (λ (s : LinkState). get s.link.cells c.args.index) c.self.view_is) ∙ cell_is c.self.inside.cells.cells c.args.index
    ∙ slice_get-get_or c.self.inside.cells.cells c.args.index [] (omega (arith, below, c.self.invariant.cells, c.self.invariant.loans)))

pub returns-clause-stored : goal.returns-clause-stored
returns-clause-stored c cell there =
    let found = sym (cell_is c.self.inside.cells.cells c.args.index) ∙ ap (λ (s : LinkState). get s.link.cells c.args.index) c.self.view_is ∙ there in
    let inside = slice_get_within c.self.inside.cells.cells c.args.index cell found in
    rw (← c.self.view_is) (rw (c.write_cell.ensures cell found)
    (rw (cell_set c.self.inside.cells.cells c.args.index (take c.args.from cell ++ c.args.bytes.now
    ++ drop (c.args.from + length c.args.bytes.now) cell) inside) refl))
