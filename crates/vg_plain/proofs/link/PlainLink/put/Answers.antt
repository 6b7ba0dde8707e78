use Rattle.std.proofs.Common.{ℕ, ◌≡◌, ◌<◌, ◌∙◌, ap, sym, subst, arith, refl, length, slice_get, Some, None, List, Option}
use Rattle.std.specs.FinMap.{get}
use Rattle.std.proofs.lemmas.List.{length-set}
use Rattle.std.proofs.lemmas.Option.{slice_get_within}
use Rattle.vg_plain.specs.PlainTables.{joined}
use Rattle.vg_plain.specs.LinkStates.{LinkState}
use Rattle.vg_plain.proofs.KeySlots.{put_in, none_listed}
use Rattle.vg_plain.proofs.LinkLaws.{one_used}
use Rattle.vg_plain.proofs.link.PlainLink.put.Goals as goal

pub invariant_of-self : goal.invariant_of-self
invariant_of-self c =
    let free : slice_get c.self.inside.indices.items c.in-Some.i ≡ Some None =
    subst (λ (places : List (Option ℕ)). slice_get places c.in-Some.i ≡ Some None) c.deref.ensures.value c.in-Some.ensures.free in
    let room : c.self.inside.size < c.self.inside.capacity = subst (λ (s : LinkState). s.link.size < s.link.capacity) (sym c.self.view_is) c.requires.room in
    record {
      few = c.self.invariant.few;
      slots = length-set c.self.inside.indices.items c.in-Some.i _ ∙ c.self.invariant.slots;
      keys = ap (λ all. length all.cells) c.fill_cell.ensures ∙ length-set c.self.inside.keys.cells c.in-Some.i _ ∙ c.self.invariant.keys;
      key_size = ap (λ all. all.size) c.fill_cell.ensures ∙ c.self.invariant.key_size;
      places = c.self.invariant.places;
      cells = c.self.invariant.cells;
      cell_size = c.self.invariant.cell_size;
      loans = c.self.invariant.loans;
      few_keys = omega (arith, one_used c.self.inside.indices.items c.in-Some.i c.args.index free, c.self.invariant.few_keys);
      size = omega (arith, room);
      allocated = c.self.invariant.allocated;
    }

pub returns-in-Some : goal.returns-in-Some
returns-in-Some c =
    let free : slice_get c.self.inside.indices.items c.in-Some.i ≡ Some None =
    subst (λ (places : List (Option ℕ)). slice_get places c.in-Some.i ≡ Some None) c.deref.ensures.value c.in-Some.ensures.free in
    let absent = none_listed c.self.inside.indices.items c.self.inside.keys.cells c.args.key.now
    (subst (λ (s : LinkState). joined (get s.link.keys c.args.key.now) ≡ None) (sym c.self.view_is) c.requires.absent) in
    let inside = slice_get_within c.self.inside.indices.items c.in-Some.i None free in
    rw (← c.self.view_is) (rw (
      c.fill_cell.ensures,
      put_in c.self.inside.indices.items c.self.inside.keys.cells c.args.key.now c.in-Some.i c.args.index free
          (omega (arith, inside, c.self.invariant.slots, c.self.invariant.keys)) absent,
    ) refl)
