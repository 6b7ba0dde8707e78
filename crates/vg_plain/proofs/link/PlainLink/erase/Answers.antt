use Rattle.std.proofs.Common.{◌≤◌, ◌∙◌, ap, sym, subst, arith, refl, length, suc}
use Rattle.std.specs.Prelude.{IsSome}
use Rattle.std.specs.FinMap.{get}
use Rattle.vg_plain.specs.PlainTables.{joined}
use Rattle.vg_plain.specs.LinkStates.{LinkState}
use Rattle.vg_plain.proofs.KeySlots.{cleared}
use Rattle.vg_plain.proofs.LinkLaws.{used, cleared_one, length_cleared}
use Rattle.vg_plain.proofs.link.PlainLink.erase.Goals as goal

pub overflow_sub-self : goal.overflow_sub-self
overflow_sub-self c =
    let some = subst (λ (s : LinkState). IsSome (joined (get s.link.keys c.args.key.now))) (sym c.self.view_is) c.requires in
    omega (arith, cleared_one c.self.inside.indices.items c.self.inside.keys.cells c.args.key.now some, c.self.invariant.few_keys)

pub invariant_of-self : goal.invariant_of-self
invariant_of-self c =
    let some = subst (λ (s : LinkState). IsSome (joined (get s.link.keys c.args.key.now))) (sym c.self.view_is) c.requires in
    let fewer : suc (used c.clear_key.new.indices.items) ≤ used c.self.inside.indices.items =
    rw c.clear_key.ensures (cleared_one c.self.inside.indices.items c.self.inside.keys.cells c.args.key.now some) in
    record {
      few = c.self.invariant.few;
      slots = ap length c.clear_key.ensures ∙ length_cleared c.self.inside.indices.items c.self.inside.keys.cells c.args.key.now ∙ c.self.invariant.slots;
      keys = c.self.invariant.keys;
      key_size = c.self.invariant.key_size;
      places = c.self.invariant.places;
      cells = c.self.invariant.cells;
      cell_size = c.self.invariant.cell_size;
      loans = c.self.invariant.loans;
      few_keys = omega (arith, fewer, c.self.invariant.few_keys);
      size = omega (arith, c.self.invariant.size);
      allocated = c.self.invariant.allocated;
    }

pub returns : goal.returns
returns c = rw (← c.self.view_is) (rw (c.clear_key.ensures, cleared c.self.inside.indices.items c.self.inside.keys.cells c.args.key.now) refl)
