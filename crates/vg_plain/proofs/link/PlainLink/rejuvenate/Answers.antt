use Rattle.std.proofs.Common.{◌<◌, ◌∙◌, sym, subst, arith, refl}
use Rattle.std.specs.Prelude.{IsSome}
use Rattle.std.specs.FinMap.{get}
use Rattle.std.proofs.lemmas.List.{length-set}
use Rattle.vg_plain.specs.PlainTables.{joined}
use Rattle.vg_plain.specs.LinkStates.{LinkState}
use Rattle.vg_plain.proofs.Places.{time_set}
use Rattle.vg_plain.proofs.LinkLaws.{one_kept}
use Rattle.vg_plain.proofs.link.PlainLink.rejuvenate.Goals as goal

pub invariant_of-self : goal.invariant_of-self
invariant_of-self c =
    let some = subst (λ (s : LinkState). IsSome (joined (get s.link.times c.args.index))) (sym c.self.view_is) c.requires.allocated in
    record {
      few = c.self.invariant.few;
      slots = c.self.invariant.slots;
      keys = c.self.invariant.keys;
      key_size = c.self.invariant.key_size;
      places = length-set c.self.inside.times.items c.args.index _ ∙ c.self.invariant.places;
      cells = c.self.invariant.cells;
      cell_size = c.self.invariant.cell_size;
      loans = c.self.invariant.loans;
      few_keys = c.self.invariant.few_keys;
      size = c.self.invariant.size;
      allocated = one_kept c.self.inside.times.items c.args.index c.args.now some ∙ c.self.invariant.allocated;
    }

pub returns : goal.returns
returns c =
    let inside : c.args.index < c.self.inside.capacity = subst (λ (s : LinkState). c.args.index < s.link.capacity) (sym c.self.view_is) c.requires.inside in
    rw (← c.self.view_is) (rw (time_set c.self.inside.times.items c.args.index c.args.now (omega (arith, inside, c.self.invariant.places))) refl)
