use Rattle.std.proofs.Common.{ℕ, ◌≡◌, ◌∙◌, ap, sym, subst, arith, refl, length, map, Some, List, Option}
use Rattle.std.proofs.lemmas.List.{length-map}
use Rattle.vg_plain.specs.Expiring.{kept_time}
use Rattle.vg_plain.specs.LinkStates.{LinkState, IsKeyed}
use Rattle.vg_plain.specs.PlainLinks.{seen_link}
use Rattle.vg_plain.proofs.LinkLaws.{used}
use Rattle.vg_plain.proofs.ExpiredLinks.{early_entries, used_kept, expired_table, expired_keys_are, tied_lists}
use Rattle.vg_plain.proofs.link.PlainLink.expire.Goals as goal

pub expire_places-freed-requires-clause-tied : goal.expire_places-freed-requires-clause-tied
expire_places-freed-requires-clause-tied c = tied_lists c.self.inside.indices.items c.self.inside.keys.cells c.self.inside.times.items
    c.self.inside.cells.cells (subst (λ (s : LinkState). IsKeyed s.link) (sym c.self.view_is) c.requires)

pub overflow_sub-self-2 : goal.overflow_sub-self-2
overflow_sub-self-2 c = omega (arith, used_kept c.args.before c.self.inside.times.items, c.expire_places-freed.ensures.freed, c.self.invariant.allocated)

pub invariant_of-self : goal.invariant_of-self
invariant_of-self c =
    let kept : used c.expire_places-freed.new.times.items ≡ used (map (kept_time c.args.before) c.self.inside.times.items) =
    ap (λ (ts : List (Option ℕ)). used ts) c.expire_places-freed.ensures.times in
    record {
      few = c.self.invariant.few;
      slots = omega (arith, c.expire_places-freed.ensures.slots, c.self.invariant.slots);
      keys = c.self.invariant.keys;
      key_size = c.self.invariant.key_size;
      places = ap length c.expire_places-freed.ensures.times ∙ length-map c.self.inside.times.items (kept_time c.args.before) ∙ c.self.invariant.places;
      cells = c.self.invariant.cells;
      cell_size = c.self.invariant.cell_size;
      loans = c.self.invariant.loans;
      few_keys = omega (arith, c.expire_places-freed.ensures.few, c.self.invariant.few_keys);
      size = omega (arith, c.self.invariant.size);
      allocated = omega (arith, kept, used_kept c.args.before c.self.inside.times.items, c.expire_places-freed.ensures.freed, c.self.invariant.allocated);
    }

pub returns-clause-freed : goal.returns-clause-freed
returns-clause-freed c = rw (← c.self.view_is) (ap Some (c.expire_places-freed.ensures.freed ∙ early_entries c.args.before c.self.inside.times.items))

pub returns-clause-expired : goal.returns-clause-expired
returns-clause-expired c =
    let tied = tied_lists c.self.inside.indices.items c.self.inside.keys.cells c.self.inside.times.items c.self.inside.cells.cells
    (subst (λ (s : LinkState). IsKeyed s.link) (sym c.self.view_is) c.requires) in
    rw (← c.self.view_is) (rw (
      c.expire_places-freed.ensures.times,
      expired_table (seen_link c.self.inside).link c.args.before c.self.inside.times.items refl (sym c.self.invariant.places),
      expired_keys_are (seen_link c.self.inside).link c.args.before c.self.inside.indices.items c.expire_places-freed.new.indices.items
          c.self.inside.keys.cells c.self.inside.times.items c.self.inside.cells.cells tied refl refl c.expire_places-freed.ensures.keys,
    ) refl)
