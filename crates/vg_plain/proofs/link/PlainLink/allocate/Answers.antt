use Rattle.std.proofs.Common.{ℕ, ◌≡◌, ◌+◌, ◌∙◌, ap, sym, subst, arith, refl, slice_get, Some, None, List, Option}
use Rattle.std.specs.FinMap.{get}
use Rattle.std.proofs.lemmas.List.{length-set}
use Rattle.std.proofs.lemmas.Option.{slice_get_within}
use Rattle.vg_plain.specs.LinkStates.{LinkState}
use Rattle.vg_plain.proofs.Places.{time_set}
use Rattle.vg_plain.proofs.LinkLaws.{not_full, one_used, free_at, free_is}
use Rattle.vg_plain.proofs.link.PlainLink.allocate.Goals as goal

pub overflow_add-self : goal.overflow_add-self
overflow_add-self c =
    let free : slice_get c.self.inside.times.items c.in_ok-i.i ≡ Some None =
    subst (λ (places : List (Option ℕ)). slice_get places c.in_ok-i.i ≡ Some None) c.deref.ensures.value c.in_ok-i.ensures.free in
    omega (arith, not_full c.self.inside.times.items c.in_ok-i.i c.args.now free, c.self.invariant.places, c.self.invariant.allocated, c.self.invariant.few)

pub overflow_cast-result : goal.overflow_cast-result
overflow_cast-result c =
    let free : slice_get c.self.inside.times.items c.in_ok-i.i ≡ Some None =
    subst (λ (places : List (Option ℕ)). slice_get places c.in_ok-i.i ≡ Some None) c.deref.ensures.value c.in_ok-i.ensures.free in
    omega (arith, slice_get_within c.self.inside.times.items c.in_ok-i.i None free, c.self.invariant.places, c.self.invariant.few)

pub invariant_of-self : goal.invariant_of-self
invariant_of-self c =
    let free : slice_get c.self.inside.times.items c.in_ok-i.i ≡ Some None =
    subst (λ (places : List (Option ℕ)). slice_get places c.in_ok-i.i ≡ Some None) c.deref.ensures.value c.in_ok-i.ensures.free in
    record {
      few = c.self.invariant.few;
      slots = c.self.invariant.slots;
      keys = c.self.invariant.keys;
      key_size = c.self.invariant.key_size;
      places = length-set c.self.inside.times.items c.in_ok-i.i _ ∙ c.self.invariant.places;
      cells = c.self.invariant.cells;
      cell_size = c.self.invariant.cell_size;
      loans = c.self.invariant.loans;
      few_keys = c.self.invariant.few_keys;
      size = c.self.invariant.size;
      allocated = one_used c.self.inside.times.items c.in_ok-i.i c.args.now free ∙ ap (λ (n : ℕ). n + 1) c.self.invariant.allocated;
    }

pub returns-clause-inside : goal.returns-clause-inside
returns-clause-inside c =
    let free : slice_get c.self.inside.times.items c.in_ok-i.i ≡ Some None =
    subst (λ (places : List (Option ℕ)). slice_get places c.in_ok-i.i ≡ Some None) c.deref.ensures.value c.in_ok-i.ensures.free in
    let below = slice_get_within c.self.inside.times.items c.in_ok-i.i None free in
    let more = not_full c.self.inside.times.items c.in_ok-i.i c.args.now free in
    rw (← c.self.view_is) (
      omega (arith, below, c.self.invariant.places),
      λ full. (let all : c.self.inside.count ≡ c.self.inside.capacity = full in
          absurd (omega (arith, more, all, c.self.invariant.places, c.self.invariant.allocated))),
    )

pub returns-clause-free : goal.returns-clause-free
returns-clause-free c =
    let free : slice_get c.self.inside.times.items c.in_ok-i.i ≡ Some None =
    subst (λ (places : List (Option ℕ)). slice_get places c.in_ok-i.i ≡ Some None) c.deref.ensures.value c.in_ok-i.ensures.free in
    sym (ap (λ (s : LinkState). get s.link.times c.in_ok-i.i) c.self.view_is) ∙ free_at c.self.inside.times.items c.in_ok-i.i free

pub returns-clause-least : goal.returns-clause-least
returns-clause-least c other less none =
    let free : slice_get c.self.inside.times.items c.in_ok-i.i ≡ Some None =
    subst (λ (places : List (Option ℕ)). slice_get places c.in_ok-i.i ≡ Some None) c.deref.ensures.value c.in_ok-i.ensures.free in
    let below = slice_get_within c.self.inside.times.items c.in_ok-i.i None free in
    c.in_ok-i.ensures.first other less (ap (λ (places : List (Option ℕ)). slice_get places other) c.deref.ensures.value
    ∙ free_is c.self.inside.times.items other (omega arith) (ap (λ (s : LinkState). get s.link.times other) c.self.view_is ∙ none))

pub returns-clause-handed : goal.returns-clause-handed
returns-clause-handed c =
    let free : slice_get c.self.inside.times.items c.in_ok-i.i ≡ Some None =
    subst (λ (places : List (Option ℕ)). slice_get places c.in_ok-i.i ≡ Some None) c.deref.ensures.value c.in_ok-i.ensures.free in
    rw (← c.self.view_is) (rw (time_set c.self.inside.times.items c.in_ok-i.i c.args.now (slice_get_within c.self.inside.times.items c.in_ok-i.i None
    free)) refl)
