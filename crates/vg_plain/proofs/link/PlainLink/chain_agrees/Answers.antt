use Rattle.std.proofs.Common.{ℕ, ◌≡◌, ◌<◌, ◌∙◌, ap, sym, subst, List, Option, Some, slice_get, length, refl, rules}
use Rattle.std.specs.FinMap.{get}
use Rattle.vg_abs.specs.Agreement.{BothTell}
use Rattle.vg_abs.specs.Answers.{listed_or_none}
use Rattle.vg_plain.specs.PlainTables.{joined}
use Rattle.vg_plain.specs.PlainLinks.{seen_link}
use Rattle.vg_plain.proofs.AgreementLaws.{chains_to, chains_from}
use Rattle.vg_plain.proofs.link.PlainLink.chain_agrees.Goals as goal

pub returns : goal.returns
returns c =
    let count : c.self.inside.count ≡ c.other.inside.count = search rules in
    let highest : c.self.inside.highest ≡ c.other.inside.highest = search rules in
    let places = c.deref.ensures.value in
    let capacity : c.self.inside.capacity ≡ c.other.inside.capacity = ap (λ s. s.link.capacity) c.self.view_is ∙ c.requires
    ∙ sym (ap (λ l. l.capacity) c.other.view_is) in
    rw (← c.self.view_is, ← c.other.view_is) (
      λ yes. chains_to (seen_link c.self.inside).link _ c.args.full c.self.inside.times.items refl (sym c.self.invariant.places) capacity count highest
          (subst (λ (ts : List (Option ℕ)). (index : ℕ) → index < length ts → BothTell (Some (joined (slice_get ts index)))
          (listed_or_none c.args.full (get c.other.inside.times index))) places (c.times_told.ensures.0 yes)),
      λ agree. c.times_told.ensures.1
          (subst (λ (ts : List (Option ℕ)). (index : ℕ) → index < length ts → BothTell (Some (joined (slice_get ts index)))
          (listed_or_none c.args.full (get c.other.inside.times index))) (sym places)
          (chains_from (seen_link c.self.inside).link _ c.args.full c.self.inside.times.items refl (sym c.self.invariant.places) capacity agree)),
    )
