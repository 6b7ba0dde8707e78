use Rattle.std.proofs.Common.{◌≡◌, ◌∙◌, ap, sym, rules}
use Rattle.vg_dchain.proofs.IndexLemmas.{AllBelow-front}
use Rattle.vg_dchain.specs.ChainState.{indices}
use Rattle.vg_plain.proofs.AgreementLaws.{chains_to, chains_from}
use Rattle.vg_store.specs.RealLinks.{Parts, link_of}
use Rattle.vg_store.proofs.TimeLists.{times_of, length_times, age_times, told_times, times_told}
use Rattle.vg_store.proofs.link.RealLink.chain_agrees.Goals as goal

pub returns : goal.returns
returns c =
    let was : Parts = record { keys = c.self.inside.keys; ages = c.self.inside.ages; cells = c.self.inside.cells } in
    let ages = c.self.inside.ages in
    let below = AllBelow-front ages.range (indices ages.entries) ages.free c.self.invariant.0.lawful.below in
    let count : (link_of was).count ≡ c.other.inside.count = search rules in
    let highest : (link_of was).highest ≡ c.other.inside.highest = search rules in
    let capacity : (link_of was).capacity ≡ c.other.inside.capacity = ap (λ (p : Parts). (link_of p).capacity) c.self.view_is ∙ c.requires
    ∙ sym (ap (λ l. l.capacity) c.other.view_is) in
    let times = times_of ages.range ages.entries in
    rw (← c.self.view_is, ← c.other.view_is) (
      λ yes. chains_to (link_of was) _ c.args.full times (age_times ages.range ages.entries below) (sym (length_times ages.range ages.entries))
          capacity count highest
          (times_told ages.range ages.entries c.args.full c.other.inside.times below (c.times_told.ensures.0 yes)),
      λ agree. c.times_told.ensures.1 (told_times ages.range ages.entries c.args.full c.other.inside.times below
          (chains_from (link_of was) _ c.args.full times (age_times ages.range ages.entries below) (sym (length_times ages.range ages.entries))
          capacity agree)),
    )
