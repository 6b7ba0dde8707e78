use Rattle.std.proofs.Common.{ℕ, ◌≡◌, sym, subst, Option, Some, rules}
use Rattle.std.specs.FinMap.{get}
use Rattle.vg_abs.specs.Agreement.{BothTell}
use Rattle.vg_abs.specs.Answers.{listed_or_none}
use Rattle.vg_plain.proofs.AgreementLaws.{maps_to, maps_from}
use Rattle.vg_store.specs.RealLinks.{Parts, link_of}
use Rattle.vg_store.proofs.TableLaws.{key_joined}
use Rattle.vg_store.proofs.link.RealLink.map_agrees.Goals as goal

pub returns : goal.returns
returns c =
    let was : Parts = record { keys = c.self.inside.keys; ages = c.self.inside.ages; cells = c.self.inside.cells } in
    let size : (link_of was).size ≡ c.other.inside.size = search rules in
    rw (← c.self.view_is, ← c.other.view_is) (
      λ yes. maps_to (link_of was) _ c.args.full size
          (λ key. subst (λ (i : Option ℕ). BothTell (Some i) (listed_or_none c.args.full (get c.other.inside.keys key)))
          (sym (key_joined c.self.inside.keys.indices key)) (c.keys_told.ensures.0 yes key)),
      λ agree. c.keys_told.ensures.1 (λ key. subst (λ (i : Option ℕ). BothTell (Some i) (listed_or_none c.args.full (get c.other.inside.keys key)))
          (key_joined c.self.inside.keys.indices key) (maps_from (link_of was) _ c.args.full agree key)),
    )
