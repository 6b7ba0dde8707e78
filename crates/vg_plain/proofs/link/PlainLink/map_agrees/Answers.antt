use Rattle.std.proofs.Common.{ℕ, ◌≡◌, sym, subst, List, Option, Some, rules}
use Rattle.std.specs.FinMap.{get}
use Rattle.vg_abs.specs.Agreement.{BothTell}
use Rattle.vg_abs.specs.Answers.{listed_or_none}
use Rattle.vg_plain.specs.PlainTables.{key_table, joined}
use Rattle.vg_plain.specs.PlainLinks.{seen_link}
use Rattle.vg_plain.proofs.AgreementLaws.{maps_to, maps_from}
use Rattle.vg_plain.proofs.link.PlainLink.map_agrees.Goals as goal

pub returns : goal.returns
returns c =
    let size : c.self.inside.size ≡ c.other.inside.size = search rules in
    let slots = c.deref.ensures.value in
    rw (← c.self.view_is, ← c.other.view_is) (
      λ yes. maps_to (seen_link c.self.inside).link _ c.args.full size
          (λ key. subst (λ (is : List (Option ℕ)). BothTell (Some (joined (get (key_table is c.self.inside.keys.cells) key)))
          (listed_or_none c.args.full (get c.other.inside.keys key))) slots (c.keys_told.ensures.0 yes key)),
      λ agree. c.keys_told.ensures.1 (λ key. subst
          (λ (is : List (Option ℕ)). BothTell (Some (joined (get (key_table is c.self.inside.keys.cells) key)))
          (listed_or_none c.args.full (get c.other.inside.keys key))) (sym slots) (maps_from (seen_link c.self.inside).link _ c.args.full agree key)),
    )
