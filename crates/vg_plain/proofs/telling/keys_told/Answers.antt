use Rattle.std.proofs.Common.{◌≡◌, ap, subst, Bool, Some, true, rules}
use Rattle.std.specs.FinMap.{get}
use Rattle.vg_abs.specs.Agreement.{BothTell}
use Rattle.vg_abs.specs.Answers.{listed_or_none}
use Rattle.vg_plain.specs.PlainTables.{key_table, joined}
use Rattle.vg_plain.proofs.KeySlots.{none_listed}
use Rattle.vg_plain.proofs.TellingLaws.{told_all, told_full}
use Rattle.vg_plain.proofs.telling.keys_told.Goals as goal

pub returns : goal.returns
returns c =
    let yes : c.are_listed.result ≡ true = search rules in
    let full : c.args.full ≡ true = search rules in (
      λ all key. told_all c.args.full (joined (get (key_table c.args.indices.now c.args.keys.now.cells) key)) (get c.args.table.now key)
          (c.are_listed.ensures.0 yes key) (λ _ none. ap joined (c.list_all.ensures.0 all key none)),
      λ told. c.list_all.ensures.1 (λ key none. none_listed c.args.indices.now c.args.keys.now.cells key (told_full _ (get c.args.table.now key)
          (subst (λ (f : Bool). BothTell (Some (joined (get (key_table c.args.indices.now c.args.keys.now.cells) key)))
          (listed_or_none f (get c.args.table.now key))) full (told key)) none)),
    )
