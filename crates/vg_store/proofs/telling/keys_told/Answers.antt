use Rattle.std.proofs.Common.{◌≡◌, ◌≤◌, ℕ, sym, subst, true, rules}
use Rattle.vg_store.specs.RealTables.{indexed}
use Rattle.vg_store.proofs.Counting.{told_if, told_then}
use Rattle.vg_store.proofs.telling.keys_told.Goals as goal

pub returns : goal.returns
returns c =
    let yes : c.are_listed.result ≡ true = search rules in
    let full : c.args.full ≡ true = search rules in
    let told = c.are_listed.ensures.0 yes in
    rw full (
      λ all key. told_if c.args.keys.now.indices c.args.table.now told (subst (λ (n : ℕ). n ≤ indexed c.args.table.now) c.size.ensures.size
          (c.lists.ensures.0 all)) key,
      λ agree. c.lists.ensures.1 (subst (λ (n : ℕ). n ≤ indexed c.args.table.now) (sym c.size.ensures.size)
          (told_then c.args.keys.now.indices c.args.table.now told agree)),
    )
