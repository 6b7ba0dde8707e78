use Rattle.std.proofs.Common.{◌≡◌, ◌+◌, ◌∷◌, [], ◌++◌, List, rules, refl, subst, sym, ap, ◌∙◌, length}
use Rattle.std.specs.Prelude.{ℕ, slice_set}
use Rattle.std.proofs.lemmas.Option.{slice_get_read}
use Rattle.vg_cscope.specs.declared.table.Entry.{Entry}
use Rattle.vg_cscope.specs.Scopes.{seen_at}
use Rattle.vg_cscope.specs.Tables as tables
use Rattle.vg_cscope.specs.Views.{walked}
use Rattle.vg_cscope.proofs.Stacking.{entered}
use Rattle.vg_cscope.proofs.table.Table.enter.Goals as goal

pub returns : goal.returns
returns c =
    let s = walked c.args.walk.now in
    let stack : List Entry = c.args.self.now.stack.items in
    let heads : List ℕ = c.args.self.now.heads.items in
    let entry : Entry = record { declaration = c.args.declaration; bucket = c.bucket_at-bucket.result; below = c.index-below.result.now } in
    let long : c.len-height.result ≡ length stack = search rules in
    let sees : seen_at c.args.walk.now.standings.now c.args.declaration ≡ tables.at stack (length stack) = search rules in
    let below = slice_get_read heads (length heads) c.bucket_at-bucket.result c.index-below.result.now refl c.bucket_at-bucket.ensures.below
    c.index-below.ensures in
    let table : tables.IsTable s (stack ++ entry ∷ []) (slice_set heads entry.bucket (length stack + 1)) =
    entered s stack entry heads c.requires sees c.bucket_at-bucket.ensures.value below in
    subst (λ xs. tables.IsTable s xs c.remember.new.self.heads.items) (sym (c.remember.ensures.stack ∙ c.in_ok-push.ensures.items))
    (subst (λ hs. tables.IsTable s (stack ++ entry ∷ []) hs) (sym (c.remember.ensures.heads ∙ ap (λ n. slice_set heads entry.bucket (n + 1)) long)) table)
