use Rattle.std.proofs.Common.{◌≡◌, ◌∙◌, sym, ap, List, Bool, false}
use Rattle.std.specs.Prelude.{unwrap_or, slice_get}
use Rattle.vg_crows.specs.Record.{Record}
use Rattle.vg_crows.proofs.Marks.{any_marked}
use Rattle.vg_crows.proofs.book.Book.is_changed.Goals as goal

pub returns : goal.returns
returns c =
    let same : c.as_slice.result.now ≡ c.args.self.now.changed = c.as_slice.ensures.value ∙ ap (λ (r : Record). r.changed) c.self.view_is in
    c.is_marked.ensures ∙ ap (λ (flags : List Bool). unwrap_or (slice_get flags c.args.map) false) same
    ∙ sym (any_marked c.args.self.now.changed c.args.map)
