use Rattle.std.proofs.Common.{◌∙◌, ap, sym, length, map}
use Rattle.std.specs.Ordering.{nat_cmp}
use Rattle.std.specs.Cmp.Lexicographic.{slice_cmp}
use Rattle.std.specs.FinMap.{len, len-entries, from_entries}
use Rattle.std.proofs.lemmas.List.{length-map}
use Rattle.vg_abs.proofs.TableLaws.{key-entries}
use Rattle.vg_abs.proofs.keyed.Keyed.len.Goals as goal

pub returns : goal.returns
returns c =
    c.len.ensures.len ∙ sym (length-map c.self.inside.entries.entries (λ entry. (entry.0.items, entry.1)))
    ∙ ap length (key-entries (λ k. k.items) c.self.inside.entries.entries c.len.ensures.ordered)
    ∙ sym (len-entries (from_entries {R = slice_cmp nat_cmp} (map (λ entry. (entry.0.items, entry.1)) c.self.inside.entries.entries))) ∙ ap len c.self.view_is
