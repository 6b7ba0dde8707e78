use Rattle.std.proofs.Common.{◌∙◌, ap, sym, length}
use Rattle.std.specs.Ordering.{nat_cmp}
use Rattle.std.specs.FinMap.{len, len-entries, from_entries}
use Rattle.vg_abs.proofs.TableLaws.{number-entries}
use Rattle.vg_abs.proofs.numbered.Numbered.len.Goals as goal

pub returns : goal.returns
returns g c =
    c.len.ensures.len ∙ ap length (number-entries c.self.inside.entries.entries c.len.ensures.ordered)
    ∙ sym (len-entries (from_entries {R = nat_cmp} c.self.inside.entries.entries)) ∙ ap len c.self.view_is
