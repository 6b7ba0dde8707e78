use Rattle.std.proofs.Common.{◌∙◌, ap, map}
use Rattle.std.specs.FinMap.{entries}
use Rattle.vg_abs.proofs.TableLaws.{key-entries}
use Rattle.vg_abs.proofs.keyed.Keyed.iter.Goals as goal

pub returns : goal.returns
returns c =
    ap (λ es. map (λ entry. (entry.0.items, entry.1)) es) c.iter.ensures.rest
    ∙ key-entries (λ k. k.items) c.self.inside.entries.entries c.iter.ensures.ordered ∙ ap entries c.self.view_is
