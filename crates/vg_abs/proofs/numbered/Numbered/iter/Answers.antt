use Rattle.std.proofs.Common.{◌∙◌, ap}
use Rattle.std.specs.FinMap.{entries}
use Rattle.vg_abs.proofs.TableLaws.{number-entries}
use Rattle.vg_abs.proofs.numbered.Numbered.iter.Goals as goal

pub returns : goal.returns
returns g c = c.iter.ensures.rest ∙ number-entries c.self.inside.entries.entries c.iter.ensures.ordered ∙ ap entries c.self.view_is
