use Rattle.std.proofs.Common.{◌∙◌, ap}
use Rattle.std.specs.FinMap as map
use Rattle.vg_abs.proofs.TableLaws.{number-get}
use Rattle.vg_abs.proofs.numbered.Numbered.get.Goals as goal

pub returns : goal.returns
returns g c = c.get.ensures.value ∙ number-get c.self.inside.entries.entries c.args.number ∙ ap (λ table. map.get table c.args.number) c.self.view_is
