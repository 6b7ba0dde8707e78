use Rattle.std.proofs.Common.{◌∙◌, ap}
use Rattle.std.specs.FinMap as map
use Rattle.vg_abs.proofs.TableLaws.{number-remove}
use Rattle.vg_abs.proofs.numbered.Numbered.remove.Goals as goal

pub returns : goal.returns
returns g c =
    number-remove c.self.inside.entries.entries c.remove.new.self.entries c.args.number c.len-count.ensures.ordered c.remove.ensures.entries
    ∙ ap (λ table. map.remove table c.args.number) c.self.view_is
