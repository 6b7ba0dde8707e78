use Rattle.std.proofs.Common.{◌∙◌, ap}
use Rattle.std.specs.FinMap as map
use Rattle.vg_abs.proofs.TableLaws.{number-insert}
use Rattle.vg_abs.proofs.numbered.Numbered.insert.Goals as goal

pub returns-clause-inserted : goal.returns-clause-inserted
returns-clause-inserted g c =
    number-insert c.self.inside.entries.entries c.insert.new.self.entries c.args.number c.args.value c.in_ok-insert.ensures.entries
    ∙ ap (λ table. map.insert table c.args.number c.args.value) c.self.view_is
