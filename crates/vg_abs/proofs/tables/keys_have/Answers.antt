use Rattle.std.proofs.Common.{◌∙◌}
use Rattle.vg_abs.specs.LawfulTests as tests
use Rattle.vg_abs.proofs.LawfulTables.{keyed_all}
use Rattle.vg_abs.proofs.tables.keys_have.Goals as goal

pub returns : goal.returns
returns c = c.each_has.ensures ∙ keyed_all (λ entry. tests.are_bytes c.args.count entry.0) (λ k. k.items) c.iter.result c.args.keys.now c.iter.ensures
