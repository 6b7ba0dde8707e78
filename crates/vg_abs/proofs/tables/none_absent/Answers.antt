use Rattle.std.proofs.Common.{◌∙◌}
use Rattle.std.specs.Prelude.{is_some}
use Rattle.vg_abs.proofs.LawfulTables.{keyed_all}
use Rattle.vg_abs.proofs.tables.none_absent.Goals as goal

pub returns : goal.returns
returns c = c.each_mapped.ensures ∙ keyed_all (λ entry. is_some entry.1) (λ k. k.items) c.iter.result c.args.keys.now c.iter.ensures
