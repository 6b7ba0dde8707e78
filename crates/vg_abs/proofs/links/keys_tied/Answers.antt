use Rattle.std.proofs.Common.{◌∙◌, ap}
use Rattle.std.specs.List.{list_all}
use Rattle.std.specs.FinMap.{entries}
use Rattle.vg_abs.specs.LawfulTests as tests
use Rattle.vg_abs.proofs.LawfulTables.{keyed_all}
use Rattle.vg_abs.proofs.links.keys_tied.Goals as goal

pub returns : goal.returns
returns c =
    c.each_tied.ensures ∙ keyed_all (λ entry. tests.is_mapped c.args.link.now entry.0 entry.1) (λ k. k.items) c.iter.result c.link.inside.keys c.iter.ensures
    ∙ ap (λ l. list_all (λ entry. tests.is_mapped c.args.link.now entry.0 entry.1) (entries l.keys)) c.link.view_is
