use Rattle.std.proofs.Common.{◌∙◌, sym, ap}
use Rattle.vg_doubles.specs.Named.{Named}
use Rattle.vg_doubles.proofs.NamedLists.{bytes_at-get}
use Rattle.vg_doubles.proofs.reading.bytes_of.Goals as goal

pub returns : goal.returns
returns c =
    c.as_slice.ensures.value ∙ ap (λ (file : Named). file.1.items) (sym c.index-held-i.is)
    ∙ sym (bytes_at-get c.args.held.now c.args.i c.index-held-i.result c.requires c.index-held-i.is)
