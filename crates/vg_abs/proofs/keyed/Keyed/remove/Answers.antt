use Rattle.std.proofs.Common.{◌∙◌, ap, ℕ, Vec}
use Rattle.std.specs.declared.alloc.Global.{Global}
use Rattle.std.specs.FinMap as map
use Rattle.vg_abs.proofs.TableLaws.{key-remove}
use Rattle.vg_abs.proofs.keyed.Keyed.remove.Goals as goal

pub returns : goal.returns
returns c =
    key-remove (λ (key : Vec ℕ Global). key.items) c.self.inside.entries.entries c.remove.new.self.entries c.args.key.now c.len-count.ensures.ordered
    c.remove.ensures.entries
    ∙ ap (λ table. map.remove table c.args.key.now) c.self.view_is
