use Rattle.std.proofs.Common.{◌∙◌, ap, ℕ, Vec}
use Rattle.std.specs.declared.alloc.Global.{Global}
use Rattle.std.specs.FinMap as map
use Rattle.vg_abs.proofs.TableLaws.{key-get}
use Rattle.vg_abs.proofs.keyed.Keyed.get.Goals as goal

pub returns : goal.returns
returns c =
    c.copied.ensures ∙ c.get.ensures.value ∙ key-get (λ (key : Vec ℕ Global). key.items) c.self.inside.entries.entries c.args.key.now
    ∙ ap (λ table. map.get table c.args.key.now) c.self.view_is
