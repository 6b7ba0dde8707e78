use Rattle.std.proofs.Common.{◌∙◌, ap, ℕ, List, Vec}
use Rattle.std.specs.declared.alloc.Global.{Global}
use Rattle.std.specs.FinMap as map
use Rattle.vg_abs.proofs.TableLaws.{key-insert}
use Rattle.vg_abs.proofs.keyed.Keyed.insert.Goals as goal

pub returns-clause-inserted : goal.returns-clause-inserted
returns-clause-inserted c =
    key-insert (λ (key : Vec ℕ Global). key.items) c.self.inside.entries.entries c.insert.new.self.entries c.in_ok-key.key c.args.answer
    c.in_ok-insert.ensures.entries
    ∙ ap (λ table. map.insert table c.in_ok-key.key.items c.args.answer) c.self.view_is
    ∙ ap (λ (key : List ℕ). map.insert c.args.self.now key c.args.answer) c.in_ok-key.ensures.items
