use Rattle.std.proofs.Common.{rules, subst, ◌≤◌, length}
use Rattle.vg_cscope.specs.Tables as tables
use Rattle.vg_cscope.proofs.Stacking.{left, set_past}
use Rattle.vg_cscope.proofs.table.Table.leave.Goals as goal

pub returns-in-Some-get_mut : goal.returns-in-Some-get_mut
returns-in-Some-get_mut c = λ s t. left s c.pop.new.self.items c.in-Some.entry c.args.self.now.heads.items
    (subst (λ xs. tables.IsTable s xs c.args.self.now.heads.items) c.in-Some.ensures.items t)

pub returns-in_default-get_mut : goal.returns-in_default-get_mut
returns-in_default-get_mut c = λ s t.
    let past : length c.args.self.now.heads.items ≤ c.in-Some.entry.bucket = search rules in
    subst (λ hs. tables.IsTable s c.pop.new.self.items hs) (set_past c.args.self.now.heads.items c.in-Some.entry.bucket c.in-Some.entry.below past)
    (left s c.pop.new.self.items c.in-Some.entry c.args.self.now.heads.items (subst (λ xs. tables.IsTable s xs c.args.self.now.heads.items)
    c.in-Some.ensures.items t))
