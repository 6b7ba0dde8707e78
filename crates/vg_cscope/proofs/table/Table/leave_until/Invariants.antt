use Rattle.vg_cscope.specs.Names as names
use Rattle.vg_cscope.specs.Tables as tables
use Rattle.vg_cscope.proofs.table.Table.leave_until.Given as goal

abbrev pub invariant-loop-entry : goal.invariant-loop-entry
invariant-loop-entry l = (s : names.Scoped) → tables.IsTable s l.fn.self.stack.items l.fn.self.heads.items
    → tables.IsTable s l.self.stack.items l.self.heads.items
