use Rattle.std.proofs.Common.{◌≡◌, ◌≤◌, length}
use Rattle.vg_cscope.specs.Names as names
use Rattle.vg_cscope.specs.Tables as tables
use Rattle.vg_cscope.specs.Views.{walked}
use Rattle.vg_cscope.proofs.table.Table.nearest.Given as goal

abbrev pub invariant-loop-height : goal.invariant-loop-height
invariant-loop-height l = record {
  within : l.height ≤ length l.self.stack.items;
  head : tables.last_in (tables.bucket (length l.self.heads.items) (names.spelling l.walk.text.now l.fn.name)) l.self.stack.items l.height ≡ l.height;
  same : tables.nearest (walked l.walk) l.wanted l.self.stack.items l.height ≡ tables.nearest (walked l.walk) l.wanted l.self.stack.items
      (length l.self.stack.items);
}

abbrev pub decreases-loop-height : goal.decreases-loop-height
decreases-loop-height l = l.height
