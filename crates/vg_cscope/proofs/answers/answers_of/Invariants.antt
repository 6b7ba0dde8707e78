use Rattle.std.proofs.Common.{◌≡◌, length}
use Rattle.vg_cscope.specs.Tables.{IsTable, AreAnswers}
use Rattle.vg_cscope.specs.Views.{walked}
use Rattle.vg_cscope.proofs.answers.answers_of.Given as goal

abbrev pub invariant-loop-n : goal.invariant-loop-n
invariant-loop-n l = record {
  table : IsTable (walked l.walk) l.table.stack.items l.table.heads.items;
  names_count : length l.names.items ≡ l.n;
  tags_count : length l.tags.items ≡ l.n;
  names : AreAnswers (walked l.walk) l.names.items;
  tags : AreAnswers (walked l.walk) l.tags.items;
}
