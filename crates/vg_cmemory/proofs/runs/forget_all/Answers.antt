use Rattle.std.proofs.Common.{rules, ◌∙◌, arith}
use Rattle.vg_cmemory.proofs.Slots.{resting_kept, forgotten_more}
use Rattle.vg_cmemory.proofs.runs.forget_all.Goals as goal

pub loop-k-preserved : goal.loop-k-preserved
loop-k-preserved c = record {
  count = search rules;
  value = resting_kept c.args.run c.loop-k.locals.items c.loop-k.k _ c.forget.new.local c.index_mut.ensures.value c.forget.ensures.size
      ∙ c.loop-k.invariant.value;
  runs = forgotten_more c.loop-k.locals.items c.loop-k.k c.forget.new.local (omega arith) c.forget.ensures.run c.loop-k.invariant.runs;
}
