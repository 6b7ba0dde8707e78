use Rattle.std.proofs.Common.{subst, sym}
use Rattle.vg_cscope.specs.Tables.{AreAnswers}
use Rattle.vg_cscope.specs.Views.{walked}
use Rattle.vg_cscope.proofs.Answering.{one_more, one_longer}
use Rattle.vg_cscope.proofs.answers.answers_of.Goals as goal

pub loop-n-preserved : goal.loop-n-preserved
loop-n-preserved c =
    let s = walked c.args.walk.now in
    let before = c.loop-n.invariant in
    record {
      table = c.in_ok-move_to.ensures;
      names_count = one_longer c.loop-n.names.items _ c.answer_at.result c.loop-n.n c.in_ok-push.ensures.items before.names_count;
      tags_count = one_longer c.loop-n.tags.items _ c.answer_at-in-loop-n.result c.loop-n.n c.in_ok-push-2.ensures.items before.tags_count;
      names = subst (AreAnswers s) (sym c.in_ok-push.ensures.items) (one_more s c.loop-n.names.items c.answer_at.result c.loop-n.n before.names
          before.names_count c.answer_at.ensures);
      tags = subst (AreAnswers s) (sym c.in_ok-push-2.ensures.items) (one_more s c.loop-n.tags.items c.answer_at-in-loop-n.result c.loop-n.n
          before.tags before.tags_count c.answer_at-in-loop-n.ensures);
    }
