use Rattle.std.proofs.Common.{◌∙◌, ap, sym, ℕ, Option, Result}
use Rattle.vg_crows.specs.declared.answer.Answer.{Answer}
use Rattle.vg_crows.specs.declared.answer.Stop.{Stop}
use Rattle.vg_crows.specs.Rows.{answered, target}
use Rattle.vg_crows.specs.Views.{seen, gives}
use Rattle.vg_crows.proofs.Answered.{stored_answer}
use Rattle.vg_crows.proofs.stored.answer_stored.Goals as goal

pub returns-clause-value : goal.returns-clause-value
returns-clause-value g c =
    let s = seen c.args.memory.now c.args.frame.now (g.L.Lib.library c.args.lib.now) c.args.book.now in
    let t = seen c.store-stored.new.memory c.store-stored.new.frame (g.L.Lib.library c.store-stored.new.lib) c.store-stored.new.book in
    ap (λ (r : Result Answer Stop). gives r t) c.yes.ensures
    ∙ stored_answer s t c.args.place c.args.size c.in-Some.value c.store-stored.result c.store-stored.ensures.value
    ∙ ap (λ (f : Option ℕ). answered s (target c.args.place c.args.size) f) (sym c.in-Some.is)
