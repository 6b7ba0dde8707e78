use Rattle.std.proofs.Common.{◌∙◌, ap, List, ℕ}
use Rattle.std.proofs.lemmas.Bool.Decides.{Decides-at}
use Rattle.vg_abs.specs.LawfulTests.{is_lawful}
use Rattle.vg_abs.proofs.LawfulDecides.{lawful_decides}
use Rattle.vg_abs.proofs.lawfulness.lawful.Goals as goal

pub returns : goal.returns
returns c = Decides-at _ _ (c.passes.ensures ∙ ap (λ (numbers : List ℕ). is_lawful c.args.spec.now numbers c.args.now c.args.state.now) c.numbers.ensures)
    (lawful_decides c.args.spec.now c.args.config.now.numbers c.args.now c.args.state.now)
