use Rattle.vg_small.proofs.SpellingLaws.{Spells-steps}
use Rattle.vg_small.proofs.reading.takes_few_steps.Goals as goal

pub returns : goal.returns
returns c = Spells-steps
