use Rattle.vg_small.proofs.SpellingLaws.{Spells-value}
use Rattle.vg_small.proofs.reading.sends_to_ports.Goals as goal

pub returns : goal.returns
returns c = Spells-value
