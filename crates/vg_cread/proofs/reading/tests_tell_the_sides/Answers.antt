use Rattle.vg_cread.proofs.Telling.{guided_of, spelled_of}
use Rattle.vg_cread.proofs.reading.tests_tell_the_sides.Goals as goal

pub returns-clause-guides : goal.returns-clause-guides
returns-clause-guides c = λ toks room tree is. guided_of toks room tree is

pub returns-clause-spells : goal.returns-clause-spells
returns-clause-spells c = λ toks room tree is. spelled_of toks room tree is
