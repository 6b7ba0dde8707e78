use Rattle.vg_cread.proofs.Rules.{parts_first, parts_used_once}
use Rattle.vg_cread.proofs.Telling.{guided_of}
use Rattle.vg_cread.proofs.reading.tree_in_order.Goals as goal

pub returns-clause-ordered : goal.returns-clause-ordered
returns-clause-ordered c = λ toks room tree is. parts_first toks room tree (guided_of toks room tree is)

pub returns-clause-used_once : goal.returns-clause-used_once
returns-clause-used_once c = λ toks room tree is. parts_used_once toks room tree (guided_of toks room tree is)
