use Rattle.vg_cread.proofs.Units.{one_tree}
use Rattle.vg_cread.proofs.Telling.{guided_of}
use Rattle.vg_cread.proofs.reading.one_tree.Goals as goal

pub returns : goal.returns
returns c = λ toks room left a b one two. one_tree toks room left a b (guided_of toks room a one) (guided_of toks left b two)
