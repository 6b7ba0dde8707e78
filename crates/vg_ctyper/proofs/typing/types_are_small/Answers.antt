use Rattle.vg_ctyper.proofs.Sizing.{small_typed}
use Rattle.vg_ctyper.proofs.typing.types_are_small.Goals as goal

pub returns : goal.returns
returns c = λ u is. small_typed u is
