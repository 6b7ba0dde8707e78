use Rattle.vg_ctyper.proofs.Deciding.{notes_one}
use Rattle.vg_ctyper.proofs.typing.notes_are_one.Goals as goal

pub returns : goal.returns
returns c = λ text tree ms ns one two. notes_one text tree ms ns one two
