use Rattle.vg_small.proofs.ReadingLaws.{Gives-spelled, Gives-none}
use Rattle.vg_small.proofs.reading.read_small.Goals as goal

pub returns-clause-spells : goal.returns-clause-spells
returns-clause-spells c = Gives-spelled c.args.lang c.args.text.now _ c.read.result c.in_ok-words.ensures (rw c.deref.ensures.value at c.read.ensures)

pub returns-clause-form : goal.returns-clause-form
returns-clause-form c = Gives-none c.args.lang c.args.text.now _ c.read.result c.in_ok-words.ensures (rw c.deref.ensures.value at c.read.ensures)
