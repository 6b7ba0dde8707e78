use Rattle.vg_small.proofs.MeaningLaws.{sides_at-told}
use Rattle.vg_small.proofs.small.Small.same_sides.Goals as goal

pub returns-else-p-q : goal.returns-else-p-q
returns-else-p-q c = sides_at-told c.args.self.now.tests c.args.p c.args.q c.names_either.result c.if-p-q.false c.names_either.ensures
