use Rattle.std.proofs.Common.{◌∙◌}
use Rattle.vg_rup.proofs.Reading.{holds-added}
use Rattle.vg_rup.proofs.assignment.Assignment.make_true.Goals as goal

pub returns : goal.returns
returns c = λ k. c.in_ok-insert.ensures.updates.0 k ∙ holds-added c.self.inside.made.keys c.args.self.now c.args.literal k c.self.view_is
