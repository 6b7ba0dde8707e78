use Rattle.std.proofs.Common.{◌∙◌}
use Rattle.vg_ctok.proofs.Defining.{looked_up}
use Rattle.vg_ctok.proofs.pieces.defined.Goals as goal

pub returns : goal.returns
returns c = c.copied.ensures ∙ c.get.ensures.value ∙ looked_up c.args.here.defines.now.entries c.args.name.now
