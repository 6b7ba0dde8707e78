use Rattle.vg_cscope.specs.Views.{walked}
use Rattle.vg_cscope.proofs.table.Table.move_to.Goals as goal

pub loop-declaration-init : goal.loop-declaration-init
loop-declaration-init c = (tt, tt, c.leave_until.ensures (walked c.args.walk.now) c.requires)
