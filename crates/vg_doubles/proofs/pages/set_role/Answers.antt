use Rattle.std.proofs.Common.{arith}
use Rattle.vg_doubles.proofs.PageRoles.{with_role-set}
use Rattle.vg_doubles.proofs.pages.set_role.Goals as goal

pub returns : goal.returns
returns c = with_role-set c.args.pages.now.items c.args.i c.index_mut.result.now c.args.role (omega (arith, c.requires)) c.index_mut.ensures.value
