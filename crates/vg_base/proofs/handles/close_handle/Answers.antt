use Rattle.std.proofs.Common.{arith}
use Rattle.vg_base.specs.declared.handles.Handle.TheVariants.{Closed}
use Rattle.vg_base.proofs.HandleLists.{opened-within, opened-set, opened-set_other, open_handles-close}
use Rattle.vg_base.proofs.handles.close_handle.Goals as goal

pub index_mut-requires : goal.index_mut-requires
index_mut-requires g c = omega (arith, opened-within c.args.handles.now.items c.args.id c.requires)

pub returns-clause-now : goal.returns-clause-now
returns-clause-now g c = opened-set c.args.handles.now.items c.args.id Closed (opened-within c.args.handles.now.items c.args.id c.requires)

pub returns-clause-others : goal.returns-clause-others
returns-clause-others g c = λ j ne. opened-set_other c.args.handles.now.items c.args.id Closed j ne

pub returns-clause-count : goal.returns-clause-count
returns-clause-count g c = open_handles-close c.args.handles.now.items c.args.id c.requires
