use Rattle.std.proofs.Common.{◌≡◌, ◌∙◌, sym, ap, arith}
use Rattle.vg_base.specs.declared.handles.Handle.TheVariants.{Writing}
use Rattle.vg_base.specs.Files.{Writes}
use Rattle.vg_base.specs.Handle.{opened_at, seen, weight}
use Rattle.vg_base.proofs.Disks.{IsOpen-some}
use Rattle.vg_base.proofs.HandleLists.{opened-within, opened-get, opened-kept, open_handles-kept}
use Rattle.vg_base.proofs.handles.write_handle.Goals as goal

pub index_mut-requires : goal.index_mut-requires
index_mut-requires g c =
    let items = c.args.handles.now.items in
    omega (arith, opened-within items c.args.id (IsOpen-some Writes (opened_at items c.args.id) c.requires))

pub returns-in-Writing-clause-opened : goal.returns-in-Writing-clause-opened
returns-in-Writing-clause-opened g c =
    let items = c.args.handles.now.items in
    let within = opened-within items c.args.id (IsOpen-some Writes (opened_at items c.args.id) c.requires) in
    let same : opened_at items c.args.id ≡ seen (Writing c.write.new.self) =
    opened-get items c.args.id c.index_mut.result.now within c.index_mut.ensures.value ∙ ap seen c.in-Writing.is in
    opened-kept items c.args.id (Writing c.write.new.self) same within

pub returns-in-Writing-clause-count : goal.returns-in-Writing-clause-count
returns-in-Writing-clause-count g c =
    let items = c.args.handles.now.items in
    let within = opened-within items c.args.id (IsOpen-some Writes (opened_at items c.args.id) c.requires) in
    open_handles-kept items c.args.id c.index_mut.result.now (Writing c.write.new.self) c.index_mut.ensures.value (sym (ap weight c.in-Writing.is)) within
