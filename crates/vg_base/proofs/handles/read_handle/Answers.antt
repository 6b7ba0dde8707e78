use Rattle.std.proofs.Common.{◌≡◌, ◌∙◌, sym, ap, arith}
use Rattle.vg_base.specs.declared.handles.Handle.TheVariants.{Reading}
use Rattle.vg_base.specs.Files.{Reads}
use Rattle.vg_base.specs.Handle.{opened_at, seen, weight}
use Rattle.vg_base.proofs.Disks.{IsOpen-some}
use Rattle.vg_base.proofs.HandleLists.{opened-within, opened-get, opened-kept, open_handles-kept}
use Rattle.vg_base.proofs.handles.read_handle.Goals as goal

pub index_mut-requires : goal.index_mut-requires
index_mut-requires g c =
    let items = c.args.handles.now.items in
    omega (arith, opened-within items c.args.id (IsOpen-some Reads (opened_at items c.args.id) c.requires))

pub returns-in-Reading-clause-opened : goal.returns-in-Reading-clause-opened
returns-in-Reading-clause-opened g c =
    let items = c.args.handles.now.items in
    let within = opened-within items c.args.id (IsOpen-some Reads (opened_at items c.args.id) c.requires) in
    let same : opened_at items c.args.id ≡ seen (Reading c.read.new.self) =
    opened-get items c.args.id c.index_mut.result.now within c.index_mut.ensures.value ∙ ap seen c.in-Reading.is in
    opened-kept items c.args.id (Reading c.read.new.self) same within

pub returns-in-Reading-clause-count : goal.returns-in-Reading-clause-count
returns-in-Reading-clause-count g c =
    let items = c.args.handles.now.items in
    let within = opened-within items c.args.id (IsOpen-some Reads (opened_at items c.args.id) c.requires) in
    open_handles-kept items c.args.id c.index_mut.result.now (Reading c.read.new.self) c.index_mut.ensures.value (sym (ap weight c.in-Reading.is)) within
