use Rattle.vg_doubles.proofs.PageRoles.{free_pages-some}
use Rattle.vg_doubles.proofs.PageBytes.{creates, takes-after, KeepsFit-trans}
use Rattle.vg_doubles.proofs.making.start_writing.Goals as goal

pub name_page-requires-clause-memory : goal.name_page-requires-clause-memory
name_page-requires-clause-memory c = c.clear_made.ensures.fit.memory c.args.room c.requires.memory

pub returns-clause-opens : goal.returns-clause-opens
returns-clause-opens c = λ held. takes-after c.clear_made.ensures.roles (c.name_page.ensures.opens held)

pub returns-clause-fit : goal.returns-clause-fit
returns-clause-fit c = KeepsFit-trans c.clear_made.ensures.fit c.name_page.ensures.fit

pub returns-clause-fails : goal.returns-clause-fails
returns-clause-fails c =
    let free = rw c.as_slice.ensures.value at c.in_ok-i.ensures.free in
    let within = rw c.as_slice.ensures.value at c.in_ok-i.ensures.within in
    creates _ _ (free_pages-some c.args.pages.now.items c.in_ok-i.i within free) c.if-name-gt-LONGEST_NAME.false
