use Rattle.std.proofs.Common.{refl, sym, ◌∙◌}
use Rattle.vg_doubles.proofs.PageCalls.{blank-free_pages, blank-open_pages, blank-opened, blank-made}
use Rattle.vg_doubles.proofs.memory.MemFiles.new.Goals as goal

pub returns-clause-fresh : goal.returns-clause-fresh
returns-clause-fresh c = record {
  read_faults = refl;
  write_faults = refl;
  shut_faults = refl;
  made = λ name. blank-made c.in_ok-pages.pages.items name c.in_ok-pages.ensures.free;
  opened = λ id. blank-opened c.args.held.items c.in_ok-pages.pages.items id c.in_ok-pages.ensures.free;
  open_count = blank-open_pages c.in_ok-pages.pages.items c.in_ok-pages.ensures.free;
}

pub returns-clause-files : goal.returns-clause-files
returns-clause-files c =
    blank-free_pages c.in_ok-pages.pages.items c.in_ok-pages.ensures.free ∙ sym c.in_ok-pages.pages.ok.0 ∙ c.in_ok-pages.ensures.count
