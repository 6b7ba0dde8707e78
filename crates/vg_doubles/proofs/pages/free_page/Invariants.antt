use Rattle.std.proofs.Common.{◌≡◌, drop}
use Rattle.vg_doubles.specs.Pages.{free_pages}
use Rattle.vg_doubles.proofs.pages.free_page.Given as goal

abbrev pub invariant-loop-page : goal.invariant-loop-page
invariant-loop-page l = record {
  index : l.i ≡ l.page-index;
  none : free_pages (drop l.page-index l.pages) ≡ free_pages l.pages;
}
