use Rattle.std.proofs.Common.{◌≡◌, All, vec_len}
use Rattle.vg_doubles.specs.declared.pages.Role.TheVariants.{Free}
use Rattle.vg_doubles.specs.declared.pages.Page.{Page}
use Rattle.vg_doubles.specs.Pages.{HasMemory}
use Rattle.vg_doubles.proofs.pages.blank_pages.Given as goal

abbrev pub invariant-loop : goal.invariant-loop
invariant-loop l = record {
  count : vec_len l.pages ≡ l.counter;
  free : All (λ (page : Page). page.role ≡ Free) l.pages.items;
  memory : All (HasMemory l.room) l.pages.items;
}
