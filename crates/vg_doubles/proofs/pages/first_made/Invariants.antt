use Rattle.std.proofs.Common.{◌≡◌, ◌+◌, ℕ, drop}
use Rattle.vg_doubles.specs.Pages.{made_on, IsFirstMade}
use Rattle.vg_doubles.proofs.pages.first_made.Given as goal

abbrev pub invariant-loop-page : goal.invariant-loop-page
invariant-loop-page l = record {
  index : l.i ≡ l.page-index;
  none : made_on (drop l.page-index l.pages) l.name ≡ made_on l.pages l.name;
  first : (k : ℕ) → IsFirstMade l.name (drop l.page-index l.pages) k → IsFirstMade l.name l.pages (l.page-index + k);
}
