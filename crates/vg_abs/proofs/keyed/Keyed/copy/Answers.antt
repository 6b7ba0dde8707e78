use Rattle.std.proofs.Common.{rules, ◌∙◌, ap, ℕ, List, Vec, Option}
use Rattle.std.specs.declared.alloc.Global.{Global}
use Rattle.std.specs.Ordering.{nat_cmp}
use Rattle.std.specs.Cmp.Lexicographic.{slice_cmp}
use Rattle.std.specs.FinMap as map
use Rattle.vg_abs.proofs.TableLaws.{copies-seen, zip_same}
use Rattle.vg_abs.proofs.keyed.Keyed.copy.Goals as goal

pub returns : goal.returns
returns c =
    ap (λ (es : List (List ℕ × Option ℕ)). map.from_entries {R = slice_cmp nat_cmp} es)
    (copies-seen (λ (key : Vec ℕ Global). key.items) _ _ c.self.inside.entries.entries c.in_ok-clone.field-0.entries
    (λ x y e. zip_same x.items y.items e.0) (search rules) c.in_ok-clone.ensures.cases)
    ∙ c.self.view_is
