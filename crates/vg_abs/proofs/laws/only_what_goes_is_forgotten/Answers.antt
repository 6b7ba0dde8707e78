use Rattle.std.specs.Cmp.{nat_cmp_total}
use Rattle.std.specs.Cmp.Lexicographic.{nat_list_cmp_total}
use Rattle.std.specs.FinMap.{nat_cmp-IsAntisymmetric, slice_cmp-IsAntisymmetric}
use Rattle.vg_abs.proofs.Forgetting.{forgets}
use Rattle.vg_abs.proofs.laws.only_what_goes_is_forgotten.Goals as goal

pub returns-clause-keys : goal.returns-clause-keys
returns-clause-keys c = forgets nat_list_cmp_total (slice_cmp-IsAntisymmetric nat_cmp-IsAntisymmetric)

pub returns-clause-times : goal.returns-clause-times
returns-clause-times c = forgets nat_cmp_total nat_cmp-IsAntisymmetric
