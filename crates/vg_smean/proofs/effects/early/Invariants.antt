use Rattle.std.proofs.Common.{◌≡◌, ◌++◌, map, filter, Some}
use Rattle.vg_abs.specs.Answers.{is_before}
use Rattle.vg_smean.specs.Expiring.{early}
use Rattle.vg_smean.proofs.effects.early.Given as goal

abbrev pub invariant-loop-index : goal.invariant-loop-index
invariant-loop-index l =
    l.indices.items ++ map (λ entry. entry.0) (filter (λ entry. is_before l.bound (Some entry.1)) l.index-iterator) ≡ early l.bound l.times
