use Rattle.std.proofs.Common.{◌≡◌, Some, fold, drop, map}
use Rattle.vg_conf.specs.Numbers as numbers
use Rattle.vg_conf.proofs.numbers.address_by.Given as goal

abbrev pub invariant-loop-part : goal.invariant-loop-part
invariant-loop-part l = fold numbers.with_part l.address (map (λ part. part.now) (drop l.part-index l.parts)) ≡ fold numbers.with_part (Some 0)
    (map (λ part. part.now) l.parts)
