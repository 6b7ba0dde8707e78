use Rattle.std.proofs.Common.{◌≡◌, fold, drop}
use Rattle.vg_conf.specs.Numbers as numbers
use Rattle.vg_conf.proofs.numbers.number_of.Given as goal

abbrev pub invariant-loop-byte : goal.invariant-loop-byte
invariant-loop-byte l = fold (numbers.with_digit l.base) l.number (drop l.byte-index l.digits) ≡ numbers.number_of l.base l.digits
