-- A multiple that isn't above a number.
use Rattle.std.proofs.Math.Nat.{div-mul-le_self}

pub ruleset rounding = (div-mul-le_self)
