-- Whether the frames of a port go a way of their own. No public clause rests on this file.
use Rattle.std.specs.Prelude.{ℕ, ◌≡◌, ◌≢◌, ◌<◌}
use Rattle.vg_small.specs.declared.small.Small.{Small}
use Rattle.vg_top.specs.Agreement.{sides}

-- the frames of a port go another way through the tests of both texts than those of each lower port
abbrev pub GoesNewWay : Small → Small → ℕ → Type 0
GoesNewWay c spec port = (lower : ℕ) → lower < port → sides c spec lower ≢ sides c spec port

-- they go the way of those of a lower port
abbrev pub GoesOldWay : Small → Small → ℕ → Type 0
GoesOldWay c spec port = (lower : ℕ) × (lower < port) × (sides c spec lower ≡ sides c spec port)
