-- What a C text and its specification have to agree on.
use Rattle.std.specs.Prelude.{ℕ, ◌≡◌, ◌≢◌, ◌<◌, ◌≤◌, List, length, Bool, All, AllPairs, Contains}
use Rattle.vg_small.specs.declared.small.Small.{Small}
use Rattle.vg_small.specs.Meaning.{steps_at, sides_at}
use Rattle.vg_top.specs.Frames.{verdict_by}

-- two functions do the same with a frame of this port
abbrev pub AgreeAt : Small → Small → ℕ → Type 0
AgreeAt c spec port = verdict_by c port ≡ verdict_by spec port

-- they do so at each port of the specification
abbrev pub Agree : Small → Small → Type 0
Agree c spec = (port : ℕ) → port < spec.ports → AgreeAt c spec port

-- the least port at which they don't
pub record IsFirstDifference (c spec : Small) (port : ℕ) : Type 0 where
  pub is_port : port < spec.ports
  pub differs : verdict_by c port ≢ verdict_by spec port
  pub first : (before : ℕ) → before < port → AgreeAt c spec before

-- the side, true or false, that a frame of this port takes at each test it comes to: of the C text, and of the
-- specification
abbrev pub sides : Small → Small → ℕ → List Bool × List Bool
sides c spec port = (sides_at c.tests port, sides_at spec.tests port)

-- how many different ways frames take through the tests of both texts, at so many ports: there is a list of these ways, each of them once
pub record IsPathCount (c spec : Small) (ports count : ℕ) : Type 0 where
  pub ways : List (List Bool × List Bool)
  pub different : AllPairs ◌≢◌ ways
  pub each : (port : ℕ) → port < ports → Contains ways (sides c spec port)
  pub taken : All (λ way. (port : ℕ) × (port < ports) × (sides c spec port ≡ way)) ways
  pub count_is : count ≡ length ways

-- the most steps that a frame takes, of so many ports
pub record IsMostSteps (c : Small) (ports : ℕ) (most : ℕ) : Type 0 where
  pub bound : (port : ℕ) → port < ports → steps_at c.tests port ≤ most
  pub taken : (port : ℕ) × (port < ports) × (steps_at c.tests port ≡ most)
