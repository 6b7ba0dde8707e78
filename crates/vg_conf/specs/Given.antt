-- What the lines of a configuration's text give.
use Rattle.std.specs.Prelude.{ℕ, List, [], length, replicate, Option, None}
use Rattle.vg_stree.specs.declared.config.Route.{Route}
use Rattle.vg_stree.specs.Specification.{Specification}
use Rattle.vg_conf.specs.declared.given.CellLine.{CellLine}

-- the declared numbers, in order of declaration, where they are given; the routes; and the lines on cells, in order
pub record Gathered : Type 0 where
  pub numbers : List (Option ℕ)
  pub routes : List Route
  pub cells : List CellLine

-- nothing is given yet
abbrev pub nothing_given : Specification → Gathered
nothing_given spec = record { numbers = replicate (length spec.shape.numbers) None; routes = []; cells = [] }
