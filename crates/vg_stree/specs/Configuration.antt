-- What contracts see of a configuration.
use Rattle.std.specs.Prelude.{ℕ, List}
use Rattle.vg_stree.specs.declared.config.Route.{Route}
use Rattle.vg_stree.specs.declared.config.Fill.{Fill}

-- the declared numbers in order of declaration, the routes of all prefix tables in order, and what cells hold at the start
pub record Configuration : Type 0 where
  pub numbers : List ℕ
  pub routes : List Route
  pub fills : List Fill
