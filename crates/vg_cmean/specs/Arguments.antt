-- The arguments of a call, which wait in a list until all are evaluated. The meaning of the C doesn't speak of it.
use Rattle.std.specs.Prelude.{ℕ, zero, suc, List, drop, get_or}
use Rattle.vg_core.specs.Units.{Typed}
use Rattle.vg_cmemory.specs.State.{State}
use Rattle.vg_cmean.specs.declared.datum.Datum.{Datum}
use Rattle.vg_cmean.specs.declared.datum.Datum.TheVariants as data_of
use Rattle.vg_cmean.specs.Outcomes.{Outcome, Next, after}
use Rattle.vg_cmean.specs.Meaning.{Parts_mean, given, parameter}

-- the first so many parameters are set, the last of them first
abbrev pub set_below : Typed → (parameters : List ℕ) → (values : List Datum) → ℕ → State → Outcome
set_below u ps ds zero s = Next s
set_below u ps ds (suc k) s = after (parameter u (get_or ps k 0) (get_or ds k data_of.Nothing) s) (set_below u ps ds k)

-- the arguments from one on are evaluated, and then all parameters are set
abbrev pub given_from : Typed → Parts_mean → (arguments parameters : List ℕ) → (values : List Datum) → ℕ → State → Outcome
given_from u part xs ps ds k s = after (given u part (drop k xs) (drop k ps) s) (set_below u ps ds k)
