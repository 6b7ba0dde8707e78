-- How many terms a constructor that folds may add, and when it finds no place.
use Rattle.std.specs.Prelude.{◌≡◌, ℕ, ◌+◌, ◌*◌, ◌<◌, ◌≤◌, List, length, Result, Err}
use Rattle.vg_term.specs.Terms.{Term}
use Rattle.vg_term.specs.declared.node.TermId.{TermId}
use Rattle.vg_term.specs.declared.stops.TermStop.{TermStop}
use Rattle.vg_term.specs.declared.stops.TermStop.TheVariants.{Full}

-- of the cuts that were left some were made, each of which may add 512 terms, and beside these only so many terms were added
pub record Spends (old new : List Term) (before after own : ℕ) : Type 0 where
  pub cuts : after ≤ before
  pub few : length new + 512 * after ≤ length old + 512 * before + own

-- a term found no place only where the most terms stand
abbrev pub IsFull : List Term → Result TermId TermStop → Type 0
IsFull new result = result ≡ Err Full → length new ≡ 4194304

-- where a constructor that folds is refused for want of a place, fewer than 65,536 places were left
abbrev pub NeedsPlaces : List Term → Result TermId TermStop → Type 0
NeedsPlaces old result = result ≡ Err Full → 4194304 < length old + 65536
