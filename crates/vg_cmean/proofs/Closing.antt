-- What a block or call leaves behind ends whether it went on or returned.
use Rattle.std.proofs.Common.{◌≡◌, ℕ, List, Option, Some, None, Ok, refl}
use Rattle.vg_cmemory.specs.State.{State}
use Rattle.vg_cmean.specs.declared.datum.Datum.{Datum}
use Rattle.vg_cmean.specs.Outcomes.{does, on_own}
use Rattle.vg_cmean.specs.Meaning.{closing, ended}

pub closing_ok : (ns : List ℕ) (returned : Option Datum) (s : State) → closing ns (does (Ok returned) s) ≡ does (Ok returned) (on_own (ended ns) s)
closing_ok ns None s = refl
closing_ok ns (Some d) s = refl
