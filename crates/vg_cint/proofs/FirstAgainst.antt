-- Nothing is against what all tests allow, and only against that.
use Rattle.std.proofs.Common.{◌≡◌, Bool, true, false, List, [], ◌∷◌, None, refl}
use Rattle.vg_core.specs.declared.reason.Reason.{Reason}
use Rattle.vg_cint.specs.Tests.{Test, test, first_against, AllHold, NothingAgainst}

first_holds : (b : Bool) (r : Reason) (ts : List Test) → first_against (test r b ∷ ts) ≡ None → (b ≡ true) × (first_against ts ≡ None)
first_holds true r ts e = (refl, e)
first_holds false r ts e = cc

all_hold : (tests : List Test) → first_against tests ≡ None → AllHold tests
all_hold [] e = tt
all_hold (t ∷ ts) e = let h = first_holds t.holds t.reason ts e in (h.0, all_hold ts h.1)

none_against : (tests : List Test) → AllHold tests → first_against tests ≡ None
none_against [] h = refl
none_against (t ∷ ts) h = rw (h.0) (none_against ts h.1)

pub nothing_against : NothingAgainst
nothing_against tests = (all_hold tests, none_against tests)
