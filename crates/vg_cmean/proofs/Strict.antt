-- Each operator but `&&` and `||` has both its operands evaluated.
use Rattle.std.proofs.Common.{◌≡◌, ◌≢◌, ℕ, refl}
use Rattle.vg_core.specs.declared.tree.BinaryOp.{BinaryOp}
use Rattle.vg_core.specs.declared.tree.BinaryOp.TheVariants as binaries
use Rattle.vg_cmemory.specs.State.{State}
use Rattle.vg_cmean.specs.declared.datum.Datum.{Datum}
use Rattle.vg_cmean.specs.Outcomes.{and_then}
use Rattle.vg_cmean.specs.Values.{binary}
use Rattle.vg_cmean.specs.Meaning.{Meaning, operated, value}

pub operated_strict : (op : BinaryOp) (at : ℕ) (other : Meaning) (a : Datum) (s : State) → op ≢ binaries.AndThen → op ≢ binaries.OrElse →
    operated op at other a s ≡ and_then (value other s) (binary op at a)
operated_strict binaries.OrElse at other a s f g = absurd (g refl)
operated_strict binaries.AndThen at other a s f g = absurd (f refl)
operated_strict binaries.BitOr at other a s f g = refl
operated_strict binaries.BitXor at other a s f g = refl
operated_strict binaries.BitAnd at other a s f g = refl
operated_strict binaries.Equal at other a s f g = refl
operated_strict binaries.NotEqual at other a s f g = refl
operated_strict binaries.Less at other a s f g = refl
operated_strict binaries.Greater at other a s f g = refl
operated_strict binaries.LessEqual at other a s f g = refl
operated_strict binaries.GreaterEqual at other a s f g = refl
operated_strict binaries.ShiftLeft at other a s f g = refl
operated_strict binaries.ShiftRight at other a s f g = refl
operated_strict binaries.Add at other a s f g = refl
operated_strict binaries.Subtract at other a s f g = refl
operated_strict binaries.Multiply at other a s f g = refl
operated_strict binaries.Divide at other a s f g = refl
operated_strict binaries.Remainder at other a s f g = refl
