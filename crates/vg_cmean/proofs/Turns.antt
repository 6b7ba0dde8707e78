-- One turn of a loop, and then the others.
use Rattle.std.proofs.Common.{◌≡◌, ℕ, suc, ◌-◌, ◌<◌, refl, sym, ap, subst, arith, ◌∙◌, if◌then◌else◌}
use Rattle.vg_core.specs.Units.{Typed}
use Rattle.vg_cint.specs.declared.value.Value.{Value}
use Rattle.vg_cmemory.specs.State.{State}
use Rattle.vg_cmean.specs.Outcomes.{Outcome, Next, after}
use Rattle.vg_cmean.specs.Meaning.{Meaning, turns, turn, is_below, next_of}

pub turns_none : (u : Typed) (n : ℕ) (body : Meaning) (counter bound : Value) (step : ℕ) (s : State) → turns u 0 n body counter bound step s ≡ Next s
unfolding turns
turns_none u n body counter bound step s = refl

turns_suc : (u : Typed) (left n : ℕ) (body : Meaning) (counter bound : Value) (step : ℕ) (s : State) →
    turns u (suc left) n body counter bound step s ≡ (if is_below counter bound then after (turn u n body counter s)
    (turns u left n body (next_of counter step) bound step) else Next s)
unfolding turns
turns_suc u left n body counter bound step s = refl

pub turns_next : (u : Typed) (left n : ℕ) (body : Meaning) (counter bound : Value) (step : ℕ) (s : State) → 0 < left →
    turns u left n body counter bound step s ≡ (if is_below counter bound then after (turn u n body counter s)
    (turns u (left - 1) n body (next_of counter step) bound step) else Next s)
turns_next u left n body counter bound step s h =
    let e : left ≡ suc (left - 1) = omega arith in
    subst (λ k. turns u k n body counter bound step s ≡ (if is_below counter bound then after (turn u n body counter s)
    (turns u (left - 1) n body (next_of counter step) bound step) else Next s)) (sym e)
    (turns_suc u (left - 1) n body counter bound step s)

-- no turn is left
pub turns_done : (u : Typed) (left n : ℕ) (body : Meaning) (counter bound : Value) (step : ℕ) (s : State) (o : Outcome) → left ≡ 0 →
    turns u left n body counter bound step s ≡ o → Next s ≡ o
turns_done u left n body counter bound step s o e h =
    sym (turns_none u n body counter bound step s) ∙ ap (λ k. turns u k n body counter bound step s) (sym e) ∙ h
