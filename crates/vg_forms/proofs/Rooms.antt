-- Constructs that are counted: where one is refused, where it is too deep, and what it is else; and that each has a token.
use Rattle.std.proofs.Common.{◌≡◌, ◌≤◌, ◌+◌, ℕ, zero, suc, true, false, List, slice_get, Err, refl, subst, arith}
use Rattle.vg_forms.specs.Places.{State, passes}
use Rattle.vg_forms.specs.Reading.{Wrong, Deep, read, read_inner}
use Rattle.vg_forms.proofs.Onward.{further, either_side, gains, Gains}
use Rattle.vg_forms.specs.declared.token.Token.{Token}
use Rattle.vg_forms.proofs.Checks.{Law}

module _ {K N G : Type 0} (law : Law K N G) where
  module _ (toks : List (Token K)) where
    pub inner_wrong : (room : ℕ) (n : N) (s : State G) → passes (law.grammar.begins n) (slice_get toks s.at) ≡ false
        → read_inner law.grammar toks room n s ≡ Err (Wrong s.at)
    inner_wrong zero n s unless = rw unless refl
    inner_wrong (suc room) n s unless = rw unless refl

    pub inner_deep : (room : ℕ) (n : N) (s : State G) → passes (law.grammar.begins n) (slice_get toks s.at) ≡ true → room ≡ 0
        → read_inner law.grammar toks room n s ≡ Err (Deep s.at)
    inner_deep zero n s so none = rw so refl
    inner_deep (suc room) n s so none = absurd (omega (arith, none))

    pub inner_read : (room left : ℕ) (n : N) (s : State G) → passes (law.grammar.begins n) (slice_get toks s.at) ≡ true → left + 1 ≡ room
        → read_inner law.grammar toks room n s ≡ read law.grammar toks left (law.grammar.form n) s
    inner_read zero left n s so one = absurd (omega (arith, one))
    inner_read (suc room) left n s so one = let same : left ≡ room = omega (arith, one) in rw (so, same) refl

  pub inner_gains : (toks : List (Token K)) (room : ℕ) → Gains law toks (read_inner law.grammar toks room)
  inner_gains toks zero n s a t e = either_side (passes (law.grammar.begins n) (slice_get toks s.at)) (λ so is. absurd (cc)) (λ unless is. absurd (cc)) e
  inner_gains toks (suc room) n s a t e =
      either_side (passes (law.grammar.begins n) (slice_get toks s.at))
      (λ so is. subst (λ b. further b s.at ≤ t.at) (law.form_eats n) (gains law toks (read_inner law.grammar toks room) (inner_gains toks room)
      (law.grammar.form n) s a t is))
      (λ unless is. absurd (cc)) e
