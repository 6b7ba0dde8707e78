-- Constructs that are counted: where one is refused, where it is too deep, and what it is else; and that each has a token.
use Rattle.std.proofs.Common.{◌≡◌, ◌≤◌, ◌+◌, ℕ, zero, suc, true, false, List, slice_get, Err, refl, subst, arith}
use Rattle.vg_ctok.specs.declared.kinds.Token.{Token}
use Rattle.vg_cread.specs.Forms.{Nested, Expression, Operand, Statement, Body}
use Rattle.vg_cread.specs.Grammar.{begins, form, sign, word, name, expression, binary, unary, postfix, primary, opened, statement, block}
use Rattle.vg_cread.specs.Grammar.{if_statement, for_statement, return_statement, simple_statement}
use Rattle.vg_cread.specs.Places.{State, passes}
use Rattle.vg_cread.specs.Reading.{Wrong, Deep, read, read_inner}
use Rattle.vg_cread.proofs.Onward.{eats, further, either_side, gains, Gains}

module _ (toks : List Token) where
  pub inner_wrong : (room : ℕ) (n : Nested) (s : State) → passes (begins n) (slice_get toks s.at) ≡ false → read_inner toks room n s ≡ Err (Wrong s.at)
  inner_wrong zero n s unless = rw unless refl
  inner_wrong (suc room) n s unless = rw unless refl

  pub inner_deep : (room : ℕ) (n : Nested) (s : State) → passes (begins n) (slice_get toks s.at) ≡ true → room ≡ 0 → read_inner toks room n s ≡ Err (Deep s.at)
  inner_deep zero n s so none = rw so refl
  inner_deep (suc room) n s so none = absurd (omega (arith, none))

  pub inner_read : (room left : ℕ) (n : Nested) (s : State) → passes (begins n) (slice_get toks s.at) ≡ true → left + 1 ≡ room
      → read_inner toks room n s ≡ read toks left (form n) s
  inner_read zero left n s so one = absurd (omega (arith, one))
  inner_read (suc room) left n s so one = let same : left ≡ room = omega (arith, one) in rw (so, same) refl

pub binary_eats : (rank : ℕ) → eats (binary rank) ≡ true
unfolding binary unary postfix primary opened sign word name
binary_eats zero = refl
binary_eats (suc rank) = binary_eats rank

pub form_eats : (n : Nested) → eats (form n) ≡ true
unfolding expression unary postfix primary opened statement block if_statement for_statement return_statement simple_statement sign word name
form_eats Expression = rw (binary_eats 10) refl
form_eats Operand = refl
form_eats Statement = refl
form_eats Body = refl

pub inner_gains : (toks : List Token) (room : ℕ) → Gains toks (read_inner toks room)
inner_gains toks zero n s a t e = either_side (passes (begins n) (slice_get toks s.at)) (λ so is. absurd (cc)) (λ unless is. absurd (cc)) e
inner_gains toks (suc room) n s a t e =
    either_side (passes (begins n) (slice_get toks s.at))
    (λ so is. subst (λ b. further b s.at ≤ t.at) (form_eats n) (gains toks (read_inner toks room) (inner_gains toks room) (form n) s a t is))
    (λ unless is. absurd (cc)) e
