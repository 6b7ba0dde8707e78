-- The words that write numbers in decimal digits.
use Rattle.std.proofs.Common.{◌≡◌, ◌∙◌, ◌<◌, ◌^◌, ℕ, zero, suc, List, [], ◌∷◌, length, get_or, inl, inr, sym, ap, arith}
use Rattle.std.specs.Fmt.{decimal}
use Rattle.std.proofs.lemmas.Bool.{cases_lt}
use Rattle.std.specs.Str.Parse.{IsNumeral, digits_value, without_leading_plus}
use Rattle.std.proofs.lemmas.Str.Parse.{digit_from_value, numerals_by_value, tells_digits, without_leading_plus_none}
use Rattle.std.proofs.lemmas.Fmt.{decimal_is_IsNumeral, decimal_digit, first_decimal, decimal-digits_value}
use Rattle.vg_command.specs.Reading.{BeginsAmiss}

-- a digit comes first
no_plus : (w : List ℕ) → IsNumeral 10 w → get_or w 0 0 ≡ 43 → ⊥
no_plus [] numeral plus = omega arith
no_plus (b ∷ bs) numeral plus = omega (arith, digit_from_value b numeral.1.0)

-- a zero stands alone
no_zero : (n : ℕ) → n < 2 ^ 64 → get_or (decimal n) 0 0 ≡ 48 → 1 < length (decimal n) → ⊥
no_zero zero small first more = omega (arith, ap length (decimal_digit 0 (omega arith)))
no_zero (suc n) small first more = omega (arith, first_decimal (suc n) (omega arith) small)

-- a word that begins amiss writes no number
pub amiss : (w : List ℕ) → BeginsAmiss w → (n : ℕ) → n < 2 ^ 64 → w ≡ decimal n → ⊥
amiss w begins n small is = elim begins [
  | inl plus ↦ no_plus (decimal n) (decimal_is_IsNumeral n small).0 (ap (λ (l : List ℕ). get_or l 0 0) (sym is) ∙ plus)
  | inr alone ↦ no_zero n small (ap (λ (l : List ℕ). get_or l 0 0) (sym is) ∙ alone.0) (omega (arith, alone.1, ap length is))
]

module _ (w : List ℕ) (well : BeginsAmiss w → ⊥) where
  plain : without_leading_plus w ≡ w
  plain = without_leading_plus_none w (λ plus. well (inl plus))

  alone : get_or w 0 0 ≡ 48 → 0 < length w → length w ≡ 1
  alone first some = elim (cases_lt 1 (length w)) [
    | inl more ↦ absurd (well (inr (first, more)))
    | inr one ↦ omega arith
  ]

  -- what is read is written
  pub written : (n : ℕ) → IsNumeral 10 (without_leading_plus w) × (digits_value 10 (without_leading_plus w) < 2 ^ 64)
      → digits_value 10 (without_leading_plus w) ≡ n → w ≡ decimal n
  written n numeral value =
      let here = rw plain at numeral in
      let is = rw plain at value in
      let same = decimal-digits_value (numerals_by_value _ tells_digits) w here.0.1 here.0.0 (λ first. alone first here.0.0) (omega (arith, here.1)) in
      sym same ∙ ap decimal is

  -- and what is written is read
  pub unread : (IsNumeral 10 (without_leading_plus w) × (digits_value 10 (without_leading_plus w) < 2 ^ 64) → ⊥) → (n : ℕ) → n < 2 ^ 64 → w ≡ decimal n → ⊥
  unread none n small is =
      let numeral = decimal_is_IsNumeral n small in
      let there = rw (← is) at numeral in
      none (rw plain (there.0, omega (arith, there.1)))
