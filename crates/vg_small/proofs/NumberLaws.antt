-- The reader's numbers are those that `decimal` writes.
use Rattle.std.proofs.Common.{◌≡◌, ◌∙◌, ◌<◌, ◌≤◌, ◌+◌, ◌-◌, ◌*◌, ℕ, zero, suc, List, [], ◌∷◌, length, get_or, true, false, ◌||◌, eqb, nat_lt, Some}
use Rattle.std.proofs.Common.{inl, inr, refl, sym, ap, arith}
use Rattle.std.proofs.lemmas.Bool.{or_parts, or_from, ltb-true, ltb-false, lt-ltb, ltb-false, cases_Bool, ne_eqb, eqb-false}
use Rattle.std.specs.Fmt.{decimal}
use Rattle.std.specs.Int.{IsInRange}
use Rattle.std.specs.Char.{digit_value}
use Rattle.std.specs.Str.Parse.{AllDigits, digits_value_after}
use Rattle.std.proofs.lemmas.Str.{digit_value_digit}
use Rattle.std.proofs.lemmas.Str.Parse.{digit_from_value, numerals_by_value, tells_digits}
use Rattle.std.proofs.lemmas.Fmt.{decimal_is_IsNumeral, decimal_nonempty, decimal_digit, first_decimal, decimal-digits_value}
use Rattle.vg_small.specs.Reader.{number_on, number_of}
use Rattle.vg_small.proofs.Options.{some_is, chosen, refused}

-- a digit by the tests of the reader
is_digit : (b : ℕ) → (nat_lt b 48 || nat_lt 57 b) ≡ false → IsInRange 48 57 b
is_digit b e = let parts = or_parts (nat_lt b 48) (nat_lt 57 b) e in (ltb-false b 48 parts.0, ltb-false 57 b parts.1)

not_lt : (a b : ℕ) → b ≤ a → nat_lt a b ≡ false
not_lt a b h = elim (cases_Bool (nat_lt a b)) [
  | inl below ↦ absurd (omega (arith, ltb-true a b below))
  | inr not ↦ not
]

no_digit : (b : ℕ) → IsInRange 48 57 b → (nat_lt b 48 || nat_lt 57 b) ≡ false
no_digit b h = or_from (nat_lt b 48) (nat_lt 57 b) (not_lt b 48 h.0) (not_lt 57 b h.1)

-- what was read as a number of digits is the value of these digits
number_on-sound : (n : ℕ) (ds : List ℕ) {m : ℕ} → n < 65536 → number_on n ds ≡ Some m → AllDigits 10 ds × (digits_value_after 10 n ds ≡ m) × (m < 65536)
number_on-sound n [] small e = (tt, some_is e, rw (← some_is e) small)
number_on-sound n (b ∷ bs) small e =
    let first = refused (nat_lt b 48 || nat_lt 57 b) e in
    let digit = is_digit b first.0 in
    let value : digit_value b + 48 ≡ b = digit_value_digit b digit in
    let next = chosen (nat_lt (n * 10 + (b - 48)) 65536) first.1 in
    let same : n * 10 + (b - 48) ≡ n * 10 + digit_value b = omega arith in
    let rest = number_on-sound (n * 10 + (b - 48)) bs (ltb-true _ 65536 next.0) next.1 in
    ((omega arith, rest.0), ap (λ (k : ℕ). digits_value_after 10 k bs) (sym same) ∙ rest.1, rest.2)

value_after-le : (n : ℕ) (ds : List ℕ) → n ≤ digits_value_after 10 n ds
value_after-le n [] = omega arith
value_after-le n (c ∷ cs) = omega (arith, value_after-le (n * 10 + digit_value c) cs)

-- and digits with a value below 2^16 are read
number_on-complete : (n : ℕ) (ds : List ℕ) → AllDigits 10 ds → digits_value_after 10 n ds < 65536 → number_on n ds ≡ Some (digits_value_after 10 n ds)
number_on-complete n [] d small = refl
number_on-complete n (b ∷ bs) d small =
    let digit = digit_from_value b d.0 in
    let value : digit_value b + 48 ≡ b = digit_value_digit b digit in
    let same : n * 10 + (b - 48) ≡ n * 10 + digit_value b = omega arith in
    let below : nat_lt (n * 10 + digit_value b) 65536 ≡ true = lt-ltb _ 65536 (omega (arith, value_after-le (n * 10 + digit_value b) bs)) in
    rw (no_digit b digit, same, below) (number_on-complete (n * 10 + digit_value b) bs d.1 small)

-- a word with no leading zero is read digit after digit
number_of-plain : (w : List ℕ) → 0 < length w → (get_or w 0 0 ≡ 48 → length w ≡ 1) → number_of w ≡ number_on 0 w
number_of-plain [] some lead = absurd (omega arith)
number_of-plain (b ∷ []) some lead = refl
number_of-plain (b ∷ c ∷ bs) some lead =
    let no : b ≡ 48 → ⊥ = λ z. omega (arith, lead z) in
    let plain : eqb b 48 ≡ false = ne_eqb b 48 no in
    rw plain refl

decimal-lead : (n : ℕ) → n < 65536 → get_or (decimal n) 0 0 ≡ 48 → length (decimal n) ≡ 1
decimal-lead zero small e = ap length (decimal_digit 0 (omega arith))
decimal-lead (suc n) small e = absurd (omega (arith, first_decimal (suc n) (omega arith) (omega arith)))

-- a number below 2^16 is read from its decimal digits
pub number_of-decimal : (n : ℕ) → n < 65536 → number_of (decimal n) ≡ Some n
number_of-decimal n small =
    let numeral = decimal_is_IsNumeral n (omega arith) in
    let value : digits_value_after 10 0 (decimal n) ≡ n = numeral.1 in
    number_of-plain (decimal n) (decimal_nonempty n (omega arith)) (decimal-lead n small)
    ∙ number_on-complete 0 (decimal n) numeral.0.1 (omega arith)
    ∙ ap (λ (k : ℕ). Some k) value

-- digits of a value below 2^16, with no leading zero, are that value's decimal
from_digits : (w : List ℕ) {n : ℕ} → 0 < length w → (get_or w 0 0 ≡ 48 → length w ≡ 1) → number_on 0 w ≡ Some n → (w ≡ decimal n) × (n < 65536)
from_digits w some lead e =
    let read = number_on-sound 0 w (omega arith) e in
    let same = decimal-digits_value (numerals_by_value _ tells_digits) w read.0 some lead (omega (arith, read.1, read.2)) in
    (sym same ∙ ap decimal read.1, read.2)

-- what is read as a number is its decimal
pub number_of-sound : (w : List ℕ) {n : ℕ} → number_of w ≡ Some n → (w ≡ decimal n) × (n < 65536)
number_of-sound [] e = absurd (cc)
number_of-sound (b ∷ []) e = from_digits (b ∷ []) (omega arith) (λ _. refl) e
number_of-sound (b ∷ c ∷ bs) e =
    let plain = refused (eqb b 48) e in
    from_digits (b ∷ c ∷ bs) (omega arith) (λ z. absurd (eqb-false b 48 plain.0 z)) plain.1
