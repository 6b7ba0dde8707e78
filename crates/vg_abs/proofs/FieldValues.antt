-- Numbers that are read byte by byte, and fields that are read one after another.
use Rattle.std.proofs.Common.{◌≡◌, ◌≢◌, ℕ, suc, ◌+◌, ◌-◌, ◌*◌, ◌%◌, ◌^◌, ◌<◌, ◌≤◌, List, [], ◌∷◌, ◌++◌, fold, take, drop, length, get_or, refl, sym}
use Rattle.std.proofs.Common.{◌∙◌, ap, arith, drop-cons, add-one}
use Rattle.std.specs.Prelude.{reverse}
use Rattle.std.proofs.lemmas.List.{drop_all, reverse-append}
use Rattle.vg_stree.specs.declared.shape.Field.{Field}
use Rattle.vg_stree.specs.Declarations.{field_bytes}
use Rattle.vg_abs.specs.Fields.{number_from_low, number_from_high, value_in, values_in}
use Rattle.vg_abs.specs.FieldSteps.{with_byte, from_high}
use Rattle.vg_abs.specs.Expressions.{value_at}

step_is : (number byte : ℕ) → with_byte (number % 2 ^ 64) byte ≡ (number * 256 + byte) % 2 ^ 64
step_is number byte = omega arith

folds : (start : ℕ) (bytes : List ℕ) → fold with_byte (start % 2 ^ 64) bytes ≡ fold (λ number byte. number * 256 + byte) start bytes % 2 ^ 64
folds start [] = refl
folds start (byte ∷ bytes) = ap (λ n. fold with_byte n bytes) (step_is start byte) ∙ folds (start * 256 + byte) bytes

pub high_is : (bytes : List ℕ) → from_high bytes ≡ number_from_high bytes % 2 ^ 64
high_is bytes = folds 0 bytes

one_more : (start byte : ℕ) (bytes : List ℕ) → fold with_byte start (bytes ++ byte ∷ []) ≡ with_byte (fold with_byte start bytes) byte
one_more start byte [] = refl
one_more start byte (first ∷ bytes) = one_more (with_byte start first) byte bytes

turned : (number byte : ℕ) → (number * 256 + byte) % 2 ^ 64 ≡ (byte + 256 * number) % 2 ^ 64
turned number byte = omega arith

pub low_is : (bytes : List ℕ) → from_high (reverse bytes) ≡ number_from_low bytes % 2 ^ 64
low_is [] = refl
low_is (byte ∷ bytes) =
    ap from_high (reverse-append (byte ∷ []) bytes) ∙ one_more 0 byte (reverse bytes) ∙ ap (λ n. with_byte n byte) (low_is bytes)
    ∙ step_is (number_from_low bytes) byte ∙ turned (number_from_low bytes) byte

-- the fields from a place on
at_place : (fields : List Field) (i : ℕ) (field : Field) → i < length fields → field ≡ get_or fields i field → drop i fields ≡ field ∷ drop (i + 1) fields
at_place fields i field less is = rw add-one (drop-cons fields i field less ∙ ap (λ (f : Field). f ∷ drop (suc i) fields) (sym is))

pub value_here : (fields : List Field) (rest : List ℕ) (i number total : ℕ) (field : Field) → i < length fields → field ≡ get_or fields i field → i ≡ number →
    value_at (values_in (drop i fields) rest) (number - i) ≡ total → value_in field.of (take (field_bytes field.of) rest) ≡ total
value_here fields rest i number total field less is same so_far =
    let none : number - i ≡ 0 = omega arith in
    sym (ap (λ (fs : List Field). value_at (values_in fs rest) (number - i)) (at_place fields i field less is)
    ∙ ap (λ n. value_at (values_in (field ∷ drop (i + 1) fields) rest) n) none) ∙ so_far

pub value_later : (fields : List Field) (rest : List ℕ) (i number total : ℕ) (d : Field) → i < length fields → i ≢ number → i ≤ number →
    value_at (values_in (drop i fields) rest) (number - i) ≡ total
    → value_at (values_in (drop (i + 1) fields) (drop (field_bytes (get_or fields i d).of) rest)) (number - (i + 1)) ≡ total
value_later fields rest i number total d less ne at so_far =
    let more : number - i ≡ suc (number - (i + 1)) = omega arith in
    let next : drop i fields ≡ get_or fields i d ∷ drop (i + 1) fields = rw add-one (drop-cons fields i d less) in
    sym (ap (λ (fs : List Field). value_at (values_in fs rest) (number - i)) next
    ∙ ap (λ n. value_at (values_in (get_or fields i d ∷ drop (i + 1) fields) rest) n) more) ∙ so_far

pub value_none : (fields : List Field) (rest : List ℕ) (i number total : ℕ) → length fields ≤ i
    → value_at (values_in (drop i fields) rest) number ≡ total → 0 ≡ total
value_none fields rest i number total past so_far = sym (ap (λ (fs : List Field). value_at (values_in fs rest) number) (drop_all i fields past)) ∙ so_far
