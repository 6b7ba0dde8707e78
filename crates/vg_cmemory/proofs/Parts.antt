-- Reads of a chunk: its bytes are all set.
use Rattle.std.specs.Prelude.{nat_le}
use Rattle.std.proofs.Common.{◌≡◌, ℕ, zero, suc, ◌+◌, ◌%◌, nat_eq, Bool, true, false, List, [], ◌∷◌, length, map, take, drop, slice_set, arith, Option, None}
use Rattle.std.proofs.Common.{Ok, Err, if◌then◌else◌, refl, ap, ◌∙◌}
use Rattle.vg_core.specs.declared.reason.Reason.TheVariants as reasons
use Rattle.vg_cmemory.specs.declared.object.Room.{Room}
use Rattle.vg_cint.specs.Tests.{test, first_against, unless}
use Rattle.vg_cmemory.specs.Cells.{all_of, bytes_from}
use Rattle.vg_cmemory.specs.Access.{Bytes, Lent, set, part, put, or_zero, all_set, word_of, lies_in, place_tests, load_from}

map_take : (n : ℕ) (xs : List ℕ) → take n (map set xs) ≡ map set (take n xs)
map_take zero xs = refl
map_take (suc n) [] = refl
map_take (suc n) (x ∷ xs) = ap (λ (ys : List (Option ℕ)). set x ∷ ys) (map_take n xs)

map_drop : (n : ℕ) (xs : List ℕ) → drop n (map set xs) ≡ map set (drop n xs)
map_drop zero xs = refl
map_drop (suc n) [] = refl
map_drop (suc n) (x ∷ xs) = map_drop n xs

map_part : (xs : List ℕ) (from size : ℕ) → part (map set xs) from size ≡ map set (part xs from size)
map_part xs from size = ap (take size) (map_drop from xs) ∙ map_take size (drop from xs)

map_set : (xs : List ℕ) → all_set (map set xs) ≡ true
map_set [] = refl
map_set (x ∷ xs) = map_set xs

map_length : (xs : List ℕ) → length (map set xs) ≡ length xs
map_length [] = refl
map_length (x ∷ xs) = ap suc (map_length xs)

all_hold : (x v y z : Bool) (word : ℕ) → first_against (test reasons.OutOfObject x ∷ test reasons.OutOfObject v ∷ test reasons.Misaligned y ∷ []) ≡
    None → z ≡ true →
    unless (first_against (test reasons.Dead true ∷ test reasons.OutOfObject x ∷ test reasons.OutOfObject v ∷ test reasons.Misaligned y
    ∷ test reasons.Unset z ∷ [])) word ≡ Ok word
all_hold true true true true word e h = refl
all_hold true true true false word e h = cc
all_hold true true false z word e h = cc
all_hold true false y z word e h = cc
all_hold false v y z word e h = cc

put_next : {A : Type 0} (xs ys : List A) (x : A) (at place : ℕ) → place ≡ suc at → put (x ∷ xs) place ys ≡ x ∷ put xs at ys
put_next xs [] x at place e = refl
put_next xs (y ∷ ys) x at zero e = absurd (omega arith)
put_next {A} xs (y ∷ ys) x at (suc place) e =
    let same : place ≡ at = omega arith in
    put_next (slice_set xs place y) ys x (place + 1) (suc place + 1) (omega arith)
    ∙ ap (λ (k : ℕ). x ∷ put (slice_set xs k y) (k + 1) ys) same

-- as many bytes as there are places fill them
pub put_whole : {A : Type 0} (xs ys : List A) → length ys ≡ length xs → put xs 0 ys ≡ ys
put_whole [] [] h = refl
put_whole [] (y ∷ ys) h = absurd (omega arith)
put_whole (x ∷ xs) [] h = absurd (omega arith)
put_whole {A} (x ∷ xs) (y ∷ ys) h = put_next xs ys y 0 1 refl ∙ ap (λ (zs : List A). y ∷ zs) (put_whole xs ys (omega arith))

map_length_or_zero : (xs : List (Option ℕ)) → length (map or_zero xs) ≡ length xs
map_length_or_zero [] = refl
map_length_or_zero (x ∷ xs) = ap suc (map_length_or_zero xs)

pub filled : (bytes : List (Option ℕ)) (into new : List ℕ) → length bytes ≡ length into → all_set bytes ≡ true → new ≡ put into 0 (map or_zero bytes) →
    Ok new ≡ all_of bytes
filled bytes into new l h e =
    let whole = put_whole into (map or_zero bytes) (map_length_or_zero bytes ∙ l) in
    rw h (ap Ok (e ∙ whole))

pub octets_read : (bytes : List ℕ) (room : Option Room) (offset count align : ℕ) → first_against (place_tests (length bytes) room offset count align) ≡ None →
    load_from (Bytes (map set bytes)) (map set bytes) room offset count align ≡ Ok (word_of (map set (part bytes offset count)))
octets_read bytes room offset count align e =
    rw (map_length bytes, map_part bytes offset count, map_set (part bytes offset count))
    (all_hold (nat_le (offset + count) (length bytes)) (lies_in room offset count) (nat_eq (offset % align) 0) true
    (word_of (map set (part bytes offset count))) e refl)

map_part_or_zero : (xs : List ℕ) → map or_zero (map set xs) ≡ xs
map_part_or_zero [] = refl
map_part_or_zero (x ∷ xs) = ap (λ (ys : List ℕ). x ∷ ys) (map_part_or_zero xs)

all_hold_from : (x y z : Bool) (bytes : List ℕ) → first_against (test reasons.OutOfObject x ∷ test reasons.OutOfObject true ∷ test reasons.Misaligned y ∷ []) ≡
    None → z ≡ true →
    unless (first_against (test reasons.Dead true ∷ test reasons.OutOfObject x ∷ test reasons.OutOfObject true ∷ test reasons.Misaligned y
    ∷ test reasons.Unset z ∷ [])) bytes ≡ Ok bytes
all_hold_from true true true bytes e h = refl
all_hold_from true true false bytes e h = cc
all_hold_from true false z bytes e h = cc
all_hold_from false y z bytes e h = cc

pub octets_from : (bytes : List ℕ) (offset count : ℕ) → first_against (place_tests (length bytes) None offset count 1) ≡ None →
    bytes_from (Bytes (map set bytes)) (map set bytes) offset count ≡ Ok (part bytes offset count)
octets_from bytes offset count e =
    rw (map_length bytes, map_part bytes offset count, map_set (part bytes offset count), map_part_or_zero (part bytes offset count))
    (all_hold_from (nat_le (offset + count) (length bytes)) (nat_eq (offset % 1) 0) true (part bytes offset count) e refl)

all_from : (x y z : Bool) (bytes : List ℕ) → first_against (test reasons.OutOfObject x ∷ test reasons.OutOfObject true ∷ test reasons.Misaligned y ∷ []) ≡
    None →
    unless (first_against (test reasons.Dead true ∷ test reasons.OutOfObject x ∷ test reasons.OutOfObject true ∷ test reasons.Misaligned y
    ∷ test reasons.Unset z ∷ [])) bytes ≡ (if z then Ok bytes else Err reasons.Unset)
all_from true true true bytes e = refl
all_from true true false bytes e = refl
all_from true false z bytes e = cc
all_from false y z bytes e = cc

pub set_from : (bytes : List (Option ℕ)) (offset count : ℕ) → first_against (place_tests (length bytes) None offset count 1) ≡ None →
    bytes_from (Bytes bytes) bytes offset count ≡ all_of (part bytes offset count)
set_from bytes offset count e =
    all_from (nat_le (offset + count) (length bytes)) (nat_eq (offset % 1) 0) (all_set (part bytes offset count))
    (map or_zero (part bytes offset count)) e

pub chunk_read : (from size : ℕ) (bytes : List ℕ) (room : Option Room) (offset count align : ℕ)
    → first_against (place_tests (length bytes) room offset count align) ≡ None →
    load_from (Lent from size) (map set bytes) room offset count align ≡ Ok (word_of (map set (part bytes offset count)))
chunk_read from size bytes room offset count align e =
    rw (map_length bytes, map_part bytes offset count, map_set (part bytes offset count))
    (all_hold (nat_le (offset + count) (length bytes)) (lies_in room offset count) (nat_eq (offset % align) 0) true
    (word_of (map set (part bytes offset count))) e refl)
