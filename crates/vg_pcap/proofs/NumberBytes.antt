-- Numbers as bytes: what was written is read, and what was read is written.
use Rattle.std.proofs.Common.{◌≡◌, ◌≤◌, ◌<◌, ℕ, zero, suc, ◌+◌, ◌*◌, ◌/◌, ◌%◌, ◌^◌, List, [], ◌∷◌, ◌++◌, length, take, drop, slice_index, refl, sym}
use Rattle.std.proofs.Common.{ap, ◌∙◌, arith}
use Rattle.std.proofs.Math.Nat.{div-div-eq-div-mul, pow-succ'}
use Rattle.std.proofs.lemmas.Nat.{div-mul-add}
use Rattle.std.proofs.lemmas.List.{drop_at, get_or-drop, length-take-le, take-append-drop}
use Rattle.std.specs.Int.{byte_at, bytes_low_first}
use Rattle.byteorder.specs.Endian.{little_number, little_bytes, big_number, big_bytes}
use Rattle.byteorder.specs.Numbers.{little_from-cons, little_from-lt, big_from-cons, big_from-lt, big_from-take, length-bytes_low_first}
use Rattle.byteorder.specs.Numbers.{length-bytes_high_first, little_number-reads_back, big_number-reads_back}
use Rattle.vg_base.specs.Files.{AreBytes}
use Rattle.vg_pcap.specs.Captures.{Order, Little, Big, number_bytes}
use Rattle.vg_pcap.specs.Reading.{number_in}

pub AreBytes-drop : (n : ℕ) (bytes : List ℕ) → AreBytes bytes → AreBytes (drop n bytes)
AreBytes-drop n bytes small k = rw (get_or-drop n bytes k 0) (small (n + k))

-- ---- the least byte first

-- the next byte of a number is that byte of what is left of it
byte_at-next : (i n : ℕ) → byte_at (suc i) n ≡ byte_at i (n / 256)
byte_at-next zero n = refl
byte_at-next (suc i) n =
    ap (λ (m : ℕ). m % 256) (ap (λ (p : ℕ). n / p) (pow-succ' 256 (suc i)) ∙ sym (div-div-eq-div-mul n 256 (256 ^ suc i)))

bytes_low_first-next : (i size n : ℕ) → bytes_low_first (suc i) size n ≡ bytes_low_first i size (n / 256)
bytes_low_first-next i zero n = refl
bytes_low_first-next i (suc size) n = rw (byte_at-next i n, bytes_low_first-next (suc i) size n) refl

-- a number with a byte below the others
little_bytes-more : (size b n : ℕ) → b < 256 → little_bytes (suc size) (b + 256 * n) ≡ b ∷ little_bytes size n
little_bytes-more size b n h =
    let low : (b + 256 * n) % 256 ≡ b = omega arith in
    let high : (b + 256 * n) / 256 ≡ n = omega arith in
    rw (bytes_low_first-next 0 size (b + 256 * n), low, high) refl

little_bytes-number : (size : ℕ) (bytes : List ℕ) → size ≤ length bytes → AreBytes bytes → little_bytes size (little_number size bytes) ≡ take size bytes
little_bytes-number zero bytes long small = refl
little_bytes-number (suc size) [] long small = absurd (omega arith)
little_bytes-number (suc size) (b ∷ bytes) long small =
    let number : little_number (suc size) (b ∷ bytes) ≡ b + 256 * little_number size bytes = ap (λ (n : ℕ). b + 256 * n) (little_from-cons 0 size b bytes) in
    let rest = little_bytes-number size bytes (omega arith) (λ k. small (suc k)) in
    rw number (little_bytes-more size b (little_number size bytes) (small 0) ∙ ap (λ (bs : List ℕ). b ∷ bs) rest)

-- ---- the greatest byte first

byte_at-small : (i n : ℕ) → byte_at i n < 256
byte_at-small zero n = omega arith
byte_at-small (suc i) n = omega arith

big_bytes-small : (size n k : ℕ) → slice_index (big_bytes size n) k < 256
big_bytes-small zero n k = omega arith
big_bytes-small (suc size) n zero = byte_at-small size n
big_bytes-small (suc size) n (suc k) = big_bytes-small size n k

same_bytes : {x y : ℕ} {xs ys : List ℕ} → x ≡ y → xs ≡ ys → x ∷ xs ≡ y ∷ ys
same_bytes p q = cc

-- a number's greatest byte, and what is below it
split_same : (p x y m n : ℕ) → m < p → n < p → x * p + m ≡ y * p + n → (x ≡ y) × (m ≡ n)
split_same p x y m n small_m small_n e =
    let first : x ≡ y = sym (div-mul-add x p m small_m) ∙ ap (λ (k : ℕ). k / p) e ∙ div-mul-add y p n small_n in
    let same : y * p + m ≡ y * p + n = rw first at e in
    (first, omega arith)

-- the same number in as many bytes is the same bytes
big_same : (size : ℕ) (xs ys : List ℕ) → length xs ≡ size → length ys ≡ size → AreBytes xs → AreBytes ys → big_number size xs ≡ big_number size ys → xs ≡ ys
big_same zero [] [] p q small_x small_y e = refl
big_same zero (x ∷ xs) ys p q small_x small_y e = absurd (omega arith)
big_same zero [] (y ∷ ys) p q small_x small_y e = absurd (omega arith)
big_same (suc size) [] ys p q small_x small_y e = absurd (omega arith)
big_same (suc size) (x ∷ xs) [] p q small_x small_y e = absurd (omega arith)
big_same (suc size) (x ∷ xs) (y ∷ ys) p q small_x small_y e =
    let both : x * 256 ^ size + big_number size xs ≡ y * 256 ^ size + big_number size ys = rw (big_from-cons 0 size x xs, big_from-cons 0 size y ys) at e in
    let parts = split_same (256 ^ size) x y (big_number size xs) (big_number size ys) (big_from-lt 0 size xs (λ k. small_x (suc k)))
    (big_from-lt 0 size ys (λ k. small_y (suc k))) both in
    same_bytes parts.0 (big_same size xs ys (omega arith) (omega arith) (λ k. small_x (suc k)) (λ k. small_y (suc k)) parts.1)

AreBytes-take : (n : ℕ) (bytes : List ℕ) → AreBytes bytes → AreBytes (take n bytes)
AreBytes-take zero bytes small k = omega arith
AreBytes-take (suc n) [] small k = omega arith
AreBytes-take (suc n) (b ∷ bytes) small zero = small 0
AreBytes-take (suc n) (b ∷ bytes) small (suc k) = AreBytes-take n bytes (λ j. small (suc j)) k

append_nil : (xs : List ℕ) → xs ++ [] ≡ xs
append_nil [] = refl
append_nil (x ∷ xs) = ap (λ (ys : List ℕ). x ∷ ys) (append_nil xs)

big_bytes-number : (size : ℕ) (bytes : List ℕ) → size ≤ length bytes → AreBytes bytes → big_bytes size (big_number size bytes) ≡ take size bytes
big_bytes-number size bytes long small =
    let n = big_number size bytes in
    let read : big_number size (big_bytes size n) ≡ n = rw append_nil at (big_number-reads_back size n [] (big_from-lt 0 size bytes small)) in
    big_same size (big_bytes size n) (take size bytes) (length-bytes_high_first size n) (length-take-le size bytes long) (big_bytes-small size n)
    (AreBytes-take size bytes small)
    (read ∙ sym (big_from-take 0 size size bytes (omega arith)))

-- ---- either order

-- the bytes of the number that was read are those that it was read from
pub number_bytes-number : (order : Order) (size : ℕ) (bytes : List ℕ) → size ≤ length bytes → AreBytes bytes
    → number_bytes order size (number_in order size bytes) ≡ take size bytes
number_bytes-number Little size bytes long small = little_bytes-number size bytes long small
number_bytes-number Big size bytes long small = big_bytes-number size bytes long small

-- the number whose bytes stand there is read
pub number_in-bytes : (order : Order) (size n : ℕ) (rest : List ℕ) → n < 256 ^ size → number_in order size (number_bytes order size n ++ rest) ≡ n
number_in-bytes Little size n rest h = little_number-reads_back size n rest h
number_in-bytes Big size n rest h = big_number-reads_back size n rest h

-- a number takes as many bytes as it is given
pub length-number_bytes : (order : Order) (size n : ℕ) → length (number_bytes order size n) ≡ size
length-number_bytes Little size n = length-bytes_low_first 0 size n
length-number_bytes Big size n = length-bytes_high_first size n

-- a number is read just where its bytes stand
pub number_is : (order : Order) (size n : ℕ) (bytes : List ℕ) → size ≤ length bytes → AreBytes bytes → number_in order size bytes ≡ n
    → take size bytes ≡ number_bytes order size n
number_is order size n bytes long small e = sym (number_bytes-number order size bytes long small) ∙ ap (number_bytes order size) e

pub number_told : (order : Order) (size n : ℕ) (bytes : List ℕ) → n < 256 ^ size → take size bytes ≡ number_bytes order size n → number_in order size bytes ≡ n
number_told order size n bytes fits e =
    ap (number_in order size) (sym (take-append-drop size bytes) ∙ ap (λ (front : List ℕ). front ++ drop size bytes) e)
    ∙ number_in-bytes order size n (drop size bytes) fits

-- the same bytes are the same number, and the same bytes behind it
pub record SameFront (x y : ℕ) (a b : List ℕ) : Type 0 where
  pub number : x ≡ y
  pub rest : a ≡ b

pub number_bytes-same : (order : Order) (size x y : ℕ) (a b : List ℕ) → x < 256 ^ size → y < 256 ^ size → number_bytes order size x
    ++ a ≡ number_bytes order size y ++ b → SameFront x y a b
number_bytes-same order size x y a b fits_x fits_y e = record {
  number = sym (number_in-bytes order size x a fits_x) ∙ ap (number_in order size) e ∙ number_in-bytes order size y b fits_y;
  rest = sym (drop_at _ a size (length-number_bytes order size x)) ∙ ap (drop size) e ∙ drop_at _ b size (length-number_bytes order size y);
}

pub number_in-small : (order : Order) (size : ℕ) (bytes : List ℕ) → AreBytes bytes → number_in order size bytes < 256 ^ size
number_in-small Little size bytes small = little_from-lt 0 size bytes small
number_in-small Big size bytes small = big_from-lt 0 size bytes small
