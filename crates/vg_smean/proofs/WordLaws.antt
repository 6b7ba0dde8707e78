-- What is read and written past a frame's end, and byte by byte.
use Rattle.std.proofs.Common.{◌≡◌, ℕ, zero, suc, ◌+◌, ◌-◌, ◌/◌, ◌%◌, ◌<◌, ◌≤◌, List, [], ◌∷◌, ◌++◌, take, drop, length, refl, sym, ◌∙◌, ap}
use Rattle.std.proofs.Common.{Option, None, arith, append-nil}
use Rattle.std.specs.Prelude.{reverse, slice_get, slice_set, unwrap_or}
use Rattle.std.proofs.Math.Seq.{take-nil}
use Rattle.std.proofs.lemmas.List.{drop_all, take_all, reverse-append, length-reverse}
use Rattle.vg_stree.specs.declared.code.FrameWord.{FrameWord}
use Rattle.vg_abs.specs.Fields.{number_from_high, low_bytes}
use Rattle.vg_smean.specs.FrameWords.{bytes_from, word_bytes, word_at, with_bytes_from, with_word}

-- no byte stands past the end
none_there : (frame : List ℕ) (place : ℕ) → length frame ≤ place → slice_get frame place ≡ None
none_there [] place past = refl
none_there (byte ∷ frame) zero past = absurd (omega arith)
none_there (byte ∷ frame) (suc place) past = none_there frame place (omega arith)

zeros : (frame : List ℕ) (place count : ℕ) → length frame ≤ place → number_from_high (bytes_from frame place count) ≡ 0
zeros frame place zero past = refl
zeros frame place (suc count) past =
    ap (λ (found : Option ℕ). number_from_high (unwrap_or found 0 ∷ bytes_from frame (place + 1) count)) (none_there frame place past)
    ∙ zeros frame (place + 1) count (omega arith)

pub past_end : (frame : List ℕ) (word : FrameWord) (place : ℕ) → length frame ≤ place → 0 ≡ word_at frame word place
past_end frame word place past = sym (zeros frame place (word_bytes word) past)

-- nothing is written past the end
pub unchanged : (frame bytes : List ℕ) (place : ℕ) → length frame ≤ place → with_bytes_from frame place bytes ≡ frame
unchanged frame bytes place past =
    let none : length frame - place ≡ 0 = omega arith in
    ap (λ n. take place frame ++ take n bytes ++ drop (place + length bytes) frame) none
    ∙ ap (λ xs. (take place frame ++ []) ++ xs) (drop_all (place + length bytes) frame (omega arith)) ∙ append-nil (take place frame ++ [])
    ∙ append-nil (take place frame) ∙ take_all place frame past

pub nothing_past_end : (frame : List ℕ) (word : FrameWord) (place number : ℕ) → length frame ≤ place → frame ≡ with_word frame word place number
nothing_past_end frame word place number past = sym (unchanged frame (reverse (low_bytes (word_bytes word) number)) place past)

pub none_set : (frame : List ℕ) (place byte : ℕ) → length frame ≤ place → frame ≡ slice_set frame place byte
none_set [] place byte past = refl
none_set (one ∷ frame) zero byte past = absurd (omega arith)
none_set (one ∷ frame) (suc place) byte past = ap (λ rest. one ∷ rest) (none_set frame place byte (omega arith))

-- byte by byte
here : (one first : ℕ) (frame bytes : List ℕ) → with_bytes_from (one ∷ frame) 0 (first ∷ bytes) ≡ first ∷ with_bytes_from frame 0 bytes
here one first frame bytes =
    let room : length (one ∷ frame) - 0 ≡ suc (length frame - 0) = omega arith in
    let past : 0 + length (first ∷ bytes) ≡ suc (0 + length bytes) = omega arith in
    ap (λ n. take n (first ∷ bytes) ++ drop (0 + length (first ∷ bytes)) (one ∷ frame)) room
    ∙ ap (λ n. first ∷ (take (length frame - 0) bytes ++ drop n (one ∷ frame))) past

there : (one place : ℕ) (frame bytes : List ℕ) → with_bytes_from (one ∷ frame) (suc place) bytes ≡ one ∷ with_bytes_from frame place bytes
there one place frame bytes =
    let room : length (one ∷ frame) - suc place ≡ length frame - place = omega arith in
    let past : suc place + length bytes ≡ suc (place + length bytes) = omega arith in
    ap (λ n. one ∷ (take place frame ++ take n bytes ++ drop (suc place + length bytes) (one ∷ frame))) room
    ∙ ap (λ n. one ∷ (take place frame ++ take (length frame - place) bytes ++ drop n (one ∷ frame))) past

-- no byte is written
no_bytes : (frame : List ℕ) (place : ℕ) → frame ≡ with_bytes_from frame place []
no_bytes [] place = sym (unchanged [] [] place (omega arith))
no_bytes (byte ∷ frame) zero = sym (ap (λ (xs : List ℕ). xs ++ byte ∷ frame) (take-nil (length (byte ∷ frame) - 0)))
no_bytes (byte ∷ frame) (suc place) = ap (λ rest. byte ∷ rest) (no_bytes frame place) ∙ sym (there byte place frame [])

pub none_written : (frame : List ℕ) (place count number : ℕ) → count ≤ 0 → frame ≡ with_bytes_from frame place (reverse (low_bytes count number))
none_written frame place zero number none = no_bytes frame place
none_written frame place (suc count) number none = absurd (omega arith)

-- one byte is written behind others
behind : (frame bytes : List ℕ) (place byte : ℕ) → slice_set (with_bytes_from frame place bytes) (place + length bytes) byte ≡ with_bytes_from frame place
    (bytes ++ byte ∷ [])
behind [] bytes place byte =
    ap (λ (xs : List ℕ). slice_set xs (place + length bytes) byte) (unchanged [] bytes place (omega arith)) ∙ sym
    (none_set [] (place + length bytes) byte (omega arith))
    ∙ sym (unchanged [] (bytes ++ byte ∷ []) place (omega arith))
behind (one ∷ frame) [] zero byte =
    ap (λ (xs : List ℕ). slice_set xs 0 byte) (sym (no_bytes (one ∷ frame) 0)) ∙ ap (λ rest. byte ∷ rest) (no_bytes frame 0) ∙ sym (here one byte frame [])
behind (one ∷ frame) (first ∷ bytes) zero byte =
    let at : 0 + length (first ∷ bytes) ≡ suc (0 + length bytes) = omega arith in
    ap (λ (xs : List ℕ). slice_set xs (0 + length (first ∷ bytes)) byte) (here one first frame bytes)
    ∙ ap (λ n. slice_set (first ∷ with_bytes_from frame 0 bytes) n byte) at
    ∙ ap (λ rest. first ∷ rest) (behind frame bytes 0 byte) ∙ sym (here one first frame (bytes ++ byte ∷ []))
behind (one ∷ frame) bytes (suc place) byte =
    let at : suc place + length bytes ≡ suc (place + length bytes) = omega arith in
    ap (λ (xs : List ℕ). slice_set xs (suc place + length bytes) byte) (there one place frame bytes)
    ∙ ap (λ n. slice_set (one ∷ with_bytes_from frame place bytes) n byte) at
    ∙ ap (λ rest. one ∷ rest) (behind frame bytes place byte) ∙ sym (there one place frame (bytes ++ byte ∷ []))

count_low : (count number : ℕ) → length (low_bytes count number) ≡ count
count_low zero number = refl
count_low (suc count) number = ap suc (count_low count (number / 256))

last_is : (count number : ℕ) → reverse (low_bytes (suc count) number) ≡ reverse (low_bytes count (number / 256)) ++ number % 256 ∷ []
last_is count number = reverse-append (number % 256 ∷ []) (low_bytes count (number / 256))

written_behind : (frame : List ℕ) (place last number : ℕ) →
    slice_set (with_bytes_from frame place (reverse (low_bytes last (number / 256)))) (place + last) (number % 256)
    ≡ with_bytes_from frame place (reverse (low_bytes (suc last) number))
written_behind frame place last number =
    ap (λ n. slice_set (with_bytes_from frame place (reverse (low_bytes last (number / 256)))) (place + n) (number % 256))
    (sym (length-reverse (low_bytes last (number / 256)) ∙ count_low last (number / 256)))
    ∙ behind frame (reverse (low_bytes last (number / 256))) place (number % 256)
    ∙ ap (λ (xs : List ℕ). with_bytes_from frame place xs) (sym (last_is last number))

pub one_written : (frame between after : List ℕ) (place count at number byte : ℕ) → 0 < count → at ≡ place + (count - 1) → byte ≡ number % 256
    → between ≡ with_bytes_from frame place (reverse (low_bytes (count - 1) (number / 256))) → after ≡ slice_set between at byte
    → after ≡ with_bytes_from frame place (reverse (low_bytes count number))
one_written frame between after place count at number byte some here is so_far set =
    let one : suc (count - 1) ≡ count = omega arith in
    set ∙ ap (λ n. slice_set between n byte) here ∙ ap (λ b. slice_set between (place + (count - 1)) b) is
    ∙ ap (λ (xs : List ℕ). slice_set xs (place + (count - 1)) (number % 256)) so_far ∙ written_behind frame place (count - 1) number
    ∙ ap (λ n. with_bytes_from frame place (reverse (low_bytes n number))) one
