-- Each piece has a byte at least, and its text has them all.
use Rattle.std.proofs.Common.{◌≡◌, ◌<◌, ◌≤◌, ◌+◌, ◌&&◌, ◌||◌, ℕ, Bool, true, false, cond, inl, inr, List, [], ◌∷◌, length, drop, codes, eqb, Option}
use Rattle.std.proofs.Common.{Some, None, refl, ap, subst, arith, length-drop, length-append}
use Rattle.std.specs.Prelude.{nat_lt, nat_le}
use Rattle.std.specs.List.{list_all, prefix_len, take_while}
use Rattle.std.proofs.lemmas.List.Sums.{prefix_len-le-length}
use Rattle.std.proofs.lemmas.List.Folds.{length-prefix_len}
use Rattle.std.proofs.lemmas.Slice.Eq.{starts_is}
use Rattle.std.proofs.lemmas.Bool.{false≢true, cases_Bool, and_parts, ltb-true}
use Rattle.std.proofs.lemmas.Bool.Decides.{Decides-eqb}
use Rattle.vg_stok.specs.Bytes.{is_digit, is_name_byte, is_blank, is_in_line, begins}
use Rattle.vg_stok.specs.Tables.{row_at, signs}
use Rattle.vg_stok.specs.Comments.{close_from, opens_comment, comment_size}
use Rattle.vg_stok.specs.Pieces.{piece, comment_piece, sign_piece, first_piece, token_piece}
use Rattle.vg_stok.specs.declared.kinds.Sign.{Sign}
use Rattle.vg_stok.specs.declared.pieces.What.{What}
use Rattle.vg_stok.specs.declared.pieces.Piece.{Piece}

pub prefix_within : {X : Type 0} (p : X → Bool) (xs : List X) → prefix_len p xs ≤ length xs
prefix_within p xs = prefix_len-le-length p xs

-- a piece has some bytes, and its text has them all
pub record Fits (p : Piece) (text : List ℕ) : Type 0 where
  pub some : 0 < p.size
  pub within : p.size ≤ length text

either : (b : Bool) (x y : Piece) (text : List ℕ) → (b ≡ true → Fits x text) → (b ≡ false → Fits y text) → Fits (cond b x y) text
either true x y text f g = f refl
either false x y text f g = g refl

-- texts that begin with bytes have them
pub starts-length : (text word : List ℕ) → begins text word ≡ true → length word ≤ length text
starts-length text word e =
    let parts = (starts_is Decides-eqb text word (begins text word) refl).0 e in
    omega (arith, ap (λ (l : List ℕ). length l) parts, length-append word (drop (length word) text))

some_is : {A : Type 0} {x y : A} → Some x ≡ Some y → x ≡ y
some_is e = cc

no_some : {A : Type 0} {x : A} {P : Type 0} → None ≡ Some x → P
no_some e = absurd (cc)

side : {A : Type 0} (b : Bool) {x y r : A} {P : Type 0} → (b ≡ true → x ≡ r → P) → (b ≡ false → y ≡ r → P) → cond b x y ≡ r → P
side true f g e = f refl e
side false f g e = g refl e

-- comments
close-here : (at : ℕ) (text : List ℕ) (n : ℕ) → begins text (codes "*/") ≡ true → Some (at + 2) ≡ Some n → (at < n) × (n ≤ at + length text)
close-here at text n so same =
    let two : 2 ≤ length text = starts-length text (codes "*/") so in
    let is : at + 2 ≡ n = some_is same in
    (omega arith, omega arith)

close-later : (at b : ℕ) (bytes : List ℕ) (n : ℕ) → (at + 1 < n) × (n ≤ at + 1 + length bytes) → (at < n) × (n ≤ at + length (b ∷ bytes))
close-later at b bytes n h = (omega arith, omega arith)

close-within : (at : ℕ) (text : List ℕ) (n : ℕ) → close_from at text ≡ Some n → (at < n) × (n ≤ at + length text)
close-within at [] n e = no_some e
close-within at (b ∷ bytes) n e =
    side (begins (b ∷ bytes) (codes "*/")) (λ so same. close-here at (b ∷ bytes) n so same)
    (λ unless more. close-later at b bytes n (close-within (at + 1) bytes n more)) e

first-passes : (p : ℕ → Bool) (b : ℕ) (bytes : List ℕ) → p b ≡ true → 0 < prefix_len p (b ∷ bytes)
first-passes p b bytes e = rw e (omega arith)

blank_if : (x y z w : Bool) → (x || y || z || w) ≡ false → w ≡ false
blank_if true y z w e = absurd (cc)
blank_if false true z w e = absurd (cc)
blank_if false false true w e = absurd (cc)
blank_if false false false w e = e

in_line : (b : ℕ) → is_blank b ≡ false → is_in_line b ≡ true
in_line b e = rw (blank_if (eqb b 32) (eqb b 9) (eqb b 13) (eqb b 10) e) refl

to_line_end : (b : ℕ) (bytes : List ℕ) (n : ℕ) → is_blank b ≡ false → Some (prefix_len is_in_line (b ∷ bytes)) ≡ Some n
    → (0 < n) × (n ≤ length (b ∷ bytes))
to_line_end b bytes n more same =
    let is : prefix_len is_in_line (b ∷ bytes) ≡ n = some_is same in
    let some = first-passes is_in_line b bytes (in_line b more) in
    let within = prefix_len-le-length is_in_line (b ∷ bytes) in
    (subst (λ (k : ℕ). 0 < k) is some, subst (λ (k : ℕ). k ≤ length (b ∷ bytes)) is within)

to_close : (text : List ℕ) (n : ℕ) → begins text (codes "/*") ≡ true → close_from 2 (drop 2 text) ≡ Some n → (0 < n) × (n ≤ length text)
to_close text n so close =
    let two : 2 ≤ length text = starts-length text (codes "/*") so in
    let h = close-within 2 (drop 2 text) n close in
    let rest = length-drop 2 text in
    (omega (arith, h.0), omega (arith, h.1, rest))

comment-within : (b : ℕ) (bytes : List ℕ) (n : ℕ) → is_blank b ≡ false → comment_size (b ∷ bytes) ≡ Some n → (0 < n) × (n ≤ length (b ∷ bytes))
comment-within b bytes n more e =
    side (begins (b ∷ bytes) (codes "//")) (λ so same. to_line_end b bytes n more same)
    (λ unless others. side (begins (b ∷ bytes) (codes "/*")) (λ so close. to_close (b ∷ bytes) n so close) (λ unless none. no_some none) others) e

comment-fits : (b : ℕ) (bytes : List ℕ) (size : Option ℕ) → is_blank b ≡ false → comment_size (b ∷ bytes) ≡ size
    → Fits (comment_piece (b ∷ bytes) size) (b ∷ bytes)
comment-fits b bytes None more is = record { some = omega arith; within = omega arith }
comment-fits b bytes (Some n) more is =
    let h = comment-within b bytes n more is in
    record { some = h.0; within = h.1 }

-- words
one_holds : (x d u : Bool) → d ≡ true → (x || d || u) ≡ true
one_holds true d u e = refl
one_holds false true u e = refl
one_holds false false u e = absurd (false≢true e)

digit_in_names : (b : ℕ) → is_digit b ≡ true → is_name_byte b ≡ true
digit_in_names b e = one_holds (nat_le 97 b && nat_le b 122 || nat_le 65 b && nat_le b 90) (is_digit b) (eqb b 95) e

word-fits : (b : ℕ) (bytes : List ℕ) (what : What) → is_name_byte b ≡ true → Fits (piece (length (take_while is_name_byte (b ∷ bytes))) what) (b ∷ bytes)
word-fits b bytes what is =
    let size = length-prefix_len is_name_byte (b ∷ bytes) in
    record {
      some = omega (arith, size, first-passes is_name_byte b bytes is);
      within = omega (arith, size, prefix_len-le-length is_name_byte (b ∷ bytes));
    }

-- signs
sign-fits : (text : List ℕ) (rows : List (List ℕ × Sign)) → 1 ≤ length text → list_all (λ row. nat_lt 0 (length row.0)) rows ≡ true
    → Fits (sign_piece (row_at rows text)) text
sign-fits text [] some whole = record { some = omega arith; within = some }
sign-fits text (row ∷ rows) some whole =
    let parts = and_parts (nat_lt 0 (length row.0)) (list_all (λ row. nat_lt 0 (length row.0)) rows) whole in
    elim (cases_Bool (begins text row.0)) [
      | inl so ↦ rw so (record { some = ltb-true 0 (length row.0) parts.0; within = starts-length text row.0 so })
      | inr unless ↦ rw unless (sign-fits text rows some parts.1)
    ]

-- the whole
pub first-fits : (text : List ℕ) → 1 ≤ length text → Fits (first_piece text) text
unfolding first_piece token_piece
first-fits [] some = absurd (omega (arith, some))
first-fits (b ∷ bytes) some =
    let text = b ∷ bytes in
    either (is_blank b) _ _ text (λ blank. record { some = omega arith; within = some }) (λ dark.
    either (opens_comment text) _ _ text (λ opens. comment-fits b bytes (comment_size text) dark refl) (λ other.
    either (is_digit b) _ _ text (λ digit. word-fits b bytes _ (digit_in_names b digit)) (λ other.
    either (is_name_byte b) _ _ text (λ name. word-fits b bytes _ name) (λ other. sign-fits text signs some refl))))
