-- Each piece has a byte at least, and its text has them all.
use Rattle.std.proofs.Common.{◌≡◌, ◌<◌, ◌≤◌, ◌+◌, ◌-◌, ◌&&◌, ◌||◌, ℕ, Bool, true, false, cond, inl, inr, List, [], ◌∷◌, length, slice_get, drop}
use Rattle.std.proofs.Common.{codes, eqb, Option, Some, None, Result, Ok, Err, refl, ap, subst, arith, length-drop, length-append}
use Rattle.std.specs.Prelude.{nat_lt, nat_le, option_map}
use Rattle.std.specs.List.{list_all, prefix_len, take_while}
use Rattle.std.proofs.lemmas.List.Sums.{prefix_len-le-length}
use Rattle.std.proofs.lemmas.List.Folds.{length-prefix_len}
use Rattle.std.proofs.lemmas.Slice.Eq.{starts_is}
use Rattle.std.proofs.lemmas.Bool.{false≢true, or_cases, cases_Bool, and_parts, ltb-true}
use Rattle.std.proofs.lemmas.Bool.Decides.{Decides-eqb}
use Rattle.vg_ctok.specs.Bytes.{is_digit, is_name_byte, is_space, is_dark, is_in_line, begins}
use Rattle.vg_ctok.specs.Tables.{row_at, row_of, signs, keywords}
use Rattle.vg_ctok.specs.Numbers.{base_of, number_of, number_before}
use Rattle.vg_ctok.specs.Comments.{close_from, opens_comment, comment_size, covered, blanked}
use Rattle.vg_ctok.specs.Directives.{slice, dark_from, word_from, is_include, defines_name, define_of}
use Rattle.vg_ctok.specs.Pieces.{Place, piece, comment_piece, number_piece, name_piece, name_kind, sign_piece, is_taken, define_piece}
use Rattle.vg_ctok.specs.Pieces.{directive_piece, first_piece, token_piece}
use Rattle.vg_ctok.specs.Reader.{IsNamedIn, Fits}
use Rattle.vg_ctok.specs.declared.kinds.Number.{Number}
use Rattle.vg_ctok.specs.declared.kinds.Sign.{Sign}
use Rattle.vg_ctok.specs.declared.kinds.TokFault.{TokFault}
use Rattle.vg_ctok.specs.declared.kinds.TokenKind.TheVariants as kind
use Rattle.vg_ctok.specs.declared.pieces.Define.{Define}
use Rattle.vg_ctok.specs.declared.pieces.Span.{Span}
use Rattle.vg_ctok.specs.declared.pieces.What.{What}
use Rattle.vg_ctok.specs.declared.pieces.What.TheVariants as what
use Rattle.vg_ctok.specs.declared.pieces.Piece.{Piece}

-- what follows from both sides of a choice
pub either : {A : Type 0} (b : Bool) {x y r : A} {P : Type 0} → (b ≡ true → x ≡ r → P) → (b ≡ false → y ≡ r → P) → cond b x y ≡ r → P
either true f g e = f refl e
either false f g e = g refl e

pub ok_is : (r : Result Piece TokFault) (x y : Piece) → r ≡ Ok x → r ≡ Ok y → x ≡ y
ok_is r x y one two = cc

pub some_is : {A : Type 0} {x y : A} → Some x ≡ Some y → x ≡ y
some_is e = cc

pub no_ok : {f : TokFault} {p : Piece} {P : Type 0} → Err f ≡ Ok p → P
no_ok e = absurd (cc)

no_some : {A : Type 0} {x : A} {P : Type 0} → None ≡ Some x → P
no_some e = absurd (cc)

-- a piece that is known
pub piece-fits : (text : List ℕ) (size : ℕ) (what : What) {p : Piece} → 0 < size → size ≤ length text → IsNamedIn what text → piece size what ≡ Ok p
    → Fits p text
piece-fits text size what {p = p} some within named e =
    let known : Fits (record { size = size; what = what }) text = record { some = some; within = within; named = named } in
    subst (λ (q : Piece). Fits q text) (ok_is (piece size what) (record { size = size; what = what }) p refl e) known

-- texts that begin with bytes have them
starts-length : (text word : List ℕ) → begins text word ≡ true → length word ≤ length text
starts-length text word e =
    let parts = (starts_is Decides-eqb text word (begins text word) refl).0 e in
    omega (arith, ap (λ (l : List ℕ). length l) parts, length-append word (drop (length word) text))

-- comments
close-here : (at : ℕ) (text : List ℕ) (n : ℕ) → begins text (codes "*/") ≡ true → Some (at + 2) ≡ Some n → (at < n) × (n ≤ at + length text)
close-here at text n so same =
    let two : 2 ≤ length text = starts-length text (codes "*/") so in
    let is : at + 2 ≡ n = some_is same in
    (omega arith, omega arith)

close-later : (at b : ℕ) (bytes : List ℕ) (n : ℕ) → (at + 1 < n) × (n ≤ at + 1 + length bytes) → (at < n) × (n ≤ at + length (b ∷ bytes))
close-later at b bytes n h = (omega arith, omega arith)

close-within : (at : ℕ) (text : List ℕ) (n : ℕ) → close_from at text ≡ Some n → (at < n) × (n ≤ at + length text)
close-within at [] n e = no_some e
close-within at (b ∷ bytes) n e =
    either (begins (b ∷ bytes) (codes "*/")) (λ so same. close-here at (b ∷ bytes) n so same)
    (λ unless more. close-later at b bytes n (close-within (at + 1) bytes n more)) e

-- the bytes of a line are its length, which is some where no line feed stands first
pub first-passes : (p : ℕ → Bool) (b : ℕ) (bytes : List ℕ) → p b ≡ true → 0 < prefix_len p (b ∷ bytes)
first-passes p b bytes e = rw e (omega arith)

pub in_line : (b : ℕ) → eqb b 10 ≡ false → is_in_line b ≡ true
in_line b e = rw e refl

to_line_end : (b : ℕ) (bytes : List ℕ) (n : ℕ) → eqb b 10 ≡ false → Some (prefix_len is_in_line (b ∷ bytes)) ≡ Some n → (0 < n) × (n ≤ length (b ∷ bytes))
to_line_end b bytes n more same =
    let is : prefix_len is_in_line (b ∷ bytes) ≡ n = some_is same in
    let some = first-passes is_in_line b bytes (in_line b more) in
    let within = prefix_len-le-length is_in_line (b ∷ bytes) in
    (subst (λ (k : ℕ). 0 < k) is some, subst (λ (k : ℕ). k ≤ length (b ∷ bytes)) is within)

to_close : (text : List ℕ) (n : ℕ) → begins text (codes "/*") ≡ true → close_from 2 (drop 2 text) ≡ Some n → (0 < n) × (n ≤ length text)
to_close text n so close =
    let two : 2 ≤ length text = starts-length text (codes "/*") so in
    let h = close-within 2 (drop 2 text) n close in
    let rest = length-drop 2 text in
    (omega (arith, h.0), omega (arith, h.1, rest))

comment-within : (b : ℕ) (bytes : List ℕ) (n : ℕ) → eqb b 10 ≡ false → comment_size (b ∷ bytes) ≡ Some n → (0 < n) × (n ≤ length (b ∷ bytes))
comment-within b bytes n more e =
    either (begins (b ∷ bytes) (codes "//")) (λ so same. to_line_end b bytes n more same)
    (λ unless others. either (begins (b ∷ bytes) (codes "/*")) (λ so close. to_close (b ∷ bytes) n so close) (λ unless none. no_some none) others) e

comment-fits : (here : Place) (b : ℕ) (bytes : List ℕ) (size : Option ℕ) {p : Piece} → eqb b 10 ≡ false → comment_size (b ∷ bytes) ≡ size
    → comment_piece here size ≡ Ok p → Fits p (b ∷ bytes)
comment-fits here b bytes None more is e = no_ok e
comment-fits here b bytes (Some n) more is e =
    let h = comment-within b bytes n more is in
    piece-fits (b ∷ bytes) n what.Comment h.0 h.1 tt e

-- words
one_holds : (x d u : Bool) → d ≡ true → (x || d || u) ≡ true
one_holds true d u e = refl
one_holds false true u e = refl
one_holds false false u e = absurd (false≢true e)

digit_in_names : (b : ℕ) → is_digit b ≡ true → is_name_byte b ≡ true
digit_in_names b e = one_holds (nat_le 97 b && nat_le b 122 || nat_le 65 b && nat_le b 90) (is_digit b) (eqb b 95) e

number-fits : (here : Place) (text : List ℕ) (size : ℕ) (number : Option Number) {p : Piece} → 0 < size → size ≤ length text
    → number_piece here size number ≡ Ok p → Fits p text
number-fits here text size None some within e = no_ok e
number-fits here text size (Some number) some within e = piece-fits text size (what.Token (kind.Number number)) some within tt e

name-fits : (here : Place) (text word : List ℕ) {p : Piece} → 0 < length word → length word ≤ length text → name_piece here word ≡ Ok p → Fits p text
name-fits here text word some within e =
    either (nat_lt 64 (length word)) (λ long none. no_ok none) (λ short is. piece-fits text (length word)
    (what.Token (name_kind (row_of keywords word) (row_of here.defines word))) some within tt is) e

-- signs
sign-fits : (here : Place) (text : List ℕ) (rows : List (List ℕ × Sign)) {p : Piece} → list_all (λ row. nat_lt 0 (length row.0)) rows ≡ true
    → sign_piece here (row_at rows text) ≡ Ok p → Fits p text
sign-fits here text [] whole e = no_ok e
sign-fits here text (row ∷ rows) {p} whole e =
    let parts = and_parts (nat_lt 0 (length row.0)) (list_all (λ row. nat_lt 0 (length row.0)) rows) whole in
    elim (cases_Bool (begins text row.0)) [
      | inl so ↦
          let is : piece (length row.0) (what.Token (kind.Sign row.1)) ≡ Ok p = rw so at e in
          piece-fits text (length row.0) (what.Token (kind.Sign row.1)) (ltb-true 0 (length row.0) parts.0) (starts-length text row.0 so) tt is
      | inr unless ↦
          let later : sign_piece here (row_at rows text) ≡ Ok p = rw unless at e in
          sign-fits here text rows parts.1 later
    ]

-- directives
both : (b : Bool) (x y : List ℕ) (n : ℕ) → length x ≡ n → length y ≡ n → length (cond b x y) ≡ n
both true x y n h k = h
both false x y n h k = k

pub length-blanked : (left : ℕ) (line : List ℕ) → length (blanked left line) ≡ length line
unfolding blanked
length-blanked left [] = refl
length-blanked left (b ∷ bytes) =
    let covered_rest = length-blanked (covered left (b ∷ bytes) - 1) bytes in
    let plain_rest = length-blanked 0 bytes in
    let first : length (32 ∷ blanked (covered left (b ∷ bytes) - 1) bytes) ≡ length (b ∷ bytes) = omega (arith, covered_rest) in
    let plain : length (b ∷ blanked 0 bytes) ≡ length (b ∷ bytes) = omega (arith, plain_rest) in
    both (nat_lt 0 (covered left (b ∷ bytes))) _ _ (length (b ∷ bytes)) first (both (opens_comment (b ∷ bytes)) (b ∷ bytes) _ (length (b ∷ bytes)) refl plain)

dark-within : (line : List ℕ) (at : ℕ) → at ≤ length line → dark_from line at ≤ length line
dark-within line at h = omega (arith, prefix_len-le-length is_space (drop at line), length-drop at line)

word-within : (line : List ℕ) (at : ℕ) → at ≤ length line → (word_from line at).to ≤ length line
word-within line at h =
    let dark = dark-within line at h in
    omega (arith, prefix_len-le-length is_dark (drop (dark_from line at) line), length-drop (dark_from line at) line)

name-within : (line : List ℕ) (name : Span) (d : Define) → name.from ≤ name.to → name.to ≤ length line → (n : Number)
    → record { name = name; number = n } ≡ d → (d.name.from ≤ d.name.to) × (d.name.to ≤ length line)
name-within line name d order ends n is =
    let family : Define → Type 0 = λ e. (e.name.from ≤ e.name.to) × (e.name.to ≤ length line) in
    subst family is (order, ends)

defined-within : (line : List ℕ) (name : Span) (d : Define) (o : Option Number) → name.from ≤ name.to → name.to ≤ length line
    → option_map (λ n. record { name = name; number = n }) o ≡ Some d → (d.name.from ≤ d.name.to) × (d.name.to ≤ length line)
defined-within line name d None order ends e = no_some e
defined-within line name d (Some n) order ends e = name-within line name d order ends n (some_is e)

pub define-within : (line : List ℕ) (d : Define) → 1 ≤ length line → define_of line ≡ Some d → (d.name.from ≤ d.name.to) × (d.name.to ≤ length line)
unfolding define_of
define-within line d some e =
    let word = word_from line 1 in
    let name = word_from line word.to in
    let number = word_from line name.to in
    let ends = word-within line word.to (word-within line 1 some) in
    let order : name.from ≤ name.to = omega arith in
    either (defines_name line (slice line word) (slice line name) number.to)
    (λ so is. defined-within line name d (number_of (slice line number)) order ends is)
    (λ unless none. no_some none) e

define-fits : (here : Place) (text line : List ℕ) (o : Option Define) {p : Piece} → 0 < length line → length line ≤ length text
    → ((d : Define) → o ≡ Some d → (d.name.from ≤ d.name.to) × (d.name.to ≤ length line)) → define_piece here line o ≡ Ok p → Fits p text
define-fits here text line None some within inside e = no_ok e
define-fits here text line (Some d) some within inside e =
    let h = inside d refl in
    let named : IsNamedIn (what.Define d) text = (h.0, omega (arith, h.1, within)) in
    either (is_taken here (slice line d.name)) (λ taken none. no_ok none)
    (λ new rest. either (nat_lt 64 (d.name.to - d.name.from)) (λ long none. no_ok none) (λ short is. piece-fits text (length line) (what.Define d)
    some within named is) rest) e

directive-fits : (here : Place) (text line : List ℕ) {p : Piece} → 0 < length line → length line ≤ length text → directive_piece here line ≡ Ok p → Fits p text
directive-fits here text line some within e =
    let same = length-blanked 0 line in
    either (is_include (blanked 0 line)) (λ so is. piece-fits text (length line) what.Include some within tt is)
    (λ unless is. define-fits here text line (define_of (blanked 0 line)) some within
    (λ d found. subst (λ (n : ℕ). (d.name.from ≤ d.name.to) × (d.name.to ≤ n)) same (define-within (blanked 0 line) d (omega (arith, same, some)) found)) is) e

-- the whole
pub first-fits : (here : Place) (text : List ℕ) (p : Piece) → first_piece here text ≡ Ok p → Fits p text
unfolding first_piece token_piece
first-fits here [] p e = no_ok e
first-fits here (b ∷ bytes) p e =
    let text = b ∷ bytes in
    let run : (ℕ → Bool) → ℕ = λ (test : ℕ → Bool). prefix_len test text in
    let size = length-prefix_len is_name_byte text in
    let line = length-prefix_len is_in_line text in
    let size_within = prefix_len-le-length is_name_byte text in
    let line_within = prefix_len-le-length is_in_line text in
    either (eqb b 10) (λ feed is. piece-fits text 1 what.LineFeed (omega arith) (omega arith) tt is) (λ more e.
    either (is_space b) (λ blank is. piece-fits text 1 what.Blank (omega arith) (omega arith) tt is) (λ dark e.
    either (opens_comment text) (λ opens is. comment-fits here b bytes (comment_size text) more refl is) (λ other e.
    either (eqb b 35 && here.fresh)
    (λ directive is. directive-fits here text (take_while is_in_line text) (omega (arith, line, first-passes is_in_line b bytes (in_line b more)))
    (omega (arith, line, line_within)) is) (λ other e.
    either (is_digit b)
    (λ digit is. number-fits here text (length (take_while is_name_byte text)) (number_before (take_while is_name_byte text)
    (slice_get text (length (take_while is_name_byte text)))) (omega (arith, size, first-passes is_name_byte b bytes (digit_in_names b digit)))
    (omega (arith, size, size_within)) is) (λ other e.
    either (is_name_byte b)
    (λ name is. name-fits here text (take_while is_name_byte text) (omega (arith, size, first-passes is_name_byte b bytes name))
    (omega (arith, size, size_within)) is)
    (λ other is. sign-fits here text signs refl is) e) e) e) e) e) e

-- the sign of base 16 has two bytes
pub base-length : (word : List ℕ) → base_of word ≡ 16 → 2 ≤ length word
base-length word e =
    either (begins word (codes "0x") || begins word (codes "0X"))
    (λ so is. elim (or_cases _ _ so) [ inl small ↦ starts-length word (codes "0x") small | inr large ↦ starts-length word (codes "0X") large ])
    (λ unless others. either (begins word (codes "0")) (λ so is. absurd (omega (arith, is))) (λ unless is. absurd (omega (arith, is))) others) e
