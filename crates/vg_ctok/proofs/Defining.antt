-- Names in a map and in the list of what is defined; and that a piece defines no name twice.
use Rattle.std.proofs.Common.{◌≡◌, ◌∙◌, ◌≤◌, ◌-◌, inl, inr, ℕ, Bool, true, false, cond, eqb, List, [], ◌∷◌, ◌++◌, length, slice_get, take, drop}
use Rattle.std.proofs.Common.{arith, length-drop, Option, Some, None, is_some, Ok, refl, sym, ap, subst, nat_eq}
use Rattle.std.specs.Prelude.{nat_lt, ◌&&◌, ◌||◌}
use Rattle.std.specs.Borrow.{Bor}
use Rattle.std.specs.Cmp.Lexicographic.{pointwise}
use Rattle.std.specs.Str.{bytes_eq}
use Rattle.std.specs.List.{prefix_len, take_while}
use Rattle.std.specs.Map.{lookup}
use Rattle.std.proofs.lemmas.List.Folds.{length-prefix_len}
use Rattle.std.proofs.lemmas.List.{take-append-drop, take-append-le, drop-append-le}
use Rattle.std.proofs.lemmas.Cmp.{nat_list_eq_equiv}
use Rattle.std.proofs.lemmas.Bool.{false≢true, cases_Bool}
use Rattle.indexmap.specs.IndexMap.{insert_entry}
use Rattle.vg_ctok.specs.Bytes.{is_digit, is_name_byte, is_space, is_in_line}
use Rattle.vg_ctok.specs.Tables.{keywords, signs, row_of, row_at}
use Rattle.vg_ctok.specs.Numbers.{number_before}
use Rattle.vg_ctok.specs.Comments.{opens_comment, comment_size, blanked}
use Rattle.vg_ctok.specs.Directives.{slice, is_include, define_of}
use Rattle.vg_ctok.specs.Pieces.{Defines, Place, piece, comment_piece, number_piece, name_kind, name_piece, sign_piece, is_taken, define_piece}
use Rattle.vg_ctok.specs.Pieces.{directive_piece, first_piece, token_piece}
use Rattle.vg_ctok.specs.Texts.{defines_after}
use Rattle.vg_ctok.specs.Reader.{shown, IsNew}
use Rattle.vg_ctok.specs.declared.kinds.Number.{Number}
use Rattle.vg_ctok.specs.declared.kinds.Sign.{Sign}
use Rattle.vg_ctok.specs.declared.kinds.TokenKind.TheVariants as kind
use Rattle.vg_ctok.specs.declared.pieces.Define.{Define}
use Rattle.vg_ctok.specs.declared.pieces.Span.{Span}
use Rattle.vg_ctok.specs.declared.pieces.What.{What}
use Rattle.vg_ctok.specs.declared.pieces.What.TheVariants as what
use Rattle.vg_ctok.specs.declared.pieces.Piece.{Piece}
use Rattle.vg_ctok.proofs.Sizes.{either, ok_is, no_ok, define-within, first-passes, in_line, length-blanked}

-- a map and the list look a name up alike
pub looked_up : (entries : List (Bor (List ℕ) × Number)) (name : List ℕ) → lookup (λ k. pointwise nat_eq name k.now) entries ≡ row_of (shown entries) name
looked_up [] name = refl
looked_up (e ∷ entries) name =
    ap (λ b. cond b (Some e.1) (lookup (λ k. pointwise nat_eq name k.now) entries)) (nat_list_eq_equiv.symm name e.0.now)
    ∙ ap (cond (bytes_eq e.0.now name) (Some e.1)) (looked_up entries name)

-- a new name stands last
abbrev pub same_name : Bor (List ℕ) → Bor (List ℕ) → Bool
same_name a b = pointwise nat_eq a.now b.now

pub inserted : (entries : List (Bor (List ℕ) × Number)) (name : Bor (List ℕ)) (number : Number) → row_of (shown entries) name.now ≡ None
    → shown (insert_entry same_name entries name number) ≡ shown entries ++ (name.now, number) ∷ []
inserted [] name number new = refl
inserted (e ∷ entries) name number new = elim (cases_Bool (same_name name e.0)) [
  | inl so ↦
      let known : bytes_eq e.0.now name.now ≡ true = sym (nat_list_eq_equiv.symm name.now e.0.now) ∙ so in
      let some : cond true (Some e.1) (row_of (shown entries) name.now) ≡ None =
      subst (λ b. cond b (Some e.1) (row_of (shown entries) name.now) ≡ None) known new in
      absurd (cc some)
  | inr unless ↦
      let known : bytes_eq e.0.now name.now ≡ false = sym (nat_list_eq_equiv.symm name.now e.0.now) ∙ unless in
      let none : row_of (shown entries) name.now ≡ None = subst (λ b. cond b (Some e.1) (row_of (shown entries) name.now) ≡ None) known new in
      rw unless (ap (λ l. (e.0.now, e.1) ∷ l) (inserted entries name number none))
]

pub defined_last : (entries : List (Bor (List ℕ) × Number)) (text : List ℕ) (found : What) (d : Define) (name : Bor (List ℕ)) → found ≡ what.Define d
    → name.now ≡ slice text d.name → IsNew (shown entries) text found
    → shown (insert_entry same_name entries name d.number) ≡ defines_after (shown entries) text found
defined_last entries text found d name is named new =
    let fresh : row_of (shown entries) (slice text d.name) ≡ None = subst (λ w. IsNew (shown entries) text w) is new in
    inserted entries name d.number (subst (λ l. row_of (shown entries) l ≡ None) (sym named) fresh)
    ∙ ap (λ l. shown entries ++ (l, d.number) ∷ []) named ∙ ap (defines_after (shown entries) text) (sym is)

new-piece : (defines : Defines) (text : List ℕ) (size : ℕ) (what : What) (p : Piece) → IsNew defines text what → piece size what ≡ Ok p
    → IsNew defines text p.what
new-piece defines text size what p new e =
    let is : record { size = size; what = what } ≡ p = ok_is (piece size what) (record { size = size; what = what }) p refl e in
    let family : Piece → Type 0 = λ q. IsNew defines text q.what in
    subst family is new

none_of : {A : Type 0} (o : Option A) → is_some o ≡ false → o ≡ None
none_of None e = refl
none_of (Some x) e = absurd (false≢true (sym e))

not_right : (x y : Bool) → (x || y) ≡ false → y ≡ false
not_right true y e = absurd (false≢true (sym e))
not_right false y e = e

-- the first line of a text has the text's bytes
line-rest : (test : ℕ → Bool) (text : List ℕ) → (rest : List ℕ) × (take_while test text ++ rest ≡ text)
line-rest test text = (drop (prefix_len test text) text, take-append-drop (prefix_len test text) text)

slice-line : (test : ℕ → Bool) (text : List ℕ) (span : Span) → span.from ≤ span.to → span.to ≤ length (take_while test text)
    → slice (take_while test text) span ≡ slice text span
slice-line test text span order within =
    let line = take_while test text in
    let rest = line-rest test text in
    let front : span.from ≤ length line = omega (arith, order, within) in
    let left : span.to - span.from ≤ length (drop span.from line) = omega (arith, order, within, length-drop span.from line) in
    sym (ap (λ l. take (span.to - span.from) (drop span.from l)) (sym rest.1)
    ∙ ap (take (span.to - span.from)) (drop-append-le span.from line rest.0 front)
    ∙ take-append-le (span.to - span.from) (drop span.from line) rest.0 left)

new-define : (here : Place) (text line : List ℕ) (o : Option Define) (p : Piece) → ((d : Define) → o ≡ Some d → slice line d.name ≡ slice text d.name)
    → define_piece here line o ≡ Ok p → IsNew here.defines text p.what
new-define here text line None p same e = no_ok e
new-define here text line (Some d) p same e =
    either (is_taken here (slice line d.name)) (λ taken none. no_ok none)
    (λ fresh rest. either (nat_lt 64 (d.name.to - d.name.from)) (λ long none. no_ok none)
    (λ short is. new-piece here.defines text (length line) (what.Define d) p
    (none_of (row_of here.defines (slice text d.name)) (subst (λ l. is_some (row_of here.defines l) ≡ false) (same d refl)
    (not_right (is_some (row_of keywords (slice line d.name))) (is_some (row_of here.defines (slice line d.name))) fresh))) is) rest) e

new-directive : (here : Place) (text : List ℕ) (p : Piece) → 1 ≤ length (take_while is_in_line text)
    → directive_piece here (take_while is_in_line text) ≡ Ok p → IsNew here.defines text p.what
new-directive here text p some e =
    let line = take_while is_in_line text in
    let same = length-blanked 0 line in
    either (is_include (blanked 0 line)) (λ so is. new-piece here.defines text (length line) what.Include p tt is)
    (λ unless is. new-define here text line (define_of (blanked 0 line)) p
    (λ d found. let within = define-within (blanked 0 line) d (omega (arith, same, some)) found in
    slice-line is_in_line text d.name within.0 (omega (arith, same, within.1))) is) e

-- a piece defines no name twice
pub first-new : (here : Place) (text : List ℕ) (p : Piece) → first_piece here text ≡ Ok p → IsNew here.defines text p.what
unfolding first_piece token_piece
first-new here [] p e = no_ok e
first-new here (b ∷ bytes) p e =
    let text = b ∷ bytes in
    let new : (size : ℕ) (what : What) → IsNew here.defines text what → piece size what ≡ Ok p → IsNew here.defines text p.what =
    λ size what h is. new-piece here.defines text size what p h is in
    either (eqb b 10) (λ feed is. new 1 what.LineFeed tt is) (λ more e.
    either (is_space b) (λ blank is. new 1 what.Blank tt is) (λ dark e.
    either (opens_comment text) (λ opens is. comment (comment_size text) is) (λ other e.
    either (eqb b 35 && here.fresh)
    (λ directive is. new-directive here text p (omega (arith, length-prefix_len is_in_line text, first-passes is_in_line b bytes (in_line b more)))
    is) (λ other e.
    either (is_digit b) (λ digit is. number (length (take_while is_name_byte text)) (number_before (take_while is_name_byte text)
    (slice_get text (length (take_while is_name_byte text)))) is) (λ other e.
    either (is_name_byte b) (λ name is. word (take_while is_name_byte text) is)
    (λ other is. signed (row_at signs text) is) e) e) e) e) e) e
  where
    comment : (o : Option ℕ) → comment_piece here o ≡ Ok p → IsNew here.defines (b ∷ bytes) p.what
    comment None is = no_ok is
    comment (Some n) is = new-piece here.defines (b ∷ bytes) n what.Comment p tt is

    number : (size : ℕ) (o : Option Number) → number_piece here size o ≡ Ok p → IsNew here.defines (b ∷ bytes) p.what
    number size None is = no_ok is
    number size (Some n) is = new-piece here.defines (b ∷ bytes) size (what.Token (kind.Number n)) p tt is

    word : (w : List ℕ) → name_piece here w ≡ Ok p → IsNew here.defines (b ∷ bytes) p.what
    word w is = either (nat_lt 64 (length w)) (λ long none. no_ok none) (λ short so. new-piece here.defines (b ∷ bytes) (length w)
        (what.Token (name_kind (row_of keywords w) (row_of here.defines w))) p tt so) is

    signed : (o : Option (ℕ × Sign)) → sign_piece here o ≡ Ok p → IsNew here.defines (b ∷ bytes) p.what
    signed None is = no_ok is
    signed (Some row) is = new-piece here.defines (b ∷ bytes) row.0 (what.Token (kind.Sign row.1)) p tt is
