-- Each text is cut into words in exactly one way.
use Rattle.std.proofs.Common.{◌≡◌, ◌∙◌, ◌+◌, ℕ, List, [], ◌∷◌, ◌++◌, length, Bool, true, false, not, ◌&&◌, ◌||◌, refl, sym, ap, subst, inl, inr}
use Rattle.std.proofs.Common.{arith, All, append-nil, ◌≤◌}
use Rattle.std.specs.List.{list_all}
use Rattle.std.proofs.Math.Bool.{and_comm}
use Rattle.std.proofs.lemmas.Bool.{cases_Bool, eqb-true, true≢false, false≢true, and_parts, not-true, not_from_false}
use Rattle.std.proofs.lemmas.List.Elements.{All-nil, All-cons, All-head, All-tail}
use Rattle.vg_small.specs.Words.{Placed, is_blank, IsBlank, is_name_byte, is_equals_sign, is_word, ends_before, Begins, IsCutFrom, IsCut}
use Rattle.vg_small.specs.Joining.{joins, joins_next}
use Rattle.vg_small.proofs.Cutting.{longer, words_from, joins-not_blank, words_from-blank, words_from-joined, words_from-alone}

-- a word is one whose bytes each join the next

-- no byte is both of a name and an equals sign
apart : (b : ℕ) → (is_name_byte b && is_equals_sign b) ≡ false
apart b = elim (cases_Bool (is_equals_sign b)) [
  | inl equals ↦ rw (eqb-true b 61 equals) refl
  | inr other ↦ rw (other, and_comm (is_name_byte b) false) refl
]

joins_same : (b next : ℕ) → joins b next ≡ joins next b
joins_same b next =
    let names = and_comm (is_name_byte next) (is_name_byte b) in
    let equals = and_comm (is_equals_sign next) (is_equals_sign b) in
    λ i. names i || equals i

name-not_blank : (b : ℕ) → is_name_byte b ≡ true → not (is_blank b) ≡ true
name-not_blank b name = not_from_false (is_blank b) (joins-not_blank b b (rw name refl))

equals-not_blank : (b : ℕ) → is_equals_sign b ≡ true → not (is_blank b) ≡ true
equals-not_blank b equals = rw (eqb-true b 61 equals) refl

-- two bytes, and more: name, name, equals, equals, and what all that follow are
join_two : (a b e f seen : Bool) → (b && f) ≡ false → (b ≡ true → seen ≡ true) → (f ≡ true → seen ≡ true)
    → (a && (b && true) || e && (f && true)) ≡ ((b && a || f && e) && seen)
join_two a true e true seen disjoint name equals = absurd (true≢false disjoint)
join_two true true true false seen disjoint name equals = sym (name refl)
join_two true true false false seen disjoint name equals = sym (name refl)
join_two false true true false seen disjoint name equals = refl
join_two false true false false seen disjoint name equals = refl
join_two true false true true seen disjoint name equals = sym (equals refl)
join_two true false false true seen disjoint name equals = refl
join_two false false true true seen disjoint name equals = sym (equals refl)
join_two false false false true seen disjoint name equals = refl
join_two true false true false seen disjoint name equals = refl
join_two true false false false seen disjoint name equals = refl
join_two false false true false seen disjoint name equals = refl
join_two false false false false seen disjoint name equals = refl

join_more : (a b e f names signs : Bool) → (b && f) ≡ false → (a && (b && names) || e && (f && signs)) ≡ ((b && a || f && e) && (b && names || f && signs))
join_more a true e true names signs disjoint = absurd (true≢false disjoint)
join_more true true true false names signs disjoint = refl
join_more true true false false names signs disjoint = refl
join_more false true true false names signs disjoint = refl
join_more false true false false names signs disjoint = refl
join_more true false true true names signs disjoint = refl
join_more true false false true names signs disjoint = refl
join_more false false true true names signs disjoint = refl
join_more false false false true names signs disjoint = refl
join_more true false true false names signs disjoint = refl
join_more true false false false names signs disjoint = refl
join_more false false true false names signs disjoint = refl
join_more false false false false names signs disjoint = refl

is_word-cons : (b next : ℕ) (bytes : List ℕ) → is_word (b ∷ next ∷ bytes) ≡ (joins b next && is_word (next ∷ bytes))
is_word-cons b next [] =
    join_two (is_name_byte b) (is_name_byte next) (is_equals_sign b) (is_equals_sign next) (not (is_blank next)) (apart next) (name-not_blank next)
    (equals-not_blank next)
is_word-cons b next (c ∷ bytes) =
    join_more (is_name_byte b) (is_name_byte next) (is_equals_sign b) (is_equals_sign next) (list_all is_name_byte (c ∷ bytes))
    (list_all is_equals_sign (c ∷ bytes)) (apart next)

-- a byte before a word that it joins makes a word
joined-word : (b next : ℕ) (bytes : List ℕ) → joins b next ≡ true → is_word (b ∷ next ∷ bytes) ≡ is_word (next ∷ bytes)
joined-word b next bytes joined = is_word-cons b next bytes ∙ ap (λ (j : Bool). j && is_word (next ∷ bytes)) joined

joined-ends : (b next : ℕ) (bytes rest : List ℕ) → joins b next ≡ true → ends_before (b ∷ next ∷ bytes) rest ≡ ends_before (next ∷ bytes) rest
joined-ends b next bytes [] joined = refl
joined-ends b next bytes (c ∷ rest) joined = ap not (joined-word b next (bytes ++ c ∷ []) joined)

-- a byte that joins no other ends there
alone-ends : (b : ℕ) (rest : List ℕ) → joins_next b rest ≡ false → ends_before (b ∷ []) rest ≡ true
alone-ends b [] alone = refl
alone-ends b (c ∷ rest) alone = not_from_false (is_word (b ∷ c ∷ [])) (is_word-cons b c [] ∙ ap (λ (j : Bool). j && is_word (c ∷ [])) alone)

ends-alone : (b : ℕ) (rest : List ℕ) → ends_before (b ∷ []) rest ≡ true → joins_next b rest ≡ false
ends-alone b [] ends = refl
ends-alone b (c ∷ rest) ends = elim (cases_Bool (joins b c)) [
  | inl joined ↦
      let word : is_word (b ∷ c ∷ []) ≡ true = joined-word b c [] joined ∙ not_from_false (is_blank c) (joins-not_blank b c joined) in
      absurd (true≢false (sym word ∙ not-true (is_word (b ∷ c ∷ [])) ends))
  | inr alone ↦ alone
]

-- the words from byte to byte are a cut

cut-blank : (at b : ℕ) (bytes : List ℕ) (ws : List Placed) → IsBlank b → IsCutFrom (at + 1) bytes ws → IsCutFrom at (b ∷ bytes) ws
cut-blank at b bytes [] blank cut = All-cons IsBlank b bytes blank cut
cut-blank at b bytes (w ∷ ws) blank cut =
    let begins = cut.2 in (
      b ∷ cut.0,
      cut.1,
      record {
        bytes = ap (λ (l : List ℕ). b ∷ l) begins.bytes;
        before = All-cons IsBlank b cut.0 blank begins.before;
        place = omega (arith, begins.place);
        word = begins.word;
        longest = begins.longest;
      },
      cut.3,
    )

cut-alone : (at b : ℕ) (bytes : List ℕ) (ws : List Placed) → is_blank b ≡ false → joins_next b bytes ≡ false → IsCutFrom (at + 1) bytes ws
    → IsCutFrom at (b ∷ bytes) (record { at = at; bytes = b ∷ [] } ∷ ws)
cut-alone at b bytes ws not alone cut = (
  [],
  bytes,
  record {
    bytes = refl;
    before = All-nil IsBlank;
    place = omega arith;
    word = not_from_false (is_blank b) not;
    longest = alone-ends b bytes alone;
  },
  cut,
)

cut-longer : (at b next : ℕ) (bytes : List ℕ) (place : ℕ) (word : List ℕ) (ws : List Placed) (blanks rest : List ℕ) → joins b next ≡ true
    → Begins (at + 1) (next ∷ bytes) (record { at = place; bytes = word }) blanks rest → IsCutFrom (place + length word) rest ws
    → IsCutFrom at (b ∷ next ∷ bytes) (record { at = at; bytes = b ∷ word } ∷ ws)
cut-longer at b next bytes place word ws (x ∷ blanks) rest joined begins cut =
    let all = begins.bytes in
    let first : next ≡ x = cc in
    let blank : is_blank next ≡ true = ap is_blank first ∙ All-head IsBlank x blanks begins.before in
    absurd (true≢false (sym blank ∙ joins-not_blank b next joined))
cut-longer at b next bytes place [] ws [] rest joined begins cut = absurd (false≢true begins.word)
cut-longer at b next bytes place (v ∷ word) ws [] rest joined begins cut =
    let all = begins.bytes in
    let first : next ≡ v = cc in
    let joined_v : joins b v ≡ true = ap (joins b) (sym first) ∙ joined in
    let further : place + length (v ∷ word) ≡ at + length (b ∷ v ∷ word) = omega (arith, begins.place) in (
      [],
      rest,
      record {
        bytes = ap (λ (l : List ℕ). b ∷ l) begins.bytes;
        before = All-nil IsBlank;
        place = omega arith;
        word = joined-word b v word joined_v ∙ begins.word;
        longest = joined-ends b v word rest joined_v ∙ begins.longest;
      },
      subst (λ (k : ℕ). IsCutFrom k rest ws) further cut,
    )

cut-joined : (at b next : ℕ) (bytes : List ℕ) (ws : List Placed) → joins b next ≡ true → IsCutFrom (at + 1) (next ∷ bytes) ws
    → IsCutFrom at (b ∷ next ∷ bytes) (longer at b ws)
cut-joined at b next bytes [] joined cut = absurd (true≢false (sym (All-head IsBlank next bytes cut) ∙ joins-not_blank b next joined))
cut-joined at b next bytes (w ∷ ws) joined cut = cut-longer at b next bytes w.at w.bytes ws cut.0 cut.1 joined cut.2 cut.3

pub words_from-cut : (text : List ℕ) (at : ℕ) → IsCutFrom at text (words_from at text)
unfolding words_from
words_from-cut [] at = All-nil IsBlank
words_from-cut (b ∷ []) at = elim (cases_Bool (is_blank b)) [
  | inl blank ↦ rw blank (cut-blank at b [] [] blank (All-nil IsBlank))
  | inr other ↦ rw other (cut-alone at b [] [] other refl (All-nil IsBlank))
]
words_from-cut (b ∷ next ∷ bytes) at =
    let rest = words_from-cut (next ∷ bytes) (at + 1) in
    elim (cases_Bool (is_blank b)) [
      | inl blank ↦ rw blank (cut-blank at b (next ∷ bytes) (words_from (at + 1) (next ∷ bytes)) blank rest)
      | inr other ↦ elim (cases_Bool (joins b next)) [
        | inl joined ↦ rw (other, joined) (cut-joined at b next bytes (words_from (at + 1) (next ∷ bytes)) joined rest)
        | inr alone ↦ rw (other, alone) (cut-alone at b (next ∷ bytes) (words_from (at + 1) (next ∷ bytes)) other alone rest)
      ]
    ]

-- and the only one

blanks-skipped : (at : ℕ) (blanks rest : List ℕ) → All IsBlank blanks → words_from at (blanks ++ rest) ≡ words_from (at + length blanks) rest
blanks-skipped at [] rest all =
    let same : at ≡ at + 0 = omega arith in
    ap (λ (k : ℕ). words_from k rest) same
blanks-skipped at (b ∷ blanks) rest all =
    let same : at + 1 + length blanks ≡ at + length (b ∷ blanks) = omega arith in
    words_from-blank at b (blanks ++ rest) (All-head IsBlank b blanks all)
    ∙ blanks-skipped (at + 1) blanks rest (All-tail IsBlank b blanks all)
    ∙ ap (λ (k : ℕ). words_from k rest) same

word-taken : (at b : ℕ) (bytes rest : List ℕ) → is_word (b ∷ bytes) ≡ true → ends_before (b ∷ bytes) rest ≡ true
    → words_from at (b ∷ (bytes ++ rest)) ≡ record { at = at; bytes = b ∷ bytes } ∷ words_from (at + length (b ∷ bytes)) rest
word-taken at b [] rest word ends = words_from-alone at b rest (not-true (is_blank b) word) (ends-alone b rest ends)
word-taken at b (next ∷ bytes) rest word ends =
    let parts = and_parts (joins b next) (is_word (next ∷ bytes)) (sym (is_word-cons b next bytes) ∙ word) in
    let shorter = sym (joined-ends b next bytes rest parts.0) ∙ ends in
    let other = joins-not_blank next b (sym (joins_same b next) ∙ parts.0) in
    let same : at + 1 + length (next ∷ bytes) ≡ at + length (b ∷ next ∷ bytes) = omega arith in
    words_from-joined at b (next ∷ (bytes ++ rest)) other parts.0
    ∙ ap (longer at b) (word-taken (at + 1) next bytes rest parts.1 shorter)
    ∙ ap (λ (k : ℕ). record { at = at; bytes = b ∷ next ∷ bytes } ∷ words_from k rest) same

first-taken : (at : ℕ) (bytes rest : List ℕ) → is_word bytes ≡ true → ends_before bytes rest ≡ true
    → words_from at (bytes ++ rest) ≡ record { at = at; bytes = bytes } ∷ words_from (at + length bytes) rest
first-taken at [] rest word ends = absurd (false≢true word)
first-taken at (b ∷ bytes) rest word ends = word-taken at b bytes rest word ends

cut-words_from : (at : ℕ) (text : List ℕ) (ws : List Placed) → IsCutFrom at text ws → words_from at text ≡ ws
unfolding words_from
cut-words_from at text [] cut = ap (words_from at) (sym (append-nil text)) ∙ blanks-skipped at text [] cut
cut-words_from at text (w ∷ ws) cut =
    let begins = cut.2 in
    let rest = cut.1 in
    ap (words_from at) begins.bytes
    ∙ blanks-skipped at cut.0 (w.bytes ++ rest) begins.before
    ∙ ap (λ (k : ℕ). words_from k (w.bytes ++ rest)) (sym begins.place)
    ∙ first-taken w.at w.bytes rest begins.word begins.longest
    ∙ ap (λ (l : List Placed). w ∷ l) (cut-words_from (w.at + length w.bytes) rest ws cut.3)

-- a text is cut in one way
pub IsCut-unique : (text : List ℕ) (ws vs : List Placed) → IsCut text ws → IsCut text vs → ws ≡ vs
IsCut-unique text ws vs one two = sym (cut-words_from 0 text ws one) ∙ cut-words_from 0 text vs two

-- a text has no more words than bytes
length-longer : (at b : ℕ) (ws : List Placed) → length (longer at b ws) ≡ length ws
length-longer at b [] = refl
length-longer at b (w ∷ ws) = refl

length-words_from : (at : ℕ) (bytes : List ℕ) → length (words_from at bytes) ≤ length bytes
unfolding words_from
length-words_from at [] = omega arith
length-words_from at (b ∷ bytes) =
    let fewer : length (words_from (at + 1) bytes) ≤ length bytes = length-words_from (at + 1) bytes in
    elim (cases_Bool (is_blank b)) [
      | inl blank ↦ rw blank (omega arith)
      | inr other ↦ elim (cases_Bool (joins_next b bytes)) [
        | inl joined ↦ rw (other, joined, length-longer) (omega arith)
        | inr alone ↦ rw (other, alone) (omega arith)
      ]
    ]

pub length-cut : (text : List ℕ) (ws : List Placed) → IsCut text ws → length ws ≤ length text
length-cut text ws cut = omega (arith, ap (λ (l : List Placed). length l) (cut-words_from 0 text ws cut), length-words_from 0 text)
