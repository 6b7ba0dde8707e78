-- The words of a text from byte to byte, and its first word.
use Rattle.std.proofs.Common.{suc, ◌≡◌, ℕ, ◌+◌, ◌<◌, ◌≤◌, List, [], ◌∷◌, take, drop, length, get_or, true, false, inl, inr, eqb, cond, refl, sym, ◌∙◌}
use Rattle.std.proofs.Common.{ap, add-one, add-zero, drop-cons, length-drop, get_or-drop, drop-drop, ◌-◌, arith}
use Rattle.std.proofs.lemmas.List.{drop_all}
use Rattle.std.proofs.lemmas.Bool.{eqb-true, or_cases, cases_Bool, true≢false}
use Rattle.vg_small.specs.Words.{Placed, is_blank}
use Rattle.vg_small.specs.Joining.{joins, joins_next, word_len}

-- a word with a byte before it
abbrev pub longer : ℕ → ℕ → List Placed → List Placed
longer at b [] = []
longer at b (w ∷ ws) = record { at = at; bytes = b ∷ w.bytes } ∷ ws

-- the words of a text that begins at a place, by whether each byte joins the next
unfoldable pub words_from : ℕ → List ℕ → List Placed
words_from at [] = []
words_from at (b ∷ bytes) =
    cond (is_blank b) (words_from (at + 1) bytes)
    (cond (joins_next b bytes) (longer at b (words_from (at + 1) bytes))
    (record { at = at; bytes = b ∷ [] } ∷ words_from (at + 1) bytes))

pub drop-first : (text : List ℕ) (i : ℕ) → i < length text → drop i text ≡ get_or text i 0 ∷ drop (i + 1) text
drop-first text i h = rw (add-one, drop-cons text i 0) refl

-- a word that goes on is longer by one than what follows its first byte
pub word_len-joined : (text : List ℕ) (i : ℕ) → i < length text → joins_next (get_or text i 0) (drop (i + 1) text) ≡ true
    → word_len (drop i text) ≡ word_len (drop (i + 1) text) + 1
unfolding word_len
word_len-joined text i h j = rw (drop-first text i h, j) refl

pub word_len-last : (text : List ℕ) (i : ℕ) → i < length text → joins_next (get_or text i 0) (drop (i + 1) text) ≡ false → word_len (drop i text) ≡ 1
unfolding word_len
word_len-last text i h j = rw (drop-first, j) refl

-- a blank byte is in no word
blank-code : (b next n : ℕ) → eqb next n ≡ true → joins b n ≡ false → joins b next ≡ false
blank-code b next n same unjoined = rw (eqb-true next n same) unjoined

blank-joins : (b next : ℕ) → is_blank next ≡ true → joins b next ≡ false
blank-joins b next blank =
    elim (or_cases _ _ blank) [
      | inl three ↦ elim (or_cases _ _ three) [
        | inl two ↦ elim (or_cases _ _ two) [
          | inl space ↦ blank-code b next 32 space refl
          | inr tab ↦ blank-code b next 9 tab refl
        ]
        | inr return ↦ blank-code b next 13 return refl
      ]
      | inr feed ↦ blank-code b next 10 feed refl
    ]

pub joins-not_blank : (b next : ℕ) → joins b next ≡ true → is_blank next ≡ false
joins-not_blank b next j = elim (cases_Bool (is_blank next)) [
  | inl blank ↦ absurd (true≢false (sym j ∙ blank-joins b next blank))
  | inr not ↦ not
]

-- a text by its first bytes
pub words_from-blank : (at b : ℕ) (bytes : List ℕ) → is_blank b ≡ true → words_from at (b ∷ bytes) ≡ words_from (at + 1) bytes
unfolding words_from
words_from-blank at b bytes blank = rw blank refl

pub words_from-joined : (at b : ℕ) (bytes : List ℕ) → is_blank b ≡ false → joins_next b bytes ≡ true
    → words_from at (b ∷ bytes) ≡ longer at b (words_from (at + 1) bytes)
unfolding words_from
words_from-joined at b bytes not joined = rw (not, joined) refl

pub words_from-alone : (at b : ℕ) (bytes : List ℕ) → is_blank b ≡ false → joins_next b bytes ≡ false
    → words_from at (b ∷ bytes) ≡ record { at = at; bytes = b ∷ [] } ∷ words_from (at + 1) bytes
unfolding words_from
words_from-alone at b bytes not alone = rw (not, alone) refl

word_len-more : (b : ℕ) (bytes : List ℕ) → joins_next b bytes ≡ true → word_len (b ∷ bytes) ≡ word_len bytes + 1
unfolding word_len
word_len-more b bytes joined = rw joined refl

word_len-one : (b : ℕ) (bytes : List ℕ) → joins_next b bytes ≡ false → word_len (b ∷ bytes) ≡ 1
unfolding word_len
word_len-one b bytes alone = rw alone refl

-- what words begin with a word of this length
abbrev Begins : ℕ → List ℕ → ℕ → Type 0
Begins at text n = words_from at text ≡ record { at = at; bytes = take n text } ∷ words_from (at + n) (drop n text)

-- one byte before a word
longer-first : (at b : ℕ) (bytes : List ℕ) (n : ℕ) → Begins (at + 1) bytes n →
    longer at b (words_from (at + 1) bytes) ≡ record { at = at; bytes = take (n + 1) (b ∷ bytes) } ∷ words_from (at + (n + 1)) (drop (n + 1) (b ∷ bytes))
longer-first at b bytes n e =
    let same : at + 1 + n ≡ at + suc n = omega arith in
    rw (e, add-one n) (ap (λ (k : ℕ). record { at = at; bytes = b ∷ take n bytes } ∷ words_from k (drop n bytes)) same)

-- the first word of a text that begins with one
pub words-first : (text : List ℕ) (at : ℕ) → (0 < length text) → is_blank (get_or text 0 0) ≡ false → Begins at text (word_len text)
words-first [] at h blank = absurd (omega arith)
words-first (b ∷ []) at h blank = rw word_len-one (words_from-alone at b [] blank refl)
words-first (b ∷ next ∷ bytes) at h blank =
    elim (cases_Bool (joins b next)) [
      | inl joined ↦
          let rest : Begins (at + 1) (next ∷ bytes) (word_len (next ∷ bytes)) = words-first (next ∷ bytes) (at + 1) (omega arith)
          (joins-not_blank b next joined) in
          rw (word_len-more b (next ∷ bytes) joined) (words_from-joined at b (next ∷ bytes) blank joined
          ∙ longer-first at b (next ∷ bytes) (word_len (next ∷ bytes)) rest)
      | inr alone ↦ rw (word_len-one b (next ∷ bytes) alone) (words_from-alone at b (next ∷ bytes) blank alone)
    ]

-- the words from a blank byte on
pub words-blank : (text : List ℕ) (i : ℕ) → i < length text → is_blank (get_or text i 0) ≡ true
    → words_from i (drop i text) ≡ words_from (i + 1) (drop (i + 1) text)
words-blank text i h blank = rw (drop-first text i h) (words_from-blank i (get_or text i 0) (drop (i + 1) text) blank)

-- the words from the start of a word on
pub words-step : (text : List ℕ) (i end : ℕ) → i < length text → is_blank (get_or text i 0) ≡ false → end ≡ i + word_len (drop i text) →
    words_from i (drop i text) ≡ record { at = i; bytes = take (end - i) (drop i text) } ∷ words_from end (drop end text)
words-step text i end h blank e =
    let some : 0 < length (drop i text) = simp length-drop (omega arith) in
    let first : is_blank (get_or (drop i text) 0 0) ≡ false = rw (get_or-drop i text 0 0, add-zero) blank in
    let len : word_len (drop i text) ≡ end - i = omega arith in
    let there : i + (end - i) ≡ end = omega arith in
    let step = rw (len, drop-drop, there) at (words-first (drop i text) i some first) in
    step

-- no words are left at the end
pub words-end : (text : List ℕ) (i at : ℕ) → length text ≤ i → words_from at (drop i text) ≡ []
unfolding words_from
words-end text i at h = rw (drop_all i text h) refl
