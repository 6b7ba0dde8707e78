-- Lists of words, and what holds of each.
use Rattle.std.proofs.Common.{◌≡◌, ◌≢◌, ◌∙◌, ◌<◌, ◌≤◌, ◌+◌, ◌-◌, ℕ, Bool, true, false, List, [], ◌∷◌, ◌++◌, length, drop, get_or, get_or-drop}
use Rattle.std.proofs.Common.{length-drop, length-append, sym, ap, inl, inr, arith, All, AllPairs}
use Rattle.std.specs.Prelude.{String, string_bytes}
use Rattle.std.specs.declared.alloc.Global.{Global}
use Rattle.std.proofs.lemmas.Bool.{cases_lt, false≢true}
use Rattle.std.proofs.lemmas.List.{get_or-map, get_or_append_left, get_or-append-add, length-map, drop-map}
use Rattle.std.proofs.lemmas.List.Elements.{All-cons, All-head, All-tail, All-append}
use Rattle.vg_command.specs.Commands.{words_in, IsNoneOf}

-- the text of a word at a place
pub text_at : (words : List (String Global)) (i : ℕ) (w : String Global) (text : List ℕ) → i < length words → w ≡ get_or words i w
    → text ≡ string_bytes w → (d : List ℕ) → get_or (words_in words) i d ≡ text
text_at words i w text within is value d = get_or-map string_bytes words i w d within ∙ ap string_bytes (sym is) ∙ sym value

pub length-words_in : (words : List (String Global)) → length (words_in words) ≡ length words
length-words_in words = length-map words string_bytes

-- what holds before a place, and there
pub before-more : (P : List ℕ → Type 0) (xs : List (List ℕ)) (i : ℕ) → ((k : ℕ) (d : List ℕ) → k < i → P (get_or xs k d))
    → ((d : List ℕ) → P (get_or xs i d)) → (k : ℕ) (d : List ℕ) → k < i + 1 → P (get_or xs k d)
before-more P xs i before here k d below = elim (cases_lt k i) [
  | inl lt ↦ before k d lt
  | inr ge ↦ let same : k ≡ i = omega arith in rw same (here d)
]

-- what holds of a text holds where it stands
pub there : (P : List ℕ → Type 0) (xs : List (List ℕ)) (i : ℕ) (text : List ℕ) → ((d : List ℕ) → get_or xs i d ≡ text) → P text → (d : List ℕ)
    → P (get_or xs i d)
there P xs i text at holds d = rw (at d) holds

-- a name that stands at a place is no name of its own
pub none_of-at : (words : List (String Global)) (i : ℕ) (name text : List ℕ) → i < length words → ((d : List ℕ) → get_or (words_in words) i d ≡ text)
    → name ≡ text → IsNoneOf (words_in words) name → ⊥
none_of-at words i name text within at same none = none i name (omega (arith, length-words_in words)) (same ∙ sym (at name))

-- the words after a place, one by one
later_at : (words : List (String Global)) (i k : ℕ) (d : List ℕ) → i < k → get_or (words_in (drop (i + 1) words)) (k - (i + 1)) d ≡ get_or (words_in words) k d
later_at words i k d after =
    let place : (i + 1) + (k - (i + 1)) ≡ k = omega arith in
    ap (λ (l : List (List ℕ)). get_or l (k - (i + 1)) d) (sym (drop-map string_bytes (i + 1) words))
    ∙ get_or-drop (i + 1) (words_in words) (k - (i + 1)) d ∙ ap (λ (n : ℕ). get_or (words_in words) n d) place

-- a text that none of the later words has
pub apart-more : (words : List (String Global)) (i : ℕ) (text : List ℕ) → ((d : List ℕ) → get_or (words_in words) i d ≡ text)
    → IsNoneOf (words_in (drop (i + 1) words)) text →
    (k : ℕ) (d : List ℕ) → i < k → k < length words → get_or (words_in words) i d ≡ get_or (words_in words) k d → ⊥
apart-more words i text at none k d after within same =
    none (k - (i + 1)) d (omega (arith, length-words_in (drop (i + 1) words), length-drop (i + 1) words)) (sym (at d) ∙ same ∙ sym (later_at words i k d after))

-- texts that differ leave none of the later words to be one's own
pub none_of-later : (words : List (String Global)) (i : ℕ) (text : List ℕ) → i < length words → ((d : List ℕ) → get_or (words_in words) i d ≡ text)
    → AllPairs ◌≢◌ (words_in words) → IsNoneOf (words_in (drop (i + 1) words)) text
none_of-later words i text within at apart k d below same =
    let later : (i + 1) + k < length words = omega (arith, length-words_in (drop (i + 1) words), length-drop (i + 1) words) in
    let place : ((i + 1) + k) - (i + 1) ≡ k = omega arith in
    let there = later_at words i ((i + 1) + k) d (omega arith) in
    apart i ((i + 1) + k) d (omega arith) (omega (arith, length-words_in words))
    (at d ∙ same ∙ ap (λ (n : ℕ). get_or (words_in (drop (i + 1) words)) n d) (sym place) ∙ there)

-- a name that is none of three words and others
module _ (c spec conf : List ℕ) (ins : List (List ℕ)) (name : List ℕ) where
  pub none_of-inputs : name ≢ c → name ≢ spec → name ≢ conf → IsNoneOf ins name → IsNoneOf (c ∷ spec ∷ conf ∷ ins) name
  none_of-inputs not_c not_spec not_conf none =
      All-cons (λ other. name ≢ other) c (spec ∷ conf ∷ ins) not_c (All-cons (λ other. name ≢ other) spec (conf ∷ ins) not_spec
      (All-cons (λ other. name ≢ other) conf ins not_conf none))

  pub none_of-parts : IsNoneOf (c ∷ spec ∷ conf ∷ ins) name → (name ≢ c) × (name ≢ spec) × (name ≢ conf) × IsNoneOf ins name
  none_of-parts none =
      let one = All-tail (λ other. name ≢ other) c (spec ∷ conf ∷ ins) none in
      let two = All-tail (λ other. name ≢ other) spec (conf ∷ ins) one in (
        All-head (λ other. name ≢ other) c (spec ∷ conf ∷ ins) none,
        All-head (λ other. name ≢ other) spec (conf ∷ ins) one,
        All-head (λ other. name ≢ other) conf ins two,
        All-tail (λ other. name ≢ other) conf ins two,
      )

-- what holds before the end holds of all
pub all-before : (P : List ℕ → Type 0) (words : List (String Global)) (n : ℕ) → length words ≤ n
    → ((k : ℕ) (d : List ℕ) → k < n → P (get_or (words_in words) k d)) → All P (words_in words)
all-before P words n long before k d within = before k d (omega (arith, length-words_in words))

-- what holds of all holds of the text at a place
pub all-at : (P : List ℕ → Type 0) (words : List (String Global)) (i : ℕ) (text : List ℕ) → i < length words
    → ((d : List ℕ) → get_or (words_in words) i d ≡ text) → All P (words_in words) → P text
all-at P words i text within at all = rw (← at text) (all i text (omega (arith, length-words_in words)))

-- words that differ up to a place differ up to the next one
pub apart-next : (words : List (String Global)) (i : ℕ) (text : List ℕ) → ((d : List ℕ) → get_or (words_in words) i d ≡ text)
    → IsNoneOf (words_in (drop (i + 1) words)) text →
    ((j k : ℕ) (d : List ℕ) → j < i → j < k → k < length words → get_or (words_in words) j d ≡ get_or (words_in words) k d → ⊥) →
    (j k : ℕ) (d : List ℕ) → j < i + 1 → j < k → k < length words → get_or (words_in words) j d ≡ get_or (words_in words) k d → ⊥
apart-next words i text at none before j k d below after within same = elim (cases_lt j i) [
  | inl lt ↦ before j k d lt after within same
  | inr ge ↦
      let place : j ≡ i = omega arith in
      apart-more words i text at none k d (omega arith) within (ap (λ (n : ℕ). get_or (words_in words) n d) (sym place) ∙ same)
]

-- a test that fails refutes what it tells
pub refuted : {P : Type 0} {told : Bool} → (P → told ≡ true) → told ≡ false → P → ⊥
refuted tells fails p = false≢true (sym fails ∙ tells p)

-- a log that is none of the files before it and none of the captures that go out
pub none_of-outs : (c spec conf : List ℕ) (ins outs : List (List ℕ)) (name : List ℕ) → IsNoneOf (c ∷ spec ∷ conf ∷ ins) name → IsNoneOf outs name
    → IsNoneOf (c ∷ spec ∷ conf ∷ ins ++ outs) name
none_of-outs c spec conf ins outs name none not_out =
    let parts = none_of-parts c spec conf ins name none in
    none_of-inputs c spec conf (ins ++ outs) name parts.0 parts.1 parts.2 (All-append (λ other. name ≢ other) ins outs parts.3 not_out)

pub none_of-front : (c spec conf : List ℕ) (ins outs : List (List ℕ)) (name : List ℕ) → IsNoneOf (c ∷ spec ∷ conf ∷ ins ++ outs) name
    → IsNoneOf (c ∷ spec ∷ conf ∷ ins) name
none_of-front c spec conf ins outs name none =
    let parts = none_of-parts c spec conf (ins ++ outs) name none in
    none_of-inputs c spec conf ins name parts.0 parts.1 parts.2 (λ k d within same. parts.3 k d (omega (arith, length-append ins outs))
    (same ∙ sym (get_or_append_left ins outs d k within)))

pub none_of-back : (c spec conf : List ℕ) (ins outs : List (List ℕ)) (name : List ℕ) → IsNoneOf (c ∷ spec ∷ conf ∷ ins ++ outs) name → IsNoneOf outs name
none_of-back c spec conf ins outs name none =
    let parts = none_of-parts c spec conf (ins ++ outs) name none in
    (λ k d within same. parts.3 (length ins + k) d (omega (arith, length-append ins outs)) (same ∙ sym (get_or-append-add ins outs k d)))

-- a name that is none of one word and others
pub none_of-more : (word : List ℕ) (words : List (List ℕ)) (name : List ℕ) → name ≢ word → IsNoneOf words name → IsNoneOf (word ∷ words) name
none_of-more word words name not none = All-cons (λ other. name ≢ other) word words not none

pub more-none_of : (word : List ℕ) (words : List (List ℕ)) (name : List ℕ) → IsNoneOf (word ∷ words) name → (name ≢ word) × IsNoneOf words name
more-none_of word words name none = (All-head (λ other. name ≢ other) word words none, All-tail (λ other. name ≢ other) word words none)

-- four words, by their texts
pub four : (xs : List (List ℕ)) (a b c d : List ℕ) → length xs ≡ 4 → ((e : List ℕ) → get_or xs 0 e ≡ a) → ((e : List ℕ) → get_or xs 1 e ≡ b)
    → ((e : List ℕ) → get_or xs 2 e ≡ c) → ((e : List ℕ) → get_or xs 3 e ≡ d) →
    xs ≡ a ∷ b ∷ c ∷ d ∷ []
four [] a b c d len is_a is_b is_c is_d = absurd (omega arith)
four (x ∷ []) a b c d len is_a is_b is_c is_d = absurd (omega arith)
four (x ∷ y ∷ []) a b c d len is_a is_b is_c is_d = absurd (omega arith)
four (x ∷ y ∷ z ∷ []) a b c d len is_a is_b is_c is_d = absurd (omega arith)
four (x ∷ y ∷ z ∷ w ∷ []) a b c d len is_a is_b is_c is_d = λ i. is_a [] i ∷ is_b [] i ∷ is_c [] i ∷ is_d [] i ∷ []
four (x ∷ y ∷ z ∷ w ∷ v ∷ xs) a b c d len is_a is_b is_c is_d = absurd (omega arith)

-- three words and more, by the texts of three
pub three_and : (xs : List (List ℕ)) (a b c : List ℕ) → 3 ≤ length xs → ((e : List ℕ) → get_or xs 0 e ≡ a) → ((e : List ℕ) → get_or xs 1 e ≡ b)
    → ((e : List ℕ) → get_or xs 2 e ≡ c) → xs ≡ a ∷ b ∷ c ∷ drop 3 xs
three_and [] a b c len is_a is_b is_c = absurd (omega arith)
three_and (x ∷ []) a b c len is_a is_b is_c = absurd (omega arith)
three_and (x ∷ y ∷ []) a b c len is_a is_b is_c = absurd (omega arith)
three_and (x ∷ y ∷ z ∷ xs) a b c len is_a is_b is_c = λ i. is_a [] i ∷ is_b [] i ∷ is_c [] i ∷ xs
