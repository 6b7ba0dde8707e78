-- What a term that is answered stands for.
use Rattle.std.proofs.Common.{◌≡◌, ℕ, List, [], ◌∷◌, ◌++◌, map, slice_get, Some, Result, Ok, Err, All, refl, sym, ap, subst, ◌∙◌, inl, inr}
use Rattle.std.proofs.lemmas.List.{append-nil}
use Rattle.std.proofs.lemmas.Option.{slice_get_within}
use Rattle.std.specs.Prelude.{IfOk}
use Rattle.vg_bits.specs.declared.word.Word.{Word}
use Rattle.vg_term.specs.Operations.{bits_of, widths, answer, width_of, Fits}
use Rattle.vg_term.specs.Terms.{Term, Stands, AreTerms, Needs, width_at, width_in, word_in, listed, held, operation}
use Rattle.vg_term.specs.Value.{bits_at, entry_value, Assigns}
use Rattle.vg_term.specs.Folding.{Grows, StandsFor, Folds, IsWord, IsAnswer, IsFolded}
use Rattle.vg_term.specs.declared.node.TermId.{TermId}
use Rattle.vg_term.specs.declared.node.Op.{Op}
use Rattle.vg_term.specs.declared.node.Op.TheVariants.{Const}
use Rattle.vg_term.specs.declared.node.Parts.{Parts}
use Rattle.vg_term.specs.declared.node.Parts.TheVariants.{Zero, One, Two, Three}
use Rattle.vg_term.specs.declared.node.Node.TheVariants as nodes
use Rattle.vg_term.specs.declared.stops.TermStop.{TermStop}
use Rattle.vg_term.proofs.Made.{is_made, same_widths, stays, listed_held}
use Rattle.vg_term.proofs.Values.{value_follows, bits_stay, op_reckoned, widths_bits}

-- a constant has its word under every assignment
pub const_word : {terms : List Term} → AreTerms terms → (id : TermId) (w : Word) (parts : Parts) (v : ℕ)
    → slice_get terms id.0 ≡ Some (nodes.Op (Const w) parts, v) → IsWord terms id w
const_word made id w Zero v here words = sym (op_reckoned made words id (Const w) Zero v here [] refl w refl refl)
const_word made id w (One a) v here words = absurd (is_made made id.0 (Const w) (One a) v here).fits
const_word made id w (Two a b) v here words = absurd (is_made made id.0 (Const w) (Two a b) v here).fits
const_word made id w (Three c a b) v here words = absurd (is_made made id.0 (Const w) (Three c a b) v here).fits

-- where only what stood or one new term stands, the terms have grown
pub needs_grows : (old new : List Term) (t : Term) (result : Result TermId TermStop) → Needs old new t result → Grows old new
needs_grows old new t (Ok id) needs =
    elim needs.either [
      | inl stood ↦ ([], stood.1 ∙ sym (append-nil old))
      | inr none ↦ (t ∷ [], none.1)
    ]
needs_grows old new t (Err stop) needs = ([], needs.kept ∙ sym (append-nil old))

-- the operation on parts that stood, where it stands now
pub stands_for : (old new : List Term) (op : Op) (parts : List TermId) (id : TermId) → AreTerms new → Grows old new → All (Stands old) parts
    → Fits op (map (width_at old) parts) →
    slice_get new id.0 ≡ Some (operation old op parts) → StandsFor new id op parts
stands_for old new op parts id made grows stand fits here =
    let same : map (width_at new) parts ≡ map (width_at old) parts = ap (λ (ts : List Term). map (width_at ts) parts) grows.1
    ∙ same_widths old grows.0 parts stand in
    let list : listed (held parts) ≡ parts = listed_held op (width_at old) parts fits in
    record {
      stands = slice_get_within new id.0 (operation old op parts) here;
      width = ap width_in here ∙ ap (width_of op) (sym same);
      value = λ words _. value_follows made words id ∙ ap (entry_value words (bits_at new words)) here ∙ ap (λ ps. answer op (map (bits_at new words) ps)) list;
    }

pub old_assigns : (old later : List Term) (words : List Word) → Assigns words (old ++ later) → Assigns words old
old_assigns old later words h at t e = h at t (stays old later at (slice_get_within old at t e) ∙ e)

-- a constant for an operation that answers it
pub word_stands_for : (old new : List Term) (op : Op) (parts : List TermId) (w : Word) (id : TermId) → AreTerms old → AreTerms new → Grows old new
    → All (Stands old) parts →
    IsAnswer old op parts w → slice_get new id.0 ≡ Some (operation old (Const w) []) → StandsFor new id op parts
word_stands_for old new op parts w id was made grows stand is here =
    let same : map (width_at new) parts ≡ map (width_at old) parts = ap (λ (ts : List Term). map (width_at ts) parts) grows.1
    ∙ same_widths old grows.0 parts stand in
    record {
      stands = slice_get_within new id.0 (operation old (Const w) []) here;
      width = ap width_in here ∙ is.width ∙ ap (width_of op) (sym same);
      value = λ words assigns.
          let before : Assigns words old = old_assigns old grows.0 words (subst (Assigns words) grows.1 assigns) in
          let bits_same : map (bits_at new words) parts ≡ map (bits_at old words) parts =
          ap (λ (ts : List Term). map (bits_at ts words) parts) grows.1 ∙ bits_stay was grows.0 words parts stand in
          value_follows made words id ∙ ap (entry_value words (bits_at new words)) here ∙ is.value words before ∙ ap (answer op) (sym bits_same);
    }

-- the operation on parts whose words are known
module _ (terms : List Term) (op : Op) (parts : List TermId) (p q : Parts) (fits : Fits op (map (width_at terms) parts)) (is : p ≡ held parts)
    (at : p ≡ q) (ws : List Word)
    (known : (words : List Word) → map (bits_at terms words) (listed q) ≡ map bits_of ws) where
  pub parts_are : parts ≡ listed q
  parts_are = sym (listed_held op (width_at terms) parts fits) ∙ ap listed (sym is ∙ at)

  widths_are : widths (map bits_of ws) ≡ map (width_at terms) parts
  widths_are = ap widths (sym (known [])) ∙ widths_bits terms [] (listed q) ∙ ap (map (width_at terms)) (sym parts_are)

  pub words_fit : Fits op (widths (map bits_of ws))
  words_fit = subst (Fits op) (sym widths_are) fits

  pub words_answer : (r : Word) → r.width ≡ width_of op (widths (map bits_of ws)) → r.value ≡ answer op (map bits_of ws) → IsAnswer terms op parts r
  words_answer r width value = record {
    width = width ∙ ap (width_of op) widths_are;
    value = λ words _. value ∙ ap (answer op) (sym (known words) ∙ ap (map (bits_at terms words)) (sym parts_are));
  }

-- the parts that are held stand
pub held_stand : (terms : List Term) (op : Op) (parts : List TermId) (p q : Parts) → Fits op (map (width_at terms) parts) → p ≡ held parts → p ≡ q
    → All (Stands terms) parts → All (Stands terms) (listed q)
held_stand terms op parts p q fits is at stand = subst (All (Stands terms)) (sym (listed_held op (width_at terms) parts fits) ∙ ap listed (sym is ∙ at)) stand

pub folds_to_word : (old new : List Term) (op : Op) (parts : List TermId) (w : Word) (result : Result TermId TermStop) → AreTerms old → AreTerms new
    → All (Stands old) parts → IsAnswer old op parts w →
    Needs old new (operation old (Const w) []) result → Folds old new op parts result
folds_to_word old new op parts w (Ok id) was made stand is needs =
    let grows = needs_grows old new (operation old (Const w) []) (Ok id) needs in
    record { grows = grows; means = word_stands_for old new op parts w id was made grows stand is needs.term; kept = tt }
folds_to_word old new op parts w (Err stop) was made stand is needs =
    record { grows = needs_grows old new (operation old (Const w) []) (Err stop) needs; means = tt; kept = needs.kept }

pub folded_to_word : (old new : List Term) (op : Op) (parts : List TermId) (w : Word) (result : Result TermId TermStop) → IsAnswer old op parts w
    → Needs old new (operation old (Const w) []) result → IfOk result (λ id. IsFolded old new op parts id)
folded_to_word old new op parts w (Ok id) is needs = record { word = w; constant = ap word_in needs.term; answer = is }
folded_to_word old new op parts w (Err stop) is needs = tt

pub folds_to_itself : (old new : List Term) (op : Op) (parts : List TermId) (result : Result TermId TermStop) → AreTerms new → All (Stands old) parts
    → Fits op (map (width_at old) parts) →
    Needs old new (operation old op parts) result → Folds old new op parts result
folds_to_itself old new op parts (Ok id) made stand fits needs =
    let grows = needs_grows old new (operation old op parts) (Ok id) needs in
    record { grows = grows; means = stands_for old new op parts id made grows stand fits needs.term; kept = tt }
folds_to_itself old new op parts (Err stop) made stand fits needs =
    record { grows = needs_grows old new (operation old op parts) (Err stop) needs; means = tt; kept = needs.kept }

pub folds_to_standing : (old : List Term) (op : Op) (parts : List TermId) (id : TermId) → StandsFor old id op parts → Folds old old op parts (Ok id)
folds_to_standing old op parts id is = record { grows = ([], sym (append-nil old)); means = is; kept = tt }
