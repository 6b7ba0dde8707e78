-- From what the reader gives to what a text spells.
use Rattle.std.proofs.Common.{◌≡◌, ◌∙◌, ℕ, List, length, Option, Some, None, Result, Ok, Err, refl, IfOk, IsErrOf, IsErrAnd}
use Rattle.std.proofs.lemmas.List.{length-map}
use Rattle.std.proofs.lemmas.Simd.{map-map}
use Rattle.vg_small.specs.declared.words.Word.{Word}
use Rattle.vg_small.specs.declared.small.Test.{Test}
use Rattle.vg_small.specs.declared.small.Small.{Small}
use Rattle.vg_small.specs.declared.small.SmallFault.{SmallFault}
use Rattle.vg_small.specs.declared.small.SmallFault.TheVariants as faults
use Rattle.vg_small.specs.declared.small.Lang.{Lang}
use Rattle.vg_small.specs.Words.{Placed, spelled, IsCut}
use Rattle.vg_small.specs.Spelling.{value_bound, name_at, Spells, SpellsNone}
use Rattle.vg_small.specs.Reader.{◌>>=◌, texts, placed_word, placed, head_of, body_of, small_of, Fails, Gives}
use Rattle.vg_small.proofs.SpellingLaws.{small_of-sound, small_of-complete}

-- a call that gives what the reader reads from a text's words gives what the text spells, or finds that it spells nothing
pub Gives-spelled : (lang : Lang) (text : List ℕ) (words : List Placed) (r : Result Small SmallFault) → IsCut text words
    → Gives r (small_of lang words) → IfOk r (Spells lang text)
Gives-spelled lang text words (Ok s) cut gives = small_of-sound lang text words cut gives
Gives-spelled lang text words (Err e) cut gives = tt

pub Gives-none : (lang : Lang) (text : List ℕ) (words : List Placed) (r : Result Small SmallFault) → IsCut text words → Gives r (small_of lang words)
    → IsErrOf r faults.Form → SpellsNone lang text
Gives-none lang text words (Ok s) cut gives form = absurd (cc)
Gives-none lang text words (Err faults.Memory) cut gives form = absurd (cc)
Gives-none lang text words (Err faults.Form) cut gives form = λ s spells. let read = small_of-complete lang text words s cut spells in cc

-- an error that is passed on gives what it gave
pub Gives-passed : {X : Type 0} (r : Result X SmallFault) (e : SmallFault) (read : Option X) → IsErrAnd r (λ given. given ≡ e) → Fails e read → Gives r read
Gives-passed (Ok x) e read is fails = absurd is
Gives-passed (Err given) e read is fails = rw is fails

module _ (lang : Lang) (words : List Word) where
  -- the words that were cut, without their places
  texts-are : spelled (placed words) ≡ texts words
  texts-are = map-map (λ (w : Placed). w.bytes) placed_word words

  pub small_of-no_head : head_of lang (texts words) ≡ None → small_of lang (placed words) ≡ None
  unfolding small_of
  small_of-no_head none = rw (texts-are, none) refl

  module _ (ports : ℕ) (rest : List Word) (head : head_of lang (texts words) ≡ Some (ports, texts rest)) where
    -- words with a head are what their body is
    small_of-body : small_of lang (placed words) ≡ (body_of lang (value_bound lang ports) (length rest) (texts rest) >>= λ b. Some
        (record { ports = ports; at = name_at lang (placed words); tests = b.0; last = b.1 }))
    unfolding small_of
    small_of-body = rw (texts-are, head, length-map) refl

    pub Fails-body : (e : SmallFault) → Fails e (body_of lang (value_bound lang ports) (length rest) (texts rest)) → Fails e (small_of lang (placed words))
    Fails-body faults.Memory fails = tt
    Fails-body faults.Form none = small_of-body ∙ rw none refl

    pub small_of-some : (tests : List Test) (last : ℕ) → body_of lang (value_bound lang ports) (length rest) (texts rest) ≡ Some (tests, last) →
        small_of lang (placed words) ≡ Some (record { ports = ports; at = name_at lang (placed words); tests = tests; last = last })
    small_of-some tests last is = small_of-body ∙ rw is refl
