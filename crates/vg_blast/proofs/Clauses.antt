-- The clause of the literals of some terms.
use Rattle.std.proofs.Common.{◌≡◌, ℕ, ◌+◌, ◌<◌, List, [], ◌∷◌, ◌++◌, map, length, get_or, take, slice_get, unwrap_or, Option, Some, Bool, true, false}
use Rattle.std.proofs.Common.{cond, sym, ap, subst, ◌∙◌, All}
use Rattle.std.specs.Prelude.{ℤ, pos, neg_ℤ}
use Rattle.std.proofs.lemmas.List.{get_or_default, take_more, map-append}
use Rattle.std.proofs.lemmas.List.Elements.{All-map, All-weaker}
use Rattle.std.proofs.lemmas.Option.{slice_get_within, slice_get-get_or}
use Rattle.vg_cnf.specs.Clauses.{ClauseSet, IsOver}
use Rattle.vg_term.specs.declared.node.TermId.{TermId}
use Rattle.vg_blast.specs.State.{word_at}
use Rattle.vg_blast.specs.declared.disjuncts.Part.{Part}
use Rattle.vg_blast.specs.Facts.{first_of, literal_of, HasLiteral}
use Rattle.vg_blast.proofs.Composing.{over_negated}

pub first_is : (lists : List (List ℤ)) (id : TermId) (word : List ℤ) (l : ℤ) → slice_get lists id.0 ≡ Some word → 0 < length (word_at lists id)
    → l ≡ get_or word 0 l → l ≡ first_of lists id
first_is lists id word l here some is =
    let within = slice_get_within lists id.0 word here in
    let same : word_at lists id ≡ word = ap (λ (o : Option (List ℤ)). unwrap_or o word) (sym (slice_get-get_or lists id.0 [] within) ∙ here) in
    is ∙ ap (λ (w : List ℤ). get_or w 0 l) (sym same) ∙ get_or_default (word_at lists id) 0 l (pos 1) some

pub literals_more : (f : Part → ℤ) (parts : List Part) (i : ℕ) (d : Part) (old new : List ℤ) (l : ℤ) → i < length parts → old ≡ map f (take i parts)
    → new ≡ old ++ l ∷ [] → l ≡ f (get_or parts i d) → new ≡ map f (take (i + 1) parts)
literals_more f parts i d old new l h before e is =
    e ∙ (λ j. before j ++ is j ∷ []) ∙ sym (map-append f (take i parts) (get_or parts i d ∷ [])) ∙ sym (ap (map f) (take_more parts i d h))

signed_over : (n : ℕ) (negated : Bool) (l : ℤ) → IsOver n l → IsOver n (cond negated (neg_ℤ l) l)
signed_over n true l over = over_negated n l over
signed_over n false l over = over

pub literal_over : (set : ClauseSet) (lists : List (List ℤ)) (part : Part) → HasLiteral set lists part.term → IsOver set.variables (literal_of lists part)
literal_over set lists part has = signed_over set.variables part.negated (first_of lists part.term) (has.over 0 (pos 1) has.some)

pub literals_over : (set : ClauseSet) (lists : List (List ℤ)) (parts : List Part) (clause : List ℤ)
    → All (λ part. HasLiteral set lists part.term) parts → clause ≡ map (literal_of lists) parts → All (IsOver set.variables) clause
literals_over set lists parts clause have is =
    subst (All (IsOver set.variables)) (sym is)
    (All-map (IsOver set.variables) (literal_of lists) parts (All-weaker (λ (part : Part). HasLiteral set lists part.term)
    (λ (part : Part). IsOver set.variables (literal_of lists part)) (λ part has. literal_over set lists part has) parts have))
