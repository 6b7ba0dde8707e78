-- Laws of the value of terms: it follows the operation, it stays where terms are added, and it is in the range of its width.
use Rattle.std.proofs.lemmas.Bool.{cases_lt}
use Rattle.std.proofs.lemmas.Option.{get_or_from_slice_get}
use Rattle.std.proofs.lemmas.List.{get_or-set_other}
use Rattle.std.proofs.lemmas.Grind.{get_or-set_at}
use Rattle.std.proofs.Common.{◌≡◌, ◌≢◌, ℕ, suc, zero, ◌+◌, ◌<◌, ◌≤◌, List, [], ◌∷◌, ◌++◌, map, length, set, get_or, slice_get, Option, Some, None}
use Rattle.std.proofs.Common.{All, refl, sym, ap, subst, ◌∙◌, inl, inr, arith}
use Rattle.vg_bits.specs.declared.word.Word.{Word}
use Rattle.vg_term.specs.Operations.{Bits, bits_of, widths, answer, width_of, Fits}
use Rattle.vg_term.specs.Terms.{Term, Stands, AreTerms, width_at, width_in, listed}
use Rattle.vg_term.specs.Value.{value_to, value_of, bits_at, entry_value, assigned, AreReckoned}
use Rattle.vg_term.specs.declared.node.TermId.{TermId}
use Rattle.vg_term.specs.declared.node.Op.{Op}
use Rattle.vg_term.specs.declared.node.Parts.{Parts}
use Rattle.vg_term.specs.declared.node.Node.TheVariants as nodes
use Rattle.vg_term.proofs.Made.{is_made, same_map, stays, same_width}

-- the bits of a term that is at most so many levels deep
abbrev bits : ℕ → ℕ → Bits
bits width value = record { width = width; value = value }

below_of : {part id k : ℕ} → part < id → id < suc k → part < k
below_of p h = omega (arith, p, h)

abbrev bits_to : ℕ → List Term → List Word → TermId → Bits
bits_to depth terms words id = record { width = width_at terms id; value = value_to depth terms words id }

-- where two readings of the parts agree, the entry has one value
entry_same : (words : List Word) (f g : TermId → Bits) (entry : Option Term) →
    ((op : Op) (parts : Parts) (w : ℕ) → entry ≡ Some (nodes.Op op parts, w) → map f (listed parts) ≡ map g (listed parts))
    → entry_value words f entry ≡ entry_value words g entry
entry_same words f g None h = refl
entry_same words f g (Some (nodes.Var number width, w)) h = refl
entry_same words f g (Some (nodes.Op op parts, w)) h = ap (answer op) (h op parts w refl)

-- more levels than a term has change nothing
deeper : {terms : List Term} → AreTerms terms → (words : List Word) (k m : ℕ) (id : TermId) → id.0 < k → id.0 < m
    → value_to k terms words id ≡ value_to m terms words id
deeper made words zero m id h l = let none : ⊥ = omega (arith, h) in absurd none
deeper made words (suc k) zero id h l = let none : ⊥ = omega (arith, l) in absurd none
deeper {terms} made words (suc k) (suc m) id h l =
    entry_same words (bits_to k terms words) (bits_to m terms words) (slice_get terms id.0)
    (λ op parts w e.
    same_map (λ (part : TermId). part.0 < id.0) (bits_to k terms words) (bits_to m terms words)
    (λ part below. ap (bits (width_at terms part)) (deeper made words k m part (below_of below h) (below_of below l)))
    (listed parts)
    (is_made made id.0 op parts w e).before)

-- the value of a term is that of its operation on the values of its parts
pub value_follows : {terms : List Term} → AreTerms terms → (words : List Word) (id : TermId)
    → value_of terms words id ≡ entry_value words (bits_at terms words) (slice_get terms id.0)
value_follows {terms} made words id =
    entry_same words (bits_to id.0 terms words) (bits_at terms words) (slice_get terms id.0)
    (λ op parts w e.
    same_map (λ (part : TermId). part.0 < id.0) (bits_to id.0 terms words) (bits_at terms words)
    (λ part below. ap (bits (width_at terms part)) (deeper made words id.0 (suc part.0) part below (omega arith)))
    (listed parts)
    (is_made made id.0 op parts w e).before)

-- ---- the words that are reckoned

pub widths_bits : (terms : List Term) (words : List Word) (parts : List TermId) → widths (map (bits_at terms words) parts) ≡ map (width_at terms) parts
widths_bits terms words [] = refl
widths_bits terms words (part ∷ parts) = ap (λ ws. width_at terms part ∷ ws) (widths_bits terms words parts)

module _ {terms : List Term} (made : AreTerms terms) (words : List Word) (id : TermId) (op : Op) (parts : Parts) (w : ℕ)
    (here : slice_get terms id.0 ≡ Some (nodes.Op op parts, w))
    (ws : List Word) (known : map bits_of ws ≡ map (bits_at terms words) (listed parts)) where
  same_ws : widths (map bits_of ws) ≡ map (width_at terms) (listed parts)
  same_ws = ap widths known ∙ widths_bits terms words (listed parts)

  pub op_fits : Fits op (widths (map bits_of ws))
  op_fits = subst (Fits op) (sym same_ws) (is_made made id.0 op parts w here).fits

  pub op_reckoned : (r : Word) → r.width ≡ width_of op (widths (map bits_of ws)) → r.value ≡ answer op (map bits_of ws) → bits_of r ≡ bits_at terms words id
  op_reckoned r width value =
      let wide : r.width ≡ width_at terms id = width ∙ ap (width_of op) same_ws ∙ sym (is_made made id.0 op parts w here).width ∙ sym (ap width_in here) in
      let worth : r.value ≡ value_of terms words id = value ∙ ap (answer op) known ∙ sym (value_follows made words id
      ∙ ap (entry_value words (bits_at terms words)) here) in
      (λ j. record { width = wide j; value = worth j })

pub var_reckoned : {terms : List Term} → AreTerms terms → (words : List Word) (id : TermId) (number width w : ℕ)
    → slice_get terms id.0 ≡ Some (nodes.Var number width, w) →
    (r : Word) → slice_get words number ≡ Some r → r.width ≡ w → bits_of r ≡ bits_at terms words id
var_reckoned {terms} made words id number width w here r word wide =
    let worth : r.value ≡ value_of terms words id = sym (value_follows made words id ∙ ap (entry_value words (bits_at terms words)) here ∙ ap assigned word) in
    (λ j. record { width = (wide ∙ sym (ap width_in here)) j; value = worth j })

apart : {m n : ℕ} → m < n → m ≢ n
apart h = omega (arith, h)

-- ---- the room that is filled in order

pub filled_more : (terms : List Term) (words room : List Word) (done : ℕ) (r : Word) → AreReckoned terms words room done → done < length room
    → bits_of r ≡ bits_at terms words (record { 0 = done }) → AreReckoned terms words (set room done r) (done + 1)
filled_more terms words room done r before fits is part d below =
    elim (cases_lt part.0 done) [
      | inl earlier ↦ ap bits_of (get_or-set_other room done part.0 r d (apart earlier)) ∙ before part d earlier
      | inr later ↦
          let same : part.0 ≡ done = omega (arith, below, later) in
          ap bits_of (get_or-set_at room done part.0 r d same fits) ∙ is ∙ ap (λ n. bits_at terms words (record { 0 = n })) (sym same)
    ]

-- the parts of an operation among the reckoned words
module _ {terms : List Term} (made : AreTerms terms) (words room : List Word) (id : TermId) (stands : Stands terms id)
    (long : length terms ≤ length room) (before : AreReckoned terms words room id.0)
    (op : Op) (parts : Parts) (w : ℕ) (here : slice_get terms id.0 ≡ Some (nodes.Op op parts, w)) (q : Parts) (is : parts ≡ q) where
  pub here_is : slice_get terms id.0 ≡ Some (nodes.Op op q, w)
  here_is = here ∙ ap (λ (p : Parts). Some (nodes.Op op p, w)) is

  part_before : (k : ℕ) (d : TermId) → k < length (listed q) → (get_or (listed q) k d).0 < id.0
  part_before k d h = (is_made made id.0 op q w here_is).before k d h

  pub part_in : (k : ℕ) (d : TermId) → k < length (listed q) → (get_or (listed q) k d).0 < length room
  part_in k d h = omega (arith, part_before k d h, stands, long)

  pub part_bits : (k : ℕ) (d : TermId) → k < length (listed q) → (r : Word) → r ≡ get_or room (get_or (listed q) k d).0 r
      → bits_of r ≡ bits_at terms words (get_or (listed q) k d)
  part_bits k d h r e = ap bits_of e ∙ before (get_or (listed q) k d) r (part_before k d h)

-- the word that is read is the assigned one
pub var_word : (words : List Word) (number : ℕ) (word r : Word) → slice_get words number ≡ Some word → r ≡ get_or words number r → word ≡ r
var_word words number word r e is = sym (get_or_from_slice_get words number word r e) ∙ sym is

-- ---- old terms keep their values where terms are added

stays_to : {old : List Term} → AreTerms old → (later : List Term) (words : List Word) (k : ℕ) (id : TermId) → Stands old id
    → value_to k (old ++ later) words id ≡ value_to k old words id
stays_to made later words zero id h = refl
stays_to {old} made later words (suc k) id h =
    ap (entry_value words (bits_to k (old ++ later) words)) (stays old later id.0 h)
    ∙ entry_same words (bits_to k (old ++ later) words) (bits_to k old words) (slice_get old id.0)
    (λ op parts w e.
    same_map (λ (part : TermId). part.0 < id.0) (bits_to k (old ++ later) words) (bits_to k old words)
    (λ part below.
    let there : Stands old part = omega (arith, below, h) in
    (λ j. bits (same_width old later part there j) (stays_to made later words k part there j)))
    (listed parts)
    (is_made made id.0 op parts w e).before)

pub value_stays : {old : List Term} → AreTerms old → (later : List Term) (words : List Word) (id : TermId) → Stands old id
    → value_of (old ++ later) words id ≡ value_of old words id
value_stays made later words id h = stays_to made later words (suc id.0) id h

pub bits_stay : {old : List Term} → AreTerms old → (later : List Term) (words : List Word) (parts : List TermId) → All (Stands old) parts
    → map (bits_at (old ++ later) words) parts ≡ map (bits_at old words) parts
bits_stay {old} made later words parts h =
    same_map (Stands old) (bits_at (old ++ later) words) (bits_at old words)
    (λ part there. (λ j. bits (same_width old later part there j) (value_stays made later words part there j)))
    parts h
