-- Terms without variables become constants.
use Rattle.std.proofs.Common.{◌≡◌, ℕ, ◌+◌, ◌<◌, Bool, true, false, true≢false, List, [], ◌∷◌, ◌++◌, map, length, get_or, slice_get, Option, Some}
use Rattle.std.proofs.Common.{None, Result, Ok, Err, All, Contains, refl, sym, ap, subst, ◌∙◌, inl, inr, arith, length-append}
use Rattle.std.proofs.lemmas.Bool.{cases_lt}
use Rattle.std.proofs.lemmas.List.{get_or_default, get_or_append_left}
use Rattle.std.proofs.lemmas.List.Elements.{All-map, All-weaker}
use Rattle.std.proofs.lemmas.Option.{slice_get_within, slice_get_past}
use Rattle.std.proofs.Math.Seq.{get_or-append_seam}
use Rattle.std.specs.Prelude.{IfOk}
use Rattle.vg_bits.specs.declared.word.Word.{Word}
use Rattle.vg_term.specs.Operations.{Bits, answer}
use Rattle.vg_term.specs.Terms.{Term, AreTerms, Stands, IsConstant, constant_at, word_in, listed}
use Rattle.vg_term.specs.Value.{value_of, bits_at, entry_value, Assigns}
use Rattle.vg_term.specs.Folding.{Grows, IsFolded}
use Rattle.vg_term.specs.Wiring.{Grown}
use Rattle.vg_term.specs.declared.node.TermId.{TermId}
use Rattle.vg_term.specs.declared.node.Op.{Op}
use Rattle.vg_term.specs.declared.node.Op.TheVariants as ops
use Rattle.vg_term.specs.declared.node.Parts.{Parts}
use Rattle.vg_term.specs.declared.node.Node.TheVariants as nodes
use Rattle.vg_term.specs.declared.stops.TermStop.{TermStop}
use Rattle.vg_term.proofs.Made.{stays, same_map}
use Rattle.vg_term.proofs.Values.{value_follows}
use Rattle.vg_term.proofs.Meanings.{const_word}
use Rattle.vg_term.proofs.Wires.{stands_later, value_later, assigns_later}
use Rattle.vg_simp.specs.Closed.{IsClosed, operation, IsConstantOf}
use Rattle.vg_simp.specs.Marking.{AreMarks, is_marked, parts_at, parts_in}
use Rattle.vg_simp.specs.Passing.{AreSame, AreConstants, KeepsConstant, KeepsClosed, IsOperation, entry_at, replaced}
use Rattle.vg_simp.proofs.Sames.{parts_before}
use Rattle.vg_simp.proofs.Marks.{parts_below}

-- ---- constants stay

constant_within : (terms : List Term) (id : TermId) (w : Word) → constant_at terms id ≡ Some w → Stands terms id
constant_within terms id w e =
    elim (cases_lt id.0 (length terms)) [
      | inl within ↦ within
      | inr past ↦
          let none : None ≡ Some w = sym (ap word_in (slice_get_past terms id.0 past)) ∙ e in
          absurd (cc)
    ]

constant_stays : (old new : List Term) (id : TermId) (w : Word) → Grows old new → constant_at old id ≡ Some w → constant_at new id ≡ Some w
constant_stays old new id w grows e = ap (λ (ts : List Term). constant_at ts id) grows.1 ∙ ap word_in (stays old grows.0 id.0 (constant_within old id w e)) ∙ e

pub constant_later : (old new : List Term) (id other : TermId) → AreTerms old → Grows old new → Stands old id → IsConstantOf old id other
    → IsConstantOf new id other
constant_later old new id other made grows stands is = record {
  word = is.word;
  constant = constant_stays old new other is.word grows is.constant;
  value = λ words assigns. value_later old new made grows words id stands ∙ is.value words (assigns_later old new grows words assigns);
}

-- a constant has the value of its word
constant_in : {terms : List Term} → AreTerms terms → (words : List Word) (id : TermId) (o : Option Term) (w : Word) → slice_get terms id.0 ≡ o
    → word_in o ≡ Some w → value_of terms words id ≡ w.value
constant_in made words id (Some (nodes.Op (ops.Const w) parts, v)) x here e =
    ap (λ (b : Bits). b.value) (const_word made id w parts v here words) ∙ (let same : Some w ≡ Some x = e in
    ap (λ (y : Word). y.value) (let s : w ≡ x = (cc) in s))
constant_in made words id _ x here e = absurd (cc)

constant_value : {terms : List Term} → AreTerms terms → (words : List Word) (id : TermId) (w : Word) → constant_at terms id ≡ Some w
    → value_of terms words id ≡ w.value
constant_value {terms} made words id w e = constant_in made words id (slice_get terms id.0) w refl e

-- ---- an operation on parts without variables

module _ {terms : List Term} (made : AreTerms terms) (facts others : List TermId) (id : TermId) (op : Op) (parts : Parts) (w : ℕ)
    (here : slice_get terms id.0 ≡ Some (nodes.Op op parts, w))
    (long : length others ≡ id.0) (same : AreSame terms facts others) (constants : All (λ part. IsConstantOf terms part (entry_at others part))
    (listed parts)) where
  are_constant : All (IsConstant terms) (replaced others (listed parts))
  are_constant = All-map (IsConstant terms) (entry_at others) (listed parts) (All-weaker (λ part. IsConstantOf terms part (entry_at others part))
      (λ part. IsConstant terms (entry_at others part)) (λ part is. (is.word, is.constant)) (listed parts) constants)

  map_map : {X Y Z : Type 0} (f : X → Y) (g : Y → Z) (xs : List X) → map g (map f xs) ≡ map (λ x. g (f x)) xs
  map_map f g [] = refl
  map_map f g (x ∷ xs) = ap (λ ys. g (f x) ∷ ys) (map_map f g xs)

  both : All (λ (part : TermId). (part.0 < id.0) × IsConstantOf terms part (entry_at others part)) (listed parts)
  both k d below = (parts_before made id op parts w here k d below, constants k d below)

  entries_bits : (words : List Word) → Assigns words terms → map (bits_at terms words) (replaced others (listed parts)) ≡ map (bits_at terms words)
      (listed parts)
  entries_bits words assigns =
      map_map (entry_at others) (bits_at terms words) (listed parts)
      ∙ same_map (λ (part : TermId). (part.0 < id.0) × IsConstantOf terms part (entry_at others part))
      (λ (part : TermId). bits_at terms words (entry_at others part)) (bits_at terms words)
      (λ part is. (λ j. record {
        width = (same.each part (omega (arith, is.0, long))).width j;
        value = (constant_value made words (entry_at others part) is.1.word is.1.constant ∙ sym (is.1.value words assigns)) j;
      })) (listed parts) both

  folded_constant : (new : List Term) (other : TermId) → Grows terms new → Stands terms id
      → IsFolded terms new op (replaced others (listed parts)) other → IsConstantOf new id other
  folded_constant new other grows stands is = record {
    word = is.word;
    constant = is.constant;
    value = λ words assigns.
        let before = assigns_later terms new grows words assigns in
        value_later terms new made grows words id stands
        ∙ value_follows made words id ∙ ap (entry_value words (bits_at terms words)) here
        ∙ ap (answer op) (sym (entries_bits words before))
        ∙ sym (is.answer.value words before);
  }

  folds_constant : (new : List Term) (ps : List TermId) (result : Result TermId TermStop) → ps ≡ replaced others (listed parts) → Grows terms new
      → Stands terms id → (All (IsConstant terms) ps → IfOk result (λ other. IsFolded terms new op ps other)) →
      IfOk result (λ other. IsConstantOf new id other)
  folds_constant new ps (Ok other) is grows stands folded = folded_constant new other grows stands
      (subst (λ (qs : List TermId). IsFolded terms new op qs other) is (folded (subst (All (IsConstant terms)) (sym is) are_constant)))
  folds_constant new ps (Err stop) is grows stands folded = tt

pub built_constant : {terms : List Term} → AreTerms terms → (facts others : List TermId) (id : TermId) (op : Op) (parts : Parts) (w : ℕ)
    → slice_get terms id.0 ≡ Some (nodes.Op op parts, w) → length others ≡ id.0 → AreSame terms facts others →
    (new : List Term) (ps : List TermId) (result : Result TermId TermStop) → ps ≡ replaced others (listed parts) → Grows terms new → Stands terms id
    → (All (IsConstant terms) ps → IfOk result (λ other. IsFolded terms new op ps other)) →
    KeepsConstant terms new others id result
built_constant {terms} made facts others id op parts w here long same new ps result is grows stands folded = record {
  constant = λ _ constants.
      folds_constant made facts others id op parts w here long same (subst (All (λ part. IsConstantOf terms part (entry_at others part)))
      (ap parts_in here) constants) new ps result is grows stands folded;
}

is_operation : Option Term → Bool
is_operation (Some (nodes.Op op parts, w)) = true
is_operation _ = false

pub variable_constant : (terms new : List Term) (others : List TermId) (id : TermId) (number width w : ℕ) (result : Result TermId TermStop)
    → slice_get terms id.0 ≡ Some (nodes.Var number width, w) → KeepsConstant terms new others id result
unfolding is_operation
variable_constant terms new others id number width w result here = record { constant = λ is _. absurd (true≢false (sym (ap is_operation (sym here ∙ is.3)))) }

-- ---- one after another

closed_operation : {terms : List Term} {id : TermId} → IsClosed terms id → IsOperation terms id
closed_operation (operation id op parts w here below) = (op, parts, w, here)

contained : {X : Type 0} (xs : List X) (k : ℕ) (d : X) → k < length xs → Contains xs (get_or xs k d)
contained xs k d below = (k, below, get_or_default xs k (get_or xs k d) d below)

closed_parts : {terms : List Term} {id : TermId} → IsClosed terms id → All (IsClosed terms) (parts_at terms id)
closed_parts {terms} (operation id op parts w here below) =
    subst (All (IsClosed terms)) (sym (ap parts_in here)) (λ k d inside. below (get_or (listed parts) k d) (contained (listed parts) k d inside))

operation_later : (old new : List Term) (id : TermId) → Grows old new → IsOperation old id → IsOperation new id
operation_later old new id grows is = (
  is.0,
  is.1,
  is.2,
  ap (λ (ts : List Term). slice_get ts id.0) grows.1
      ∙ stays old grows.0 id.0 (slice_get_within old id.0 (nodes.Op is.0 is.1, is.2) is.3) ∙ is.3,
)

parts_later : (old new : List Term) (id : TermId) → Grows old new → Stands old id → parts_at new id ≡ parts_at old id
parts_later old new id grows stands = ap parts_in (ap (λ (ts : List Term). slice_get ts id.0) grows.1 ∙ stays old grows.0 id.0 stands)

pub pushed_constant : (first old new : List Term) (marks : List Bool) (goal : TermId) (others longer : List TermId) (id other : TermId)
    → AreTerms first → AreMarks first goal 0 marks → Grown first old → AreConstants first old marks others → Grown old new →
    length others ≡ id.0 → Stands first id → (is_marked marks id ≡ true → KeepsConstant old new others id (Ok other)) → longer ≡ others ++ other ∷ []
    → AreConstants first new marks longer
pushed_constant first old new marks goal others longer id other was marked before constants grown long stands next is =
    let there = stands_later first old before.grows id stands in
    subst (AreConstants first new marks) (sym is) (record {
      each = λ part below mark closed.
          elim (cases_lt part.0 id.0) [
            | inl earlier ↦
                subst (IsConstantOf new part) (sym (get_or_append_left others (other ∷ []) (record { 0 = 0 }) part.0 (omega (arith, earlier, long))))
                (constant_later old new part (entry_at others part) before.made grown.grows (omega (arith, earlier, there))
                (constants.each part (omega (arith, earlier, long)) mark closed))
            | inr later ↦
                let here : part.0 ≡ length others = omega (arith, below, later, long, length-append others (other ∷ [])) in
                let same : part ≡ id = ap (λ (n : ℕ). record { 0 = n }) (here ∙ long) in
                let last : entry_at (others ++ other ∷ []) part ≡ other = ap (λ n. get_or (others ++ other ∷ []) n (record { 0 = 0 })) here
                ∙ get_or-append_seam others other [] (record { 0 = 0 }) in
                let id_mark : is_marked marks id ≡ true = subst (λ (x : TermId). is_marked marks x ≡ true) same mark in
                let id_closed : IsClosed first id = subst (IsClosed first) same closed in
                let parts_marked = marked.closed id (λ lower. omega (arith, lower)) id_mark in
                let parts_closed = closed_parts id_closed in
                let parts_constant : All (λ p. IsConstantOf old p (entry_at others p)) (parts_at first id) =
                (λ k d inside. constants.each (get_or (parts_at first id) k d) (let b = parts_below was id k d inside in omega (arith, b, long))
                (parts_marked k d inside) (parts_closed k d inside)) in
                let all = (next id_mark).constant (operation_later first old id before.grows (closed_operation id_closed))
                (subst (All (λ p. IsConstantOf old p (entry_at others p))) (sym (parts_later first old id before.grows stands)) parts_constant) in
                subst (IsConstantOf new part) (sym last) (subst (λ (x : TermId). IsConstantOf new x other) (sym same) all)
          ];
    })

pub goal_constant : (first new : List Term) (marks : List Bool) (others : List TermId) (goal other d : TermId) → AreMarks first goal 0 marks
    → AreConstants first new marks others → length others ≡ goal.0 + 1 → other ≡ get_or others goal.0 d → KeepsClosed first new goal (Ok other)
goal_constant first new marks others goal other d marked constants long is =
    record {
      constant = λ closed. subst (IsConstantOf new goal) (sym (is ∙ get_or_default others goal.0 d (record { 0 = 0 }) (omega (arith, long))))
          (constants.each goal (omega (arith, long)) marked.start closed);
    }

pub keeps_on : (old mid new : List Term) (others : List TermId) (id other : TermId) (result : Result TermId TermStop)
    → KeepsConstant old mid others id (Ok other) → (IsConstant mid other → (result ≡ Ok other) × (new ≡ mid)) → KeepsConstant old new others id result
keeps_on old mid new others id other result first stays_so = record {
  constant = λ is all.
      let here : IsConstantOf mid id other = first.constant is all in
      let so = stays_so (here.word, here.constant) in
      subst (λ (r : Result TermId TermStop). IfOk r (λ x. IsConstantOf new id x)) (sym so.0)
      (subst (λ (ts : List Term). IsConstantOf ts id other) (sym so.1) here);
}

pub closed_later : {old new : List Term} {id : TermId} → Grows old new → IsClosed old id → IsClosed new id
closed_later {old} {new} grows (operation id op parts w here below) =
    operation id op parts w (ap (λ (ts : List Term). slice_get ts id.0) grows.1 ∙ stays old grows.0 id.0
    (slice_get_within old id.0 (nodes.Op op parts, w) here) ∙ here) (λ part there. closed_later grows (below part there))
