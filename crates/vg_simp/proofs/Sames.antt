-- Terms that are the same under facts, and what stays of that where terms are added.
use Rattle.std.proofs.Common.{◌≡◌, ℕ, ◌+◌, ◌<◌, List, [], ◌∷◌, ◌++◌, map, length, get_or, slice_get, Some, Result, Ok, Err, All, refl, sym, ap, subst}
use Rattle.std.proofs.Common.{◌∙◌, arith, append-nil, length-append, inl, inr}
use Rattle.std.proofs.lemmas.Bool.{cases_lt}
use Rattle.std.proofs.lemmas.List.{get_or_default, get_or_append_left}
use Rattle.std.proofs.lemmas.List.Elements.{All-map, All-weaker}
use Rattle.std.proofs.Math.Seq.{get_or-append_seam}
use Rattle.vg_bits.specs.declared.word.Word.{Word}
use Rattle.vg_term.specs.Operations.{answer, width_of, Fits}
use Rattle.vg_term.specs.Terms.{Term, AreTerms, Stands, width_at, width_in, listed}
use Rattle.vg_term.specs.Value.{bits_at, entry_value, Assigns}
use Rattle.vg_term.specs.Folding.{Grows, StandsFor, Folds}
use Rattle.vg_term.specs.Wiring.{Grown}
use Rattle.vg_term.specs.declared.node.TermId.{TermId}
use Rattle.vg_term.specs.declared.node.Op.{Op}
use Rattle.vg_term.specs.declared.node.Parts.{Parts}
use Rattle.vg_term.specs.declared.node.Node.TheVariants as nodes
use Rattle.vg_term.specs.declared.stops.TermStop.{TermStop}
use Rattle.vg_term.proofs.Made.{is_made, same_map, same_widths}
use Rattle.vg_term.proofs.Values.{value_follows, bits_stay}
use Rattle.vg_term.proofs.Wires.{grown_on, stands_later, width_later, value_later, assigns_later}
use Rattle.vg_simp.specs.Sameness.{AreTrue, IsSame}
use Rattle.vg_simp.specs.Passing.{AreSame, entry_at, replaced, Simplifies}

-- ---- under the same facts

pub same_itself : (terms : List Term) (facts : List TermId) (id : TermId) → Stands terms id → IsSame terms facts id id
same_itself terms facts id stands = record { stands = stands; width = refl; value = λ words assigns true. refl }

pub same_on : (terms : List Term) (facts : List TermId) (a b c : TermId) → IsSame terms facts a b → IsSame terms facts b c → IsSame terms facts a c
same_on terms facts a b c f g = record {
  stands = g.stands;
  width = g.width ∙ f.width;
  value = λ words assigns true. g.value words assigns true ∙ f.value words assigns true;
}

-- what stands for two that are the same
pub joined_same : (terms : List Term) (facts : List TermId) (a b x y : TermId) → IsSame terms facts a x → IsSame terms facts b y
    → IsSame terms facts a b → IsSame terms facts x y
joined_same terms facts a b x y f g same = record {
  stands = g.stands;
  width = g.width ∙ same.width ∙ sym f.width;
  value = λ words assigns true. g.value words assigns true ∙ same.value words assigns true ∙ sym (f.value words assigns true);
}

pub joined_back : (terms : List Term) (facts : List TermId) (a b x y : TermId) → IsSame terms facts a x → IsSame terms facts b y
    → IsSame terms facts a b → IsSame terms facts y x
joined_back terms facts a b x y f g same = record {
  stands = f.stands;
  width = f.width ∙ sym same.width ∙ sym g.width;
  value = λ words assigns true. f.value words assigns true ∙ sym (same.value words assigns true) ∙ sym (g.value words assigns true);
}

-- ---- where terms are added

pub grown_none : (terms : List Term) → AreTerms terms → Grown terms terms
grown_none terms made = record { made = made; grows = ([], sym (append-nil terms)) }

pub true_before : (old new : List Term) → AreTerms old → Grows old new → (words : List Word) (facts : List TermId) → All (Stands old) facts
    → AreTrue new words facts → AreTrue old words facts
true_before old new made grows words facts stand true k d below = sym (value_later old new made grows words (get_or facts k d) (stand k d below))
    ∙ true k d below

pub same_later : (old new : List Term) (facts : List TermId) (id other : TermId) → AreTerms old → Grows old new → All (Stands old) facts
    → Stands old id → IsSame old facts id other → IsSame new facts id other
same_later old new facts id other made grows stand stands same = record {
  stands = stands_later old new grows other same.stands;
  width = width_later old new grows other same.stands ∙ same.width ∙ sym (width_later old new grows id stands);
  value = λ words assigns true.
      value_later old new made grows words other same.stands
      ∙ same.value words (assigns_later old new grows words assigns) (true_before old new made grows words facts stand true)
      ∙ sym (value_later old new made grows words id stands);
}

pub all_stand_later : (old new : List Term) → Grows old new → (ids : List TermId) → All (Stands old) ids → All (Stands new) ids
all_stand_later old new grows ids stand k d below = stands_later old new grows (get_or ids k d) (stand k d below)

-- ---- the parts of a term that stands

pub parts_before : {terms : List Term} → AreTerms terms → (id : TermId) (op : Op) (parts : Parts) (w : ℕ)
    → slice_get terms id.0 ≡ Some (nodes.Op op parts, w) → All (λ (part : TermId). part.0 < id.0) (listed parts)
parts_before made id op parts w e = (is_made made id.0 op parts w e).before

-- ---- a term rebuilt from what its parts became

module _ {terms : List Term} (made : AreTerms terms) (facts others : List TermId) (id : TermId) (op : Op) (parts : Parts) (w : ℕ)
    (here : slice_get terms id.0 ≡ Some (nodes.Op op parts, w))
    (long : length others ≡ id.0) (same : AreSame terms facts others) where
  pub entries_within : All (λ (part : TermId). part.0 < length others) (listed parts)
  entries_within k d inside = let before = parts_before made id op parts w here k d inside in omega (arith, before, long)

  entry_same : (part : TermId) → part.0 < id.0 → IsSame terms facts part (entry_at others part)
  entry_same part before = same.each part (omega (arith, before, long))

  pub entries_stand : (ps : List TermId) → ps ≡ replaced others (listed parts) → All (Stands terms) ps
  entries_stand ps is =
      subst (All (Stands terms)) (sym is)
      (All-map (Stands terms) (entry_at others) (listed parts) (All-weaker (λ (part : TermId). part.0 < id.0)
      (λ (part : TermId). Stands terms (entry_at others part)) (λ part before. (entry_same part before).stands) (listed parts)
      (parts_before made id op parts w here)))

  map_map : {X Y Z : Type 0} (f : X → Y) (g : Y → Z) (xs : List X) → map g (map f xs) ≡ map (λ x. g (f x)) xs
  map_map f g [] = refl
  map_map f g (x ∷ xs) = ap (λ ys. g (f x) ∷ ys) (map_map f g xs)

  entries_widths : map (width_at terms) (replaced others (listed parts)) ≡ map (width_at terms) (listed parts)
  entries_widths =
      map_map (entry_at others) (width_at terms) (listed parts)
      ∙ same_map (λ (part : TermId). part.0 < id.0) (λ (part : TermId). width_at terms (entry_at others part)) (width_at terms)
      (λ part before. (entry_same part before).width) (listed parts) (parts_before made id op parts w here)

  entries_bits : (words : List Word) → Assigns words terms → AreTrue terms words facts → map (bits_at terms words) (replaced others (listed parts)) ≡
      map (bits_at terms words) (listed parts)
  entries_bits words assigns true =
      map_map (entry_at others) (bits_at terms words) (listed parts)
      ∙ same_map (λ (part : TermId). part.0 < id.0) (λ (part : TermId). bits_at terms words (entry_at others part)) (bits_at terms words)
      (λ part before. (λ j. record { width = (entry_same part before).width j; value = (entry_same part before).value words assigns true j }))
      (listed parts) (parts_before made id op parts w here)

  pub entries_fit : (ps : List TermId) → ps ≡ replaced others (listed parts) → Fits op (map (width_at terms) ps)
  entries_fit ps is = subst (λ (qs : List TermId). Fits op (map (width_at terms) qs)) (sym is)
      (subst (Fits op) (sym entries_widths) (is_made made id.0 op parts w here).fits)

  stands_same : (new : List Term) (ps : List TermId) (other : TermId) → ps ≡ replaced others (listed parts) → AreTerms new → Grows terms new
      → All (Stands terms) facts → Stands terms id → StandsFor new other op ps → IsSame new facts id other
  stands_same new ps other is after grows stand stands for =
      let there : All (Stands terms) ps = entries_stand ps is in
      let ws : map (width_at new) ps ≡ map (width_at terms) ps = ap (λ (ts : List Term). map (width_at ts) ps) grows.1 ∙ same_widths terms grows.0 ps there in
      record {
        stands = for.stands;
        width = for.width ∙ ap (width_of op) (ws ∙ ap (map (width_at terms)) is ∙ entries_widths) ∙ sym (is_made made id.0 op parts w here).width
            ∙ sym (ap width_in here) ∙ sym (width_later terms new grows id stands);
        value = λ words assigns true.
            let before = assigns_later terms new grows words assigns in
            let was_true = true_before terms new made grows words facts stand true in
            let bs : map (bits_at new words) ps ≡ map (bits_at terms words) ps = ap (λ (ts : List Term). map (bits_at ts words) ps) grows.1
            ∙ bits_stay made grows.0 words ps there in
            for.value words assigns
            ∙ ap (answer op) (bs ∙ ap (map (bits_at terms words)) is ∙ entries_bits words before was_true)
            ∙ sym (value_follows made words id ∙ ap (entry_value words (bits_at terms words)) here)
            ∙ sym (value_later terms new made grows words id stands);
      }

  pub built_same : (new : List Term) (ps : List TermId) (result : Result TermId TermStop) → ps ≡ replaced others (listed parts) → AreTerms new
      → All (Stands terms) facts → Stands terms id → Folds terms new op ps result → Simplifies terms new facts id result
  built_same new ps (Ok other) is after stand stands folds = record {
    grown = record { made = after; grows = folds.grows };
    same =
        stands_same new ps other is after folds.grows stand stands folds.means;
  }
  built_same new ps (Err stop) is after stand stands folds = record { grown = record { made = after; grows = folds.grows }; same = tt }

pub itself_simplifies : (terms : List Term) (facts : List TermId) (id : TermId) → AreTerms terms → Stands terms id → Simplifies terms terms facts id (Ok id)
itself_simplifies terms facts id made stands = record { grown = grown_none terms made; same = same_itself terms facts id stands }

-- ---- what terms become, one after another

pub pushed_same : (first old new : List Term) (facts others longer : List TermId) (id other : TermId) → Grown first old → AreSame old facts others
    → Grown old new → All (Stands first) facts → length others ≡ id.0 → Stands first id → IsSame new facts id other →
    longer ≡ others ++ other ∷ [] → AreSame new facts longer
pushed_same first old new facts others longer id other before same grown stand long stands next is =
    let facts_stand = all_stand_later first old before.grows facts stand in
    let there = stands_later first old before.grows id stands in
    subst (AreSame new facts) (sym is) (record {
      each = λ part below.
          elim (cases_lt part.0 id.0) [
            | inl earlier ↦
                subst (IsSame new facts part) (sym (get_or_append_left others (other ∷ []) (record { 0 = 0 }) part.0 (omega (arith, earlier, long))))
                (same_later old new facts part (entry_at others part) before.made grown.grows facts_stand (omega (arith, earlier, there))
                (same.each part (omega (arith, earlier, long))))
            | inr later ↦
                let here : part.0 ≡ length others = omega (arith, below, later, long, length-append others (other ∷ [])) in
                let last : entry_at (others ++ other ∷ []) part ≡ other = ap (λ n. get_or (others ++ other ∷ []) n (record { 0 = 0 })) here
                ∙ get_or-append_seam others other [] (record { 0 = 0 }) in
                subst (IsSame new facts part) (sym last) (subst (λ (n : ℕ). IsSame new facts (record { 0 = n }) other) (sym (here ∙ long)) next)
          ];
    })

pub goal_same : (old new : List Term) (facts others : List TermId) (goal other d : TermId) → Grown old new → AreSame new facts others
    → length others ≡ goal.0 + 1 → other ≡ get_or others goal.0 d → Simplifies old new facts goal (Ok other)
goal_same old new facts others goal other d grown same long is =
    record {
      grown = grown;
      same = subst (IsSame new facts goal) (sym (is ∙ get_or_default others goal.0 d (record { 0 = 0 }) (omega (arith, long))))
          (same.each goal (omega (arith, long)));
    }

-- one step after another
pub simplifies_on : (old mid new : List Term) (facts : List TermId) (id other : TermId) (result : Result TermId TermStop) → All (Stands old) facts
    → Stands old id → Grown old mid → IsSame mid facts id other → Simplifies mid new facts other result → Simplifies old new facts id result
simplifies_on old mid new facts id other (Ok last) stand stands grown same next = record {
  grown = grown_on old mid new grown next.grown;
  same = same_on new facts id other last (same_later mid new facts id other grown.made next.grown.grows
      (all_stand_later old mid grown.grows facts stand) (stands_later old mid grown.grows id stands) same) next.same;
}
simplifies_on old mid new facts id other (Err stop) stand stands grown same next = record { grown = grown_on old mid new grown next.grown; same = tt }

pub flags_later : (old new : List Term) (facts : List TermId) (i : ℕ) (d : TermId) → Grown old new → All (Stands old) facts
    → All (λ fact. width_at old fact ≡ 1) facts → i < length facts → width_at new (get_or facts i d) ≡ 1
flags_later old new facts i d grown stand flags below = width_later old new grown.grows (get_or facts i d) (stand i d below) ∙ flags i d below
