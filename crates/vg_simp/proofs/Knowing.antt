-- What is known under facts stays known where terms and facts are added.
use Rattle.std.proofs.Common.{◌≡◌, List, [], ◌∷◌, ◌++◌, length, All, Contains, sym, subst, ◌∙◌, arith, true, length-append}
use Rattle.std.proofs.lemmas.List.{get_or_append_left}
use Rattle.std.proofs.Math.Seq.{get_or-append_seam}
use Rattle.std.proofs.lemmas.List.Elements.{All-nil, All-cons, All-weaker, All-contains, All-append}
use Rattle.vg_bits.specs.declared.word.Word.{Word}
use Rattle.vg_term.specs.Terms.{Term, AreTerms, Stands, width_at}
use Rattle.vg_term.specs.Value.{value_of}
use Rattle.vg_term.specs.Folding.{Grows}
use Rattle.vg_term.specs.declared.node.TermId.{TermId}
use Rattle.vg_term.proofs.Wires.{stands_later, width_later, value_later, assigns_later}
use Rattle.vg_simp.specs.Sameness.{AreTrue, IsSame}
use Rattle.vg_simp.specs.Ranges.{IsIn, IsWithin}
use Rattle.vg_simp.specs.Knowing.{Replaces, Bounds, IsGap, IsTold, IsKnown}
use Rattle.vg_simp.specs.declared.knowledge.Knowledge.{Knowledge}
use Rattle.vg_simp.specs.declared.knowledge.Replacement.{Replacement}
use Rattle.vg_simp.specs.declared.knowledge.Literal.{Literal}
use Rattle.vg_simp.specs.declared.knowledge.Bound.{Bound}
use Rattle.vg_simp.specs.declared.knowledge.Gap.{Gap}
use Rattle.vg_simp.specs.declared.range.Range.{Range}
use Rattle.vg_simp.proofs.Sames.{same_on, same_later, true_before, all_stand_later}

pub all_left : {X : Type 0} (P : X → Type 0) (xs ys : List X) → All P (xs ++ ys) → All P xs
all_left P xs ys all k d below = subst P (get_or_append_left xs ys d k below) (all k d (omega (arith, below, length-append xs ys)))

pub all_last : {X : Type 0} (P : X → Type 0) (xs : List X) (x : X) → All P (xs ++ x ∷ []) → P x
all_last P xs x all = subst P (get_or-append_seam xs x [] x) (all (length xs) x (omega (arith, length-append xs (x ∷ []))))

pub nothing_known : (terms : List Term) (knowledge : Knowledge) → knowledge.facts.items ≡ [] → knowledge.same.items ≡ [] → knowledge.bounds.items ≡ []
    → knowledge.gaps.items ≡ [] → IsKnown terms knowledge
nothing_known terms knowledge e f g h = record {
  facts = subst (All (Stands terms)) (sym e) (All-nil (Stands terms));
  same = subst (All (Replaces terms knowledge.facts.items)) (sym f) (All-nil (Replaces terms knowledge.facts.items));
  bounds = subst (All (Bounds terms knowledge.facts.items)) (sym g) (All-nil (Bounds terms knowledge.facts.items));
  gaps = subst (All (IsGap terms knowledge.facts.items)) (sym h) (All-nil (IsGap terms knowledge.facts.items));
}

-- an entry leads on
pub found_same : (terms : List Term) (knowledge : Knowledge) (id last other : TermId) → IsKnown terms knowledge
    → IsSame terms knowledge.facts.items id last → Contains knowledge.same.items (record { term = last; other = other })
    → IsSame terms knowledge.facts.items id other
found_same terms knowledge id last other known same there =
    same_on terms knowledge.facts.items id last other same (All-contains (Replaces terms knowledge.facts.items) knowledge.same.items
    (record { term = last; other = other }) known.same there).same

pub all_push : {X : Type 0} (P : X → Type 0) (xs : List X) (x : X) → All P xs → P x → All P (xs ++ x ∷ [])
all_push P xs x all p = All-append P xs (x ∷ []) all (All-cons P x [] p (All-nil P))

same_kept : (terms : List Term) (before after : Knowledge) → after.facts.items ≡ before.facts.items → after.same.items ≡ before.same.items
    → All (Replaces terms before.facts.items) before.same.items → All (Replaces terms after.facts.items) after.same.items
same_kept terms before after facts is all = subst (λ (fs : List TermId). All (Replaces terms fs) after.same.items) (sym facts)
    (subst (All (Replaces terms before.facts.items)) (sym is) all)

bounds_kept : (terms : List Term) (before after : Knowledge) → after.facts.items ≡ before.facts.items → after.bounds.items ≡ before.bounds.items
    → All (Bounds terms before.facts.items) before.bounds.items → All (Bounds terms after.facts.items) after.bounds.items
bounds_kept terms before after facts is all = subst (λ (fs : List TermId). All (Bounds terms fs) after.bounds.items) (sym facts)
    (subst (All (Bounds terms before.facts.items)) (sym is) all)

gaps_kept : (terms : List Term) (before after : Knowledge) → after.facts.items ≡ before.facts.items → after.gaps.items ≡ before.gaps.items
    → All (IsGap terms before.facts.items) before.gaps.items → All (IsGap terms after.facts.items) after.gaps.items
gaps_kept terms before after facts is all = subst (λ (fs : List TermId). All (IsGap terms fs) after.gaps.items) (sym facts)
    (subst (All (IsGap terms before.facts.items)) (sym is) all)

pub replacement_known : (terms : List Term) (before after : Knowledge) (term other : TermId) → IsKnown terms before → Stands terms term
    → IsSame terms before.facts.items term other → after.facts.items ≡ before.facts.items →
    after.same.items ≡ before.same.items ++ (record { term = term; other = other }) ∷ [] → after.bounds.items ≡ before.bounds.items
    → after.gaps.items ≡ before.gaps.items → IsKnown terms after
replacement_known terms before after term other known stands same facts more bounds gaps =
    let replaces : Replaces terms before.facts.items (record { term = term; other = other }) = record { stands = stands; same = same } in
    record {
      facts = subst (All (Stands terms)) (sym facts) known.facts;
      same = subst (λ (fs : List TermId). All (Replaces terms fs) after.same.items) (sym facts)
          (subst (All (Replaces terms before.facts.items)) (sym more) (all_push (Replaces terms before.facts.items) before.same.items
          (record { term = term; other = other }) known.same replaces));
      bounds = bounds_kept terms before after facts bounds known.bounds;
      gaps = gaps_kept terms before after facts gaps known.gaps;
    }

pub bound_known : (terms : List Term) (before after : Knowledge) (term : TermId) (range : Range) → IsKnown terms before → Stands terms term
    → IsWithin terms before.facts.items term range → after.facts.items ≡ before.facts.items →
    after.same.items ≡ before.same.items → after.bounds.items ≡ before.bounds.items ++ (record { term = term; range = range }) ∷ []
    → after.gaps.items ≡ before.gaps.items → IsKnown terms after
bound_known terms before after term range known stands within facts same more gaps =
    let bounds : Bounds terms before.facts.items (record { term = term; range = range }) = record { stands = stands; within = within } in
    record {
      facts = subst (All (Stands terms)) (sym facts) known.facts;
      same = same_kept terms before after facts same known.same;
      bounds = subst (λ (fs : List TermId). All (Bounds terms fs) after.bounds.items) (sym facts)
          (subst (All (Bounds terms before.facts.items)) (sym more) (all_push (Bounds terms before.facts.items) before.bounds.items
          (record { term = term; range = range }) known.bounds bounds));
      gaps = gaps_kept terms before after facts gaps known.gaps;
    }

pub gap_known : (terms : List Term) (before after : Knowledge) (gap : Gap) → IsKnown terms before → IsGap terms before.facts.items gap
    → after.facts.items ≡ before.facts.items → after.same.items ≡ before.same.items → after.bounds.items ≡ before.bounds.items →
    after.gaps.items ≡ before.gaps.items ++ gap ∷ [] → IsKnown terms after
gap_known terms before after gap known is facts same bounds more = record {
  facts = subst (All (Stands terms)) (sym facts) known.facts;
  same = same_kept terms before after facts same known.same;
  bounds = bounds_kept terms before after facts bounds known.bounds;
  gaps = subst (λ (fs : List TermId). All (IsGap terms fs) after.gaps.items) (sym facts)
      (subst (All (IsGap terms before.facts.items)) (sym more) (all_push (IsGap terms before.facts.items) before.gaps.items gap known.gaps is));
}

-- ---- more terms

replaces_later : (old new : List Term) (facts : List TermId) → AreTerms old → Grows old new → All (Stands old) facts → (r : Replacement)
    → Replaces old facts r → Replaces new facts r
replaces_later old new facts made grows stand r is = record {
  stands = stands_later old new grows r.term is.stands;
  same =
      same_later old new facts r.term r.other made grows stand is.stands is.same;
}

bounds_later : (old new : List Term) (facts : List TermId) → AreTerms old → Grows old new → All (Stands old) facts → (b : Bound) → Bounds old facts b
    → Bounds new facts b
bounds_later old new facts made grows stand b is = record {
  stands = stands_later old new grows b.term is.stands;
  within = record {
    value = λ words assigns true.
        subst (IsIn b.range) (sym (value_later old new made grows words b.term is.stands))
        (is.within.value words (assigns_later old new grows words assigns) (true_before old new made grows words facts stand true));
  };
}

gap_later : (old new : List Term) (facts : List TermId) → AreTerms old → Grows old new → All (Stands old) facts → (g : Gap) → IsGap old facts g
    → IsGap new facts g
gap_later old new facts made grows stand g is = record {
  low = stands_later old new grows g.low is.low;
  high = stands_later old new grows g.high is.high;
  each = λ words assigns true.
      let a = value_later old new made grows words g.low is.low in
      let b = value_later old new made grows words g.high is.high in
      let before = is.each words (assigns_later old new grows words assigns) (true_before old new made grows words facts stand true) in
      omega (arith, a, b, before);
}

pub told_later : (old new : List Term) (facts : List TermId) → AreTerms old → Grows old new → All (Stands old) facts → (l : Literal)
    → IsTold old facts l → IsTold new facts l
told_later old new facts made grows stand l is = record {
  stands = stands_later old new grows l.term is.stands;
  width = width_later old new grows l.term is.stands ∙ is.width;
  value = λ words assigns true. value_later old new made grows words l.term is.stands ∙ is.value words (assigns_later old new grows words assigns)
      (true_before old new made grows words facts stand true);
}

pub known_later : (old new : List Term) (knowledge : Knowledge) → AreTerms old → Grows old new → IsKnown old knowledge → IsKnown new knowledge
known_later old new knowledge made grows known = record {
  facts = all_stand_later old new grows knowledge.facts.items known.facts;
  same = All-weaker (Replaces old knowledge.facts.items) (Replaces new knowledge.facts.items)
      (replaces_later old new knowledge.facts.items made grows known.facts) knowledge.same.items known.same;
  bounds = All-weaker (Bounds old knowledge.facts.items) (Bounds new knowledge.facts.items)
      (bounds_later old new knowledge.facts.items made grows known.facts) knowledge.bounds.items known.bounds;
  gaps = All-weaker (IsGap old knowledge.facts.items) (IsGap new knowledge.facts.items) (gap_later old new knowledge.facts.items made grows
      known.facts) knowledge.gaps.items known.gaps;
}

-- ---- more facts

true_fewer : (terms : List Term) (words : List Word) (facts more : List TermId) → AreTrue terms words (facts ++ more) → AreTrue terms words facts
true_fewer terms words facts more all = all_left (λ fact. value_of terms words fact ≡ 1) facts more all

same_more : (terms : List Term) (facts more : List TermId) (id other : TermId) → IsSame terms facts id other → IsSame terms (facts ++ more) id other
same_more terms facts more id other is = record {
  stands = is.stands;
  width = is.width;
  value =
      λ words assigns true. is.value words assigns (true_fewer terms words facts more true);
}

replaces_more : (terms : List Term) (facts more : List TermId) (r : Replacement) → Replaces terms facts r → Replaces terms (facts ++ more) r
replaces_more terms facts more r is = record { stands = is.stands; same = same_more terms facts more r.term r.other is.same }

bounds_more : (terms : List Term) (facts more : List TermId) (b : Bound) → Bounds terms facts b → Bounds terms (facts ++ more) b
bounds_more terms facts more b is =
    record {
      stands = is.stands;
      within =
          record { value = λ words assigns true. is.within.value words assigns (true_fewer terms words facts more true) };
    }

gap_more : (terms : List Term) (facts more : List TermId) (g : Gap) → IsGap terms facts g → IsGap terms (facts ++ more) g
gap_more terms facts more g is =
    record { low = is.low; high = is.high; each = λ words assigns true. is.each words assigns (true_fewer terms words facts more true) }

pub known_more : (terms : List Term) (before after : Knowledge) (fact : TermId) → IsKnown terms before → Stands terms fact
    → after.facts.items ≡ before.facts.items ++ fact ∷ [] → after.same.items ≡ before.same.items → after.bounds.items ≡ before.bounds.items
    → after.gaps.items ≡ before.gaps.items → IsKnown terms after
known_more terms before after fact known stands facts same bounds gaps = record {
  facts = subst (All (Stands terms)) (sym facts) (all_push (Stands terms) before.facts.items fact known.facts stands);
  same = subst (λ (fs : List TermId). All (Replaces terms fs) after.same.items) (sym facts)
      (subst (All (Replaces terms (before.facts.items ++ fact ∷ []))) (sym same)
      (All-weaker (Replaces terms before.facts.items) (Replaces terms (before.facts.items ++ fact ∷ []))
      (replaces_more terms before.facts.items (fact ∷ [])) before.same.items known.same));
  bounds = subst (λ (fs : List TermId). All (Bounds terms fs) after.bounds.items) (sym facts)
      (subst (All (Bounds terms (before.facts.items ++ fact ∷ []))) (sym bounds)
      (All-weaker (Bounds terms before.facts.items) (Bounds terms (before.facts.items ++ fact ∷ []))
      (bounds_more terms before.facts.items (fact ∷ [])) before.bounds.items known.bounds));
  gaps = subst (λ (fs : List TermId). All (IsGap terms fs) after.gaps.items) (sym facts)
      (subst (All (IsGap terms (before.facts.items ++ fact ∷ []))) (sym gaps)
      (All-weaker (IsGap terms before.facts.items) (IsGap terms (before.facts.items ++ fact ∷ [])) (gap_more terms before.facts.items (fact ∷ []))
      before.gaps.items known.gaps));
}

-- a fact is told true, and so is what is the same
pub fact_told : (terms : List Term) (before after : List TermId) (fact simple : TermId) → width_at terms fact ≡ 1 → IsSame terms before fact simple
    → after ≡ before ++ fact ∷ [] → IsTold terms after (record { term = simple; holds = true })
fact_told terms before after fact simple flag same is = subst (λ (fs : List TermId). IsTold terms fs (record { term = simple; holds = true }))
    (sym is) (record {
      stands = same.stands;
      width = same.width ∙ flag;
      value = λ words assigns all. same.value words assigns (true_fewer terms words before (fact ∷ []) all)
          ∙ all_last (λ f. value_of terms words f ≡ 1) before fact all;
    })

pub all_told_later : (old new : List Term) (facts after : List TermId) (literals : List Literal) → AreTerms old → Grows old new
    → All (Stands old) facts → after ≡ facts → All (IsTold old facts) literals → All (IsTold new after) literals
all_told_later old new facts after literals made grows stand is all =
    subst (λ (fs : List TermId). All (IsTold new fs) literals) (sym is) (All-weaker (IsTold old facts) (IsTold new facts)
    (told_later old new facts made grows stand) literals all)
