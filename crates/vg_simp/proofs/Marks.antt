-- Marks that go down.
use Rattle.std.proofs.Common.{◌≡◌, ℕ, suc, ◌+◌, ◌<◌, ◌≤◌, List, [], ◌∷◌, length, set, get_or, replicate, Bool, true, false, cond, ◌⊎◌, refl, sym, ap}
use Rattle.std.proofs.Common.{subst, ◌∙◌, inl, inr, arith, All, Contains, Some, None, slice_get, Option}
use Rattle.std.proofs.lemmas.Bool.{cases_Bool, cases_lt, false≢true}
use Rattle.std.proofs.lemmas.Bool.Decides.{eqb_tells}
use Rattle.std.proofs.lemmas.List.{length-set, get_or-set_other, get_or_past, length-replicate}
use Rattle.std.proofs.lemmas.Grind.{get_or-set_at}
use Rattle.std.proofs.lemmas.List.Elements.{All-nil, All-cons, All-head, All-tail, All-weaker, All-contains}
use Rattle.vg_term.specs.Terms.{Term, AreTerms}
use Rattle.vg_term.specs.declared.node.TermId.{TermId}
use Rattle.vg_term.specs.declared.node.Node.TheVariants as nodes
use Rattle.vg_term.proofs.Made.{is_made}
use Rattle.vg_simp.specs.Marking.{parts_in, parts_at, is_marked, marked, AreMarks}

abbrev Below : ℕ → TermId → Type 0
Below n id = id.0 < n

-- ---- parts stand before their term

parts_before : {terms : List Term} → AreTerms terms → (id : TermId) (o : Option Term) → slice_get terms id.0 ≡ o → All (Below id.0) (parts_in o)
parts_before made id None e = All-nil (Below id.0)
parts_before made id (Some (nodes.Var number width, w)) e = All-nil (Below id.0)
parts_before made id (Some (nodes.Op op parts, w)) e = (is_made made id.0 op parts w e).before

pub parts_below : {terms : List Term} → AreTerms terms → (id : TermId) → All (λ (part : TermId). part.0 < id.0) (parts_at terms id)
parts_below {terms} made id = parts_before made id (slice_get terms id.0) refl

pub parts_within : {terms : List Term} → AreTerms terms → (id : TermId) (n : ℕ) (parts : List TermId) → id.0 < n → parts ≡ parts_at terms id
    → All (λ (part : TermId). part.0 < n) parts
parts_within {terms} made id n parts h is =
    subst (All (Below n)) (sym is) (All-weaker (Below id.0) (Below n) (λ part below. omega (arith, below, h)) (parts_at terms id)
    (parts_below made id))

-- ---- what more marks leave

same_id : (a b : TermId) → a.0 ≡ b.0 → a ≡ b
same_id a b e = (λ j. record { 0 = e j })

marked_long : (marks : List Bool) (ids : List TermId) → length (marked marks ids) ≡ length marks
marked_long marks [] = refl
marked_long marks (id ∷ ids) = marked_long (set marks id.0 true) ids ∙ length-set marks id.0 true

set_kept : (marks : List Bool) (at : ℕ) (id : TermId) → at < length marks → is_marked marks id ≡ true → is_marked (set marks at true) id ≡ true
set_kept marks at id h m =
    elim (eqb_tells id.0 at) [
      | inl here ↦ get_or-set_at marks at id.0 true false here.1 h
      | inr other ↦ get_or-set_other marks at id.0 true false other.1 ∙ m
    ]

set_within : (marks : List Bool) (at : ℕ) (ids : List TermId) → All (Below (length marks)) ids → All (Below (length (set marks at true))) ids
set_within marks at ids all = subst (λ n. All (Below n) ids) (sym (length-set marks at true)) all

marked_kept : (marks : List Bool) (ids : List TermId) (id : TermId) → All (Below (length marks)) ids → is_marked marks id ≡ true
    → is_marked (marked marks ids) id ≡ true
marked_kept marks [] id all m = m
marked_kept marks (x ∷ ids) id all m =
    marked_kept (set marks x.0 true) ids id (set_within marks x.0 ids (All-tail (Below (length marks)) x ids all))
    (set_kept marks x.0 id (All-head (Below (length marks)) x ids all) m)

marked_made : (marks : List Bool) (ids : List TermId) → All (Below (length marks)) ids → All (λ id. is_marked (marked marks ids) id ≡ true) ids
marked_made marks [] all = All-nil (λ id. is_marked marks id ≡ true)
marked_made marks (x ∷ ids) all =
    let within : x.0 < length marks = All-head (Below (length marks)) x ids all in
    let rest = set_within marks x.0 ids (All-tail (Below (length marks)) x ids all) in
    All-cons (λ id. is_marked (marked (set marks x.0 true) ids) id ≡ true) x ids
    (marked_kept (set marks x.0 true) ids x rest (get_or-set_at marks x.0 x.0 true false refl within))
    (marked_made (set marks x.0 true) ids rest)

Contains-head : (x : TermId) (ids : List TermId) (id : TermId) → x ≡ id → Contains (x ∷ ids) id
Contains-head x ids id e = (0, omega arith, e)

Contains-tail : (x : TermId) (ids : List TermId) (id : TermId) → Contains ids id → Contains (x ∷ ids) id
Contains-tail x ids id there = (suc there.0, omega (arith, there.1), there.2)

marked_from : (marks : List Bool) (ids : List TermId) (id : TermId) → is_marked (marked marks ids) id ≡ true → (is_marked marks id ≡ true) ⊎ Contains ids id
marked_from marks [] id m = inl m
marked_from marks (x ∷ ids) id m =
    elim (marked_from (set marks x.0 true) ids id m) [
      | inl before ↦ elim (eqb_tells id.0 x.0) [
        | inl here ↦ inr (Contains-head x ids id (same_id x id (sym here.1)))
        | inr other ↦ inl (sym (get_or-set_other marks x.0 id.0 true false other.1) ∙ before)
      ]
      | inr there ↦ inr (Contains-tail x ids id there)
    ]

le_from : (m n : ℕ) → (m < n → ⊥) → n ≤ m
le_from m n h = elim (cases_lt m n) [ inl less ↦ absurd (h less) | inr more ↦ more ]

-- ---- going down

pub marks_start : (terms : List Term) (goal : TermId) (marks : List Bool) → marks ≡ set (replicate (goal.0 + 1) false) goal.0 true
    → AreMarks terms goal (goal.0 + 1) marks
marks_start terms goal marks is =
    let none : List Bool = replicate (goal.0 + 1) false in
    let long : length none ≡ goal.0 + 1 = length-replicate (goal.0 + 1) false in
    subst (AreMarks terms goal (goal.0 + 1)) (sym is) (record {
      long = length-set none goal.0 true ∙ long;
      start = get_or-set_at none goal.0 goal.0 true false refl (omega (arith, long));
      closed = λ id past m. absurd (false≢true
          (sym (get_or_past (set none goal.0 true) id.0 false (omega (arith, long, length-set none goal.0 true, le_from id.0 (goal.0 + 1) past)))
          ∙ m));
    })

pub marks_more : {terms : List Term} → AreTerms terms → (goal id : TermId) (high : ℕ) (old new : List Bool) → high ≡ id.0 + 1 → id.0 < goal.0 + 1
    → AreMarks terms goal high old →
    new ≡ cond (is_marked old id) (marked old (parts_at terms id)) old → AreMarks terms goal id.0 new
marks_more {terms} made goal id high old new e h marks is =
    let within : All (Below (length old)) (parts_at terms id) = All-weaker (Below id.0) (Below (length old))
    (λ part below. omega (arith, below, h, marks.long)) (parts_at terms id) (parts_below made id) in
    elim (cases_Bool (is_marked old id)) [
      | inl is_one ↦
          let new_is : new ≡ marked old (parts_at terms id) = is ∙ ap (λ b. cond b (marked old (parts_at terms id)) old) is_one in
          subst (AreMarks terms goal id.0) (sym new_is) (record {
            long = marked_long old (parts_at terms id) ∙ marks.long;
            start = marked_kept old (parts_at terms id) goal within marks.start;
            closed = λ x past m.
                elim (marked_from old (parts_at terms id) x m) [
                  | inl before ↦ elim (eqb_tells x.0 id.0) [
                    | inl here ↦ subst (λ y. All (λ part. is_marked (marked old (parts_at terms id)) part ≡ true) (parts_at terms y))
                        (same_id id x (sym here.1)) (marked_made old (parts_at terms id) within)
                    | inr other ↦
                        All-weaker (λ part. is_marked old part ≡ true) (λ part. is_marked (marked old (parts_at terms id)) part ≡ true)
                        (λ part m. marked_kept old (parts_at terms id) part within m)
                        (parts_at terms x) (marks.closed x (λ lower. past (omega (arith, lower, e, other.1))) before)
                  ]
                  | inr there ↦ absurd (past (All-contains (Below id.0) (parts_at terms id) x (parts_below made id) there))
                ];
          })
      | inr not_marked ↦
          let new_is : new ≡ old = is ∙ ap (λ b. cond b (marked old (parts_at terms id)) old) not_marked in
          subst (AreMarks terms goal id.0) (sym new_is) (record {
            long = marks.long;
            start = marks.start;
            closed = λ x past m. elim (eqb_tells x.0 id.0) [
              | inl here ↦ absurd (false≢true (sym not_marked ∙ ap (λ n. get_or old n false) (sym here.1) ∙ m))
              | inr other ↦ marks.closed x (λ lower. past (omega (arith, lower, e, other.1))) m
            ];
          })
    ]
