-- Marks that go down.
use Rattle.std.proofs.Common.{◌≡◌, ℕ, suc, ◌+◌, ◌<◌, ◌≤◌, List, [], ◌∷◌, length, set, get_or, replicate, take, Bool, true, false, cond, ◌⊎◌, ◌++◌}
use Rattle.std.proofs.Common.{refl, sym, ap, subst, ◌∙◌, inl, inr, arith, All, Contains, Some, None, slice_get, Option}
use Rattle.std.specs.Prelude.{nat_eq}
use Rattle.std.proofs.lemmas.Bool.{cases_Bool, cases_lt, false≢true}
use Rattle.std.proofs.lemmas.Bool.Decides.{eqb_tells}
use Rattle.std.proofs.lemmas.List.{length-set, get_or-set_other, get_or_past, get_or-replicate, length-replicate, take_more}
use Rattle.vg_blast.specs.Cost.{parts_in}
use Rattle.std.proofs.lemmas.Grind.{get_or-set_at}
use Rattle.std.proofs.lemmas.List.Elements.{All-nil, All-cons, All-head, All-tail, All-weaker, All-contains}
use Rattle.vg_term.specs.Terms.{Term, Stands, AreTerms, listed}
use Rattle.vg_term.specs.declared.node.TermId.{TermId}
use Rattle.vg_term.specs.declared.node.Op.TheVariants as ops
use Rattle.vg_term.specs.declared.node.Node.TheVariants as nodes
use Rattle.vg_term.proofs.Made.{is_made}
use Rattle.vg_blast.specs.Marking.{followed, conjuncts_in, is_marked, marked, start, down, AreStarts, AreMarks}
use Rattle.vg_blast.specs.declared.marking.Follow.{Follow}
use Rattle.vg_blast.specs.declared.marking.Follow.TheVariants.{Parts, Conjuncts}

abbrev Below : ℕ → TermId → Type 0
Below n id = id.0 < n

-- ---- parts stand before their term

parts_before : {terms : List Term} → AreTerms terms → (id : TermId) (o : Option Term) → slice_get terms id.0 ≡ o → All (Below id.0) (parts_in o)
parts_before made id None e = All-nil (Below id.0)
parts_before made id (Some (nodes.Var number width, w)) e = All-nil (Below id.0)
parts_before made id (Some (nodes.Op op parts, w)) e = (is_made made id.0 op parts w e).before

if_all : (P : TermId → Type 0) (b : Bool) (ids : List TermId) → All P ids → All P (cond b ids [])
if_all P true ids all = all
if_all P false ids all = All-nil P

conjuncts_before : {terms : List Term} → AreTerms terms → (id : TermId) (o : Option Term) → slice_get terms id.0 ≡ o → All (Below id.0) (conjuncts_in o)
conjuncts_before made id (Some (nodes.Op ops.And parts, w)) e = if_all (Below id.0) (nat_eq w 1) (listed parts) (is_made made id.0 ops.And parts w e).before
conjuncts_before made id _ e = All-nil (Below id.0)

pub followed_before : {terms : List Term} → AreTerms terms → (follow : Follow) (id : TermId) → All (λ (part : TermId). part.0 < id.0) (followed follow terms id)
followed_before {terms} made Parts id = parts_before made id (slice_get terms id.0) refl
followed_before {terms} made Conjuncts id = conjuncts_before made id (slice_get terms id.0) refl

-- ---- what more marks leave

same_id : (a b : TermId) → a.0 ≡ b.0 → a ≡ b
same_id a b e = (λ j. record { 0 = e j })

pub marked_long : (marks : List Bool) (ids : List TermId) → length (marked marks ids) ≡ length marks
marked_long marks [] = refl
marked_long marks (id ∷ ids) = marked_long (set marks id.0 true) ids ∙ length-set marks id.0 true

set_kept : (marks : List Bool) (at : ℕ) (id : TermId) → at < length marks → is_marked marks id ≡ true → is_marked (set marks at true) id ≡ true
set_kept marks at id h m =
    elim (eqb_tells id.0 at) [
      | inl here ↦ get_or-set_at marks at id.0 true false here.1 h
      | inr other ↦ get_or-set_other marks at id.0 true false other.1 ∙ m
    ]

set_within : (marks : List Bool) (at : ℕ) (ids : List TermId) → All (Below (length marks)) ids → All (Below (length (set marks at true))) ids
set_within marks at ids all = subst (λ n. All (Below n) ids) (sym (length-set marks at true)) all

marked_kept : (marks : List Bool) (ids : List TermId) (id : TermId) → All (Below (length marks)) ids → is_marked marks id ≡ true
    → is_marked (marked marks ids) id ≡ true
marked_kept marks [] id all m = m
marked_kept marks (x ∷ ids) id all m =
    marked_kept (set marks x.0 true) ids id (set_within marks x.0 ids (All-tail (Below (length marks)) x ids all))
    (set_kept marks x.0 id (All-head (Below (length marks)) x ids all) m)

marked_made : (marks : List Bool) (ids : List TermId) → All (Below (length marks)) ids → All (λ id. is_marked (marked marks ids) id ≡ true) ids
marked_made marks [] all = All-nil (λ id. is_marked marks id ≡ true)
marked_made marks (x ∷ ids) all =
    let within : x.0 < length marks = All-head (Below (length marks)) x ids all in
    let rest = set_within marks x.0 ids (All-tail (Below (length marks)) x ids all) in
    All-cons (λ id. is_marked (marked (set marks x.0 true) ids) id ≡ true) x ids
    (marked_kept (set marks x.0 true) ids x rest (get_or-set_at marks x.0 x.0 true false refl within))
    (marked_made (set marks x.0 true) ids rest)

pub Contains-head : (x : TermId) (ids : List TermId) (id : TermId) → x ≡ id → Contains (x ∷ ids) id
Contains-head x ids id e = (0, omega arith, e)

pub Contains-tail : (x : TermId) (ids : List TermId) (id : TermId) → Contains ids id → Contains (x ∷ ids) id
Contains-tail x ids id there = (suc there.0, omega (arith, there.1), there.2)

marked_from : (marks : List Bool) (ids : List TermId) (id : TermId) → is_marked (marked marks ids) id ≡ true → (is_marked marks id ≡ true) ⊎ Contains ids id
marked_from marks [] id m = inl m
marked_from marks (x ∷ ids) id m =
    elim (marked_from (set marks x.0 true) ids id m) [
      | inl before ↦ elim (eqb_tells id.0 x.0) [
        | inl here ↦ inr (Contains-head x ids id (same_id x id (sym here.1)))
        | inr other ↦ inl (sym (get_or-set_other marks x.0 id.0 true false other.1) ∙ before)
      ]
      | inr there ↦ inr (Contains-tail x ids id there)
    ]

le_from : (m n : ℕ) → (m < n → ⊥) → n ≤ m
le_from m n h = elim (cases_lt m n) [ inl less ↦ absurd (h less) | inr more ↦ more ]

-- ---- going down

pub marks_start : (follow : Follow) (terms : List Term) (from : List TermId) (marks : List Bool) → AreStarts terms from marks
    → AreMarks follow terms from (length terms) marks
marks_start follow terms from marks starts = record {
  long = starts.long;
  starts = starts.starts;
  closed = λ id past m. absurd (false≢true (sym (get_or_past marks id.0 false (omega (arith, starts.long, le_from id.0 (length terms) past))) ∙ m));
  sound = λ id m. start id (starts.sound id m);
}

pub marks_more : {terms : List Term} → AreTerms terms → (follow : Follow) (from : List TermId) (id : TermId) (high : ℕ) (old new : List Bool)
    → high ≡ id.0 + 1 → id.0 < length terms → AreMarks follow terms from high old →
    new ≡ cond (is_marked old id) (marked old (followed follow terms id)) old → AreMarks follow terms from id.0 new
marks_more {terms} made follow from id high old new e h marks is =
    let within : All (Below (length old)) (followed follow terms id) =
    All-weaker (Below id.0) (Below (length old)) (λ part below. omega (arith, below, h, marks.long)) (followed follow terms id)
    (followed_before made follow id) in
    elim (cases_Bool (is_marked old id)) [
      | inl is_one ↦
          let new_is : new ≡ marked old (followed follow terms id) = is ∙ ap (λ b. cond b (marked old (followed follow terms id)) old) is_one in
          subst (AreMarks follow terms from id.0) (sym new_is) (record {
            long = marked_long old (followed follow terms id) ∙ marks.long;
            starts = All-weaker (λ x. is_marked old x ≡ true) (λ x. is_marked (marked old (followed follow terms id)) x ≡ true)
                (λ x m. marked_kept old (followed follow terms id) x within m) from marks.starts;
            closed = λ x past m.
                elim (marked_from old (followed follow terms id) x m) [
                  | inl before ↦ elim (eqb_tells x.0 id.0) [
                    | inl here ↦ subst (λ y. All (λ part. is_marked (marked old (followed follow terms id)) part ≡ true) (followed follow terms y))
                        (same_id id x (sym here.1)) (marked_made old (followed follow terms id) within)
                    | inr other ↦
                        All-weaker (λ part. is_marked old part ≡ true) (λ part. is_marked (marked old (followed follow terms id)) part ≡ true)
                        (λ part m. marked_kept old (followed follow terms id) part within m)
                        (followed follow terms x) (marks.closed x (λ lower. past (omega (arith, lower, e, other.1))) before)
                  ]
                  | inr there ↦ absurd (past (All-contains (Below id.0) (followed follow terms id) x (followed_before made follow id) there))
                ];
            sound = λ x m. elim (marked_from old (followed follow terms id) x m) [
              | inl before ↦ marks.sound x before
              | inr there ↦ down id x
                  (marks.sound id is_one) there
            ];
          })
      | inr not_marked ↦
          let new_is : new ≡ old = is ∙ ap (λ b. cond b (marked old (followed follow terms id)) old) not_marked in
          subst (AreMarks follow terms from id.0) (sym new_is) (record {
            long = marks.long;
            starts = marks.starts;
            closed = λ x past m. elim (eqb_tells x.0 id.0) [
              | inl here ↦ absurd (false≢true (sym not_marked ∙ ap (λ n. get_or old n false) (sym here.1) ∙ m))
              | inr other ↦ marks.closed x (λ lower. past (omega (arith, lower, e, other.1))) m
            ];
            sound = marks.sound;
          })
    ]

marked_push : (marks : List Bool) (ids : List TermId) (id : TermId) → marked marks (ids ++ id ∷ []) ≡ set (marked marks ids) id.0 true
marked_push marks [] id = refl
marked_push marks (x ∷ ids) id = marked_push (set marks x.0 true) ids id

none_marked : (n i : ℕ) → get_or (replicate n false) i false ≡ false
none_marked n i = elim (cases_lt i n) [
  | inl less ↦ get_or-replicate n i false false less
  | inr past ↦ get_or_past (replicate n false) i false
      (omega (arith, length-replicate n false, past))
]

pub starts_made : (terms : List Term) (from : List TermId) (marks : List Bool) → All (Stands terms) from
    → marks ≡ marked (replicate (length terms) false) from → AreStarts terms from marks
starts_made terms from marks stand is =
    let none : List Bool = replicate (length terms) false in
    let long : length none ≡ length terms = length-replicate (length terms) false in
    let within : All (Below (length none)) from = subst (λ n. All (Below n) from) (sym long) stand in
    subst (AreStarts terms from) (sym is) (record {
      long = marked_long none from ∙ long;
      starts = marked_made none from within;
      sound = λ id m. elim (marked_from none from id m) [
        | inl before ↦ absurd (false≢true (sym (none_marked (length terms) id.0) ∙ before))
        | inr there ↦ there
      ];
    })

pub marked_next : (marks : List Bool) (from : List TermId) (i : ℕ) (id : TermId) → i < length from → id ≡ get_or from i id → (none : List Bool)
    → marks ≡ marked none (take i from) → set marks id.0 true ≡ marked none (take (i + 1) from)
marked_next marks from i id h is none e =
    let more : take (i + 1) from ≡ take i from ++ id ∷ [] = take_more from i id h ∙ ap (λ y. take i from ++ y ∷ []) (sym is) in
    ap (λ (ms : List Bool). set ms id.0 true) e ∙ sym (marked_push none (take i from) id) ∙ ap (marked none) (sym more)

pub followed_within : {terms : List Term} → AreTerms terms → (follow : Follow) (id : TermId) (n : ℕ) (parts : List TermId) → id.0 < length terms
    → n ≡ length terms → parts ≡ followed follow terms id → All (λ (part : TermId). part.0 < n) parts
followed_within {terms} made follow id n parts h e is =
    subst (All (Below n)) (sym is) (All-weaker (Below id.0) (Below n) (λ part below. omega (arith, below, h, e)) (followed follow terms id)
    (followed_before made follow id))
