-- What facts cost, against the literals that are added for them.
use Rattle.std.proofs.Common.{◌≡◌, ℕ, zero, suc, ◌+◌, ◌-◌, ◌<◌, ◌≤◌, List, [], ◌∷◌, map, length, get_or, slice_get, Some, Bool, true, false, cond}
use Rattle.std.proofs.Common.{◌⊎◌, refl, sym, ap, subst, ◌∙◌, inl, inr, arith, Contains, eq-eqb}
use Rattle.std.proofs.Common.{Result, Ok, Err}
use Rattle.std.specs.Prelude.{◌||◌, nat_eq, IfErr, IsErrAnd}
use Rattle.vg_blast.specs.declared.stops.BlastStop.{BlastStop}
use Rattle.vg_blast.specs.declared.stops.BlastStop.TheVariants as stops
use Rattle.std.specs.List.{list_any}
use Rattle.std.proofs.lemmas.Bool.{cases_Bool, or_left, or_right, false≢true, eqb-true}
use Rattle.std.proofs.lemmas.List.Elements.{All-contains}
use Rattle.std.proofs.lemmas.Option.{slice_get-get_or}
use Rattle.vg_term.specs.Terms.{Term, AreTerms, listed, width_at}
use Rattle.vg_term.specs.declared.node.TermId.{TermId}
use Rattle.vg_term.specs.declared.node.Op.{Op}
use Rattle.vg_term.specs.declared.node.Op.TheVariants as ops
use Rattle.vg_term.specs.declared.node.Node.TheVariants as nodes
use Rattle.vg_blast.specs.Cost.{parts_at, is_under_to, is_reached, operation_cost, entry_cost, cost_to, cost, greatest}
use Rattle.vg_blast.specs.Marking.{is_marked, Follows, start, down, AreMarks}
use Rattle.vg_blast.specs.declared.marking.Follow.TheVariants as follow
use Rattle.vg_blast.specs.State.{added_to}
use Rattle.vg_blast.specs.Facts.{required_to}
use Rattle.vg_blast.proofs.Marks.{followed_before}
use Rattle.vg_blast.proofs.Stating.{cost_grows, width_ok}

-- ---- what is followed is reached

any_at : (f : TermId → Bool) (ids : List TermId) (id : TermId) → Contains ids id → f id ≡ true → list_any f ids ≡ true
any_at f [] id there e = let none : ⊥ = omega (arith, there.1) in absurd none
any_at f (x ∷ ids) id (zero, within, is) e = or_left (f x) (list_any f ids) (ap f is ∙ e)
any_at f (x ∷ ids) id (suc k, within, is) e = or_right (f x) (list_any f ids) (any_at f ids id (k, omega (arith, within), is) e)

some_of : (f : TermId → Bool) (ids : List TermId) → list_any f ids ≡ true → (id : TermId) × Contains ids id × (f id ≡ true)
some_of f [] e = absurd (false≢true e)
some_of f (x ∷ ids) e =
    elim (cases_Bool (f x)) [
      | inl here ↦ (x, (0, omega arith, refl), here)
      | inr other ↦ let rest = some_of f ids (sym (ap (λ b. b || list_any f ids) other) ∙ e) in
          (rest.0, (suc rest.1.0, omega (arith, rest.1.1), rest.1.2), rest.2)
    ]

same_number : (n : ℕ) → nat_eq n n ≡ true
same_number n = eq-eqb n n refl

under_itself : (d : ℕ) (terms : List Term) (id : TermId) → is_under_to d terms id id ≡ true
under_itself zero terms id = same_number id.0
under_itself (suc d) terms id = or_left (nat_eq id.0 id.0) (list_any (λ part. is_under_to d terms part id) (parts_at terms id)) (same_number id.0)

same_term : (a b : TermId) → nat_eq a.0 b.0 ≡ true → a ≡ b
same_term a b e = (λ j. record { 0 = eqb-true a.0 b.0 e j })

one_down : (d : ℕ) (terms : List Term) (top id part : TermId) → is_under_to d terms top id ≡ true → Contains (parts_at terms id) part
    → is_under_to (suc d) terms top part ≡ true
one_down zero terms top id part e there =
    let inside : Contains (parts_at terms top) part = subst (λ (x : TermId). Contains (parts_at terms x) part) (sym (same_term top id e)) there in
    or_right (nat_eq top.0 part.0) (list_any (λ p. is_under_to zero terms p part) (parts_at terms top))
    (any_at (λ p. is_under_to zero terms p part) (parts_at terms top) part inside (under_itself zero terms part))
one_down (suc d) terms top id part e there =
    elim (cases_Bool (nat_eq top.0 id.0)) [
      | inl here ↦
          let inside : Contains (parts_at terms top) part = subst (λ (x : TermId). Contains (parts_at terms x) part) (sym (same_term top id here)) there in
          or_right (nat_eq top.0 part.0) (list_any (λ p. is_under_to (suc d) terms p part) (parts_at terms top))
          (any_at (λ p. is_under_to (suc d) terms p part) (parts_at terms top) part inside (under_itself (suc d) terms part))
      | inr lower ↦
          let rest : list_any (λ p. is_under_to d terms p id) (parts_at terms top) ≡ true =
          sym (ap (λ b. b || list_any (λ p. is_under_to d terms p id) (parts_at terms top)) lower) ∙ e in
          let way = some_of (λ p. is_under_to d terms p id) (parts_at terms top) rest in
          or_right (nat_eq top.0 part.0) (list_any (λ p. is_under_to (suc d) terms p part) (parts_at terms top))
          (any_at (λ p. is_under_to (suc d) terms p part) (parts_at terms top) way.0 way.1 (one_down d terms way.0 id part way.2 there))
    ]

before_top : {terms : List Term} → AreTerms terms → (top p : TermId) → Contains (parts_at terms top) p → p.0 < top.0
before_top {terms} made top p there = All-contains (λ (x : TermId). x.0 < top.0) (parts_at terms top) p (followed_before made follow.Parts top) there

levels_suc : {terms : List Term} → AreTerms terms → (d m : ℕ) (top id p : TermId) → Contains (parts_at terms top) p → p.0 < top.0 → top.0 ≤ m
    → ((k : ℕ) → p.0 ≤ k → is_under_to k terms p id ≡ true) → is_under_to m terms top id ≡ true
levels_suc made d zero top id p there below h rest = let none : ⊥ = omega (arith, below, h) in absurd none
levels_suc {terms} made d (suc m) top id p there below h rest =
    or_right (nat_eq top.0 id.0) (list_any (λ x. is_under_to m terms x id) (parts_at terms top))
    (any_at (λ x. is_under_to m terms x id) (parts_at terms top) p there (rest m (omega (arith, below, h))))

-- no more levels are needed than the number of the term above
levels : {terms : List Term} → AreTerms terms → (d m : ℕ) (top id : TermId) → is_under_to d terms top id ≡ true → top.0 ≤ m → is_under_to m terms top id ≡ true
levels {terms} made zero m top id e h = subst (λ (x : TermId). is_under_to m terms top x ≡ true) (same_term top id e) (under_itself m terms top)
levels {terms} made (suc d) m top id e h =
    elim (cases_Bool (nat_eq top.0 id.0)) [
      | inl here ↦ subst (λ (x : TermId). is_under_to m terms top x ≡ true) (same_term top id here) (under_itself m terms top)
      | inr lower ↦
          let rest : list_any (λ p. is_under_to d terms p id) (parts_at terms top) ≡ true =
          sym (ap (λ b. b || list_any (λ p. is_under_to d terms p id) (parts_at terms top)) lower) ∙ e in
          let way = some_of (λ p. is_under_to d terms p id) (parts_at terms top) rest in
          let below : way.0.0 < top.0 = before_top made top way.0 way.1 in
          levels_suc made d m top id way.0 way.1 below h (λ k le. levels made d k way.0 id way.2 le)
    ]

reached_mark : {terms : List Term} → AreTerms terms → (facts : List TermId) (id : TermId) → Follows follow.Parts terms facts id
    → is_reached terms facts id ≡ true
reached_mark {terms} made facts _ (start x there) = any_at (λ fact. is_under_to fact.0 terms fact x) facts x there (under_itself x.0 terms x)
reached_mark {terms} made facts _ (down x part before there) =
    let way = some_of (λ fact. is_under_to fact.0 terms fact x) facts (reached_mark made facts x before) in
    any_at (λ fact. is_under_to fact.0 terms fact part) facts way.0 way.1 (levels made (suc way.0.0) way.0.0 way.0 part
    (one_down way.0.0 terms way.0 x part way.2 there) (omega arith))

-- and what is reached is followed
under_follows : (d : ℕ) (terms : List Term) (facts : List TermId) (top id : TermId) → Follows follow.Parts terms facts top
    → is_under_to d terms top id ≡ true → Follows follow.Parts terms facts id
under_follows zero terms facts top id follows e = subst (Follows follow.Parts terms facts) (same_term top id e) follows
under_follows (suc d) terms facts top id follows e =
    elim (cases_Bool (nat_eq top.0 id.0)) [
      | inl here ↦ subst (Follows follow.Parts terms facts) (same_term top id here) follows
      | inr lower ↦
          let rest : list_any (λ p. is_under_to d terms p id) (parts_at terms top) ≡ true =
          sym (ap (λ b. b || list_any (λ p. is_under_to d terms p id) (parts_at terms top)) lower) ∙ e in
          let way = some_of (λ p. is_under_to d terms p id) (parts_at terms top) rest in
          under_follows d terms facts way.0 id (down top way.0 follows way.1) way.2
    ]

pub reached_follows : (terms : List Term) (facts : List TermId) (id : TermId) → is_reached terms facts id ≡ true → Follows follow.Parts terms facts id
reached_follows terms facts id e =
    let way = some_of (λ fact. is_under_to fact.0 terms fact id) facts e in
    under_follows way.0.0 terms facts way.0 id (start way.0 way.1) way.2

-- ---- each term costs enough

one_costs : (op : Op) → 400 ≤ operation_cost op 1
one_costs ops.Mul = omega arith
one_costs ops.Udiv = omega arith
one_costs ops.Urem = omega arith
one_costs ops.Shl = omega arith
one_costs ops.Lshr = omega arith
one_costs ops.Ashr = omega arith
one_costs _ = omega arith

term_cost : {terms : List Term} → AreTerms terms → (n : ℕ) (t : Term) → slice_get terms n ≡ Some t → 400 ≤ entry_cost terms (Some t)
term_cost made n (nodes.Var number width, w) e = let ok = width_ok made (record { 0 = n }) (nodes.Var number width, w) e in omega (arith, ok.some)
term_cost {terms} made n (nodes.Op op parts, w) e =
    let ok = width_ok made (record { 0 = n }) (nodes.Op op parts, w) e in
    let grown = cost_grows op 1 (greatest (w ∷ map (width_at terms) (listed parts))) (omega (arith, ok.some)) in
    omega (arith, grown, one_costs op)

some_cost : {terms : List Term} → AreTerms terms → (n : ℕ) (d : Term) → n < length terms → 400 ≤ entry_cost terms (slice_get terms n)
some_cost {terms} made n d h =
    let there : slice_get terms n ≡ Some (get_or terms n d) = slice_get-get_or terms n d h in
    subst (λ o. 400 ≤ entry_cost terms o) (sym there) (term_cost made n (get_or terms n d) there)

-- ---- all together

share : (marked asserted reached : Bool) (c : ℕ) → (asserted ≡ true → marked ≡ true) → (marked ≡ true → reached ≡ true) → 400 ≤ c →
    ((cond marked (c - 130) 0 + cond asserted 128 0 ≡ 0) ⊎ (cond marked (c - 130) 0 + cond asserted 128 0 + 1 ≤ cond reached c 0))
share true true true c f g h = inr (omega (arith, h))
share true false true c f g h = inr (omega (arith, h))
share true asserted false c f g h = absurd (false≢true (g refl))
share false true reached c f g h = absurd (false≢true (f refl))
share false false reached c f g h = inl refl

sum_shares : (a r s t k : ℕ) (b q : ℕ) → ((a + r ≡ 0) ⊎ (a + r + 1 ≤ k)) → ((s + t ≡ 0) ⊎ (s + t + 1 ≤ q))
    → ((a + s + (r + t) ≡ 0) ⊎ (a + s + (r + t) + 1 ≤ k + q))
sum_shares a r s t k b q (inl x) (inl y) = inl (omega arith)
sum_shares a r s t k b q (inl x) (inr y) = inr (omega arith)
sum_shares a r s t k b q (inr x) (inl y) = inr (omega arith)
sum_shares a r s t k b q (inr x) (inr y) = inr (omega arith)

within_cost : {terms : List Term} → AreTerms terms → (d : Term) (facts : List TermId) (marks asserted : List Bool)
    → ((id : TermId) → is_marked marks id ≡ true → is_reached terms facts id ≡ true) → ((id : TermId) → is_marked asserted id ≡ true
    → is_marked marks id ≡ true) →
    (n : ℕ) → n ≤ length terms → ((added_to terms marks n + required_to asserted n ≡ 0)
    ⊎ (added_to terms marks n + required_to asserted n + 1 ≤ cost_to n terms facts))
within_cost made d facts marks asserted f g zero h = inl refl
within_cost {terms} made d facts marks asserted f g (suc n) h =
    let id : TermId = record { 0 = n } in
    sum_shares (added_to terms marks n) (required_to asserted n) (cond (is_marked marks id) (entry_cost terms (slice_get terms n) - 130) 0)
    (cond (is_marked asserted id) 128 0) (cost_to n terms facts) 0
    (cond (is_reached terms facts id) (entry_cost terms (slice_get terms n)) 0)
    (within_cost made d facts marks asserted f g n (omega (arith, h)))
    (share (is_marked marks id) (is_marked asserted id) (is_reached terms facts id) (entry_cost terms (slice_get terms n)) (g id) (f id)
    (some_cost made n d (omega (arith, h))))

some_term : (terms : List Term) → (length terms ≡ 0) ⊎ Term
some_term [] = inl refl
some_term (t ∷ terms) = inr t

-- so where too many literals are added, the facts cost too much
pub costs_too_much : {terms : List Term} → AreTerms terms → (facts : List TermId) (marks asserted : List Bool)
    → AreMarks follow.Parts terms facts 0 marks → ((id : TermId) → is_marked asserted id ≡ true → is_marked marks id ≡ true) →
    16777216 < 1 + added_to terms marks (length terms) + required_to asserted (length terms) → 16777216 < cost terms facts
costs_too_much {terms} made facts marks asserted are g h =
    elim (some_term terms) [
      | inl none ↦
          let a : added_to terms marks (length terms) ≡ 0 = ap (added_to terms marks) none in
          let r : required_to asserted (length terms) ≡ 0 = ap (required_to asserted) none in
          let no : ⊥ = omega (arith, a, r, h) in
          absurd no
      | inr d ↦ elim (within_cost made d facts marks asserted (λ id m. reached_mark made facts id (are.sound id m)) g (length terms) (omega arith)) [
        | inl nothing ↦ let no : ⊥ = omega (arith, nothing, h) in absurd no
        | inr less ↦ omega (arith, less, h)
      ]
    ]

-- ---- the same of results

pub refused_result : {X : Type 0} (result : Result X BlastStop) (x : BlastStop) (n : ℕ) → IsErrAnd result (λ y. y ≡ x)
    → (x ≡ stops.Clauses → 16777216 < n) → IfErr result (λ e. e ≡ stops.Clauses → 16777216 < n)
refused_result (Ok y) x n is refused = tt
refused_result (Err e) x n is refused = λ s. refused (sym is ∙ s)
