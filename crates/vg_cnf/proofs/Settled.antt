-- Unit propagation in any order. Literals that are made true settle clauses where nothing is left to propagate; what the recursion answers is
-- compared with them.
use Rattle.std.proofs.Common.{◌≡◌, ℕ, zero, suc, ◌<◌, ◌≤◌, List, [], ◌∷◌, length, Option, Some, None, true, false, refl, sym, ap, subst, ◌∙◌, inl, inr, arith}
use Rattle.std.specs.Prelude.{ℤ, pos, negsuc, neg_ℤ, ◌||◌, All}
use Rattle.std.specs.List.{list_all}
use Rattle.std.specs.Option.{option_map}
use Rattle.std.specs.Ordering.{int_eq}
use Rattle.std.proofs.Math.IntN.{neg_ℤ-neg_ℤ}
use Rattle.std.proofs.lemmas.Bool.{cases_Bool, and_parts, and_cases, or_left, or_right, or_from, true≢false, false≢true}
use Rattle.std.proofs.lemmas.List.Elements.{All-cons, All-head, All-tail}
use Rattle.vg_cnf.specs.Clauses.{holds, without}
use Rattle.vg_cnf.specs.Orders.{IsConsistent, Settled, by_true, by_two, occurs}
use Rattle.vg_cnf.specs.Propagation.{has_empty, first_unit, given, propagated_in}
use Rattle.vg_cnf.proofs.Steps.{clash, or_rest, same_literal, same_test, without-kept, without-dropped, given-kept, given-dropped, first_unit-here}
use Rattle.vg_cnf.proofs.Steps.{first_unit-later, propagated-empty, propagated-done, propagated-out, propagated-unit, cases_Option}

-- ---- literals of a list

apart-sym : (k l : ℤ) → int_eq k l ≡ false → int_eq l k ≡ false
apart-sym k l e =
    elim (cases_Bool (int_eq l k)) [
      | inl t ↦ clash (int_eq k l) (same_test k l (sym (same_literal l k t))) e
      | inr f ↦ f
    ]

pub holds-without : (l k : ℤ) (c : List ℤ) → holds c k ≡ true → int_eq l k ≡ false → holds (without l c) k ≡ true
holds-without l k [] e apart = e
holds-without l k (x ∷ c) e apart =
    elim (cases_Bool (int_eq l x)) [
      | inl gone ↦
          let other : int_eq k x ≡ false = ap (int_eq k) (sym (same_literal l x gone)) ∙ apart-sym l k apart in
          ap (λ xs. holds xs k) (without-dropped l x c gone) ∙ holds-without l k c (or_rest (int_eq k x) (holds c k) e other) apart
      | inr kept ↦
          ap (λ xs. holds xs k) (without-kept l x c kept)
          ∙ elim (cases_Bool (int_eq k x)) [
            | inl here ↦ or_left (int_eq k x) (holds (without l c) k) here
            | inr later ↦
                or_right (int_eq k x) (holds (without l c) k) (holds-without l k c (or_rest (int_eq k x) (holds c k) e later) apart)
          ]
    ]

pub without-gone : (l : ℤ) (c : List ℤ) → holds (without l c) l ≡ false
without-gone l [] = refl
without-gone l (x ∷ c) =
    elim (cases_Bool (int_eq l x)) [
      | inl gone ↦ ap (λ xs. holds xs l) (without-dropped l x c gone) ∙ without-gone l c
      | inr kept ↦ ap (λ xs. holds xs l) (without-kept l x c kept) ∙ or_from (int_eq l x) (holds (without l c) l) kept (without-gone l c)
    ]

pub without-from : (l k : ℤ) (c : List ℤ) → holds (without l c) k ≡ true → holds c k ≡ true
without-from l k [] e = e
without-from l k (x ∷ c) e =
    elim (cases_Bool (int_eq k x)) [
      | inl here ↦ or_left (int_eq k x) (holds c k) here
      | inr later ↦
          or_right (int_eq k x) (holds c k)
          (elim (cases_Bool (int_eq l x)) [
            | inl gone ↦ without-from l k c (sym (ap (λ xs. holds xs k) (without-dropped l x c gone)) ∙ e)
            | inr kept ↦
                without-from l k c
                (or_rest (int_eq k x) (holds (without l c) k) (sym (ap (λ xs. holds xs k) (without-kept l x c kept)) ∙ e) later)
          ])
    ]

same_in : (k x : ℤ) (rest : List ℤ) → list_all (int_eq k) rest ≡ true → holds rest x ≡ true → x ≡ k
same_in k x [] all e = absurd (false≢true e)
same_in k x (y ∷ rest) all e =
    let parts = and_parts (int_eq k y) (list_all (int_eq k) rest) all in
    elim (cases_Bool (int_eq x y)) [
      | inl is_y ↦ same_literal x y is_y ∙ sym (same_literal k y parts.0)
      | inr not_y ↦ same_in k x rest parts.1 (or_rest (int_eq x y) (holds rest x) e not_y)
    ]

-- of a clause with one literal each is that one
unit_is : (k x : ℤ) (rest : List ℤ) → list_all (int_eq k) rest ≡ true → holds (k ∷ rest) x ≡ true → x ≡ k
unit_is k x rest all e =
    elim (cases_Bool (int_eq x k)) [
      | inl is_k ↦ same_literal x k is_k
      | inr not_k ↦ same_in k x rest all (or_rest (int_eq x k) (holds rest x) e not_k)
    ]

-- and another has a second
second : (k : ℤ) (rest : List ℤ) → list_all (int_eq k) rest ≡ false → (l : ℤ) × (holds rest l ≡ true) × (int_eq k l ≡ false)
second k [] e = absurd (true≢false e)
second k (y ∷ rest) e =
    elim (and_cases (int_eq k y) (list_all (int_eq k) rest) e) [
      | inl other ↦ (y, or_left (int_eq y y) (holds rest y) (same_test y y refl), other)
      | inr later ↦ let l = second k rest later in (l.0, or_right (int_eq l.0 y) (holds rest l.0) l.1, l.2)
    ]

-- ---- settled clauses

settled-nonempty : (made : List ℤ) → Settled made [] → ⊥
settled-nonempty made (by_true l here t) = false≢true here
settled-nonempty made (by_two k l here there apart p q) = false≢true here

pub settled-unit : (made : List ℤ) (k : ℤ) (rest : List ℤ) → list_all (int_eq k) rest ≡ true → Settled made (k ∷ rest) → holds made k ≡ true
settled-unit made k rest all (by_true l here t) = ap (holds made) (sym (unit_is k l rest all here)) ∙ t
settled-unit made k rest all (by_two x y here there apart p q) =
    clash (int_eq x y) (same_test x y (unit_is k x rest all here ∙ sym (unit_is k y rest all there))) apart

-- what is struck out of a settled clause is none of the literals that settle it
settled-without : (made c : List ℤ) (l : ℤ) → IsConsistent made → holds made l ≡ true → Settled made c → Settled made (without (neg_ℤ l) c)
settled-without made c l consistent t (by_true k here true_k) =
    by_true k
    (holds-without (neg_ℤ l) k c here
    (elim (cases_Bool (int_eq (neg_ℤ l) k)) [
      | inl is_k ↦ clash (holds made k) true_k (ap (holds made) (sym (same_literal (neg_ℤ l) k is_k)) ∙ consistent l t)
      | inr not_k ↦ not_k
    ]))
    true_k
settled-without made c l consistent t (by_two x y here there apart p q) =
    by_two x y (holds-without (neg_ℤ l) x c here (still_open x p)) (holds-without (neg_ℤ l) y c there (still_open y q)) apart p q
  where
    still_open : (k : ℤ) → holds made (neg_ℤ k) ≡ false → int_eq (neg_ℤ l) k ≡ false
    still_open k not_false =
        elim (cases_Bool (int_eq (neg_ℤ l) k)) [
          | inl is_k ↦
              let back : neg_ℤ k ≡ l = ap neg_ℤ (sym (same_literal (neg_ℤ l) k is_k)) ∙ neg_ℤ-neg_ℤ l in
              clash (holds made l) t (sym (ap (holds made) back) ∙ not_false)
          | inr not_k ↦ not_k
        ]

given-settled : (made : List ℤ) (l : ℤ) (clauses : List (List ℤ)) → IsConsistent made → holds made l ≡ true → All (Settled made) clauses
    → All (Settled made) (given l clauses)
given-settled made l [] consistent t all = all
given-settled made l (c ∷ clauses) consistent t all =
    let rest = given-settled made l clauses consistent t (All-tail (Settled made) c clauses all) in
    elim (cases_Bool (holds c l)) [
      | inl dropped ↦ subst (All (Settled made)) (sym (given-dropped l c clauses dropped)) rest
      | inr kept ↦
          subst (All (Settled made)) (sym (given-kept l c clauses kept))
          (All-cons (Settled made) (without (neg_ℤ l) c) (given l clauses)
          (settled-without made c l consistent t (All-head (Settled made) c clauses all)) rest)
    ]

no_empty : (made : List ℤ) (clauses : List (List ℤ)) → All (Settled made) clauses → has_empty clauses ≡ false
no_empty made [] all = refl
no_empty made ([] ∷ clauses) all = absurd (settled-nonempty made (All-head (Settled made) [] clauses all))
no_empty made ((l ∷ rest) ∷ clauses) all = no_empty made clauses (All-tail (Settled made) (l ∷ rest) clauses all)

unit_made : (made : List ℤ) (clauses : List (List ℤ)) (l : ℤ) → All (Settled made) clauses → first_unit clauses ≡ Some l → holds made l ≡ true
unit_made made [] l all unit = absurd (cc)
unit_made made ([] ∷ clauses) l all unit = absurd (settled-nonempty made (All-head (Settled made) [] clauses all))
unit_made made ((k ∷ rest) ∷ clauses) l all unit =
    elim (cases_Bool (list_all (int_eq k) rest)) [
      | inl one ↦
          let is_k : Some k ≡ Some l = sym (first_unit-here k rest clauses one) ∙ unit in
          let same : k ≡ l = cc is_k in
          ap (holds made) (sym same) ∙ settled-unit made k rest one (All-head (Settled made) (k ∷ rest) clauses all)
      | inr more ↦
          unit_made made clauses l (All-tail (Settled made) (k ∷ rest) clauses all) (sym (first_unit-later k rest clauses more) ∙ unit)
    ]

-- where literals settle all clauses, propagation reaches no empty clause and makes no other literals true
pub settled-propagated : (steps : ℕ) (made : List ℤ) (clauses : List (List ℤ)) → IsConsistent made → All (Settled made) clauses →
    (literals : List ℤ) × (propagated_in steps clauses ≡ Some literals) × ((l : ℤ) → holds literals l ≡ true → holds made l ≡ true)
settled-propagated zero made clauses consistent all =
    ([], propagated-out clauses (no_empty made clauses all), λ l e. absurd (false≢true e))
settled-propagated (suc steps) made clauses consistent all =
    elim (cases_Option (first_unit clauses)) [
      | inl no_unit ↦ ([], propagated-done (suc steps) clauses (no_empty made clauses all) no_unit, λ l e. absurd (false≢true e))
      | inr unit ↦
          let here = unit_made made clauses unit.0 all unit.1 in
          let rest = settled-propagated steps made (given unit.0 clauses) consistent (given-settled made unit.0 clauses consistent here all) in (
            unit.0 ∷ rest.0,
            propagated-unit steps clauses unit.0 (no_empty made clauses all) unit.1 ∙ ap (option_map (λ more. unit.0 ∷ more)) rest.1,
            one_more_made made unit.0 rest.0 here rest.2,
          )
    ]
  where
    one_more_made : (made : List ℤ) (u : ℤ) (ls : List ℤ) → holds made u ≡ true → ((l : ℤ) → holds ls l ≡ true → holds made l ≡ true) →
        (l : ℤ) → holds (u ∷ ls) l ≡ true → holds made l ≡ true
    one_more_made made u ls here rest l e =
        elim (cases_Bool (int_eq l u)) [
          | inl is_u ↦ ap (holds made) (same_literal l u is_u) ∙ here
          | inr not_u ↦ rest l (or_rest (int_eq l u) (holds ls l) e not_u)
        ]

-- ---- and the literals that propagation makes true settle the clauses

occurs-given : (l x : ℤ) (clauses : List (List ℤ)) → occurs (given l clauses) x ≡ true → occurs clauses x ≡ true
occurs-given l x [] e = e
occurs-given l x (c ∷ clauses) e =
    elim (cases_Bool (holds c l)) [
      | inl dropped ↦
          or_right (holds c x) (occurs clauses x) (occurs-given l x clauses (sym (ap (λ cs. occurs cs x) (given-dropped l c clauses dropped)) ∙ e))
      | inr kept ↦
          let here_or : (holds (without (neg_ℤ l) c) x || occurs (given l clauses) x) ≡ true =
          sym (ap (λ cs. occurs cs x) (given-kept l c clauses kept)) ∙ e in
          elim (cases_Bool (holds (without (neg_ℤ l) c) x)) [
            | inl here ↦ or_left (holds c x) (occurs clauses x) (without-from (neg_ℤ l) x c here)
            | inr later ↦
                or_right (holds c x) (occurs clauses x)
                (occurs-given l x clauses (or_rest (holds (without (neg_ℤ l) c) x) (occurs (given l clauses) x) here_or later))
          ]
    ]

-- the negation of the literal made true is struck out
occurs-struck : (l : ℤ) (clauses : List (List ℤ)) → occurs (given l clauses) (neg_ℤ l) ≡ false
occurs-struck l [] = refl
occurs-struck l (c ∷ clauses) =
    elim (cases_Bool (holds c l)) [
      | inl dropped ↦ ap (λ cs. occurs cs (neg_ℤ l)) (given-dropped l c clauses dropped) ∙ occurs-struck l clauses
      | inr kept ↦
          ap (λ cs. occurs cs (neg_ℤ l)) (given-kept l c clauses kept)
          ∙ or_from (holds (without (neg_ℤ l) c) (neg_ℤ l)) (occurs (given l clauses) (neg_ℤ l)) (without-gone (neg_ℤ l) c) (occurs-struck l clauses)
    ]

occurs-unit : (clauses : List (List ℤ)) (l : ℤ) → first_unit clauses ≡ Some l → occurs clauses l ≡ true
occurs-unit [] l unit = absurd (cc)
occurs-unit ([] ∷ clauses) l unit = occurs-unit clauses l unit
occurs-unit ((k ∷ rest) ∷ clauses) l unit =
    elim (cases_Bool (list_all (int_eq k) rest)) [
      | inl one ↦
          let is_k : Some k ≡ Some l = sym (first_unit-here k rest clauses one) ∙ unit in
          let same : k ≡ l = cc is_k in
          or_left (holds (k ∷ rest) l) (occurs clauses l) (or_left (int_eq l k) (holds rest l) (same_test l k (sym same)))
      | inr more ↦
          or_right (holds (k ∷ rest) l) (occurs clauses l) (occurs-unit clauses l (sym (first_unit-later k rest clauses more) ∙ unit))
    ]

length-given : (l : ℤ) (clauses : List (List ℤ)) → length (given l clauses) ≤ length clauses
length-given l [] = omega arith
length-given l (c ∷ clauses) =
    elim (cases_Bool (holds c l)) [
      | inl dropped ↦ omega (arith, ap length (given-dropped l c clauses dropped), length-given l clauses)
      | inr kept ↦ omega (arith, ap length (given-kept l c clauses kept), length-given l clauses)
    ]

-- a unit takes its own clause away
length-unit : (clauses : List (List ℤ)) (l : ℤ) → first_unit clauses ≡ Some l → length (given l clauses) < length clauses
length-unit [] l unit = absurd (cc)
length-unit ([] ∷ clauses) l unit = omega (arith, length-unit clauses l unit, ap length (given-kept l [] clauses refl))
length-unit ((k ∷ rest) ∷ clauses) l unit =
    elim (cases_Bool (list_all (int_eq k) rest)) [
      | inl one ↦
          let is_k : Some k ≡ Some l = sym (first_unit-here k rest clauses one) ∙ unit in
          let same : k ≡ l = cc is_k in
          let gone : holds (k ∷ rest) l ≡ true = or_left (int_eq l k) (holds rest l) (same_test l k (sym same)) in
          omega (arith, ap length (given-dropped l (k ∷ rest) clauses gone), length-given l clauses)
      | inr more ↦
          let later = length-unit clauses l (sym (first_unit-later k rest clauses more) ∙ unit) in
          elim (cases_Bool (holds (k ∷ rest) l)) [
            | inl dropped ↦ omega (arith, ap length (given-dropped l (k ∷ rest) clauses dropped), later)
            | inr kept ↦ omega (arith, ap length (given-kept l (k ∷ rest) clauses kept), later)
          ]
    ]

-- with no empty clause and no unit each clause is settled as it stands
none_left : (clauses : List (List ℤ)) → has_empty clauses ≡ false → first_unit clauses ≡ None → All (Settled []) clauses
none_left [] none no_unit = λ k d below. absurd (omega arith)
none_left ([] ∷ clauses) none no_unit = absurd (true≢false none)
none_left ((k ∷ rest) ∷ clauses) none no_unit =
    elim (cases_Bool (list_all (int_eq k) rest)) [
      | inl one ↦ let no : Some k ≡ None = sym (first_unit-here k rest clauses one) ∙ no_unit in absurd (cc no)
      | inr more ↦
          let l = second k rest more in
          All-cons (Settled []) (k ∷ rest) clauses
          (by_two k l.0 (or_left (int_eq k k) (holds rest k) (same_test k k refl)) (or_right (int_eq l.0 k) (holds rest l.0) l.1) l.2 refl refl)
          (none_left clauses none (sym (first_unit-later k rest clauses more) ∙ no_unit))
    ]

some_above : (l : ℤ) (o : Option (List ℤ)) (ls : List ℤ) → option_map (λ more. l ∷ more) o ≡ Some ls → (rest : List ℤ) × (o ≡ Some rest) × (ls ≡ l ∷ rest)
some_above l None ls e = absurd (cc)
some_above l (Some rest) ls e = (rest, refl, cc)

-- each literal made true stands in a clause
made-occurs : (steps : ℕ) (clauses : List (List ℤ)) (ls : List ℤ) (x : ℤ) → propagated_in steps clauses ≡ Some ls → holds ls x ≡ true → occurs clauses x ≡ true
made-occurs zero clauses ls x e here =
    elim (cases_Bool (has_empty clauses)) [
      | inl empty ↦ let no : None ≡ Some ls = sym (propagated-empty zero clauses empty) ∙ e in absurd (cc no)
      | inr none ↦
          let is : Some ls ≡ Some [] = sym e ∙ propagated-out clauses none in
          let nothing : ls ≡ [] = cc is in
          absurd (true≢false (sym here ∙ ap (λ xs. holds xs x) nothing))
    ]
made-occurs (suc steps) clauses ls x e here =
    elim (cases_Bool (has_empty clauses)) [
      | inl empty ↦ let no : None ≡ Some ls = sym (propagated-empty (suc steps) clauses empty) ∙ e in absurd (cc no)
      | inr none ↦
          elim (cases_Option (first_unit clauses)) [
            | inl no_unit ↦
                let is : Some ls ≡ Some [] = sym e ∙ propagated-done (suc steps) clauses none no_unit in
                let nothing : ls ≡ [] = cc is in
                absurd (true≢false (sym here ∙ ap (λ xs. holds xs x) nothing))
            | inr unit ↦
                let l = unit.0 in
                let rest = some_above l (propagated_in steps (given l clauses)) ls (sym (propagated-unit steps clauses l none unit.1) ∙ e) in
                let here_or : holds (l ∷ rest.0) x ≡ true = sym (ap (λ xs. holds xs x) rest.2) ∙ here in
                elim (cases_Bool (int_eq x l)) [
                  | inl is_l ↦ ap (occurs clauses) (same_literal x l is_l) ∙ occurs-unit clauses l unit.1
                  | inr not_l ↦
                      occurs-given l x clauses
                      (made-occurs steps (given l clauses) rest.0 x rest.1 (or_rest (int_eq x l) (holds rest.0 x) here_or not_l))
                ]
          ]
    ]

not_self : (l : ℤ) → int_eq (pos 0) l ≡ false → int_eq (neg_ℤ l) l ≡ false
not_self (pos zero) not_zero = absurd (true≢false not_zero)
not_self (pos (suc n)) not_zero = refl
not_self (negsuc n) not_zero = refl

negation_back : (x l : ℤ) → int_eq (neg_ℤ x) l ≡ true → x ≡ neg_ℤ l
negation_back x l e = sym (neg_ℤ-neg_ℤ x) ∙ ap neg_ℤ (same_literal (neg_ℤ x) l e)

consistent-more : (l : ℤ) (rest : List ℤ) → int_eq (pos 0) l ≡ false → holds rest (neg_ℤ l) ≡ false → IsConsistent rest → IsConsistent (l ∷ rest)
consistent-more l rest not_zero apart consistent x here =
    elim (cases_Bool (int_eq x l)) [
      | inl is_l ↦
          ap (λ y. holds (l ∷ rest) (neg_ℤ y)) (same_literal x l is_l)
          ∙ or_from (int_eq (neg_ℤ l) l) (holds rest (neg_ℤ l)) (not_self l not_zero) apart
      | inr not_l ↦
          let in_rest : holds rest x ≡ true = or_rest (int_eq x l) (holds rest x) here not_l in
          or_from (int_eq (neg_ℤ x) l) (holds rest (neg_ℤ x))
          (elim (cases_Bool (int_eq (neg_ℤ x) l)) [
            | inl is_l ↦ clash (holds rest (neg_ℤ l)) (sym (ap (holds rest) (negation_back x l is_l)) ∙ in_rest) apart
            | inr other ↦ other
          ])
          (consistent x in_rest)
    ]

settled-with : (l : ℤ) (rest c : List ℤ) → Settled rest (without (neg_ℤ l) c) → Settled (l ∷ rest) c
settled-with l rest c (by_true k here t) = by_true k (without-from (neg_ℤ l) k c here) (or_right (int_eq k l) (holds rest k) t)
settled-with l rest c (by_two x y here there apart p q) =
    by_two x y (without-from (neg_ℤ l) x c here) (without-from (neg_ℤ l) y c there) apart (open_more x here p) (open_more y there q)
  where
    open_more : (x : ℤ) → holds (without (neg_ℤ l) c) x ≡ true → holds rest (neg_ℤ x) ≡ false → holds (l ∷ rest) (neg_ℤ x) ≡ false
    open_more x here p =
        or_from (int_eq (neg_ℤ x) l) (holds rest (neg_ℤ x))
        (elim (cases_Bool (int_eq (neg_ℤ x) l)) [
          | inl is_l ↦
              clash (holds (without (neg_ℤ l) c) x) here (ap (holds (without (neg_ℤ l) c)) (negation_back x l is_l) ∙ without-gone (neg_ℤ l) c)
          | inr other ↦ other
        ])
        p

settled-before : (l : ℤ) (rest : List ℤ) (clauses : List (List ℤ)) → All (Settled rest) (given l clauses) → All (Settled (l ∷ rest)) clauses
settled-before l rest [] all = λ k d below. absurd (omega arith)
settled-before l rest (c ∷ clauses) all =
    elim (cases_Bool (holds c l)) [
      | inl dropped ↦
          All-cons (Settled (l ∷ rest)) c clauses (by_true l dropped (or_left (int_eq l l) (holds rest l) (same_test l l refl)))
          (settled-before l rest clauses (subst (All (Settled rest)) (given-dropped l c clauses dropped) all))
      | inr kept ↦
          let parts = subst (All (Settled rest)) (given-kept l c clauses kept) all in
          All-cons (Settled (l ∷ rest)) c clauses
          (settled-with l rest c (All-head (Settled rest) (without (neg_ℤ l) c) (given l clauses) parts))
          (settled-before l rest clauses (All-tail (Settled rest) (without (neg_ℤ l) c) (given l clauses) parts))
    ]

nothing_made : (clauses : List (List ℤ)) (ls : List ℤ) → ls ≡ [] → All (Settled []) clauses → IsConsistent ls × All (Settled ls) clauses
nothing_made clauses ls e all =
    subst (λ (xs : List ℤ). IsConsistent xs × All (Settled xs) clauses) (sym e) ((λ l here. absurd (false≢true here)), all)

given-no_zero : (l : ℤ) (clauses : List (List ℤ)) → occurs clauses (pos 0) ≡ false → occurs (given l clauses) (pos 0) ≡ false
given-no_zero l clauses no_zero =
    elim (cases_Bool (occurs (given l clauses) (pos 0))) [
      | inl zero_in ↦ clash (occurs clauses (pos 0)) (occurs-given l (pos 0) clauses zero_in) no_zero
      | inr zero_out ↦ zero_out
    ]

unit-nonzero : (clauses : List (List ℤ)) (l : ℤ) → occurs clauses (pos 0) ≡ false → first_unit clauses ≡ Some l → int_eq (pos 0) l ≡ false
unit-nonzero clauses l no_zero unit =
    elim (cases_Bool (int_eq (pos 0) l)) [
      | inl is_zero ↦ clash (occurs clauses (pos 0)) (ap (occurs clauses) (same_literal (pos 0) l is_zero) ∙ occurs-unit clauses l unit) no_zero
      | inr not_zero ↦ not_zero
    ]

negation-unmade : (steps : ℕ) (clauses : List (List ℤ)) (l : ℤ) (ls : List ℤ) → propagated_in steps (given l clauses) ≡ Some ls → holds ls (neg_ℤ l) ≡ false
negation-unmade steps clauses l ls e =
    elim (cases_Bool (holds ls (neg_ℤ l))) [
      | inl made ↦ clash (occurs (given l clauses) (neg_ℤ l)) (made-occurs steps (given l clauses) ls (neg_ℤ l) e made) (occurs-struck l clauses)
      | inr unmade ↦ unmade
    ]

-- what propagation makes true settles the clauses, if 0 stands in none
pub propagated-settles : (steps : ℕ) (clauses : List (List ℤ)) (ls : List ℤ) → length clauses ≤ steps → occurs clauses (pos 0) ≡ false
    → propagated_in steps clauses ≡ Some ls →
    IsConsistent ls × All (Settled ls) clauses
propagated-settles zero [] ls enough no_zero e = let nothing : ls ≡ [] = cc e in nothing_made [] ls nothing (none_left [] refl refl)
propagated-settles zero (c ∷ clauses) ls enough no_zero e = absurd (omega arith)
propagated-settles (suc steps) clauses ls enough no_zero e =
    elim (cases_Bool (has_empty clauses)) [
      | inl empty ↦ let no : None ≡ Some ls = sym (propagated-empty (suc steps) clauses empty) ∙ e in absurd (cc no)
      | inr none ↦
          elim (cases_Option (first_unit clauses)) [
            | inl no_unit ↦
                let is : Some ls ≡ Some [] = sym e ∙ propagated-done (suc steps) clauses none no_unit in
                let nothing : ls ≡ [] = cc is in
                nothing_made clauses ls nothing (none_left clauses none no_unit)
            | inr unit ↦
                let l = unit.0 in
                let rest = some_above l (propagated_in steps (given l clauses)) ls (sym (propagated-unit steps clauses l none unit.1) ∙ e) in
                let before = propagated-settles steps (given l clauses) rest.0 (omega (arith, length-unit clauses l unit.1))
                (given-no_zero l clauses no_zero) rest.1 in
                subst (λ (xs : List ℤ). IsConsistent xs × All (Settled xs) clauses) (sym rest.2) (
                  consistent-more l rest.0 (unit-nonzero clauses l no_zero unit.1) (negation-unmade steps clauses l rest.0 rest.1) before.0,
                  settled-before l rest.0 clauses before.1,
                )
          ]
    ]
