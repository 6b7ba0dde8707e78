-- An empty clause that is reached from a trail is reached from its decisions.
use Rattle.std.proofs.Common.{◌≡◌, ℕ, zero, suc, ◌+◌, ◌<◌, ◌≤◌, List, [], ◌∷◌, ◌++◌, length, take, get_or, true, false, refl, sym, ap, ◌∙◌, inl, inr}
use Rattle.std.proofs.Common.{◌⊎◌, subst, arith, length-append}
use Rattle.std.specs.Prelude.{ℤ, pos, neg_ℤ, Contains, All}
use Rattle.std.specs.Ordering.{int_eq}
use Rattle.std.proofs.Math.ListN.{get_or-append}
use Rattle.std.proofs.lemmas.Bool.{cases_Bool, or_cases, or_left, or_right, or_from, false≢true}
use Rattle.std.proofs.lemmas.List.{take_more, take_all}
use Rattle.std.proofs.lemmas.List.Folds.{list_any-append}
use Rattle.std.proofs.lemmas.List.Elements.{All-head, All-tail}
use Rattle.vg_cnf.specs.Clauses.{holds, IsClauseOver}
use Rattle.vg_cnf.specs.Orders.{IsConsistent, Reaches, conflict, unit, occurs}
use Rattle.vg_cnf.proofs.Steps.{clash, same_literal, same_test}
use Rattle.vg_cnf.proofs.Soundness.{clause-nonzero}
use Rattle.vg_units.specs.Lists.{IsListedFrom}
use Rattle.vg_units.specs.Propagating.{AreFalse, IsForced, AreWithin}
use Rattle.vg_units.specs.Searching.{IsChain}

-- ---- an empty clause that is reached from fewer literals is reached from more

within_cons : (a b : List ℤ) (l : ℤ) → AreWithin a b → AreWithin (l ∷ a) (l ∷ b)
within_cons a b l within k e =
    elim (or_cases (int_eq k l) (holds a k) e) [
      | inl here ↦ or_left (int_eq k l) (holds b k) here
      | inr later ↦ or_right (int_eq k l) (holds b k) (within k later)
    ]

pub Reaches-more : (clauses : List (List ℤ)) (a b : List ℤ) → AreWithin a b → Reaches clauses a → Reaches clauses b
Reaches-more clauses a b within (conflict c at falses) = conflict c at (λ k e. within (neg_ℤ k) (falses k e))
Reaches-more clauses a b within (unit c l at falses rest) =
    unit c l at (λ k e other. within (neg_ℤ k) (falses k e other)) (Reaches-more clauses (l ∷ a) (l ∷ b) (within_cons a b l within) rest)

pub found_before : (cs ds : List (List ℤ)) (c : List ℤ) → Contains cs c → Contains (cs ++ ds) c
found_before cs ds c at = (at.0, omega (arith, at.1, length-append cs ds), get_or-append cs ds c at.0 at.1 ∙ at.2)

-- and from more clauses
pub forced_more : (cs ds : List (List ℤ)) (made : List ℤ) (l : ℤ) → IsForced cs made l → IsForced (cs ++ ds) made l
forced_more cs ds made l forced =
    record { clause = forced.clause; among = found_before cs ds forced.clause forced.among; held = forced.held; others_false = forced.others_false }

pub chain_more : (cs ds : List (List ℤ)) (trail : List ℤ) (starts : List ℕ) → IsChain cs trail starts → IsChain (cs ++ ds) trail starts
chain_more cs ds trail starts chain at inside =
    elim (chain at inside) [
      | inl decided ↦ inl decided
      | inr forced ↦ inr (forced_more cs ds (take at trail) (get_or trail at (pos 0)) forced)
    ]

-- ---- chains

-- the decisions of the trail are among some literals
abbrev pub AreDecided : List ℤ → List ℤ → List ℕ → Type 0
AreDecided made trail starts = (at : ℕ) → IsListedFrom starts 0 at → (at < length trail) × (holds made (get_or trail at (pos 0)) ≡ true)

both_left : (a b : List ℤ) (k : ℤ) → holds a k ≡ true → holds (a ++ b) k ≡ true
both_left a b k e = list_any-append (int_eq k) a b ∙ or_left (holds a k) (holds b k) e

both_right : (a b : List ℤ) (k : ℤ) → holds b k ≡ true → holds (a ++ b) k ≡ true
both_right a b k e = list_any-append (int_eq k) a b ∙ or_right (holds a k) (holds b k) e

both_cases : (a b : List ℤ) (k : ℤ) → holds (a ++ b) k ≡ true → (holds a k ≡ true) ⊎ (holds b k ≡ true)
both_cases a b k e = or_cases (holds a k) (holds b k) (sym (list_any-append (int_eq k) a b) ∙ e)

-- one literal of the trail more or less
next_within : (trail made : List ℤ) (n : ℕ) → n < length trail → (k : ℤ) → holds (take (n + 1) trail ++ made) k ≡ true →
    (holds (take n trail ++ made) k ≡ true) ⊎ (k ≡ get_or trail n (pos 0))
next_within trail made n inside k e =
    let l = get_or trail n (pos 0) in
    elim (both_cases (take (n + 1) trail) made k e) [
      | inr of_made ↦ inl (both_right (take n trail) made k of_made)
      | inl of_trail ↦
          elim (both_cases (take n trail) (l ∷ []) k (sym (ap (λ xs. holds xs k) (take_more trail n (pos 0) inside)) ∙ of_trail)) [
            | inl before ↦ inl (both_left (take n trail) made k before)
            | inr here ↦
                elim (or_cases (int_eq k l) false here) [
                  | inl is_l ↦ inr (same_literal k l is_l)
                  | inr never ↦ absurd (false≢true never)
                ]
          ]
    ]

-- what is reached with the first literals of the trail is reached without them
back_to_made : (cs : List (List ℤ)) (trail : List ℤ) (starts : List ℕ) (made : List ℤ) → IsChain cs trail starts → AreDecided made trail starts
    → (n : ℕ) → n ≤ length trail →
    Reaches cs (take n trail ++ made) → Reaches cs made
back_to_made cs trail starts made chain decided zero inside reaches = reaches
back_to_made cs trail starts made chain decided (suc n) inside reaches =
    let l = get_or trail n (pos 0) in
    let here : n < length trail = omega (arith, inside) in
    let one_more : suc n ≡ n + 1 = omega arith in
    let reaches_more : Reaches cs (take (n + 1) trail ++ made) = subst (λ m. Reaches cs (take m trail ++ made)) one_more reaches in
    back_to_made cs trail starts made chain decided n (omega (arith, inside))
    (elim (chain n here) [
      | inl decision ↦
          Reaches-more cs (take (n + 1) trail ++ made) (take n trail ++ made)
          (λ k e.
          elim (next_within trail made n here k e) [
            | inl before ↦ before
            | inr is_l ↦ ap (holds (take n trail ++ made)) is_l ∙ both_right (take n trail) made l (decided n decision).1
          ])
          reaches_more
      | inr forced ↦
          unit forced.clause l forced.among (λ k held other. both_left (take n trail) made (neg_ℤ k) (forced.others_false k held other))
          (Reaches-more cs (take (n + 1) trail ++ made) (l ∷ (take n trail ++ made))
          (λ k e.
          elim (next_within trail made n here k e) [
            | inl before ↦ or_right (int_eq k l) (holds (take n trail ++ made) k) before
            | inr is_l ↦ or_left (int_eq k l) (holds (take n trail ++ made) k) (same_test k l is_l)
          ])
          reaches_more)
    ])

-- a false clause
pub chain_conflict : (cs : List (List ℤ)) (trail : List ℤ) (starts : List ℕ) (made c : List ℤ) → IsChain cs trail starts
    → AreDecided made trail starts → Contains cs c → AreFalse trail c →
    Reaches cs made
chain_conflict cs trail starts made c chain decided at falses =
    back_to_made cs trail starts made chain decided (length trail) (omega arith)
    (conflict c at
    (λ k held. both_left (take (length trail) trail) made (neg_ℤ k) (subst (λ xs. holds xs (neg_ℤ k) ≡ true)
    (sym (take_all (length trail) trail (omega arith))) (falses k held))))

-- a literal whose negation was assumed
pub chain_clash : (cs : List (List ℤ)) (trail : List ℤ) (starts : List ℕ) (made : List ℤ) (l : ℤ) → IsChain cs trail starts
    → AreDecided made trail starts → IsConsistent made →
    holds trail l ≡ true → holds made (neg_ℤ l) ≡ true → Reaches cs made
chain_clash cs trail starts made l chain decided consistent of_trail assumed =
    let at = place trail l of_trail in
    back_to_made cs trail starts made chain decided at.0 (omega (arith, at.1))
    (elim (chain at.0 at.1) [
      | inl decision ↦ clash (holds made (neg_ℤ l)) assumed (consistent l (ap (holds made) (sym at.2) ∙ (decided at.0 decision).1))
      | inr forced ↦
          conflict forced.clause forced.among
          (λ k held.
          elim (cases_Bool (int_eq k (get_or trail at.0 (pos 0)))) [
            | inl is_l ↦
                both_right (take at.0 trail) made (neg_ℤ k)
                (ap (λ x. holds made (neg_ℤ x)) (same_literal k (get_or trail at.0 (pos 0)) is_l ∙ at.2) ∙ assumed)
            | inr other ↦ both_left (take at.0 trail) made (neg_ℤ k) (forced.others_false k held other)
          ])
    ])
  where
    place : (trail : List ℤ) (l : ℤ) → holds trail l ≡ true → (at : ℕ) × (at < length trail) × (get_or trail at (pos 0) ≡ l)
    place [] l e = absurd (false≢true e)
    place (x ∷ trail) l e =
        elim (or_cases (int_eq l x) (holds trail l) e) [
          | inl here ↦ (zero, omega arith, sym (same_literal l x here))
          | inr later ↦ let at = place trail l later in (suc at.0, omega (arith, at.1), at.2)
        ]

-- ---- clauses don't name 0

pub over-nonzero : (v : ℕ) (cs : List (List ℤ)) → All (IsClauseOver v) cs → occurs cs (pos 0) ≡ false
over-nonzero v [] all = refl
over-nonzero v (c ∷ cs) all =
    or_from (holds c (pos 0)) (occurs cs (pos 0)) (clause-nonzero c (All-head (IsClauseOver v) c cs all).clause)
    (over-nonzero v cs (All-tail (IsClauseOver v) c cs all))
