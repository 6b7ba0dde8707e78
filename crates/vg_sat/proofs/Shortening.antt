-- Clauses made shorter.
use Rattle.std.proofs.Common.{◌≡◌, ℕ, ◌<◌, ◌≤◌, List, [], ◌∷◌, ◌++◌, length, get_or, take, drop, true, false, refl, sym, ap, ◌∙◌, inl, inr, subst}
use Rattle.std.proofs.Common.{arith, append_assoc}
use Rattle.std.specs.Prelude.{ℤ, pos, neg_ℤ, not, All}
use Rattle.std.specs.List.{list_all}
use Rattle.std.specs.Ordering.{int_eq}
use Rattle.std.proofs.lemmas.Bool.{cases_Bool, or_cases, or_left, or_right, and_from, false≢true}
use Rattle.std.proofs.lemmas.List.Folds.{list_any-append}
use Rattle.std.proofs.lemmas.List.Elements.{All-from_get_or}
use Rattle.std.proofs.lemmas.List.{append-nil, take-append-drop}
use Rattle.vg_cnf.specs.Clauses.{holds, without, is_clause, IsOver, IsClauseOver}
use Rattle.vg_cnf.specs.Orders.{Settled}
use Rattle.vg_cnf.specs.Propagation.{follows}
use Rattle.vg_cnf.proofs.Steps.{clash, same_literal, same_test, not_true_back}
use Rattle.vg_cnf.proofs.Settled.{without-from, without-gone, holds-without}
use Rattle.vg_units.specs.Propagating.{AreWithin}
use Rattle.vg_units.specs.Searching.{Search, IsSound, Assumes}
use Rattle.vg_units.proofs.Literals.{held_over}
use Rattle.vg_units.proofs.Visiting.{not_within, held_at}
use Rattle.vg_units.proofs.Assuming.{left_within, right_within, both_within, negations_within, test_at}
use Rattle.vg_sat.specs.Learned.{first_of, LeavesOpen, IsLearnable, IsLearned, IsReduced}
use Rattle.vg_sat.proofs.Opening.{follows_more}

-- ---- clauses and parts of them

-- no literal stands beside its negation
pub apart_clause : (c : List ℤ) → ((k : ℤ) → holds c k ≡ true → holds c (neg_ℤ k) ≡ false) → is_clause c ≡ true
apart_clause c apart = each c (λ k held. held)
  where
    each : (some : List ℤ) → ((k : ℤ) → holds some k ≡ true → holds c k ≡ true) → list_all (λ l. not (holds c (neg_ℤ l))) some ≡ true
    each [] within = refl
    each (x ∷ some) within =
        and_from (not (holds c (neg_ℤ x))) (list_all (λ l. not (holds c (neg_ℤ l))) some)
        (ap not (apart x (within x (or_left (int_eq x x) (holds some x) (same_test x x refl)))))
        (each some (λ k e. within k (or_right (int_eq k x) (holds some k) e)))

pub clause_apart : (c : List ℤ) (k : ℤ) → is_clause c ≡ true → holds c k ≡ true → holds c (neg_ℤ k) ≡ false
clause_apart c k clause held = not_true_back (holds c (neg_ℤ k)) (test_at (λ l. not (holds c (neg_ℤ l))) k c held clause)

held_get : (c : List ℤ) (i : ℕ) → i < length c → holds c (get_or c i (pos 0)) ≡ true
held_get c i inside = held_at c i inside

all_over : (n : ℕ) (c : List ℤ) → ((k : ℤ) → holds c k ≡ true → IsOver n k) → All (IsOver n) c
all_over n c each = All-from_get_or (IsOver n) c (pos 0) (λ i inside. each (get_or c i (pos 0)) (held_get c i inside))

-- a part of a clause is one
pub part_over : (n : ℕ) (part c : List ℤ) → AreWithin part c → IsClauseOver n c → IsClauseOver n part
part_over n part c within over =
    record {
      clause = apart_clause part (λ k held. not_within part c (neg_ℤ k) within (clause_apart c k over.clause (within k held)));
      over = all_over n part (λ k held. held_over n c k over.over (within k held));
    }

pub leaves_fewer : (cs : List (List ℤ)) (part c : List ℤ) → AreWithin part c → LeavesOpen cs c → LeavesOpen cs part
leaves_fewer cs part c within h =
    record { made = h.made; consistent = h.consistent; settled = h.settled; falses = λ k e. h.falses k (negations_within part c within k e) }

-- ---- literals of parts

turned : (some front back : List ℤ) → AreWithin ((some ++ back) ++ front) (some ++ (front ++ back))
turned some front back =
    both_within (some ++ back) front (some ++ (front ++ back))
    (both_within some back (some ++ (front ++ back)) (left_within some (front ++ back)) (λ k e. right_within some (front ++ back) k
    (right_within front back k e)))
    (λ k e. right_within some (front ++ back) k (left_within front back k e))

turned_back : (some front back : List ℤ) → AreWithin (some ++ (front ++ back)) ((some ++ back) ++ front)
turned_back some front back =
    both_within some (front ++ back) ((some ++ back) ++ front) (λ k e. left_within (some ++ back) front k (left_within some back k e))
    (both_within front back ((some ++ back) ++ front) (right_within (some ++ back) front) (λ k e. left_within (some ++ back) front k
    (right_within some back k e)))

swapped : (some back few : List ℤ) → AreWithin ((some ++ back) ++ few) ((some ++ few) ++ back)
swapped some back few k e = ap (λ xs. holds xs k) (append_assoc some few back) ∙ turned some few back k e

fewer : (some few front back : List ℤ) → AreWithin few front → AreWithin ((some ++ few) ++ back) (some ++ (front ++ back))
fewer some few front back within =
    both_within (some ++ few) back (some ++ (front ++ back))
    (both_within some few (some ++ (front ++ back)) (left_within some (front ++ back)) (λ k e. right_within some (front ++ back) k
    (left_within front back k (within k e))))
    (λ k e. right_within some (front ++ back) k (right_within front back k e))

-- without one literal of two lists
other_one : (k l : ℤ) (c : List ℤ) → holds (without k c) l ≡ true → int_eq k l ≡ false
other_one k l c e =
    elim (cases_Bool (int_eq k l)) [
      | inl same_one ↦ clash (holds (without k c) k) (ap (holds (without k c)) (same_literal k l same_one) ∙ e) (without-gone k c)
      | inr other ↦ other
    ]

without_first : (k l : ℤ) (a b : List ℤ) → holds (without k a) l ≡ false → holds (without k (a ++ b)) l ≡ true → holds b l ≡ true
without_first k l a b not_a e =
    elim (or_cases (holds a l) (holds b l) (sym (list_any-append (int_eq l) a b) ∙ without-from k l (a ++ b) e)) [
      | inl of_a ↦ clash (holds (without k a) l) (holds-without k l a of_a (other_one k l (a ++ b) e)) not_a
      | inr of_b ↦ of_b
    ]

holds_without_both : (k l : ℤ) (a b : List ℤ) → holds (without k (a ++ b)) l ≡ true → holds (a ++ without k b) l ≡ true
holds_without_both k l a b e =
    elim (or_cases (holds a l) (holds b l) (sym (list_any-append (int_eq l) a b) ∙ without-from k l (a ++ b) e)) [
      | inl of_a ↦ left_within a (without k b) l of_a
      | inr of_b ↦
          right_within a (without k b) l
          (holds-without k l b of_b (other_one k l (a ++ b) e))
    ]

-- ---- halves

pub parts_joined : (n : ℕ) (list front back : List ℤ) → front ≡ take n list → back ≡ drop n list → list ≡ front ++ back
parts_joined n list front back is_front is_back =
    sym (take-append-drop n list) ∙ ap (λ xs. xs ++ drop n list) (sym is_front) ∙ ap (λ xs. front ++ xs) (sym is_back)

pub few_over : (v : ℕ) (few list : List ℤ) → AreWithin few list → All (IsOver v) list → All (IsOver v) few
few_over v few list within over = all_over v few (λ k held. held_over v list k over (within k held))

-- literals that are assumed alone leave the clauses open
pub assumed_open : (s : Search) (assumed : List ℤ) → IsSound s → All (Settled s.trail) s.clauses → Assumes s assumed → LeavesOpen s.clauses assumed
assumed_open s assumed sound settled h = record { made = s.trail; consistent = sound.consistent; settled = settled; falses = h.falses }

-- one literal, or none, is needed beside what leaves them open
pub one_reduced : (cs : List (List ℤ)) (some list : List ℤ) → length list ≤ 1 → LeavesOpen cs some → follows cs (some ++ list) ≡ true → IsReduced cs some list
one_reduced cs some [] short open_some follows_it = record { follows_it = follows_it; needed = λ k held. absurd (false≢true held) }
one_reduced cs some (x ∷ []) short open_some follows_it =
    record {
      follows_it = follows_it;
      needed =
          λ k held.
          leaves_fewer cs (some ++ without k (x ∷ [])) some
          (both_within some (without k (x ∷ [])) some (λ l e. e)
          (λ l e.
          clash (holds (without k (x ∷ [])) k) (ap (holds (without k (x ∷ []))) (only k x held ∙ sym (only l x (without-from k l (x ∷ []) e))) ∙ e)
          (without-gone k (x ∷ []))))
          open_some;
    }
  where
    only : (k x : ℤ) → holds (x ∷ []) k ≡ true → k ≡ x
    only k x held =
        elim (or_cases (int_eq k x) false held) [
          | inl is_x ↦ same_literal k x is_x
          | inr never ↦ absurd (false≢true never)
        ]
one_reduced cs some (x ∷ y ∷ list) short open_some follows_it = absurd (omega (arith, short))

-- where the others alone make a clause that follows, none is needed
pub none_reduced : (cs : List (List ℤ)) (some : List ℤ) → follows cs some ≡ true → IsReduced cs some []
none_reduced cs some follows_it = record { follows_it = ap (follows cs) (append-nil some) ∙ follows_it; needed = λ k held. absurd (false≢true held) }

-- the one half is judged beside the other, and the other beside what is left of the one
pub front_over : (v : ℕ) (some front back : List ℤ) → IsClauseOver v (some ++ (front ++ back)) → IsClauseOver v ((some ++ back) ++ front)
front_over v some front back over = part_over v ((some ++ back) ++ front) (some ++ (front ++ back)) (turned some front back) over

pub front_follows : (v : ℕ) (cs : List (List ℤ)) (some front back : List ℤ) → All (IsClauseOver v) cs → IsClauseOver v (some ++ (front ++ back))
    → follows cs (some ++ (front ++ back)) ≡ true →
    follows cs ((some ++ back) ++ front) ≡ true
front_follows v cs some front back all over follows_it =
    follows_more v cs (some ++ (front ++ back)) ((some ++ back) ++ front) all (turned_back some front back) (front_over v some front back over) follows_it

pub back_over : (v : ℕ) (some front back few : List ℤ) → AreWithin few front → IsClauseOver v (some ++ (front ++ back)) → IsClauseOver v ((some ++ few) ++ back)
back_over v some front back few within over = part_over v ((some ++ few) ++ back) (some ++ (front ++ back)) (fewer some few front back within) over

pub back_follows : (v : ℕ) (cs : List (List ℤ)) (some front back few : List ℤ) → All (IsClauseOver v) cs → AreWithin few front
    → IsClauseOver v (some ++ (front ++ back)) →
    IsReduced cs (some ++ back) few → follows cs ((some ++ few) ++ back) ≡ true
back_follows v cs some front back few all within over h =
    follows_more v cs ((some ++ back) ++ few) ((some ++ few) ++ back) all (swapped some back few) (back_over v some front back few within over) h.follows_it

pub halves_reduced : (cs : List (List ℤ)) (some back few more : List ℤ) → AreWithin more back → IsReduced cs (some ++ back) few
    → IsReduced cs (some ++ few) more → IsReduced cs some (few ++ more)
halves_reduced cs some back few more within front_half back_half =
    record {
      follows_it = ap (follows cs) (sym (append_assoc some few more)) ∙ back_half.follows_it;
      needed =
          λ k held.
          elim (or_cases (holds few k) (holds more k) (sym (list_any-append (int_eq k) few more) ∙ held)) [
            | inl of_few ↦
                leaves_fewer cs (some ++ without k (few ++ more)) ((some ++ back) ++ without k few) (beside_back k) (front_half.needed k of_few)
            | inr of_more ↦
                leaves_fewer cs (some ++ without k (few ++ more)) ((some ++ few) ++ without k more)
                (λ l e. ap (λ xs. holds xs l) (append_assoc some few (without k more)) ∙ beside_few k l e) (back_half.needed k of_more)
          ];
    }
  where
    beside_few : (k : ℤ) → AreWithin (some ++ without k (few ++ more)) (some ++ (few ++ without k more))
    beside_few k =
        both_within some (without k (few ++ more)) (some ++ (few ++ without k more)) (left_within some (few ++ without k more))
        (λ l e. right_within some (few ++ without k more) l (holds_without_both k l few more e))

    beside_back : (k : ℤ) → AreWithin (some ++ without k (few ++ more)) ((some ++ back) ++ without k few)
    beside_back k =
        both_within some (without k (few ++ more)) ((some ++ back) ++ without k few) (λ l e. left_within (some ++ back) (without k few) l
        (left_within some back l e))
        (λ l e.
        elim (cases_Bool (holds (without k few) l)) [
          | inl of_few ↦ right_within (some ++ back) (without k few) l of_few
          | inr not_few ↦
              left_within (some ++ back) (without k few) l (right_within some back l (within l (without_first k l few more not_few e)))
        ])

-- the first literal of the clause stays
pub first_kept : (v : ℕ) (cs : List (List ℤ)) (clause front others few kept : List ℤ) → clause ≡ front ++ others → length front ≡ 1 → kept ≡ front
    ++ few → AreWithin few others →
    IsLearnable v cs clause → IsReduced cs front few → IsLearned v cs kept
first_kept v cs clause [] others few kept parts one is within learnable h = absurd (omega (arith, one))
first_kept v cs clause (x ∷ y ∷ front) others few kept parts one is within learnable h = absurd (omega (arith, one))
first_kept v cs clause (x ∷ []) others few kept parts one is within learnable h =
    subst (IsLearned v cs) (sym is)
    (record {
      learnable =
          record {
            over = part_over v (x ∷ few) clause (λ k e. ap (λ xs. holds xs k) parts ∙ first_within k e) learnable.over;
            some = omega arith;
            follows_it = h.follows_it;
            first =
                record {
                  made = learnable.first.made;
                  consistent = learnable.first.consistent;
                  settled = learnable.first.settled;
                  others =
                      λ k held other.
                      learnable.first.others k (ap (λ xs. holds xs k) parts ∙ first_within k held)
                      (subst (λ f. int_eq k f ≡ false) (sym (ap first_of parts)) other);
                  unmade = ap (holds learnable.first.made) (sym (ap first_of parts)) ∙ learnable.first.unmade;
                };
          };
      needed =
          λ k held other.
          elim (or_cases (int_eq k x) (holds few k) held) [
            | inl is_first ↦ clash (int_eq k x) is_first other
            | inr of_few ↦ leaves_fewer cs (without k (x ∷ few)) (x ∷ without k few) (λ l e. holds_without_both k l (x ∷ []) few e) (h.needed k of_few)
          ];
    })
  where
    first_within : AreWithin (x ∷ few) (x ∷ others)
    first_within k e = both_within (x ∷ []) few (x ∷ others) (left_within (x ∷ []) others) (λ l f. right_within (x ∷ []) others l (within l f)) k e
