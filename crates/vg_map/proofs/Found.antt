-- The map that the slots stand for: what it has at a key, and what filling, emptying and moving a slot does to it.
use Rattle.std.proofs.Common.{◌≡◌, ◌≢◌, ◌⊎◌, inl, inr, ℕ, zero, suc, ◌<◌, Bool, true, false, cond, List, [], ◌∷◌, length, set, Option, Some, None}
use Rattle.std.proofs.Common.{refl, sym, ◌∙◌, ap, subst, arith}
use Rattle.std.specs.Ordering.{nat_cmp, eq_by_cmp}
use Rattle.std.specs.Cmp.Lexicographic.{slice_cmp}
use Rattle.std.specs.FinMap.{get, insert, remove, find, same_map, get-insert, get-remove, get-from_entries, slice_cmp-IsAntisymmetric, nat_cmp-IsAntisymmetric}
use Rattle.std.proofs.lemmas.Cmp.{nat_list_cmp_total}
use Rattle.std.proofs.lemmas.List.{get_or-set_other, set_comm, length-set}
use Rattle.std.proofs.lemmas.Map.Text.{is_eq-slice_cmp}
use Rattle.std.proofs.lemmas.Slice.Eq.{bytes_eq-Decides}
use Rattle.std.specs.Bool.{Decides}
use Rattle.vg_map.specs.Slots.{Entry, slot, entries_of, map_of, StandOnce}

-- whether two keys are one
abbrev pub same_key : List ℕ → List ℕ → Bool
same_key q k = eq_by_cmp (slice_cmp nat_cmp) q k

-- what the first full slot with key q has
abbrev pub found : List ℕ → List (Option Entry) → Option ℕ
found q slots = find (slice_cmp nat_cmp) q (entries_of slots)

pub get-map_of : (slots : List (Option Entry)) (q : List ℕ) → get (map_of slots) q ≡ found q slots
get-map_of slots q = get-from_entries nat_list_cmp_total (entries_of slots) q

pub same_key-Decides : (q k : List ℕ) → Decides (same_key q k) (q ≡ k)
same_key-Decides q k = let h = bytes_eq-Decides q k in (λ e. h.0 (sym (is_eq-slice_cmp q k) ∙ e), λ e. is_eq-slice_cmp q k ∙ h.1 e)

same_true : (q k : List ℕ) → q ≡ k → same_key q k ≡ true
same_true q k e = (same_key-Decides q k).1 e

is_false : (b : Bool) → (b ≡ true → ⊥) → b ≡ false
is_false true h = absurd (h refl)
is_false false h = refl

same_false : (q k : List ℕ) → q ≢ k → same_key q k ≡ false
same_false q k ne = is_false _ (λ e. ne ((same_key-Decides q k).0 e))

true_or_false : (b : Bool) → (b ≡ true) ⊎ (b ≡ false)
true_or_false true = inl refl
true_or_false false = inr refl

not_both : (b : Bool) → b ≡ true → b ≡ false → ⊥
not_both b p q = cc

-- one key or two
pub one_or_two : (q k : List ℕ) → (q ≡ k) ⊎ (q ≢ k)
one_or_two q k = elim (true_or_false (same_key q k)) [
  | inl e ↦ inl ((same_key-Decides q k).0 e)
  | inr e ↦ inr (λ p. not_both _ (same_true q k p) e)
]

pub same_entry : (d e : Entry) → Some d ≡ Some e → d ≡ e
same_entry d e p = cc

-- key q stands nowhere
abbrev pub IsAbsent : List ℕ → List (Option Entry) → Type 0
IsAbsent q slots = (i : ℕ) (e : Entry) → slot slots i ≡ Some e → e.0 ≢ q

pub found_none : (q : List ℕ) (slots : List (Option Entry)) → IsAbsent q slots → found q slots ≡ None
found_none q [] h = refl
found_none q (None ∷ s) h = found_none q s (λ i. h (suc i))
found_none q (Some e ∷ s) h =
    ap (λ b. cond b (Some e.1) (found q s)) (same_false q e.0 (λ p. h zero e refl (sym p))) ∙ found_none q s (λ i. h (suc i))

once_tail : (x : Option Entry) (s : List (Option Entry)) → StandOnce (x ∷ s) → StandOnce s
once_tail x s h i j e f a b p = omega (arith, h (suc i) (suc j) e f a b p)

zero_suc : (i : ℕ) → zero ≡ suc i → ⊥
zero_suc i e = absurd (omega arith)

pub found_at : (slots : List (Option Entry)) (i : ℕ) (e : Entry) → StandOnce slots → slot slots i ≡ Some e → found e.0 slots ≡ Some e.1
found_at [] i e once at = cc
found_at (None ∷ s) zero e once at = cc
found_at (None ∷ s) (suc i) e once at = found_at s i e (once_tail _ _ once) at
found_at (Some d ∷ s) zero e once at =
    let p = same_entry d e at in
    ap (λ b. cond b (Some d.1) (found e.0 s)) (same_true e.0 d.0 (ap (λ x. x.0) (sym p))) ∙ ap (λ x. Some x.1) p
found_at (Some d ∷ s) (suc i) e once at =
    ap (λ b. cond b (Some d.1) (found e.0 s)) (same_false e.0 d.0 (λ p. zero_suc i (once zero (suc i) d e refl at (sym p))))
    ∙ found_at s i e (once_tail _ _ once) at

some_none : (v : ℕ) → Some v ≡ None → ⊥
some_none v e = cc

absent_more : (q : List ℕ) (d : Entry) (s : List (Option Entry)) (i : ℕ) (e : Entry) → slot (Some d ∷ s) i ≡ Some e → (q ≡ d.0) ⊎ (q ≢ d.0)
    → found q (Some d ∷ s) ≡ None → (found q s ≡ None → IsAbsent q s) → e.0 ≢ q
absent_more q d s i e at (inl p) h rest = absurd (some_none d.1 (ap (λ b. cond b (Some d.1) (found q s)) (sym (same_true q d.0 p)) ∙ h))
absent_more q d s zero e at (inr n) h rest = λ p. n (sym p ∙ ap (λ x. x.0) (sym (same_entry d e at)))
absent_more q d s (suc i) e at (inr n) h rest = rest (ap (λ b. cond b (Some d.1) (found q s)) (sym (same_false q d.0 n)) ∙ h) i e at

-- a key that isn't found stands nowhere
pub absent : (q : List ℕ) (slots : List (Option Entry)) → found q slots ≡ None → IsAbsent q slots
absent q [] h i e at = cc
absent q (None ∷ s) h zero e at = cc
absent q (None ∷ s) h (suc i) e at = absent q s h i e at
absent q (Some d ∷ s) h i e at = absent_more q d s i e at (one_or_two q d.0) h (absent q s)

-- two tests that can't both hold, in either order
swapped : {A : Type 0} (a b : Bool) (x y z : A) → (a ≡ true → b ≡ true → ⊥) → cond a x (cond b y z) ≡ cond b y (cond a x z)
swapped true true x y z apart = absurd (apart refl refl)
swapped true false x y z apart = refl
swapped false b x y z apart = refl

-- what is found once an empty slot has been filled with a new key
pub found-fill : (q k : List ℕ) (v : ℕ) (slots : List (Option Entry)) (i : ℕ) → slot slots i ≡ None → i < length slots → IsAbsent k slots
    → found q (set slots i (Some (k, v))) ≡ cond (same_key q k) (Some v) (found q slots)
found-fill q k v [] i at h new = absurd (omega arith)
found-fill q k v (None ∷ s) zero at h new = refl
found-fill q k v (Some d ∷ s) zero at h new = cc
found-fill q k v (None ∷ s) (suc i) at h new = found-fill q k v s i at (omega arith) (λ j. new (suc j))
found-fill q k v (Some d ∷ s) (suc i) at h new =
    ap (cond (same_key q d.0) (Some d.1)) (found-fill q k v s i at (omega arith) (λ j. new (suc j)))
    ∙ swapped _ _ _ _ _ (λ a b. new zero d refl (sym ((same_key-Decides q d.0).0 a) ∙ (same_key-Decides q k).0 b))

first_emptied : (q : List ℕ) (e d : Entry) (s : List (Option Entry)) → d ≡ e → StandOnce (Some d ∷ s) → (q ≡ e.0) ⊎ (q ≢ e.0)
    → found q s ≡ cond (same_key q e.0) None (cond (same_key q d.0) (Some d.1) (found q s))
first_emptied q e d s p once (inl same) =
    found_none q s (λ i f at r. zero_suc i (once zero (suc i) d f refl at (ap (λ x. x.0) p ∙ sym same ∙ sym r)))
    ∙ ap (λ b. cond b None (cond (same_key q d.0) (Some d.1) (found q s))) (sym (same_true q e.0 same))
first_emptied q e d s p once (inr other) =
    ap (λ b. cond b (Some d.1) (found q s)) (sym (same_false q d.0 (λ r. other (r ∙ ap (λ x. x.0) p))))
    ∙ ap (λ b. cond b None (cond (same_key q d.0) (Some d.1) (found q s))) (sym (same_false q e.0 other))

-- what is found once a slot has been emptied
pub found-empty : (q : List ℕ) (e : Entry) (slots : List (Option Entry)) (i : ℕ) → slot slots i ≡ Some e → StandOnce slots
    → found q (set slots i None) ≡ cond (same_key q e.0) None (found q slots)
found-empty q e [] i at once = cc
found-empty q e (None ∷ s) zero at once = cc
found-empty q e (Some d ∷ s) zero at once = first_emptied q e d s (same_entry d e at) once (one_or_two q e.0)
found-empty q e (None ∷ s) (suc i) at once = found-empty q e s i at (once_tail _ _ once)
found-empty q e (Some d ∷ s) (suc i) at once =
    ap (cond (same_key q d.0) (Some d.1)) (found-empty q e s i at (once_tail _ _ once))
    ∙ swapped _ _ _ _ _ (λ a b. zero_suc i (once zero (suc i) d e refl at (sym ((same_key-Decides q d.0).0 a) ∙ (same_key-Decides q e.0).0 b)))

-- ---- slots after a write

pub slot-emptied : (slots : List (Option Entry)) (i j : ℕ) (e : Entry) → slot (set slots i None) j ≡ Some e → (j ≢ i) × (slot slots j ≡ Some e)
slot-emptied [] i j e at = cc
slot-emptied (x ∷ s) zero zero e at = cc
slot-emptied (x ∷ s) zero (suc j) e at = (λ p. zero_suc j (sym p), at)
slot-emptied (x ∷ s) (suc i) zero e at = (λ p. zero_suc i p, at)
slot-emptied (x ∷ s) (suc i) (suc j) e at = let r = slot-emptied s i j e at in (λ p. r.0 (omega arith), r.1)

-- the slot that was filled, or another one as it was
pub slot-filled : (slots : List (Option Entry)) (i j : ℕ) (d e : Entry) → slot (set slots i (Some d)) j ≡ Some e → ((j ≡ i) × (d ≡ e))
    ⊎ ((j ≢ i) × (slot slots j ≡ Some e))
slot-filled [] i j d e at = cc
slot-filled (x ∷ s) zero zero d e at = inl (refl, same_entry d e at)
slot-filled (x ∷ s) zero (suc j) d e at = inr (λ p. zero_suc j (sym p), at)
slot-filled (x ∷ s) (suc i) zero d e at = inr (λ p. zero_suc i p, at)
slot-filled (x ∷ s) (suc i) (suc j) d e at = elim (slot-filled s i j d e at) [
  | inl r ↦ inl (ap suc r.0, r.1)
  | inr r ↦ inr (λ p. r.0 (omega arith), r.1)
]

pub once-empty : (slots : List (Option Entry)) (i : ℕ) → StandOnce slots → StandOnce (set slots i None)
once-empty slots i once a b e f at bt p = once a b e f (slot-emptied slots i a e at).1 (slot-emptied slots i b f bt).1 p

pub once-fill : (slots : List (Option Entry)) (i : ℕ) (d : Entry) → StandOnce slots → IsAbsent d.0 slots → StandOnce (set slots i (Some d))
once-fill slots i d once new a b e f at bt p = elim (slot-filled slots i a d e at) [
  | inl r ↦ elim (slot-filled slots i b d f bt) [
    | inl s ↦ r.0 ∙ sym s.0
    | inr s ↦ absurd (new b f s.1 (sym p ∙ ap (λ x. x.0) (sym r.1)))
  ]
  | inr r ↦ elim (slot-filled slots i b d f bt) [
    | inl s ↦ absurd (new a e r.1 (p ∙ ap (λ x. x.0) (sym s.1)))
    | inr s ↦ once a b e f r.1 s.1 p
  ]
]

-- an emptied slot's key stands nowhere
pub absent-empty : (slots : List (Option Entry)) (i : ℕ) (e : Entry) → StandOnce slots → slot slots i ≡ Some e → IsAbsent e.0 (set slots i None)
absent-empty slots i e once at j f bt p = let r = slot-emptied slots i j f bt in r.0 (once j i f e r.1 at p)

-- ---- the map after a write

pub map_of-fill : (k : List ℕ) (v : ℕ) (slots : List (Option Entry)) (i : ℕ) → slot slots i ≡ None → i < length slots → IsAbsent k slots
    → map_of (set slots i (Some (k, v))) ≡ insert (map_of slots) k v
map_of-fill k v slots i at h new = same_map nat_list_cmp_total (slice_cmp-IsAntisymmetric nat_cmp-IsAntisymmetric) _ _ (λ q.
    get-map_of (set slots i (Some (k, v))) q ∙ found-fill q k v slots i at h new ∙ ap (cond (same_key q k) (Some v)) (sym (get-map_of slots q))
    ∙ sym (get-insert nat_list_cmp_total (map_of slots) k v q))

pub map_of-empty : (e : Entry) (slots : List (Option Entry)) (i : ℕ) → slot slots i ≡ Some e → StandOnce slots
    → map_of (set slots i None) ≡ remove (map_of slots) e.0
map_of-empty e slots i at once = same_map nat_list_cmp_total (slice_cmp-IsAntisymmetric nat_cmp-IsAntisymmetric) _ _ (λ q.
    get-map_of (set slots i None) q ∙ found-empty q e slots i at once ∙ ap (cond (same_key q e.0) None) (sym (get-map_of slots q))
    ∙ sym (get-remove nat_list_cmp_total (map_of slots) e.0 q))

-- the slots once what stands in slot `from` has been moved to the empty slot `to`
abbrev pub moved : List (Option Entry) → ℕ → ℕ → List (Option Entry)
moved slots from to = set (set slots to (slot slots from)) from None

pub moved_is : (slots : List (Option Entry)) (from to : ℕ) (e : Entry) → slot slots from ≡ Some e → to ≢ from
    → moved slots from to ≡ set (set slots from None) to (Some e)
moved_is slots from to e at ne = ap (λ x. set (set slots to x) from None) at ∙ set_comm slots to from (Some e) None ne

moved_back : (q : List ℕ) (e : Entry) (slots : List (Option Entry)) (from : ℕ) → slot slots from ≡ Some e → StandOnce slots → (q ≡ e.0) ⊎ (q ≢ e.0)
    → cond (same_key q e.0) (Some e.1) (cond (same_key q e.0) None (found q slots)) ≡ found q slots
moved_back q e slots from at once (inl p) =
    ap (λ b. cond b (Some e.1) (cond b None (found q slots))) (same_true q e.0 p) ∙ sym (found_at slots from e once at) ∙ ap (λ k. found k slots) (sym p)
moved_back q e slots from at once (inr n) = ap (λ b. cond b (Some e.1) (cond b None (found q slots))) (same_false q e.0 n)

pub map_of-moved : (slots : List (Option Entry)) (from to : ℕ) (e : Entry) → slot slots from ≡ Some e → slot slots to ≡ None → to ≢ from
    → to < length slots → StandOnce slots
    → map_of (moved slots from to) ≡ map_of slots
map_of-moved slots from to e at none ne h once = same_map nat_list_cmp_total (slice_cmp-IsAntisymmetric nat_cmp-IsAntisymmetric) _ _ (λ q.
    get-map_of (moved slots from to) q ∙ ap (found q) (moved_is slots from to e at ne)
    ∙ found-fill q e.0 e.1 (set slots from None) to (get_or-set_other slots from to None None ne ∙ none) (omega (arith, length-set slots from None))
    (absent-empty slots from e once at)
    ∙ ap (cond (same_key q e.0) (Some e.1)) (found-empty q e slots from at once)
    ∙ moved_back q e slots from at once (one_or_two q e.0)
    ∙ sym (get-map_of slots q))

pub once-moved : (slots : List (Option Entry)) (from to : ℕ) (e : Entry) → slot slots from ≡ Some e → to ≢ from → StandOnce slots
    → StandOnce (moved slots from to)
once-moved slots from to e at ne once =
    subst StandOnce (sym (moved_is slots from to e at ne)) (once-fill (set slots from None) to e (once-empty slots from once)
    (absent-empty slots from e once at))
