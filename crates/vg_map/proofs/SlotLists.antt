-- The slots as a list: what stands at a place, and what a write changes.
use Rattle.std.proofs.Common.{◌≡◌, false, ℕ, zero, suc, ◌+◌, ◌*◌, ◌≤◌, ◌<◌, List, [], ◌∷◌, ◌++◌, length, take, drop, set, get_or, Option, Some, None}
use Rattle.std.proofs.Common.{IsSome, option_map, refl, sym, ◌∙◌, ap, arith, add-one}
use Rattle.std.proofs.Math.Nat.{suc-mul, zero-mul, mul-le-mul_right}
use Rattle.std.proofs.lemmas.List.{drop-drop, length-take, length-drop, take_at, drop_at, take-append-le, take-take, drop-append-le, drop-take}
use Rattle.std.proofs.lemmas.List.{append_assoc, take-append-drop, get_or-set_other}
use Rattle.std.specs.Option.{is_some}
use Rattle.vg_map.specs.Slots.{Entry, slots_of, slot, full_slots}

pub length-slots_of : (n : ℕ) (keys : List ℕ) (indices : List (Option ℕ)) → length (slots_of n keys indices) ≡ length indices
length-slots_of n keys [] = refl
length-slots_of n keys (x ∷ xs) = ap suc (length-slots_of n (drop n keys) xs)

next_piece : (n i : ℕ) → n + i * n ≡ suc i * n
next_piece n i = omega (arith, suc-mul i n)

-- what stands in slot i
pub slot-slots_of : (n : ℕ) (keys : List ℕ) (indices : List (Option ℕ)) (i : ℕ) → slot (slots_of n keys indices) i ≡ option_map
    (λ v. (take n (drop (i * n) keys), v)) (get_or indices i None)
slot-slots_of n keys [] i = refl
slot-slots_of n keys (x ∷ xs) zero = ap (λ k. option_map (λ v. (take n (drop k keys), v)) x) (sym (zero-mul n))
slot-slots_of n keys (x ∷ xs) (suc i) =
    slot-slots_of n (drop n keys) xs i
    ∙ ap (λ (k : List ℕ). option_map (λ v. (take n k, v)) (get_or xs i None)) (drop-drop (i * n) n keys ∙ ap (λ k. drop k keys) (next_piece n i))

-- a slot is emptied
pub slots_of-empty : (n : ℕ) (keys : List ℕ) (indices : List (Option ℕ)) (i : ℕ) → slots_of n keys (set indices i None) ≡ set (slots_of n keys indices) i None
slots_of-empty n keys [] i = refl
slots_of-empty n keys (x ∷ xs) zero = refl
slots_of-empty n keys (x ∷ xs) (suc i) = ap (λ s. option_map (λ v. (take n keys, v)) x ∷ s) (slots_of-empty n (drop n keys) xs i)

take_front : (n m : ℕ) (keys rest : List ℕ) → n ≤ m → m ≤ length keys → take n (take m keys ++ rest) ≡ take n keys
take_front n m keys rest a b = take-append-le n (take m keys) rest (omega (arith, length-take m keys)) ∙ take-take n m keys a

drop_front : (n m : ℕ) (keys rest : List ℕ) → n + m ≤ length keys → drop n (take (n + m) keys ++ rest) ≡ take m (drop n keys) ++ rest
drop_front n m keys rest a = drop-append-le n (take (n + m) keys) rest (omega (arith, length-take (n + m) keys)) ∙ ap (λ k. k ++ rest) (drop-take n m keys)

-- the block of keys with a key written at slot i
abbrev pub written : ℕ → List ℕ → List ℕ → ℕ → List ℕ
written n keys key i = take (i * n) keys ++ (key ++ drop (suc i * n) keys)

take-written : (n : ℕ) (keys key : List ℕ) (i : ℕ) → n + i * n ≤ length keys → take n (written n keys key (suc i)) ≡ take n keys
take-written n keys key i h = take_front n (suc i * n) keys _ (omega (arith, suc-mul i n)) (omega (arith, suc-mul i n))

drop-written : (n : ℕ) (keys key : List ℕ) (i : ℕ) → n + i * n ≤ length keys → drop n (written n keys key (suc i)) ≡ written n (drop n keys) key i
drop-written n keys key i h =
    ap (λ k. drop n (take k keys ++ (key ++ drop (suc (suc i) * n) keys))) (sym (next_piece n i))
    ∙ drop_front n (i * n) keys _ h
    ∙ ap (λ k. take (i * n) (drop n keys) ++ (key ++ k)) (ap (λ k. drop k keys) (sym (next_piece n (suc i))) ∙ sym (drop-drop (suc i * n) n keys))

written_first : (n : ℕ) (keys key : List ℕ) → written n keys key zero ≡ key ++ drop n keys
written_first n keys key = ap (λ k. take k keys ++ (key ++ drop (suc zero * n) keys)) (zero-mul n)
    ∙ ap (λ k. key ++ drop k keys) (omega (arith, suc-mul zero n, zero-mul n))

pub pieces_within : (n i m k : ℕ) → k ≡ n + m * n → i < m → n + i * n ≤ k
pieces_within n i m k e h = let more : i * n ≤ m * n = mul-le-mul_right n (omega arith) in omega arith

-- a slot is filled
pub slots_of-fill : (n : ℕ) (keys key : List ℕ) (indices : List (Option ℕ)) (i v : ℕ) → length key ≡ n → length keys ≡ length indices * n → i < length indices
    → slots_of n (written n keys key i) (set indices i (Some v)) ≡ set (slots_of n keys indices) i (Some (key, v))
slots_of-fill n keys key [] i v a b h = absurd (omega arith)
slots_of-fill n keys key (x ∷ xs) zero v a b h =
    ap (λ k. slots_of n k (Some v ∷ xs)) (written_first n keys key)
    ∙ ap (λ k. Some (k, v) ∷ slots_of n (drop n (key ++ drop n keys)) xs) (take_at key (drop n keys) n a)
    ∙ ap (λ k. Some (key, v) ∷ slots_of n k xs) (drop_at key (drop n keys) n a)
slots_of-fill n keys key (x ∷ xs) (suc i) v a b h =
    let more : length keys ≡ n + length xs * n = omega (arith, suc-mul (length xs) n) in
    let within : n + i * n ≤ length keys = pieces_within n i (length xs) (length keys) more (omega arith) in
    ap (λ k. option_map (λ w. (k, w)) x ∷ slots_of n (drop n (written n keys key (suc i))) (set xs i (Some v))) (take-written n keys key i within)
    ∙ ap (λ k. option_map (λ w. (take n keys, w)) x ∷ slots_of n k (set xs i (Some v))) (drop-written n keys key i within)
    ∙ ap (λ s. option_map (λ w. (take n keys, w)) x ∷ s) (slots_of-fill n (drop n keys) key xs i v a (omega (arith, length-drop n keys)) (omega arith))

-- ---- how many are full

pub full_slots-fill : (indices : List (Option ℕ)) (i v : ℕ) → get_or indices i None ≡ None → i < length indices
    → full_slots (set indices i (Some v)) ≡ suc (full_slots indices)
full_slots-fill [] i v e h = absurd (omega arith)
full_slots-fill (None ∷ xs) zero v e h = refl
full_slots-fill (Some w ∷ xs) zero v e h = cc
full_slots-fill (None ∷ xs) (suc i) v e h = full_slots-fill xs i v e (omega arith)
full_slots-fill (Some w ∷ xs) (suc i) v e h = ap suc (full_slots-fill xs i v e (omega arith))

pub full_slots-empty : (indices : List (Option ℕ)) (i : ℕ) → IsSome (get_or indices i None) → suc (full_slots (set indices i None)) ≡ full_slots indices
full_slots-empty [] i e = cc
full_slots-empty (None ∷ xs) zero e = cc
full_slots-empty (Some w ∷ xs) zero e = refl
full_slots-empty (None ∷ xs) (suc i) e = full_slots-empty xs i e
full_slots-empty (Some w ∷ xs) (suc i) e = ap suc (full_slots-empty xs i e)

pub full_slots-drop : (n : ℕ) (indices : List (Option ℕ)) → full_slots (drop n indices) ≤ full_slots indices
full_slots-drop zero xs = omega arith
full_slots-drop (suc n) [] = omega arith
full_slots-drop (suc n) (None ∷ xs) = full_slots-drop n xs
full_slots-drop (suc n) (Some w ∷ xs) = omega (arith, full_slots-drop n xs)

-- past a full slot there is one less
pub full_slots-past : (indices : List (Option ℕ)) (i : ℕ) → IsSome (get_or indices i None)
    → full_slots (drop i indices) ≡ suc (full_slots (drop (suc i) indices))
full_slots-past [] i e = cc
full_slots-past (None ∷ xs) zero e = cc
full_slots-past (Some w ∷ xs) zero e = refl
full_slots-past (None ∷ xs) (suc i) e = full_slots-past xs i e
full_slots-past (Some w ∷ xs) (suc i) e = full_slots-past xs i e

-- ---- what stands in one slot is moved to another

pub some_of : (o : Option ℕ) → IsSome o → (v : ℕ) × (o ≡ Some v)
some_of None h = cc
some_of (Some v) h = (v, refl)

pub none_of : (o : Option ℕ) → is_some o ≡ false → o ≡ None
none_of None h = refl
none_of (Some v) h = cc

-- a key of the block
pub length-piece : (n : ℕ) (keys : List ℕ) (i m : ℕ) → length keys ≡ m * n → i < m → length (take n (drop (i * n) keys)) ≡ n
length-piece n keys zero (suc m) a h = omega (arith, length-take n (drop (zero * n) keys), length-drop (zero * n) keys, zero-mul n, suc-mul m n)
length-piece n keys i m a h =
    let more : suc i * n ≤ m * n = mul-le-mul_right n (omega arith) in
    omega (arith, length-take n (drop (i * n) keys), length-drop (i * n) keys, suc-mul i n)

pub slot_full : (n : ℕ) (keys : List ℕ) (indices : List (Option ℕ)) (i v : ℕ) → get_or indices i None ≡ Some v
    → slot (slots_of n keys indices) i ≡ Some (take n (drop (i * n) keys), v)
slot_full n keys indices i v e = slot-slots_of n keys indices i ∙ ap (option_map (λ w. (take n (drop (i * n) keys), w))) e

pub slot_empty : (n : ℕ) (keys : List ℕ) (indices : List (Option ℕ)) (i : ℕ) → get_or indices i None ≡ None → slot (slots_of n keys indices) i ≡ None
slot_empty n keys indices i e = slot-slots_of n keys indices i ∙ ap (option_map (λ w. (take n (drop (i * n) keys), w))) e

no_entry : (k : List ℕ) (o : Option ℕ) → option_map {U = Entry} (λ w. (k, w)) o ≡ None → o ≡ None
no_entry k None e = refl
no_entry k (Some v) e = cc

pub index_empty : (n : ℕ) (keys : List ℕ) (indices : List (Option ℕ)) (i : ℕ) → slot (slots_of n keys indices) i ≡ None → get_or indices i None ≡ None
index_empty n keys indices i e = no_entry (take n (drop (i * n) keys)) (get_or indices i None) (sym (slot-slots_of n keys indices i) ∙ e)

pub pieces_within_all : (n i m k : ℕ) → k ≡ m * n → i < m → n + i * n ≤ k
pieces_within_all n i m k e h = let more : suc i * n ≤ m * n = mul-le-mul_right n (omega arith) in omega (arith, suc-mul i n)

pub slots_of-shift : (n : ℕ) (keys : List ℕ) (indices : List (Option ℕ)) (from to v : ℕ) → length keys ≡ length indices * n → to < from
    → from < length indices → get_or indices from None ≡ Some v
    → slots_of n (written n keys (take n (drop (from * n) keys)) to) (set (set indices to (get_or indices from None)) from None)
    ≡ set (set (slots_of n keys indices) to (slot (slots_of n keys indices) from)) from None
slots_of-shift n keys indices from to v bytes order within is =
    slots_of-empty n (written n keys (take n (drop (from * n) keys)) to) (set indices to (get_or indices from None)) from
    ∙ ap (λ o. set (slots_of n (written n keys (take n (drop (from * n) keys)) to) (set indices to o)) from None) is
    ∙ ap (λ s. set s from None) (slots_of-fill n keys (take n (drop (from * n) keys)) indices to v
    (length-piece n keys from (length indices) bytes within) bytes (omega arith))
    ∙ ap (λ x. set (set (slots_of n keys indices) to x) from None) (sym (slot_full n keys indices from v is))

-- a key written into the front part of the block, and the rest after it
pub rejoined : (n : ℕ) (keys key : List ℕ) (from to : ℕ) → to < from → from * n ≤ length keys
    → ((take (to * n) (take (from * n) keys) ++ key) ++ drop (suc to * n) (take (from * n) keys)) ++ drop (from * n) keys ≡ written n keys key to
rejoined n keys key from to order within =
    let below : suc to * n ≤ from * n = mul-le-mul_right n (omega arith) in
    append_assoc (take (to * n) (take (from * n) keys) ++ key) _ _
    ∙ append_assoc (take (to * n) (take (from * n) keys)) key _
    ∙ ap (λ s. s ++ (key ++ (drop (suc to * n) (take (from * n) keys) ++ drop (from * n) keys)))
    (take-take (to * n) (from * n) keys (omega (arith, suc-mul to n)))
    ∙ ap (λ s. take (to * n) keys ++ (key ++ s))
    (sym (drop-append-le (suc to * n) (take (from * n) keys) (drop (from * n) keys) (omega (arith, length-take (from * n) keys)))
    ∙ ap (drop (suc to * n)) (take-append-drop (from * n) keys))

pub full_slots-shift : (indices : List (Option ℕ)) (from to v : ℕ) → to < from → from < length indices → get_or indices from None ≡ Some v
    → get_or indices to None ≡ None
    → full_slots (set (set indices to (get_or indices from None)) from None) ≡ full_slots indices
full_slots-shift indices from to v order within is none =
    let filled : full_slots (set indices to (Some v)) ≡ suc (full_slots indices) = full_slots-fill indices to v none (omega arith) in
    let there : IsSome (get_or (set indices to (Some v)) from None) =
    ap is_some (get_or-set_other indices to from (Some v) None (λ p. absurd (omega arith)) ∙ is) in
    let emptied : suc (full_slots (set (set indices to (Some v)) from None)) ≡ full_slots (set indices to (Some v)) =
    full_slots-empty (set indices to (Some v)) from there in
    ap (λ o. full_slots (set (set indices to o) from None)) is ∙ omega arith

-- the block after the write into its front part
pub shifted_keys : (n : ℕ) (keys front back new : List ℕ) (from to m : ℕ) → length keys ≡ m * n → to < from → from < m → front ≡ take (from * n) keys
    → back ≡ drop (from * n) keys
    → new ≡ (take (to * length (take n back)) front ++ take n back) ++ drop ((to + 1) * length (take n back)) front
    → new ++ back ≡ written n keys (take n (drop (from * n) keys)) to
shifted_keys n keys front back new from to m bytes order within front_is back_is new_is =
    let whole : length (take n back) ≡ n = ap (λ b. length (take n b)) back_is ∙ length-piece n keys from m bytes within in
    ap (λ k. k ++ back) new_is
    ∙ ap (λ k. ((take (to * k) front ++ take n back) ++ drop ((to + 1) * k) front) ++ back) whole
    ∙ ap (λ b. ((take (to * n) front ++ take n b) ++ drop ((to + 1) * n) front) ++ b) back_is
    ∙ ap (λ f. ((take (to * n) f ++ take n (drop (from * n) keys)) ++ drop ((to + 1) * n) f) ++ drop (from * n) keys) front_is
    ∙ ap (λ k. ((take (to * n) (take (from * n) keys) ++ take n (drop (from * n) keys)) ++ drop (k * n) (take (from * n) keys))
    ++ drop (from * n) keys) (add-one to)
    ∙ rejoined n keys (take n (drop (from * n) keys)) from to order (omega (arith, pieces_within_all n from m (length keys) bytes within))
