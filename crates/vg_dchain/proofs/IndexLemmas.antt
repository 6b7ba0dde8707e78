-- Lists of indices without doubles: their parts, and what stays when one is put in or taken out.
use Rattle.std.proofs.Common.{inl, inr, ℕ, zero, suc, ◌<◌, ◌≤◌, List, [], ◌∷◌, ◌++◌, length, take, drop, get_or, sym, refl, ap, ◌≡◌, arith}
use Rattle.std.proofs.lemmas.Bool.{cases_eq, eq-eqb, ne_eqb}
use Rattle.vg_dchain.specs.Indices.{Indices, IsAbsent, IsDistinct, AllBelow, without}

abbrev pub told : ℕ → List ℕ → Indices
told bound order = record { bound = bound; order = order }

pub AllBelow-more : (m n : ℕ) (xs : List ℕ) → m ≤ n → AllBelow m xs → AllBelow n xs
AllBelow-more m n [] h b = tt
AllBelow-more m n (x ∷ xs) h b = let first : x < m = b.0 in (omega arith, AllBelow-more m n xs h b.1)

-- the bound itself isn't in the list
pub IsAbsent-bound : (n : ℕ) (xs : List ℕ) → AllBelow n xs → IsAbsent n xs
IsAbsent-bound n [] b = tt
IsAbsent-bound n (x ∷ xs) b = let first : x < n = b.0 in (λ (e : n ≡ x). omega arith, IsAbsent-bound n xs b.1)

pub AllBelow-append : (n : ℕ) (xs ys : List ℕ) → AllBelow n xs → AllBelow n ys → AllBelow n (xs ++ ys)
AllBelow-append n [] ys b c = c
AllBelow-append n (x ∷ xs) ys b c = (b.0, AllBelow-append n xs ys b.1 c)

pub AllBelow-front : (n : ℕ) (xs ys : List ℕ) → AllBelow n (xs ++ ys) → AllBelow n xs
AllBelow-front n [] ys b = tt
AllBelow-front n (x ∷ xs) ys b = (b.0, AllBelow-front n xs ys b.1)

pub AllBelow-rest : (n : ℕ) (xs ys : List ℕ) → AllBelow n (xs ++ ys) → AllBelow n ys
AllBelow-rest n [] ys b = b
AllBelow-rest n (x ∷ xs) ys b = AllBelow-rest n xs ys b.1

pub IsAbsent-append : (i : ℕ) (xs ys : List ℕ) → IsAbsent i xs → IsAbsent i ys → IsAbsent i (xs ++ ys)
IsAbsent-append i [] ys a b = b
IsAbsent-append i (x ∷ xs) ys a b = (a.0, IsAbsent-append i xs ys a.1 b)

pub IsAbsent-front : (i : ℕ) (xs ys : List ℕ) → IsAbsent i (xs ++ ys) → IsAbsent i xs
IsAbsent-front i [] ys a = tt
IsAbsent-front i (x ∷ xs) ys a = (a.0, IsAbsent-front i xs ys a.1)

pub IsAbsent-rest : (i : ℕ) (xs ys : List ℕ) → IsAbsent i (xs ++ ys) → IsAbsent i ys
IsAbsent-rest i [] ys a = a
IsAbsent-rest i (x ∷ xs) ys a = IsAbsent-rest i xs ys a.1

pub IsDistinct-front : (xs ys : List ℕ) → IsDistinct (xs ++ ys) → IsDistinct xs
IsDistinct-front [] ys d = tt
IsDistinct-front (x ∷ xs) ys d = (IsAbsent-front x xs ys d.0, IsDistinct-front xs ys d.1)

pub IsDistinct-rest : (xs ys : List ℕ) → IsDistinct (xs ++ ys) → IsDistinct ys
IsDistinct-rest [] ys d = d
IsDistinct-rest (x ∷ xs) ys d = IsDistinct-rest xs ys d.1

-- what stands later isn't in front
pub IsAbsent-before : (xs : List ℕ) (y : ℕ) (ys : List ℕ) → IsDistinct (xs ++ y ∷ ys) → IsAbsent y xs
IsAbsent-before [] y ys d = tt
IsAbsent-before (x ∷ xs) y ys d =
    let later : IsAbsent x (y ∷ ys) = IsAbsent-rest x xs (y ∷ ys) d.0 in
    (λ (e : y ≡ x). later.0 (sym e), IsAbsent-before xs y ys d.1)

-- what stands once isn't in the rest
pub IsAbsent-around : (xs : List ℕ) (y : ℕ) (ys : List ℕ) → IsDistinct (xs ++ y ∷ ys) → IsAbsent y (xs ++ ys)
IsAbsent-around xs y ys d = IsAbsent-append y xs ys (IsAbsent-before xs y ys d) (IsDistinct-rest xs (y ∷ ys) d).0

IsAbsent-without_one : (i : ℕ) (xs : List ℕ) (y : ℕ) (ys : List ℕ) → IsAbsent i (xs ++ y ∷ ys) → IsAbsent i (xs ++ ys)
IsAbsent-without_one i xs y ys a = IsAbsent-append i xs ys (IsAbsent-front i xs (y ∷ ys) a) (IsAbsent-rest i xs (y ∷ ys) a).1

pub IsDistinct-remove : (xs : List ℕ) (y : ℕ) (ys : List ℕ) → IsDistinct (xs ++ y ∷ ys) → IsDistinct (xs ++ ys)
IsDistinct-remove [] y ys d = d.1
IsDistinct-remove (x ∷ xs) y ys d = (IsAbsent-without_one x xs y ys d.0, IsDistinct-remove xs y ys d.1)

pub IsDistinct-insert : (xs : List ℕ) (y : ℕ) (ys : List ℕ) → IsDistinct (xs ++ ys) → IsAbsent y (xs ++ ys) → IsDistinct (xs ++ y ∷ ys)
IsDistinct-insert [] y ys d a = (a, d)
IsDistinct-insert (x ∷ xs) y ys d a =
    (IsAbsent-append x xs (y ∷ ys) (IsAbsent-front x xs ys d.0) (λ (e : x ≡ y). a.0 (sym e), IsAbsent-rest x xs ys d.0), IsDistinct-insert xs y ys d.1 a.1)

pub AllBelow-remove : (n : ℕ) (xs : List ℕ) (y : ℕ) (ys : List ℕ) → AllBelow n (xs ++ y ∷ ys) → AllBelow n (xs ++ ys)
AllBelow-remove n xs y ys b = AllBelow-append n xs ys (AllBelow-front n xs (y ∷ ys) b) (AllBelow-rest n xs (y ∷ ys) b).1

pub AllBelow-insert : (n : ℕ) (xs : List ℕ) (y : ℕ) (ys : List ℕ) → AllBelow n (xs ++ ys) → y < n → AllBelow n (xs ++ y ∷ ys)
AllBelow-insert n xs y ys b h = AllBelow-append n xs (y ∷ ys) (AllBelow-front n xs ys b) (h, AllBelow-rest n xs ys b)

pub without-absent : (xs : List ℕ) (i : ℕ) → IsAbsent i xs → without xs i ≡ xs
without-absent [] i a = refl
without-absent (x ∷ xs) i a = rw (ne_eqb x i (λ (e : x ≡ i). a.0 (sym e))) (ap (λ (ys : List ℕ). x ∷ ys) (without-absent xs i a.1))

-- without what stands once
pub without-split : (xs : List ℕ) (i : ℕ) (ys : List ℕ) → IsAbsent i (xs ++ ys) → without (xs ++ i ∷ ys) i ≡ xs ++ ys
without-split [] i ys a = rw (eq-eqb i i refl) (without-absent ys i a)
without-split (x ∷ xs) i ys a = rw (ne_eqb x i (λ (e : x ≡ i). a.0 (sym e))) (ap (λ (zs : List ℕ). x ∷ zs) (without-split xs i ys a.1))

-- a list with i at place k, in parts
pub split_at_index : {X : Type 0} (xs : List X) (k : ℕ) (x : X) → k < length xs → get_or xs k x ≡ x → xs ≡ take k xs ++ x ∷ drop (suc k) xs
split_at_index [] k x h e = absurd (omega arith)
split_at_index (y ∷ ys) zero x h e = ap (λ z. z ∷ ys) e
split_at_index (y ∷ ys) (suc k) x h e = ap (λ zs. y ∷ zs) (split_at_index ys k x (omega arith) e)

pub absent_from_rest : (xs : List ℕ) (i : ℕ) → IsAbsent i (without xs i)
absent_from_rest [] i = tt
absent_from_rest (x ∷ xs) i =
    elim (cases_eq x i) [
      | inl y ↦ rw (eq-eqb x i y) (absent_from_rest xs i)
      | inr y ↦ rw (ne_eqb x i y) (λ (e : i ≡ x). y (sym e), absent_from_rest xs i)
    ]
