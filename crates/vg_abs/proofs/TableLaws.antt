-- Ordered entries as finite maps.
use Rattle.std.proofs.Common.{◌≡◌, ℕ, List, [], ◌∷◌, map, Some, None, Bool, true, false, ◌&&◌, T, subst, refl, sym, ◌∙◌, ap, cond}
use Rattle.std.specs.declared.cmp.Ordering.{Ordering}
use Rattle.std.specs.declared.cmp.Ordering.TheVariants.{Less, Equal, Greater}
use Rattle.std.specs.Ordering.{nat_cmp, eq_by_cmp, match_ordering, is_eq, is_lt}
use Rattle.std.specs.Cmp.{IsTotalOrder, nat_cmp_total, eq_by_cmp_equiv}
use Rattle.std.specs.Cmp.Lexicographic.{slice_cmp, nat_list_cmp_total}
use Rattle.std.specs.FinMap.{IsAntisymmetric, get, insert, from_entries, find, put, is_sorted, entries, from_sorted, same_map, entries-from_sorted}
use Rattle.std.specs.FinMap.{remove, get-remove, get-from_sorted, get-from_entries, get-insert, nat_cmp-IsAntisymmetric, slice_cmp-IsAntisymmetric}
use Rattle.std.specs.FinMap.Entries.{find-put, by_order, below_all}
use Rattle.std.specs.Map.{lookup, remove_entry, keys_of}
use Rattle.std.proofs.lemmas.Map.{lookup-remove_entry}
use Rattle.std.proofs.lemmas.Map.Keys.{IsDistinct-from_sorted}
use Rattle.std.specs.List.{AllZip, AllByRecursion, IsDistinct}
use Rattle.std.specs.List.Sorted.{IsStrictlySortedBy}
use Rattle.std.specs.BTreeMap.{is_at, insert_entry}

-- to put an entry into a list is to put it into the map of the list
insert-put : {K X : Type 0} {R : K → K → Ordering} → IsTotalOrder R → IsAntisymmetric R → (es : List (K × X)) (k : K) (v : X)
    → from_entries {R = R} (put R k v es) ≡ insert (from_entries es) k v
insert-put {R = R} total same es k v =
    same_map total same _ _ (λ q. get-from_entries total (put R k v es) q ∙ find-put R total q k v es
    ∙ sym (get-insert total (from_entries es) k v q ∙ ap (cond (eq_by_cmp R q k) (Some v)) (get-from_entries total es q)))

-- entries whose keys are seen by a function
abbrev pub seen : {K L X : Type 0} → (K → L) → K × X → L × X
seen see entry = (see entry.0, entry.1)

put_seen : {K L X : Type 0} (see : K → L) (R : L → L → Ordering) (es : List (K × X)) (k : K) (v : X)
    → map (seen see) (insert_entry (λ x y. R (see x) (see y)) es k v) ≡ put R (see k) v (map (seen see) es)
put_seen see R [] k v = refl
put_seen see R (e ∷ es) k v =
    elim (R (see k) (see e.0)) as (λ (o : Ordering). map (seen see) (match_ordering o ((k, v) ∷ e ∷ es) ((e.0, v) ∷ es)
    (e ∷ insert_entry (λ x y. R (see x) (see y)) es k v))
    ≡ by_order o ((see k, v) ∷ seen see e ∷ map (seen see) es) ((see e.0, v) ∷ map (seen see) es) (seen see e ∷ put R (see k) v (map (seen see) es))) [
      | Less ↦ refl
      | Equal ↦ refl
      | Greater ↦ ap (λ xs. seen see e ∷ xs) (put_seen see R es k v)
    ]

find_seen : {K L X : Type 0} (see : K → L) (R : L → L → Ordering) (q : L) (es : List (K × X))
    → lookup (is_at (λ k. R q (see k))) es ≡ find R q (map (seen see) es)
find_seen see R q [] = refl
find_seen see R q (e ∷ es) = ap (cond (eq_by_cmp R q (see e.0)) (Some e.1)) (find_seen see R q es)

-- numbers
find_number : {X : Type 0} (q : ℕ) (es : List (ℕ × X)) → lookup (is_at (nat_cmp q)) es ≡ find nat_cmp q es
find_number q [] = refl
find_number q (e ∷ es) = ap (cond (eq_by_cmp nat_cmp q e.0) (Some e.1)) (find_number q es)

put_number : {X : Type 0} (es : List (ℕ × X)) (k : ℕ) (v : X) → insert_entry nat_cmp es k v ≡ put nat_cmp k v es
put_number [] k v = refl
put_number (e ∷ es) k v =
    elim (nat_cmp k e.0) as (λ (o : Ordering). match_ordering o ((k, v) ∷ e ∷ es) ((e.0, v) ∷ es) (e ∷ insert_entry nat_cmp es k v)
    ≡ by_order o ((k, v) ∷ e ∷ es) ((e.0, v) ∷ es) (e ∷ put nat_cmp k v es)) [
      | Less ↦ refl
      | Equal ↦ refl
      | Greater ↦ ap (λ xs. e ∷ xs) (put_number es k v)
    ]

pub number-get : {X : Type 0} (es : List (ℕ × X)) (q : ℕ) → lookup (is_at (nat_cmp q)) es ≡ get (from_entries {R = nat_cmp} es) q
number-get es q = find_number q es ∙ sym (get-from_entries nat_cmp_total es q)

pub number-insert : {X : Type 0} (es new : List (ℕ × X)) (k : ℕ) (v : X) → new ≡ insert_entry nat_cmp es k v
    → from_entries {R = nat_cmp} new ≡ insert (from_entries es) k v
number-insert es new k v is = ap (λ xs. from_entries {R = nat_cmp} xs) (is ∙ put_number es k v) ∙ insert-put nat_cmp_total nat_cmp-IsAntisymmetric es k v

-- keys that are seen as bytes
pub key-get : {K X : Type 0} (see : K → List ℕ) (es : List (K × X)) (q : List ℕ) → lookup (is_at (λ k. slice_cmp nat_cmp q (see k))) es ≡ get
    (from_entries {R = slice_cmp nat_cmp} (map (λ e. (see e.0, e.1)) es)) q
key-get see es q = find_seen see (slice_cmp nat_cmp) q es ∙ sym (get-from_entries nat_list_cmp_total (map (seen see) es) q)

pub key-insert : {K X : Type 0} (see : K → List ℕ) (es new : List (K × X)) (k : K) (v : X)
    → new ≡ insert_entry (λ x y. slice_cmp nat_cmp (see x) (see y)) es k v →
    from_entries {R = slice_cmp nat_cmp} (map (λ e. (see e.0, e.1)) new) ≡ insert (from_entries (map (λ e. (see e.0, e.1)) es)) (see k) v
key-insert see es new k v is =
    ap (λ xs. from_entries {R = slice_cmp nat_cmp} (map (seen see) xs)) is ∙ ap (λ xs. from_entries {R = slice_cmp nat_cmp} xs)
    (put_seen see (slice_cmp nat_cmp) es k v)
    ∙ insert-put nat_list_cmp_total (slice_cmp-IsAntisymmetric nat_cmp-IsAntisymmetric) (map (seen see) es) (see k) v

-- entries whose clones are seen as the same are seen as the same
pub copies-seen : {K L X : Type 0} (see : K → L) (C : K → K → Type 0) (D : X → X → Type 0) (es ns : List (K × X))
    → ((x y : K) → C x y → see y ≡ see x) → ((v w : X) → D v w → w ≡ v) →
    AllZip (λ p q. C p.0 q.0 × D p.1 q.1) es ns → map (seen see) ns ≡ map (seen see) es
copies-seen see C D [] [] same_key same_value zip = refl
copies-seen see C D [] (n ∷ ns) same_key same_value zip = absurd zip
copies-seen see C D (e ∷ es) [] same_key same_value zip = absurd zip
copies-seen {L = L} {X = X} see C D (e ∷ es) (n ∷ ns) same_key same_value zip =
    let head : ◌≡◌ {A = L × X} (see n.0, n.1) (see e.0, e.1) = ap (λ (k : L). (k, n.1)) (same_key e.0 n.0 zip.0.0)
    ∙ ap (λ (x : X). (see e.0, x)) (same_value e.1 n.1 zip.0.1) in
    ap (λ (x : L × X). x ∷ map (seen see) ns) head ∙ ap (λ xs. seen see e ∷ xs) (copies-seen see C D es ns same_key same_value zip.1)

-- numbers that are equal place by place
pub zip_same : (xs ys : List ℕ) → AllZip (λ x y. y ≡ x) xs ys → ys ≡ xs
zip_same [] [] zip = refl
zip_same [] (y ∷ ys) zip = absurd zip
zip_same (x ∷ xs) [] zip = absurd zip
zip_same (x ∷ xs) (y ∷ ys) zip = ap (λ (n : ℕ). n ∷ ys) zip.0 ∙ ap (λ ns. x ∷ ns) (zip_same xs ys zip.1)

-- ordered entries are those of their map
both : (a b : Bool) → T a → T b → T (a && b)
both true b x y = y
both false b x y = x

below_seen : {K L X : Type 0} (see : K → L) (R : L → L → Ordering) (x : K) (es : List (K × X))
    → AllByRecursion (λ y. R (see x) (see y) ≡ Less) (map (λ e. e.0) es) → T (below_all R (see x) (map (seen see) es))
below_seen see R x [] all = tt
below_seen see R x (e ∷ es) all = both (is_lt (R (see x) (see e.0))) (below_all R (see x) (map (seen see) es))
    (subst (λ o. T (is_lt o)) (sym all.0) tt) (below_seen see R x es all.1)

sorted_seen : {K L X : Type 0} (see : K → L) (R : L → L → Ordering) (es : List (K × X)) → IsStrictlySortedBy (λ x y. R (see x) (see y))
    (map (λ e. e.0) es) → T (is_sorted R (map (seen see) es))
unfolding IsStrictlySortedBy
sorted_seen see R [] all = tt
sorted_seen see R (e ∷ es) all = both (below_all R (see e.0) (map (seen see) es)) (is_sorted R (map (seen see) es)) (below_seen see R e.0 es all.0)
    (sorted_seen see R es all.1)

entries_of : {K X : Type 0} {R : K → K → Ordering} → IsTotalOrder R → IsAntisymmetric R → (es : List (K × X)) → T (is_sorted R es)
    → entries (from_entries {R = R} es) ≡ es
entries_of {R = R} total same es sorted =
    ap entries (same_map total same (from_entries {R = R} es) (from_sorted {R = R} es) (λ q. get-from_entries total es q
    ∙ sym (get-from_sorted R es q sorted))) ∙ entries-from_sorted R es sorted

seen_same : {X : Type 0} (es : List (ℕ × X)) → map (seen (λ (k : ℕ). k)) es ≡ es
seen_same [] = refl
seen_same (e ∷ es) = ap (λ xs. e ∷ xs) (seen_same es)

pub number-entries : {X : Type 0} (es : List (ℕ × X)) → IsStrictlySortedBy nat_cmp (map (λ e. e.0) es) → es ≡ entries (from_entries {R = nat_cmp} es)
number-entries es sorted = sym (entries_of nat_cmp_total nat_cmp-IsAntisymmetric es (subst (λ (xs : List (ℕ × _)). T (is_sorted nat_cmp xs))
    (seen_same es) (sorted_seen (λ k. k) nat_cmp es sorted)))

pub key-entries : {K X : Type 0} (see : K → List ℕ) (es : List (K × X)) → IsStrictlySortedBy (λ x y. slice_cmp nat_cmp (see x) (see y)) (map (λ e. e.0) es) →
    map (λ e. (see e.0, e.1)) es ≡ entries (from_entries {R = slice_cmp nat_cmp} (map (λ e. (see e.0, e.1)) es))
key-entries see es sorted = sym (entries_of nat_list_cmp_total (slice_cmp-IsAntisymmetric nat_cmp-IsAntisymmetric) (map (seen see) es)
    (sorted_seen see (slice_cmp nat_cmp) es sorted))

equal : (o : Ordering) → is_eq o ≡ true → o ≡ Equal
equal Less e = absurd (cc)
equal Equal e = refl
equal Greater e = absurd (cc)

-- to take out what ties with a key is to remove the key
tied_alike : {K : Type 0} {R : K → K → Ordering} → IsTotalOrder R → (k x : K) → eq_by_cmp R k x ≡ true → (y : K) → eq_by_cmp R k y ≡ eq_by_cmp R x y
tied_alike {R = R} total k x tied y = ap is_eq (total.congr k x y (equal (R k x) tied))

found_as : {K X : Type 0} (R : K → K → Ordering) (q : K) (es : List (K × X)) → find R q es ≡ lookup (eq_by_cmp R q) es
found_as R q [] = refl
found_as R q (e ∷ es) = ap (cond (eq_by_cmp R q e.0) (Some e.1)) (found_as R q es)

remove-put : {K X : Type 0} {R : K → K → Ordering} → IsTotalOrder R → IsAntisymmetric R → (es : List (K × X)) (k : K)
    → IsDistinct (eq_by_cmp R) (keys_of es) → from_entries {R = R} (remove_entry (eq_by_cmp R k) es) ≡ remove (from_entries es) k
remove-put {R = R} total same es k distinct =
    same_map total same _ _ (λ q. get-from_entries total (remove_entry (eq_by_cmp R k) es) q ∙ found_as R q (remove_entry (eq_by_cmp R k) es)
    ∙ lookup-remove_entry (eq_by_cmp_equiv total) (eq_by_cmp R k) (λ x y t. tied_alike total k x t y) q es distinct
    ∙ ap (λ found. cond (eq_by_cmp R k q) None found) (sym (found_as R q es) ∙ sym (get-from_entries total es q))
    ∙ ap (λ b. cond b None (get (from_entries {R = R} es) q)) ((eq_by_cmp_equiv total).symm k q)
    ∙ sym (get-remove total (from_entries es) k q))

above_of : {K L X : Type 0} (see : K → L) (R : L → L → Ordering) (x : K) (es : List (K × X)) → AllByRecursion (λ y. R (see x) (see y) ≡ Less)
    (map (λ e. e.0) es) → AllByRecursion (λ y. R (see x) y ≡ Less) (map (λ e. e.0) (map (seen see) es))
above_of see R x [] all = tt
above_of see R x (e ∷ es) all = (all.0, above_of see R x es all.1)

strictly_seen : {K L X : Type 0} (see : K → L) (R : L → L → Ordering) (es : List (K × X)) → IsStrictlySortedBy (λ x y. R (see x) (see y))
    (map (λ e. e.0) es) → IsStrictlySortedBy R (keys_of (map (seen see) es))
unfolding IsStrictlySortedBy
strictly_seen see R [] all = tt
strictly_seen see R (e ∷ es) all = (above_of see R e.0 es all.0, strictly_seen see R es all.1)

removed_seen : {K L X : Type 0} (see : K → L) (test : L → Bool) (es : List (K × X)) → map (seen see) (remove_entry (λ k. test (see k)) es) ≡ remove_entry test
    (map (seen see) es)
removed_seen see test [] = refl
removed_seen see test (e ∷ es) =
    elim (test (see e.0)) as (λ b. map (seen see) (cond b es (e ∷ remove_entry (λ k. test (see k)) es)) ≡ cond b (map (seen see) es)
    (seen see e ∷ remove_entry test (map (seen see) es))) [
      | true ↦ refl
      | false ↦ ap (λ xs. seen see e ∷ xs) (removed_seen see test es)
    ]

pub number-remove : {X : Type 0} (es new : List (ℕ × X)) (k : ℕ) → IsStrictlySortedBy nat_cmp (map (λ e. e.0) es) → new ≡ remove_entry (is_at (nat_cmp k)) es
    → from_entries {R = nat_cmp} new ≡ remove (from_entries es) k
number-remove es new k sorted is = ap (λ xs. from_entries {R = nat_cmp} xs) is
    ∙ remove-put nat_cmp_total nat_cmp-IsAntisymmetric es k (IsDistinct-from_sorted nat_cmp (keys_of es) sorted)

pub key-remove : {K X : Type 0} (see : K → List ℕ) (es new : List (K × X)) (k : List ℕ)
    → IsStrictlySortedBy (λ x y. slice_cmp nat_cmp (see x) (see y)) (map (λ e. e.0) es) → new ≡ remove_entry (is_at (λ x. slice_cmp nat_cmp k (see x))) es →
    from_entries {R = slice_cmp nat_cmp} (map (λ e. (see e.0, e.1)) new) ≡ remove (from_entries (map (λ e. (see e.0, e.1)) es)) k
key-remove see es new k sorted is =
    ap (λ xs. from_entries {R = slice_cmp nat_cmp} (map (seen see) xs)) is
    ∙ ap (λ xs. from_entries {R = slice_cmp nat_cmp} xs) (removed_seen see (eq_by_cmp (slice_cmp nat_cmp) k) es)
    ∙ remove-put nat_list_cmp_total (slice_cmp-IsAntisymmetric nat_cmp-IsAntisymmetric) (map (seen see) es) k
    (IsDistinct-from_sorted (slice_cmp nat_cmp) (keys_of (map (seen see) es)) (strictly_seen see (slice_cmp nat_cmp) es sorted))
