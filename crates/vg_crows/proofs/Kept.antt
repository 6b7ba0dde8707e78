-- What a change of a link leaves of the vectors.
use Rattle.std.proofs.Common.{◌≡◌, ◌≢◌, ◌∙◌, sym, ap, subst, refl, ℕ, zero, suc, ◌-◌, nat_eq, true, false, List, [], ◌∷◌, Option, Some, None, ◌⊎◌, inl, inr}
use Rattle.std.specs.Prelude.{slice_get, slice_set}
use Rattle.std.proofs.lemmas.Bool.Decides.{eqb_tells}
use Rattle.vg_abs.specs.declared.object.Object.{Object}
use Rattle.vg_abs.specs.declared.object.Object.TheVariants.{Map, Chain, Keys, Cells, Prefixes}
use Rattle.vg_abs.specs.Tables.{Link}
use Rattle.vg_abs.specs.State.{State, link_in, vector_in, vector_of}
use Rattle.vg_abs.specs.Effects.{with_link}
use Rattle.vg_abs.specs.Library.{Library, IsMapIn, IsVector, IsVectorIn}

get_same : {A : Type 0} (xs : List A) (m : ℕ) (x y : A) → slice_get xs m ≡ Some x → slice_get (slice_set xs m y) m ≡ Some y
get_same [] m x y e = cc
get_same (z ∷ zs) zero x y e = refl
get_same (z ∷ zs) (suc m) x y e = get_same zs m x y e

get_other : {A : Type 0} (xs : List A) (m k : ℕ) (y : A) → m ≢ k → slice_get (slice_set xs m y) k ≡ slice_get xs k
get_other [] m k y ne = refl
get_other (z ∷ zs) zero zero y ne = absurd (ne refl)
get_other (z ∷ zs) zero (suc k) y ne = refl
get_other (z ∷ zs) (suc m) zero y ne = refl
get_other (z ∷ zs) (suc m) (suc k) y ne = get_other zs m k y (λ e. ne (ap suc e))

-- a link that is another now, with the same cells
pub record Recut (s : State) (m : ℕ) (old new : Link) : Type 0 where
  pub is : slice_get s.objects m ≡ Some (Map old)
  pub cells : new.cells ≡ old.cells
  pub capacity : new.capacity ≡ old.capacity

link_by : (P : Link → Link → Type 0) (s : State) (m k : ℕ) (old new : Link) → Recut s m old new → P new old → ((l : Link) → P l l) →
    ((nat_eq m k ≡ true) × (m ≡ k)) ⊎ ((nat_eq m k ≡ false) × (m ≢ k)) →
    P (link_in (slice_get (slice_set s.objects m (Map new)) k)) (link_in (slice_get s.objects k))
link_by P s m k old new r one all (inl same) =
    subst (λ (j : ℕ). P (link_in (slice_get (slice_set s.objects m (Map new)) j)) (link_in (slice_get s.objects j))) same.1
    (subst (λ (o : Option Object). P (link_in o) (link_in (slice_get s.objects m))) (sym (get_same s.objects m (Map old) (Map new) r.is))
    (subst (λ (o : Option Object). P new (link_in o)) (sym r.is) one))
link_by P s m k old new r one all (inr other) =
    subst (λ (o : Option Object). P (link_in o) (link_in (slice_get s.objects k))) (sym (get_other s.objects m k (Map new) other.1))
    (all (link_in (slice_get s.objects k)))

vector_by : (s t : State) (v : ℕ) (o : Option Object) → (link_in (slice_get t.objects (v - 2))).capacity ≡ (link_in (slice_get s.objects (v - 2))).capacity →
    (link_in (slice_get t.objects (v - 2))).cells ≡ (link_in (slice_get s.objects (v - 2))).cells → vector_in t v o ≡ vector_in s v o
vector_by s t v None e f = refl
vector_by s t v (Some (Map link)) e f = refl
vector_by s t v (Some Chain) e f = refl
vector_by s t v (Some Keys) e f = λ i. record { cell_count = e i; cells = f i }
vector_by s t v (Some (Cells cells)) e f = refl
vector_by s t v (Some (Prefixes prefixes)) e f = refl

kept_by : (s : State) (m v : ℕ) (old new : Link) → Recut s m old new → ((nat_eq m v ≡ true) × (m ≡ v)) ⊎ ((nat_eq m v ≡ false) × (m ≢ v)) →
    vector_of (with_link s m new) v ≡ vector_of s v
kept_by s m v old new r (inl same) =
    subst (λ (j : ℕ). vector_of (with_link s m new) j ≡ vector_of s j) same.1
    (ap (vector_in (with_link s m new) m) (get_same s.objects m (Map old) (Map new) r.is) ∙ sym (ap (vector_in s m) r.is))
kept_by s m v old new r (inr other) =
    ap (vector_in (with_link s m new) v) (get_other s.objects m v (Map new) other.1)
    ∙ vector_by s (with_link s m new) v (slice_get s.objects v)
    (link_by (λ (one two : Link). one.capacity ≡ two.capacity) s m (v - 2) old new r r.capacity (λ l. refl) (eqb_tells m (v - 2)))
    (link_by (λ (one two : Link). one.cells ≡ two.cells) s m (v - 2) old new r r.cells (λ l. refl) (eqb_tells m (v - 2)))

pub vectors_kept : (s : State) (m v : ℕ) (old new : Link) → Recut s m old new → vector_of (with_link s m new) v ≡ vector_of s v
vectors_kept s m v old new r = kept_by s m v old new r (eqb_tells m v)

map_by : (s : State) (m k : ℕ) (old new : Link) → Recut s m old new → ((nat_eq m k ≡ true) × (m ≡ k)) ⊎ ((nat_eq m k ≡ false) × (m ≢ k)) →
    IsMapIn (slice_get s.objects k) → IsMapIn (slice_get (slice_set s.objects m (Map new)) k)
map_by s m k old new r (inl same) is =
    subst (λ (j : ℕ). IsMapIn (slice_get (slice_set s.objects m (Map new)) j)) same.1
    (subst IsMapIn (sym (get_same s.objects m (Map old) (Map new) r.is)) tt)
map_by s m k old new r (inr other) is = subst IsMapIn (sym (get_other s.objects m k (Map new) other.1)) is

in_by : (l t : Library) (v : ℕ) (o : Option Object) → (IsMapIn (slice_get l.state.objects (v - 2)) → IsMapIn (slice_get t.state.objects (v - 2))) →
    IsVectorIn l v o → IsVectorIn t v o
in_by l t v None go is = absurd is
in_by l t v (Some (Map link)) go is = absurd is
in_by l t v (Some Chain) go is = absurd is
in_by l t v (Some Keys) go is = (is.0, go is.1)
in_by l t v (Some (Cells cells)) go is = tt
in_by l t v (Some (Prefixes prefixes)) go is = absurd is

is_by : (l t : Library) (m v : ℕ) (old new : Link) → t.state ≡ with_link l.state m new → Recut l.state m old new →
    ((nat_eq m v ≡ true) × (m ≡ v)) ⊎ ((nat_eq m v ≡ false) × (m ≢ v)) → IsVector l v → IsVector t v
is_by l t m v old new e r (inl same) is =
    let none : IsVectorIn l v (Some (Map old)) = subst (λ (o : Option Object). IsVectorIn l v o)
    (subst (λ (j : ℕ). slice_get l.state.objects j ≡ Some (Map old)) same.1 r.is) is in absurd none
is_by l t m v old new e r (inr other) is =
    let after : slice_get t.state.objects v ≡ slice_get l.state.objects v =
    ap (λ (s : State). slice_get s.objects v) e ∙ get_other l.state.objects m v (Map new) other.1 in
    subst (λ (o : Option Object). IsVectorIn t v o) (sym after)
    (in_by l t v (slice_get l.state.objects v)
    (λ was. subst (λ (s : State). IsMapIn (slice_get s.objects (v - 2))) (sym e) (map_by l.state m (v - 2) old new r (eqb_tells m (v - 2)) was)) is)

pub still_vector : (l t : Library) (m v : ℕ) (old new : Link) → t.state ≡ with_link l.state m new → Recut l.state m old new → IsVector l v → IsVector t v
still_vector l t m v old new e r is = is_by l t m v old new e r (eqb_tells m v) is
