-- Bytes are stored into the object that holds a vector's cells.
use Rattle.std.proofs.Common.{◌≡◌, ◌-◌, ◌<◌, ℕ, zero, suc, List, [], ◌∷◌, length, slice_set, get_or, Option, Some, None, refl, sym, ◌∙◌, ap, subst, arith}
use Rattle.std.specs.Prelude.{slice_get, unwrap_or}
use Rattle.vg_abs.specs.declared.object.Object.{Object}
use Rattle.vg_abs.specs.declared.object.Object.TheVariants.{Map, Chain, Keys, Cells, Prefixes}
use Rattle.vg_abs.specs.State.{State, link_in, vector_in, vector_of, link_of_map}
use Rattle.vg_abs.specs.Effects.{with_bytes, with_bytes_in, with_link, with_cell}
use Rattle.vg_smean.specs.Places.{stored_in, holder_of}

-- an object that is there is within
pub within : (objects : List Object) (i : ℕ) (object : Object) → slice_get objects i ≡ Some object → i < length objects
within [] i object is = absurd (cc)
within (x ∷ xs) zero object is = omega arith
within (x ∷ xs) (suc i) object is = let less = within xs i object is in omega arith

mapped : (objects : List Object) (i : ℕ) (found : Option Object) → slice_get objects i ≡ found → 0 < (link_in found).capacity → i < length objects
mapped objects i None is some = absurd (omega arith)
mapped objects i (Some object) is some = within objects i object is

inside_by : (s : State) (vector : ℕ) (found : Option Object) → slice_get s.objects vector ≡ found → 0 < (vector_in s vector found).cell_count
    → holder_of vector found < length s.objects
inside_by s vector None is some = absurd (omega arith)
inside_by s vector (Some (Map link)) is some = within s.objects vector (Map link) is
inside_by s vector (Some Chain) is some = within s.objects vector Chain is
inside_by s vector (Some Keys) is some = mapped s.objects (vector - 2) (slice_get s.objects (vector - 2)) refl some
inside_by s vector (Some (Cells cells)) is some = within s.objects vector (Cells cells) is
inside_by s vector (Some (Prefixes prefixes)) is some = within s.objects vector (Prefixes prefixes) is

pub holder_inside : (s : State) (vector holder : ℕ) → 0 < (vector_of s vector).cell_count → holder ≡ holder_of vector (slice_get s.objects vector)
    → holder < length s.objects
holder_inside s vector holder some is = subst (λ n. n < length s.objects) (sym is) (inside_by s vector (slice_get s.objects vector) refl some)

pub map_holder : (s : State) (vector : ℕ) → slice_get s.objects vector ≡ Some Keys → vector - 2 ≡ holder_of vector (slice_get s.objects vector)
map_holder s vector is = sym (ap (holder_of vector) is)

pub own_holder : (s : State) (vector : ℕ) → slice_get s.objects vector ≡ None → vector ≡ holder_of vector (slice_get s.objects vector)
own_holder s vector is = sym (ap (holder_of vector) is)

-- what is stored
at : (objects : List Object) (i : ℕ) (d : Object) → i < length objects → slice_get objects i ≡ Some (get_or objects i d)
at [] i d less = absurd (omega arith)
at (x ∷ xs) zero d less = refl
at (x ∷ xs) (suc i) d less = at xs i d (omega arith)

no_less : (n : ℕ) → n < 0 → ⊥
no_less n less = omega arith

of_link : (s : State) (map index : ℕ) (bytes : List ℕ) (object : Object) → slice_get s.objects map ≡ Some object → 0 < (link_of_map s map).capacity →
    record s { objects = slice_set s.objects map (stored_in object index bytes) } ≡ with_link s map (with_cell (link_of_map s map) index bytes)
of_link s map index bytes (Map link) is some = ap (λ found. with_link s map (with_cell (link_in found) index bytes)) (sym is)
of_link s map index bytes Chain is some = absurd (no_less 0 (subst (λ found. 0 < (link_in found).capacity) is some))
of_link s map index bytes Keys is some = absurd (no_less 0 (subst (λ found. 0 < (link_in found).capacity) is some))
of_link s map index bytes (Cells cells) is some = absurd (no_less 0 (subst (λ found. 0 < (link_in found).capacity) is some))
of_link s map index bytes (Prefixes prefixes) is some = absurd (no_less 0 (subst (λ found. 0 < (link_in found).capacity) is some))

stored_by : (s : State) (vector index : ℕ) (bytes : List ℕ) (holder : ℕ) (d : Object) (found : Option Object) → slice_get s.objects vector ≡ found →
    index < (vector_in s vector found).cell_count → holder ≡ holder_of vector found → holder < length s.objects →
    record s { objects = slice_set s.objects holder (stored_in (get_or s.objects holder d) index bytes) } ≡ with_bytes_in s vector index bytes found
stored_by s vector index bytes holder d None is some held inside = absurd (no_less index some)
stored_by s vector index bytes holder d (Some (Map link)) is some held inside = absurd (no_less index some)
stored_by s vector index bytes holder d (Some Chain) is some held inside = absurd (no_less index some)
stored_by s vector index bytes holder d (Some (Prefixes prefixes)) is some held inside = absurd (no_less index some)
stored_by s vector index bytes holder d (Some (Cells cells)) is some held inside =
    let got : get_or s.objects holder d ≡ Cells cells =
    ap (λ (o : Option Object). unwrap_or o d) (sym (at s.objects holder d inside) ∙ ap (slice_get s.objects) held ∙ is) in
    ap (λ object. record s { objects = slice_set s.objects holder (stored_in object index bytes) }) got
    ∙ ap (λ n. record s { objects = slice_set s.objects n (stored_in (Cells cells) index bytes) }) held
stored_by s vector index bytes holder d (Some Keys) is some held inside =
    let there : slice_get s.objects (vector - 2) ≡ Some (get_or s.objects holder d) =
    ap (slice_get s.objects) (sym held) ∙ at s.objects holder d inside in
    ap (λ n. record s { objects = slice_set s.objects n (stored_in (get_or s.objects holder d) index bytes) }) held
    ∙ of_link s (vector - 2) index bytes (get_or s.objects holder d) there (omega arith)

pub stored : (s : State) (vector index : ℕ) (bytes : List ℕ) (holder : ℕ) (d new : Object) → index < (vector_of s vector).cell_count
    → holder ≡ holder_of vector (slice_get s.objects vector) → holder < length s.objects → new ≡ stored_in (get_or s.objects holder d) index bytes →
    record s { objects = slice_set s.objects holder new } ≡ with_bytes s vector index bytes
stored s vector index bytes holder d new some held inside is =
    ap (λ object. record s { objects = slice_set s.objects holder object }) is
    ∙ stored_by s vector index bytes holder d (slice_get s.objects vector) refl some held inside
