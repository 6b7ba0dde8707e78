-- Each part sees in the end what its node told it.
use Rattle.std.proofs.Common.{◌≡◌, ◌∙◌, ◌<◌, ◌⊎◌, inl, inr, ℕ, zero, suc, List, [], ◌∷◌, length, set, slice_get, Option, refl, sym, ap, subst, arith}
use Rattle.std.specs.Prelude.{replicate}
use Rattle.std.proofs.lemmas.Bool.{cases_lt}
use Rattle.std.proofs.lemmas.List.{length-set, length-replicate}
use Rattle.vg_core.specs.Syntax.{Syntax, IsOrdered, IsUsedOnce}
use Rattle.vg_cscope.specs.declared.standing.Standing.{Standing}
use Rattle.vg_cscope.specs.Scopes.{Sight, seen_of, seen_at, kind_at, sight, told, told_below, alone, standings_of}
use Rattle.vg_cnames.proofs.Lists.{In, Rising, get_set_same, get_set_other}
use Rattle.vg_cnames.proofs.Trees.{parts_at, within_tree, part_before, parts_rise, one_whole}
use Rattle.vg_cnames.proofs.Sights.{parts_in, sight_parts}

-- a part is told that it sees this
abbrev pub Sees : ℕ → Option ℕ → Sight → Type 0
Sees p seen [] = ⊥
Sees p seen (x ∷ xs) = ((x.0 ≡ p) × (x.1 ≡ seen)) ⊎ Sees p seen xs

pub sees_part : (p : ℕ) (seen : Option ℕ) (xs : Sight) → Sees p seen xs → In p (parts_in xs)
sees_part p seen [] i = absurd i
sees_part p seen (x ∷ xs) (inl e) = inl e.0
sees_part p seen (x ∷ xs) (inr i) = inr (sees_part p seen xs i)

pub part_sees : (p : ℕ) (xs : Sight) → In p (parts_in xs) → (seen : Option ℕ) × Sees p seen xs
part_sees p [] i = absurd i
part_sees p (x ∷ xs) (inl e) = (x.1, inl (e, refl))
part_sees p (x ∷ xs) (inr i) = let s = part_sees p xs i in (s.0, inr s.1)

told_other : (m p : ℕ) (xs : Sight) (s : List Standing) → (In p (parts_in xs) → ⊥) → slice_get (told m xs s) p ≡ slice_get s p
told_other m p [] s h = refl
told_other m p (x ∷ xs) s h =
    told_other m p xs (set s x.0 (record { within = m; seen = x.1 })) (λ i. h (inr i)) ∙ get_set_other s x.0 p (record { within = m; seen = x.1 })
    (λ e. h (inl e))

told_length : (m : ℕ) (xs : Sight) (s : List Standing) → length (told m xs s) ≡ length s
told_length m [] s = refl
told_length m (x ∷ xs) s = told_length m xs (set s x.0 (record { within = m; seen = x.1 })) ∙ length-set s x.0 (record { within = m; seen = x.1 })

told_here : (m p : ℕ) (seen : Option ℕ) (xs : Sight) (s : List Standing) → Rising (parts_in xs) → Sees p seen xs → p < length s
    → seen_of (slice_get (told m xs s) p) ≡ seen
told_here m p seen [] s r i l = absurd i
told_here m p seen (x ∷ xs) s r (inl e) l =
    ap seen_of (told_other m p xs (set s x.0 (record { within = m; seen = x.1 })) (λ i. absurd (omega (arith, r.0 p i, e.0)))
    ∙ ap (slice_get (set s x.0 (record { within = m; seen = x.1 }))) (sym e.0)
    ∙ get_set_same s x.0 (record { within = m; seen = x.1 }) (omega (arith, l, e.0)))
    ∙ e.1
told_here m p seen (x ∷ xs) s r (inr i) l =
    told_here m p seen xs (set s x.0 (record { within = m; seen = x.1 })) r.1 i (omega (arith, l, length-set s x.0 (record { within = m; seen = x.1 })))

module _ (tree : Syntax) where
  abbrev next_told : ℕ → List Standing → List Standing
  next_told k s = told k (sight tree k (seen_at s k) (kind_at tree k)) s

  pub below_other : (k : ℕ) (s : List Standing) (p : ℕ) → ((i : ℕ) → i < k → In p (parts_at tree i) → ⊥) → slice_get (told_below tree k s) p ≡ slice_get s p
  below_other zero s p h = refl
  below_other (suc k) s p h =
      below_other k (next_told k s) p (λ i l. h i (omega (arith, l)))
      ∙ told_other k p (sight tree k (seen_at s k) (kind_at tree k)) s (λ i. h k (omega arith)
      (subst (λ xs. In p xs) (sight_parts tree k (seen_at s k) (kind_at tree k)) i))

  module _ (ordered : IsOrdered tree) (once : IsUsedOnce tree) where
    told_own : (m p : ℕ) (seen : Option ℕ) (s : List Standing) → length s ≡ length tree.nodes →
        Sees p seen (sight tree m (seen_at (told_below tree m (next_told m s)) m) (kind_at tree m)) → seen_at (told_below tree m (next_told m s)) p ≡ seen
    told_own m p seen s long i =
        let later : slice_get (told_below tree m (next_told m s)) m ≡ slice_get s m =
        below_other m (next_told m s) m (λ j l k. absurd (omega (arith, l, part_before tree ordered j m k)))
        ∙ told_other m m (sight tree m (seen_at s m) (kind_at tree m)) s
        (λ j. absurd (omega (arith, part_before tree ordered m m (subst (λ xs. In m xs) (sight_parts tree m (seen_at s m) (kind_at tree m)) j)))) in
        let here : Sees p seen (sight tree m (seen_at s m) (kind_at tree m)) = subst (λ o. Sees p seen (sight tree m (seen_of o) (kind_at tree m))) later i in
        let its : In p (parts_at tree m) = subst (λ xs. In p xs) (sight_parts tree m (seen_at s m) (kind_at tree m)) (sees_part p seen _ here) in
        let rising : Rising (parts_in (sight tree m (seen_at s m) (kind_at tree m))) =
        subst (λ xs. Rising xs) (sym (sight_parts tree m (seen_at s m) (kind_at tree m))) (parts_rise tree ordered m) in
        ap seen_of (below_other m (next_told m s) p (λ j l k. absurd (omega (arith, l, one_whole tree ordered once j m p k its))))
        ∙ told_here m p seen (sight tree m (seen_at s m) (kind_at tree m)) s rising here (omega
        (arith, long, part_before tree ordered m p its, within_tree tree m p its))

    told_some : (k : ℕ) (s : List Standing) (m p : ℕ) (seen : Option ℕ) → length s ≡ length tree.nodes → m < k →
        Sees p seen (sight tree m (seen_at (told_below tree k s) m) (kind_at tree m)) → seen_at (told_below tree k s) p ≡ seen
    told_some zero s m p seen long l i = absurd (omega (arith, l))
    told_some (suc k) s m p seen long l i = elim (cases_lt m k) [
      | inl less ↦ told_some k (next_told k s) m p seen (told_length k (sight tree k (seen_at s k) (kind_at tree k)) s ∙ long) less i
      | inr last ↦
          let same : m ≡ k = omega (arith, l, last) in
          told_own k p seen s long (subst (λ j. Sees p seen (sight tree j (seen_at (told_below tree k (next_told k s)) j) (kind_at tree j))) same i)
    ]

    -- a part sees what its node told it
    pub sees : (m p : ℕ) (seen : Option ℕ) → Sees p seen (sight tree m (seen_at (standings_of tree) m) (kind_at tree m)) → seen_at (standings_of tree) p ≡ seen
    sees m p seen i =
        let its : In p (parts_at tree m) = subst (λ xs. In p xs) (sight_parts tree m (seen_at (standings_of tree) m) (kind_at tree m)) (sees_part p seen _ i) in
        told_some (length tree.nodes) (replicate (length tree.nodes) alone) m p seen (length-replicate (length tree.nodes) alone) (within_tree tree m p its) i
