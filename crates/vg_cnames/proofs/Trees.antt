-- The parts of a tree that is ordered and uses each node once.
use Rattle.std.proofs.Common.{◌≡◌, ◌∙◌, ◌<◌, ◌≤◌, ◌+◌, inl, inr, ℕ, List, length, slice_get, Bool, true, false, if◌then◌else◌, Option, Some, None}
use Rattle.std.proofs.Common.{refl, sym, ap, subst, arith}
use Rattle.std.specs.Prelude.{◌==◌}
use Rattle.std.proofs.lemmas.Bool.{cases_lt}
use Rattle.std.proofs.lemmas.Bool.Decides.{eqb_tells}
use Rattle.std.proofs.lemmas.Option.{slice_get_within}
use Rattle.vg_core.specs.Syntax.{Syntax, parts_of, all_parts, IsOrdered, IsUsedOnce}
use Rattle.vg_core.specs.declared.tree.Node.{Node}
use Rattle.vg_cscope.specs.Scopes.{kind_of, kind_at}
use Rattle.vg_cnames.proofs.Lists.{In, to_contains, Rising, rising_of, times, two_places, a_place}

abbrev pub parts_at : Syntax → ℕ → List ℕ
parts_at tree m = parts_of tree.items (kind_at tree m)

small_if : (b : Bool) → (if b then 0 else 1) ≤ 1
small_if true = omega arith
small_if false = omega arith

module _ (tree : Syntax) where
  abbrev parts_in_node : Node → List ℕ
  parts_in_node node = parts_of tree.items node.kind

  -- a node that has a part
  node_at : (m n : ℕ) (o : Option Node) → slice_get tree.nodes m ≡ o → In n (parts_of tree.items (kind_of o)) → (a : Node)
      × (slice_get tree.nodes m ≡ Some a) × In n (parts_in_node a)
  node_at m n None e i = absurd i
  node_at m n (Some a) e i = (a, e, i)

  pub within_tree : (m n : ℕ) → In n (parts_at tree m) → m < length tree.nodes
  within_tree m n i = let a = node_at m n (slice_get tree.nodes m) refl i in slice_get_within tree.nodes m a.0 a.1

  module _ (ordered : IsOrdered tree) where
    pub part_before : (m n : ℕ) → In n (parts_at tree m) → n < m
    part_before m n i =
        let a = node_at m n (slice_get tree.nodes m) refl i in
        let c = to_contains (parts_in_node a.0) n a.2 in subst (λ z. z < m) c.2 ((ordered m a.0 a.1).before c.0 n c.1)

    rise : (m : ℕ) (o : Option Node) → slice_get tree.nodes m ≡ o → Rising (parts_of tree.items (kind_of o))
    rise m None e = tt
    rise m (Some a) e = rising_of (parts_in_node a) (ordered m a e).rising

    pub parts_rise : (m : ℕ) → Rising (parts_at tree m)
    parts_rise m = rise m (slice_get tree.nodes m) refl

    module _ (once : IsUsedOnce tree) where
      not_twice : (m k n : ℕ) → m < k → In n (parts_at tree m) → In n (parts_at tree k) → ⊥
      not_twice m k n l i j =
          let a = node_at m n (slice_get tree.nodes m) refl i in
          let b = node_at k n (slice_get tree.nodes k) refl j in
          let two : 2 ≤ times n (all_parts tree) = two_places parts_in_node n tree.nodes m k a.0 b.0 l a.1 a.2 b.1 b.2 in
          let small : n < length tree.nodes = omega (arith, part_before m n i, within_tree m n i) in
          let most = small_if (n + 1 == length tree.nodes) in
          omega (arith, two, most, once.once n small)

      pub one_whole : (m k n : ℕ) → In n (parts_at tree m) → In n (parts_at tree k) → m ≡ k
      one_whole m k n i j = elim (cases_lt m k) [
        | inl less ↦ absurd (not_twice m k n less i j)
        | inr more ↦ elim (cases_lt k m) [
          | inl less ↦ absurd (not_twice k m n less j i)
          | inr same ↦ omega (arith, more, same)
        ]
      ]

      -- each node but the last is a part of one
      pub has_whole : (n : ℕ) → n + 1 < length tree.nodes → (m : ℕ) × In n (parts_at tree m)
      has_whole n l = elim (eqb_tells (n + 1) (length tree.nodes)) [
        | inl last ↦ absurd (omega (arith, l, last.1))
        | inr other ↦
            let one : times n (all_parts tree) ≡ 1 = once.once n (omega (arith, l)) ∙ ap (λ (b : Bool). if b then 0 else 1) other.0 in
            let p = a_place parts_in_node n tree.nodes (omega (arith, one)) in
            (p.0, subst (λ o. In n (parts_of tree.items (kind_of o))) (sym p.2) p.3)
      ]
