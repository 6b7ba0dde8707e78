-- What a node sees, one declaration behind the other, are the declarations in whose scopes it lies.
use Rattle.std.proofs.Common.{◌≡◌, ◌∙◌, ◌<◌, ◌≤◌, ◌+◌, ◌⊎◌, inl, inr, ℕ, zero, suc, List, [], ◌∷◌, ◌++◌, length, slice_get, Bool, true, if◌then◌else◌}
use Rattle.std.proofs.Common.{Option, Some, None, refl, sym, ap, subst, arith}
use Rattle.std.specs.Prelude.{replicate}
use Rattle.std.proofs.lemmas.Bool.{cases_lt, cases_Bool}
use Rattle.std.proofs.lemmas.Option.{same_Some}
use Rattle.vg_core.specs.Syntax.{Syntax, IsOrdered, IsUsedOnce}
use Rattle.vg_cscope.specs.declared.standing.Standing.{Standing}
use Rattle.vg_cscope.specs.Scopes.{Sight, seen_of, seen_at, kind_at, declares, sight, all_see, in_row, behind, alone, standings_of}
use Rattle.vg_cnames.specs.Scoping.{rest_of, row_of, within, in_it, after, IsInScope, begins, part}
use Rattle.vg_cnames.proofs.Lists.{In, of_contains, to_contains, Rising}
use Rattle.vg_cnames.proofs.Trees.{parts_at, part_before, parts_rise, has_whole}
use Rattle.vg_cnames.proofs.Sights.{parts_row, sight_parts, Looks, file, opens, block, splits, looks}
use Rattle.vg_cnames.proofs.Telling.{Sees, sees_part, part_sees, below_other, sees}

-- from what is seen, one sees this
pub data Chain (standings : List Standing) : Option ℕ → ℕ → Type 0 where
  here : (d : ℕ) → Chain standings (Some d) d
  further : (e d : ℕ) → Chain standings (seen_at standings e) d → Chain standings (Some e) d

pub chain_on : (standings : List Standing) (seen : Option ℕ) (e d : ℕ) → Chain standings seen e → Chain standings (seen_at standings e) d
    → Chain standings seen d
chain_on standings _ _ d (here x) c = further x d c
chain_on standings _ e d (further x _ a) c = further x d (chain_on standings (seen_at standings x) e d a c)

pub chain_from : (standings : List Standing) (seen : Option ℕ) (d : ℕ) → Chain standings seen d → (x : ℕ) → seen ≡ Some x → (x ≡ d)
    ⊎ Chain standings (seen_at standings x) d
chain_from standings _ _ (here d) x e = inl (sym (same_Some d x e))
chain_from standings _ d (further y _ c) x e = inr (subst (λ z. Chain standings (seen_at standings z) d) (same_Some y x e) c)

pub no_chain : (standings : List Standing) (seen : Option ℕ) (d : ℕ) → Chain standings seen d → seen ≡ None → ⊥
no_chain standings _ _ (here d) e = absurd (cc)
no_chain standings _ d (further y _ c) e = absurd (cc)

-- of two that are seen one is seen from the other
pub chain_line : (standings : List Standing) (seen : Option ℕ) (a b : ℕ) → Chain standings seen a → Chain standings seen b →
    (a ≡ b) ⊎ (Chain standings (seen_at standings a) b ⊎ Chain standings (seen_at standings b) a)
chain_line standings _ _ b (here x) c = elim (chain_from standings (Some x) b c x refl) [
  | inl e ↦ inl e
  | inr r ↦ inr (inl r)
]
chain_line standings _ a b (further x _ p) c = elim (chain_from standings (Some x) b c x refl) [
  | inl e ↦ inr (inr (subst (λ y. Chain standings (seen_at standings y) a) e p))
  | inr r ↦ chain_line standings (seen_at standings x) a b p r
]

-- ---- parts that all see the same, and lots of parts

all_same : (n : ℕ) (seen s : Option ℕ) (xs : List ℕ) → Sees n seen (all_see s xs) → seen ≡ s
all_same n seen s [] i = absurd i
all_same n seen s (x ∷ xs) (inl e) = sym e.1
all_same n seen s (x ∷ xs) (inr i) = all_same n seen s xs i

all_sees : (n : ℕ) (s : Option ℕ) (xs : List ℕ) → In n xs → Sees n s (all_see s xs)
all_sees n s [] i = absurd i
all_sees n s (x ∷ xs) (inl e) = inl (e, refl)
all_sees n s (x ∷ xs) (inr i) = inr (all_sees n s xs i)

sees_lot : (n : ℕ) (seen : Option ℕ) (xs ys : Sight) → Sees n seen (xs ++ ys) → Sees n seen xs ⊎ Sees n seen ys
sees_lot n seen [] ys i = inr i
sees_lot n seen (x ∷ xs) ys (inl e) = inl (inl e)
sees_lot n seen (x ∷ xs) ys (inr i) = elim (sees_lot n seen xs ys i) [
  | inl j ↦ inl (inr j)
  | inr j ↦ inr j
]

sees_back : (n : ℕ) (seen : Option ℕ) (xs ys : Sight) → Sees n seen ys → Sees n seen (xs ++ ys)
sees_back n seen [] ys i = i
sees_back n seen (x ∷ xs) ys i = inr (sees_back n seen xs ys i)

sees_all : (n : ℕ) (seen s : Option ℕ) (xs : List ℕ) → Sees n seen (all_see s xs) → In n xs
sees_all n seen s [] i = absurd i
sees_all n seen s (x ∷ xs) (inl e) = inl e.0
sees_all n seen s (x ∷ xs) (inr i) = inr (sees_all n seen s xs i)

lone : (k n : ℕ) → seen_of (slice_get (replicate k alone) n) ≡ None
lone zero n = refl
lone (suc k) zero = refl
lone (suc k) (suc n) = lone k n

module _ (tree : Syntax) where
  abbrev stood : List Standing
  stood = standings_of tree

  abbrev AreTold : Sight → Type 0
  AreTold xs = (p : ℕ) (seen : Option ℕ) → Sees p seen xs → seen_at stood p ≡ seen

  abbrev Seen : Option ℕ → ℕ → Type 0
  Seen = Chain stood

  -- ---- rows

  behind_sees : (s : Option ℕ) (x d : ℕ) → seen_at stood x ≡ s → Seen s d → Seen (behind tree s x) d
  behind_sees s x d e c = elim (cases_Bool (declares (kind_at tree x))) [
    | inl does ↦ subst (λ (b : Bool). Seen (if b then Some x else s) d) (sym does) (further x d (subst (λ o. Seen o d) (sym e) c))
    | inr doesnt ↦ subst (λ (b : Bool). Seen (if b then Some x else s) d) (sym doesnt) c
  ]

  row_forward : (s : Option ℕ) (xs : List ℕ) → AreTold (in_row tree s xs) → (d : ℕ) → Seen s d → (n : ℕ) (seen : Option ℕ)
      → Sees n seen (in_row tree s xs) → Seen seen d
  row_forward s [] h d c n seen i = absurd i
  row_forward s (x ∷ xs) h d c n seen (inl e) = subst (λ o. Seen o d) e.1 c
  row_forward s (x ∷ xs) h d c n seen (inr i) =
      row_forward (behind tree s x) xs (λ p o j. h p o (inr j)) d (behind_sees s x d (h x s (inl (refl, refl))) c) n seen i

  row_behind : (s : Option ℕ) (xs : List ℕ) → AreTold (in_row tree s xs) → Rising xs → (d n : ℕ) → declares (kind_at tree d) ≡ true → In d xs → d < n →
      (seen : Option ℕ) → Sees n seen (in_row tree s xs) → Seen seen d
  row_behind s [] h r d n does j l seen i = absurd i
  row_behind s (x ∷ xs) h r d n does (inl e) l seen (inl f) = absurd (omega (arith, l, e, f.0))
  row_behind s (x ∷ xs) h r d n does (inl e) l seen (inr i) =
      let its : declares (kind_at tree x) ≡ true = subst (λ z. declares (kind_at tree z) ≡ true) (sym e) does in
      let first : Seen (behind tree s x) d = subst (λ (b : Bool). Seen (if b then Some x else s) d) (sym its) (subst (λ z. Seen (Some x) z) e (here x)) in
      row_forward (behind tree s x) xs (λ p o j. h p o (inr j)) d first n seen i
  row_behind s (x ∷ xs) h r d n does (inr j) l seen (inl f) = absurd (omega (arith, l, f.0, r.0 d j))
  row_behind s (x ∷ xs) h r d n does (inr j) l seen (inr i) = row_behind (behind tree s x) xs (λ p o k. h p o (inr k)) r.1 d n does j l seen i

  abbrev StandsBefore : List ℕ → (d n : ℕ) → Type 0
  StandsBefore xs d n = (declares (kind_at tree d) ≡ true) × In d xs × (d < n)

  back_one : (s : Option ℕ) (x d : ℕ) → seen_at stood x ≡ s → Seen (behind tree s x) d → Seen s d ⊎ ((declares (kind_at tree d) ≡ true) × (x ≡ d))
  back_one s x d e c = elim (cases_Bool (declares (kind_at tree x))) [
    | inl does ↦ elim (chain_from stood (behind tree s x) d c x (ap (λ (b : Bool). if b then Some x else s) does)) [
      | inl same ↦ inr (subst (λ z. declares (kind_at tree z) ≡ true) same does, same)
      | inr r ↦ inl (subst (λ o. Seen o d) e r)
    ]
    | inr doesnt ↦ inl (subst (λ (b : Bool). Seen (if b then Some x else s) d) doesnt c)
  ]

  row_back : (s : Option ℕ) (xs : List ℕ) → AreTold (in_row tree s xs) → Rising xs → (d n : ℕ) (seen : Option ℕ) → Sees n seen (in_row tree s xs)
      → Seen seen d →
      Seen s d ⊎ StandsBefore xs d n
  row_back s [] h r d n seen i c = absurd i
  row_back s (x ∷ xs) h r d n seen (inl e) c = inl (subst (λ o. Seen o d) (sym e.1) c)
  row_back s (x ∷ xs) h r d n seen (inr i) c = elim (row_back (behind tree s x) xs (λ p o j. h p o (inr j)) r.1 d n seen i c) [
    | inl b ↦ elim (back_one s x d (h x s (inl (refl, refl))) b) [
      | inl a ↦ inl a
      | inr t ↦
          let its : In n xs = subst (λ ys. In n ys) (parts_row tree (behind tree s x) xs) (sees_part n seen (in_row tree (behind tree s x) xs) i) in
          inr (t.0, inl t.1, omega (arith, r.0 n its, t.1))
    ]
    | inr t ↦ inr (t.0, inr t.1, t.2)
  ]

  -- a part of a row
  in_row_sees : (s : Option ℕ) (xs : List ℕ) (n : ℕ) → In n xs → (seen : Option ℕ) × Sees n seen (in_row tree s xs)
  in_row_sees s xs n i = part_sees n (in_row tree s xs) (subst (λ ys. In n ys) (sym (parts_row tree s xs)) i)

  module _ (ordered : IsOrdered tree) (once : IsUsedOnce tree) where
    abbrev sight_at : ℕ → Sight
    sight_at m = sight tree m (seen_at stood m) (kind_at tree m)

    told_at : (m : ℕ) → AreTold (sight_at m)
    told_at m = λ p seen i. sees tree ordered once m p seen i

    told_row : (m : ℕ) (xs : Sight) → sight_at m ≡ xs → AreTold xs
    told_row m xs e = subst AreTold e (told_at m)

    -- what a part of a row sees
    row_rises : (m : ℕ) (xs : List ℕ) → parts_at tree m ≡ xs → Rising xs
    row_rises m xs f = subst Rising f (parts_rise tree ordered m)

    -- ---- in a scope, so seen

    by_row : (m : ℕ) (s : Option ℕ) (xs : List ℕ) → sight_at m ≡ in_row tree s xs → (d n : ℕ) → Seen s d → In n xs → Seen (seen_at stood n) d
    by_row m s xs e d n c i =
        let t = in_row_sees s xs n i in
        subst (λ o. Seen o d) (sym (told_row m (in_row tree s xs) e n t.0 t.1)) (row_forward s xs (told_row m (in_row tree s xs) e) d c n t.0 t.1)

    by_place : (m : ℕ) (s : Option ℕ) (xs : List ℕ) → sight_at m ≡ in_row tree s xs → parts_at tree m ≡ xs → (d n : ℕ) → declares (kind_at tree d) ≡ true →
        In d xs → In n xs → d < n → Seen (seen_at stood n) d
    by_place m s xs e f d n does j i l =
        let t = in_row_sees s xs n i in
        subst (λ o. Seen o d) (sym (told_row m (in_row tree s xs) e n t.0 t.1)) (row_behind s xs (told_row m (in_row tree s xs) e) (row_rises m xs f)
        d n does j l t.0 t.1)

    rest_sees : (d n : ℕ) → Looks tree d (seen_at stood d) (kind_at tree d) → In n (rest_of tree (kind_at tree d)) → Seen (seen_at stood n) d
    rest_sees d n (file e f g h) i = absurd (subst (λ xs. In n xs) h i)
    rest_sees d n (opens e f g h) i = by_row d (Some d) (row_of tree (kind_at tree d)) e d n (here d) (subst (λ xs. In n xs) h i)
    rest_sees d n (block e f g h) i = absurd (subst (λ xs. In n xs) h i)
    rest_sees d n (splits front back e f g h k) i =
        let lot : Sees n (Some d) (all_see (seen_at stood d) front ++ all_see (Some d) back) =
        sees_back n (Some d) (all_see (seen_at stood d) front) (all_see (Some d) back) (all_sees n (Some d) back (subst (λ xs. In n xs) h i)) in
        subst (λ o. Seen o d) (sym (told_row d (all_see (seen_at stood d) front ++ all_see (Some d) back) e n (Some d) lot)) (here d)

    row_sees : (m d n : ℕ) → Looks tree m (seen_at stood m) (kind_at tree m) → declares (kind_at tree d) ≡ true → In d (row_of tree (kind_at tree m)) →
        In n (row_of tree (kind_at tree m)) → d < n → Seen (seen_at stood n) d
    row_sees m d n (file e f g h) does j i l = by_place m None (row_of tree (kind_at tree m)) e f d n does j i l
    row_sees m d n (opens e f g h) does j i l = by_place m (Some m) (row_of tree (kind_at tree m)) e f d n does j i l
    row_sees m d n (block e f g h) does j i l = by_place m (seen_at stood m) (row_of tree (kind_at tree m)) e f d n does j i l
    row_sees m d n (splits front back e f g h k) does j i l = absurd (subst (λ xs. In n xs) k i)

    lots_see : (m n d : ℕ) (front back : List ℕ) → sight_at m ≡ all_see (seen_at stood m) front ++ all_see (Some m) back → Seen (seen_at stood m) d →
        In n (parts_at tree m) → Seen (seen_at stood n) d
    lots_see m n d front back e c i =
        let t = part_sees n (sight_at m) (subst (λ xs. In n xs) (sym (sight_parts tree m (seen_at stood m) (kind_at tree m))) i) in
        let seen_so = told_at m n t.0 t.1 in
        elim (sees_lot n t.0 (all_see (seen_at stood m) front) (all_see (Some m) back) (subst (λ xs. Sees n t.0 xs) e t.1)) [
          | inl a ↦ subst (λ o. Seen o d) (sym (seen_so ∙ all_same n t.0 (seen_at stood m) front a)) c
          | inr b ↦ subst (λ o. Seen o d) (sym (seen_so ∙ all_same n t.0 (Some m) back b)) (further m d c)
        ]

    part_sees_on : (m n d : ℕ) → Looks tree m (seen_at stood m) (kind_at tree m) → Seen (seen_at stood m) d → In n (within tree (kind_at tree m))
        → Seen (seen_at stood n) d
    part_sees_on m n d (file e f g h) c i = absurd (subst (λ xs. In n xs) g i)
    part_sees_on m n d (opens e f g h) c i = by_row m (Some m) (row_of tree (kind_at tree m)) e d n (further m d c) (subst (λ xs. In n xs) (g ∙ f) i)
    part_sees_on m n d (block e f g h) c i = by_row m (seen_at stood m) (row_of tree (kind_at tree m)) e d n c (subst (λ xs. In n xs) (g ∙ f) i)
    part_sees_on m n d (splits front back e f g h k) c i = lots_see m n d front back e c (subst (λ xs. In n xs) g i)

    look : (m : ℕ) → Looks tree m (seen_at stood m) (kind_at tree m)
    look m = looks tree m (seen_at stood m) (kind_at tree m)

    pub scope_seen : (d n : ℕ) → IsInScope tree d n → Seen (seen_at stood n) d
    scope_seen d _ (begins n (in_it c)) = rest_sees d n (look d) (of_contains (rest_of tree (kind_at tree d)) n c)
    scope_seen d _ (begins n (after m does c e l)) =
        row_sees m d n (look m) does (of_contains (row_of tree (kind_at tree m)) d c) (of_contains (row_of tree (kind_at tree m)) n e) l
    scope_seen d _ (part m n s c) = part_sees_on m n d (look m) (scope_seen d m s) (of_contains (within tree (kind_at tree m)) n c)

    -- ---- seen, so in a scope

    in_rest : (d n m : ℕ) → m ≡ d → In n (rest_of tree (kind_at tree m)) → IsInScope tree d n
    in_rest d n m e i = begins n (in_it (to_contains (rest_of tree (kind_at tree d)) n (subst (λ z. In n (rest_of tree (kind_at tree z))) e i)))

    in_place : (m d n : ℕ) → StandsBefore (row_of tree (kind_at tree m)) d n → In n (row_of tree (kind_at tree m)) → IsInScope tree d n
    in_place m d n t i = begins n (after m t.0 (to_contains (row_of tree (kind_at tree m)) d t.1) (to_contains (row_of tree (kind_at tree m)) n i) t.2)

    in_part : (m d n : ℕ) → IsInScope tree d m → In n (within tree (kind_at tree m)) → IsInScope tree d n
    in_part m d n s i = part m n s (to_contains (within tree (kind_at tree m)) n i)

    row_scope : (m : ℕ) (s : Option ℕ) (xs : List ℕ) → sight_at m ≡ in_row tree s xs → parts_at tree m ≡ xs → (d n : ℕ) → In n xs → Seen (seen_at stood n) d →
        Seen s d ⊎ StandsBefore xs d n
    row_scope m s xs e f d n i c =
        let t = in_row_sees s xs n i in
        row_back s xs (told_row m (in_row tree s xs) e) (row_rises m xs f) d n t.0 t.1 (subst (λ o. Seen o d) (told_row m (in_row tree s xs) e n t.0 t.1) c)

    part_scope : (m n d : ℕ) → Looks tree m (seen_at stood m) (kind_at tree m) → ((x : ℕ) → Seen (seen_at stood m) x → IsInScope tree x m)
        → In n (parts_at tree m) →
        Seen (seen_at stood n) d → IsInScope tree d n
    part_scope m n d (file e f g h) up i c =
        let its : In n (row_of tree (kind_at tree m)) = subst (λ xs. In n xs) f i in
        elim (row_scope m None (row_of tree (kind_at tree m)) e f d n its c) [
          | inl a ↦ absurd (no_chain stood None d a refl)
          | inr t ↦ in_place m d n t its
        ]
    part_scope m n d (opens e f g h) up i c =
        let its : In n (row_of tree (kind_at tree m)) = subst (λ xs. In n xs) f i in
        elim (row_scope m (Some m) (row_of tree (kind_at tree m)) e f d n its c) [
          | inl a ↦ elim (chain_from stood (Some m) d a m refl) [
            | inl same ↦ in_rest d n m same (subst (λ xs. In n xs) (sym h) its)
            | inr r ↦ in_part m d n (up d r) (subst (λ xs. In n xs) (sym g) i)
          ]
          | inr t ↦ in_place m d n t its
        ]
    part_scope m n d (block e f g h) up i c =
        let its : In n (row_of tree (kind_at tree m)) = subst (λ xs. In n xs) f i in
        elim (row_scope m (seen_at stood m) (row_of tree (kind_at tree m)) e f d n its c) [
          | inl a ↦ in_part m d n (up d a) (subst (λ xs. In n xs) (sym g) i)
          | inr t ↦ in_place m d n t its
        ]
    part_scope m n d (splits front back e f g h k) up i c =
        let t = part_sees n (sight_at m) (subst (λ xs. In n xs) (sym (sight_parts tree m (seen_at stood m) (kind_at tree m))) i) in
        let d_seen : Seen t.0 d = subst (λ o. Seen o d) (told_at m n t.0 t.1) c in
        let inside : In n (within tree (kind_at tree m)) = subst (λ xs. In n xs) (sym g) i in
        elim (sees_lot n t.0 (all_see (seen_at stood m) front) (all_see (Some m) back) (subst (λ xs. Sees n t.0 xs) e t.1)) [
          | inl a ↦ in_part m d n (up d (subst (λ o. Seen o d) (all_same n t.0 (seen_at stood m) front a) d_seen)) inside
          | inr b ↦ elim (chain_from stood t.0 d d_seen m (all_same n t.0 (Some m) back b)) [
            | inl same ↦ in_rest d n m same (subst (λ xs. In n xs) (sym h) (sees_all n t.0 (Some m) back b))
            | inr r ↦ in_part m d n (up d r) inside
          ]
        ]

    -- a node that is no part sees nothing
    last_sees : (n : ℕ) → length tree.nodes ≤ n + 1 → seen_at stood n ≡ None
    last_sees n l =
        ap seen_of (below_other tree (length tree.nodes) (replicate (length tree.nodes) alone) n
        (λ j less i. absurd (omega (arith, l, less, part_before tree ordered j n i))))
        ∙ lone (length tree.nodes) n

    seen_below : (g n : ℕ) → length tree.nodes ≤ n + g → (d : ℕ) → Seen (seen_at stood n) d → IsInScope tree d n
    seen_below zero n h d c = absurd (no_chain stood (seen_at stood n) d c (last_sees n (omega (arith, h))))
    seen_below (suc g) n h d c = elim (cases_lt (n + 1) (length tree.nodes)) [
      | inl less ↦
          let w = has_whole tree ordered once n less in
          part_scope w.0 n d (look w.0) (seen_below g w.0 (omega (arith, h, part_before tree ordered w.0 n w.1))) w.1 c
      | inr last ↦ absurd (no_chain stood (seen_at stood n) d c (last_sees n last))
    ]

    pub seen_scope : (d n : ℕ) → Seen (seen_at stood n) d → IsInScope tree d n
    seen_scope d n c = seen_below (length tree.nodes) n (omega arith) d c
