-- The declaration that is found is the one that is visible.
use Rattle.std.proofs.Common.{◌≡◌, ◌∙◌, ◌<◌, ◌≤◌, ◌⊎◌, inl, inr, ℕ, eqb, List, [], ◌∷◌, length, Bool, true, false, ◌||◌, if◌then◌else◌, Option, Some}
use Rattle.std.proofs.Common.{None, refl, sym, ap, subst, arith}
use Rattle.std.specs.Prelude.{Contains}
use Rattle.std.specs.List.{IsDistinct, AllByRecursion, list_any}
use Rattle.std.proofs.lemmas.Bool.{cases_Bool}
use Rattle.std.proofs.lemmas.Bool.Decides.{eqb_tells, Decides-eqb}
use Rattle.std.proofs.lemmas.Option.{same_Some}
use Rattle.std.proofs.lemmas.Map.Keys.{IsDistinct-cons}
use Rattle.std.proofs.lemmas.Map.Made.{IsDistinct-from_AllPairs}
use Rattle.std.proofs.lemmas.Map.Steps.{length-le_from_distinct_below}
use Rattle.vg_core.specs.Syntax.{Syntax, IsOrdered, IsUsedOnce}
use Rattle.vg_core.specs.declared.tree.Node.{Node}
use Rattle.vg_cscope.specs.Scopes.{kind_at, seen_at, standings_of}
use Rattle.vg_cscope.specs.Names.{scoped, is_wanted, looked_up, found}
use Rattle.vg_cscope.specs.declared.standing.Standing.{Standing}
use Rattle.vg_cscope.specs.declared.names.Wanted.{Wanted}
use Rattle.vg_cnames.specs.Scoping.{rest_of, row_of, within, in_it, after, IsInScope, begins, part}
use Rattle.vg_cnames.specs.Visible.{IsVisible}
use Rattle.vg_cnames.proofs.Lists.{In, of_contains, in_back}
use Rattle.vg_cnames.proofs.Trees.{parts_at, within_tree, part_before, one_whole}
use Rattle.vg_cnames.proofs.Sights.{Looks, file, opens, block, splits, looks}
use Rattle.vg_cnames.proofs.Seeing.{Chain, here, further, chain_on, chain_from, chain_line, scope_seen, seen_scope}

none_some : (d : ℕ) → ◌≡◌ {A = Option ℕ} (Some d) None → ⊥
none_some d e = absurd (cc)

true_false : true ≡ false → ⊥
true_false e = absurd (cc)

-- ---- a declaration doesn't lie in its own scope

data Under (tree : Syntax) (top : ℕ) : ℕ → Type 0 where
  same : Under tree top top
  down : (w n : ℕ) → Under tree top w → In n (parts_at tree w) → Under tree top n

module _ (tree : Syntax) where
  rest_part : (d n : ℕ) → Looks tree d None (kind_at tree d) → In n (rest_of tree (kind_at tree d)) → In n (parts_at tree d)
  rest_part d n (file e f g h) i = absurd (subst (λ xs. In n xs) h i)
  rest_part d n (opens e f g h) i = subst (λ xs. In n xs) (h ∙ sym f) i
  rest_part d n (block e f g h) i = absurd (subst (λ xs. In n xs) h i)
  rest_part d n (splits front back e f g h k) i = subst (λ xs. In n xs) (sym f) (in_back n front back (subst (λ xs. In n xs) h i))

  row_part : (m n : ℕ) → Looks tree m None (kind_at tree m) → In n (row_of tree (kind_at tree m)) → In n (parts_at tree m)
  row_part m n (file e f g h) i = subst (λ xs. In n xs) (sym f) i
  row_part m n (opens e f g h) i = subst (λ xs. In n xs) (sym f) i
  row_part m n (block e f g h) i = subst (λ xs. In n xs) (sym f) i
  row_part m n (splits front back e f g h k) i = absurd (subst (λ xs. In n xs) k i)

  within_part : (m n : ℕ) → Looks tree m None (kind_at tree m) → In n (within tree (kind_at tree m)) → In n (parts_at tree m)
  within_part m n (file e f g h) i = absurd (subst (λ xs. In n xs) g i)
  within_part m n (opens e f g h) i = subst (λ xs. In n xs) g i
  within_part m n (block e f g h) i = subst (λ xs. In n xs) g i
  within_part m n (splits front back e f g h k) i = subst (λ xs. In n xs) g i

  look : (m : ℕ) → Looks tree m None (kind_at tree m)
  look m = looks tree m None (kind_at tree m)

  rest_in : (d n : ℕ) → Contains (rest_of tree (kind_at tree d)) n → In n (parts_at tree d)
  rest_in d n c = rest_part d n (look d) (of_contains (rest_of tree (kind_at tree d)) n c)

  row_in : (m n : ℕ) → Contains (row_of tree (kind_at tree m)) n → In n (parts_at tree m)
  row_in m n c = row_part m n (look m) (of_contains (row_of tree (kind_at tree m)) n c)

  within_in : (m n : ℕ) → Contains (within tree (kind_at tree m)) n → In n (parts_at tree m)
  within_in m n c = within_part m n (look m) (of_contains (within tree (kind_at tree m)) n c)

  -- it is a node of the tree
  row_low : (ordered : IsOrdered tree) (m d : ℕ) → In d (parts_at tree m) → d < length tree.nodes
  row_low ordered m d i = omega (arith, part_before tree ordered m d i, within_tree tree m d i)

  module _ (ordered : IsOrdered tree) (once : IsUsedOnce tree) where
    scope_low : (d n : ℕ) → IsInScope tree d n → d < length tree.nodes
    scope_low d _ (begins n (in_it c)) = within_tree tree d n (rest_in d n c)
    scope_low d _ (begins n (after m does c e l)) = row_low ordered m d (row_in m d c)
    scope_low d _ (part m n s c) = scope_low d m s

    under_low : (top n : ℕ) → Under tree top n → n ≤ top
    under_low top _ same = omega arith
    under_low top _ (down w n u i) = omega (arith, under_low top w u, part_before tree ordered w n i)

    -- below the declaration, or below one behind it
    shape : (d n : ℕ) → IsInScope tree d n → (n < d) ⊎ ((m : ℕ) × (b : ℕ) × In d (parts_at tree m) × In b (parts_at tree m) × (d < b) × Under tree b n)
    shape d _ (begins n (in_it c)) = inl (part_before tree ordered d n (rest_in d n c))
    shape d _ (begins n (after m does c e l)) = inr (m, n, row_in m d c, row_in m n e, l, same)
    shape d _ (part m n s c) = elim (shape d m s) [
      | inl low ↦ inl (omega (arith, low, part_before tree ordered m n (within_in m n c)))
      | inr p ↦ inr (p.0, p.1, p.2, p.3, p.4, down m n p.5 (within_in m n c))
    ]

    apart : (m b n : ℕ) → In n (parts_at tree m) → In b (parts_at tree m) → n < b → Under tree b n → ⊥
    apart m b _ i j l same = absurd (omega (arith, l))
    apart m b _ i j l (down w n u k) =
        let one : w ≡ m = one_whole tree ordered once w m n k i in
        absurd (omega (arith, one, under_low b w u, part_before tree ordered m b j))

    not_itself : (d : ℕ) → IsInScope tree d d → ⊥
    not_itself d s = elim (shape d d s) [
      | inl low ↦ absurd (omega (arith, low))
      | inr p ↦ apart p.0 p.1 d p.2 p.3 p.4 p.5
    ]

  -- ---- what is found

  module _ (text : List ℕ) (what : Wanted) where
    abbrev stood : List Standing
    stood = standings_of tree

    abbrev wanted : ℕ → Bool
    wanted d = is_wanted text what (kind_at tree d)

    -- the first that is wanted
    data First : Option ℕ → ℕ → Type 0 where
      it : (d : ℕ) → wanted d ≡ true → First (Some d) d
      skip : (e d : ℕ) → wanted e ≡ false → First (seen_at stood e) d → First (Some e) d

    first_found : (nodes : List Node) (seen : Option ℕ) (d : ℕ) → looked_up (scoped text tree stood) what nodes seen ≡ Some d → First seen d
    first_found [] seen d e = absurd (cc)
    first_found (x ∷ xs) None d e = absurd (cc)
    first_found (x ∷ xs) (Some a) d e = elim (cases_Bool (wanted a)) [
      | inl is ↦ subst (First (Some a))
          (same_Some a d (sym (ap (λ (b : Bool). if b then Some a else looked_up (scoped text tree stood) what xs (seen_at stood a)) is) ∙ e))
          (it a is)
      | inr isnt ↦ skip a d isnt (first_found xs (seen_at stood a) d
          (sym (ap (λ (b : Bool). if b then Some a else looked_up (scoped text tree stood) what xs (seen_at stood a)) isnt) ∙ e))
    ]

    first_seen : (seen : Option ℕ) (d : ℕ) → First seen d → Chain stood seen d
    first_seen _ _ (it d is) = here d
    first_seen _ d (skip e _ isnt f) = further e d (first_seen (seen_at stood e) d f)

    first_wanted : (seen : Option ℕ) (d : ℕ) → First seen d → wanted d ≡ true
    first_wanted _ _ (it d is) = is
    first_wanted _ d (skip e _ isnt f) = first_wanted (seen_at stood e) d f

    -- any other that is wanted is seen from it
    first_before : (seen : Option ℕ) (d e : ℕ) → First seen d → wanted e ≡ true → Chain stood seen e → (d ≡ e) ⊎ Chain stood (seen_at stood d) e
    first_before _ _ e (it d is) w c = chain_from stood (Some d) e c d refl
    first_before _ d e (skip a _ isnt f) w c = elim (chain_from stood (Some a) e c a refl) [
      | inl one ↦ absurd (true_false (sym w ∙ ap wanted (sym one) ∙ isnt))
      | inr r ↦ first_before (seen_at stood a) d e f w r
    ]

    -- ---- none is passed over: what is seen are nodes of the tree, no two the same, so there are no more of them than nodes

    abbrev path : (seen : Option ℕ) (d : ℕ) → Chain stood seen d → List ℕ
    path _ _ (here d) = d ∷ []
    path _ d (further e _ c) = e ∷ path (seen_at stood e) d c

    all_path : (P : ℕ → Type 0) (seen : Option ℕ) (d : ℕ) (c : Chain stood seen d) → ((y : ℕ) → Chain stood seen y → P y) → AllByRecursion P (path seen d c)
    all_path P _ _ (here d) h = (h d (here d), tt)
    all_path P _ d (further e _ c) h = (h e (here e), all_path P (seen_at stood e) d c (λ y r. h y (further e y r)))

    missed : (nodes : List Node) (seen : Option ℕ) (d : ℕ) (c : Chain stood seen d) → wanted d ≡ true
        → looked_up (scoped text tree stood) what nodes seen ≡ None →
        length nodes < length (path seen d c)
    missed [] _ _ (here d) w e = omega arith
    missed [] _ d (further a _ c) w e = omega arith
    missed (x ∷ xs) _ _ (here d) w e =
        absurd (none_some d (sym (ap (λ (b : Bool). if b then Some d else looked_up (scoped text tree stood) what xs (seen_at stood d)) w) ∙ e))
    missed (x ∷ xs) _ d (further a _ c) w e = elim (cases_Bool (wanted a)) [
      | inl is ↦ absurd (none_some a (sym (ap (λ (b : Bool). if b then Some a else looked_up (scoped text tree stood) what xs (seen_at stood a)) is) ∙ e))
      | inr isnt ↦
          let more : length xs < length (path (seen_at stood a) d c) =
          missed xs (seen_at stood a) d c w
          (sym (ap (λ (b : Bool). if b then Some a else looked_up (scoped text tree stood) what xs (seen_at stood a)) isnt) ∙ e) in
          omega (arith, more)
    ]

    module _ (ordered : IsOrdered tree) (once : IsUsedOnce tree) where
      unlike : (e y : ℕ) → Chain stood (seen_at stood e) y → eqb e y ≡ false
      unlike e y r = elim (eqb_tells e y) [
        | inl one ↦ absurd (not_itself ordered once e (subst (λ z. IsInScope tree z e) (sym one.1) (seen_scope tree ordered once y e r)))
        | inr other ↦ other.0
      ]

      distinct_path : (seen : Option ℕ) (d : ℕ) (c : Chain stood seen d) → IsDistinct eqb (path seen d c)
      distinct_path _ _ (here d) = IsDistinct-cons eqb d [] tt (IsDistinct-from_AllPairs Decides-eqb [] (λ i j x one two. absurd (omega (arith, two))))
      distinct_path _ d (further e _ c) =
          IsDistinct-cons eqb e (path (seen_at stood e) d c) (all_path (λ y. eqb e y ≡ false) (seen_at stood e) d c (λ y r. unlike e y r))
          (distinct_path (seen_at stood e) d c)

      some_below : (q most : ℕ) (xs : List ℕ) → AllByRecursion (λ y. y < most) xs → list_any (eqb q) xs ≡ true → q < most
      some_below q most [] h e = absurd (cc)
      some_below q most (x ∷ xs) h e = elim (eqb_tells q x) [
        | inl one ↦ omega (arith, one.1, h.0)
        | inr other ↦ some_below q most xs h.1 (sym (ap (λ b. b || list_any (eqb q) xs) other.0) ∙ e)
      ]

      not_missed : (n d : ℕ) → IsInScope tree d n → wanted d ≡ true → found (scoped text tree stood) what n ≡ None → ⊥
      not_missed n d s w e =
          let c = scope_seen tree ordered once d n s in
          let low : AllByRecursion (λ y. y < length tree.nodes) (path (seen_at stood n) d c) =
          all_path (λ y. y < length tree.nodes) (seen_at stood n) d c (λ y r. scope_low ordered once y n (seen_scope tree ordered once y n r)) in
          let few : length (path (seen_at stood n) d c) ≤ length tree.nodes =
          length-le_from_distinct_below (path (seen_at stood n) d c) (length tree.nodes) (distinct_path (seen_at stood n) d c)
          (λ q a. some_below q (length tree.nodes) (path (seen_at stood n) d c) low a) in
          absurd (omega (arith, few, missed tree.nodes (seen_at stood n) d c w e))

      -- ---- the laws

      pub one_visible : (n d e : ℕ) → IsVisible text tree what n d → IsVisible text tree what n e → d ≡ e
      one_visible n d e v w =
          elim (chain_line stood (seen_at stood n) d e (scope_seen tree ordered once d n v.in_scope) (scope_seen tree ordered once e n w.in_scope)) [
            | inl one ↦ one
            | inr (inl r) ↦ absurd (w.not_hidden d v.wanted v.in_scope (seen_scope tree ordered once e d r))
            | inr (inr r) ↦ absurd (v.not_hidden e w.wanted w.in_scope (seen_scope tree ordered once d e r))
          ]

      pub found_visible : (n d : ℕ) → found (scoped text tree stood) what n ≡ Some d → IsVisible text tree what n d
      found_visible n d e =
          let f = first_found tree.nodes (seen_at stood n) d e in
          record {
            wanted = first_wanted (seen_at stood n) d f;
            in_scope = seen_scope tree ordered once d n (first_seen (seen_at stood n) d f);
            not_hidden = λ x w s h. elim (first_before (seen_at stood n) d x f w (scope_seen tree ordered once x n s)) [
              | inl one ↦ not_itself ordered once d (subst (λ z. IsInScope tree d z) (sym one) h)
              | inr r ↦ not_itself ordered once d
                  (seen_scope tree ordered once d d (chain_on stood (seen_at stood d) x d r (scope_seen tree ordered once d x h)))
            ];
          }

      visible_so : (n d : ℕ) → IsVisible text tree what n d → (o : Option ℕ) → found (scoped text tree stood) what n ≡ o → o ≡ Some d
      visible_so n d v None e = absurd (not_missed n d v.in_scope v.wanted e)
      visible_so n d v (Some x) e = ap Some (one_visible n x d (found_visible n x e) v)

      pub visible_found : (n d : ℕ) → IsVisible text tree what n d → found (scoped text tree stood) what n ≡ Some d
      visible_found n d v = visible_so n d v (found (scoped text tree stood) what n) refl
