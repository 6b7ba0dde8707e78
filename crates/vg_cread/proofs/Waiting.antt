-- A tree that grows: its nodes stand behind their parts, and those that are no parts yet wait in a row.
use Rattle.std.proofs.Common.{◌≡◌, ◌∙◌, ◌<◌, ◌≤◌, ◌+◌, ◌-◌, ◌⊎◌, inl, inr, ℕ, zero, suc, cond, List, [], ◌∷◌, ◌++◌, length, get_or, take, drop}
use Rattle.std.proofs.Common.{slice_get, Some, refl, sym, ap, subst, arith, length-append}
use Rattle.std.specs.Prelude.{flat_map, count_by, All, AllPairs, ◌==◌, nat_lt}
use Rattle.std.proofs.lemmas.Grind.{common_steps}
use Rattle.std.proofs.lemmas.List.{append-nil, get_or-append-add, take-append-le, drop-append-le, drop_at, take_all, length_push}
use Rattle.std.proofs.lemmas.List.Elements.{All-push}
use Rattle.std.proofs.lemmas.List.Quantifiers.{all_pairs_push}
use Rattle.std.proofs.lemmas.List.Concat.{flat_map-append}
use Rattle.std.proofs.lemmas.List.Sums.{sum_by-append, sum_by-cons}
use Rattle.vg_core.specs.Syntax.{Syntax, with_node, with_parts, list_of, named_by, listed, parts_of, all_parts, IsBehindParts, IsOrdered, IsUsedOnce}
use Rattle.vg_core.specs.declared.tree.Kind.{Kind}
use Rattle.vg_core.specs.declared.tree.Node.{Node}
use Rattle.vg_core.specs.declared.tree.Parts.{Parts}

-- how often a number stands in a list
abbrev pub times : ℕ → List ℕ → ℕ
times n xs = count_by (λ part. part == n) xs

pub record Waiting (tree : Syntax) (row : List ℕ) : Type 0 where
  pub ordered : IsOrdered tree
  pub below : All (λ part. part < length tree.nodes) row
  pub rising : AllPairs (λ one other. one < other) row
  pub uses : (n : ℕ) → times n (all_parts tree) + times n row ≡ cond (nat_lt n (length tree.nodes)) 1 0
  pub top : (n : ℕ) → length tree.nodes ≡ n + 1 → times n row ≡ 1

-- lists
All-back : (P : ℕ → Type 0) (xs ys : List ℕ) → All P (xs ++ ys) → All P ys
All-back P xs ys h = λ k d less. subst P (get_or-append-add xs ys k d) (h (length xs + k) d (omega (arith, less, length-append xs ys)))

front_get : (xs ys : List ℕ) (i d : ℕ) → i < length xs → get_or (xs ++ ys) i d ≡ get_or xs i d
front_get [] ys i d less = absurd (omega (arith, less))
front_get (x ∷ xs) ys zero d less = refl
front_get (x ∷ xs) ys (suc i) d less = front_get xs ys i d (omega (arith, less))

All-front : (P : ℕ → Type 0) (xs ys : List ℕ) → All P (xs ++ ys) → All P xs
All-front P xs ys h = λ k d less. subst P (front_get xs ys k d less) (h k d (omega (arith, less, length-append xs ys)))

pairs-back : (R : ℕ → ℕ → Type 0) (xs ys : List ℕ) → AllPairs R (xs ++ ys) → AllPairs R ys
pairs-back R xs ys h = λ i j d one two.
    subst (λ a. R a (get_or ys j d)) (get_or-append-add xs ys i d)
    (subst (λ b. R (get_or (xs ++ ys) (length xs + i) d) b) (get_or-append-add xs ys j d) (h (length xs + i) (length xs + j) d (omega (arith, one))
    (omega (arith, two, length-append xs ys))))

pairs-front : (R : ℕ → ℕ → Type 0) (xs ys : List ℕ) → AllPairs R (xs ++ ys) → AllPairs R xs
pairs-front R xs ys h = λ i j d one two.
    subst (λ a. R a (get_or xs j d)) (front_get xs ys i d (omega (arith, one, two)))
    (subst (λ b. R (get_or (xs ++ ys) i d) b) (front_get xs ys j d two) (h i j d one (omega (arith, two, length-append xs ys))))

times-append : (n : ℕ) (xs ys : List ℕ) → times n (xs ++ ys) ≡ times n xs + times n ys
times-append n xs ys = sum_by-append (λ x. cond (x == n) 1 0) xs ys

pub times-one : (n x : ℕ) → times n (x ∷ []) ≡ cond (x == n) 1 0
times-one n x = omega (arith, sum_by-cons (λ x. cond (x == n) 1 0) x [])

flat_map_same : {X : Type 0} (f g : X → List ℕ) (xs : List X) → ((i : ℕ) (x : X) → slice_get xs i ≡ Some x → g x ≡ f x) → flat_map g xs ≡ flat_map f xs
flat_map_same f g [] h = refl
flat_map_same f g (x ∷ xs) h = ap (λ l. g x ++ l) (flat_map_same f g xs (λ i y is. h (suc i) y is)) ∙ ap (λ l. l ++ flat_map f xs) (h 0 x refl)

get_pushed : {X : Type 0} (xs : List X) (x y : X) (i : ℕ) → slice_get (xs ++ x ∷ []) i ≡ Some y → (slice_get xs i ≡ Some y) ⊎ ((i ≡ length xs) × (y ≡ x))
get_pushed [] x y zero is = inr (refl, cc)
get_pushed [] x y (suc i) is = absurd (cc)
get_pushed (z ∷ xs) x y zero is = inl is
get_pushed (z ∷ xs) x y (suc i) is = elim (get_pushed xs x y i is) [
  | inl inside ↦ inl inside
  | inr last ↦ inr (omega (arith, last.0), last.1)
]

-- more items
listed_more : (items more : List ℕ) (parts : Parts) → parts.from + parts.count ≤ length items → listed (items ++ more) parts ≡ listed items parts
listed_more items more parts within =
    ap (take parts.count) (drop-append-le parts.from items more (omega (arith, within))) ∙ take-append-le parts.count (drop parts.from items) more
    (grind (arith, common_steps, within))

parts_more : (items more : List ℕ) (kind : Kind) → (list_of kind).from + (list_of kind).count ≤ length items
    → parts_of (items ++ more) kind ≡ parts_of items kind
parts_more items more kind within = ap (λ l. l ++ named_by kind) (listed_more items more (list_of kind) within)

pub listed_last : (items parts : List ℕ) → listed (items ++ parts) (record { from = length items; count = length parts }) ≡ parts
listed_last items parts = ap (take (length parts)) (drop_at items parts (length items) refl) ∙ take_all (length parts) parts (omega arith)

behind_more : (items more : List ℕ) (n : ℕ) (kind : Kind) → IsBehindParts items n kind → IsBehindParts (items ++ more) n kind
behind_more items more n kind h = record {
  within = omega (arith, h.within, length-append items more);
  before = subst (λ l. All (λ part. part < n) l) (sym (parts_more items more kind h.within)) h.before;
  rising = subst (λ l. AllPairs (λ one other. one < other) l) (sym (parts_more items more kind h.within)) h.rising;
}

pub waiting_parts : (tree : Syntax) (row more : List ℕ) → Waiting tree row → Waiting (with_parts tree more) row
waiting_parts tree row more w =
    let same : all_parts (with_parts tree more) ≡ all_parts tree =
    flat_map_same (λ (node : Node). parts_of tree.items node.kind) (λ (node : Node). parts_of (tree.items ++ more) node.kind) tree.nodes
    (λ i node is. parts_more tree.items more node.kind (w.ordered i node is).within) in
    record {
      ordered = λ n node is. behind_more tree.items more n node.kind (w.ordered n node is);
      below = w.below;
      rising = w.rising;
      uses = λ n. ap (λ l. times n l + times n row) same ∙ w.uses n;
      top = w.top;
    }

-- one node more, of which the last that wait are the parts
one_below : (n size : ℕ) → cond (nat_lt n size) 1 0 + cond (size == n) 1 0 ≡ cond (nat_lt n (size + 1)) 1 0
one_below n size = grind (arith, common_steps)

none_below : (n size : ℕ) → size ≡ n → cond {A = ℕ} (nat_lt n size) 1 0 ≡ 0
none_below n size same = grind (arith, common_steps, same)

one_same : (n size : ℕ) → size ≡ n → cond {A = ℕ} (size == n) 1 0 ≡ 1
one_same n size same = grind (arith, common_steps, same)

same_one : (n size : ℕ) → cond {A = ℕ} (size == n) 1 0 ≡ 1 → size ≡ n
same_one n size one = grind (arith, common_steps, one)

used_at : (n root size all : ℕ) → n < size → all + cond (root == n) 1 0 ≡ cond (nat_lt n size) 1 0 → root + 1 ≡ size → all ≡ cond (n + 1 == size) 0 1
used_at n root size all less sum last = grind (arith, common_steps, less, sum, last)

module _ (tree : Syntax) (row : List ℕ) (at : ℕ) (kind : Kind) (within : (list_of kind).from + (list_of kind).count ≤ length tree.items)
    (w : Waiting tree (row ++ parts_of tree.items kind)) where
  front_below : All (λ part. part < length tree.nodes) row
  front_below = All-front (λ part. part < length tree.nodes) row (parts_of tree.items kind) w.below

  longer : length (tree.nodes ++ record { kind = kind; at = at } ∷ []) ≡ length tree.nodes + 1
  longer = length_push tree.nodes (record { kind = kind; at = at })

  whole : all_parts (with_node tree at kind) ≡ all_parts tree ++ parts_of tree.items kind
  whole =
      flat_map-append (λ (node : Node). parts_of tree.items node.kind) tree.nodes (record { kind = kind; at = at } ∷ [])
      ∙ ap (λ l. all_parts tree ++ l) (append-nil (parts_of tree.items kind))

  counted : (n : ℕ) → times n (all_parts tree ++ parts_of tree.items kind) + times n (row ++ length tree.nodes ∷ []) ≡ cond
      (nat_lt n (length tree.nodes + 1)) 1 0
  counted n =
      omega (
        arith,
        times-append n (all_parts tree) (parts_of tree.items kind),
        times-append n row (length tree.nodes ∷ []),
        times-append n row (parts_of tree.items kind),
        times-one n (length tree.nodes),
        w.uses n,
        one_below n (length tree.nodes),
      )

  last_waits : (n : ℕ) → length (tree.nodes ++ record { kind = kind; at = at } ∷ []) ≡ n + 1 → times n (row ++ length tree.nodes ∷ []) ≡ 1
  last_waits n is =
      let same : length tree.nodes ≡ n = omega (arith, longer, is) in
      omega (
        arith,
        times-append n row (length tree.nodes ∷ []),
        times-append n row (parts_of tree.items kind),
        times-one n (length tree.nodes),
        w.uses n,
        none_below n (length tree.nodes) same,
        one_same n (length tree.nodes) same,
      )

  behind : (n : ℕ) (node : Node) → slice_get (tree.nodes ++ record { kind = kind; at = at } ∷ []) n ≡ Some node → IsBehindParts tree.items n node.kind
  behind n node is = elim (get_pushed tree.nodes (record { kind = kind; at = at }) node n is) [
    | inl inside ↦ w.ordered n node inside
    | inr last ↦
        rw (last.0, last.1) (record {
          within = within;
          before = All-back (λ part. part < length tree.nodes) row (parts_of tree.items kind) w.below;
          rising = pairs-back (λ one other. one < other) row (parts_of tree.items kind) w.rising;
        })
  ]

  pub waiting_node : Waiting (with_node tree at kind) (row ++ length tree.nodes ∷ [])
  waiting_node = record {
    ordered = behind;
    below = subst (λ m. All (λ part. part < m) (row ++ length tree.nodes ∷ [])) (sym longer)
        (All-push (λ part. part < length tree.nodes + 1) row (length tree.nodes) (λ k d less. omega (arith, front_below k d less)) (omega arith));
    rising = all_pairs_push (λ one other. one < other) row (length tree.nodes) (pairs-front (λ one other. one < other) row (parts_of tree.items kind)
        w.rising) front_below;
    uses = λ n. ap (λ l. times n l + times n (row ++ length tree.nodes ∷ [])) whole ∙ counted n ∙ ap (λ m. cond (nat_lt n m) 1 0) (sym longer);
    top = last_waits;
  }

pub waiting_none : Waiting (record { nodes = []; items = [] }) []
waiting_none = record {
  ordered = λ n node is. absurd (cc);
  below = λ k d less. absurd (omega (arith, less));
  rising = λ i j d one two. absurd (omega (arith, one, two));
  uses = λ n. grind (arith, common_steps);
  top = λ n is. absurd (omega (arith, is));
}

-- where the root alone waits, it is the last, and each other node was used
pub used_once : (tree : Syntax) (root : ℕ) → Waiting tree (root ∷ []) → IsUsedOnce tree
used_once tree root w =
    let some : 0 < length tree.nodes = omega (arith, w.below 0 0 (omega arith)) in
    let end = length tree.nodes - 1 in
    let last : root ≡ end = same_one end root (omega (arith, times-one end root, w.top end (omega (arith, some)))) in
    record {
      some = some;
      once = λ n less. used_at n root (length tree.nodes) (times n (all_parts tree)) less (omega (arith, times-one n root, w.uses n))
          (omega (arith, last, some));
    }
