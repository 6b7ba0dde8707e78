-- Which nodes a form leaves waiting for the node that they are parts of: those that its value names.
use Rattle.std.proofs.Common.{◌≡◌, ◌∙◌, ◌≤◌, ◌+◌, inl, inr, ℕ, zero, suc, Bool, List, [], ◌∷◌, ◌++◌, length, Some, sym, ap, subst, arith, length-append}
use Rattle.std.proofs.lemmas.List.{append-nil, append_assoc}
use Rattle.vg_core.specs.Syntax.{Syntax, with_parts, list_of, named_by, listed, parts_of}
use Rattle.vg_core.specs.declared.tree.Kind.{Kind}
use Rattle.vg_core.specs.declared.tree.Parts.{Parts}
use Rattle.vg_ctok.specs.declared.kinds.Token.{Token}
use Rattle.vg_cread.specs.Forms.{Form, Plain, Place, One, Unless, Both, Either, Chain, Inner, Made, Nested, Growth, node, node_with}
use Rattle.vg_cread.specs.Places.{State, place_at}
use Rattle.vg_cread.specs.Spelling.{Spelled}
use Rattle.vg_cread.specs.Guided.{GuidedTurns, guided_with}
use Rattle.vg_cread.proofs.Waiting.{Waiting, waiting_node, waiting_parts, listed_last}

-- a growth takes these nodes, and leaves those that its value names
abbrev pub Takes : {A : Type 0} → (A → List ℕ) → Growth A → List ℕ → Type 0
Takes names g parts = (tree : Syntax) (row : List ℕ) → Waiting tree (row ++ parts) → Waiting (g tree).1 (row ++ names (g tree).0)

-- behind these nodes a form leaves a value and nodes of which P holds
abbrev pub Leaves : {A : Type 0} → Form A → List ℕ → (A → List ℕ → Type 0) → Type 0
Leaves (Plain a) l P = P a l
Leaves Place l P = (at : ℕ) → P at l
Leaves (One test) l P = (x : Token) (a : _) → test x ≡ Some a → P a l
Leaves (Unless test) l P = (a : Unit {0}) → P a l
Leaves (Both f x) l P = Leaves f l (λ g m. Leaves x m (λ a k. P (g a) k))
Leaves (Either test x y) l P = Leaves x l P × Leaves y l P
Leaves (Chain test x more) l P =
    (names : _ → List ℕ) × Leaves x [] (λ a m. m ≡ names a) × Leaves more [] (λ g m. (at : ℕ) (a : _) → Takes names (g at a) (names a ++ m))
    × ((a : _) → P a (l ++ names a))
Leaves (Inner n) l P = (k : ℕ) → P k (l ++ k ∷ [])
Leaves (Made f) l P = Leaves f [] (λ g m. (names : _ → List ℕ) × Takes names g m × ((a : _) → P a (l ++ names a)))

-- a value with the nodes that wait at a state
abbrev pub Left : {A : Type 0} → List ℕ → (A → List ℕ → Type 0) → A → State → Type 0
Left row P a t = (m : List ℕ) × Waiting t.tree (row ++ m) × P a m

assoc : (tree : Syntax) (a b c : List ℕ) → Waiting tree ((a ++ b) ++ c) → Waiting tree (a ++ (b ++ c))
assoc tree a b c w = subst (λ l. Waiting tree l) (append_assoc a b c) w

module _ (toks : List Token) where
  turns_leave : {A : Type 0} (names : A → List ℕ) (n : ℕ) (test : Token → Bool) (says : Spelled (ℕ → A → Growth A))
      → ((s : State) (g : ℕ → A → Growth A) (t : State) (row : List ℕ) → says s g t → Waiting s.tree row → (m : List ℕ) × Waiting t.tree (row ++ m)
      × ((at : ℕ) (a : A) → Takes names (g at a) (names a ++ m)))
      → (at : ℕ) (a : A) (s : State) (b : A) (t : State) (row : List ℕ) → GuidedTurns toks n test says at a s b t → Waiting s.tree (row ++ names a)
      → Waiting t.tree (row ++ names b)
  turns_leave names zero test says h at a s b t row (unless, same, to) w =
      subst (λ (u : State). Waiting u.tree (row ++ names b)) (sym to) (subst (λ c. Waiting s.tree (row ++ names c)) (sym same) w)
  turns_leave names (suc n) test says h at a s b t row (so, g, u, one, rest) w =
      let first = h s g u (row ++ names a) one w in
      turns_leave names n test says h at (g at a u.tree).0 (record u { tree = (g at a u.tree).1 }) b t row rest
      (first.2 at a u.tree row (assoc u.tree row (names a) first.0 first.1))

  abbrev pub Keeps : (Nested → Spelled ℕ) → Type 0
  Keeps says = (n : Nested) (s : State) (a : ℕ) (t : State) (row : List ℕ) → says n s a t → Waiting s.tree row → Waiting t.tree (row ++ a ∷ [])

  pub leaves : (says : Nested → Spelled ℕ) → Keeps says
      → {A : Type 0} (f : Form A) (l : List ℕ) (P : A → List ℕ → Type 0) → Leaves f l P → (s : State) (a : A) (t : State) (row : List ℕ)
      → guided_with toks says f s a t → Waiting s.tree (row ++ l) → Left row P a t
  leaves says keep (Plain b) l P h s a t row (same, to) w = subst (λ (u : State). Left row P a u) (sym to) (subst (λ c. Left row P c s) (sym same) (l, w, h))
  leaves says keep Place l P h s a t row (same, to) w = subst (λ (u : State). Left row P a u) (sym to) (l, w, h a)
  leaves says keep (One test) l P h s a t row (x, found, is, to) w = subst (λ (u : State). Left row P a u) (sym to) (l, w, h x a is)
  leaves says keep (Unless test) l P h s a t row (unless, to) w = subst (λ (u : State). Left row P a u) (sym to) (l, w, h a)
  leaves says keep (Both f x) l P h s b t row (g, u, a, one, two, same) w =
      let first = leaves says keep f l (λ g m. Leaves x m (λ a k. P (g a) k)) h s g u row one w in
      let second = leaves says keep x first.0 (λ a k. P (g a) k) first.2 u a t row two first.1 in
      subst (λ c. Left row P c t) (sym same) second
  leaves says keep (Either test x y) l P h s a t row (inl (so, one)) w = leaves says keep x l P h.0 s a t row one w
  leaves says keep (Either test x y) l P h s a t row (inr (unless, two)) w = leaves says keep y l P h.1 s a t row two w
  leaves says keep (Chain test x more) l P h s b t row (a, u, n, one, rest) w =
      let first = leaves says keep x [] (λ a m. m ≡ h.0 a) h.1 s a u (row ++ l) one (subst (λ k. Waiting s.tree k) (sym (append-nil (row ++ l))) w) in
      let begun : Waiting u.tree ((row ++ l) ++ h.0 a) = subst (λ k. Waiting u.tree ((row ++ l) ++ k)) first.2 first.1 in
      let ended = turns_leave h.0 n test (guided_with toks says more)
      (λ v g r row one w. leaves says keep more [] (λ g m. (at : ℕ) (a : _) → Takes h.0 (g at a) (h.0 a ++ m)) h.2 v g r row one
      (subst (λ k. Waiting v.tree k) (sym (append-nil row)) w))
      (place_at toks s.at) a u b t (row ++ l) rest begun in
      (l ++ h.0 b, assoc t.tree row l (h.0 b) ended, h.3 b)
  leaves says keep (Inner n) l P h s a t row is w = (l ++ a ∷ [], assoc t.tree row l (a ∷ []) (keep n s a t (row ++ l) is w), h a)
  leaves says keep (Made f) l P h s b t row (g, u, one, same, to) w =
      let first = leaves says keep f [] (λ g m. (names : _ → List ℕ) × Takes names g m × ((a : _) → P a (l ++ names a))) h s g u (row ++ l) one
      (subst (λ k. Waiting s.tree k) (sym (append-nil (row ++ l))) w) in
      let take = first.2 in
      let made = take.1 u.tree (row ++ l) first.1 in
      subst (λ (v : State). Left row P b v) (sym to) (subst (λ c. Left row P c (record u { tree = (g u.tree).1 })) (sym same)
      (l ++ take.0 (g u.tree).0, assoc (g u.tree).1 row l (take.0 (g u.tree).0) made, take.2 (g u.tree).0))

-- rules: a form that leaves no node, and one that leaves those that its value names
abbrev pub Passes : {A : Type 0} → Form A → Type 1
Passes {A} f = (l : List ℕ) (P : A → List ℕ → Type 0) → ((a : A) → P a l) → Leaves f l P

abbrev pub Names : {A : Type 0} → Form A → (A → List ℕ) → Type 1
Names {A} f names = (l : List ℕ) (P : A → List ℕ → Type 0) → ((a : A) → P a (l ++ names a)) → Leaves f l P

abbrev pub itself : ℕ → List ℕ
itself n = n ∷ []

-- a node that takes these parts
pub takes_node : (at : ℕ) (kind : Kind) (parts : List ℕ) → ((items : List ℕ) → ((list_of kind).from + (list_of kind).count ≤ length items)
    × (parts_of items kind ≡ parts)) → Takes itself (node at kind) parts
takes_node at kind parts is tree row w =
    waiting_node tree row at kind (is tree.items).0 (subst (λ l. Waiting tree (row ++ l)) (sym (is tree.items).1) w)

pub takes_list : (at : ℕ) (kind : Parts → Kind) (list rest parts : List ℕ) → ((ps : Parts) → (list_of (kind ps) ≡ ps) × (named_by (kind ps) ≡ rest))
    → parts ≡ list ++ rest → Takes itself (node_with at kind list) parts
takes_list at kind list rest parts is same tree row w =
    let place : Parts = record { from = length tree.items; count = length list } in
    let all : parts_of (tree.items ++ list) (kind place) ≡ parts =
    ap (λ ps. listed (tree.items ++ list) ps ++ named_by (kind place)) (is place).0 ∙ ap (λ l. l ++ named_by (kind place))
    (listed_last tree.items list) ∙ ap (λ l. list ++ l) (is place).1 ∙ sym same in
    waiting_node (with_parts tree list) row at (kind place) (subst (λ (ps : Parts). ps.from + ps.count ≤ length (tree.items ++ list))
    (sym (is place).0) (omega (arith, length-append tree.items list))) (subst (λ l. Waiting (with_parts tree list) (row ++ l)) (sym all)
    (waiting_parts tree (row ++ parts) list w))
