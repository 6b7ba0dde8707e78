-- The tests of lawfulness are true exactly where their definitions hold.
use Rattle.std.proofs.Common.{◌≡◌, ℕ, zero, suc, ◌+◌, ◌-◌, ◌<◌, ◌≤◌, ◌^◌, List, [], ◌∷◌, length, Option, Some, None, Bool, true, false, ◌&&◌, T, cond}
use Rattle.std.proofs.Common.{refl, sym, ◌∙◌, ap, subst, arith}
use Rattle.std.specs.Prelude.{◌==◌, nat_lt, nat_le, slice_get, unwrap_or, is_some, is_none, IsSome}
use Rattle.std.specs.List.{list_all, zip}
use Rattle.std.specs.Bool.{Decides}
use Rattle.std.specs.declared.cmp.Ordering.{Ordering}
use Rattle.std.specs.declared.cmp.Ordering.TheVariants.{Less, Equal, Greater}
use Rattle.std.specs.Ordering.{nat_cmp, eq_by_cmp, is_lt, is_eq}
use Rattle.std.specs.Cmp.{IsTotalOrder, nat_cmp_total, tied_itself}
use Rattle.std.specs.Cmp.Lexicographic.{slice_cmp, nat_list_cmp_total}
use Rattle.std.specs.FinMap.{FinMap, IsAntisymmetric, get, len, entries, entries_sorted, empty, find, is_sorted, get-entries, get-empty}
use Rattle.std.specs.FinMap.{nat_cmp-IsAntisymmetric, slice_cmp-IsAntisymmetric}
use Rattle.std.specs.FinMap.Entries.{below_all}
use Rattle.std.proofs.lemmas.Bool.Decides.{Decides-like, Decides-not, Decides-and, Decides-ltb, Decides-eqb, Decides-by_and, Decides-below_and, nat_tests}
use Rattle.std.proofs.lemmas.Slice.Eq.{bytes_eq-Decides}
use Rattle.vg_stree.specs.declared.config.Route.{Route}
use Rattle.vg_stree.specs.declared.shape.Rule.{Rule}
use Rattle.vg_stree.specs.declared.shape.Size.{Size}
use Rattle.vg_stree.specs.declared.shape.ObjectKind.{ObjectKind}
use Rattle.vg_stree.specs.declared.shape.ObjectKind.TheVariants as kinds
use Rattle.vg_stree.specs.declared.shape.Object as objects
use Rattle.vg_stree.specs.Declarations.{Declarations, fields_of, struct_bytes}
use Rattle.vg_stree.specs.Specification.{Specification}
use Rattle.vg_abs.specs.declared.object.Object.{Object}
use Rattle.vg_abs.specs.declared.object.Object.TheVariants.{Map, Chain, Keys, Cells, Prefixes}
use Rattle.vg_abs.specs.Tables.{Link, Vector, Routing, KeyTable, CellTable}
use Rattle.vg_abs.specs.State.{State, link_in, vector_in}
use Rattle.vg_abs.specs.Answers.{is_before}
use Rattle.vg_abs.specs.Fields.{values_in}
use Rattle.vg_abs.specs.Expressions.{RuleHolds}
use Rattle.vg_abs.specs.Shape.{size_of, cell_struct, AreBytes, KeysHave, CellsHave, IsLinkOf, IsVectorOf, IsObjectOf, IsShaped}
use Rattle.vg_abs.specs.Lawful.{Paired, IsTied, IsLawfulLink, IsBound, IsLawfulPart, IsLawfulVector, HasLawfulRoutes, HasLawfulAddresses}
use Rattle.vg_abs.specs.Lawful.{IsLawfulObject, SpeaksOf, Holds, IsLawful, count_of, is_between, is_from}
use Rattle.vg_abs.specs.LawfulTests as tests
use Rattle.vg_abs.specs.LawfulTests.{implies}

some_is : {X : Type 0} (x y : X) → Some x ≡ Some y → x ≡ y
some_is x y same = ap (λ found. unwrap_or found x) same

none_some : {X : Type 0} (x : X) → None ≡ Some x → ⊥
none_some x same = absurd (cc)

false_true : false ≡ true → ⊥
false_true e = absurd (cc)

and_first : (a b : Bool) → (a && b) ≡ true → a ≡ true
and_first true b e = refl
and_first false b e = e

and_second : (a b : Bool) → (a && b) ≡ true → b ≡ true
and_second true b e = e
and_second false b e = absurd (false_true e)

and_both : (a b : Bool) → a ≡ true → b ≡ true → (a && b) ≡ true
and_both true b p q = q
and_both false b p q = p

t_first : (a b : Bool) → T (a && b) → T a
t_first true b p = tt
t_first false b p = p

t_second : (a b : Bool) → T (a && b) → T b
t_second true b p = p
t_second false b p = absurd p

less_is : (o : Ordering) → T (is_lt o) → o ≡ Less
less_is Less p = refl
less_is Equal p = absurd p
less_is Greater p = absurd p

equal_is : (o : Ordering) → is_eq o ≡ true → o ≡ Equal
equal_is Less p = absurd (false_true p)
equal_is Equal p = refl
equal_is Greater p = absurd (false_true p)

-- what all entries pass, and what is told
module _ {K X : Type 0} {R : K → K → Ordering} (total : IsTotalOrder R) (same : IsAntisymmetric R) (test : K × X → Bool) where
  below_none : (q : K) (es : List (K × X)) → T (below_all R q es) → find R q es ≡ None
  below_none q [] h = refl
  below_none q (e ∷ es) h =
      ap (λ r. cond (is_eq r) (Some e.1) (find R q es)) (less_is (R q e.0) (t_first (is_lt (R q e.0)) (below_all R q es) h))
      ∙ below_none q es (t_second (is_lt (R q e.0)) (below_all R q es) h)

  passed : (es : List (K × X)) → list_all test es ≡ true → (k : K) (v : X) → find R k es ≡ Some v → test (k, v) ≡ true
  passed [] all k v found = absurd (none_some v found)
  passed (e ∷ es) all k v found =
      elim (eq_by_cmp R k e.0) as (λ b. eq_by_cmp R k e.0 ≡ b → cond b (Some e.1) (find R k es) ≡ Some v → test (k, v) ≡ true) [
        | true ↦ λ tied is. subst (λ (key : K). test (key, v) ≡ true) (sym (same k e.0 (equal_is (R k e.0) tied)))
            (subst (λ (value : X). test (e.0, value) ≡ true) (some_is e.1 v is) (and_first (test e) (list_all test es) all))
        | false ↦ λ tied is. passed es (and_second (test e) (list_all test es) all) k v is
      ] refl found

  found_later : (e : K × X) (es : List (K × X)) → T (below_all R e.0 es) → (k : K) (v : X) → find R k es ≡ Some v → find R k (e ∷ es) ≡ Some v
  found_later e es below k v found =
      elim (eq_by_cmp R k e.0) as (λ b. eq_by_cmp R k e.0 ≡ b → cond b (Some e.1) (find R k es) ≡ Some v) [
        | true ↦ λ tied. absurd (none_some v (sym (below_none e.0 es below) ∙ ap (λ key. find R key es) (sym (same k e.0 (equal_is (R k e.0) tied))) ∙ found))
        | false ↦ λ tied. found
      ] refl

  all_pass : (es : List (K × X)) → T (is_sorted R es) → ((k : K) (v : X) → find R k es ≡ Some v → test (k, v) ≡ true) → list_all test es ≡ true
  all_pass [] sorted told = refl
  all_pass (e ∷ es) sorted told = and_both (test e) (list_all test es)
      (told e.0 e.1 (ap (λ r. cond (is_eq r) (Some e.1) (find R e.0 es)) (tied_itself total e.0)))
      (all_pass es (t_second (below_all R e.0 es) (is_sorted R es) sorted) (λ k v found. told k v
      (found_later e es (t_first (below_all R e.0 es) (is_sorted R es) sorted) k v found)))

  pub told_decides : (P : K → X → Type 0) (m : FinMap R X) → ((k : K) (v : X) → get m k ≡ Some v → Decides (test (k, v)) (P k v)) →
      Decides (list_all test (entries m)) ((k : K) (v : X) → get m k ≡ Some v → P k v)
  told_decides P m each = (
    λ all k v found. (each k v found).0 (passed (entries m) all k v (sym (get-entries m k) ∙ found)),
    λ told. all_pass (entries m) (entries_sorted m) (λ k v found. (let is = get-entries m k ∙ found in (each k v is).1 (told k v is))),
  )

pub numbers_decide : {X : Type 0} (test : ℕ × X → Bool) (P : ℕ → X → Type 0) (m : FinMap nat_cmp X)
    → ((k : ℕ) (v : X) → get m k ≡ Some v → Decides (test (k, v)) (P k v)) →
    Decides (list_all test (entries m)) ((k : ℕ) (v : X) → get m k ≡ Some v → P k v)
numbers_decide test P m each = told_decides nat_cmp_total nat_cmp-IsAntisymmetric test P m each

pub keys_decide : {X : Type 0} (test : List ℕ × X → Bool) (P : List ℕ → X → Type 0) (m : FinMap (slice_cmp nat_cmp) X)
    → ((k : List ℕ) (v : X) → get m k ≡ Some v → Decides (test (k, v)) (P k v)) →
    Decides (list_all test (entries m)) ((k : List ℕ) (v : X) → get m k ≡ Some v → P k v)
keys_decide test P m each = told_decides nat_list_cmp_total (slice_cmp-IsAntisymmetric nat_cmp-IsAntisymmetric) test P m each

-- tests on numbers, and one test where another is true
le_decides : (a b : ℕ) → Decides (nat_le a b) (a ≤ b)
le_decides a b = (λ e. grind (arith, nat_tests), λ h. grind (arith, nat_tests))

some_decides : {X : Type 0} (found : Option X) → Decides (is_some found) (IsSome found)
some_decides found = (λ e. e, λ e. e)

then_is : (a b : Bool) → implies a b ≡ true → a ≡ true → b ≡ true
then_is true b e p = e
then_is false b e p = absurd (false_true p)

implies_is : (a b : Bool) → (a ≡ true → b ≡ true) → implies a b ≡ true
implies_is true b f = f refl
implies_is false b f = refl

implies_decides : {P Q : Type 0} (a b : Bool) → Decides a P → Decides b Q → Decides (implies a b) (P → Q)
implies_decides a b p q = (λ e given. q.0 (then_is a b e (p.1 given)), λ f. implies_is a b (λ is. q.1 (f (p.0 is))))

is_same : (b : Bool) → Decides b (b ≡ true)
is_same b = (λ e. e, λ e. e)

-- the shape
bytes_decide : (count : ℕ) (bytes : List ℕ) → Decides (tests.are_bytes count bytes) (AreBytes count bytes)
bytes_decide count bytes =
    Decides-like _ (λ all. record { counted = all.0; small = all.1 }) (λ are. (are.counted, are.small))
    (Decides-and _ _ (Decides-eqb (length bytes) count)
    (Decides-by_and (λ byte. nat_lt byte 256) (λ byte. byte < 2 ^ 8) (list_all (λ byte. nat_lt byte 256)) (λ byte. Decides-ltb byte 256) refl
    (λ _ _. refl) bytes))

keys_have_decide : (count : ℕ) (keys : KeyTable) → Decides (tests.keys_have count keys) (KeysHave count keys)
keys_have_decide count keys = keys_decide (λ entry. tests.are_bytes count entry.0) (λ key answer. AreBytes count key) keys
    (λ key answer found. bytes_decide count key)

cells_have_decide : (count : ℕ) (cells : CellTable) → Decides (tests.cells_have count cells) (CellsHave count cells)
cells_have_decide count cells = numbers_decide (λ entry. tests.are_bytes count entry.1) (λ index bytes. AreBytes count bytes) cells
    (λ index bytes found. bytes_decide count bytes)

link_of_decides : (shape : Declarations) (numbers : List ℕ) (key : ℕ) (capacity : Size) (link : Link)
    → Decides (tests.is_link_of shape numbers key capacity link) (IsLinkOf shape numbers key capacity link)
link_of_decides shape numbers key capacity link =
    Decides-like _ (λ all. record { capacity_is = all.0; key_length_is = all.1.0; keys_have = all.1.1.0; cells_have = all.1.1.1 })
    (λ is. (is.capacity_is, (is.key_length_is, (is.keys_have, is.cells_have))))
    (Decides-and _ _ (Decides-eqb link.capacity (size_of numbers capacity)) (Decides-and _ _ (Decides-eqb link.key_length (struct_bytes shape key))
    (Decides-and _ _ (keys_have_decide link.key_length link.keys) (cells_have_decide link.key_length link.cells))))

vector_of_decides : (shape : Declarations) (numbers : List ℕ) (cell : ℕ) (count : Size) (vector : Vector)
    → Decides (tests.is_vector_of shape numbers cell count vector) (IsVectorOf shape numbers cell count vector)
vector_of_decides shape numbers cell count vector =
    Decides-like _ (λ all. record { count_is = all.0; cells_have = all.1 }) (λ is. (is.count_is, is.cells_have))
    (Decides-and _ _ (Decides-eqb vector.cell_count (size_of numbers count)) (cells_have_decide (struct_bytes shape cell) vector.cells))

object_of_decides : (shape : Declarations) (numbers : List ℕ) (kind : ObjectKind) (object : Object)
    → Decides (tests.is_object_of shape numbers kind object) (IsObjectOf shape numbers kind object)
object_of_decides shape numbers (kinds.Map key capacity) (Map link) = link_of_decides shape numbers key capacity link
object_of_decides shape numbers kinds.Chain Chain = (λ _. tt, λ _. refl)
object_of_decides shape numbers kinds.Keys Keys = (λ _. tt, λ _. refl)
object_of_decides shape numbers (kinds.Vector cell count) (Cells vector) = vector_of_decides shape numbers cell count vector
object_of_decides shape numbers (kinds.Table low high) (Prefixes prefixes) = (λ _. tt, λ _. refl)
object_of_decides shape numbers _ _ = (λ e. false_true e, λ no. absurd no)

zip_decides : (test : objects.Object × Object → Bool) (P : objects.Object → Object → Type 0)
    → ((d : objects.Object) (o : Object) → Decides (test (d, o)) (P d o)) → (ds : List objects.Object) (os : List Object) →
    Decides (list_all test (zip ds os)) ((number : ℕ) (d : objects.Object) (o : Object) → slice_get ds number ≡ Some d → slice_get os number ≡ Some o → P d o)
zip_decides test P each [] os = (λ _ number d o there found. absurd (none_some d there), λ _. refl)
zip_decides test P each (d ∷ ds) [] = (λ _ number e o there found. absurd (none_some o found), λ _. refl)
zip_decides test P each (d ∷ ds) (o ∷ os) = (
  λ all number e p there found. zip_at test P each d o ds os (and_first (test (d, o)) (list_all test (zip ds os)) all)
      (λ n. (zip_decides test P each ds os).0 (and_second (test (d, o)) (list_all test (zip ds os)) all) n) number e p there found,
  λ told. and_both (test (d, o)) (list_all test (zip ds os)) ((each d o).1 (told 0 d o refl refl)) ((zip_decides test P each ds os).1 (λ n. told (suc n))),
) where
  zip_at : (test : objects.Object × Object → Bool) (P : objects.Object → Object → Type 0) →
      ((d : objects.Object) (o : Object) → Decides (test (d, o)) (P d o)) →
      (d : objects.Object) (o : Object) (ds : List objects.Object) (os : List Object) → test (d, o) ≡ true →
      ((n : ℕ) (e : objects.Object) (p : Object) → slice_get ds n ≡ Some e → slice_get os n ≡ Some p → P e p) →
      (number : ℕ) (e : objects.Object) (p : Object) → slice_get (d ∷ ds) number ≡ Some e → slice_get (o ∷ os) number ≡ Some p → P e p
  zip_at test P each d o ds os here later zero e p there found =
      subst (λ (x : objects.Object). P x p) (some_is d e there) (subst (λ (x : Object). P d x) (some_is o p found) ((each d o).0 here))
  zip_at test P each d o ds os here later (suc number) e p there found = later number e p there found

shaped_decides : (shape : Declarations) (numbers : List ℕ) (s : State) → Decides (tests.is_shaped shape numbers s.objects) (IsShaped shape numbers s)
shaped_decides shape numbers s =
    Decides-like _ (λ all. record { as_many = all.0; each = all.1 }) (λ is. (is.as_many, is.each))
    (Decides-and _ _ (Decides-eqb (length s.objects) (length shape.objects))
    (zip_decides (λ pair. tests.is_object_of shape numbers pair.0.kind pair.1) (λ d o. IsObjectOf shape numbers d.kind o)
    (λ d o. object_of_decides shape numbers d.kind o) shape.objects s.objects))

-- ties
index_decides : (found : Option (Option ℕ)) (index : ℕ) → Decides (tests.has_index found index) (found ≡ Some (Some index))
index_decides None index = (λ e. absurd (false_true e), λ e. absurd (none_some (Some index) e))
index_decides (Some None) index = (λ e. absurd (false_true e), λ e. absurd (none_some index (some_is None (Some index) e)))
index_decides (Some (Some other)) index =
    Decides-like _ (λ same. ap (λ n. Some (Some n)) same) (λ e. some_is other index (some_is (Some other) (Some index) e)) (Decides-eqb other index)

time_decides : (found : Option (Option ℕ)) (highest : ℕ) → Decides (tests.has_time found highest) ((time : ℕ) × ((found ≡ Some (Some time)) × (time ≤ highest)))
time_decides None highest = (λ e. absurd (false_true e), λ e. absurd (none_some (Some e.0) e.1.0))
time_decides (Some None) highest = (λ e. absurd (false_true e), λ e. absurd (none_some e.0 (some_is None (Some e.0) e.1.0)))
time_decides (Some (Some time)) highest =
    Decides-like _ (λ early. (time, (refl, early)))
    (λ e. subst (λ (n : ℕ). n ≤ highest) (sym (some_is time e.0 (some_is (Some time) (Some e.0) e.1.0))) e.1.1) (le_decides time highest)

key_decides : (found : Option (List ℕ)) (key : List ℕ) → Decides (tests.has_key found key) (found ≡ Some key)
key_decides None key = (λ e. absurd (false_true e), λ e. absurd (none_some key e))
key_decides (Some bytes) key = Decides-like _ (λ same. ap (λ b. Some b) same) (λ e. some_is bytes key e) (bytes_eq-Decides bytes key)

paired_decides : (link : Link) (key : List ℕ) (index : ℕ) → Decides (tests.is_paired link key index) ((time : ℕ) × Paired link key index time)
paired_decides link key index =
    Decides-like _ (λ all. (all.1.0.0, record { index_is = all.0; time_is = all.1.0.1.0; cell_is = all.1.1.0; inside = all.1.1.1; early = all.1.0.1.1 }))
    (λ is. (is.1.index_is, ((is.0, (is.1.time_is, is.1.early)), (is.1.cell_is, is.1.inside))))
    (Decides-and _ _ (index_decides (get link.keys key) index) (Decides-and _ _ (time_decides (get link.times index) link.highest)
    (Decides-and _ _ (key_decides (get link.cells index) key) (Decides-ltb index link.capacity))))

mapped_decides : (link : Link) (key : List ℕ) (answer : Option ℕ) → Decides (tests.is_mapped link key answer)
    ((index : ℕ) → answer ≡ Some index → (time : ℕ) × Paired link key index time)
mapped_decides link key None = (λ _ index is. absurd (none_some index is), λ _. refl)
mapped_decides link key (Some index) = (
  λ e other is. subst (λ (n : ℕ). (time : ℕ) × Paired link key n time) (some_is index other is) ((paired_decides link key index).0 e),
  λ f. (paired_decides link key index).1 (f index refl),
)

-- the pair of an allocated index has its time
at_time : (link : Link) (key : List ℕ) (index time : ℕ) → get link.times index ≡ Some (Some time) → (other : ℕ) × Paired link key index other
    → Paired link key index time
at_time link key index time found (other, pair) =
    subst (λ (n : ℕ). Paired link key index n) (some_is other time (some_is (Some other) (Some time) (sym pair.time_is ∙ found))) pair

has_pair_decides : (link : Link) (index time : ℕ) (cell : Option (List ℕ)) → get link.cells index ≡ cell → get link.times index ≡ Some (Some time) →
    Decides (tests.has_pair link index cell) ((key : List ℕ) × Paired link key index time)
has_pair_decides link index time None is found = (λ e. absurd (false_true e), λ (key, pair). absurd (none_some key (sym is ∙ pair.cell_is)))
has_pair_decides link index time (Some bytes) is found = (
  λ e. (bytes, at_time link bytes index time found ((paired_decides link bytes index).0 e)),
  λ (key, pair). (paired_decides link bytes index).1 (time, subst (λ (k : List ℕ). Paired link k index time) (some_is key bytes (sym pair.cell_is ∙ is)) pair),
)

held_decides : (link : Link) (index : ℕ) (answer : Option ℕ) → get link.times index ≡ Some answer
    → Decides (tests.is_held link index answer) ((time : ℕ) → answer ≡ Some time → (key : List ℕ) × Paired link key index time)
held_decides link index None found = (λ _ time is. absurd (none_some time is), λ _. refl)
held_decides link index (Some time) found = (
  λ e other is. subst (λ (n : ℕ). (key : List ℕ) × Paired link key index n) (some_is time other is)
      ((has_pair_decides link index time (get link.cells index) refl found).0 e),
  λ f. (has_pair_decides link index time (get link.cells index) refl found).1 (f time refl),
)

tied_decides : (now : ℕ) (link : Link) → Decides (tests.is_tied now link) (IsTied now link)
tied_decides now link =
    Decides-like _ (λ all. record {
      mapped = λ key index found. all.0 key (Some index) found index refl;
      allocated = λ index time found. all.1.0 index (Some time) found time refl;
      alike = all.1.1.0;
      within = all.1.1.1.0;
      past = all.1.1.1.1;
    })
    (λ is. (
      λ key answer found index same. is.mapped key index (found ∙ ap (λ a. Some a) same),
      (λ index answer found time same. is.allocated index time (found ∙ ap (λ a. Some a) same), (is.alike, (is.within, is.past))),
    ))
    (Decides-and _ _ (keys_decide (λ entry. tests.is_mapped link entry.0 entry.1) (λ key answer. (index : ℕ) → answer ≡ Some index → (time : ℕ)
    × Paired link key index time) link.keys (λ key answer found. mapped_decides link key answer))
    (Decides-and _ _ (numbers_decide (λ entry. tests.is_held link entry.0 entry.1) (λ index answer. (time : ℕ) → answer ≡ Some time → (key : List ℕ)
    × Paired link key index time) link.times (λ index answer found. held_decides link index answer found))
    (Decides-and _ _ (Decides-eqb link.size link.count) (Decides-and _ _ (le_decides link.size link.capacity) (le_decides link.highest now)))))

-- a full state's link
there_decides : (cells : CellTable) (count : ℕ) → Decides (tests.all_there cells count) ((index : ℕ) → index < count → IsSome (get cells index))
there_decides cells count = Decides-below_and (λ k. is_some (get cells k)) (λ k. IsSome (get cells k)) (tests.all_there cells)
    (λ k. some_decides (get cells k)) refl (λ _. refl) count

end_decides : (cells : CellTable) (count : ℕ) → Decides (tests.cells_end cells count) ((index : ℕ) (bytes : List ℕ) → get cells index ≡ Some bytes
    → index < count)
end_decides cells count = numbers_decide (λ entry. nat_lt entry.0 count) (λ index bytes. index < count) cells (λ index bytes found. Decides-ltb index count)

link_decides : (now : ℕ) (link : Link) → Decides (tests.is_lawful_link now link) (IsLawfulLink now link)
link_decides now link =
    Decides-like _ (λ all. record {
      tied = all.0;
      no_absent = all.1.0;
      no_free = all.1.1.0;
      all_keys = all.1.1.1.0;
      all_indices = all.1.1.1.1.0;
      all_cells = all.1.1.1.1.1.0;
      no_more_cells = all.1.1.1.1.1.1.0;
      no_bounds = all.1.1.1.1.1.1.1;
    })
    (λ is. (is.tied, (is.no_absent, (is.no_free, (is.all_keys, (is.all_indices, (is.all_cells, (is.no_more_cells, is.no_bounds))))))))
    (Decides-and _ _ (tied_decides now link)
    (Decides-and _ _ (keys_decide (λ entry. is_some entry.1) (λ key answer. IsSome answer) link.keys (λ key answer found. some_decides answer))
    (Decides-and _ _ (numbers_decide (λ entry. is_some entry.1) (λ index answer. IsSome answer) link.times (λ index answer found. some_decides answer))
    (Decides-and _ _ (Decides-eqb link.size (len link.keys)) (Decides-and _ _ (Decides-eqb link.count (len link.times))
    (Decides-and _ _ (there_decides link.cells link.capacity) (Decides-and _ _ (end_decides link.cells link.capacity) (Decides-eqb (len link.bounds) 0))))))))

-- a partial state's link
bound_decides : (link : Link) (bound before : ℕ) → Decides (tests.is_bound link bound before) (IsBound link bound before)
bound_decides link bound before =
    Decides-like _ (λ all. record { enough = all.0; room = all.1.0; above = all.1.1.0; zero = all.1.1.1 }) (λ is. (is.enough, (is.room, (is.above, is.zero))))
    (Decides-and _ _ (le_decides (count_of (λ time. is_before bound (Some time)) link.times) before)
    (Decides-and _ _ (le_decides (before + count_of (is_from bound) link.times) link.size)
    (Decides-and _ _ (implies_decides _ _ (Decides-ltb link.highest bound) (Decides-eqb before link.size))
    (implies_decides _ _ (Decides-eqb bound 0) (Decides-eqb before 0)))))

abbrev Rises : Link → ℕ → ℕ → ℕ → ℕ → Type 0
Rises link low fewer high more = low ≤ high → fewer + count_of (is_between low high) link.times ≤ more

rises_decides : (link : Link) (low fewer : ℕ) →
    Decides (list_all (λ high. tests.rises link.times (low, fewer) high) (entries link.bounds))
    ((high more : ℕ) → get link.bounds high ≡ Some more → Rises link low fewer high more)
rises_decides link low fewer = numbers_decide (λ high. tests.rises link.times (low, fewer) high) (λ high more. Rises link low fewer high more) link.bounds
    (λ high more found. implies_decides _ _ (le_decides low high) (le_decides (fewer + count_of (is_between low high) link.times) more))

part_decides : (now : ℕ) (link : Link) → Decides (tests.is_lawful_part now link) (IsLawfulPart now link)
part_decides now link =
    Decides-like _ (λ all. record {
      tied = all.0;
      indices = all.1.0;
      cells_inside = all.1.1.0;
      cells_known = all.1.1.1.0;
      enough = all.1.1.1.1.0;
      room = all.1.1.1.1.1.0;
      bounds = all.1.1.1.1.1.1.0;
      rising = λ low high fewer more one other. all.1.1.1.1.1.1.1 low fewer one high more other;
    })
    (λ is. (
      is.tied,
      (
        is.indices,
        (
          is.cells_inside,
          (is.cells_known, (is.enough, (is.room, (is.bounds, λ low fewer one high more other. is.rising low high fewer more one other)))),
        ),
      ),
    ))
    (Decides-and _ _ (tied_decides now link)
    (Decides-and _ _ (numbers_decide (λ entry. nat_lt entry.0 link.capacity) (λ index answer. index < link.capacity) link.times
    (λ index answer found. Decides-ltb index link.capacity))
    (Decides-and _ _ (end_decides link.cells link.capacity)
    (Decides-and _ _ (numbers_decide (λ entry. is_some (get link.times entry.0)) (λ index bytes. IsSome (get link.times index)) link.cells
    (λ index bytes found. some_decides (get link.times index)))
    (Decides-and _ _ (le_decides (count_of is_some link.times) link.size) (Decides-and _ _
    (le_decides (count_of is_none link.times) (link.capacity - link.size))
    (Decides-and _ _ (numbers_decide (λ entry. tests.is_bound link entry.0 entry.1) (λ bound before. IsBound link bound before) link.bounds
    (λ bound before found. bound_decides link bound before))
    (numbers_decide (λ low. list_all (λ high. tests.rises link.times low high) (entries link.bounds))
    (λ low fewer. (high more : ℕ) → get link.bounds high ≡ Some more → Rises link low fewer high more) link.bounds
    (λ low fewer found. rises_decides link low fewer)))))))))

-- vectors and prefix tables
vector_decides : (full : Bool) (vector : Vector) → Decides (tests.is_lawful_vector full vector) (IsLawfulVector full vector)
vector_decides full vector =
    Decides-like _ (λ all. record { inside = all.0; all_cells = all.1 }) (λ is. (is.inside, is.all_cells))
    (Decides-and _ _ (end_decides vector.cells vector.cell_count) (implies_decides _ _ (is_same full) (there_decides vector.cells vector.cell_count)))

routes_decide : (low high : ℕ) (prefixes : Routing) → Decides (tests.has_lawful_routes low high prefixes) (HasLawfulRoutes low high prefixes)
routes_decide low high prefixes =
    Decides-like _ (λ all. record { routes = all.0; no_addresses = all.1 }) (λ is. (is.routes, is.no_addresses))
    (Decides-and _ _ (Decides-by_and (tests.is_lawful_route low high) (λ route. (low ≤ route.value) × (route.value ≤ high) × (route.len ≤ 32))
    (list_all (tests.is_lawful_route low high))
    (λ route. Decides-like _ (λ all. (all.0, all.1.0, all.1.1)) (λ is. (is.0, (is.1, is.2)))
    (Decides-and _ _ (le_decides low route.value) (Decides-and _ _ (le_decides route.value high) (le_decides route.len 32)))) refl (λ _ _. refl)
    prefixes.routes)
    (Decides-eqb (len prefixes.addresses) 0))

value_decides : (low high : ℕ) (answer : Option ℕ) → Decides (tests.is_value low high answer)
    ((value : ℕ) → answer ≡ Some value → (low ≤ value) × (value ≤ high))
value_decides low high None = (λ _ value is. absurd (none_some value is), λ _. refl)
value_decides low high (Some value) =
    Decides-like _ (λ fits other is. subst (λ (n : ℕ). (low ≤ n) × (n ≤ high)) (some_is value other is) fits) (λ f. f value refl)
    (Decides-and _ _ (le_decides low value) (le_decides value high))

no_routes_decides : (routes : List Route) → Decides (length routes == 0) (routes ≡ [])
no_routes_decides [] = (λ _. refl, λ _. refl)
no_routes_decides (route ∷ routes) =
    (λ e. absurd (let none : length (route ∷ routes) ≡ 0 = (Decides-eqb (length (route ∷ routes)) 0).0 e in omega arith), λ e. absurd (cc))

addresses_decide : (low high : ℕ) (prefixes : Routing) → Decides (tests.has_lawful_addresses low high prefixes) (HasLawfulAddresses low high prefixes)
addresses_decide low high prefixes =
    Decides-like _ (λ all. record { addresses = λ address value found. all.0 address (Some value) found value refl; no_routes = all.1 })
    (λ is. (λ address answer found value same. is.addresses address value (found ∙ ap (λ a. Some a) same), is.no_routes))
    (Decides-and _ _ (numbers_decide (λ entry. tests.is_value low high entry.1) (λ address answer. (value : ℕ) → answer ≡ Some value → (low ≤ value)
    × (value ≤ high)) prefixes.addresses
    (λ address answer found. value_decides low high answer)) (no_routes_decides prefixes.routes))

object_decides : (now : ℕ) (full : Bool) (kind : ObjectKind) (object : Object) → Decides (tests.is_lawful_object now full kind object)
    (IsLawfulObject now full kind object)
object_decides now true kind (Map link) = link_decides now link
object_decides now false kind (Map link) = part_decides now link
object_decides now true kind (Cells vector) = vector_decides true vector
object_decides now false kind (Cells vector) = vector_decides false vector
object_decides now true (kinds.Table low high) (Prefixes prefixes) = routes_decide low high prefixes
object_decides now false (kinds.Table low high) (Prefixes prefixes) = addresses_decide low high prefixes
object_decides now full kind object = (λ _. tt, λ _. refl)

-- rules
cell_decides : (spec : Specification) (numbers : List ℕ) (rule : Rule) (bytes : List ℕ) →
    Decides (tests.cell_passes spec numbers rule bytes) (RuleHolds spec.code numbers rule.value
    (values_in (fields_of spec.shape (cell_struct spec.shape rule.vector)) bytes))
cell_decides spec numbers rule bytes = Decides-not _ (Decides-eqb _ 0)

taken_decides : (found : Option (Option ℕ)) → Decides (tests.is_taken found) ((time : ℕ) × (found ≡ Some (Some time)))
taken_decides None = (λ e. absurd (false_true e), λ e. absurd (none_some (Some e.0) e.1))
taken_decides (Some None) = (λ e. absurd (false_true e), λ e. absurd (none_some e.0 (some_is None (Some e.0) e.1)))
taken_decides (Some (Some time)) = (λ _. (time, refl), λ _. refl)

abbrev Passes : Specification → List ℕ → Rule → List ℕ → Type 0
Passes spec numbers rule bytes = RuleHolds spec.code numbers rule.value (values_in (fields_of spec.shape (cell_struct spec.shape rule.vector)) bytes)

no_cells : (index : ℕ) (bytes : List ℕ) → get (empty {X = List ℕ} {R = nat_cmp}) index ≡ Some bytes → ⊥
no_cells index bytes found = none_some bytes (sym (get-empty nat_cmp index) ∙ found)

abbrev KeysPass : Specification → List ℕ → Rule → Link → Type 0
KeysPass spec numbers rule link = (index : ℕ) (bytes : List ℕ) → get link.cells index ≡ Some bytes
    → ((time : ℕ) × (get link.times index ≡ Some (Some time))) → Passes spec numbers rule bytes

keys_pass_decide : (spec : Specification) (numbers : List ℕ) (rule : Rule) (found : Option Object)
    → Decides (tests.keys_pass spec numbers rule found) (KeysPass spec numbers rule (link_in found))
keys_pass_decide spec numbers rule (Some (Map link)) =
    numbers_decide (λ entry. implies (tests.is_taken (get link.times entry.0)) (tests.cell_passes spec numbers rule entry.1))
    (λ index bytes. ((time : ℕ) × (get link.times index ≡ Some (Some time))) → Passes spec numbers rule bytes) link.cells
    (λ index bytes found. implies_decides _ _ (taken_decides (get link.times index)) (cell_decides spec numbers rule bytes))
keys_pass_decide spec numbers rule _ = (λ _ index bytes there taken. absurd (no_cells index bytes there), λ _. refl)

abbrev VectorPasses : Specification → List ℕ → State → Rule → Option Object → Type 0
VectorPasses spec numbers s rule found = (index : ℕ) (bytes : List ℕ) → get (vector_in s rule.vector found).cells index ≡ Some bytes
    → SpeaksOf s rule.vector index found → Passes spec numbers rule bytes

vector_passes_decides : (spec : Specification) (numbers : List ℕ) (s : State) (rule : Rule) (found : Option Object)
    → Decides (tests.vector_passes spec numbers s rule found) (VectorPasses spec numbers s rule found)
vector_passes_decides spec numbers s rule (Some (Cells vector)) =
    Decides-like _ (λ all index bytes there speaks. all index bytes there) (λ all index bytes there. all index bytes there tt)
    (numbers_decide (λ entry. tests.cell_passes spec numbers rule entry.1) (λ index bytes. Passes spec numbers rule bytes) vector.cells
    (λ index bytes found. cell_decides spec numbers rule bytes))
vector_passes_decides spec numbers s rule (Some Keys) = keys_pass_decide spec numbers rule (slice_get s.objects (rule.vector - 2))
vector_passes_decides spec numbers s rule _ = (λ _ index bytes there speaks. absurd (no_cells index bytes there), λ _. refl)

pub rule_decides : (spec : Specification) (numbers : List ℕ) (s : State) (rule : Rule) → Decides
    (tests.vector_passes spec numbers s rule (slice_get s.objects rule.vector)) (Holds spec numbers s rule)
rule_decides spec numbers s rule = vector_passes_decides spec numbers s rule (slice_get s.objects rule.vector)

-- a state
pub lawful_decides : (spec : Specification) (numbers : List ℕ) (now : ℕ) (s : State) →
    Decides (tests.is_lawful spec numbers now s) (IsLawful spec numbers now s)
lawful_decides spec numbers now s =
    Decides-like _ (λ all. record { shaped = all.0.0; each = all.0.1; rules = all.1 }) (λ is. ((is.shaped, is.each), is.rules))
    (Decides-and _ _ (Decides-and _ _ (shaped_decides spec.shape numbers s)
    (zip_decides (λ pair. tests.is_lawful_object now s.full pair.0.kind pair.1) (λ d o. IsLawfulObject now s.full d.kind o)
    (λ d o. object_decides now s.full d.kind o) spec.shape.objects s.objects))
    (Decides-by_and (λ rule. tests.vector_passes spec numbers s rule (slice_get s.objects rule.vector)) (Holds spec numbers s)
    (list_all (λ rule. tests.vector_passes spec numbers s rule (slice_get s.objects rule.vector))) (rule_decides spec numbers s) refl (λ _ _. refl)
    spec.shape.rules))
