-- Two tables of which one tells what the other does: it lists all keys where it lists as many.
use Rattle.std.proofs.Common.{T, ◌≡◌, ℕ, suc, ◌-◌, ◌<◌, ◌≤◌, List, [], ◌∷◌, Some, None, Option, refl, sym, ◌∙◌, ap, subst, arith, Bool, true, false}
use Rattle.std.proofs.Common.{cond, inl, inr}
use Rattle.std.specs.Prelude.{◌&&◌, is_some, IsSome, count_by, unwrap_or}
use Rattle.std.specs.Str.{bytes_eq}
use Rattle.std.specs.Ordering.{nat_cmp, is_lt, is_eq}
use Rattle.std.specs.declared.cmp.Ordering.{Ordering}
use Rattle.std.specs.declared.cmp.Ordering.TheVariants.{Less, Equal, Greater}
use Rattle.std.specs.Cmp.Lexicographic.{slice_cmp, nat_list_cmp_total}
use Rattle.std.specs.FinMap.{get, remove, empty, len, entries, find, is_sorted, get-empty, get-entries, len-empty, empty_of_len, entries_sorted}
use Rattle.std.specs.FinMap.{same_map, nat_cmp-IsAntisymmetric, slice_cmp-IsAntisymmetric}
use Rattle.std.specs.FinMap.Entries.{below_all}
use Rattle.std.proofs.lemmas.Bool.{cases_lt}
use Rattle.std.proofs.lemmas.List.Sums.{sum_by-cons}
use Rattle.vg_map.specs.Map.{Indices}
use Rattle.vg_abs.specs.Tables.{KeyTable}
use Rattle.vg_abs.specs.Agreement.{BothTell}
use Rattle.vg_plain.proofs.ListPlaces.{none_some, bytes_same, bytes_true, ties}
use Rattle.vg_plain.proofs.KeySlots.{bytes_cases}
use Rattle.vg_abs.specs.Answers.{listed_or_none}
use Rattle.vg_plain.proofs.TellingLaws.{told_all, told_full}
use Rattle.vg_store.specs.RealTables.{indexed}
use Rattle.vg_store.proofs.TableLaws.{index_erased, size_erased}

abbrev pub Answers : Type 0
Answers = List (List ℕ × Option ℕ)

abbrev pub in_list : List ℕ → Answers → Option (Option ℕ)
in_list key es = find (slice_cmp nat_cmp) key es

-- how many keys have an index
abbrev pub listed_with : Answers → ℕ
listed_with es = count_by (λ entry. is_some entry.1) es

-- no key stands twice
abbrev pub StandOnce : Answers → Type 0
StandOnce [] = Unit {0}
StandOnce (e ∷ es) = (in_list e.0 es ≡ None) × StandOnce es

both_true : (a b : Bool) → T (a && b) → T a × T b
both_true true b h = (tt, h)
both_true false b h = absurd h

not_less : (o : Ordering) → T (is_lt o) → ◌≡◌ {A = Bool} (is_eq o) false
not_less Less h = refl
not_less Equal h = absurd h
not_less Greater h = absurd h

not_below : (key : List ℕ) (es : Answers) → T (below_all (slice_cmp nat_cmp) key es) → in_list key es ≡ None
not_below key [] h = refl
not_below key (e ∷ es) h =
    let parts = both_true (is_lt (slice_cmp nat_cmp key e.0)) (below_all (slice_cmp nat_cmp) key es) h in
    ap (λ b. cond b (Some e.1) (in_list key es)) (not_less (slice_cmp nat_cmp key e.0) parts.0) ∙ not_below key es parts.1

sorted_once : (es : Answers) → T (is_sorted (slice_cmp nat_cmp) es) → StandOnce es
sorted_once [] h = tt
sorted_once (e ∷ es) h =
    let parts = both_true (below_all (slice_cmp nat_cmp) e.0 es) (is_sorted (slice_cmp nat_cmp) es) h in
    (not_below e.0 es parts.0, sorted_once es parts.1)

some_keys : (m : Indices) (key : List ℕ) → IsSome (get m key) → 0 < len m
some_keys m key is = elim (cases_lt 0 (len m)) [
  | inl more ↦ more
  | inr none ↦ absurd (let no : get m key ≡ None = ap (λ (n : Indices). get n key) (empty_of_len m (omega arith))
      ∙ get-empty (slice_cmp nat_cmp) key in let off : is_some (get m key) ≡ false = ap is_some no in cc)
]

listed_here : (e : List ℕ × Option ℕ) (es : Answers) → in_list e.0 (e ∷ es) ≡ Some e.1
listed_here e es = ap (λ b. cond b (Some e.1) (in_list e.0 es)) (ties e.0 e.0 ∙ bytes_same e.0)

listed_past : (key : List ℕ) (e : List ℕ × Option ℕ) (es : Answers) → bytes_eq key e.0 ≡ false → in_list key (e ∷ es) ≡ in_list key es
listed_past key e es ne = ap (λ b. cond b (Some e.1) (in_list key es)) (ties key e.0 ∙ ne)

-- a list of answers tells what a map does
abbrev pub Tells : Indices → Answers → Type 0
Tells m es = (key : List ℕ) → BothTell (Some (get m key)) (in_list key es)

-- a key that isn't listed is absent
abbrev pub ListsAll : Indices → Answers → Type 0
ListsAll m es = (key : List ℕ) → in_list key es ≡ None → get m key ≡ None

pub record Counts (m : Indices) (es : Answers) : Type 0 where
  pub few : listed_with es ≤ len m
  pub to : len m ≤ listed_with es → ListsAll m es
  pub from : ListsAll m es → len m ≤ listed_with es

told_none : (index : Option ℕ) (listed : Option (Option ℕ)) → listed ≡ None → BothTell (Some index) listed
told_none index None is = tt
told_none index (Some x) is = absurd (none_some x (sym is))

rest_told : (m : Indices) (e : List ℕ × Option ℕ) (es : Answers) → Tells m (e ∷ es) → in_list e.0 es ≡ None → Tells m es
rest_told m e es told once key = elim (bytes_cases key e.0) [
  | inl same ↦ told_none (get m key) (in_list key es) (ap (λ (k : List ℕ). in_list k es) same ∙ once)
  | inr ne ↦ subst (λ (l : Option (Option ℕ)). BothTell (Some (get m key)) l) (listed_past key e es ne) (told key)
]

turn : (x y : List ℕ) → bytes_eq x y ≡ false → bytes_eq y x ≡ false
turn x y ne = go (bytes_eq y x) refl
  where
    go : (b : Bool) → bytes_eq y x ≡ b → bytes_eq y x ≡ false
    go true is = absurd (let on : bytes_eq x y ≡ true = ap (λ (k : List ℕ). bytes_eq x k) (bytes_true y x is) ∙ bytes_same x in cc)
    go false is = is

erased_told : (m : Indices) (e : List ℕ × Option ℕ) (es : Answers) → Tells m (e ∷ es) → in_list e.0 es ≡ None → Tells (remove m e.0) es
erased_told m e es told once key = elim (bytes_cases key e.0) [
  | inl same ↦ told_none (get (remove m e.0) key) (in_list key es) (ap (λ (k : List ℕ). in_list k es) same ∙ once)
  | inr ne ↦ subst (λ (i : Option ℕ). BothTell (Some i) (in_list key es)) (sym (index_erased m e.0 key
      ∙ ap (λ b. cond b None (get m key)) (turn key e.0 ne))) (rest_told m e es told once key)
]

nothing : (m : Indices) → len m ≤ 0 → (key : List ℕ) → get m key ≡ None
nothing m none key = ap (λ (n : Indices). get n key) (empty_of_len m (omega arith)) ∙ get-empty (slice_cmp nat_cmp) key

no_keys : (m : Indices) → ((key : List ℕ) → get m key ≡ None) → len m ≡ 0
no_keys m none =
    ap (λ (n : Indices). len n) (same_map nat_list_cmp_total (slice_cmp-IsAntisymmetric nat_cmp-IsAntisymmetric) m empty
    (λ key. none key ∙ sym (get-empty (slice_cmp nat_cmp) key)))
    ∙ len-empty (slice_cmp nat_cmp) ℕ

told_is : (index answer : Option ℕ) (listed : Option (Option ℕ)) → listed ≡ Some answer → BothTell (Some index) listed → index ≡ answer
told_is index answer None is told = absurd (none_some answer is)
told_is index answer (Some x) is told = told ∙ ap (λ o. unwrap_or o index) is

-- the first key has no index
absent_first : (m : Indices) (key : List ℕ) (es : Answers) → Tells m ((key, None) ∷ es) → in_list key es ≡ None → Counts m es → Counts m ((key, None) ∷ es)
absent_first m key es told once rest =
    let same : listed_with ((key, None) ∷ es) ≡ listed_with es =
    omega (arith, sum_by-cons (λ (entry : List ℕ × Option ℕ). cond (is_some entry.1) 1 0) (key, None) es) in
    let absent : get m key ≡ None = told_is (get m key) None (in_list key ((key, None) ∷ es)) (listed_here (key, None) es) (told key) in
    record {
      few = (let less = rest.few in omega (arith, same));
      to = λ many other none. elim (bytes_cases other key) [
        | inl is ↦ ap (λ (k : List ℕ). get m k) is ∙ absent
        | inr ne ↦ rest.to (omega (arith, same)) other (sym (listed_past other (key, None) es ne) ∙ none)
      ];
      from = λ all. (let more = rest.from (λ other none. elim (bytes_cases other key) [
        | inl is ↦ ap (λ (k : List ℕ). get m k) is ∙ absent
        | inr ne ↦ all other (listed_past other (key, None) es ne ∙ none)
      ]) in omega (arith, same));
    }

-- the first key has one
indexed_first : (m : Indices) (key : List ℕ) (i : ℕ) (es : Answers) → Tells m ((key, Some i) ∷ es) → in_list key es ≡ None → Counts (remove m key) es
    → Counts m ((key, Some i) ∷ es)
indexed_first m key i es told once rest =
    let one : listed_with ((key, Some i) ∷ es) ≡ suc (listed_with es) =
    omega (arith, sum_by-cons (λ (entry : List ℕ × Option ℕ). cond (is_some entry.1) 1 0) (key, Some i) es) in
    let mapped : get m key ≡ Some i = told_is (get m key) (Some i) (in_list key ((key, Some i) ∷ es)) (listed_here (key, Some i) es) (told key) in
    let size = size_erased m key (ap is_some mapped) in
    let some = some_keys m key (ap is_some mapped) in
    record {
      few = (let less = rest.few in omega (arith, one, size, some));
      to = λ many other none. elim (bytes_cases other key) [
        | inl is ↦ absurd (none_some (Some i) (sym none ∙ ap (λ (k : List ℕ). in_list k ((key, Some i) ∷ es)) is ∙ listed_here (key, Some i) es))
        | inr ne ↦ sym (index_erased m key other ∙ ap (λ b. cond b None (get m other)) (turn other key ne))
            ∙ rest.to (omega (arith, one, size, some)) other (sym (listed_past other (key, Some i) es ne) ∙ none)
      ];
      from = λ all. (let more = rest.from (λ other none. elim (bytes_cases other key) [
        | inl is ↦ index_erased m key other ∙ ap (λ b. cond b None (get m other)) (ap (λ (k : List ℕ). bytes_eq key k) is ∙ bytes_same key)
        | inr ne ↦ index_erased m key other ∙ ap (λ b. cond b None (get m other)) (turn other key ne) ∙ all other (listed_past other (key, Some i) es ne ∙ none)
      ]) in omega (arith, one, size, some));
    }

counts : (es : Answers) (m : Indices) → StandOnce es → Tells m es → Counts m es
counts [] m once told = record {
  few = omega arith;
  to = λ none key _. nothing m none key;
  from =
      λ all. (let none = no_keys m (λ key. all key refl) in omega arith);
}
counts ((key, None) ∷ es) m once told = absent_first m key es told once.0 (counts es m once.1 (rest_told m (key, None) es told once.0))
counts ((key, Some i) ∷ es) m once told = indexed_first m key i es told once.0 (counts es (remove m key) once.1 (erased_told m (key, Some i) es told once.0))

pub told_counts : (m : Indices) (table : KeyTable) → ((key : List ℕ) → BothTell (Some (get m key)) (get table key)) → Counts m (entries table)
told_counts m table told = counts (entries table) m (sorted_once (entries table) (entries_sorted table))
    (λ key. subst (λ (l : Option (Option ℕ)). BothTell (Some (get m key)) l) (get-entries table key) (told key))

pub told_if : (m : Indices) (table : KeyTable) → ((key : List ℕ) → BothTell (Some (get m key)) (get table key)) → len m ≤ indexed table
    → (key : List ℕ) → BothTell (Some (get m key)) (listed_or_none true (get table key))
told_if m table told many key =
    told_all true (get m key) (get table key) (told key) (λ _ none. (told_counts m table told).to many key (sym (get-entries table key) ∙ none))

pub told_then : (m : Indices) (table : KeyTable) → ((key : List ℕ) → BothTell (Some (get m key)) (get table key))
    → ((key : List ℕ) → BothTell (Some (get m key)) (listed_or_none true (get table key))) → len m ≤ indexed table
told_then m table told all = (told_counts m table told).from (λ key none. told_full (get m key) (get table key) (all key) (get-entries table key ∙ none))

-- one answer is counted
pub record Counted (count total left : ℕ) (rest : Answers) : Type 0 where
  pub fewer : listed_with rest ≤ total
  pub left_is : left ≡ count - (total - listed_with rest)

counted_none : (count total left next : ℕ) (key : List ℕ) (rest : Answers) → Counted count total left ((key, None) ∷ rest) → next ≡ left
    → Counted count total next rest
counted_none count total left next key rest c is =
    let same : listed_with ((key, None) ∷ rest) ≡ listed_with rest =
    omega (arith, sum_by-cons (λ (entry : List ℕ × Option ℕ). cond (is_some entry.1) 1 0) (key, None) rest) in
    record { fewer = omega (arith, same, c.fewer); left_is = is ∙ c.left_is ∙ ap (λ (k : ℕ). count - (total - k)) same }

counted_some : (count total left next i : ℕ) (key : List ℕ) (rest : Answers) → Counted count total left ((key, Some i) ∷ rest) → next ≡ left - 1
    → Counted count total next rest
counted_some count total left next i key rest c is =
    let one : listed_with ((key, Some i) ∷ rest) ≡ suc (listed_with rest) =
    omega (arith, sum_by-cons (λ (entry : List ℕ × Option ℕ). cond (is_some entry.1) 1 0) (key, Some i) rest) in
    record { fewer = omega (arith, one, c.fewer); left_is = omega (arith, one, c.fewer, c.left_is, is) }

pub counted_step : (count total left next : ℕ) (key : List ℕ) (answer : Option ℕ) (rest : Answers) → Counted count total left ((key, answer) ∷ rest)
    → next ≡ cond (is_some answer) (left - 1) left → Counted count total next rest
counted_step count total left next key None rest c is = counted_none count total left next key rest c is
counted_step count total left next key (Some i) rest c is = counted_some count total left next i key rest c is

pub counted_start : (count : ℕ) (es : Answers) (total : ℕ) → listed_with es ≡ total → Counted count total count es
counted_start count es total is = record { fewer = omega (arith, is); left_is = omega (arith, is) }

pub counted_end : (count total left : ℕ) → Counted count total left [] → (left ≡ 0 → count ≤ total) × (count ≤ total → left ≡ 0)
counted_end count total left c = (λ none. omega (arith, c.left_is), λ less. omega (arith, c.left_is))
