-- Lists as tables from numbers: times, and the bytes of cells.
use Rattle.std.proofs.Common.{◌≡◌, ℕ, zero, suc, ◌+◌, ◌<◌, ◌≤◌, List, [], ◌∷◌, length, set, Option, Some, None, slice_get, refl, sym, ◌∙◌, ap, subst}
use Rattle.std.proofs.Common.{arith, Bool, true, false, cond, inl, inr}
use Rattle.std.specs.Prelude.{◌==◌, nat_eq, nat_lt, replicate}
use Rattle.std.specs.declared.cmp.Ordering.TheVariants.{Less}
use Rattle.std.specs.Ordering.{nat_cmp}
use Rattle.std.specs.Cmp.{nat_cmp_total, nat_cmp_is}
use Rattle.std.specs.FinMap.{FinMap, get, insert, empty, entries, put, get-empty, get-insert, len-entries, len-empty, entries-insert, same_map}
use Rattle.std.specs.FinMap.{nat_cmp-IsAntisymmetric}
use Rattle.std.specs.FinMap.Entries.{by_order}
use Rattle.std.proofs.lemmas.Bool.{cases_eq, cases_lt, eq-eqb, ne_eqb, lt-ltb, le-ltb}
use Rattle.std.proofs.lemmas.List.{nil_from_length, length-replicate, get_or-replicate}
use Rattle.std.proofs.lemmas.Option.{slice_get-get_or, slice_get_past}
use Rattle.vg_abs.specs.Tables.{TimeTable, CellTable}
use Rattle.vg_abs.specs.Agreement.{BothTell}
use Rattle.vg_abs.specs.Effects.{without}
use Rattle.vg_abs.proofs.Forgetting.{forgets}
use Rattle.vg_abs.specs.Opening.{zero_cells}
use Rattle.vg_abs.proofs.Starting.{same_test}
use Rattle.vg_abs.proofs.OpeningLaws.{one_more}
use Rattle.vg_plain.specs.PlainTables.{time_table, cell_table}
use Rattle.vg_plain.proofs.ListPlaces.{set_at}

-- the item with a number, where the first has the number `start`
abbrev numbered : {X : Type 0} → ℕ → List X → ℕ → Option X
numbered start [] q = None
numbered start (x ∷ xs) q = cond (start == q) (Some x) (numbered (suc start) xs q)

numbered_is : {X : Type 0} (start i q : ℕ) (xs : List X) → q ≡ start + i → numbered start xs q ≡ slice_get xs i
numbered_is start i q [] is = refl
numbered_is start zero q (x ∷ xs) is = ap (λ b. cond b (Some x) (numbered (suc start) xs q)) (eq-eqb start q (omega arith))
numbered_is start (suc i) q (x ∷ xs) is =
    ap (λ b. cond b (Some x) (numbered (suc start) xs q)) (ne_eqb start q (λ same. absurd (omega arith))) ∙ numbered_is (suc start) i q xs (omega arith)

-- what a table of times lists
abbrev pub listed : Option (Option ℕ) → Option (Option ℕ)
listed (Some (Some time)) = Some (Some time)
listed (Some None) = None
listed None = None

put_number : {X : Type 0} (table : FinMap nat_cmp X) (k q : ℕ) (x : X) → get (insert table k x) q ≡ cond (k == q) (Some x) (get table q)
put_number table k q x = get-insert nat_cmp_total table k x q ∙ ap (λ b. cond b (Some x) (get table q)) (same_test q k)

pub same_numbers : {X : Type 0} (one other : FinMap nat_cmp X) → ((q : ℕ) → get one q ≡ get other q) → one ≡ other
same_numbers one other same = same_map nat_cmp_total nat_cmp-IsAntisymmetric one other same

cells_from : (start : ℕ) (cells : List (List ℕ)) (q : ℕ) → get (cell_table start cells) q ≡ numbered start cells q
cells_from start [] q = get-empty nat_cmp q
cells_from start (bytes ∷ cells) q = put_number (cell_table (suc start) cells) start q bytes
    ∙ ap (λ rest. cond (start == q) (Some bytes) rest) (cells_from (suc start) cells q)

pub cell_is : (cells : List (List ℕ)) (q : ℕ) → get (cell_table 0 cells) q ≡ slice_get cells q
cell_is cells q = cells_from 0 cells q ∙ numbered_is 0 q q cells (omega arith)

none_before : (start : ℕ) (times : List (Option ℕ)) (q : ℕ) → q < start → get (time_table start times) q ≡ None
none_before start [] q less = get-empty nat_cmp q
none_before start (None ∷ times) q less = none_before (suc start) times q (omega arith)
none_before start (Some time ∷ times) q less =
    put_number (time_table (suc start) times) start q (Some time)
    ∙ ap (λ b. cond b (Some (Some time)) (get (time_table (suc start) times) q)) (ne_eqb start q (λ same. absurd (omega arith)))
    ∙ none_before (suc start) times q (omega arith)

times_from : (start : ℕ) (times : List (Option ℕ)) (q : ℕ) → get (time_table start times) q ≡ listed (numbered start times q)
times_from start [] q = get-empty nat_cmp q
times_from start (None ∷ times) q = elim (cases_eq start q) [
  | inl same ↦ none_before (suc start) times q (omega arith) ∙ sym (ap (λ b. listed (cond b (Some None) (numbered (suc start) times q))) (eq-eqb start q same))
  | inr ne ↦ times_from (suc start) times q ∙ sym (ap (λ b. listed (cond b (Some None) (numbered (suc start) times q))) (ne_eqb start q ne))
]
times_from start (Some time ∷ times) q =
    put_number (time_table (suc start) times) start q (Some time) ∙ ap (λ rest. cond (start == q) (Some (Some time)) rest) (times_from (suc start) times q)
    ∙ elim (start == q) as (λ b. cond b (Some (Some time)) (listed (numbered (suc start) times q)) ≡ listed
    (cond b (Some (Some time)) (numbered (suc start) times q))) [ true ↦ refl | false ↦ refl ]

pub time_is : (times : List (Option ℕ)) (q : ℕ) → get (time_table 0 times) q ≡ listed (slice_get times q)
time_is times q = times_from 0 times q ∙ ap listed (numbered_is 0 q q times (omega arith))

-- one cell is put anew
pub cell_set : (cells : List (List ℕ)) (i : ℕ) (bytes : List ℕ) → i < length cells → cell_table 0 (set cells i bytes) ≡ insert (cell_table 0 cells) i bytes
cell_set cells i bytes less = same_numbers _ _ (λ q. cell_is (set cells i bytes) q ∙ set_at cells i q bytes less
    ∙ ap (λ rest. cond (i == q) (Some bytes) rest) (sym (cell_is cells q)) ∙ sym (put_number (cell_table 0 cells) i q bytes))

-- one time is put anew
listed_some : (b : Bool) (time : ℕ) (rest : Option (Option ℕ)) → listed (cond b (Some (Some time)) rest) ≡ cond b (Some (Some time)) (listed rest)
listed_some true time rest = refl
listed_some false time rest = refl

pub time_set : (times : List (Option ℕ)) (i time : ℕ) → i < length times → time_table 0 (set times i (Some time)) ≡ insert (time_table 0 times) i (Some time)
time_set times i time less = same_numbers _ _ (λ q. time_is (set times i (Some time)) q ∙ ap listed (set_at times i q (Some time) less)
    ∙ listed_some (i == q) time (slice_get times q) ∙ ap (λ rest. cond (i == q) (Some (Some time)) rest) (sym (time_is times q))
    ∙ sym (put_number (time_table 0 times) i q (Some time)))

-- one index is freed
listed_none : (b : Bool) (rest : Option (Option ℕ)) → listed (cond b (Some None) rest) ≡ cond b None (listed rest)
listed_none true rest = refl
listed_none false rest = refl

pub time_clear : (times : List (Option ℕ)) (i : ℕ) → i < length times → time_table 0 (set times i None) ≡ without true (nat_eq i) (time_table 0 times)
time_clear times i less = same_numbers _ _ (λ q. time_is (set times i None) q ∙ ap listed (set_at times i q None less)
    ∙ listed_none (i == q) (slice_get times q) ∙ ap (λ rest. cond (i == q) None rest) (sym (time_is times q))
    ∙ sym ((forgets nat_cmp_total nat_cmp-IsAntisymmetric).of_full (nat_eq i) (time_table 0 times) q))

-- the entries of a table of times
abbrev pub time_list : ℕ → List (Option ℕ) → List (ℕ × Option ℕ)
time_list start [] = []
time_list start (None ∷ times) = time_list (suc start) times
time_list start (Some time ∷ times) = (start, Some time) ∷ time_list (suc start) times

put_first : (k start : ℕ) (x : Option ℕ) (times : List (Option ℕ)) → k < start → put nat_cmp k x (time_list start times) ≡ (k, x) ∷ time_list start times
put_first k start x [] less = refl
put_first k start x (None ∷ times) less = put_first k (suc start) x times (omega arith)
put_first k start x (Some time ∷ times) less =
    ap (λ o. by_order o ((k, x) ∷ (start, Some time) ∷ time_list (suc start) times) ((start, x) ∷ time_list (suc start) times)
    ((start, Some time) ∷ put nat_cmp k x (time_list (suc start) times)))
    (sym (nat_cmp_is k start Less less))

pub time_entries : (start : ℕ) (times : List (Option ℕ)) → entries (time_table start times) ≡ time_list start times
time_entries start [] = nil_from_length (entries (empty {X = Option ℕ} {R = nat_cmp})) (sym (len-entries (empty {X = Option ℕ} {R = nat_cmp}))
    ∙ len-empty nat_cmp (Option ℕ))
time_entries start (None ∷ times) = time_entries (suc start) times
time_entries start (Some time ∷ times) =
    entries-insert nat_cmp_total (time_table (suc start) times) start (Some time) ∙ ap (λ es. put nat_cmp start (Some time) es) (time_entries (suc start) times)
    ∙ put_first start (suc start) (Some time) times (omega arith)

-- cells of zeros
replicated : (count q : ℕ) (x : List ℕ) → slice_get (replicate count x) q ≡ cond (nat_lt q count) (Some x) None
replicated count q x = elim (cases_lt q count) [
  | inl less ↦ slice_get-get_or (replicate count x) q x (omega (arith, length-replicate count x)) ∙ ap Some (get_or-replicate count q x x less)
      ∙ ap (λ b. cond b (Some x) None) (sym (lt-ltb q count less))
  | inr more ↦ slice_get_past (replicate count x) q (omega (arith, length-replicate count x)) ∙ ap (λ b. cond b (Some x) None) (sym (le-ltb q count more))
]

last : (count q : ℕ) (x : List ℕ) → cond (count == q) (Some x) (cond (nat_lt q count) (Some x) None) ≡ cond (nat_lt q (suc count)) (Some x) None
last count q x = elim (cases_eq count q) [
  | inl same ↦ rw (eq-eqb count q same, lt-ltb q (suc count) (omega arith)) refl
  | inr ne ↦ rw (ne_eqb count q ne) (elim (cases_lt q count) [
    | inl less ↦ rw (lt-ltb q count less, lt-ltb q (suc count) (omega arith)) refl
    | inr more ↦ (let past : suc count ≤ q = omega arith in rw (le-ltb q count more, le-ltb q (suc count) past) refl)
  ])
]

zeros_at : (count size q : ℕ) → get (zero_cells count size) q ≡ cond (nat_lt q count) (Some (replicate size 0)) None
zeros_at zero size q = get-empty nat_cmp q ∙ ap (λ b. cond b (Some (replicate size 0)) None) (sym (le-ltb q 0 (omega arith)))
zeros_at (suc count) size q =
    one_more count size q ∙ ap (λ rest. cond (count == q) (Some (replicate size 0)) rest) (zeros_at count size q) ∙ last count q (replicate size 0)

pub zeros : (count size : ℕ) → cell_table 0 (replicate count (replicate size 0)) ≡ zero_cells count size
zeros count size = same_numbers _ _ (λ q. cell_is (replicate count (replicate size 0)) q ∙ replicated count q (replicate size 0) ∙ sym (zeros_at count size q))

no_times : (count start : ℕ) → time_table start (replicate count None) ≡ empty
no_times zero start = refl
no_times (suc count) start = no_times count (suc start)

pub all_free : (count : ℕ) → time_table 0 (replicate count None) ≡ empty
all_free count = no_times count 0

abbrev pub time_table_of : List (Option ℕ) → TimeTable
time_table_of times = time_table 0 times

-- cells agree as a list where they do as a table
pub record CellsAgreeAs : Type 0 where
  pub to : (cells : List (List ℕ)) (other : CellTable) → ((index : ℕ) → BothTell (slice_get cells index) (get other index)) → (index : ℕ)
      → BothTell (get (cell_table 0 cells) index) (get other index)
  pub from : (cells : List (List ℕ)) (other : CellTable) → ((index : ℕ) → BothTell (get (cell_table 0 cells) index) (get other index)) → (index : ℕ)
      → BothTell (slice_get cells index) (get other index)

pub cells_agree_as : CellsAgreeAs
cells_agree_as = record {
  to = λ cells other agree index. subst (λ (found : Option (List ℕ)). BothTell found (get other index)) (sym (cell_is cells index)) (agree index);
  from = λ cells other agree index. subst (λ (found : Option (List ℕ)). BothTell found (get other index)) (cell_is cells index) (agree index);
}
