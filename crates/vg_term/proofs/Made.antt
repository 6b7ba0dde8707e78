-- Laws of lists that are made term by term.
use Rattle.std.proofs.Common.{◌≡◌, ℕ, suc, zero, ◌+◌, ◌<◌, ◌≤◌, List, [], ◌∷◌, ◌++◌, map, length, take, drop, slice_get, unwrap_or, is_some}
use Rattle.std.proofs.Common.{true≢false, length-take-le, Some, Result, Ok, Err, ◌↔◌, add-zero, Contains, All, ◌⊎◌, refl, sym, ap, subst, ◌∙◌, inl}
use Rattle.std.proofs.Common.{inr, arith}
use Rattle.std.proofs.lemmas.Bool.{cases_lt}
use Rattle.std.proofs.lemmas.List.{length-append, take-append-drop, take-append-le, get_or_append_left}
use Rattle.std.proofs.lemmas.List.Elements.{All-head, All-tail}
use Rattle.std.proofs.lemmas.Option.{slice_get_within, slice_get-get_or, slice_get_past}
use Rattle.std.proofs.Math.Seq.{take-append_seam}
use Rattle.vg_term.specs.Operations.{Fits, width_of}
use Rattle.vg_term.specs.Terms.{Term, Stands, ComesNext, AreTerms, nothing, extended, HasWidth, Needs, width_at, width_in, variable_count, listed}
use Rattle.vg_term.specs.Terms.{held, operation}
use Rattle.vg_term.specs.declared.node.TermId.{TermId}
use Rattle.vg_term.specs.declared.node.Op.{Op}
use Rattle.vg_term.specs.declared.node.Parts.{Parts}
use Rattle.vg_term.specs.declared.node.Node.TheVariants as nodes
use Rattle.vg_term.specs.declared.stops.TermStop.{TermStop}
use Rattle.vg_term.specs.declared.stops.TermStop.TheVariants as stops
use Rattle.vg_term.proofs.Standing.{last_is, answered}

-- what stands stays where more comes after it
pub stays : {X : Type 0} (old more : List X) (at : ℕ) → at < length old → slice_get (old ++ more) at ≡ slice_get old at
stays [] more at h = let none : ⊥ = omega (arith, h) in absurd none
stays (x ∷ old) more at h =
    let longer = length-append (x ∷ old) more in
    slice_get-get_or ((x ∷ old) ++ more) at x (omega (arith, longer, h)) ∙ ap Some (get_or_append_left (x ∷ old) more x at h)
    ∙ sym (slice_get-get_or (x ∷ old) at x h)

pub same_width : (old more : List Term) (id : TermId) → Stands old id → width_at (old ++ more) id ≡ width_at old id
same_width old more id h = ap width_in (stays old more id.0 h)

-- functions that agree where P holds, on items where it holds
pub same_map : {X Y : Type 0} (P : X → Type 0) (f g : X → Y) → ((x : X) → P x → f x ≡ g x) → (xs : List X) → All P xs → map f xs ≡ map g xs
same_map P f g same [] h = refl
same_map P f g same (x ∷ xs) h = (λ j. same x (All-head P x xs h) j ∷ same_map P f g same xs (All-tail P x xs h) j)

pub same_widths : (old more : List Term) (parts : List TermId) → All (Stands old) parts → map (width_at (old ++ more)) parts ≡ map (width_at old) parts
same_widths old more parts h = same_map (Stands old) (width_at (old ++ more)) (width_at old) (same_width old more) parts h

-- ---- each term could come next after those before it

some_same : {X : Type 0} {x y : X} → Some x ≡ Some y → x ≡ y
some_same {X} {x} e = ap (λ r. unwrap_or r x) e

none_some : {X : Type 0} {x : X} → slice_get {X = X} [] zero ≡ Some x → ⊥
none_some e = true≢false (sym (ap is_some e))

lt_le : {m n : ℕ} → m < n → m ≤ n
lt_le h = omega (arith, h)

length_take_le : {X : Type 0} (n : ℕ) (xs : List X) → n ≤ length xs → length (take n xs) ≡ n
length_take_le n xs h = length-take-le n xs h

nowhere : {X : Type 0} {x : X} (at : ℕ) → slice_get {X = X} [] at ≡ Some x → ⊥
nowhere at e = true≢false (sym (ap is_some (sym (slice_get_past [] at (omega arith)) ∙ e)))

last_or_before : {X : Type 0} (xs : List X) (x : X) (at : ℕ) (y : X) → slice_get (xs ++ x ∷ []) at ≡ Some y →
    ((at < length xs) × (slice_get xs at ≡ Some y)) ⊎ ((at ≡ length xs) × (x ≡ y))
last_or_before xs x at y e =
    let longer = length-append xs (x ∷ []) in
    let within = slice_get_within (xs ++ x ∷ []) at y e in
    elim (cases_lt at (length xs)) [
      | inl before ↦ inl (before, sym (stays xs (x ∷ []) at before) ∙ e)
      | inr after ↦
          let here : at ≡ length xs = omega (arith, longer, within, after) in
          let same : Some x ≡ Some y = sym (last_is xs x) ∙ ap (slice_get (xs ++ x ∷ [])) (sym here) ∙ e in
          inr (here, some_same same)
    ]

pub comes_next : {terms : List Term} → AreTerms terms → (at : ℕ) (t : Term) → slice_get terms at ≡ Some t → ComesNext (take at terms) t
comes_next nothing at t e = absurd (none_some e)
comes_next (extended terms last made next) at t e =
    elim (last_or_before terms last at t e) [
      | inl before ↦ subst (λ (ts : List Term). ComesNext ts t) (sym (take-append-le at terms (last ∷ []) (lt_le before.0))) (comes_next made at t before.1)
      | inr here ↦
          let all : take at (terms ++ last ∷ []) ≡ terms = ap (λ n. take n (terms ++ last ∷ [])) here.0 ∙ take-append_seam terms (last ∷ []) in
          subst (λ (ts : List Term). ComesNext ts t) (sym all) (subst (ComesNext terms) here.1 next)
    ]

-- the parts of a term that stands stand before it
pub record IsMade (terms : List Term) (at : ℕ) (op : Op) (parts : List TermId) (w : ℕ) : Type 0 where
  pub before : All (λ (part : TermId). part.0 < at) parts
  pub fits : Fits op (map (width_at terms) parts)
  pub width : w ≡ width_of op (map (width_at terms) parts)

pub is_made : {terms : List Term} → AreTerms terms → (at : ℕ) (op : Op) (parts : Parts) (w : ℕ) → slice_get terms at ≡ Some (nodes.Op op parts, w)
    → IsMade terms at op (listed parts) w
is_made {terms} made at op parts w e =
    let next = comes_next made at (nodes.Op op parts, w) e in
    let within = slice_get_within terms at (nodes.Op op parts, w) e in
    let same : map (width_at terms) (listed parts) ≡ map (width_at (take at terms)) (listed parts) =
    ap (λ (ts : List Term). map (width_at ts) (listed parts)) (sym (take-append-drop at terms))
    ∙ same_widths (take at terms) (drop at terms) (listed parts) next.0 in
    let long : length (take at terms) ≡ at = length_take_le at terms (lt_le within) in
    record {
      before = subst (λ n. All (λ (part : TermId). part.0 < n) (listed parts)) long next.0;
      fits = subst (Fits op) (sym same) next.1;
      width = next.2 ∙ ap (width_of op) (sym same);
    }

-- an operation that stands has its one width
pub op_width : {terms : List Term} → AreTerms terms → (op : Op) (parts : Parts) → HasWidth terms (nodes.Op op parts)
    (width_of op (map (width_at terms) (listed parts)))
op_width made op parts at w e = (is_made made at op parts w e).width

-- ---- variables are numbered in order

count_append : (old more : List Term) → variable_count (old ++ more) ≡ variable_count old + variable_count more
count_append [] more = omega arith
count_append ((nodes.Var number width, w) ∷ old) more = omega (arith, count_append old more)
count_append ((nodes.Op op parts, w) ∷ old) more = count_append old more

pub count_below : (terms : List Term) → variable_count terms ≤ length terms
count_below [] = omega arith
count_below ((nodes.Var number width, w) ∷ terms) = omega (arith, count_below terms)
count_below ((nodes.Op op parts, w) ∷ terms) = omega (arith, count_below terms)

-- a variable counts for those after it
count_at : (terms : List Term) (at number width w : ℕ) → slice_get terms at ≡ Some (nodes.Var number width, w)
    → suc (variable_count (take at terms)) ≤ variable_count terms
count_at [] at number width w e = absurd (nowhere at e)
count_at (t ∷ terms) zero number width w e = subst (λ (y : Term). suc (variable_count (take zero (y ∷ terms))) ≤ variable_count (y ∷ terms))
    (sym (some_same e)) (omega arith)
count_at ((nodes.Var n v, u) ∷ terms) (suc at) number width w e = omega (arith, count_at terms at number width w e)
count_at ((nodes.Op op parts, u) ∷ terms) (suc at) number width w e = count_at terms at number width w e

-- so the next variable stands nowhere yet
pub var_fresh : {terms : List Term} → AreTerms terms → (width : ℕ) → HasWidth terms (nodes.Var (variable_count terms) width) width
var_fresh {terms} made width at w e =
    let next = comes_next made at (nodes.Var (variable_count terms) width, w) e in
    let none : ⊥ = omega (arith, next.0, count_at terms at (variable_count terms) width w e) in
    absurd none

pub var_absent : {terms : List Term} → AreTerms terms → (width w : ℕ) → Contains terms (nodes.Var (variable_count terms) width, w) → ⊥
var_absent {terms} made width w there =
    let t : Term = (nodes.Var (variable_count terms) width, w) in
    let e : slice_get terms there.0 ≡ Some t = slice_get-get_or terms there.0 t there.1 ∙ ap Some there.2 in
    let next = comes_next made there.0 t e in
    omega (arith, next.0, count_at terms there.0 (variable_count terms) width w e)

-- ---- the parts of an operation

pub listed_held : (op : Op) (widths : TermId → ℕ) (parts : List TermId) → Fits op (map widths parts) → listed (held parts) ≡ parts
listed_held op widths [] h = refl
listed_held op widths (a ∷ []) h = refl
listed_held op widths (a ∷ b ∷ []) h = refl
listed_held op widths (c ∷ a ∷ b ∷ []) h = refl
listed_held op widths (a ∷ b ∷ c ∷ d ∷ parts) h = absurd h

-- ---- what a call leaves

-- there was room for a new term that is answered
not_most : (old : List Term) (t : Term) (id : TermId) → (Contains old t → ⊥) → length old ≤ 4194304 →
    ((◌≡◌ {A = Result TermId TermStop} (Ok id) (Err stops.Full)) ↔ ((Contains old t → ⊥) × (length old ≡ 4194304))) → length old < 4194304
not_most old t id none most full =
    elim (cases_lt (length old) 4194304) [
      | inl below ↦ below
      | inr above ↦ absurd (answered (full.1 (none, omega (arith, most, above))))
    ]

-- an operation is added
pub kept_op : (old new : List Term) (count : ℕ) (op : Op) (parts : Parts) (w : ℕ) (result : Result TermId TermStop) → AreTerms old
    → count ≡ variable_count old → length old ≤ 4194304 →
    ComesNext old (nodes.Op op parts, w) → Needs old new (nodes.Op op parts, w) result → AreTerms new × (count ≡ variable_count new) × (length new ≤ 4194304)
kept_op old new count op parts w (Ok id) made same most next needs =
    elim needs.either [
      | inl stood ↦ rw stood.1 (made, same, most)
      | inr none ↦
          let t : Term = (nodes.Op op parts, w) in
          let longer = length-append old (t ∷ []) in
          let below : length old < 4194304 = not_most old t id none.0 most needs.full in
          rw none.1 (extended old t made next, same ∙ sym (count_append old (t ∷ []) ∙ add-zero _), omega (arith, longer, below))
    ]
kept_op old new count op parts w (Err stop) made same most next needs = rw needs.kept (made, same, most)

-- ---- `make` and `var`, whose terms are seen as `now` and held as `entries`

module _ (now entries : List Term) (op : Op) (parts : List TermId) (p : Parts) (w : ℕ) (same : entries ≡ now) (is : p ≡ held parts)
    (fits : Fits op (map (width_at now) parts)) (width : w ≡ width_of op (map (width_at now) (listed p))) where
  same_parts : listed p ≡ parts
  same_parts = ap listed is ∙ listed_held op (width_at now) parts fits

  pub make_next : All (Stands now) parts → ComesNext entries (nodes.Op op p, w)
  make_next stand =
      subst (λ (ts : List Term). ComesNext ts (nodes.Op op p, w)) (sym same)
      (subst (All (Stands now)) (sym same_parts) stand, subst (λ ps. Fits op (map (width_at now) ps)) (sym same_parts) fits, width)

  pub make_width : AreTerms entries → HasWidth entries (nodes.Op op p) w
  make_width made at v e = op_width made op p at v e ∙ ap (λ (ts : List Term). width_of op (map (width_at ts) (listed p))) same ∙ sym width

  pub make_needs : (new : List Term) (result : Result TermId TermStop) → Needs entries new (nodes.Op op p, w) result
      → Needs now new (operation now op parts) result
  make_needs new result needs =
      let term : (nodes.Op op p, w) ≡ operation now op parts =
      (λ j. (nodes.Op op (is j), (width ∙ ap (λ ps. width_of op (map (width_at now) ps)) same_parts) j)) in
      subst (λ (ts : List Term). Needs ts new (operation now op parts) result) same (subst (λ (t : Term). Needs entries new t result) term needs)

-- a variable is added
pub kept_var : (old new : List Term) (count width : ℕ) (id : TermId) → AreTerms old → count ≡ variable_count old → length old ≤ 4194304 → 0 < width
    → width ≤ 64 →
    Needs old new (nodes.Var count width, width) (Ok id) → AreTerms new × (count + 1 ≡ variable_count new) × (length new ≤ 4194304) × (count < 4194304)
kept_var old new count width id made same most some fits needs =
    let t : Term = (nodes.Var count width, width) in
    let absent : Contains old t → ⊥ = subst (λ n. Contains old (nodes.Var n width, width) → ⊥) (sym same) (var_absent made width width) in
    elim needs.either [
      | inl stood ↦ absurd (absent stood.0)
      | inr none ↦
          let longer = length-append old (t ∷ []) in
          let below : length old < 4194304 = not_most old t id none.0 most needs.full in
          let fewer = count_below old in
          let one : variable_count (t ∷ []) ≡ 1 = refl in
          let counted = count_append old (t ∷ []) in (
            subst AreTerms (sym none.1) (extended old t made (same, refl, some, fits)),
            omega (arith, same, counted, one) ∙ ap variable_count (sym none.1),
            subst (λ (ts : List Term). length ts ≤ 4194304) (sym none.1) (omega (arith, longer, below)),
            omega (arith, fewer, same, below),
          )
    ]

pub var_needs : (now entries new : List Term) (count width : ℕ) (result : Result TermId TermStop) → entries ≡ now → count ≡ variable_count entries →
    Needs entries new (nodes.Var count width, width) result → Needs now new (nodes.Var (variable_count now) width, width) result
var_needs now entries new count width result same is needs =
    let counted : count ≡ variable_count now = is ∙ ap variable_count same in
    subst (λ (ts : List Term). Needs ts new (nodes.Var (variable_count now) width, width) result) same
    (subst (λ n. Needs entries new (nodes.Var n width, width) result) counted needs)

pub var_width : (entries : List Term) (count width : ℕ) → AreTerms entries → count ≡ variable_count entries → HasWidth entries (nodes.Var count width) width
var_width entries count width made is = subst (λ n. HasWidth entries (nodes.Var n width) width) (sym is) (var_fresh made width)

pub nothing_kept : (entries : List Term) → length entries ≡ 0 → AreTerms entries × (0 ≡ variable_count entries) × (length entries ≤ 4194304)
nothing_kept [] e = (nothing, refl, omega arith)
nothing_kept (t ∷ entries) e = let none : ⊥ = omega (arith, e) in absurd none
