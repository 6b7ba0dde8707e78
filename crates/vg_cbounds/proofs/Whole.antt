-- All nodes, each by those before it, and a run.
use Rattle.std.proofs.Common.{◌≡◌, ℕ, zero, suc, ◌+◌, ◌-◌, ◌≤◌, ◌<◌, Bool, true, false, if◌then◌else◌, nat_lt, List, [], ◌∷◌, length, take, Option}
use Rattle.std.proofs.Common.{Some, None, refl, sym, ap, subst, arith, ◌∙◌, ◌⊎◌, inl, inr, ◌&&◌}
use Rattle.std.proofs.lemmas.List.{length-take}
use Rattle.std.proofs.lemmas.Bool.{cases_lt}
use Rattle.std.proofs.lemmas.Bool.Decides.{nat_tests}
use Rattle.vg_core.specs.Units.{Typed}
use Rattle.vg_core.specs.Syntax.{listed}
use Rattle.vg_core.specs.declared.tree.Name.{Name}
use Rattle.vg_core.specs.declared.tree.IntType.{IntType}
use Rattle.vg_core.specs.declared.tree.Kind.{Kind}
use Rattle.vg_core.specs.declared.tree.Kind.TheVariants as nodes
use Rattle.vg_core.specs.declared.tree.Parts.{Parts}
use Rattle.vg_core.specs.declared.unit.Referent.TheVariants as referents
use Rattle.vg_cmemory.specs.State.{State}
use Rattle.vg_cmean.specs.Outcomes.{full}
use Rattle.vg_cmean.specs.Typings as typings
use Rattle.vg_cmean.specs.Typings.{kind_at, place_at, referent_at}
use Rattle.vg_cmean.specs.Meaning.{Meaning, Parts_mean, nothing, of_node, meaning_below, meaning, parameter, answer_as, closing, end_of, first_of}
use Rattle.vg_cmean.specs.Meaning.{constant, step_of}
use Rattle.vg_cmean.specs.Runs as runs
use Rattle.vg_cmean.specs.Runs.{run, run_at, run_of, process_of, process_in, start, unsigned}
use Rattle.vg_cmean.proofs.Below.{meaning_is, below_is, below_none}
use Rattle.vg_cscope.specs.Scopes as scopes
use Rattle.vg_cscope.specs.Names.{is_function, spelling}
use Rattle.vg_ctyper.specs.Names.{Known, as_callee, as_row}
use Rattle.vg_ctyper.specs.Types.{referent}
use Rattle.vg_ctyper.specs.DeclarationRules.{last_of}
use Rattle.vg_ctyper.specs.Notes.{node_steps, steps_at, or_zero, items_of, item_fault, process_fault}
use Rattle.vg_ctyper.specs.StatementRules as rules
use Rattle.vg_ctyper.specs.WellTyped.{IsWellTyped}
use Rattle.vg_core.specs.Library.{row_named}
use Rattle.vg_cbounds.specs.Bounds.{known, steps_after, noted_steps, noted_at, noted_of_process}
use Rattle.vg_cbounds.proofs.Spent.{after_steps, closing_steps, answer_steps}
use Rattle.vg_cbounds.proofs.Operands.{IsBounded}
use Rattle.vg_cbounds.proofs.Statements.{AreBounded, EndsWithin, parameter_steps}
use Rattle.vg_cbounds.proofs.Nodes.{IsFit, IsCallee, IsCalled, expression_node, statement_node}
use Rattle.vg_cbounds.proofs.Ties.{note_is, steps_noted, steps_before, body_of, body_steps}

-- a loop's counter comes to its bound in as many turns as typing counts
abbrev pub LoopEnds : Typed → ℕ → Kind → Type 0
LoopEnds u n (nodes.For of counter start tested bound stepped step body) =
    EndsWithin (or_zero (rules.turns (known u n) of start bound step)) (first_of u of start) (constant u bound) (step_of u step)
LoopEnds u n _ = Unit {0}

abbrev pub LoopsEnd : Typed → Type 0
LoopsEnd u = (n : ℕ) → n < length u.tree.nodes → LoopEnds u n (kind_at u n)

abbrev AreBoundedBelow : Typed → ℕ → Type 0
AreBoundedBelow u m = (n : ℕ) → n < m → n < length u.tree.nodes → noted_steps u n ≤ 1000000 → IsBounded (meaning u n) (noted_steps u n)

nothing_bounded : (k : ℕ) → IsBounded nothing k
nothing_bounded k = record { gives = λ s. omega arith; does = λ s. omega arith }

part_of : (u : Typed) (n p : ℕ) → IsWellTyped u → n < length u.tree.nodes → AreBoundedBelow u n → (p < n) ⊎ (n ≤ p) → steps_at (known u n) p ≤ 1000000 →
    IsBounded (meaning_below u n p) (steps_at (known u n) p)
part_of u n p w h below (inl less) small =
    let there : p < length u.tree.nodes = omega arith in
    let is = steps_before u n p w less there in
    let few : noted_steps u p ≤ 1000000 = omega arith in
    subst (λ k. IsBounded (meaning_below u n p) k) (sym is) (subst (λ (m : Meaning). IsBounded m (noted_steps u p)) (sym (below_is u n p less))
    (below p less there few))
part_of u n p w h below (inr more) small = subst (λ (m : Meaning). IsBounded m (steps_at (known u n) p)) (sym (below_none u n p more))
    (nothing_bounded (steps_at (known u n) p))

parts_of : (u : Typed) (n : ℕ) → IsWellTyped u → n < length u.tree.nodes → AreBoundedBelow u n → AreBounded (meaning_below u n) (known u n)
parts_of u n w h below p small = part_of u n p w h below (cases_lt p n) small

-- ---- what a call calls

called_fit : (u : Typed) (n d : ℕ) (kind : Kind) → IsWellTyped u → n < length u.tree.nodes → AreBounded (meaning_below u n) (known u n) → d < n
    → kind_at u d ≡ kind →
    IsCalled u (meaning_below u n) (known u n) d kind
called_fit u n d (nodes.Function is_static is_inline answer name params body) w h parts less e = λ small.
    let there : d < length u.tree.nodes = omega arith in
    let is = body_of u d is_static is_inline answer name params body w e in
    let body_there : body < length u.tree.nodes = omega (arith, is.before) in
    let body_less : body < n = omega (arith, is.before) in
    let steps : steps_at (known u n) d ≡ steps_at (known u n) body =
    steps_before u n d w less there ∙ body_steps u d is_static is_inline answer name params body w e ∙ sym (steps_before u n body w body_less body_there) in
    subst (λ k. IsBounded (meaning_below u n body) k) (sym steps) (parts body (omega arith))
called_fit u n d _ w h parts less e = tt

if_callee : (u : Typed) (part : Parts_mean) (k : Known) (d : ℕ) (c : Bool) → (c ≡ true → IsCalled u part k d (kind_at u d)) →
    IsCallee u part k (if c then Some (referents.Declared d) else None)
if_callee u part k d true h = h refl
if_callee u part k d false h = tt

row_callee : (u : Typed) (part : Parts_mean) (k : Known) (r : Option ℕ) → IsCallee u part k (as_row r)
row_callee u part k None = tt
row_callee u part k (Some row) = tt

both_true : (a : Bool) (d l : ℕ) → (a && nat_lt d l) ≡ true → d < l
both_true a d l e = grind (arith, nat_tests)

callee_fit : (u : Typed) (n : ℕ) (name : Name) (o : Option ℕ) → IsWellTyped u → n < length u.tree.nodes → AreBounded (meaning_below u n) (known u n) →
    IsCallee u (meaning_below u n) (known u n) (as_callee (known u n) name o)
callee_fit u n name None w h parts = row_callee u (meaning_below u n) (known u n) (row_named (spelling u.text name))
callee_fit u n name (Some d) w h parts =
    if_callee u (meaning_below u n) (known u n) d (is_function (scopes.kind_at u.tree d) && nat_lt d (length (take n u.notes)))
    (λ e.
    let less = both_true (is_function (scopes.kind_at u.tree d)) d (length (take n u.notes)) e in
    let short = length-take n u.notes in
    called_fit u n d (kind_at u d) w h parts (omega arith) refl)

fit : (u : Typed) (n : ℕ) (kind : Kind) → IsWellTyped u → LoopsEnd u → n < length u.tree.nodes → AreBounded (meaning_below u n) (known u n)
    → kind_at u n ≡ kind →
    IsFit u (meaning_below u n) (known u n) n kind
fit u n (nodes.Call name arguments) w ends h parts e = (
  ap typings.referent_of_note (note_is u n w h) ∙ ap (λ (k : Kind). referent (known u n) n k) e,
  callee_fit u n name _ w h parts,
)
fit u n (nodes.For of counter start tested bound stepped step body) w ends h parts e = subst (λ (k : Kind). LoopEnds u n k) e (ends n h)
fit u n _ w ends h parts e = tt

-- ---- all nodes

node_bounded : (u : Typed) (n : ℕ) → IsWellTyped u → LoopsEnd u → n < length u.tree.nodes → AreBoundedBelow u n → noted_steps u n ≤ 1000000 →
    IsBounded (meaning u n) (noted_steps u n)
node_bounded u n w ends h below small =
    let parts = parts_of u n w h below in
    let is = steps_noted u n w h in
    let few : node_steps (known u n) n (kind_at u n) ≤ 1000000 = omega arith in
    let f = fit u n (kind_at u n) w ends h parts refl in
    let own : IsBounded (of_node u (meaning_below u n) n) (node_steps (known u n) n (kind_at u n)) = record {
      gives = λ s. expression_node u (meaning_below u n) (known u n) n (kind_at u n) s refl parts f few;
      does = λ s. statement_node u (meaning_below u n) (known u n) n (kind_at u n) s refl parts f few;
    } in
    subst (λ k. IsBounded (meaning u n) k) (sym is) (subst (λ (m : Meaning). IsBounded m (node_steps (known u n) n (kind_at u n))) (sym (meaning_is u n)) own)

split_below : (n m : ℕ) → n < suc m → (n < m) ⊎ (n ≡ m)
split_below n m h = elim (cases_lt n m) [ inl less ↦ inl less | inr more ↦ inr (omega arith) ]

all_next : (u : Typed) (m n : ℕ) → IsWellTyped u → LoopsEnd u → AreBoundedBelow u m → (n < m) ⊎ (n ≡ m) → n < length u.tree.nodes → noted_steps u n ≤ 1000000 →
    IsBounded (meaning u n) (noted_steps u n)
all_next u m n w ends below (inl less) there small = below n less there small
all_next u m n w ends below (inr same) there small =
    let b : AreBoundedBelow u n = subst (λ k. AreBoundedBelow u k) (sym same) below in node_bounded u n w ends there b small

all_below : (u : Typed) (m : ℕ) → IsWellTyped u → LoopsEnd u → AreBoundedBelow u m
all_below u zero w ends n less there small = absurd (omega arith)
all_below u (suc m) w ends n less there small = all_next u m n w ends (all_below u m w ends) (split_below n m less) there small

pub every_node : (u : Typed) (n : ℕ) → IsWellTyped u → LoopsEnd u → n < length u.tree.nodes → noted_steps u n ≤ 1000000
    → IsBounded (meaning u n) (noted_steps u n)
every_node u n w ends there small = all_below u (suc n) w ends n (omega arith) there small

-- ---- a run

arguments_steps : (u : Typed) (ps : List ℕ) (port now : ℕ) (s : State) → steps_after (runs.arguments u ps port now s) ≤ s.own.steps + 0
arguments_steps u [] port now s = omega arith
arguments_steps u (p ∷ []) port now s = omega arith
arguments_steps u (p ∷ t ∷ []) port now s =
    let e = after_steps (parameter u p (unsigned 16 port) s) (parameter u t (unsigned 64 now)) (s.own.steps + 0) 0
    (parameter_steps u p (unsigned 16 port) s) (parameter_steps u t (unsigned 64 now)) in omega arith
arguments_steps u (p ∷ t ∷ q ∷ ps) port now s = omega arith

same_last : (u : Typed) (kind : Kind) → process_in u kind ≡ last_of (items_of u.tree kind)
same_last u (nodes.Unit items) = refl
same_last u _ = refl

few_steps : (steps : ℕ) (is_static is_inline : Bool) (answer : Option IntType) (name : Name) (params : Parts) (body : ℕ) →
    process_fault steps (nodes.Function is_static is_inline answer name params body) ≡ None → steps ≤ 1000000
few_steps steps is_static is_inline answer name params body e = grind (arith, nat_tests)

run_function : (u : Typed) (f : ℕ) (kind : Kind) (port now : ℕ) (s : State) → IsWellTyped u → LoopsEnd u → kind_at u f ≡ kind
    → process_fault (noted_steps u f) kind ≡ None →
    (steps_after (run_of u kind port now s) ≤ s.own.steps + noted_steps u f) × (steps_after (run_of u kind port now s) ≤ s.own.steps + 1000000)
run_function u f (nodes.Function is_static is_inline answer name params body) port now s w ends e short =
    let small = few_steps (noted_steps u f) is_static is_inline answer name params body short in
    let is = body_of u f is_static is_inline answer name params body w e in
    let steps = body_steps u f is_static is_inline answer name params body w e in
    let there : body < length u.tree.nodes = omega (arith, is.there, is.before) in
    let b = every_node u body w ends there (omega arith) in
    let ps = listed u.tree.items params in
    let rest = λ (t : State). answer_as answer (end_of (kind_at u body)) (closing ps ((meaning u body).does t)) in
    let each : (t : State) → steps_after (rest t) ≤ t.own.steps + noted_steps u body =
    λ t.
    let d = b.does t in
    let g = answer_steps answer (end_of (kind_at u body)) (closing ps ((meaning u body).does t)) in
    let c = closing_steps ps ((meaning u body).does t) in omega arith in
    let all = after_steps (runs.arguments u ps port now s) rest (s.own.steps + 0) (noted_steps u body) (arguments_steps u ps port now s) each in
    (omega arith, omega arith)
run_function u f _ port now s w ends e short = (omega arith, omega arith)

run_found : (u : Typed) (f : Option ℕ) (port now : ℕ) (s : State) → IsWellTyped u → LoopsEnd u → item_fault u.tree u.notes f ≡ None →
    (steps_after (run_at u f port now s) ≤ s.own.steps + noted_at u f) × (steps_after (run_at u f port now s) ≤ s.own.steps + 1000000)
run_found u None port now s w ends short = (omega arith, omega arith)
run_found u (Some f) port now s w ends short =
    run_function u f (kind_at u f) port now s w ends refl (ap (λ (k : Kind). process_fault (noted_steps u f) k)
    (Rattle.vg_cbounds.proofs.Ties.kinds_are_one u f) ∙ short)

pub run_bounded : (u : Typed) (port now : ℕ) (frame : List ℕ) → IsWellTyped u → LoopsEnd u →
    (steps_after (run u port now frame) ≤ noted_of_process u) × (steps_after (run u port now frame) ≤ 1000000)
run_bounded u port now frame w ends =
    let root = length u.tree.nodes - 1 in
    let last : process_of u ≡ last_of (items_of u.tree (scopes.kind_at u.tree root)) =
    ap (process_in u) (Rattle.vg_cbounds.proofs.Ties.kinds_are_one u root) ∙ same_last u (scopes.kind_at u.tree root) in
    let e = run_found u (process_of u) port now (full (start u) frame) w ends (ap (item_fault u.tree u.notes) last ∙ w.short) in
    (omega (arith, e.0), omega (arith, e.1))
