-- A node, by its kind: what it takes is no more than is noted, where its parts take no more.
use Rattle.std.proofs.Common.{◌≡◌, ℕ, zero, suc, ◌+◌, ◌*◌, ◌≤◌, max, List, [], ◌∷◌, Option, Some, None, sym, ap, subst, arith}
use Rattle.vg_core.specs.Units.{Typed}
use Rattle.vg_core.specs.Syntax.{listed}
use Rattle.vg_core.specs.declared.tree.BinaryOp.{BinaryOp}
use Rattle.vg_core.specs.declared.tree.BinaryOp.TheVariants as binaries
use Rattle.vg_core.specs.declared.tree.Kind.{Kind}
use Rattle.vg_core.specs.declared.tree.Kind.TheVariants as nodes
use Rattle.vg_core.specs.declared.unit.Referent.{Referent}
use Rattle.vg_core.specs.declared.unit.Referent.TheVariants as referents
use Rattle.vg_cint.specs.declared.value.Value.{Value}
use Rattle.vg_cmemory.specs.State.{State, declare}
use Rattle.vg_cmemory.specs.FrameCalls.{call_in_row}
use Rattle.vg_cmean.specs.Outcomes.{Gives, on_own, tick}
use Rattle.vg_cmean.specs.Typings.{kind_at, place_at, type_at, referent_at}
use Rattle.vg_cmean.specs.Values.{as_type}
use Rattle.vg_cmean.specs.Places.{member}
use Rattle.vg_cmean.specs.Meaning as meaning
use Rattle.vg_cmean.specs.Meaning.{Meaning, Parts_mean, value, expression, statement, run_all, closing, loop_of, turns, most_turns, first_of, constant, step_of}
use Rattle.vg_ctyper.specs.Names.{Known, callee}
use Rattle.vg_ctyper.specs.Notes as notes
use Rattle.vg_ctyper.specs.Notes.{capped, steps_at, optional_steps, sum_of_steps, node_steps, callee_steps, or_zero, loop_steps}
use Rattle.vg_ctyper.specs.StatementRules as rules
use Rattle.vg_cbounds.specs.Bounds.{steps_after}
use Rattle.vg_cbounds.proofs.Spent.{closing_steps}
use Rattle.vg_cbounds.proofs.Sums.{capped_is, total, sum_is}
use Rattle.vg_cbounds.proofs.Operands.{IsBounded, then_steps, gives_steps, unary_case, added, operation_case, choice_case, index_case}
use Rattle.vg_cbounds.proofs.Statements.{AreBounded, EndsWithin, declaration_case, run_all_case, assignment_case, stepped_case, evaluate_case}
use Rattle.vg_cbounds.proofs.Statements.{branched_case, returned_case, called_case, library_case, turns_steps, stopped}

-- ---- operators

binary_is : (op : BinaryOp) (a b : ℕ) → notes.binary_steps op a b ≤ 1000000 → notes.binary_steps op a b ≡ added op + a + b
binary_is binaries.AndThen a b h = let e = capped_is (1 + a + b) h in omega arith
binary_is binaries.OrElse a b h = let e = capped_is (1 + a + b) h in omega arith
binary_is op a b h = let e = capped_is (a + b) h in omega arith

binary_node : (u : Typed) (part : Parts_mean) (k : Known) (n : ℕ) (op : BinaryOp) (left right : ℕ) (s : State) → AreBounded part k →
    notes.binary_steps op (steps_at k left) (steps_at k right) ≤ 1000000 →
    steps_after (meaning.operation op (place_at u n) (part left) (part right) s) ≤ s.own.steps + notes.binary_steps op (steps_at k left) (steps_at k right)
binary_node u part k n op left right s h small =
    let is = binary_is op (steps_at k left) (steps_at k right) small in
    let e = operation_case op (place_at u n) (part left) (part right) (steps_at k left) (steps_at k right) s (h left (omega arith))
    (h right (omega arith)) in omega arith

choice_node : (u : Typed) (part : Parts_mean) (k : Known) (n condition one other : ℕ) (s : State) → AreBounded part k →
    capped (1 + steps_at k condition + max (steps_at k one) (steps_at k other)) ≤ 1000000 →
    steps_after (meaning.choice u n (part condition) (part one) (part other) s) ≤ s.own.steps + capped
    (1 + steps_at k condition + max (steps_at k one) (steps_at k other))
choice_node u part k n condition one other s h small =
    let is = capped_is (1 + steps_at k condition + max (steps_at k one) (steps_at k other)) small in
    let e = choice_case u n (part condition) (part one) (part other) (steps_at k condition) (steps_at k one) (steps_at k other) s
    (h condition (omega arith)) (h one (omega arith)) (h other (omega arith)) in omega arith

index_node : (u : Typed) (part : Parts_mean) (k : Known) (n array index : ℕ) (s : State) → AreBounded part k
    → capped (steps_at k array + steps_at k index) ≤ 1000000 →
    steps_after (meaning.index_of u part n array index s) ≤ s.own.steps + capped (steps_at k array + steps_at k index)
index_node u part k n array index s h small =
    let is = capped_is (steps_at k array + steps_at k index) small in
    let e = index_case u part n array index (steps_at k array) (steps_at k index) s (h array (omega arith)) (h index (omega arith)) in omega arith

-- ---- calls

-- what a call calls: a function whose body takes no more than is noted of the function
abbrev pub IsCalled : Typed → Parts_mean → Known → ℕ → Kind → Type 0
IsCalled u part k f (nodes.Function is_static is_inline answer name params body) = steps_at k f ≤ 1000000 → IsBounded (part body) (steps_at k f)
IsCalled u part k f _ = Unit {0}

abbrev pub IsCallee : Typed → Parts_mean → Known → Option Referent → Type 0
IsCallee u part k (Some (referents.Declared f)) = IsCalled u part k f (kind_at u f)
IsCallee u part k _ = Unit {0}

called_kind : (u : Typed) (part : Parts_mean) (k : Known) (f : ℕ) (arguments : List ℕ) (kind : Kind) (s : State) → AreBounded part k
    → IsCalled u part k f kind →
    1 + total k arguments + steps_at k f ≤ 1000000 →
    steps_after (meaning.call_of u part arguments kind s) ≤ s.own.steps + (1 + total k arguments + steps_at k f)
called_kind u part k f arguments (nodes.Function is_static is_inline answer name params body) s h i small =
    called_case u part k arguments answer (listed u.tree.items params) body (steps_at k f) s h (i (omega arith)) (omega arith)
called_kind u part k f arguments kind s h i small = omega arith

call_referent : (u : Typed) (part : Parts_mean) (k : Known) (at : ℕ) (arguments : List ℕ) (r : Option Referent) (s : State) → AreBounded part k
    → IsCallee u part k r →
    1 + total k arguments + callee_steps k r ≤ 1000000 →
    steps_after (meaning.call u part at arguments r s) ≤ s.own.steps + (1 + total k arguments + callee_steps k r)
call_referent u part k at arguments None s h i small = omega arith
call_referent u part k at arguments (Some (referents.Declared f)) s h i small = called_kind u part k f arguments (kind_at u f) s h i small
call_referent u part k at arguments (Some (referents.Library row)) s h i small =
    let e = library_case part k (call_in_row row) at arguments s h (omega arith) in omega arith

call_node : (u : Typed) (part : Parts_mean) (k : Known) (at : ℕ) (arguments : List ℕ) (r : Option Referent) (s : State) → AreBounded part k
    → IsCallee u part k r →
    capped (1 + sum_of_steps k arguments + callee_steps k r) ≤ 1000000 →
    steps_after (meaning.call u part at arguments r s) ≤ s.own.steps + capped (1 + sum_of_steps k arguments + callee_steps k r)
call_node u part k at arguments r s h i small =
    let is = capped_is (1 + sum_of_steps k arguments + callee_steps k r) small in
    let sum = sum_is k arguments (omega arith) in
    let e = call_referent u part k at arguments r s h i (omega arith) in omega arith

-- ---- loops

loop_node : (u : Typed) (n : ℕ) (m : Meaning) (c b : Value) (step most k : ℕ) (s : State) → (k ≤ 1000000 → IsBounded m k) → EndsWithin most c b step →
    loop_steps most k ≤ 1000000 →
    steps_after (turns u most_turns n m c b step (on_own (declare n) (tick s))) ≤ s.own.steps + loop_steps most k
loop_node u n m c b step zero k s h e small =
    let is = capped_is (1 + 0 * (1 + k)) small in
    let t = ap steps_after (stopped u most_turns n m c b step (on_own (declare n) (tick s)) e) in omega arith
loop_node u n m c b step (suc most) k s h e small =
    let is = capped_is (1 + suc most * (1 + k)) small in
    let t = turns_steps u most_turns (suc most) n m c b step k (on_own (declare n) (tick s)) (h (omega arith)) e in omega arith

-- ---- all kinds

-- what is asked of a node besides: of a call that its name stands for what typing noted, of a loop that it ends
abbrev pub IsFit : Typed → Parts_mean → Known → ℕ → Kind → Type 0
IsFit u part k n (nodes.Call name arguments) = (referent_at u n ≡ callee k n name) × IsCallee u part k (callee k n name)
IsFit u part k n (nodes.For of counter start tested bound stepped step body) =
    EndsWithin (or_zero (rules.turns k of start bound step)) (first_of u of start) (constant u bound) (step_of u step)
IsFit u part k n _ = Unit {0}

pub expression_node : (u : Typed) (part : Parts_mean) (k : Known) (n : ℕ) (kind : Kind) (s : State) → k.tree ≡ u.tree → AreBounded part k
    → IsFit u part k n kind →
    node_steps k n kind ≤ 1000000 → steps_after (expression u part n kind s) ≤ s.own.steps + node_steps k n kind
expression_node u part k n (nodes.Parens inner) s t h f small = (h inner small).gives s
expression_node u part k n (nodes.Unary op operand) s t h f small = unary_case u op n (part operand) (steps_at k operand) s (h operand small)
expression_node u part k n (nodes.Binary op left right) s t h f small = binary_node u part k n op left right s h small
expression_node u part k n (nodes.Choose condition one other) s t h f small = choice_node u part k n condition one other s h small
expression_node u part k n (nodes.Cast base pointer operand) s t h f small =
    let e = then_steps (part operand) (steps_at k operand) s (λ d t. Gives (as_type (type_at u n) d) t) 0 (h operand small) (λ d t. omega arith) in omega arith
expression_node u part k n (nodes.Index array index) s t h f small = index_node u part k n array index s h small
expression_node u part k n (nodes.Member whole field) s t h f small =
    let e = gives_steps (part whole) (steps_at k whole) s (λ d t. Gives (member u n whole (place_at u n) d) t) 0 (h whole small) (λ d t. omega arith)
    in omega arith
expression_node u part k n (nodes.Arrow pointer field) s t h f small =
    let e = then_steps (part pointer) (steps_at k pointer) s (λ d t. Gives (member u n pointer (place_at u n) d) t) 0 (h pointer small)
    (λ d t. omega arith) in omega arith
expression_node u part k n (nodes.Call name arguments) s t h f small =
    subst (λ r. steps_after (meaning.call u part (place_at u n) (listed u.tree.items arguments) r s) ≤ s.own.steps + node_steps k n
    (nodes.Call name arguments)) (sym f.0)
    (subst (λ tree. steps_after (meaning.call u part (place_at u n) (listed tree.items arguments) (callee k n name) s) ≤ s.own.steps + node_steps k n
    (nodes.Call name arguments)) t
    (call_node u part k (place_at u n) (listed k.tree.items arguments) (callee k n name) s h f.1 small))
expression_node u part k n kind s t h f small = omega arith

pub statement_node : (u : Typed) (part : Parts_mean) (k : Known) (n : ℕ) (kind : Kind) (s : State) → k.tree ≡ u.tree → AreBounded part k
    → IsFit u part k n kind →
    node_steps k n kind ≤ 1000000 → steps_after (statement u part n kind s) ≤ s.own.steps + node_steps k n kind
statement_node u part k n (nodes.Block statements end) s t h f small =
    subst (λ tree. steps_after (closing (listed tree.items statements) (run_all part (listed tree.items statements) s)) ≤ s.own.steps + node_steps k n
    (nodes.Block statements end)) t
    (let sum = sum_is k (listed k.tree.items statements) small in
    let e = run_all_case part k (listed k.tree.items statements) s h (omega arith) in
    let c = closing_steps (listed k.tree.items statements) (run_all part (listed k.tree.items statements) s) in omega arith)
statement_node u part k n (nodes.Declare base pointer name count v) s t h f small = declaration_case u part k n v s h small
statement_node u part k n nodes.Empty s t h f small = omega arith
statement_node u part k n (nodes.Evaluate v) s t h f small =
    let is = capped_is (1 + steps_at k v) small in
    let e = evaluate_case (part v) (steps_at k v) s (h v (omega arith)) in omega arith
statement_node u part k n (nodes.Assign op target v) s t h f small =
    let is = capped_is (1 + steps_at k target + steps_at k v) small in
    let e = assignment_case u n op (part target) (part v) (steps_at k target) (steps_at k v) s (h target (omega arith)) (h v (omega arith)) in omega arith
statement_node u part k n (nodes.Increment target) s t h f small =
    let is = capped_is (1 + steps_at k target) small in
    let e = stepped_case binaries.Add (place_at u n) (part target) (steps_at k target) s (h target (omega arith)) in omega arith
statement_node u part k n (nodes.Decrement target) s t h f small =
    let is = capped_is (1 + steps_at k target) small in
    let e = stepped_case binaries.Subtract (place_at u n) (part target) (steps_at k target) s (h target (omega arith)) in omega arith
statement_node u part k n (nodes.If condition body otherwise) s t h f small =
    let is = capped_is (2 + steps_at k condition + max (steps_at k body) (optional_steps k otherwise)) small in
    let e = branched_case part k condition body otherwise s h (omega arith) in omega arith
statement_node u part k n (nodes.For of counter start tested bound stepped step body) s t h f small =
    let e = loop_node u n (part body) (first_of u of start) (constant u bound) (step_of u step) (or_zero (rules.turns k of start bound step))
    (steps_at k body) s (h body) f small in
    let c = closing_steps (n ∷ []) (loop_of u part n of start bound step body (tick s)) in omega arith
statement_node u part k n (nodes.Return v) s t h f small =
    let is = capped_is (1 + optional_steps k v) small in
    let e = returned_case part k v s h (omega arith) in omega arith
statement_node u part k n kind s t h f small = omega arith
