-- Each kind of node takes no more steps than are noted, where its parts do.
use Rattle.std.proofs.Common.{ℕ, ◌+◌, ◌≤◌, max, true, false, if◌then◌else◌, arith}
use Rattle.vg_core.specs.Units.{Typed}
use Rattle.vg_core.specs.Layouts.{layout}
use Rattle.vg_core.specs.declared.tree.BinaryOp.{BinaryOp}
use Rattle.vg_core.specs.declared.tree.BinaryOp.TheVariants as binaries
use Rattle.vg_core.specs.declared.tree.UnaryOp.{UnaryOp}
use Rattle.vg_core.specs.declared.tree.UnaryOp.TheVariants as unaries
use Rattle.vg_core.specs.declared.types.CType.{CType}
use Rattle.vg_cint.specs.Tests.{tested}
use Rattle.vg_cmemory.specs.State.{State}
use Rattle.vg_cmean.specs.declared.datum.Datum.{Datum}
use Rattle.vg_cmean.specs.declared.datum.Datum.TheVariants as data_of
use Rattle.vg_cmean.specs.Outcomes.{Outcome, Gives, and_then, tick}
use Rattle.vg_cmean.specs.Typings.{place_at, type_at, element_size, is_array}
use Rattle.vg_cmean.specs.Values.{read, binary, unary, as_type, is_true, of_bool, word_of}
use Rattle.vg_cmean.specs.Places.{indexed, element, element_at, element_of, index_tests, start_under, pointed_to, address, address_tests}
use Rattle.vg_cmean.specs.Meaning as meaning
use Rattle.vg_cmean.specs.Meaning.{Meaning, Parts_mean, value, operated, is_truth, before_operand, chosen, choice, indexed_by, index_of}
use Rattle.vg_cbounds.specs.Bounds.{steps_after}
use Rattle.vg_cbounds.proofs.Spent.{bind_steps, or_wrong_steps, if_steps, read_steps, binary_steps, unary_steps}

pub record IsBounded (m : Meaning) (k : ℕ) : Type 0 where
  pub gives : (s : State) → steps_after (m.gives s) ≤ s.own.steps + k
  pub does : (s : State) → steps_after (m.does s) ≤ s.own.steps + k

pub value_steps : (m : Meaning) (k : ℕ) (s : State) → IsBounded m k → steps_after (value m s) ≤ s.own.steps + k
value_steps m k s h =
    let e = bind_steps (m.gives s) read (s.own.steps + k) 0 (h.gives s) (λ d t. let r = read_steps d t in omega arith) in omega arith

-- what goes on with a value and takes no step
pub then_steps : (m : Meaning) (k : ℕ) (s : State) (f : Datum → State → Outcome) (b : ℕ) → IsBounded m k
    → ((d : Datum) (t : State) → steps_after (f d t) ≤ t.own.steps + b) →
    steps_after (and_then (value m s) f) ≤ s.own.steps + (k + b)
then_steps m k s f b h g =
    let e = bind_steps (value m s) f (s.own.steps + k) b (value_steps m k s h) g in omega arith

pub gives_steps : (m : Meaning) (k : ℕ) (s : State) (f : Datum → State → Outcome) (b : ℕ) → IsBounded m k
    → ((d : Datum) (t : State) → steps_after (f d t) ≤ t.own.steps + b) →
    steps_after (and_then (m.gives s) f) ≤ s.own.steps + (k + b)
gives_steps m k s f b h g =
    let e = bind_steps (m.gives s) f (s.own.steps + k) b (h.gives s) g in omega arith

-- ---- expressions

address_steps : (u : Typed) (d : Datum) (s : State) → steps_after (address u d s) ≤ s.own.steps + 0
address_steps u (data_of.Lvalue place) s =
    or_wrong_steps (tested (address_tests (layout u.notes place.of).size place s) place.pointer) place.at s (λ p. Gives (data_of.Address p) s)
    (s.own.steps + 0) (omega arith) (λ p. omega arith)
address_steps u _ s = omega arith

pub unary_case : (u : Typed) (op : UnaryOp) (n : ℕ) (m : Meaning) (k : ℕ) (s : State) → IsBounded m k
    → steps_after (before_operand u op n m s) ≤ s.own.steps + k
unary_case u unaries.Load n m k s h =
    let e = then_steps m k s (λ d t. Gives (pointed_to (type_at u n) (place_at u n) d) t) 0 h (λ d t. omega arith) in omega arith
unary_case u unaries.Address n m k s h = let e = gives_steps m k s (address u) 0 h (λ d t. address_steps u d t) in omega arith
unary_case u op n m k s h =
    let e = then_steps m k s (unary op (place_at u n)) 0 h (λ d t. let r = unary_steps op (place_at u n) d t in omega arith) in omega arith

truth_steps : (d : Datum) (s : State) → steps_after (is_truth d s) ≤ s.own.steps + 0
truth_steps d s = omega arith

-- how many steps an operator adds
abbrev pub added : BinaryOp → ℕ
added binaries.AndThen = 1
added binaries.OrElse = 1
added _ = 0

operated_steps : (op : BinaryOp) (at : ℕ) (m : Meaning) (k : ℕ) (a : Datum) (s : State) → IsBounded m k
    → steps_after (operated op at m a s) ≤ s.own.steps + (added op + k)
operated_steps binaries.AndThen at m k a s h =
    let e = then_steps m k (tick s) is_truth 0 h truth_steps in
    if_steps (is_true a) (and_then (value m (tick s)) is_truth) (Gives (of_bool false) (tick s)) (s.own.steps + (1 + k)) (omega arith) (omega arith)
operated_steps binaries.OrElse at m k a s h =
    let e = then_steps m k (tick s) is_truth 0 h truth_steps in
    if_steps (is_true a) (Gives (of_bool true) (tick s)) (and_then (value m (tick s)) is_truth) (s.own.steps + (1 + k)) (omega arith) (omega arith)
operated_steps op at m k a s h =
    let e = then_steps m k s (binary op at a) 0 h (λ b t. let r = binary_steps op at a b t in omega arith) in omega arith

pub operation_case : (op : BinaryOp) (at : ℕ) (l r : Meaning) (a b : ℕ) (s : State) → IsBounded l a → IsBounded r b →
    steps_after (meaning.operation op at l r s) ≤ s.own.steps + (added op + a + b)
operation_case op at l r a b s h i =
    let e = then_steps l a s (operated op at r) (added op + b) h (λ d t. operated_steps op at r b d t i) in omega arith

chosen_steps : (type : CType) (one other : Meaning) (a b : ℕ) (d : Datum) (s : State) → IsBounded one a → IsBounded other b →
    steps_after (chosen type one other d s) ≤ s.own.steps + max a b
chosen_steps type one other a b d s h i =
    let v = value_steps one a s h in
    let w = value_steps other b s i in
    let c = if_steps (is_true d) (value one s) (value other s) (s.own.steps + max a b) (omega arith) (omega arith) in
    let e = bind_steps (if is_true d then value one s else value other s) (λ e t. Gives (as_type type e) t) (s.own.steps + max a b) 0 c
    (λ e t. omega arith) in omega arith

pub choice_case : (u : Typed) (n : ℕ) (condition one other : Meaning) (c a b : ℕ) (s : State) → IsBounded condition c → IsBounded one a → IsBounded other b →
    steps_after (choice u n condition one other s) ≤ s.own.steps + (1 + c + max a b)
choice_case u n condition one other c a b s g h i =
    let e = then_steps condition c s (λ d t. chosen (type_at u n) one other d (tick t)) (1 + max a b) g
    (λ d t. let r = chosen_steps (type_at u n) one other a b d (tick t) h i in omega arith) in omega arith

indexed_steps : (d : Datum) (s : State) → steps_after (indexed d s) ≤ s.own.steps
indexed_steps (data_of.Lvalue place) s =
    if_steps (is_array place.of) (Gives (data_of.Lvalue place) s) (read (data_of.Lvalue place) s) s.own.steps (omega arith)
    (read_steps (data_of.Lvalue place) s)
indexed_steps d s = read_steps d s

element_steps : (size : ℕ) (type : CType) (at index_at : ℕ) (a i : Datum) (s : State) → steps_after (element size type at index_at a i s) ≤ s.own.steps
element_steps size type at index_at a i s =
    or_wrong_steps (tested (index_tests (start_under a) (word_of i)) (element_of (start_under a) size (word_of i))) index_at s
    (λ p. Gives (data_of.Lvalue (element_at size type at a p)) s) s.own.steps (omega arith) (λ p. omega arith)

indexed_by_steps : (u : Typed) (part : Parts_mean) (n array index : ℕ) (k : ℕ) (d : Datum) (s : State) → IsBounded (part index) k →
    steps_after (indexed_by u part n array index d s) ≤ s.own.steps + k
indexed_by_steps u part n array index k d s h =
    let size = element_size u (type_at u array) in
    let go = λ (a : Datum) (t : State). and_then (value (part index) t) (element size (type_at u n) (place_at u n) (place_at u index) a) in
    let each : (a : Datum) (t : State) → steps_after (go a t) ≤ t.own.steps + (k + 0) =
    λ a t. then_steps (part index) k t (element size (type_at u n) (place_at u n) (place_at u index) a) 0 h
    (λ i v. let r = element_steps size (type_at u n) (place_at u n) (place_at u index) a i v in omega arith) in
    let e = bind_steps (indexed d s) go s.own.steps (k + 0) (indexed_steps d s) each in omega arith

pub index_case : (u : Typed) (part : Parts_mean) (n array index : ℕ) (a b : ℕ) (s : State) → IsBounded (part array) a → IsBounded (part index) b →
    steps_after (index_of u part n array index s) ≤ s.own.steps + (a + b)
index_case u part n array index a b s h i =
    let e = gives_steps (part array) a s (indexed_by u part n array index) b h (λ d t. indexed_by_steps u part n array index b d t i) in omega arith
