-- Statements and calls, by the steps of their parts.
use Rattle.std.proofs.Common.{◌≡◌, ℕ, zero, suc, ◌+◌, ◌*◌, ◌≤◌, max, Bool, true, false, if◌then◌else◌, List, [], ◌∷◌, ◌++◌, length, nat_le, Option}
use Rattle.std.proofs.Common.{Some, None, refl, ap, arith, ◌∙◌, ◌⊎◌, inl, inr}
use Rattle.vg_core.specs.Units.{Typed}
use Rattle.vg_core.specs.declared.tree.BinaryOp.{BinaryOp}
use Rattle.vg_core.specs.declared.tree.IntType.{IntType}
use Rattle.vg_cint.specs.declared.value.Value.{Value}
use Rattle.vg_cmemory.specs.State.{State, declare}
use Rattle.vg_cmemory.specs.Loans.{borrow_tests, return_tests, with_loan, without_loan, start_of_loan}
use Rattle.vg_cmemory.specs.declared.frame_calls.FrameCall.{FrameCall}
use Rattle.vg_cmemory.specs.declared.frame_calls.FrameCall.TheVariants as calls
use Rattle.vg_cmean.specs.declared.datum.Datum.{Datum}
use Rattle.vg_cmean.specs.declared.datum.Datum.TheVariants as data_of
use Rattle.vg_cmean.specs.Outcomes.{Next, Gives, and_then, after, on_own, tick}
use Rattle.vg_cmean.specs.Typings.{kind_at, place_at}
use Rattle.vg_cmean.specs.Values.{read, write, binary, is_true, word_of, pointer_of, converted_to}
use Rattle.vg_cmean.specs.Places.{declared}
use Rattle.vg_cmean.specs.Meaning as meaning
use Rattle.vg_cmean.specs.Meaning.{Meaning, Parts_mean, value, one, run_all, updated, assignment, stepped, branch, taken, branched, returned, counted}
use Rattle.vg_cmean.specs.Meaning.{turn, turns, is_below, next_of, parameter, given, function_called, answer_as, closing, end_of, packet_borrow}
use Rattle.vg_cmean.specs.Meaning.{packet_return, packet_length, argument_at, frame_row, frame_call, library_row, most_arguments}
use Rattle.vg_ctyper.specs.Names.{Known}
use Rattle.vg_ctyper.specs.Notes.{steps_at, optional_steps}
use Rattle.vg_cbounds.specs.Bounds.{steps_after}
use Rattle.vg_cbounds.proofs.Spent.{bind_steps, after_steps, tested_steps, if_steps, read_steps, write_steps, binary_steps, closing_steps, answer_steps}
use Rattle.vg_cbounds.proofs.Sums.{total}
use Rattle.vg_cbounds.proofs.Operands.{IsBounded, value_steps, then_steps, gives_steps}

-- each part takes no more steps than are noted, where these aren't cut
abbrev pub AreBounded : Parts_mean → Known → Type 0
AreBounded part k = (p : ℕ) → steps_at k p ≤ 1000000 → IsBounded (part p) (steps_at k p)

-- ---- statements

pub declaration_case : (u : Typed) (part : Parts_mean) (k : Known) (n : ℕ) (v : Option ℕ) (s : State) → AreBounded part k → optional_steps k v ≤ 1000000 →
    steps_after (meaning.declaration u part n v s) ≤ s.own.steps + optional_steps k v
declaration_case u part k n None s h small = omega arith
declaration_case u part k n (Some v) s h small =
    let e = then_steps (part v) (steps_at k v) (on_own (declare n) s) (λ d t. write (declared u n (place_at u n) t.own) d t) 0 (h v small)
    (λ d t. let w = write_steps (declared u n (place_at u n) t.own) d t in omega arith) in omega arith

pub run_all_case : (part : Parts_mean) (k : Known) (ns : List ℕ) (s : State) → AreBounded part k → total k ns ≤ 1000000 →
    steps_after (run_all part ns s) ≤ s.own.steps + total k ns
run_all_case part k [] s h small = omega arith
run_all_case part k (n ∷ ns) s h small =
    let one = (h n (omega arith)).does s in
    let e = after_steps ((part n).does s) (run_all part ns) (s.own.steps + steps_at k n) (total k ns) one
    (λ t. run_all_case part k ns t h (omega arith)) in omega arith

updated_steps : (op : Option BinaryOp) (at : ℕ) (m : Meaning) (b : ℕ) (d : Datum) (s : State) → IsBounded m b →
    steps_after (updated op at m d s) ≤ s.own.steps + b
updated_steps None at m b d s h =
    let e = then_steps m b s (write d) 0 h (λ v t. let w = write_steps d v t in omega arith) in omega arith
updated_steps (Some op) at m b d s h =
    let last = λ (a : Datum) (c : Datum) (v : State). and_then (binary op at a c v) (write d) in
    let each : (a c : Datum) (v : State) → steps_after (last a c v) ≤ v.own.steps + (0 + 0) =
    λ a c v. let e = bind_steps (binary op at a c v) (write d) v.own.steps 0 (binary_steps op at a c v)
    (λ x t. let w = write_steps d x t in omega arith) in omega arith in
    let mid = λ (a : Datum) (t : State). and_then (value m t) (last a) in
    let mids : (a : Datum) (t : State) → steps_after (mid a t) ≤ t.own.steps + (b + (0 + 0)) = λ a t. then_steps m b t (last a) (0 + 0) h (each a) in
    let e = bind_steps (read d s) mid s.own.steps (b + (0 + 0)) (read_steps d s) mids in omega arith

pub assignment_case : (u : Typed) (n : ℕ) (op : Option BinaryOp) (target right : Meaning) (a b : ℕ) (s : State) → IsBounded target a → IsBounded right b →
    steps_after (assignment u n op target right s) ≤ s.own.steps + (1 + a + b)
assignment_case u n op target right a b s h i =
    let e = gives_steps target a (tick s) (updated op (place_at u n) right) b h (λ d t. updated_steps op (place_at u n) right b d t i) in omega arith

stepped_steps : (op : BinaryOp) (at : ℕ) (d : Datum) (s : State) → steps_after (stepped op at d s) ≤ s.own.steps + 0
stepped_steps op at d s =
    let last = λ (a : Datum) (t : State). and_then (binary op at a one t) (write d) in
    let each : (a : Datum) (t : State) → steps_after (last a t) ≤ t.own.steps + 0 =
    λ a t. let e = bind_steps (binary op at a one t) (write d) t.own.steps 0 (binary_steps op at a one t)
    (λ x v. let w = write_steps d x v in omega arith) in omega arith in
    let e = bind_steps (read d s) last s.own.steps 0 (read_steps d s) each in omega arith

pub stepped_case : (op : BinaryOp) (at : ℕ) (target : Meaning) (a : ℕ) (s : State) → IsBounded target a →
    steps_after (and_then (target.gives (tick s)) (stepped op at)) ≤ s.own.steps + (1 + a)
stepped_case op at target a s h =
    let e = gives_steps target a (tick s) (stepped op at) 0 h (λ d t. stepped_steps op at d t) in omega arith

pub evaluate_case : (m : Meaning) (a : ℕ) (s : State) → IsBounded m a → steps_after (and_then (m.gives (tick s)) (λ d t. Next t)) ≤ s.own.steps + (1 + a)
evaluate_case m a s h = let e = gives_steps m a (tick s) (λ d t. Next t) 0 h (λ d t. omega arith) in omega arith

branch_steps : (part : Parts_mean) (k : Known) (n : Option ℕ) (s : State) → AreBounded part k → optional_steps k n ≤ 1000000 →
    steps_after (branch part n s) ≤ s.own.steps + optional_steps k n
branch_steps part k None s h small = omega arith
branch_steps part k (Some n) s h small = (h n small).does s

pub branched_case : (part : Parts_mean) (k : Known) (condition body : ℕ) (otherwise : Option ℕ) (s : State) → AreBounded part k →
    2 + steps_at k condition + max (steps_at k body) (optional_steps k otherwise) ≤ 1000000 →
    steps_after (branched part condition body otherwise s) ≤ s.own.steps + (2 + steps_at k condition + max (steps_at k body) (optional_steps k otherwise))
branched_case part k condition body otherwise s h small =
    let most = max (steps_at k body) (optional_steps k otherwise) in
    let each : (d : Datum) (t : State) → steps_after (taken part body otherwise d (tick t)) ≤ t.own.steps + (1 + most) =
    λ d t.
    let one = (h body (omega arith)).does (tick t) in
    let other = branch_steps part k otherwise (tick t) h (omega arith) in
    if_steps (is_true d) ((part body).does (tick t)) (branch part otherwise (tick t)) (t.own.steps + (1 + most)) (omega arith) (omega arith) in
    let e = then_steps (part condition) (steps_at k condition) (tick s) (λ d t. taken part body otherwise d (tick t)) (1 + most)
    (h condition (omega arith)) each in omega arith

pub returned_case : (part : Parts_mean) (k : Known) (v : Option ℕ) (s : State) → AreBounded part k → optional_steps k v ≤ 1000000 →
    steps_after (returned part v (tick s)) ≤ s.own.steps + (1 + optional_steps k v)
returned_case part k None s h small = omega arith
returned_case part k (Some v) s h small = let e = value_steps (part v) (steps_at k v) (tick s) (h v small) in omega arith

-- ---- calls

pub parameter_steps : (u : Typed) (p : ℕ) (d : Datum) (s : State) → steps_after (parameter u p d s) ≤ s.own.steps + 0
parameter_steps u p d s = let w = write_steps (declared u p (place_at u p) (declare p s.own)) d (on_own (declare p) s) in omega arith

pub given_steps : (u : Typed) (part : Parts_mean) (k : Known) (arguments params : List ℕ) (s : State) → AreBounded part k → total k arguments ≤ 1000000 →
    steps_after (given u part arguments params s) ≤ s.own.steps + (1 + total k arguments)
given_steps u part k [] ps s h small = omega arith
given_steps u part k (a ∷ more) [] s h small = omega arith
given_steps u part k (a ∷ more) (p ∷ ps) s h small =
    let rest = λ (d : Datum) (t : State). after (given u part more ps t) (parameter u p d) in
    let each : (d : Datum) (t : State) → steps_after (rest d t) ≤ t.own.steps + (1 + total k more + 0) =
    λ d t.
    let g = given_steps u part k more ps t h (omega arith) in
    let e = after_steps (given u part more ps t) (parameter u p d) (t.own.steps + (1 + total k more)) 0 g (parameter_steps u p d) in omega arith in
    let e = then_steps (part a) (steps_at k a) s rest (1 + total k more + 0) (h a (omega arith)) each in omega arith

pub called_case : (u : Typed) (part : Parts_mean) (k : Known) (arguments : List ℕ) (answer : Option IntType) (params : List ℕ) (body c : ℕ) (s : State) →
    AreBounded part k → IsBounded (part body) c → total k arguments ≤ 1000000 →
    steps_after (function_called u part arguments answer params body s) ≤ s.own.steps + (1 + total k arguments + c)
called_case u part k arguments answer params body c s h b small =
    let rest = λ (t : State). answer_as answer (end_of (kind_at u body)) (closing params ((part body).does t)) in
    let each : (t : State) → steps_after (rest t) ≤ t.own.steps + c =
    λ t.
    let d = b.does t in
    let e = answer_steps answer (end_of (kind_at u body)) (closing params ((part body).does t)) in
    let f = closing_steps params ((part body).does t) in omega arith in
    let e = after_steps (given u part arguments params s) rest (s.own.steps + (1 + total k arguments)) c
    (given_steps u part k arguments params s h small) each in omega arith

frame_row_steps : (row : FrameCall) (at : ℕ) (arguments : List Datum) (s : State) → steps_after (frame_row row at arguments s) ≤ s.own.steps
frame_row_steps calls.Length at arguments s = omega arith
frame_row_steps calls.Borrow at arguments s =
    let count = (converted_to meaning.unsigned_32 (word_of (argument_at arguments 0))).word in
    tested_steps (borrow_tests s.own (length s.frame) count) (with_loan s.own count) at s
    (λ own. Gives (data_of.Address (start_of_loan s.own)) (record s { own = own })) s.own.steps (omega arith) (omega arith)
frame_row_steps calls.Return at arguments s =
    tested_steps (return_tests s.own (pointer_of (argument_at arguments 0))) (without_loan s.own) at s
    (λ own. Gives data_of.Nothing (record s { own = own })) s.own.steps (omega arith) (omega arith)

frame_call_steps : (part : Parts_mean) (k : Known) (row : FrameCall) (at : ℕ) (before : List Datum) (arguments : List ℕ) (s : State) → AreBounded part k →
    total k arguments ≤ 1000000 → steps_after (frame_call part row at before arguments s) ≤ s.own.steps + (1 + total k arguments)
frame_call_steps part k row at before [] s h small = let e = frame_row_steps row at before (tick s) in omega arith
frame_call_steps part k row at before (a ∷ more) s h small =
    let e = then_steps (part a) (steps_at k a) s (λ d t. frame_call part row at (before ++ d ∷ []) more t) (1 + total k more) (h a (omega arith))
    (λ d t. frame_call_steps part k row at (before ++ d ∷ []) more t h (omega arith)) in omega arith

pub library_case : (part : Parts_mean) (k : Known) (row : Option FrameCall) (at : ℕ) (arguments : List ℕ) (s : State) → AreBounded part k →
    total k arguments ≤ 1000000 → steps_after (library_row part row at arguments s) ≤ s.own.steps + (1 + total k arguments)
library_case part k None at arguments s h small = omega arith
library_case part k (Some row) at arguments s h small =
    let e = frame_call_steps part k row at [] arguments s h small in
    if_steps (nat_le (length arguments) most_arguments) (frame_call part row at [] arguments s) (Gives data_of.Nothing s)
    (s.own.steps + (1 + total k arguments)) e (omega arith)

-- ---- loops

-- a counter isn't below its bound any more after at most so many turns
abbrev pub EndsWithin : (turns : ℕ) → (counter bound : Value) → (step : ℕ) → Type 0
EndsWithin zero counter bound step = is_below counter bound ≡ false
EndsWithin (suc left) counter bound step = (is_below counter bound ≡ false) ⊎ EndsWithin left (next_of counter step) bound step

turn_steps : (u : Typed) (n : ℕ) (m : Meaning) (c : Value) (k : ℕ) (s : State) → IsBounded m k → steps_after (turn u n m c s) ≤ s.own.steps + (1 + k)
turn_steps u n m c k s h =
    let w = write_steps (declared u n (place_at u n) (tick s).own) (data_of.Word c) (tick s) in
    let e = after_steps (counted u n c (tick s)) m.does (s.own.steps + 1) k (omega arith) h.does in omega arith

pub turns_zero : (u : Typed) (n : ℕ) (m : Meaning) (c b : Value) (step : ℕ) (s : State) → turns u 0 n m c b step s ≡ Next s
unfolding turns
turns_zero u n m c b step s = refl

pub turns_suc : (u : Typed) (left n : ℕ) (m : Meaning) (c b : Value) (step : ℕ) (s : State) →
    turns u (suc left) n m c b step s ≡ (if is_below c b then after (turn u n m c s) (turns u left n m (next_of c step) b step) else Next s)
unfolding turns
turns_suc u left n m c b step s = refl

if_is : {A : Type 0} (c : Bool) (x y z : A) → c ≡ false → y ≡ z → (if c then x else y) ≡ z
if_is true x y z e h = cc
if_is false x y z e h = h

pub stopped : (u : Typed) (left n : ℕ) (m : Meaning) (c b : Value) (step : ℕ) (s : State) → is_below c b ≡ false → turns u left n m c b step s ≡ Next s
stopped u zero n m c b step s e = turns_zero u n m c b step s
stopped u (suc left) n m c b step s e =
    turns_suc u left n m c b step s ∙ if_is (is_below c b) (after (turn u n m c s) (turns u left n m (next_of c step) b step)) (Next s) (Next s) e refl

pub turns_steps : (u : Typed) (left most n : ℕ) (m : Meaning) (c b : Value) (step k : ℕ) (s : State) → IsBounded m k → EndsWithin most c b step →
    steps_after (turns u left n m c b step s) ≤ s.own.steps + most * (1 + k)
turns_steps u zero most n m c b step k s h e = let z = ap steps_after (turns_zero u n m c b step s) in omega arith
turns_steps u (suc left) zero n m c b step k s h e = let z = ap steps_after (stopped u (suc left) n m c b step s e) in omega arith
turns_steps u (suc left) (suc most) n m c b step k s h (inl e) = let z = ap steps_after (stopped u (suc left) n m c b step s e) in omega arith
turns_steps u (suc left) (suc most) n m c b step k s h (inr e) =
    let more : (t : State) → steps_after (turns u left n m (next_of c step) b step t) ≤ t.own.steps + most * (1 + k) =
    λ t. turns_steps u left most n m (next_of c step) b step k t h e in
    let one = turn_steps u n m c k s h in
    let both = after_steps (turn u n m c s) (turns u left n m (next_of c step) b step) (s.own.steps + (1 + k)) (most * (1 + k)) one more in
    let both_two : steps_after (after (turn u n m c s) (turns u left n m (next_of c step) b step)) ≤ s.own.steps + (suc most) * (1 + k) = omega arith in
    let z = ap steps_after (turns_suc u left n m c b step s) in
    let f = if_steps (is_below c b) (after (turn u n m c s) (turns u left n m (next_of c step) b step)) (Next s) (s.own.steps + (suc most) * (1 + k))
    both_two (omega arith) in
    omega arith
