-- Each node gives words of their types, where its parts do.
use Rattle.std.proofs.Common.{◌≡◌, ℕ, zero, suc, Bool, true, false, if◌then◌else◌, nat_eq, nat_le, List, [], ◌∷◌, ◌++◌, length, Option, Some, None}
use Rattle.std.proofs.Common.{refl, sym, subst}
use Rattle.vg_core.specs.Units.{Typed}
use Rattle.vg_core.specs.Syntax.{listed}
use Rattle.vg_core.specs.declared.tree.BinaryOp.{BinaryOp}
use Rattle.vg_core.specs.declared.tree.BinaryOp.TheVariants as binaries
use Rattle.vg_core.specs.declared.tree.UnaryOp.{UnaryOp}
use Rattle.vg_core.specs.declared.tree.UnaryOp.TheVariants as unaries
use Rattle.vg_core.specs.declared.tree.IntType.{IntType}
use Rattle.vg_core.specs.declared.tree.Kind.{Kind}
use Rattle.vg_core.specs.declared.tree.Kind.TheVariants as nodes
use Rattle.vg_core.specs.declared.types.CType.{CType}
use Rattle.vg_core.specs.declared.unit.Referent.{Referent}
use Rattle.vg_core.specs.declared.unit.Referent.TheVariants as referents
use Rattle.vg_cint.specs.Types as integers
use Rattle.vg_cint.specs.declared.value.Value.{Value}
use Rattle.vg_cmemory.specs.State.{State, declare, start_of}
use Rattle.vg_cmemory.specs.FrameCalls.{call_in_row}
use Rattle.vg_cmemory.specs.declared.frame_calls.FrameCall.{FrameCall}
use Rattle.vg_cmean.specs.declared.datum.Datum.{Datum}
use Rattle.vg_cmean.specs.declared.datum.Datum.TheVariants as data_of
use Rattle.vg_cmean.specs.Outcomes.{Outcome, Next, Gives, and_then, after, on_own, tick, full}
use Rattle.vg_cmean.specs.Typings.{kind_at, place_at, type_at, constant_at, referent_at, element_size, is_pointer}
use Rattle.vg_cmean.specs.Values.{read, write, binary, unary, as_type, is_true, of_bool}
use Rattle.vg_cmean.specs.Places.{lvalue_at, declared, named, indexed, element, member, pointed_to, address}
use Rattle.vg_cmean.specs.Meaning as meaning
use Rattle.vg_cmean.specs.Meaning.{Meaning, Parts_mean, nothing, of_node, meaning_below, value, is_truth, both, either, operated, operation}
use Rattle.vg_cmean.specs.Meaning.{before_operand, chosen, choice, indexed_by, index_of, parameter, given, function_called, call_of, answer_as}
use Rattle.vg_cmean.specs.Meaning.{closing, end_of, frame_call, frame_row, library_row, most_arguments, call, expression, statement, declaration}
use Rattle.vg_cmean.specs.Meaning.{run_all, updated, assignment, one, stepped, branch, taken, branched, returned, counted, turn, turns, most_turns}
use Rattle.vg_cmean.specs.Meaning.{is_below, next_of, loop_of, first_of, constant, step_of}
use Rattle.vg_cmean.specs.Runs as runs
use Rattle.vg_cmean.specs.Runs.{run, run_at, run_of, process_of, sizes_in, start, unsigned}
use Rattle.vg_cmean.proofs.Below.{meaning_is}
use Rattle.vg_cwidths.specs.Widths.{HasBytes, IsWordIfInteger, Fits, NodesFit, RunsFit}
use Rattle.vg_cwidths.proofs.Octets.{declared_bytes, rest_bytes}
use Rattle.vg_cwidths.proofs.Operations.{bind_fits, after_fits, if_fits, tick_bytes, closing_fits, number_fits, as_type_fits, bool_fits, binary_fits}
use Rattle.vg_cwidths.proofs.Operations.{unary_fits, read_fits, write_fits, address_fits, indexed_fits, element_fits, answer_fits, frame_row_fits}

pub record MeansWords (m : Meaning) : Type 0 where
  pub gives : (s : State) → HasBytes s → Fits (m.gives s)
  pub does : (s : State) → HasBytes s → Fits (m.does s)

abbrev pub AllMeanWords : Parts_mean → Type 0
AllMeanWords part = (p : ℕ) → MeansWords (part p)

value_fits : (m : Meaning) (s : State) → MeansWords m → HasBytes s → Fits (value m s)
value_fits m s w h = bind_fits (m.gives s) read (w.gives s h) (λ d t v k. read_fits d t v k)

-- a value, and what goes on with it
then_fits : (m : Meaning) (s : State) (f : Datum → State → Outcome) → MeansWords m → HasBytes s →
    ((d : Datum) (t : State) → IsWordIfInteger d → HasBytes t → Fits (f d t)) → Fits (and_then (value m s) f)
then_fits m s f w h g = bind_fits (value m s) f (value_fits m s w h) g

-- what a declaration declares is no integer
declared_if : (u : Typed) (node at : ℕ) (s : State) (c : Bool) →
    IsWordIfInteger (if c then data_of.PointerVariable node at else data_of.Lvalue (lvalue_at (start_of s.own node) (type_at u node) at))
declared_if u node at s true = tt
declared_if u node at s false = tt

declared_word : (u : Typed) (node at : ℕ) (s : State) → IsWordIfInteger (declared u node at s.own)
declared_word u node at s = declared_if u node at s (is_pointer (type_at u node))

named_word : (u : Typed) (r : Option Referent) (at : ℕ) (s : State) → IsWordIfInteger (named u r at s.own)
named_word u None at s = tt
named_word u (Some (referents.Declared node)) at s = declared_word u node at s
named_word u (Some (referents.Library row)) at s = tt

-- ---- expressions

truth_fits : (d : Datum) (s : State) → IsWordIfInteger d → HasBytes s → Fits (is_truth d s)
truth_fits d s w h = (bool_fits (is_true d), h)

operated_fits : (op : BinaryOp) (at : ℕ) (m : Meaning) (a : Datum) (s : State) → MeansWords m → HasBytes s → Fits (operated op at m a s)
operated_fits binaries.AndThen at m a s w h =
    if_fits (is_true a) (and_then (value m (tick s)) is_truth) (Gives (of_bool false) (tick s))
    (then_fits m (tick s) is_truth w (tick_bytes s h) truth_fits) (bool_fits false, tick_bytes s h)
operated_fits binaries.OrElse at m a s w h =
    if_fits (is_true a) (Gives (of_bool true) (tick s)) (and_then (value m (tick s)) is_truth)
    (bool_fits true, tick_bytes s h) (then_fits m (tick s) is_truth w (tick_bytes s h) truth_fits)
operated_fits op at m a s w h = then_fits m s (binary op at a) w h (λ b t v k. binary_fits op at a b t k)

before_fits : (u : Typed) (op : UnaryOp) (n : ℕ) (m : Meaning) (s : State) → MeansWords m → HasBytes s → Fits (before_operand u op n m s)
before_fits u unaries.Load n m s w h = then_fits m s (λ d t. Gives (pointed_to (type_at u n) (place_at u n) d) t) w h (λ d t v k. (tt, k))
before_fits u unaries.Address n m s w h = bind_fits (m.gives s) (address u) (w.gives s h) (λ d t v k. address_fits u d t k)
before_fits u op n m s w h = then_fits m s (unary op (place_at u n)) w h (λ d t v k. unary_fits op (place_at u n) d t k)

chosen_fits : (type : CType) (one other : Meaning) (d : Datum) (s : State) → MeansWords one → MeansWords other → HasBytes s → Fits (chosen type one other d s)
chosen_fits type one other d s w v h =
    bind_fits (if is_true d then value one s else value other s) (λ e t. Gives (as_type type e) t)
    (if_fits (is_true d) (value one s) (value other s) (value_fits one s w h) (value_fits other s v h)) (λ e t x k. (as_type_fits type e, k))

indexed_by_fits : (u : Typed) (part : Parts_mean) (n array index : ℕ) (d : Datum) (s : State) → AllMeanWords part → IsWordIfInteger d → HasBytes s →
    Fits (indexed_by u part n array index d s)
indexed_by_fits u part n array index d s w v h =
    bind_fits (indexed d s) (λ a t. and_then (value (part index) t) (element (element_size u (type_at u array)) (type_at u n) (place_at u n)
    (place_at u index) a))
    (indexed_fits d s v h)
    (λ a t x k. then_fits (part index) t (element (element_size u (type_at u array)) (type_at u n) (place_at u n) (place_at u index) a) (w index) k
    (λ i y z l. element_fits (element_size u (type_at u array)) (type_at u n) (place_at u n) (place_at u index) a i y l))

-- ---- calls

parameter_fits : (u : Typed) (p : ℕ) (d : Datum) (s : State) → HasBytes s → Fits (parameter u p d s)
parameter_fits u p d s h = write_fits (declared u p (place_at u p) (declare p s.own)) d (on_own (declare p) s) (declared_bytes s p h)

given_fits : (u : Typed) (part : Parts_mean) (arguments params : List ℕ) (s : State) → AllMeanWords part → HasBytes s → Fits (given u part arguments params s)
given_fits u part [] ps s w h = tick_bytes s h
given_fits u part (a ∷ more) [] s w h = tick_bytes s h
given_fits u part (a ∷ more) (p ∷ ps) s w h =
    then_fits (part a) s (λ d t. after (given u part more ps t) (parameter u p d)) (w a) h
    (λ d t v k. after_fits (given u part more ps t) (parameter u p d) (given_fits u part more ps t w k) (λ x l. parameter_fits u p d x l))

called_fits : (u : Typed) (part : Parts_mean) (arguments : List ℕ) (answer : Option IntType) (params : List ℕ) (body : ℕ) (s : State)
    → AllMeanWords part → HasBytes s →
    Fits (function_called u part arguments answer params body s)
called_fits u part arguments answer params body s w h =
    after_fits (given u part arguments params s) (λ t. answer_as answer (end_of (kind_at u body)) (closing params ((part body).does t)))
    (given_fits u part arguments params s w h)
    (λ t k. answer_fits answer (end_of (kind_at u body)) (closing params ((part body).does t)) (closing_fits params ((part body).does t) ((w body).does t k)))

call_of_fits : (u : Typed) (part : Parts_mean) (arguments : List ℕ) (kind : Kind) (s : State) → AllMeanWords part → HasBytes s
    → Fits (call_of u part arguments kind s)
call_of_fits u part arguments (nodes.Function is_static is_inline answer name params body) s w h =
    called_fits u part arguments answer (listed u.tree.items params) body s w h
call_of_fits u part arguments kind s w h = (tt, h)

frame_call_fits : (part : Parts_mean) (row : FrameCall) (at : ℕ) (before : List Datum) (arguments : List ℕ) (s : State) → AllMeanWords part → HasBytes s →
    Fits (frame_call part row at before arguments s)
frame_call_fits part row at before [] s w h = frame_row_fits row at before (tick s) (tick_bytes s h)
frame_call_fits part row at before (a ∷ more) s w h =
    then_fits (part a) s (λ d t. frame_call part row at (before ++ d ∷ []) more t) (w a) h
    (λ d t v k. frame_call_fits part row at (before ++ d ∷ []) more t w k)

library_fits : (part : Parts_mean) (row : Option FrameCall) (at : ℕ) (arguments : List ℕ) (s : State) → AllMeanWords part → HasBytes s
    → Fits (library_row part row at arguments s)
library_fits part None at arguments s w h = (tt, h)
library_fits part (Some row) at arguments s w h =
    if_fits (nat_le (length arguments) most_arguments) (frame_call part row at [] arguments s) (Gives data_of.Nothing s)
    (frame_call_fits part row at [] arguments s w h) (tt, h)

call_fits : (u : Typed) (part : Parts_mean) (at : ℕ) (arguments : List ℕ) (r : Option Referent) (s : State) → AllMeanWords part → HasBytes s
    → Fits (call u part at arguments r s)
call_fits u part at arguments None s w h = (tt, h)
call_fits u part at arguments (Some (referents.Declared f)) s w h = call_of_fits u part arguments (kind_at u f) s w h
call_fits u part at arguments (Some (referents.Library row)) s w h = library_fits part (call_in_row row) at arguments s w h

expression_fits : (u : Typed) (part : Parts_mean) (n : ℕ) (kind : Kind) (s : State) → AllMeanWords part → HasBytes s → Fits (expression u part n kind s)
expression_fits u part n (nodes.Number word of) s w h = (number_fits (integers.integer_of of) word, h)
expression_fits u part n (nodes.Sizeof base) s w h = (number_fits (integers.without_sign 64) (constant_at u n), h)
expression_fits u part n (nodes.Variable name) s w h = (named_word u (referent_at u n) (place_at u n) s, h)
expression_fits u part n (nodes.Parens inner) s w h = (w inner).gives s h
expression_fits u part n (nodes.Unary op operand) s w h = before_fits u op n (part operand) s (w operand) h
expression_fits u part n (nodes.Binary op left right) s w h =
    then_fits (part left) s (operated op (place_at u n) (part right)) (w left) h (λ d t v k. operated_fits op (place_at u n) (part right) d t (w right) k)
expression_fits u part n (nodes.Choose condition one other) s w h =
    then_fits (part condition) s (λ d t. chosen (type_at u n) (part one) (part other) d (tick t)) (w condition) h
    (λ d t v k. chosen_fits (type_at u n) (part one) (part other) d (tick t) (w one) (w other) (tick_bytes t k))
expression_fits u part n (nodes.Cast base pointer operand) s w h =
    then_fits (part operand) s (λ d t. Gives (as_type (type_at u n) d) t) (w operand) h (λ d t v k. (as_type_fits (type_at u n) d, k))
expression_fits u part n (nodes.Index array index) s w h =
    bind_fits ((part array).gives s) (indexed_by u part n array index) ((w array).gives s h) (λ d t v k. indexed_by_fits u part n array index d t w v k)
expression_fits u part n (nodes.Member whole field) s w h =
    bind_fits ((part whole).gives s) (λ d t. Gives (member u n whole (place_at u n) d) t) ((w whole).gives s h) (λ d t v k. (tt, k))
expression_fits u part n (nodes.Arrow pointer field) s w h =
    then_fits (part pointer) s (λ d t. Gives (member u n pointer (place_at u n) d) t) (w pointer) h (λ d t v k. (tt, k))
expression_fits u part n (nodes.Call name arguments) s w h = call_fits u part (place_at u n) (listed u.tree.items arguments) (referent_at u n) s w h
expression_fits u part n kind s w h = (tt, h)

-- ---- statements

declaration_fits : (u : Typed) (part : Parts_mean) (n : ℕ) (v : Option ℕ) (s : State) → AllMeanWords part → HasBytes s → Fits (declaration u part n v s)
declaration_fits u part n None s w h = declared_bytes s n h
declaration_fits u part n (Some v) s w h =
    then_fits (part v) (on_own (declare n) s) (λ d t. write (declared u n (place_at u n) t.own) d t) (w v) (declared_bytes s n h)
    (λ d t x k. write_fits (declared u n (place_at u n) t.own) d t k)

run_all_fits : (part : Parts_mean) (ns : List ℕ) (s : State) → AllMeanWords part → HasBytes s → Fits (run_all part ns s)
run_all_fits part [] s w h = h
run_all_fits part (n ∷ ns) s w h = after_fits ((part n).does s) (run_all part ns) ((w n).does s h) (λ t k. run_all_fits part ns t w k)

updated_fits : (op : Option BinaryOp) (at : ℕ) (m : Meaning) (d : Datum) (s : State) → MeansWords m → IsWordIfInteger d → HasBytes s
    → Fits (updated op at m d s)
updated_fits None at m d s w v h = then_fits m s (write d) w h (λ e t x k. write_fits d e t k)
updated_fits (Some op) at m d s w v h =
    bind_fits (read d s) (λ a t. and_then (value m t) (λ b y. and_then (binary op at a b y) (write d))) (read_fits d s v h)
    (λ a t x k. then_fits m t (λ b y. and_then (binary op at a b y) (write d)) w k
    (λ b y z l. bind_fits (binary op at a b y) (write d) (binary_fits op at a b y l) (λ e o p q. write_fits d e o q)))

stepped_fits : (op : BinaryOp) (at : ℕ) (d : Datum) (s : State) → IsWordIfInteger d → HasBytes s → Fits (stepped op at d s)
stepped_fits op at d s v h =
    bind_fits (read d s) (λ a t. and_then (binary op at a one t) (write d)) (read_fits d s v h)
    (λ a t x k. bind_fits (binary op at a one t) (write d) (binary_fits op at a one t k) (λ e o p q. write_fits d e o q))

branch_fits : (part : Parts_mean) (n : Option ℕ) (s : State) → AllMeanWords part → HasBytes s → Fits (branch part n s)
branch_fits part None s w h = h
branch_fits part (Some n) s w h = (w n).does s h

branched_fits : (part : Parts_mean) (condition body : ℕ) (otherwise : Option ℕ) (s : State) → AllMeanWords part → HasBytes s
    → Fits (branched part condition body otherwise s)
branched_fits part condition body otherwise s w h =
    then_fits (part condition) (tick s) (λ d t. taken part body otherwise d (tick t)) (w condition) (tick_bytes s h)
    (λ d t v k. if_fits (is_true d) ((part body).does (tick t)) (branch part otherwise (tick t)) ((w body).does (tick t) (tick_bytes t k))
    (branch_fits part otherwise (tick t) w (tick_bytes t k)))

returned_fits : (part : Parts_mean) (v : Option ℕ) (s : State) → AllMeanWords part → HasBytes s → Fits (returned part v s)
returned_fits part None s w h = (tt, h)
returned_fits part (Some v) s w h = value_fits (part v) s (w v) h

turn_fits : (u : Typed) (n : ℕ) (m : Meaning) (c : Value) (s : State) → MeansWords m → HasBytes s → Fits (turn u n m c s)
turn_fits u n m c s w h =
    after_fits (counted u n c (tick s)) m.does (write_fits (declared u n (place_at u n) (tick s).own) (data_of.Word c) (tick s) (tick_bytes s h))
    (λ t k. w.does t k)

turns_zero : (u : Typed) (n : ℕ) (m : Meaning) (c b : Value) (step : ℕ) (s : State) → turns u 0 n m c b step s ≡ Next s
unfolding turns
turns_zero u n m c b step s = refl

turns_suc : (u : Typed) (left n : ℕ) (m : Meaning) (c b : Value) (step : ℕ) (s : State) →
    turns u (suc left) n m c b step s ≡ (if is_below c b then after (turn u n m c s) (turns u left n m (next_of c step) b step) else Next s)
unfolding turns
turns_suc u left n m c b step s = refl

turns_fits : (u : Typed) (left n : ℕ) (m : Meaning) (c b : Value) (step : ℕ) (s : State) → MeansWords m → HasBytes s → Fits (turns u left n m c b step s)
turns_fits u zero n m c b step s w h = subst Fits (sym (turns_zero u n m c b step s)) h
turns_fits u (suc left) n m c b step s w h =
    subst Fits (sym (turns_suc u left n m c b step s))
    (if_fits (is_below c b) (after (turn u n m c s) (turns u left n m (next_of c step) b step)) (Next s)
    (after_fits (turn u n m c s) (turns u left n m (next_of c step) b step) (turn_fits u n m c s w h)
    (λ t k. turns_fits u left n m (next_of c step) b step t w k)) h)

statement_fits : (u : Typed) (part : Parts_mean) (n : ℕ) (kind : Kind) (s : State) → AllMeanWords part → HasBytes s → Fits (statement u part n kind s)
statement_fits u part n (nodes.Block statements end) s w h =
    closing_fits (listed u.tree.items statements) (run_all part (listed u.tree.items statements) s) (run_all_fits part (listed u.tree.items statements) s w h)
statement_fits u part n (nodes.Declare base pointer name count v) s w h = declaration_fits u part n v s w h
statement_fits u part n nodes.Empty s w h = tick_bytes s h
statement_fits u part n (nodes.Evaluate v) s w h = bind_fits ((part v).gives (tick s)) (λ d t. Next t) ((w v).gives (tick s) (tick_bytes s h)) (λ d t x k. k)
statement_fits u part n (nodes.Assign op target v) s w h =
    bind_fits ((part target).gives (tick s)) (updated op (place_at u n) (part v)) ((w target).gives (tick s) (tick_bytes s h))
    (λ d t x k. updated_fits op (place_at u n) (part v) d t (w v) x k)
statement_fits u part n (nodes.Increment target) s w h =
    bind_fits ((part target).gives (tick s)) (stepped binaries.Add (place_at u n)) ((w target).gives (tick s) (tick_bytes s h))
    (λ d t x k. stepped_fits binaries.Add (place_at u n) d t x k)
statement_fits u part n (nodes.Decrement target) s w h =
    bind_fits ((part target).gives (tick s)) (stepped binaries.Subtract (place_at u n)) ((w target).gives (tick s) (tick_bytes s h))
    (λ d t x k. stepped_fits binaries.Subtract (place_at u n) d t x k)
statement_fits u part n (nodes.If condition body otherwise) s w h = branched_fits part condition body otherwise s w h
statement_fits u part n (nodes.For of counter start tested bound stepped_name step body) s w h =
    closing_fits (n ∷ []) (loop_of u part n of start bound step body (tick s))
    (turns_fits u most_turns n (part body) (first_of u of start) (constant u bound) (step_of u step) (on_own (declare n) (tick s)) (w body)
    (declared_bytes (tick s) n (tick_bytes s h)))
statement_fits u part n (nodes.Return v) s w h = returned_fits part v (tick s) w (tick_bytes s h)
statement_fits u part n kind s w h = h

-- ---- all nodes, and a run

node_means : (u : Typed) (part : Parts_mean) (n : ℕ) → AllMeanWords part → MeansWords (of_node u part n)
node_means u part n w = record { gives = λ s h. expression_fits u part n (kind_at u n) s w h; does = λ s h. statement_fits u part n (kind_at u n) s w h }

nothing_means : MeansWords nothing
nothing_means = record { gives = λ s h. (tt, h); does = λ s h. h }

if_means : (c : Bool) (m other : Meaning) → MeansWords m → MeansWords other → MeansWords (if c then m else other)
if_means true m other h g = h
if_means false m other h g = g

below_zero : (u : Typed) (n : ℕ) → meaning_below u 0 n ≡ nothing
unfolding meaning_below
below_zero u n = refl

below_suc : (u : Typed) (k n : ℕ) → meaning_below u (suc k) n ≡ (if nat_eq n k then of_node u (meaning_below u k) k else meaning_below u k n)
unfolding meaning_below
below_suc u k n = refl

below_means : (u : Typed) (m : ℕ) → AllMeanWords (meaning_below u m)
below_means u zero n = subst MeansWords (sym (below_zero u n)) nothing_means
below_means u (suc k) n =
    subst MeansWords (sym (below_suc u k n))
    (if_means (nat_eq n k) (of_node u (meaning_below u k) k) (meaning_below u k n) (node_means u (meaning_below u k) k (below_means u k)) (below_means u k n))

whole_means : (u : Typed) (n : ℕ) → MeansWords (meaning.meaning u n)
whole_means u n = subst MeansWords (sym (meaning_is u n)) (node_means u (meaning_below u n) n (below_means u n))

pub nodes_fit : NodesFit
nodes_fit u n = let w = whole_means u n in record { gives = w.gives; does = w.does }

arguments_fits : (u : Typed) (ps : List ℕ) (port now : ℕ) (s : State) → HasBytes s → Fits (runs.arguments u ps port now s)
arguments_fits u [] port now s h = h
arguments_fits u (p ∷ []) port now s h = h
arguments_fits u (p ∷ t ∷ []) port now s h =
    after_fits (parameter u p (unsigned 16 port) s) (parameter u t (unsigned 64 now)) (parameter_fits u p (unsigned 16 port) s h)
    (λ x k. parameter_fits u t (unsigned 64 now) x k)
arguments_fits u (p ∷ t ∷ q ∷ ps) port now s h = h

run_of_fits : (u : Typed) (kind : Kind) (port now : ℕ) (s : State) → HasBytes s → Fits (run_of u kind port now s)
run_of_fits u (nodes.Function is_static is_inline answer name params body) port now s h =
    after_fits (runs.arguments u (listed u.tree.items params) port now s)
    (λ t. answer_as answer (end_of (kind_at u body)) (closing (listed u.tree.items params) ((meaning.meaning u body).does t)))
    (arguments_fits u (listed u.tree.items params) port now s h)
    (λ t k. answer_fits answer (end_of (kind_at u body)) (closing (listed u.tree.items params) ((meaning.meaning u body).does t))
    (closing_fits (listed u.tree.items params) ((meaning.meaning u body).does t) ((whole_means u body).does t k)))
run_of_fits u _ port now s h = h

run_at_fits : (u : Typed) (f : Option ℕ) (port now : ℕ) (s : State) → HasBytes s → Fits (run_at u f port now s)
run_at_fits u None port now s h = h
run_at_fits u (Some f) port now s h = run_of_fits u (kind_at u f) port now s h

pub runs_fit : RunsFit
runs_fit u port now frame h = run_at_fits u (process_of u) port now (full (start u) frame) (record { objects = rest_bytes (sizes_in u); frame = h })
