-- The meaning of each node of a typed C text: what it gives as an expression (C11 6.5), and what it does as a statement (6.8), by what its parts mean.
-- Operands are evaluated left first, arguments too, and `&&`, `||` and `?:` evaluate only what they need.
use Rattle.std.specs.Prelude.{ℕ, zero, suc, ◌+◌, ◌-◌, ◌%◌, ◌^◌, nat_eq, nat_le, Bool, true, false, List, [], ◌∷◌, ◌++◌, length, slice_get, Option}
use Rattle.std.specs.Prelude.{Some, None, Result, Ok, Err, if◌then◌else◌}
use Rattle.vg_core.specs.Syntax.{listed}
use Rattle.vg_core.specs.Units.{Typed}
use Rattle.vg_core.specs.declared.reason.Reason.{Reason}
use Rattle.vg_core.specs.declared.reason.Reason.TheVariants as reasons
use Rattle.vg_core.specs.declared.tree.BinaryOp.{BinaryOp}
use Rattle.vg_core.specs.declared.tree.BinaryOp.TheVariants as binaries
use Rattle.vg_core.specs.declared.tree.UnaryOp.{UnaryOp}
use Rattle.vg_core.specs.declared.tree.UnaryOp.TheVariants as unaries
use Rattle.vg_core.specs.declared.tree.IntType.{IntType}
use Rattle.vg_core.specs.declared.tree.Kind.{Kind}
use Rattle.vg_core.specs.declared.tree.Kind.TheVariants as nodes
use Rattle.vg_core.specs.declared.types.Integer.{Integer}
use Rattle.vg_core.specs.declared.types.CType.{CType}
use Rattle.vg_core.specs.declared.unit.Referent.{Referent}
use Rattle.vg_core.specs.declared.unit.Referent.TheVariants as referents
use Rattle.vg_cint.specs.Types as integers
use Rattle.vg_cint.specs.Values.{truth}
use Rattle.vg_cint.specs.Expressions.{binary_of}
use Rattle.vg_cint.specs.declared.value.Value.{Value}
use Rattle.vg_cmemory.specs.State.{Own, State, declare, end_life}
use Rattle.vg_cmemory.specs.Loans.{borrow, give_back, start_of_loan}
use Rattle.vg_cmemory.specs.FrameCalls.{call_in_row}
use Rattle.vg_cmemory.specs.declared.frame_calls.FrameCall.{FrameCall}
use Rattle.vg_cmemory.specs.declared.frame_calls.FrameCall.TheVariants as calls
use Rattle.vg_cmean.specs.declared.datum.Datum.{Datum}
use Rattle.vg_cmean.specs.declared.datum.Datum.TheVariants as data_of
use Rattle.vg_cmean.specs.Outcomes.{Outcome, Next, Gives, Wrong, Untold, and_then, after, or_wrong, on_own, tick}
use Rattle.vg_cmean.specs.Typings.{kind_at, place_at, type_at, constant_at, referent_at, element_size}
use Rattle.vg_cmean.specs.Values.{word_of, pointer_of, integer_of, converted_to, as_type, is_true, of_bool, read, write, binary, unary, number}
use Rattle.vg_cmean.specs.Places.{named, declared, indexed, element, member, pointed_to, address}

-- what a node means: as an expression it gives something, as a statement it does something
pub record Meaning : Type 0 where
  pub gives : State → Outcome
  pub does : State → Outcome

-- of a node that isn't there
abbrev pub nothing : Meaning
nothing = record { gives = λ s. Gives data_of.Nothing s; does = λ s. Next s }

-- what the nodes mean, by their numbers
abbrev pub Parts_mean : Type 0
Parts_mean = ℕ → Meaning

-- the value of a part: an lvalue is read (6.3.2.1)
abbrev pub value : Meaning → State → Outcome
value part s = and_then (part.gives s) read

-- ---- expressions

abbrev pub is_truth : Datum → State → Outcome
is_truth d s = Gives (of_bool (is_true d)) s

-- `&&` (6.5.13) and `||` (6.5.14): the right side only where the left one doesn't decide. The left side is a tested condition
abbrev pub both : Meaning → Datum → State → Outcome
both right d s = if is_true d then and_then (value right s) is_truth else Gives (of_bool false) s

abbrev pub either : Meaning → Datum → State → Outcome
either right d s = if is_true d then Gives (of_bool true) s else and_then (value right s) is_truth

-- an operator, where its left operand has this value
abbrev pub operated : BinaryOp → (at : ℕ) → (right : Meaning) → Datum → State → Outcome
operated binaries.AndThen at right a s = both right a (tick s)
operated binaries.OrElse at right a s = either right a (tick s)
operated op at right a s = and_then (value right s) (binary op at a)

abbrev pub operation : BinaryOp → (at : ℕ) → (left right : Meaning) → State → Outcome
operation op at left right s = and_then (value left s) (operated op at right)

abbrev pub before_operand : Typed → UnaryOp → ℕ → Meaning → State → Outcome
before_operand u unaries.Load n operand s = and_then (value operand s) (λ d t. Gives (pointed_to (type_at u n) (place_at u n) d) t)
before_operand u unaries.Address n operand s = and_then (operand.gives s) (address u)
before_operand u op n operand s = and_then (value operand s) (unary op (place_at u n))

-- `?:` (6.5.15): the operand that is chosen, in the common type of both
abbrev pub chosen : CType → (one other : Meaning) → Datum → State → Outcome
chosen type one other d s = and_then (if is_true d then value one s else value other s) (λ e t. Gives (as_type type e) t)

abbrev pub choice : Typed → ℕ → (condition one other : Meaning) → State → Outcome
choice u n condition one other s = and_then (value condition s) (λ d t. chosen (type_at u n) one other d (tick t))

-- `array[index]` (6.5.2.1): the array or pointer first
abbrev pub indexed_by : Typed → Parts_mean → (n array index : ℕ) → Datum → State → Outcome
indexed_by u part n array index d s =
    and_then (indexed d s) (λ a t. and_then (value (part index) t)
    (element (element_size u (type_at u array)) (type_at u n) (place_at u n) (place_at u index) a))

abbrev pub index_of : Typed → Parts_mean → (n array index : ℕ) → State → Outcome
index_of u part n array index s = and_then ((part array).gives s) (indexed_by u part n array index)

-- ---- calls (6.5.2.2): all arguments are evaluated, left first, and each parameter is a new variable with its argument

abbrev pub parameter : Typed → ℕ → Datum → State → Outcome
parameter u p d s = write (declared u p (place_at u p) (declare p s.own)) d (on_own (declare p) s)

-- all arguments, the first one first; then the call itself, which is a step; then the parameters, whose order nothing can tell
abbrev pub given : Typed → Parts_mean → (arguments parameters : List ℕ) → State → Outcome
given u part [] ps s = Next (tick s)
given u part (argument ∷ arguments) [] s = Next (tick s)
given u part (argument ∷ arguments) (p ∷ ps) s = and_then (value (part argument) s) (λ d t. after (given u part arguments ps t) (parameter u p d))

-- declarations that a block or call leaves behind live no longer
abbrev pub ended : List ℕ → Own → Own
ended [] own = own
ended (n ∷ ns) own = ended ns (end_life n own)

abbrev pub closing : List ℕ → Outcome → Outcome
closing ns (Next s) = Next (on_own (ended ns) s)
closing ns (Gives d s) = Gives d (on_own (ended ns) s)
closing ns (Wrong at reason s) = Wrong at reason s
closing ns (Untold s) = Untold s

abbrev pub end_of : Kind → ℕ
end_of (nodes.Block statements end) = end
end_of _ = 0

-- what a function answers, of what its body came to. One that isn't `void` may not come to its last brace
abbrev pub answer_as : Option IntType → (end : ℕ) → Outcome → Outcome
answer_as None end o = and_then o (λ d s. Gives data_of.Nothing s)
answer_as (Some type) end (Next s) = Wrong end reasons.Unset s
answer_as (Some type) end (Gives d s) = Gives (data_of.Word (converted_to (integers.integer_of type) (word_of d))) s
answer_as (Some type) end (Wrong at reason s) = Wrong at reason s
answer_as (Some type) end (Untold s) = Untold s

abbrev pub function_called : Typed → Parts_mean → (arguments : List ℕ) → Option IntType → (params : List ℕ) → (body : ℕ) → State → Outcome
function_called u part arguments answer params body s =
    after (given u part arguments params s) (λ t. answer_as answer (end_of (kind_at u body)) (closing params ((part body).does t)))

abbrev pub call_of : Typed → Parts_mean → (arguments : List ℕ) → Kind → State → Outcome
call_of u part arguments (nodes.Function is_static is_inline answer name params body) s =
    function_called u part arguments answer (listed u.tree.items params) body s
call_of u part arguments kind s = Gives data_of.Nothing s

-- ---- the library's calls for the frame

abbrev pub unsigned_32 : Integer
unsigned_32 = integers.without_sign 32

abbrev pub packet_length : State → Outcome
packet_length s = Gives (data_of.Word (number unsigned_32 (length s.frame))) s

abbrev pub packet_borrow : (at : ℕ) → Datum → State → Outcome
packet_borrow at d s =
    or_wrong (borrow s.own (length s.frame) (converted_to unsigned_32 (word_of d)).word) at s
    (λ own. Gives (data_of.Address (start_of_loan s.own)) (record s { own = own }))

abbrev pub packet_return : (at : ℕ) → Datum → State → Outcome
packet_return at d s = or_wrong (give_back s.own (pointer_of d)) at s (λ own. Gives data_of.Nothing (record s { own = own }))

-- an argument of a call. Typing has made sure of their number
abbrev pub or_nothing : Option Datum → Datum
or_nothing None = data_of.Nothing
or_nothing (Some d) = d

abbrev pub argument_at : List Datum → ℕ → Datum
argument_at arguments k = or_nothing (slice_get arguments k)

-- a row of the library, by its arguments
abbrev pub frame_row : FrameCall → (at : ℕ) → (arguments : List Datum) → State → Outcome
frame_row calls.Length at arguments s = packet_length s
frame_row calls.Borrow at arguments s = packet_borrow at (argument_at arguments 0) s
frame_row calls.Return at arguments s = packet_return at (argument_at arguments 0) s

-- all arguments are evaluated, left first, each behind those before it; then the call itself, which is a step; then its row
abbrev pub frame_call : Parts_mean → FrameCall → (at : ℕ) → (before : List Datum) → (arguments : List ℕ) → State → Outcome
frame_call part row at before [] s = frame_row row at before (tick s)
frame_call part row at before (argument ∷ arguments) s =
    and_then (value (part argument) s) (λ d t. frame_call part row at (before ++ d ∷ []) arguments t)

-- no row takes more
abbrev pub most_arguments : ℕ
most_arguments = 4

abbrev pub library_row : Parts_mean → Option FrameCall → (at : ℕ) → (arguments : List ℕ) → State → Outcome
library_row part None at arguments s = Gives data_of.Nothing s
library_row part (Some row) at arguments s =
    if nat_le (length arguments) most_arguments then frame_call part row at [] arguments s else Gives data_of.Nothing s

-- by the number of its row. Those that aren't for the frame need objects of the library, which no text without externs has
abbrev pub library : Parts_mean → (row at : ℕ) → (arguments : List ℕ) → State → Outcome
library part row at arguments s = library_row part (call_in_row row) at arguments s

abbrev pub call : Typed → Parts_mean → (at : ℕ) → (arguments : List ℕ) → Option Referent → State → Outcome
call u part at arguments None s = Gives data_of.Nothing s
call u part at arguments (Some (referents.Declared f)) s = call_of u part arguments (kind_at u f) s
call u part at arguments (Some (referents.Library row)) s = library part row at arguments s

-- ---- what a node gives as an expression

abbrev pub expression : Typed → Parts_mean → ℕ → Kind → State → Outcome
expression u part n (nodes.Number word of) s = Gives (data_of.Word (number (integers.integer_of of) word)) s
expression u part n (nodes.Sizeof base) s = Gives (data_of.Word (number (integers.without_sign 64) (constant_at u n))) s
expression u part n (nodes.Variable name) s = Gives (named u (referent_at u n) (place_at u n) s.own) s
expression u part n (nodes.Parens inner) s = (part inner).gives s
expression u part n (nodes.Unary op operand) s = before_operand u op n (part operand) s
expression u part n (nodes.Binary op left right) s = operation op (place_at u n) (part left) (part right) s
expression u part n (nodes.Choose condition one other) s = choice u n (part condition) (part one) (part other) s
expression u part n (nodes.Cast base pointer operand) s = and_then (value (part operand) s) (λ d t. Gives (as_type (type_at u n) d) t)
expression u part n (nodes.Index array index) s = index_of u part n array index s
expression u part n (nodes.Member whole field) s = and_then ((part whole).gives s) (λ d t. Gives (member u n whole (place_at u n) d) t)
expression u part n (nodes.Arrow pointer field) s = and_then (value (part pointer) s) (λ d t. Gives (member u n pointer (place_at u n) d) t)
expression u part n (nodes.Call name arguments) s = call u part (place_at u n) (listed u.tree.items arguments) (referent_at u n) s
expression u part n kind s = Gives data_of.Nothing s

-- ---- statements

abbrev pub declaration : Typed → Parts_mean → ℕ → Option ℕ → State → Outcome
declaration u part n None s = Next (on_own (declare n) s)
declaration u part n (Some v) s =
    and_then (value (part v) (on_own (declare n) s)) (λ d t. write (declared u n (place_at u n) t.own) d t)

abbrev pub run_all : Parts_mean → List ℕ → State → Outcome
run_all part [] s = Next s
run_all part (n ∷ ns) s = after ((part n).does s) (run_all part ns)

-- `l op= r` reads l, then r, and writes the result of the operation to l, whose place is evaluated once (6.5.16.2)
abbrev pub updated : Option BinaryOp → (at : ℕ) → Meaning → Datum → State → Outcome
updated None at right d s = and_then (value right s) (write d)
updated (Some op) at right d s = and_then (read d s) (λ a t. and_then (value right t) (λ b v. and_then (binary op at a b v) (write d)))

abbrev pub assignment : Typed → ℕ → Option BinaryOp → (target right : Meaning) → State → Outcome
assignment u n op target right s = and_then (target.gives (tick s)) (updated op (place_at u n) right)

abbrev pub one : Datum
one = data_of.Word (record { of = integers.int; word = 1 })

abbrev pub stepped : BinaryOp → (at : ℕ) → Datum → State → Outcome
stepped op at d s = and_then (read d s) (λ a t. and_then (binary op at a one t) (write d))

abbrev pub branch : Parts_mean → Option ℕ → State → Outcome
branch part None s = Next s
branch part (Some n) s = (part n).does s

abbrev pub taken : Parts_mean → (then_part : ℕ) → Option ℕ → Datum → State → Outcome
taken part body otherwise d s = if is_true d then (part body).does s else branch part otherwise s

abbrev pub branched : Parts_mean → (condition body : ℕ) → Option ℕ → State → Outcome
branched part condition body otherwise s = and_then (value (part condition) (tick s)) (λ d t. taken part body otherwise d (tick t))

abbrev pub returned : Parts_mean → Option ℕ → State → Outcome
returned part None s = Gives data_of.Nothing s
returned part (Some v) s = value (part v) s

-- ---- loops (6.8.5.3). The counter is stepped by the loop alone

abbrev pub is_ok_true : Result Value Reason → Bool
is_ok_true (Ok v) = truth v.of v.word
is_ok_true (Err reason) = false

abbrev pub is_below : Value → Value → Bool
is_below counter bound = is_ok_true (binary_of binaries.Less counter bound)

abbrev pub next_of : Value → (step : ℕ) → Value
next_of counter step = number counter.of ((counter.word + step) % 2 ^ 64)

abbrev pub counted : Typed → ℕ → Value → State → Outcome
counted u n counter s = write (declared u n (place_at u n) s.own) (data_of.Word counter) s

-- a turn is a step; the counter has its value, and the body runs
abbrev pub turn : Typed → ℕ → Meaning → Value → State → Outcome
turn u n body counter s = after (counted u n counter (tick s)) body.does

-- so many turns are left
unfoldable pub turns : Typed → (left : ℕ) → (n : ℕ) → Meaning → (counter bound : Value) → (step : ℕ) → State → Outcome
turns u zero n body counter bound step s = Next s
turns u (suc left) n body counter bound step s =
    if is_below counter bound then after (turn u n body counter s) (turns u left n body (next_of counter step) bound step) else Next s

abbrev pub constant : Typed → ℕ → Value
constant u n = number (integer_of (type_at u n)) (constant_at u n)

abbrev pub step_of : Typed → Option ℕ → ℕ
step_of u None = 1
step_of u (Some step) = constant_at u step

-- the start is converted to the counter's type
abbrev pub first_of : Typed → IntType → (start : ℕ) → Value
first_of u type start = converted_to (integers.integer_of type) (constant u start)

-- a counter that comes to its bound does so in fewer turns than a word of 64 bits counts. One that never does, which typing lets no loop have, ends so
abbrev pub most_turns : ℕ
most_turns = 2 ^ 64 - 1

abbrev pub loop_of : Typed → Parts_mean → ℕ → IntType → (start bound : ℕ) → Option ℕ → ℕ → State → Outcome
loop_of u part n type start bound step body s =
    turns u most_turns n (part body) (first_of u type start) (constant u bound) (step_of u step) (on_own (declare n) s)

-- ---- what a node does as a statement. Each but a block and a declaration is a step, and so is each tested condition. A call as a statement goes on
-- behind the call, whatever it gave

abbrev pub statement : Typed → Parts_mean → ℕ → Kind → State → Outcome
statement u part n (nodes.Block statements end) s = closing (listed u.tree.items statements) (run_all part (listed u.tree.items statements) s)
statement u part n (nodes.Declare base pointer name count v) s = declaration u part n v s
statement u part n nodes.Empty s = Next (tick s)
statement u part n (nodes.Evaluate v) s = and_then ((part v).gives (tick s)) (λ d t. Next t)
statement u part n (nodes.Assign op target v) s = assignment u n op (part target) (part v) s
statement u part n (nodes.Increment target) s = and_then ((part target).gives (tick s)) (stepped binaries.Add (place_at u n))
statement u part n (nodes.Decrement target) s = and_then ((part target).gives (tick s)) (stepped binaries.Subtract (place_at u n))
statement u part n (nodes.If condition body otherwise) s = branched part condition body otherwise s
statement u part n (nodes.For type counter start tested bound stepped step body) s =
    closing (n ∷ []) (loop_of u part n type start bound step body (tick s))
statement u part n (nodes.Return v) s = returned part v (tick s)
statement u part n kind s = Next s

-- ---- the whole: a node's parts stand before it

abbrev pub of_node : Typed → Parts_mean → ℕ → Meaning
of_node u part n = record { gives = expression u part n (kind_at u n); does = statement u part n (kind_at u n) }

-- the nodes below a number; any other means nothing
unfoldable pub meaning_below : Typed → ℕ → Parts_mean
meaning_below u zero n = nothing
meaning_below u (suc k) n = if nat_eq n k then of_node u (meaning_below u k) k else meaning_below u k n

unfoldable pub meaning : Typed → ℕ → Meaning
meaning u n = of_node u (meaning_below u n) n
