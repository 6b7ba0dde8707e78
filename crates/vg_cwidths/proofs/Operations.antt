-- What each operation gives is a word of its type, and leaves bytes.
use Rattle.std.proofs.Common.{◌≡◌, ℕ, ◌<◌, ◌^◌, Bool, true, false, if◌then◌else◌, List, [], ◌∷◌, length, Option, Some, None, Result, Ok, Err, refl, arith}
use Rattle.vg_core.specs.Units.{Typed}
use Rattle.vg_core.specs.Layouts.{layout}
use Rattle.vg_core.specs.declared.reason.Reason.{Reason}
use Rattle.vg_core.specs.declared.tree.BinaryOp.{BinaryOp}
use Rattle.vg_core.specs.declared.tree.UnaryOp.{UnaryOp}
use Rattle.vg_core.specs.declared.tree.IntType.{IntType}
use Rattle.vg_core.specs.declared.types.Integer.{Integer}
use Rattle.vg_core.specs.declared.types.CType.{CType}
use Rattle.vg_core.specs.declared.types.CType.TheVariants as types
use Rattle.vg_cint.specs.Tests.{Test, unless, tested, first_against}
use Rattle.vg_cint.specs.Types.{int, width, promoted, left_type, right_type, type_of_binary, type_of_unary}
use Rattle.vg_cint.specs.Values.{converted, reading}
use Rattle.vg_cint.specs.Expressions.{typed, of_words, of_word, word_at}
use Rattle.vg_cint.specs.declared.value.Value.{Value}
use Rattle.vg_cint.proofs.Laws.{word_of_below}
use Rattle.vg_cint.proofs.Proper.{binary_below, unary_below}
use Rattle.vg_cmemory.specs.declared.frame_calls.FrameCall.{FrameCall}
use Rattle.vg_cmemory.specs.declared.frame_calls.FrameCall.TheVariants as calls
use Rattle.vg_cmemory.specs.declared.object.Pointer.{Pointer}
use Rattle.vg_cmemory.specs.State.{State, end_life, points_of, slot}
use Rattle.vg_cmemory.specs.Access.{content, bytes_of, part, word_of, read_tests, write_tests, written, bytes_of_word}
use Rattle.vg_cmemory.specs.Loans.{borrow_tests, return_tests, with_loan, without_loan, start_of_loan}
use Rattle.vg_cmean.specs.declared.datum.Datum.{Datum}
use Rattle.vg_cmean.specs.declared.datum.Datum.TheVariants as data_of
use Rattle.vg_cmean.specs.declared.datum.Lvalue.{Lvalue}
use Rattle.vg_cmean.specs.Outcomes.{Outcome, Next, Gives, Wrong, Untold, and_then, after, or_wrong, on_own, tick}
use Rattle.vg_cmean.specs.Typings.{is_array}
use Rattle.vg_cmean.specs.Values as values
use Rattle.vg_cmean.specs.Values.{read, read_lvalue, read_pointer, write, integer_of, pointer_of, binary, unary, of_result, of_bool, as_type}
use Rattle.vg_cmean.specs.Values.{converted_to, number, size_of, align_of}
use Rattle.vg_cmean.specs.Places.{indexed, element, element_at, element_of, index_tests, start_under, address, address_tests}
use Rattle.vg_cmean.specs.Meaning.{ended, closing, answer_as, frame_row, argument_at, unsigned_32}
use Rattle.vg_cwidths.specs.Widths.{HasBytes, IsWord, IsWordIfInteger, Fits}
use Rattle.vg_cwidths.proofs.Octets.{read_below, written_bytes, ended_bytes, held_bytes}

-- ---- one thing after the other

pub bind_fits : (o : Outcome) (f : Datum → State → Outcome) → Fits o → ((d : Datum) (s : State) → IsWordIfInteger d → HasBytes s → Fits (f d s))
    → Fits (and_then o f)
bind_fits (Next s) f h g = g data_of.Nothing s tt h
bind_fits (Gives d s) f h g = g d s h.0 h.1
bind_fits (Wrong at reason s) f h g = h
bind_fits (Untold s) f h g = h

pub after_fits : (o : Outcome) (f : State → Outcome) → Fits o → ((s : State) → HasBytes s → Fits (f s)) → Fits (after o f)
after_fits (Next s) f h g = g s h
after_fits (Gives d s) f h g = h
after_fits (Wrong at reason s) f h g = h
after_fits (Untold s) f h g = h

or_wrong_fits : {A : Type 0} (r : Result A Reason) (at : ℕ) (s : State) (go : A → Outcome) → HasBytes s → ((x : A) → Fits (go x)) → Fits (or_wrong r at s go)
or_wrong_fits (Ok x) at s go h g = g x
or_wrong_fits (Err reason) at s go h g = h

unless_fits : {A : Type 0} (first : Option Reason) (x : A) (at : ℕ) (s : State) (go : A → Outcome) → HasBytes s → Fits (go x)
    → Fits (or_wrong (unless first x) at s go)
unless_fits None x at s go h g = g
unless_fits (Some reason) x at s go h g = h

tested_fits : {A : Type 0} (tests : List Test) (x : A) (at : ℕ) (s : State) (go : A → Outcome) → HasBytes s → Fits (go x)
    → Fits (or_wrong (tested tests x) at s go)
tested_fits tests x at s go h g = unless_fits (first_against tests) x at s go h g

pub if_fits : (c : Bool) (one other : Outcome) → Fits one → Fits other → Fits (if c then one else other)
if_fits true one other h g = h
if_fits false one other h g = g

-- ---- states

pub tick_bytes : (s : State) → HasBytes s → HasBytes (tick s)
tick_bytes s h = record { objects = h.objects; frame = h.frame }

ended_all : (ns : List ℕ) (s : State) → HasBytes s → HasBytes (on_own (ended ns) s)
ended_all [] s h = h
ended_all (n ∷ ns) s h = ended_all ns (on_own (end_life n) s) (ended_bytes s n h)

pub closing_fits : (ns : List ℕ) (o : Outcome) → Fits o → Fits (closing ns o)
closing_fits ns (Next s) h = ended_all ns s h
closing_fits ns (Gives d s) h = (h.0, ended_all ns s h.1)
closing_fits ns (Wrong at reason s) h = h
closing_fits ns (Untold s) h = h

-- ---- values

pub converted_fits : (t : Integer) (v : Value) → IsWord (converted_to t v)
converted_fits t v = word_of_below t (reading v.of v.word)

pub number_fits : (t : Integer) (word : ℕ) → IsWord (number t word)
number_fits t word = converted_fits t (record { of = t; word = word })

pub as_type_fits : (type : CType) (d : Datum) → IsWordIfInteger (as_type type d)
as_type_fits (types.Int bits signed) d = converted_fits (record { bits = bits; signed = signed }) (values.word_of d)
as_type_fits (types.Pointer target) d = tt
as_type_fits _ d = tt

pub bool_fits : (b : Bool) → IsWordIfInteger (of_bool b)
bool_fits true = omega arith
bool_fits false = omega arith

result_fits : (t : Integer) (r : Result ℕ Reason) (at : ℕ) (s : State) → HasBytes s → ((w : ℕ) → Ok w ≡ r → w < 2 ^ width t) → Fits (of_result (typed t r) at s)
result_fits t (Ok w) at s h g = (g w refl, h)
result_fits t (Err reason) at s h g = h

pub binary_fits : (op : BinaryOp) (at : ℕ) (a b : Datum) (s : State) → HasBytes s → Fits (binary op at a b s)
binary_fits op at a b s h =
    let x = values.word_of a in
    let y = values.word_of b in
    let t = left_type op x.of y.of in
    let u = right_type op x.of y.of in
    result_fits (type_of_binary op x.of y.of) (of_words op t u (word_at t x) (word_at u y)) at s h
    (λ w e. binary_below op x.of y.of t u (type_of_binary op x.of y.of) (word_at t x) (word_at u y) w refl refl e)

pub unary_fits : (op : UnaryOp) (at : ℕ) (a : Datum) (s : State) → HasBytes s → Fits (unary op at a s)
unary_fits op at a s h =
    let x = values.word_of a in
    let t = promoted x.of in
    result_fits (type_of_unary op x.of) (of_word op t (word_at t x)) at s h
    (λ w e. unary_below op x.of t (type_of_unary op x.of) (word_at t x) w refl refl e)

-- ---- reads and writes

read_lvalue_fits : (type : CType) (p : Lvalue) (s : State) → HasBytes s → Fits (read_lvalue type p s)
read_lvalue_fits (types.Int bits signed) p s h =
    let t : Integer = record { bits = bits; signed = signed } in
    let c = content s.own p.pointer.object in
    let bytes = bytes_of s.frame c in
    tested_fits (read_tests c bytes p.room p.pointer.offset (size_of t) (align_of p.loose t)) (word_of (part bytes p.pointer.offset (size_of t))) p.at s
    (λ word. Gives (data_of.Word (record { of = t; word = word })) s) h (read_below s p.pointer.object p.pointer.offset t h, h)
read_lvalue_fits (types.Array target count) p s h = (tt, h)
read_lvalue_fits _ p s h = (tt, h)

read_pointer_fits : (p : Option Pointer) (at : ℕ) (s : State) → HasBytes s → Fits (read_pointer p at s)
read_pointer_fits None at s h = h
read_pointer_fits (Some p) at s h = (tt, h)

pub read_fits : (d : Datum) (s : State) → IsWordIfInteger d → HasBytes s → Fits (read d s)
read_fits (data_of.Lvalue place) s w h = read_lvalue_fits place.of place s h
read_fits (data_of.PointerVariable node at) s w h = read_pointer_fits (points_of (slot s.own node).life) at s h
read_fits d s w h = (w, h)

pub write_fits : (to d : Datum) (s : State) → HasBytes s → Fits (write to d s)
write_fits (data_of.Lvalue p) d s h =
    let t = integer_of p.of in
    let v = values.word_of d in
    let word = converted t v.of v.word in
    tested_fits (write_tests s p.pointer p.room (size_of t) (align_of p.loose t)) (written s p.pointer.object p.pointer.offset
    (bytes_of_word (size_of t) word)) p.at s Next h
    (written_bytes s p.pointer.object p.pointer.offset (size_of t) word h)
write_fits (data_of.PointerVariable node at) d s h = held_bytes s node (pointer_of d) h
write_fits _ d s h = h

-- ---- places

pub address_fits : (u : Typed) (d : Datum) (s : State) → HasBytes s → Fits (address u d s)
address_fits u (data_of.Lvalue place) s h =
    or_wrong_fits (tested (address_tests (layout u.notes place.of).size place s) place.pointer) place.at s (λ p. Gives (data_of.Address p) s) h (λ p. (tt, h))
address_fits u _ s h = (tt, h)

pub indexed_fits : (d : Datum) (s : State) → IsWordIfInteger d → HasBytes s → Fits (indexed d s)
indexed_fits (data_of.Lvalue place) s w h =
    if_fits (is_array place.of) (Gives (data_of.Lvalue place) s) (read (data_of.Lvalue place) s) (tt, h) (read_fits (data_of.Lvalue place) s tt h)
indexed_fits d s w h = read_fits d s w h

pub element_fits : (size : ℕ) (type : CType) (at index_at : ℕ) (a i : Datum) (s : State) → HasBytes s → Fits (element size type at index_at a i s)
element_fits size type at index_at a i s h =
    or_wrong_fits (tested (index_tests (start_under a) (values.word_of i)) (element_of (start_under a) size (values.word_of i))) index_at s
    (λ p. Gives (data_of.Lvalue (element_at size type at a p)) s) h (λ p. (tt, h))

-- ---- calls

pub answer_fits : (answer : Option IntType) (end : ℕ) (o : Outcome) → Fits o → Fits (answer_as answer end o)
answer_fits None end (Next s) h = (tt, h)
answer_fits None end (Gives d s) h = (tt, h.1)
answer_fits None end (Wrong at reason s) h = h
answer_fits None end (Untold s) h = h
answer_fits (Some type) end (Next s) h = h
answer_fits (Some type) end (Gives d s) h = (converted_fits (Rattle.vg_cint.specs.Types.integer_of type) (values.word_of d), h.1)
answer_fits (Some type) end (Wrong at reason s) h = h
answer_fits (Some type) end (Untold s) h = h

pub frame_row_fits : (row : FrameCall) (at : ℕ) (arguments : List Datum) (s : State) → HasBytes s → Fits (frame_row row at arguments s)
frame_row_fits calls.Length at arguments s h = (number_fits unsigned_32 (length s.frame), h)
frame_row_fits calls.Borrow at arguments s h =
    let count = (converted_to unsigned_32 (values.word_of (argument_at arguments 0))).word in
    tested_fits (borrow_tests s.own (length s.frame) count) (with_loan s.own count) at s
    (λ own. Gives (data_of.Address (start_of_loan s.own)) (record s { own = own })) h (tt, record { objects = h.objects; frame = h.frame })
frame_row_fits calls.Return at arguments s h =
    tested_fits (return_tests s.own (pointer_of (argument_at arguments 0))) (without_loan s.own) at s
    (λ own. Gives data_of.Nothing (record s { own = own })) h (tt, record { objects = h.objects; frame = h.frame })
