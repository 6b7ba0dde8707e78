-- What each operation adds to the steps.
use Rattle.std.proofs.Common.{◌≡◌, ℕ, ◌+◌, ◌≤◌, Bool, true, false, if◌then◌else◌, List, [], ◌∷◌, Option, Some, None, Result, Ok, Err, refl, arith}
use Rattle.vg_core.specs.declared.reason.Reason.{Reason}
use Rattle.vg_core.specs.declared.tree.BinaryOp.{BinaryOp}
use Rattle.vg_core.specs.declared.tree.UnaryOp.{UnaryOp}
use Rattle.vg_core.specs.declared.tree.IntType.{IntType}
use Rattle.vg_core.specs.declared.types.CType.{CType}
use Rattle.vg_core.specs.declared.types.CType.TheVariants as types
use Rattle.vg_cint.specs.Tests.{Test, tested, first_against}
use Rattle.vg_cint.specs.Expressions.{binary_of, unary_of}
use Rattle.vg_cmemory.specs.declared.object.Object.{Object}
use Rattle.vg_cmemory.specs.declared.object.Object.TheVariants as objects
use Rattle.vg_cmemory.specs.declared.object.Pointer.{Pointer}
use Rattle.vg_cmemory.specs.State.{Own, State, declare, points_of, slot, hold}
use Rattle.vg_cmemory.specs.State as memory
use Rattle.vg_cmemory.specs.Access.{load, written, write_tests, bytes_of_word}
use Rattle.vg_cmean.specs.declared.datum.Datum.{Datum}
use Rattle.vg_cmean.specs.declared.datum.Datum.TheVariants as data_of
use Rattle.vg_cmean.specs.declared.datum.Lvalue.{Lvalue}
use Rattle.vg_cmean.specs.Outcomes.{Outcome, Next, Gives, Wrong, Untold, and_then, after, or_wrong, tick}
use Rattle.vg_cmean.specs.Values.{read, read_lvalue, read_pointer, write, integer_of, binary, unary, size_of, align_of, word_of}
use Rattle.vg_cint.specs.Values.{converted}
use Rattle.vg_cmean.specs.Meaning.{ended, closing, answer_as}
use Rattle.vg_cbounds.specs.Bounds.{steps_after}

-- ---- one thing after the other

pub bind_steps : (o : Outcome) (f : Datum → State → Outcome) (a b : ℕ) → steps_after o ≤ a → ((d : Datum) (s : State) → steps_after (f d s) ≤ s.own.steps + b) →
    steps_after (and_then o f) ≤ a + b
bind_steps (Next s) f a b h g = let k = g data_of.Nothing s in omega arith
bind_steps (Gives d s) f a b h g = let k = g d s in omega arith
bind_steps (Wrong at reason s) f a b h g = omega arith
bind_steps (Untold s) f a b h g = omega arith

pub after_steps : (o : Outcome) (f : State → Outcome) (a b : ℕ) → steps_after o ≤ a → ((s : State) → steps_after (f s) ≤ s.own.steps + b) →
    steps_after (after o f) ≤ a + b
after_steps (Next s) f a b h g = let k = g s in omega arith
after_steps (Gives d s) f a b h g = omega arith
after_steps (Wrong at reason s) f a b h g = omega arith
after_steps (Untold s) f a b h g = omega arith

pub or_wrong_steps : {A : Type 0} (r : Result A Reason) (at : ℕ) (s : State) (go : A → Outcome) (b : ℕ) → s.own.steps ≤ b → ((x : A) → steps_after (go x) ≤ b) →
    steps_after (or_wrong r at s go) ≤ b
or_wrong_steps (Ok x) at s go b h g = g x
or_wrong_steps (Err reason) at s go b h g = h

unless_steps : {A : Type 0} (first : Option Reason) (x : A) (at : ℕ) (s : State) (go : A → Outcome) (b : ℕ) → s.own.steps ≤ b → steps_after (go x) ≤ b →
    steps_after (or_wrong (Rattle.vg_cint.specs.Tests.unless first x) at s go) ≤ b
unless_steps None x at s go b h g = g
unless_steps (Some reason) x at s go b h g = h

pub tested_steps : {A : Type 0} (tests : List Test) (x : A) (at : ℕ) (s : State) (go : A → Outcome) (b : ℕ) → s.own.steps ≤ b → steps_after (go x) ≤ b →
    steps_after (or_wrong (tested tests x) at s go) ≤ b
tested_steps tests x at s go b h g = unless_steps (first_against tests) x at s go b h g

pub if_steps : (c : Bool) (one other : Outcome) (b : ℕ) → steps_after one ≤ b → steps_after other ≤ b → steps_after (if c then one else other) ≤ b
if_steps true one other b h g = h
if_steps false one other b h g = g

pub tick_steps : (s : State) → (tick s).own.steps ≤ s.own.steps + 1
tick_steps s = omega arith

-- ---- reads and writes take no step

read_lvalue_steps : (type : CType) (p : Lvalue) (s : State) → steps_after (read_lvalue type p s) ≤ s.own.steps
read_lvalue_steps (types.Int bits signed) p s =
    or_wrong_steps (load s p.pointer p.room (size_of (record { bits = bits; signed = signed }))
    (align_of p.loose (record { bits = bits; signed = signed }))) p.at s
    (λ word. Gives (data_of.Word (record { of = record { bits = bits; signed = signed }; word = word })) s) s.own.steps (omega arith) (λ x. omega arith)
read_lvalue_steps _ p s = omega arith

read_pointer_steps : (p : Option Pointer) (at : ℕ) (s : State) → steps_after (read_pointer p at s) ≤ s.own.steps
read_pointer_steps None at s = omega arith
read_pointer_steps (Some p) at s = omega arith

pub read_steps : (d : Datum) (s : State) → steps_after (read d s) ≤ s.own.steps
read_steps (data_of.Lvalue place) s = read_lvalue_steps place.of place s
read_steps (data_of.PointerVariable node at) s = read_pointer_steps (points_of (slot s.own node).life) at s
read_steps _ s = omega arith

written_steps : (s : State) (object : Object) (at : ℕ) (new : List ℕ) → (written s object at new).own.steps ≡ s.own.steps
written_steps s (objects.Declared node number) at new = refl
written_steps s (objects.Chunk number) at new = refl
written_steps s (objects.Cell vector index number) at new = refl

pub write_steps : (to d : Datum) (s : State) → steps_after (write to d s) ≤ s.own.steps
write_steps (data_of.Lvalue p) d s =
    let t = integer_of p.of in
    let v = word_of d in
    let new = bytes_of_word (size_of t) (converted t v.of v.word) in
    let e = written_steps s p.pointer.object p.pointer.offset new in
    tested_steps (write_tests s p.pointer p.room (size_of t) (align_of p.loose t)) (written s p.pointer.object p.pointer.offset new) p.at s Next
    s.own.steps (omega arith) (omega arith)
write_steps (data_of.PointerVariable node at) d s = omega arith
write_steps _ d s = omega arith

pub binary_steps : (op : BinaryOp) (at : ℕ) (a b : Datum) (s : State) → steps_after (binary op at a b s) ≤ s.own.steps
binary_steps op at a b s = or_wrong_steps (binary_of op (word_of a) (word_of b)) at s (λ v. Gives (data_of.Word v) s) s.own.steps (omega arith)
    (λ v. omega arith)

pub unary_steps : (op : UnaryOp) (at : ℕ) (a : Datum) (s : State) → steps_after (unary op at a s) ≤ s.own.steps
unary_steps op at a s = or_wrong_steps (unary_of op (word_of a)) at s (λ v. Gives (data_of.Word v) s) s.own.steps (omega arith) (λ v. omega arith)

-- ---- the end of a block or call takes no step

ended_steps : (ns : List ℕ) (own : Own) → (ended ns own).steps ≡ own.steps
ended_steps [] own = refl
ended_steps (n ∷ ns) own = ended_steps ns (memory.end_life n own)

pub closing_steps : (ns : List ℕ) (o : Outcome) → steps_after (closing ns o) ≡ steps_after o
closing_steps ns (Next s) = ended_steps ns s.own
closing_steps ns (Gives d s) = ended_steps ns s.own
closing_steps ns (Wrong at reason s) = refl
closing_steps ns (Untold s) = refl

pub answer_steps : (answer : Option IntType) (end : ℕ) (o : Outcome) → steps_after (answer_as answer end o) ≡ steps_after o
answer_steps None end (Next s) = refl
answer_steps None end (Gives d s) = refl
answer_steps None end (Wrong at reason s) = refl
answer_steps None end (Untold s) = refl
answer_steps (Some type) end (Next s) = refl
answer_steps (Some type) end (Gives d s) = refl
answer_steps (Some type) end (Wrong at reason s) = refl
answer_steps (Some type) end (Untold s) = refl
