-- Bytes stay bytes.
use Rattle.std.proofs.Common.{◌≡◌, ℕ, zero, suc, ◌+◌, ◌-◌, ◌/◌, ◌^◌, ◌≤◌, ◌<◌, Bool, true, false, if◌then◌else◌, nat_eq, List, [], ◌∷◌, length, map}
use Rattle.std.proofs.Common.{take, drop, replicate, slice_set, slice_index_or, Option, Some, None, refl, sym, subst, arith, ◌⊎◌, inl, inr}
use Rattle.std.proofs.lemmas.Bool.Decides.{nat_tests}
use Rattle.std.proofs.lemmas.List.{length-take}
use Rattle.std.proofs.Math.Nat.{pow-succ'}
use Rattle.vg_core.specs.declared.types.Integer.{Integer}
use Rattle.vg_cint.specs.Types.{width}
use Rattle.vg_cmemory.specs.declared.object.Object.{Object}
use Rattle.vg_cmemory.specs.declared.object.Object.TheVariants as objects
use Rattle.vg_cmemory.specs.declared.object.Chunk.{Chunk}
use Rattle.vg_cmemory.specs.declared.object.Pointer.{Pointer}
use Rattle.vg_cmemory.specs.State.{Life, Slot, Own, State, slot, no_slot, with_slot, made, declare, end_life, hold, held, points_to, at_rest}
use Rattle.vg_cmemory.specs.State as memory
use Rattle.vg_cmemory.specs.Access.{Bytes, Lent, Gone, content, content_of_life, content_of_chunk, bytes_of, set, part, or_zero, word_of}
use Rattle.vg_cmemory.specs.Access.{bytes_of_word, put, put_in_life, put_in_slot, written, start_in_frame}
use Rattle.vg_cmean.specs.Values.{size_of}
use Rattle.vg_cwidths.specs.Widths.{Each, IsByte, IsByteIfSet, IsOfBytes, HasBytes}

-- ---- lists

each_get : {A : Type 0} (P : A → Type 0) (xs : List A) (n : ℕ) (d : A) → Each P xs → P d → P (slice_index_or xs n d)
each_get P [] n d h k = k
each_get P (x ∷ xs) zero d h k = h.0
each_get P (x ∷ xs) (suc n) d h k = each_get P xs n d h.1 k

each_set : {A : Type 0} (P : A → Type 0) (xs : List A) (n : ℕ) (x : A) → Each P xs → P x → Each P (slice_set xs n x)
each_set P [] n x h k = h
each_set P (y ∷ xs) zero x h k = (k, h.1)
each_set P (y ∷ xs) (suc n) x h k = (h.0, each_set P xs n x h.1 k)

each_take : {A : Type 0} (P : A → Type 0) (n : ℕ) (xs : List A) → Each P xs → Each P (take n xs)
each_take P zero xs h = tt
each_take P (suc n) [] h = tt
each_take P (suc n) (x ∷ xs) h = (h.0, each_take P n xs h.1)

each_drop : {A : Type 0} (P : A → Type 0) (n : ℕ) (xs : List A) → Each P xs → Each P (drop n xs)
each_drop P zero xs h = h
each_drop P (suc n) [] h = tt
each_drop P (suc n) (x ∷ xs) h = each_drop P n xs h.1

each_put : {A : Type 0} (P : A → Type 0) (xs : List A) (at : ℕ) (new : List A) → Each P xs → Each P new → Each P (put xs at new)
each_put P xs at [] h k = h
each_put P xs at (x ∷ new) h k = each_put P (slice_set xs at x) (at + 1) new (each_set P xs at x h k.0) k.1

all_set_bytes : (xs : List ℕ) → Each IsByte xs → Each IsByteIfSet (map set xs)
all_set_bytes [] h = tt
all_set_bytes (x ∷ xs) h = (h.0, all_set_bytes xs h.1)

none_set : (n : ℕ) → Each IsByteIfSet (replicate n None)
none_set zero = tt
none_set (suc n) = (tt, none_set n)

-- ---- words

bytes_of_words : (size word : ℕ) → Each IsByte (bytes_of_word size word)
bytes_of_words zero word = tt
bytes_of_words (suc size) word = (omega arith, bytes_of_words size (word / 256))

byte_or_zero : (b : Option ℕ) → IsByteIfSet b → or_zero b < 256
byte_or_zero None h = omega arith
byte_or_zero (Some x) h = h

word_below : (xs : List (Option ℕ)) → Each IsByteIfSet xs → word_of xs < 256 ^ length xs
word_below [] h = omega arith
word_below (x ∷ xs) h =
    let b = byte_or_zero x h.0 in
    let rest = word_below xs h.1 in
    let p = pow-succ' 256 (length xs) in omega arith

power_grows : (m n : ℕ) → 256 ^ m ≤ 256 ^ (m + n)
power_grows m zero = let e : m ≡ m + 0 = omega arith in subst (λ k. 256 ^ m ≤ 256 ^ k) e (omega arith)
power_grows m (suc n) =
    let h = power_grows m n in
    let p = pow-succ' 256 (m + n) in
    let e : m + suc n ≡ suc (m + n) = omega arith in subst (λ k. 256 ^ m ≤ 256 ^ k) (sym e) (omega arith)

part_below : (xs : List (Option ℕ)) (from size : ℕ) → Each IsByteIfSet xs → word_of (part xs from size) < 256 ^ size
part_below xs from size h =
    let b = word_below (part xs from size) (each_take IsByteIfSet size (drop from xs) (each_drop IsByteIfSet from xs h)) in
    let l = length-take size (drop from xs) in
    let short : length (part xs from size) ≤ size = omega arith in
    let e : length (part xs from size) + (size - length (part xs from size)) ≡ size = omega arith in
    let grows : 256 ^ length (part xs from size) ≤ 256 ^ size = subst (λ k. 256 ^ length (part xs from size) ≤ 256 ^ k) e
    (power_grows (length (part xs from size)) (size - length (part xs from size))) in omega arith

widths : (t : Integer) → (width t ≡ 8) ⊎ ((width t ≡ 16) ⊎ ((width t ≡ 32) ⊎ (width t ≡ 64)))
widths t = grind (arith, nat_tests)

bytes_by : (w : ℕ) → (w ≡ 8) ⊎ ((w ≡ 16) ⊎ ((w ≡ 32) ⊎ (w ≡ 64))) → 256 ^ (w / 8) ≡ 2 ^ w
bytes_by w (inl e) = subst (λ n. 256 ^ (n / 8) ≡ 2 ^ n) (sym e) refl
bytes_by w (inr (inl e)) = subst (λ n. 256 ^ (n / 8) ≡ 2 ^ n) (sym e) refl
bytes_by w (inr (inr (inl e))) = subst (λ n. 256 ^ (n / 8) ≡ 2 ^ n) (sym e) refl
bytes_by w (inr (inr (inr e))) = subst (λ n. 256 ^ (n / 8) ≡ 2 ^ n) (sym e) refl

pub bytes_fill : (t : Integer) → 256 ^ size_of t ≡ 2 ^ width t
bytes_fill t = bytes_by (width t) (widths t)

-- ---- objects

slot_bytes : (s : State) (n : ℕ) → HasBytes s → IsOfBytes (slot s.own n).life
slot_bytes s n h = each_get (λ (x : Slot). IsOfBytes x.life) s.own.slots n no_slot h.objects tt

bytes_if : (frame : List ℕ) (life : Life) (same : Bool) → Each IsByteIfSet life.bytes → Each IsByteIfSet
    (bytes_of frame (if same then Bytes life.bytes else Gone))
bytes_if frame life true h = h
bytes_if frame life false h = tt

chunk_if : (frame : List ℕ) (c : Chunk) (cs : List Chunk) (number : ℕ) (same : Bool) → Each IsByte frame →
    Each IsByteIfSet (bytes_of frame (content_of_chunk cs number))
    → Each IsByteIfSet (bytes_of frame (if same then Lent c.from c.size else content_of_chunk cs number))
chunk_if frame c cs number true h rest =
    all_set_bytes (take c.size (drop c.from frame)) (each_take IsByte c.size (drop c.from frame) (each_drop IsByte c.from frame h))
chunk_if frame c cs number false h rest = rest

bytes_of_life : (frame : List ℕ) (life : Option Life) (number : ℕ) → IsOfBytes life → Each IsByteIfSet (bytes_of frame (content_of_life life number))
bytes_of_life frame None number h = tt
bytes_of_life frame (Some life) number h = bytes_if frame life (nat_eq life.number number) h

bytes_of_chunk : (frame : List ℕ) (chunks : List Chunk) (number : ℕ) → Each IsByte frame → Each IsByteIfSet (bytes_of frame (content_of_chunk chunks number))
bytes_of_chunk frame [] number h = tt
bytes_of_chunk frame (c ∷ cs) number h = chunk_if frame c cs number (nat_eq c.number number) h (bytes_of_chunk frame cs number h)

pub content_bytes : (s : State) (o : Object) → HasBytes s → Each IsByteIfSet (bytes_of s.frame (content s.own o))
content_bytes s (objects.Declared node number) h = bytes_of_life s.frame (slot s.own node).life number (slot_bytes s node h)
content_bytes s (objects.Chunk number) h = bytes_of_chunk s.frame s.own.chunks number h.frame
content_bytes s (objects.Cell vector index number) h = tt

pub read_below : (s : State) (o : Object) (from : ℕ) (t : Integer) → HasBytes s → word_of (part (bytes_of s.frame (content s.own o)) from (size_of t))
    < 2 ^ width t
read_below s o from t h =
    let b = part_below (bytes_of s.frame (content s.own o)) from (size_of t) (content_bytes s o h) in
    let e = bytes_fill t in omega arith

-- ---- what changes

pub with_slot_bytes : (s : State) (n : ℕ) (to : Slot) → HasBytes s → IsOfBytes to.life → HasBytes (record s { own = with_slot s.own n to })
with_slot_bytes s n to h k = record { objects = each_set (λ (x : Slot). IsOfBytes x.life) s.own.slots n to h.objects k; frame = h.frame }

put_life : (at : ℕ) (new : List ℕ) (life : Option Life) → IsOfBytes life → Each IsByte new → IsOfBytes (put_in_life at new life)
put_life at new None h k = tt
put_life at new (Some life) h k = each_put IsByteIfSet life.bytes at (map set new) h (all_set_bytes new k)

pub written_bytes : (s : State) (o : Object) (at size word : ℕ) → HasBytes s → HasBytes (written s o at (bytes_of_word size word))
written_bytes s (objects.Declared node number) at size word h =
    with_slot_bytes s node (put_in_slot at (bytes_of_word size word) (slot s.own node)) h
    (put_life at (bytes_of_word size word) (slot s.own node).life (slot_bytes s node h) (bytes_of_words size word))
written_bytes s (objects.Chunk number) at size word h =
    record {
      objects = h.objects;
      frame = each_put IsByte s.frame (start_in_frame (content_of_chunk s.own.chunks number) + at)
          (bytes_of_word size word) h.frame (bytes_of_words size word);
    }
written_bytes s (objects.Cell vector index number) at size word h = h

pub declared_bytes : (s : State) (n : ℕ) → HasBytes s → HasBytes (record s { own = declare n s.own })
declared_bytes s n h = record {
  objects = each_set (λ (x : Slot). IsOfBytes x.life) s.own.slots n (made s.own.born (slot s.own n)) h.objects
      (none_set (slot s.own n).size);
  frame = h.frame;
}

pub ended_bytes : (s : State) (n : ℕ) → HasBytes s → HasBytes (record s { own = end_life n s.own })
ended_bytes s n h = with_slot_bytes s n (memory.ended (slot s.own n)) h tt

points_life : (p : Pointer) (life : Option Life) → IsOfBytes life → IsOfBytes (points_to p life)
points_life p None h = tt
points_life p (Some life) h = h

pub held_bytes : (s : State) (n : ℕ) (p : Pointer) → HasBytes s → HasBytes (record s { own = hold n p s.own })
held_bytes s n p h = with_slot_bytes s n (held p (slot s.own n)) h (points_life p (slot s.own n).life (slot_bytes s n h))

pub rest_bytes : (sizes : List ℕ) → Each (λ (x : Slot). IsOfBytes x.life) (at_rest sizes)
rest_bytes [] = tt
rest_bytes (size ∷ sizes) = (tt, rest_bytes sizes)
