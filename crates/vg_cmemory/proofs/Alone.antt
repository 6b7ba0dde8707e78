-- A write is seen in no other object.
use Rattle.std.proofs.Common.{◌≡◌, ◌≢◌, ℕ, zero, suc, ◌+◌, ◌/◌, ◌%◌, ◌≤◌, nat_eq, Bool, true, false, if◌then◌else◌, List, [], ◌∷◌, length, map, take}
use Rattle.std.proofs.Common.{drop, slice_set, slice_index_or, Option, Some, None, IfOk, refl, ap, sym, subst, ◌∙◌, arith, ◌⊎◌, inl, inr}
use Rattle.std.specs.Prelude.{nat_le}
use Rattle.std.proofs.lemmas.Grind.{common_steps}
use Rattle.std.proofs.lemmas.Bool.Decides.{eqb_tells, nat_tests}
use Rattle.vg_core.specs.declared.reason.Reason.{Reason}
use Rattle.vg_core.specs.declared.reason.Reason.TheVariants as reasons
use Rattle.vg_cmemory.specs.declared.object.Object.{Object}
use Rattle.vg_cmemory.specs.declared.object.Object.TheVariants as objects
use Rattle.vg_cmemory.specs.declared.object.Chunk.{Chunk}
use Rattle.vg_cmemory.specs.State.{State, Slot, Life, no_slot}
use Rattle.vg_cint.specs.Tests.{Test, test, first_against, unless}
use Rattle.vg_cmemory.specs.Access.{Content, Bytes, Lent, Gone, lives, set, part, put, bytes_of, bytes_of_word, content, content_of_life}
use Rattle.vg_cmemory.specs.Access.{content_of_chunk, put_in_life, put_in_slot, written, lies_in, start_in_frame}
use Rattle.vg_cmemory.specs.Laws.{AreStacked, IsStacked, WritesAreSeenThereAlone, bytes_in}
use Rattle.vg_cmemory.proofs.Gone.{slot_other}
use Rattle.vg_cmemory.proofs.Seen.{by_chunk}
use Rattle.vg_cmemory.proofs.Outside.{put_outside}

-- ---- what its tests say of an access

done_if : {A : Type 0} (r : Option Reason) (done : A) (P : A → Type 0) → P done → IfOk (unless r done) P
done_if None done P h = h
done_if (Some reason) done P h = tt

if_inside : {A : Type 0} (alive within : Bool) (ts : List Test) (done : A) (P : A → Type 0) → (alive ≡ true → within ≡ true → P done) →
    IfOk (unless (first_against (test reasons.Dead alive ∷ test reasons.OutOfObject within ∷ ts)) done) P
if_inside true true ts done P h = done_if (first_against ts) done P (h refl refl)
if_inside true false ts done P h = tt
if_inside false within ts done P h = tt

-- ---- the object of a declaration: its bytes are no frame's, and of two of one declaration at most one lives

by_same : (b : Bool) (bytes : List (Option ℕ)) (frame other : List ℕ) → bytes_of frame (if b then Bytes bytes else Gone) ≡ bytes_of other
    (if b then Bytes bytes else Gone)
by_same true bytes frame other = refl
by_same false bytes frame other = refl

life_bytes : (life : Option Life) (number : ℕ) (frame other : List ℕ) → bytes_of frame (content_of_life life number) ≡ bytes_of other
    (content_of_life life number)
life_bytes None number frame other = refl
life_bytes (Some life) number frame other = by_same (nat_eq life.number number) life.bytes frame other

lives_if : (b : Bool) (bytes : List (Option ℕ)) → lives (if b then Bytes bytes else Gone) ≡ true → b ≡ true
lives_if true bytes h = refl
lives_if false bytes h = cc

is_number : (one other : ℕ) → nat_eq one other ≡ true → one ≡ other
is_number one other h = grind (arith, common_steps)

other_number : (one number m : ℕ) → nat_eq one number ≡ true → number ≢ m → nat_eq one m ≡ false
other_number one number m h ne = let same = is_number one number h in let other : one ≢ m = (λ e. ne (sym same ∙ e)) in grind (arith, common_steps)

same_life : (life : Option Life) (number m at : ℕ) (new : List ℕ) → number ≢ m → lives (content_of_life life number) ≡ true →
    content_of_life (put_in_life at new life) m ≡ content_of_life life m
same_life None number m at new ne h = refl
same_life (Some life) number m at new ne h =
    let other = other_number life.number number m (lives_if (nat_eq life.number number) life.bytes h) ne in
    ap (λ (b : Bool). if b then Bytes (put life.bytes at (map set new)) else Gone) other ∙ sym (ap (λ (b : Bool). if b then Bytes life.bytes else Gone) other)

same_node : (slots : List Slot) (node number m at : ℕ) (new : List ℕ) → number ≢ m → lives
    (content_of_life (slice_index_or slots node no_slot).life number) ≡ true →
    content_of_life (slice_index_or (slice_set slots node (put_in_slot at new (slice_index_or slots node no_slot))) node no_slot).life m
    ≡ content_of_life (slice_index_or slots node no_slot).life m
same_node [] node number m at new ne h = refl
same_node (s ∷ ss) zero number m at new ne h = same_life s.life number m at new ne h
same_node (s ∷ ss) (suc node) number m at new ne h = same_node ss node number m at new ne h

by_node : (slots : List Slot) (node number k m at : ℕ) (new : List ℕ) → objects.Declared node number ≢ objects.Declared k m →
    ((nat_eq node k ≡ true) × (node ≡ k)) ⊎ ((nat_eq node k ≡ false) × (node ≢ k)) → lives
    (content_of_life (slice_index_or slots node no_slot).life number) ≡ true →
    content_of_life (slice_index_or (slice_set slots node (put_in_slot at new (slice_index_or slots node no_slot))) k no_slot).life m
    ≡ content_of_life (slice_index_or slots k no_slot).life m
by_node slots node number k m at new ne (inl same) h =
    subst (λ (j : ℕ). content_of_life (slice_index_or (slice_set slots node (put_in_slot at new (slice_index_or slots node no_slot))) j no_slot).life m
    ≡ content_of_life (slice_index_or slots j no_slot).life m) same.1
    (same_node slots node number m at new (λ e. ne (λ i. objects.Declared (same.1 i) (e i))) h)
by_node slots node number k m at new ne (inr other) h = ap (λ (x : Slot). content_of_life x.life m)
    (slot_other slots node k (put_in_slot at new (slice_index_or slots node no_slot)) other.1)

-- ---- chunks

above_if : (b : Bool) (c : Chunk) (from f z : ℕ) (rest : Content) → c.from ≡ from → (rest ≡ Lent f z → from + c.size ≤ f)
    → (if b then Lent c.from c.size else rest) ≡ Lent f z → from ≤ f
above_if true c from f z rest is h e = let same : c.from ≡ f = cc in omega arith
above_if false c from f z rest is h e = let more = h e in omega arith

above : (from to : ℕ) (chunks : List Chunk) (n f z : ℕ) → AreStacked from chunks to → content_of_chunk chunks n ≡ Lent f z → from ≤ f
above from to [] n f z s e = cc
above from to (c ∷ cs) n f z s e = above_if (nat_eq c.number n) c from f z (content_of_chunk cs n) s.0 (λ d. above (from + c.size) to cs n f z s.1 d) e

apart_if : (b d : Bool) (c : Chunk) (from f z g y : ℕ) (one other : Content) → c.from ≡ from → (b ≡ true → d ≡ true → ⊥)
    → (one ≡ Lent f z → from + c.size ≤ f) → (other ≡ Lent g y → from + c.size ≤ g) →
    (one ≡ Lent f z → other ≡ Lent g y → (f + z ≤ g) ⊎ (g + y ≤ f)) → (if b then Lent c.from c.size else one) ≡ Lent f z
    → (if d then Lent c.from c.size else other) ≡ Lent g y → (f + z ≤ g) ⊎ (g + y ≤ f)
apart_if true true c from f z g y one other is n h k both e i = absurd (n refl refl)
apart_if true false c from f z g y one other is n h k both e i = let start : c.from ≡ f = cc in let end : c.size ≡ z = cc in let more = k i in inl (omega arith)
apart_if false true c from f z g y one other is n h k both e i = let start : c.from ≡ g = cc in let end : c.size ≡ y = cc in let more = h e in inr (omega arith)
apart_if false false c from f z g y one other is n h k both e i = both e i

two_numbers : (one n m : ℕ) → n ≢ m → nat_eq one n ≡ true → nat_eq one m ≡ true → ⊥
two_numbers one n m ne h k = ne (sym (is_number one n h) ∙ is_number one m k)

chunks_apart : (from to : ℕ) (chunks : List Chunk) (n m f z g y : ℕ) → AreStacked from chunks to → n ≢ m → content_of_chunk chunks n ≡ Lent f z
    → content_of_chunk chunks m ≡ Lent g y →
    (f + z ≤ g) ⊎ (g + y ≤ f)
chunks_apart from to [] n m f z g y s ne e i = cc
chunks_apart from to (c ∷ cs) n m f z g y s ne e i =
    apart_if (nat_eq c.number n) (nat_eq c.number m) c from f z g y (content_of_chunk cs n) (content_of_chunk cs m) s.0 (two_numbers c.number n m ne)
    (λ d. above (from + c.size) to cs n f z s.1 d) (λ d. above (from + c.size) to cs m g y s.1 d)
    (λ d j. chunks_apart (from + c.size) to cs n m f z g y s.1 ne d j) e i

length_word : (size word : ℕ) → length (bytes_of_word size word) ≡ size
length_word zero word = refl
length_word (suc size) word = ap suc (length_word size (word / 256))

short : (size : ℕ) (xs : List ℕ) → length (map set (take size xs)) ≤ size
short zero xs = omega arith
short (suc size) [] = omega arith
short (suc size) (x ∷ xs) = let h = short size xs in omega arith

length_part : (xs : List ℕ) (from size : ℕ) → length (map set (part xs from size)) ≤ size
length_part xs from size = short size (drop from xs)

is_at_most : (m n : ℕ) → nat_le m n ≡ true → m ≤ n
is_at_most m n h = grind (arith, nat_tests)

past : (f z g y at size : ℕ) (new : List ℕ) → (f + z ≤ g) ⊎ (g + y ≤ f) → length new ≡ size → at + size ≤ z → (f + at + length new ≤ g) ⊎ (g + y ≤ f + at)
past f z g y at size new (inl h) l w = inl (omega arith)
past f z g y at size new (inr h) l w = inr (omega arith)

other_chunk : (s : State) (number m at size word f z : ℕ) → IsStacked s.own → number ≢ m → content_of_chunk s.own.chunks number ≡ Lent f z →
    at + size ≤ length (map set (part s.frame f z)) →
    bytes_of (put s.frame (f + at) (bytes_of_word size word)) (content_of_chunk s.own.chunks m) ≡ bytes_of s.frame (content_of_chunk s.own.chunks m)
other_chunk s number m at size word f z stacked ne e within =
    by_chunk s.own.chunks m
    (λ d. content_of_chunk s.own.chunks m ≡ d → bytes_of (put s.frame (f + at) (bytes_of_word size word)) d ≡ bytes_of s.frame d)
    (λ g y i. let short_enough = length_part s.frame f z in
    let room : at + size ≤ z = omega arith in
    ap (λ (xs : List ℕ). map set xs)
    (put_outside s.frame (bytes_of_word size word) (f + at) g y
    (past f z g y at size (bytes_of_word size word) (chunks_apart 0 s.own.lent s.own.chunks number m f z g y stacked ne e i) (length_word size word) room)))
    (λ i. refl) refl

chunk_alone : (s : State) (number m at size word : ℕ) → IsStacked s.own → number ≢ m → lives (content_of_chunk s.own.chunks number) ≡ true →
    nat_le (at + size) (length (bytes_of s.frame (content_of_chunk s.own.chunks number))) ≡ true →
    bytes_of (put s.frame (start_in_frame (content_of_chunk s.own.chunks number) + at) (bytes_of_word size word)) (content_of_chunk s.own.chunks m) ≡
    bytes_of s.frame (content_of_chunk s.own.chunks m)
chunk_alone s number m at size word stacked ne =
    by_chunk s.own.chunks number
    (λ c. content_of_chunk s.own.chunks number ≡ c → lives c ≡ true → nat_le (at + size) (length (bytes_of s.frame c)) ≡ true →
    bytes_of (put s.frame (start_in_frame c + at) (bytes_of_word size word)) (content_of_chunk s.own.chunks m) ≡ bytes_of s.frame
    (content_of_chunk s.own.chunks m))
    (λ f z e h w. other_chunk s number m at size word f z stacked ne e (is_at_most (at + size) (length (map set (part s.frame f z))) w))
    (λ e h w. cc) refl

-- ---- both

alone_at : (s : State) (object other : Object) (at size word : ℕ) → IsStacked s.own → object ≢ other → lives (content s.own object) ≡ true →
    nat_le (at + size) (length (bytes_in s object)) ≡ true → bytes_in (written s object at (bytes_of_word size word)) other ≡ bytes_in s other
alone_at s (objects.Declared node number) (objects.Declared k m) at size word stacked ne h w =
    ap (bytes_of s.frame) (by_node s.own.slots node number k m at (bytes_of_word size word) ne (eqb_tells node k) h)
alone_at s (objects.Declared node number) (objects.Chunk m) at size word stacked ne h w = refl
alone_at s (objects.Declared node number) (objects.Cell vector index m) at size word stacked ne h w = refl
alone_at s (objects.Chunk number) (objects.Declared k m) at size word stacked ne h w = life_bytes (slice_index_or s.own.slots k no_slot).life m _ s.frame
alone_at s (objects.Chunk number) (objects.Cell vector index m) at size word stacked ne h w = refl
alone_at s (objects.Cell vector index number) other at size word stacked ne h w = cc
alone_at s (objects.Chunk number) (objects.Chunk m) at size word stacked ne h w = chunk_alone s number m at size word stacked (λ e. ne (ap objects.Chunk e)) h w

pub alone : WritesAreSeenThereAlone
alone s p room size align word other stacked ne =
    if_inside (lives (content s.own p.object)) (nat_le (p.offset + size) (length (bytes_in s p.object)))
    (test reasons.OutOfObject (lies_in room p.offset size) ∷ test reasons.Misaligned (nat_eq (p.offset % align) 0) ∷ [])
    (written s p.object p.offset (bytes_of_word size word))
    (λ t. bytes_in t other ≡ bytes_in s other)
    (λ h w. alone_at s p.object other p.offset size word stacked ne h w)
