-- What a write leaves in its own object.
use Rattle.std.proofs.Common.{◌≡◌, ℕ, zero, suc, ◌+◌, nat_eq, Bool, true, false, if◌then◌else◌, List, [], ◌∷◌, length, map, take, drop, slice_set}
use Rattle.std.proofs.Common.{slice_index_or, Option, Some, None, IfOk, refl, ap, ◌∙◌, arith}
use Rattle.vg_core.specs.declared.reason.Reason.{Reason}
use Rattle.vg_core.specs.declared.reason.Reason.TheVariants as reasons
use Rattle.vg_cmemory.specs.declared.object.Object.TheVariants as objects
use Rattle.vg_cmemory.specs.declared.object.Object.{Object}
use Rattle.vg_cmemory.specs.declared.object.Chunk.{Chunk}
use Rattle.vg_cmemory.specs.State.{State, Slot, Life, no_slot}
use Rattle.vg_cint.specs.Tests.{Test, test, first_against, unless}
use Rattle.vg_cmemory.specs.Access.{Content, Bytes, Lent, Gone, lives, set, part, put, bytes_of, bytes_of_word, content, content_of_life}
use Rattle.vg_cmemory.specs.Access.{content_of_chunk, put_in_slot, written, place_tests, start_in_frame}
use Rattle.vg_cmemory.specs.Laws.{WritesAreSeen, bytes_in}

-- ---- parts of a list

take_set : {A : Type 0} (xs : List A) (size at : ℕ) (v : A) → take size (slice_set xs at v) ≡ slice_set (take size xs) at v
take_set xs zero at v = refl
take_set [] (suc size) at v = refl
take_set (x ∷ xs) (suc size) zero v = refl
take_set {A} (x ∷ xs) (suc size) (suc at) v = ap (λ (ys : List A). x ∷ ys) (take_set xs size at v)

drop_set : {A : Type 0} (xs : List A) (from at place : ℕ) (v : A) → place ≡ from + at → drop from (slice_set xs place v) ≡ slice_set (drop from xs) at v
drop_set xs zero at place v e = let same : place ≡ at = omega arith in ap (λ k. slice_set xs k v) same
drop_set [] (suc from) at place v e = refl
drop_set (x ∷ xs) (suc from) at zero v e = absurd (omega arith)
drop_set (x ∷ xs) (suc from) at (suc place) v e = drop_set xs from at place v (omega arith)

part_set : {A : Type 0} (xs : List A) (from size at place : ℕ) (v : A) → place ≡ from + at
    → part (slice_set xs place v) from size ≡ slice_set (part xs from size) at v
part_set xs from size at place v e = ap (take size) (drop_set xs from at place v e) ∙ take_set (drop from xs) size at v

part_put : {A : Type 0} (xs new : List A) (from size at place : ℕ) → place ≡ from + at → part (put xs place new) from size ≡ put (part xs from size) at new
part_put xs [] from size at place e = refl
part_put {A} xs (n ∷ new) from size at place e =
    part_put (slice_set xs place n) new from size (at + 1) (place + 1) (omega arith)
    ∙ ap (λ (ys : List A). put ys (at + 1) new) (part_set xs from size at place n e)

map_set : (xs : List ℕ) (at n : ℕ) → map set (slice_set xs at n) ≡ slice_set (map set xs) at (set n)
map_set [] at n = refl
map_set (x ∷ xs) zero n = refl
map_set (x ∷ xs) (suc at) n = ap (λ (ys : List (Option ℕ)). set x ∷ ys) (map_set xs at n)

map_put : (xs new : List ℕ) (at : ℕ) → map set (put xs at new) ≡ put (map set xs) at (map set new)
map_put xs [] at = refl
map_put xs (n ∷ new) at = map_put (slice_set xs at n) new (at + 1) ∙ ap (λ (ys : List (Option ℕ)). put ys (at + 1) (map set new)) (map_set xs at n)

-- ---- an access to what lives alone is done

done_if : {A : Type 0} (r : Option Reason) (done : A) (P : A → Type 0) → P done → IfOk (unless r done) P
done_if None done P h = h
done_if (Some reason) done P h = tt

if_alive : {A : Type 0} (b : Bool) (ts : List Test) (done : A) (P : A → Type 0) → (b ≡ true → P done)
    → IfOk (unless (first_against (test reasons.Dead b ∷ ts)) done) P
if_alive true ts done P h = done_if (first_against ts) done P (h refl)
if_alive false ts done P h = tt

-- ---- the object of a declaration

seen_life : (b : Bool) (bytes : List (Option ℕ)) (frame other : List ℕ) (at : ℕ) (new : List (Option ℕ)) → lives (if b then Bytes bytes else Gone) ≡ true →
    bytes_of other (if b then Bytes (put bytes at new) else Gone) ≡ put (bytes_of frame (if b then Bytes bytes else Gone)) at new
seen_life true bytes frame other at new h = refl
seen_life false bytes frame other at new h = cc

seen_option : (life : Option Life) (size number at : ℕ) (new : List ℕ) (frame other : List ℕ) → lives (content_of_life life number) ≡ true →
    bytes_of other (content_of_life (put_in_slot at new (record { size = size; life = life })).life number) ≡ put
    (bytes_of frame (content_of_life life number)) at (map set new)
seen_option None size number at new frame other h = cc
seen_option (Some life) size number at new frame other h = seen_life (nat_eq life.number number) life.bytes frame other at (map set new) h

seen_slot : (slots : List Slot) (node number at : ℕ) (new : List ℕ) (frame other : List ℕ)
    → lives (content_of_life (slice_index_or slots node no_slot).life number) ≡ true →
    bytes_of other (content_of_life (slice_index_or (slice_set slots node (put_in_slot at new (slice_index_or slots node no_slot))) node no_slot).life number)
    ≡ put (bytes_of frame (content_of_life (slice_index_or slots node no_slot).life number)) at (map set new)
seen_slot [] node number at new frame other h = cc
seen_slot (s ∷ ss) zero number at new frame other h = seen_option s.life s.size number at new frame other h
seen_slot (s ∷ ss) (suc node) number at new frame other h = seen_slot ss node number at new frame other h

-- ---- a chunk

either : (b : Bool) (P : Content → Type 0) (x y : Content) → P x → P y → P (if b then x else y)
either true P x y h i = h
either false P x y h i = i

pub by_chunk : (chunks : List Chunk) (number : ℕ) (P : Content → Type 0) → ((from size : ℕ) → P (Lent from size)) → P Gone → P (content_of_chunk chunks number)
by_chunk [] number P one none = none
by_chunk (c ∷ cs) number P one none = either (nat_eq c.number number) P (Lent c.from c.size) (content_of_chunk cs number) (one c.from c.size)
    (by_chunk cs number P one none)

seen_lent : (frame new : List ℕ) (from size at : ℕ) →
    bytes_of (put frame (from + at) new) (Lent from size) ≡ put (bytes_of frame (Lent from size)) at (map set new)
seen_lent frame new from size at = ap (map set) (part_put frame new from size at (from + at) refl) ∙ map_put (part frame from size) new at

seen_chunk : (s : State) (number at : ℕ) (new : List ℕ) → lives (content_of_chunk s.own.chunks number) ≡ true →
    bytes_of (put s.frame (start_in_frame (content_of_chunk s.own.chunks number) + at) new) (content_of_chunk s.own.chunks number)
    ≡ put (bytes_of s.frame (content_of_chunk s.own.chunks number)) at (map set new)
seen_chunk s number at new =
    by_chunk s.own.chunks number
    (λ c. lives c ≡ true → bytes_of (put s.frame (start_in_frame c + at) new) c ≡ put (bytes_of s.frame c) at (map set new))
    (λ from size h. seen_lent s.frame new from size at) (λ h. cc)

-- ---- both

seen_at : (s : State) (object : Object) (at : ℕ) (new : List ℕ) → lives (content s.own object) ≡ true →
    bytes_in (written s object at new) object ≡ put (bytes_in s object) at (map set new)
seen_at s (objects.Declared node number) at new h = seen_slot s.own.slots node number at new s.frame s.frame h
seen_at s (objects.Chunk number) at new h = seen_chunk s number at new h
seen_at s (objects.Cell vector index number) at new h = cc

pub writes_are_seen : WritesAreSeen
writes_are_seen s p room size align word =
    if_alive (lives (content s.own p.object)) (place_tests (length (bytes_in s p.object)) room p.offset size align)
    (written s p.object p.offset (bytes_of_word size word))
    (λ t. bytes_in t p.object ≡ put (bytes_in s p.object) p.offset (map set (bytes_of_word size word)))
    (λ h. seen_at s p.object p.offset (bytes_of_word size word) h)
