-- Chunks that are lent, one behind the other.
use Rattle.std.proofs.Common.{◌≡◌, ℕ, zero, suc, ◌+◌, ◌-◌, ◌<◌, ◌≤◌, nat_eq, Bool, true, false, if◌then◌else◌, List, [], ◌∷◌, ◌++◌, length, take}
use Rattle.std.proofs.Common.{slice_get, slice_index_or, refl, sym, ap, subst, arith}
use Rattle.std.proofs.lemmas.Grind.{common_steps}
use Rattle.vg_cmemory.specs.declared.object.Object.TheVariants as objects
use Rattle.vg_cmemory.specs.declared.object.Chunk.{Chunk}
use Rattle.vg_cmemory.specs.Loans.{start_of_chunk}
use Rattle.vg_cmemory.specs.Access.{Content, Lent, Gone, content_of_chunk}
use Rattle.vg_cmemory.specs.Laws.{AreStacked, StartsStacked, StaysStacked, ChunksAreApart, StaysGoneAtLoans}

pub starts : StartsStacked
starts sizes = refl

stacked_more : (from to number size : ℕ) (chunks : List Chunk) → AreStacked from chunks to →
    AreStacked from (chunks ++ record { number = number; from = to; size = size } ∷ []) (to + size)
stacked_more from to number size [] h = (sym h, ap (λ k. k + size) h)
stacked_more from to number size (c ∷ cs) h = (h.0, stacked_more (from + c.size) to number size cs h.1)

stacked_less : (from to : ℕ) (chunks : List Chunk) → 0 < length chunks → AreStacked from chunks to →
    AreStacked from (take (length chunks - 1) chunks) (start_of_chunk (slice_get chunks (length chunks - 1)))
stacked_less from to [] h s = absurd (omega arith)
stacked_less from to (c ∷ []) h s = sym s.0
stacked_less from to (c ∷ d ∷ ds) h s =
    let e : length (c ∷ d ∷ ds) - 1 ≡ suc (length (d ∷ ds) - 1) = omega arith in
    subst (λ k. AreStacked from (take k (c ∷ d ∷ ds)) (start_of_chunk (slice_get (c ∷ d ∷ ds) k))) (sym e)
    (s.0, stacked_less (from + c.size) to (d ∷ ds) (omega arith) s.1)

pub stays : StaysStacked
stays own count h = (stacked_more 0 own.lent own.born count own.chunks h, λ some. stacked_less 0 own.lent own.chunks some h, refl)

behind : (from to : ℕ) (chunks : List Chunk) (j : ℕ) (d : Chunk) → AreStacked from chunks to → j < length chunks → from ≤ (slice_index_or chunks j d).from
behind from to [] j d s h = absurd (omega arith)
behind from to (c ∷ cs) zero d s h = let e = s.0 in omega arith
behind from to (c ∷ cs) (suc j) d s h = let more = behind (from + c.size) to cs j d s.1 (omega arith) in omega arith

apart_from : (from to : ℕ) (chunks : List Chunk) (i j : ℕ) (d : Chunk) → AreStacked from chunks to → i < j → j < length chunks →
    (slice_index_or chunks i d).from + (slice_index_or chunks i d).size ≤ (slice_index_or chunks j d).from
apart_from from to [] i j d s h l = absurd (omega arith)
apart_from from to (c ∷ cs) zero zero d s h l = absurd (omega arith)
apart_from from to (c ∷ cs) zero (suc j) d s h l = let e = s.0 in let more = behind (from + c.size) to cs j d s.1 (omega arith) in omega arith
apart_from from to (c ∷ cs) (suc i) zero d s h l = absurd (omega arith)
apart_from from to (c ∷ cs) (suc i) (suc j) d s h l = apart_from (from + c.size) to cs i j d s.1 (omega arith) (omega arith)

pub apart : ChunksAreApart
apart own s i j d h l = apart_from 0 own.lent own.chunks i j d s h l

-- ---- a chunk that is gone stays so when another is lent

later : (born number : ℕ) → number < born → nat_eq born number ≡ false
later born number h = grind (arith, common_steps)

same_if : (b : Bool) (x y z : Content) → (y ≡ Gone → z ≡ Gone) → (if b then x else y) ≡ Gone → (if b then x else z) ≡ Gone
same_if true x y z h e = e
same_if false x y z h e = h e

gone_more : (chunks : List Chunk) (new : Chunk) (number : ℕ) → nat_eq new.number number ≡ false → content_of_chunk chunks number ≡ Gone →
    content_of_chunk (chunks ++ new ∷ []) number ≡ Gone
gone_more [] new number other e = ap (λ (b : Bool). if b then Lent new.from new.size else Gone) other
gone_more (c ∷ cs) new number other e =
    same_if (nat_eq c.number number) (Lent c.from c.size) (content_of_chunk cs number) (content_of_chunk (cs ++ new ∷ []) number)
    (gone_more cs new number other) e

pub stays_gone_at_loans : StaysGoneAtLoans
stays_gone_at_loans own count (objects.Declared node number) h gone = gone
stays_gone_at_loans own count (objects.Cell vector index number) h gone = refl
stays_gone_at_loans own count (objects.Chunk number) h gone =
    gone_more own.chunks (record { number = own.born; from = own.lent; size = count }) number (later own.born number h) gone
