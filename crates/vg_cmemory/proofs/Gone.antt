-- Laws of slots that change.
use Rattle.std.proofs.Common.{◌≡◌, ◌≢◌, ℕ, zero, suc, ◌<◌, nat_eq, false, true, Bool, List, [], ◌∷◌, slice_set, slice_index_or, Option, Some, None}
use Rattle.std.proofs.Common.{IfOk, refl, ap, subst, ◌∙◌, arith}
use Rattle.std.proofs.lemmas.Grind.{common_steps}
use Rattle.vg_core.specs.declared.reason.Reason.{Reason}
use Rattle.vg_cmemory.specs.declared.object.Object.{Object}
use Rattle.vg_cmemory.specs.declared.object.Object.TheVariants as objects
use Rattle.vg_cmemory.specs.State.{Own, State, Slot, no_slot, made, ended, slot, declare}
use Rattle.vg_cmemory.specs.Access.{Gone, content, content_of_life, bytes_of_word, write_tests, written, written_in, put_in_slot}
use Rattle.vg_cint.specs.Tests.{first_against, unless}
use Rattle.vg_cmemory.specs.Laws.{KeepsOthers, WritesStayInside, StaysGone, EndsLife}

-- ---- slots

pub slot_other : (slots : List Slot) (i k : ℕ) (to : Slot) → i ≢ k → slice_index_or (slice_set slots i to) k no_slot ≡ slice_index_or slots k no_slot
slot_other [] i k to ne = refl
slot_other (s ∷ ss) zero zero to ne = absurd (ne refl)
slot_other (s ∷ ss) zero (suc k) to ne = refl
slot_other (s ∷ ss) (suc i) zero to ne = refl
slot_other (s ∷ ss) (suc i) (suc k) to ne = slot_other ss i k to (λ e. ne (ap suc e))

-- a slot that is changed, or the end of the list
slot_changed : (slots : List Slot) (i : ℕ) (P : Slot → Type 0) (to : Slot) → P to → P no_slot → P (slice_index_or (slice_set slots i to) i no_slot)
slot_changed [] i P to h none = none
slot_changed (s ∷ ss) zero P to h none = h
slot_changed (s ∷ ss) (suc i) P to h none = slot_changed ss i P to h none

pub ends_life : EndsLife
ends_life own node number = slot_changed own.slots node (λ s. content_of_life s.life number ≡ Gone) (ended (slot own node)) refl refl

later : (born number : ℕ) → number < born → nat_eq born number ≡ false
later born number h = grind (arith, common_steps)

made_gone : (own : Own) (number : ℕ) (s : Slot) → number < own.born → content_of_life (made own.born s).life number ≡ Gone
made_gone own number s h = rw (later own.born number h) refl

by_place : (own : Own) (node k number : ℕ) (same : Bool) → nat_eq node k ≡ same → number < own.born → content own (objects.Declared k number) ≡ Gone
    → content (declare node own) (objects.Declared k number) ≡ Gone
by_place own node k number true e h gone =
    let at : node ≡ k = grind (arith, common_steps) in
    subst (λ (j : ℕ). content_of_life (slice_index_or (slice_set own.slots node (made own.born (slot own node))) j no_slot).life number ≡ Gone) at
    (slot_changed own.slots node (λ s. content_of_life s.life number ≡ Gone) (made own.born (slot own node)) (made_gone own number (slot own node) h) refl)
by_place own node k number false e h gone =
    let ne : node ≢ k = grind (arith, common_steps) in
    ap (λ (s : Slot). content_of_life s.life number) (slot_other own.slots node k (made own.born (slot own node)) ne) ∙ gone

pub stays_gone : StaysGone
stays_gone own node (objects.Declared k number) h gone = by_place own node k number (nat_eq node k) refl h gone
stays_gone own node (objects.Chunk number) h gone = gone
stays_gone own node (objects.Cell vector index number) h gone = refl

-- ---- writes

keeps : (s : State) (node number at : ℕ) (new : List ℕ) (other : Object) →
    KeepsOthers s (objects.Declared node number) other (record s { own = written_in node at new s.own })
keeps s node number at new (objects.Declared k m) ne =
    ap (λ (x : Slot). content_of_life x.life m) (slot_other s.own.slots node k (put_in_slot at new (slot s.own node)) (λ e. ne (ap Some e)))
keeps s node number at new (objects.Chunk m) ne = refl
keeps s node number at new (objects.Cell vector index m) ne = refl

keeps_at : (s : State) (object other : Object) (at : ℕ) (new : List ℕ) → KeepsOthers s object other (written s object at new)
keeps_at s (objects.Declared node number) other at new = keeps s node number at new other
keeps_at s (objects.Chunk number) other at new = λ ne. refl
keeps_at s (objects.Cell vector index number) other at new = λ ne. refl

done_if : (r : Option Reason) (done : State) (P : State → Type 0) → P done → IfOk (unless r done) P
done_if None done P h = h
done_if (Some reason) done P h = tt

pub writes_stay_inside : WritesStayInside
writes_stay_inside s p room size align word other =
    done_if (first_against (write_tests s p room size align)) (written s p.object p.offset (bytes_of_word size word)) (λ t. KeepsOthers s p.object other t)
    (keeps_at s p.object other p.offset (bytes_of_word size word))
