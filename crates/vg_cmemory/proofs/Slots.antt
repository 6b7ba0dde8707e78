-- One slot of a memory changed, and all of them at rest.
use Rattle.std.proofs.Common.{◌≡◌, ◌≢◌, ℕ, zero, suc, ◌+◌, ◌<◌, ◌≤◌, nat_eq, false, List, [], ◌∷◌, ◌++◌, All, length, slice_set, slice_index_or, None}
use Rattle.std.proofs.Common.{refl, ap, ◌∙◌, arith}
use Rattle.std.proofs.lemmas.Grind.{common_steps}
use Rattle.vg_cmemory.specs.declared.local.Local.{Local}
use Rattle.vg_cmemory.specs.declared.object.Pointer.{Pointer}
use Rattle.vg_cmemory.specs.State.{Slot, Own, no_slot, made, ended, held, with_node, declare, end_life, hold, sizes, sizes_of, at_rest}
use Rattle.vg_cmemory.specs.Access.{put_in_slot, written_in}
use Rattle.vg_cmemory.specs.Kept.{slot_of, slots_of}

pub changed : (run : ℕ) (locals : List Local) (node : ℕ) (old new : Local) (g : Slot → Slot) → node < length locals → old ≡ slice_index_or locals node old →
    slot_of run new ≡ g (slot_of run old) → slots_of run (slice_set locals node new) ≡ slice_set (slots_of run locals) node
    (g (slice_index_or (slots_of run locals) node no_slot))
changed run [] node old new g h is e = absurd (omega arith)
changed run (l ∷ ls) zero old new g h is e = ap (λ (s : Slot). s ∷ slots_of run ls) (e ∙ ap (λ (x : Local). g (slot_of run x)) is)
changed run (l ∷ ls) (suc node) old new g h is e = ap (λ (ss : List Slot). slot_of run l ∷ ss) (changed run ls node old new g (omega arith) is e)

sizes_kept : (slots : List Slot) (node : ℕ) (g : Slot → Slot) → ((s : Slot) → (g s).size ≡ s.size)
    → sizes_of (slice_set slots node (g (slice_index_or slots node no_slot))) ≡ sizes_of slots
sizes_kept [] node g h = refl
sizes_kept (s ∷ ss) zero g h = ap (λ (n : ℕ). n ∷ sizes_of ss) (h s)
sizes_kept (s ∷ ss) (suc node) g h = ap (λ (ns : List ℕ). s.size ∷ ns) (sizes_kept ss node g h)

pub sizes_declare : (node : ℕ) (own : Own) → sizes (declare node own) ≡ sizes own
unfolding sizes
sizes_declare node own = sizes_kept own.slots node (made own.born) (λ s. refl)

pub sizes_end_life : (node : ℕ) (own : Own) → sizes (end_life node own) ≡ sizes own
unfolding sizes
sizes_end_life node own = sizes_kept own.slots node ended (λ s. refl)

pub sizes_hold : (node : ℕ) (p : Pointer) (own : Own) → sizes (hold node p own) ≡ sizes own
unfolding sizes
sizes_hold node p own = sizes_kept own.slots node (held p) (λ s. refl)

pub sizes_write : (node at : ℕ) (new : List ℕ) (own : Own) → sizes (written_in node at new own) ≡ sizes own
unfolding sizes
sizes_write node at new own = sizes_kept own.slots node (put_in_slot at new) (λ s. refl)

pub sizes_at_rest : (sizes : List ℕ) → sizes_of (at_rest sizes) ≡ sizes
sizes_at_rest [] = refl
sizes_at_rest (n ∷ ns) = ap (λ (ms : List ℕ). n ∷ ms) (sizes_at_rest ns)

not_equal : (m n : ℕ) → m ≢ n → nat_eq m n ≡ false
not_equal m n h = grind (arith, common_steps)

rested : (run now : ℕ) (l : Local) → l.run ≢ now → slot_of now l ≡ ended (slot_of run l)
rested run now l h = rw (not_equal l.run now h) refl

-- a run of a higher number than all before finds nothing that lives
pub all_rested : (run now : ℕ) (locals : List Local) → run < now → All (λ (l : Local). l.run ≤ run) locals
    → slots_of now locals ≡ at_rest (sizes_of (slots_of run locals))
all_rested run now [] less h = refl
all_rested run now (l ∷ ls) less h =
    let first : l.run ≤ run = h zero l (omega arith) in
    ap (λ (s : Slot). s ∷ slots_of now ls) (rested run now l (λ e. omega arith))
    ∙ ap (λ (ss : List Slot). ended (slot_of run l) ∷ ss) (all_rested run now ls less (λ k d b. h (suc k) d (omega arith)))

pub past_more : (run now : ℕ) (locals : List Local) → run ≤ now → All (λ (l : Local). l.run ≤ run) locals → All (λ (l : Local). l.run ≤ now) locals
past_more run now locals less h = λ k d b. let one = h k d b in omega arith

pub resting_kept : (run : ℕ) (locals : List Local) (node : ℕ) (old new : Local) → old ≡ slice_index_or locals node old →
    length new.bytes.items ≡ length old.bytes.items → sizes_of (slots_of run (slice_set locals node new)) ≡ sizes_of (slots_of run locals)
resting_kept run [] node old new is e = refl
resting_kept run (l ∷ ls) zero old new is e =
    ap (λ (n : ℕ). n ∷ sizes_of (slots_of run ls)) (e ∙ ap (λ (x : Local). length x.bytes.items) is)
resting_kept run (l ∷ ls) (suc node) old new is e = ap (λ (ns : List ℕ). length l.bytes.items ∷ ns) (resting_kept run ls node old new is e)

pub rest_is_one : (run now : ℕ) (locals : List Local) → sizes_of (slots_of run locals) ≡ sizes_of (slots_of now locals)
rest_is_one run now [] = refl
rest_is_one run now (l ∷ ls) = ap (λ (ns : List ℕ). length l.bytes.items ∷ ns) (rest_is_one run now ls)

pub forgotten_more : (locals : List Local) (k : ℕ) (new : Local) → k < length locals → new.run ≡ 0
    → ((j : ℕ) (d : Local) → j < k → (slice_index_or locals j d).run ≤ 0) →
    (j : ℕ) (d : Local) → j < k + 1 → (slice_index_or (slice_set locals k new) j d).run ≤ 0
forgotten_more [] k new within e h j d b = absurd (omega arith)
forgotten_more (l ∷ ls) zero new within e h zero d b = omega arith
forgotten_more (l ∷ ls) zero new within e h (suc j) d b = absurd (omega arith)
forgotten_more (l ∷ ls) (suc k) new within e h zero d b = h zero d (omega arith)
forgotten_more (l ∷ ls) (suc k) new within e h (suc j) d b = forgotten_more ls k new (omega arith) e (λ i f g. h (suc i) f (omega arith)) j d (omega arith)

more : (slots : List Slot) (slot : Slot) → sizes_of (slots ++ slot ∷ []) ≡ sizes_of slots ++ slot.size ∷ []
more [] slot = refl
more (s ∷ ss) slot = ap (λ (ns : List ℕ). s.size ∷ ns) (more ss slot)

pub sizes_more : (size : ℕ) (own : Own) → sizes (with_node size own) ≡ sizes own ++ size ∷ []
unfolding sizes
sizes_more size own = more own.slots (record { size = size; life = None })
