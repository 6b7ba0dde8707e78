-- Writes to objects that aren't cells.
use Rattle.std.proofs.Common.{◌≡◌, ◌∙◌, ap, refl, ℕ, Bool, true, false, Option, Some, None, Result, Ok, Err}
use Rattle.vg_core.specs.declared.reason.Reason.{Reason}
use Rattle.vg_cint.specs.Tests.{first_against, unless}
use Rattle.vg_cmemory.specs.declared.object.Object.{Object}
use Rattle.vg_cmemory.specs.declared.object.Object.TheVariants as objects
use Rattle.vg_cmemory.specs.declared.object.Pointer.{Pointer}
use Rattle.vg_cmemory.specs.declared.object.Room.{Room}
use Rattle.vg_cmemory.specs.State as memory
use Rattle.vg_cmemory.specs.Access as accesses
use Rattle.vg_cmemory.specs.Access.{leaves, bytes_of_word}
use Rattle.vg_abs.specs.Library.{Library}
use Rattle.vg_crows.specs.Record.{Record}
use Rattle.vg_crows.specs.State.{State}
use Rattle.vg_crows.specs.Access.{store}
use Rattle.vg_crows.specs.Views.{beside}

abbrev carried : Library → Record → Result memory.State Reason → Result State Reason
carried l book (Ok own) = Ok (beside own l book)
carried l book (Err reason) = Err reason

carries_left : {A : Type 0} (l : Library) (book : Record) (r : Result A Reason) (t : memory.State) → leaves r (beside t l book) ≡ carried l book (leaves r t)
carries_left l book (Ok done) t = refl
carries_left l book (Err reason) t = refl

carries_unless : (l : Library) (book : Record) (o : Option Reason) (x : memory.State) → carried l book (unless o x) ≡ unless o (beside x l book)
carries_unless l book None x = refl
carries_unless l book (Some reason) x = refl

abbrev pub is_cell : Object → Bool
is_cell (objects.Cell vector index number) = true
is_cell (objects.Declared node number) = false
is_cell (objects.Chunk number) = false

stored_in : {A : Type 0} (l : Library) (book : Record) (own t : memory.State) (r : Result A Reason) (o : Object) (offset : ℕ) (room : Option Room)
    (size align word : ℕ) →
    is_cell o ≡ false → leaves r t ≡ accesses.store own (record { object = o; offset = offset }) room size align word →
    leaves r (beside t l book) ≡ store (beside own l book) (record { object = o; offset = offset }) room size align word
stored_in l book own t r (objects.Cell vector index number) offset room size align word other e = cc
stored_in l book own t r (objects.Declared node number) offset room size align word other e =
    carries_left l book r t ∙ ap (carried l book) e
    ∙ carries_unless l book (first_against (accesses.write_tests own (record { object = objects.Declared node number; offset = offset }) room size align))
    (accesses.written own (objects.Declared node number) offset (bytes_of_word size word))
stored_in l book own t r (objects.Chunk number) offset room size align word other e =
    carries_left l book r t ∙ ap (carried l book) e
    ∙ carries_unless l book (first_against (accesses.write_tests own (record { object = objects.Chunk number; offset = offset }) room size align))
    (accesses.written own (objects.Chunk number) offset (bytes_of_word size word))

pub stored_elsewhere : {A : Type 0} (l : Library) (book : Record) (own t : memory.State) (r : Result A Reason) (p : Pointer) (room : Option Room)
    (size align word : ℕ) →
    is_cell p.object ≡ false → leaves r t ≡ accesses.store own p room size align word →
    leaves r (beside t l book) ≡ store (beside own l book) p room size align word
stored_elsewhere l book own t r p room size align word other e = stored_in l book own t r p.object p.offset room size align word other e
