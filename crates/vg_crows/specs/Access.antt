-- Reads and writes of any object of a run, cells of the library among them.
use Rattle.std.specs.Prelude.{ℕ, ◌+◌, ◌-◌, List, length, take, drop, ◌++◌, Option, None, Result, unwrap_or, [], if◌then◌else◌}
use Rattle.std.specs.FinMap.{get}
use Rattle.vg_core.specs.declared.reason.Reason.{Reason}
use Rattle.vg_cint.specs.Tests.{Test, tested}
use Rattle.vg_cmemory.specs.declared.object.Object.{Object}
use Rattle.vg_cmemory.specs.declared.object.Object.TheVariants as objects
use Rattle.vg_cmemory.specs.declared.object.Pointer.{Pointer}
use Rattle.vg_cmemory.specs.declared.object.Room.{Room}
use Rattle.vg_cmemory.specs.Access as memory
use Rattle.vg_cmemory.specs.Access.{bytes_of_word}
use Rattle.vg_cmemory.specs.Cells.{load_with, write_tests_with, bytes_with}
use Rattle.vg_abs.specs.State.{vector_of}
use Rattle.vg_abs.specs.Effects.{with_bytes}
use Rattle.vg_crows.specs.Record.{marked, is_lent_as}
use Rattle.vg_crows.specs.State.{State}

-- the bytes of a cell, by its vector and its index
abbrev pub cell_at : State → (vector index : ℕ) → Option (List ℕ)
cell_at s vector index = get (vector_of s.library vector).cells index

-- those of an object that is a cell, as long as it is lent
abbrev pub octets_of : State → Object → Option (List ℕ)
octets_of s (objects.Declared node number) = None
octets_of s (objects.Chunk number) = None
octets_of s (objects.Cell vector index number) = if is_lent_as s.book vector index number then cell_at s vector index else None

abbrev pub load : State → Pointer → Option Room → (size align : ℕ) → Result ℕ Reason
load s p room size align = load_with (octets_of s p.object) s.memory p room size align

-- so many bytes behind a pointer, all of them set
abbrev pub bytes_behind : State → Pointer → (count : ℕ) → Result (List ℕ) Reason
bytes_behind s p count = bytes_with (octets_of s p.object) s.memory p count

abbrev pub write_tests : State → Pointer → Option Room → (size align : ℕ) → List Test
write_tests s p room size align = write_tests_with (octets_of s p.object) s.memory p room size align

-- some bytes over those of a cell, from one on
abbrev pub over : List ℕ → (at : ℕ) → List ℕ → List ℕ
over cell at new = take at cell ++ new ++ drop (at + length new) cell

-- a write to a cell changes the library, and its link where it is one of keys: the map of that stands two objects before
abbrev pub written : State → Object → (at : ℕ) → List ℕ → State
written s (objects.Declared node number) at new = record s { memory = memory.written s.memory (objects.Declared node number) at new }
written s (objects.Chunk number) at new = record s { memory = memory.written s.memory (objects.Chunk number) at new }
written s (objects.Cell vector index number) at new = record s {
  library = with_bytes s.library vector index (over (unwrap_or (cell_at s vector index) []) at new);
  book = marked s.book (vector - 2);
}

abbrev pub stored : State → Pointer → (size word : ℕ) → State
stored s p size word = written s p.object p.offset (bytes_of_word size word)

abbrev pub store : State → Pointer → Option Room → (size align word : ℕ) → Result State Reason
store s p room size align word = tested (write_tests s p room size align) (stored s p size word)
