-- Cells of the library's vectors that are lent. Such a cell is an object whose bytes are the library's: memory gives it a name, and what its bytes are
-- is given from beside.
use Rattle.std.specs.Prelude.{ℕ, List, length, map, Option, Some, None, Result, Ok, Err, if◌then◌else◌}
use Rattle.vg_core.specs.declared.reason.Reason.{Reason}
use Rattle.vg_core.specs.declared.reason.Reason.TheVariants as reasons
use Rattle.vg_cmemory.specs.declared.object.Object.{Object}
use Rattle.vg_cmemory.specs.declared.object.Object.TheVariants as objects
use Rattle.vg_cmemory.specs.declared.object.Pointer.{Pointer}
use Rattle.vg_cmemory.specs.declared.object.Room.{Room}
use Rattle.vg_cint.specs.Tests.{Test, tested}
use Rattle.vg_cmemory.specs.State.{Own, State, next_number}
use Rattle.vg_cmemory.specs.Access.{Content, Bytes, Gone, content, bytes_of, set, or_zero, part, all_set, read_tests, access_tests, load_from}

-- ---- names

-- the number of the next object
abbrev pub next_name : Own → ℕ
next_name own = own.born

-- an object elsewhere has that number
abbrev pub with_name : Own → Own
with_name own = record own { born = next_number own.born }

-- ---- what a cell is: its bytes, all of them set, while it is lent; else gone

abbrev pub octets : Option (List ℕ) → Content
octets None = Gone
octets (Some bytes) = Bytes (map set bytes)

-- what an object is, where a cell has these bytes
abbrev pub content_with : Option (List ℕ) → Own → Object → Content
content_with cell own (objects.Declared node number) = content own (objects.Declared node number)
content_with cell own (objects.Chunk number) = content own (objects.Chunk number)
content_with cell own (objects.Cell vector index number) = octets cell

-- ---- reads and writes of any object

abbrev pub load_with : Option (List ℕ) → State → Pointer → Option Room → (size align : ℕ) → Result ℕ Reason
load_with cell s p room size align =
    load_from (content_with cell s.own p.object) (bytes_of s.frame (content_with cell s.own p.object)) room p.offset size align

-- what is asked of a write, which can be told before it is done
abbrev pub write_tests_with : Option (List ℕ) → State → Pointer → Option Room → (size align : ℕ) → List Test
write_tests_with cell s p room size align =
    access_tests (content_with cell s.own p.object) (length (bytes_of s.frame (content_with cell s.own p.object))) room p.offset size align

-- some bytes, where all are set
abbrev pub all_of : List (Option ℕ) → Result (List ℕ) Reason
all_of bytes = if all_set bytes then Ok (map or_zero bytes) else Err reasons.Unset

-- so many bytes behind a pointer, at any alignment, where all are set
abbrev pub bytes_from : Content → List (Option ℕ) → (offset count : ℕ) → Result (List ℕ) Reason
bytes_from content bytes offset count = tested (read_tests content bytes None offset count 1) (map or_zero (part bytes offset count))

abbrev pub bytes_with : Option (List ℕ) → State → Pointer → (count : ℕ) → Result (List ℕ) Reason
bytes_with cell s p count =
    bytes_from (content_with cell s.own p.object) (bytes_of s.frame (content_with cell s.own p.object)) p.offset count

-- the same in this memory, where no cell is
abbrev pub bytes_of_state : State → Pointer → (count : ℕ) → Result (List ℕ) Reason
bytes_of_state s p count = bytes_from (content s.own p.object) (bytes_of s.frame (content s.own p.object)) p.offset count
