-- Reads and writes of objects: what is asked of an access, and the bytes and the word in them.
use Rattle.std.specs.Prelude.{ℕ, zero, suc, ◌+◌, ◌-◌, ◌*◌, ◌/◌, ◌%◌, ◌^◌, nat_le, nat_eq, Bool, true, false, ◌&&◌, List, [], ◌∷◌, ◌++◌, length, map}
use Rattle.std.specs.Prelude.{take, drop, slice_set, Option, Some, None, Result, Ok, Err, if◌then◌else◌}
use Rattle.vg_core.specs.declared.reason.Reason.{Reason}
use Rattle.vg_core.specs.declared.reason.Reason.TheVariants as reasons
use Rattle.vg_cmemory.specs.declared.object.Object.{Object}
use Rattle.vg_cmemory.specs.declared.object.Object.TheVariants as objects
use Rattle.vg_cmemory.specs.declared.object.Pointer.{Pointer}
use Rattle.vg_cmemory.specs.declared.object.Chunk.{Chunk}
use Rattle.vg_cmemory.specs.declared.object.Room.{Room}
use Rattle.vg_cmemory.specs.State.{Life, Slot, Own, State, slot, with_slot}
use Rattle.vg_cint.specs.Tests.{Test, test, tested}

-- ---- what an object is: a list of bytes, set or unset; a chunk of the frame, whose bytes are the frame's; or gone

pub data Content : Type 0 where
  Bytes : List (Option ℕ) → Content
  Lent : (from size : ℕ) → Content
  Gone : Content

abbrev pub content_of_life : Option Life → ℕ → Content
content_of_life None number = Gone
content_of_life (Some life) number = if nat_eq life.number number then Bytes life.bytes else Gone

abbrev pub content_of_option : Option Chunk → Content
content_of_option None = Gone
content_of_option (Some chunk) = Lent chunk.from chunk.size

abbrev pub content_of_chunk : List Chunk → ℕ → Content
content_of_chunk [] number = Gone
content_of_chunk (chunk ∷ chunks) number = if nat_eq chunk.number number then Lent chunk.from chunk.size else content_of_chunk chunks number

abbrev pub content : Own → Object → Content
content own (objects.Declared node number) = content_of_life (slot own node).life number
content own (objects.Chunk number) = content_of_chunk own.chunks number
-- the bytes of a cell are the library's, and not in this memory
content own (objects.Cell vector index number) = Gone

abbrev pub lives : Content → Bool
lives Gone = false
lives content = true

abbrev pub set : ℕ → Option ℕ
set byte = Some byte

abbrev pub bytes_of : (frame : List ℕ) → Content → List (Option ℕ)
bytes_of frame (Bytes bytes) = bytes
bytes_of frame (Lent from size) = map set (take size (drop from frame))
bytes_of frame Gone = []

-- ---- what is asked of an access

-- an element of an array that an lvalue's path names lies in that array. Offsets are words of 64 bits
abbrev pub lies_in : Option Room → (offset size : ℕ) → Bool
lies_in None offset size = true
lies_in (Some room) offset size = nat_le ((offset + (2 ^ 64 - room.from)) % 2 ^ 64 + size) room.size

abbrev pub place_tests : (bytes : ℕ) → Option Room → (offset size align : ℕ) → List Test
place_tests bytes room offset size align =
    test reasons.OutOfObject (nat_le (offset + size) bytes)
    ∷ test reasons.OutOfObject (lies_in room offset size)
    ∷ test reasons.Misaligned (nat_eq (offset % align) 0)
    ∷ []

abbrev pub access_tests : Content → (bytes : ℕ) → Option Room → (offset size align : ℕ) → List Test
access_tests content bytes room offset size align = test reasons.Dead (lives content) ∷ place_tests bytes room offset size align

abbrev pub part : {A : Type 0} → List A → (from size : ℕ) → List A
part bytes from size = take size (drop from bytes)

abbrev pub all_set : List (Option ℕ) → Bool
all_set [] = true
all_set (None ∷ bytes) = false
all_set (Some byte ∷ bytes) = all_set bytes

abbrev pub read_tests : Content → List (Option ℕ) → Option Room → (offset size align : ℕ) → List Test
read_tests content bytes room offset size align =
    access_tests content (length bytes) room offset size align ++ test reasons.Unset (all_set (part bytes offset size)) ∷ []

-- whether a pointer stands just past the end of an object that lives (6.5.6 p8)
abbrev pub ends_at : State → Pointer → Bool
ends_at s p = lives (content s.own p.object) && nat_eq p.offset (length (bytes_of s.frame (content s.own p.object)))

-- ---- words: the machine is little-endian, so the byte at the lowest place is the lowest

abbrev pub or_zero : Option ℕ → ℕ
or_zero None = 0
or_zero (Some byte) = byte

abbrev pub word_of : List (Option ℕ) → ℕ
word_of [] = 0
word_of (byte ∷ bytes) = or_zero byte + 256 * word_of bytes

-- the word where all are set
abbrev pub set_word : List (Option ℕ) → Option ℕ
set_word bytes = if all_set bytes then Some (word_of bytes) else None

abbrev pub bytes_of_word : (size word : ℕ) → List ℕ
bytes_of_word zero word = []
bytes_of_word (suc size) word = word % 256 ∷ bytes_of_word size (word / 256)

-- ---- a read of an integer of so many bytes

abbrev pub load_from : Content → List (Option ℕ) → Option Room → (offset size align : ℕ) → Result ℕ Reason
load_from content bytes room offset size align =
    tested (read_tests content bytes room offset size align) (word_of (part bytes offset size))

abbrev pub load : State → Pointer → Option Room → (size align : ℕ) → Result ℕ Reason
load s p room size align = load_from (content s.own p.object) (bytes_of s.frame (content s.own p.object)) room p.offset size align

-- ---- a write of an integer of so many bytes

-- each of some bytes in its place, from one on
abbrev pub put : {A : Type 0} → List A → ℕ → List A → List A
put bytes at [] = bytes
put bytes at (byte ∷ more) = put (slice_set bytes at byte) (at + 1) more

abbrev pub put_in_life : ℕ → List ℕ → Option Life → Option Life
put_in_life at new None = None
put_in_life at new (Some life) = Some (record life { bytes = put life.bytes at (map set new) })

abbrev pub put_in_slot : ℕ → List ℕ → Slot → Slot
put_in_slot at new slot = record slot { life = put_in_life at new slot.life }

abbrev pub start_in_frame : Content → ℕ
start_in_frame (Lent from size) = from
start_in_frame content = 0

abbrev pub written_in : ℕ → ℕ → List ℕ → Own → Own
written_in node at new own = with_slot own node (put_in_slot at new (slot own node))

abbrev pub write_tests : State → Pointer → Option Room → (size align : ℕ) → List Test
write_tests s p room size align = access_tests (content s.own p.object) (length (bytes_of s.frame (content s.own p.object))) room p.offset size align

-- the bytes of a declaration's object are its own, those of a chunk are the frame's
abbrev pub written : State → Object → (at : ℕ) → List ℕ → State
written s (objects.Declared node number) at new = record s { own = written_in node at new s.own }
written s (objects.Chunk number) at new = record s { frame = put s.frame (start_in_frame (content_of_chunk s.own.chunks number) + at) new }
written s (objects.Cell vector index number) at new = s

abbrev pub store : State → Pointer → Option Room → (size align word : ℕ) → Result State Reason
store s p room size align word = tested (write_tests s p room size align) (written s p.object p.offset (bytes_of_word size word))

-- what a call left, where it answered that it did it
abbrev pub leaves : {A : Type 0} → {S : Type 0} → Result A Reason → S → Result S Reason
leaves (Ok done) s = Ok s
leaves (Err reason) s = Err reason
