-- What the definitions come to: an object is touched through its own name alone, and one that is gone stays so.
use Rattle.std.specs.Prelude.{◌≡◌, ◌≢◌, ℕ, codes, ◌+◌, ◌<◌, ◌≤◌, List, [], ◌∷◌, length, map, AllPairs, Option, Some, None, IfOk, ◌⊎◌}
use Rattle.vg_core.specs.Library.{row_named}
use Rattle.vg_cmemory.specs.FrameCalls.{row_of}
use Rattle.vg_cmemory.specs.declared.frame_calls.FrameCall.TheVariants as calls
use Rattle.vg_cmemory.specs.declared.object.Object.{Object}
use Rattle.vg_cmemory.specs.declared.object.Object.TheVariants as objects
use Rattle.vg_cmemory.specs.declared.object.Pointer.{Pointer}
use Rattle.vg_cmemory.specs.declared.object.Room.{Room}
use Rattle.vg_cmemory.specs.declared.object.Chunk.{Chunk}
use Rattle.vg_cmemory.specs.State.{Own, State, start, declare, end_life, take_back_all}
use Rattle.vg_cmemory.specs.Loans.{with_loan, without_loan}
use Rattle.vg_cmemory.specs.Cells.{with_name}
use Rattle.vg_cmemory.specs.Access.{Gone, content, bytes_of, bytes_of_word, set, store, put, part}

-- ---- writes

abbrev pub node_of : Object → Option ℕ
node_of (objects.Declared node number) = Some node
node_of (objects.Chunk number) = None
node_of (objects.Cell vector index number) = None

-- a write to the object of one declaration leaves what all others are, and a write to a chunk leaves all
abbrev pub KeepsOthers : State → Object → Object → State → Type 0
KeepsOthers s written other t = node_of written ≢ node_of other → content t.own other ≡ content s.own other

abbrev pub WritesStayInside : Type 0
WritesStayInside = (s : State) (p : Pointer) (room : Option Room) (size align word : ℕ) (other : Object) →
    IfOk (store s p room size align word) (λ t. KeepsOthers s p.object other t)

-- a write to a part of the frame, seen from another part of it
abbrev pub FrameWritesStayInside : Type 0
FrameWritesStayInside = (frame new : List ℕ) (at from size : ℕ) → (at + length new ≤ from) ⊎ (from + size ≤ at) →
    part (put frame at new) from size ≡ part frame from size

-- what was written stands in the object, be it of a declaration or a chunk, and nothing else of it changes
abbrev pub bytes_in : State → Object → List (Option ℕ)
bytes_in s object = bytes_of s.frame (content s.own object)

abbrev pub WritesAreSeen : Type 0
WritesAreSeen = (s : State) (p : Pointer) (room : Option Room) (size align word : ℕ) →
    IfOk (store s p room size align word) (λ t. bytes_in t p.object ≡ put (bytes_in s p.object) p.offset (map set (bytes_of_word size word)))

-- ---- loans

-- the chunks that are lent lie one behind the other, and together they are what is lent of the frame
abbrev pub AreStacked : (from : ℕ) → List Chunk → (to : ℕ) → Type 0
AreStacked from [] to = from ≡ to
AreStacked from (chunk ∷ chunks) to = (chunk.from ≡ from) × AreStacked (from + chunk.size) chunks to

abbrev pub IsStacked : Own → Type 0
IsStacked own = AreStacked 0 own.chunks own.lent

-- so it is at first, and stays so
abbrev pub StartsStacked : Type 0
StartsStacked = (sizes : List ℕ) → IsStacked (start sizes)

abbrev pub StaysStacked : Type 0
StaysStacked = (own : Own) (count : ℕ) → IsStacked own → IsStacked (with_loan own count) × (0 < length own.chunks → IsStacked (without_loan own))
    × IsStacked (take_back_all own)

-- and so no two chunks have a byte in common
abbrev pub ChunksAreApart : Type 0
ChunksAreApart = (own : Own) → IsStacked own → AllPairs (λ one other. one.from + one.size ≤ other.from) own.chunks

-- so a write to one object is seen in no other, be they of declarations or chunks
abbrev pub WritesAreSeenThereAlone : Type 0
WritesAreSeenThereAlone = (s : State) (p : Pointer) (room : Option Room) (size align word : ℕ) (other : Object) → IsStacked s.own → p.object ≢ other →
    IfOk (store s p room size align word) (λ t. bytes_in t other ≡ bytes_in s other)

-- ---- lives

abbrev pub number_of_name : Object → ℕ
number_of_name (objects.Declared node number) = number
number_of_name (objects.Chunk number) = number
number_of_name (objects.Cell vector index number) = number

-- a new object is never taken for one that is gone, as long as the numbers last
abbrev pub StaysGone : Type 0
StaysGone = (own : Own) (node : ℕ) (object : Object) → number_of_name object < own.born → content own object ≡ Gone → content (declare node own) object ≡ Gone

abbrev pub StaysGoneAtLoans : Type 0
StaysGoneAtLoans = (own : Own) (count : ℕ) (object : Object) → number_of_name object < own.born → content own object ≡ Gone
    → content (with_loan own count) object ≡ Gone

abbrev pub EndsLife : Type 0
EndsLife = (own : Own) (node number : ℕ) → content (end_life node own) (objects.Declared node number) ≡ Gone

-- ---- cells

-- a cell that the library lends is no object of this memory, whatever happens here; what its bytes are is said beside
abbrev pub CellsAreElsewhere : Type 0
CellsAreElsewhere = (own : Own) (vector index number : ℕ) → content own (objects.Cell vector index number) ≡ Gone

-- what a name for it leaves: all that was there, and the steps
abbrev pub NamesChangeNothing : Type 0
NamesChangeNothing = (own : Own) (object : Object) → (content (with_name own) object ≡ content own object) × ((with_name own).steps ≡ own.steps)

-- ---- the library's table

abbrev pub RowsAreNamed : Type 0
RowsAreNamed =
    (row_named (codes "packet_length") ≡ Some (row_of calls.Length))
    × (row_named (codes "packet_borrow") ≡ Some (row_of calls.Borrow))
    × (row_named (codes "packet_return") ≡ Some (row_of calls.Return))
