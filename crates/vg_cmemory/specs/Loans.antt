-- Chunks of the frame, borrowed from its start on and given back the last first.
use Rattle.std.specs.Prelude.{ℕ, ◌+◌, ◌-◌, nat_lt, nat_le, nat_eq, Bool, false, ◌&&◌, List, [], ◌∷◌, ◌++◌, length, take, slice_get, Option, Some, None, Result}
use Rattle.vg_core.specs.declared.reason.Reason.{Reason}
use Rattle.vg_core.specs.declared.reason.Reason.TheVariants as reasons
use Rattle.vg_cmemory.specs.declared.frame_calls.FrameCall.TheVariants as calls
use Rattle.vg_cmemory.specs.declared.object.Object.{Object}
use Rattle.vg_cmemory.specs.declared.object.Object.TheVariants as objects
use Rattle.vg_cmemory.specs.declared.object.Pointer.{Pointer}
use Rattle.vg_cmemory.specs.declared.object.Chunk.{Chunk}
use Rattle.vg_cint.specs.Tests.{Test, test, tested}
use Rattle.vg_cmemory.specs.State.{Own, next_number}
use Rattle.vg_cmemory.specs.FrameCalls.{row_of}

-- the chunk of the next bytes of the frame
abbrev pub next_chunk : Own → ℕ → Chunk
next_chunk own count = record { number = own.born; from = own.lent; size = count }

abbrev pub with_loan : Own → ℕ → Own
with_loan own count = record own { chunks = own.chunks ++ next_chunk own count ∷ []; lent = own.lent + count; born = next_number own.born }

abbrev pub is_chunk : Object → ℕ → Bool
is_chunk (objects.Declared node number) m = false
is_chunk (objects.Chunk number) m = nat_eq number m
is_chunk (objects.Cell vector index number) m = false

-- whether a pointer is the start of a chunk
abbrev pub is_start : Pointer → Option Chunk → Bool
is_start p None = false
is_start p (Some chunk) = is_chunk p.object chunk.number && nat_eq p.offset 0

abbrev pub last_chunk : Own → Option Chunk
last_chunk own = slice_get own.chunks (length own.chunks - 1)

abbrev pub start_of_chunk : Option Chunk → ℕ
start_of_chunk None = 0
start_of_chunk (Some chunk) = chunk.from

-- the frame is lent up to the start of the chunk that was lent last, which isn't lent any more
abbrev pub without_loan : Own → Own
without_loan own = record own { chunks = take (length own.chunks - 1) own.chunks; lent = start_of_chunk (last_chunk own) }

-- at least one byte, no more than are left of the frame, and fewer than 16 chunks lent
abbrev pub borrow_tests : Own → (frame_length count : ℕ) → List Test
borrow_tests own frame_length count =
    test (reasons.Before (row_of calls.Borrow)) (nat_lt 0 count)
    ∷ test (reasons.Before (row_of calls.Borrow)) (nat_le (own.lent + count) frame_length)
    ∷ test (reasons.Before (row_of calls.Borrow)) (nat_lt (length own.chunks) 16)
    ∷ []

-- `packet_borrow`
abbrev pub borrow : Own → (frame_length count : ℕ) → Result Own Reason
borrow own frame_length count = tested (borrow_tests own frame_length count) (with_loan own count)

abbrev pub start_of_loan : Own → Pointer
start_of_loan own = record { object = objects.Chunk own.born; offset = 0 }

abbrev pub return_tests : Own → Pointer → List Test
return_tests own p = test (reasons.Before (row_of calls.Return)) (is_start p (last_chunk own)) ∷ []

-- `packet_return`
abbrev pub give_back : Own → Pointer → Result Own Reason
give_back own p = tested (return_tests own p) (without_loan own)
