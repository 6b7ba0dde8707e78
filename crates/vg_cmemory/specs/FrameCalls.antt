-- The library's calls for the frame, and their rows in the library's table.
use Rattle.std.specs.Prelude.{ℕ, nat_eq, Option, Some, None, if◌then◌else◌}
use Rattle.vg_cmemory.specs.declared.frame_calls.FrameCall.{FrameCall}
use Rattle.vg_cmemory.specs.declared.frame_calls.FrameCall.TheVariants as calls

-- the number of a call's row
abbrev pub row_of : FrameCall → ℕ
row_of calls.Length = 1
row_of calls.Borrow = 2
row_of calls.Return = 3

-- the call whose row has a number. The rows behind these need objects of the library
abbrev pub call_in_row : ℕ → Option FrameCall
call_in_row row =
    if nat_eq row (row_of calls.Length) then Some calls.Length
    else if nat_eq row (row_of calls.Borrow) then Some calls.Borrow
    else if nat_eq row (row_of calls.Return) then Some calls.Return
    else None
