-- What contracts see of what a run works on. The meaning of the C doesn't speak of it.
use Rattle.std.specs.Prelude.{◌≡◌, ◌<◌, ◌^◌, length}
use Rattle.vg_cmemory.specs.State.{State, sizes}
use Rattle.vg_cmean.specs.declared.world.World.{World}
use Rattle.vg_cmean.specs.Outcomes.{full}

abbrev pub seen : World → State
seen world = full world.memory.now world.frame.now

-- numbers of 32 bits count the frame's bytes
abbrev pub IsShort : World → Type 0
IsShort world = length world.frame.now < 2 ^ 32

-- it is the same memory and the same frame, of the same sizes, and the same room for arguments
abbrev pub IsSame : (old new : World) → Type 0
IsSame old new =
    (new.memory.ghost_name ≡ old.memory.ghost_name)
    × (new.frame.ghost_name ≡ old.frame.ghost_name)
    × (new.waiting.ghost_name ≡ old.waiting.ghost_name)
    × (sizes new.memory.now ≡ sizes old.memory.now)
    × (length new.frame.now ≡ length old.frame.now)
