-- Ids as places in a list of handles, each with a file of the system, which tells no name. No clause of the traits rests on this file.
use Rattle.std.specs.Prelude.{ℕ, zero, suc, ◌+◌, List, [], ◌∷◌, Option, None}
use Rattle.vg_base.specs.declared.handles.Handle.{Handle}
use Rattle.vg_base.specs.declared.handles.Handle.TheVariants.{Reading, Writing, Closed}
use Rattle.vg_base.specs.Files.{Opened, reading, writing}

-- what is seen of a handle
abbrev pub seen : {T : Type 0} → Handle T → Option Opened
seen (Reading file) = reading [] 0
seen (Writing file) = writing []
seen Closed = None

-- what is seen of an id
abbrev pub opened_at : {T : Type 0} → List (Handle T) → ℕ → Option Opened
opened_at [] id = None
opened_at (handle ∷ handles) zero = seen handle
opened_at (handle ∷ handles) (suc id) = opened_at handles id

-- 1 for a handle that is open
abbrev pub weight : {T : Type 0} → Handle T → ℕ
weight (Reading file) = 1
weight (Writing file) = 1
weight Closed = 0

-- how many handles are open
abbrev pub open_handles : {T : Type 0} → List (Handle T) → ℕ
open_handles [] = 0
open_handles (handle ∷ handles) = weight handle + open_handles handles
