-- Memory while a C function runs on a frame: a finite list of objects, and how they come and go (C11 6.2.4, 6.7.9).
use Rattle.std.specs.Prelude.{ℕ, ◌+◌, ◌-◌, ◌%◌, ◌^◌, min, List, [], ◌∷◌, ◌++◌, replicate, slice_index_or, slice_set, Option, Some, None}
use Rattle.vg_cmemory.specs.declared.object.Object.TheVariants as objects
use Rattle.vg_cmemory.specs.declared.object.Pointer.{Pointer}
use Rattle.vg_cmemory.specs.declared.object.Chunk.{Chunk}

-- an object that a declaration made: its number, its bytes, of which one that isn't set is None, and what a pointer variable was set to
pub record Life : Type 0 where
  pub number : ℕ
  pub bytes : List (Option ℕ)
  pub points : Option Pointer

-- of a node of the text: how many bytes each object that it declares has, and the one that lives. No function calls itself, so at most one lives
pub record Slot : Type 0 where
  pub size : ℕ
  pub life : Option Life

pub record Own : Type 0 where
  -- by the nodes of the text. A node that declares nothing has one of no bytes that never lives
  pub slots : List Slot
  -- the chunks of the frame that are lent, in the order of their loans
  pub chunks : List Chunk
  -- how many bytes of the frame are lent: those of all chunks together
  pub lent : ℕ
  -- the steps taken so far
  pub steps : ℕ
  -- the number of the next object that is made
  pub born : ℕ

pub record State : Type 0 where
  pub own : Own
  pub frame : List ℕ

-- of a node that declares nothing
abbrev pub no_slot : Slot
no_slot = record { size = 0; life = None }

abbrev pub slot : Own → ℕ → Slot
slot own node = slice_index_or own.slots node no_slot

abbrev pub with_slot : Own → ℕ → Slot → Own
with_slot own node to = record own { slots = slice_set own.slots node to }

-- one node more
abbrev pub with_node : (size : ℕ) → Own → Own
with_node size own = record own { slots = own.slots ++ record { size = size; life = None } ∷ [] }

-- all chunks are taken back
abbrev pub take_back_all : Own → Own
take_back_all own = record own { chunks = []; lent = 0 }

-- steps are counted up to this number, so a count below it is the true one
abbrev pub most_steps : ℕ
most_steps = 2 ^ 32 - 1

-- one step more
abbrev pub tick : Own → Own
tick own = record own { steps = min (own.steps + 1) most_steps }

-- objects are numbered as they are made, in 64 bits: no run makes so many
abbrev pub next_number : ℕ → ℕ
next_number n = (n + 1) % 2 ^ 64

-- a new object, of which nothing is set
abbrev pub made : ℕ → Slot → Slot
made number slot = record slot { life = Some (record { number = number; bytes = replicate slot.size None; points = None }) }

abbrev pub ended : Slot → Slot
ended slot = record slot { life = None }

abbrev pub points_to : Pointer → Option Life → Option Life
points_to p None = None
points_to p (Some life) = Some (record life { points = Some p })

abbrev pub held : Pointer → Slot → Slot
held p slot = record slot { life = points_to p slot.life }

-- a declaration runs
abbrev pub declare : ℕ → Own → Own
declare node own = record own { slots = slice_set own.slots node (made own.born (slot own node)); born = next_number own.born }

-- the block or call that a declaration stands in ends, and so does its object's life
abbrev pub end_life : ℕ → Own → Own
end_life node own = with_slot own node (ended (slot own node))

-- a pointer variable is set
abbrev pub hold : ℕ → Pointer → Own → Own
hold node p own = with_slot own node (held p (slot own node))

abbrev pub points_of : Option Life → Option Pointer
points_of None = None
points_of (Some life) = life.points

-- where none lives, a number that no object has
abbrev pub number_of : Option Life → ℕ
number_of None = 0
number_of (Some life) = life.number

abbrev pub start_of : Own → ℕ → Pointer
start_of own node = record { object = objects.Declared node (number_of (slot own node).life); offset = 0 }

-- how many bytes the objects of each node have. No call changes it
abbrev pub sizes_of : List Slot → List ℕ
sizes_of [] = []
sizes_of (slot ∷ slots) = slot.size ∷ sizes_of slots

unfoldable pub sizes : Own → List ℕ
sizes own = sizes_of own.slots

-- what a run begins with: nothing lives, no chunk is lent
abbrev pub at_rest : (sizes : List ℕ) → List Slot
at_rest [] = []
at_rest (size ∷ sizes) = record { size = size; life = None } ∷ at_rest sizes

abbrev pub start : (sizes : List ℕ) → Own
start sizes = record { slots = at_rest sizes; chunks = []; lent = 0; steps = 0; born = 1 }
