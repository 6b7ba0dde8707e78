-- When two states of one shape agree, object by object, in what both tell. A size and a key belong to the map; an index, its time, the count
-- and the highest time to the chain; a cell to the vector. Prefix tables never change, so they always agree.
use Rattle.std.specs.Prelude.{ℕ, ◌≡◌, List, Bool, slice_get, Option, Some, None}
use Rattle.std.specs.FinMap.{get}
use Rattle.vg_abs.specs.declared.object.Object.{Object}
use Rattle.vg_abs.specs.declared.object.Object.TheVariants.{Map, Chain, Keys, Cells, Prefixes}
use Rattle.vg_abs.specs.Tables.{Link, Vector}
use Rattle.vg_abs.specs.State.{State, link_of_map, link_of_chain, vector_of}
use Rattle.vg_abs.specs.Answers.{index_of, time_of}

-- where both tell an answer, it is one
abbrev pub BothTell : {X : Type 0} → Option X → Option X → Type 0
BothTell (Some x) (Some y) = x ≡ y
BothTell _ _ = Unit {0}

-- two maps agree
pub record MapsAgree (s_full t_full : Bool) (s t : Link) : Type 0 where
  pub size : s.size ≡ t.size
  pub keys : (key : List ℕ) → BothTell (index_of s_full s key) (index_of t_full t key)

-- two chains agree
pub record ChainsAgree (s_full t_full : Bool) (s t : Link) : Type 0 where
  pub count : s.count ≡ t.count
  pub highest : s.highest ≡ t.highest
  pub times : (index : ℕ) → BothTell (time_of s_full s index) (time_of t_full t index)

-- two vectors agree
abbrev pub VectorsAgree : Vector → Vector → Type 0
VectorsAgree s t = (index : ℕ) → BothTell (get s.cells index) (get t.cells index)

-- two states agree at an object
abbrev pub AgreeIn : State → State → ℕ → Option Object → Type 0
AgreeIn s t number None = Unit {0}
AgreeIn s t number (Some (Map link)) = MapsAgree s.full t.full link (link_of_map t number)
AgreeIn s t number (Some Chain) = ChainsAgree s.full t.full (link_of_chain s number) (link_of_chain t number)
AgreeIn s t number (Some Keys) = VectorsAgree (vector_of s number) (vector_of t number)
AgreeIn s t number (Some (Cells vector)) = VectorsAgree vector (vector_of t number)
AgreeIn s t number (Some (Prefixes prefixes)) = Unit {0}

abbrev pub AgreeAt : State → State → ℕ → Type 0
AgreeAt s t number = AgreeIn s t number (slice_get s.objects number)

-- two states are the same in what both tell
abbrev pub Agree : State → State → Type 0
Agree s t = (number : ℕ) → AgreeAt s t number
