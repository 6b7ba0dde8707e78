-- What is seen of a step on its way.
use Rattle.std.specs.Prelude.{ℕ, ◌≡◌, ◌-◌, List, [], Bool, true, false, Option, Some, None, unwrap_or}
use Rattle.std.specs.declared.result.Result.{Result}
use Rattle.std.specs.declared.result.Result.TheVariants.{Ok, Err}
use Rattle.std.specs.declared.vec.Vec.{Vec}
use Rattle.std.specs.declared.alloc.Global.{Global}
use Rattle.std.specs.FinMap.{get, insert}
use Rattle.vg_stree.specs.Specification.{Specification}
use Rattle.vg_stree.specs.Syntax.{listed}
use Rattle.vg_abs.specs.declared.object.Object.{Object}
use Rattle.vg_abs.specs.declared.object.Object.TheVariants.{Map, Cells, Keys}
use Rattle.vg_abs.specs.Tables.{Link}
use Rattle.vg_smean.specs.declared.running.Place as running
use Rattle.vg_smean.specs.declared.running.Flow.{Flow}
use Rattle.vg_smean.specs.declared.running.Flow.TheVariants as flows
use Rattle.vg_smean.specs.declared.stops.Stop.{Stop}
use Rattle.vg_smean.specs.declared.stops.Stop.TheVariants as stops
use Rattle.vg_smean.specs.Step.{Place, Outcome, Goes, Ends, Refused, Untold, all_by, statement_of}
use Rattle.vg_abs.specs.Effects.{without_key, without_index, with_cell}

-- whether an object that may be there is a map
abbrev pub is_map : Option Object → Bool
is_map (Some (Map link)) = true
is_map _ = false

-- an index of a full state's link is free, and the key of its cell is absent
abbrev pub without_entry : Link → ℕ → Link
without_entry link index = without_index true (without_key true link (unwrap_or (get link.cells index) [])) index

-- where a step has come to
abbrev pub place_of : running.Place → Place
place_of place = record { state = place.state; frame = place.frame.items; choices = place.choices.now; names = place.names.items }

-- a result is a value that is told, or says that it isn't
abbrev pub Tells : Result ℕ Stop → Option ℕ → Type 0
Tells (Ok value) answer = answer ≡ Some value
Tells (Err stops.Untold) answer = answer ≡ None
Tells (Err _) answer = ⊥

-- the same of bytes; memory may always be wanting
abbrev pub TellsBytes : Result (Vec ℕ Global) Stop → Option (List ℕ) → Type 0
TellsBytes (Ok bytes) answer = answer ≡ Some bytes.items
TellsBytes (Err stops.Untold) answer = answer ≡ None
TellsBytes (Err stops.Memory) answer = Unit {0}
TellsBytes (Err stops.Choice) answer = ⊥

-- a result, and the place that it leaves, are an outcome; memory may always be wanting
abbrev pub Comes : Result Flow Stop → Place → Outcome → Type 0
Comes (Ok flows.Goes) place outcome = outcome ≡ Goes place
Comes (Ok (flows.Ends verdict)) place outcome = outcome ≡ Ends verdict place
Comes (Err stops.Choice) place outcome = outcome ≡ Refused
Comes (Err stops.Untold) place outcome = outcome ≡ Untold
Comes (Err stops.Memory) place outcome = Unit {0}

-- an object once a cell of it, or of the link whose map it is, holds these bytes
abbrev pub stored_in : Object → ℕ → List ℕ → Object
stored_in (Map link) index bytes = Map (with_cell link index bytes)
stored_in (Cells vector) index bytes = Cells (record vector { cells = insert vector.cells index bytes })
stored_in object index bytes = object

-- the object with the cells of a vector: itself, or the map of its link
abbrev pub holder_of : ℕ → Option Object → ℕ
holder_of vector (Some Keys) = vector - 2
holder_of vector _ = vector

-- what the statements of a specification's step come to from a place on
abbrev pub outcome_of : Specification → (numbers : List ℕ) → (port now : ℕ) → Place → Outcome
outcome_of spec numbers port now place = all_by spec numbers port now (statement_of spec numbers port now) (listed spec.code.items spec.step) place
