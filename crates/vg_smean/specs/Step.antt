-- What a specification's step does with a frame: a plain recursion over its statements, on the tables of the library.
use Rattle.std.specs.Prelude.{ℕ, ◌+◌, ◌%◌, ◌^◌, ◌==◌, nat_lt, zero, suc, Bool, true, false, List, [], ◌∷◌, ◌++◌, slice_get, Option, Some, None}
use Rattle.std.specs.Prelude.{if◌then◌else◌}
use Rattle.std.specs.Option.{option_map}
use Rattle.std.specs.FinMap.{get}
use Rattle.vg_core.specs.declared.verdict.Verdict.{Verdict}
use Rattle.vg_core.specs.declared.verdict.Verdict.TheVariants as verdicts
use Rattle.vg_stree.specs.declared.code.Parts.{Parts}
use Rattle.vg_stree.specs.declared.code.SStmt.{SStmt}
use Rattle.vg_stree.specs.declared.code.SStmt.TheVariants as statements
use Rattle.vg_stree.specs.declared.shape.Field.{Field}
use Rattle.vg_stree.specs.Declarations.{Declarations, fields_of, field_place}
use Rattle.vg_stree.specs.Specification.{Specification}
use Rattle.vg_stree.specs.Syntax.{listed}
use Rattle.vg_abs.specs.declared.object.Object.{Object}
use Rattle.vg_abs.specs.declared.object.Object.TheVariants.{Map}
use Rattle.vg_abs.specs.Tables.{Link}
use Rattle.vg_abs.specs.State.{State, link_of_map, vector_of, prefixes_of}
use Rattle.vg_abs.specs.Answers.{index_of, time_of, match_in, count_before}
use Rattle.vg_abs.specs.Effects.{with_key, without_key, with_index, with_time, without_index, with_cell, expired, with_link, with_bytes}
use Rattle.vg_abs.specs.Rows.{may_hand_out}
use Rattle.vg_abs.specs.Shape.{cell_struct}
use Rattle.vg_abs.specs.Fields.{bytes_in, with_field}
use Rattle.vg_abs.specs.Expressions.{is_true}
use Rattle.vg_smean.specs.FrameWords.{with_word}
use Rattle.vg_smean.specs.Values.{Scene, value_of, values_of}

-- where a step has come to: the state and the frame as they are now, the indices that are still to be handed out, and the names in scope
pub record Place : Type 0 where
  pub state : State
  pub frame : List ℕ
  pub choices : List ℕ
  pub names : List ℕ

-- what a statement, or several, come to
pub data Outcome : Type 0 where
  -- to their end: the step goes on from here
  Goes : Place → Outcome
  -- the step has ended with a verdict
  Ends : Verdict → Place → Outcome
  -- a choice is refused
  Refused : Outcome
  -- something is asked that the state doesn't tell
  Untold : Outcome

-- what follows from an answer, where the state tells it
abbrev pub told : {A : Type 0} → Option A → (A → Outcome) → Outcome
told None next = Untold
told (Some answer) next = next answer

-- what follows where the step goes on
abbrev pub followed_by : Outcome → (Place → Outcome) → Outcome
followed_by (Goes place) next = next place
followed_by outcome next = outcome

-- the names of a block are in scope in it alone
abbrev pub back_to : List ℕ → Outcome → Outcome
back_to names (Goes place) = Goes (record place { names = names })
back_to names outcome = outcome

-- a name more is in scope
abbrev pub named : ℕ → Place → Place
named value place = record place { names = place.names ++ value ∷ [] }

-- the bytes of a key: its values in the fields of the struct, one after another
abbrev pub key_bytes : List Field → List ℕ → List ℕ
key_bytes [] values = []
key_bytes fields [] = []
key_bytes (field ∷ fields) (value ∷ values) = bytes_in field.of value ++ key_bytes fields values

-- a struct's bytes with a number in a field, which stands at a place
abbrev pub with_number_in : (at value : ℕ) → List ℕ → Option Field → List ℕ
with_number_in at value bytes None = bytes
with_number_in at value bytes (Some field) = with_field at field.of value bytes

-- the bytes of a vector's cell with a number in a field, taken modulo the field's size
abbrev pub with_field_in_cell : Declarations → (vector field value : ℕ) → List ℕ → List ℕ
with_field_in_cell shape vector field value bytes =
    let of = cell_struct shape vector in
    with_number_in (field_place shape of field) value bytes (slice_get (fields_of shape of) field)

-- an index is handed out with a time, its cell holds a key, and the key is mapped to it
abbrev pub with_entry : Link → List ℕ → (index now : ℕ) → Link
with_entry link key index now = with_key (with_cell (with_index link index now) index key) key index

-- the bytes of a key of a map in a scene, where all its values are told
abbrev pub key_of : Specification → Scene → (map : ℕ) → Parts → Option (List ℕ)
key_of spec scene map key =
    option_map (key_bytes (fields_of spec.shape (cell_struct spec.shape (map + 2)))) (values_of spec scene (listed spec.code.items key))

module _ (spec : Specification) (numbers : List ℕ) (port now : ℕ) where
  -- what the expressions of a statement may speak of
  abbrev pub scene_at : Place → Scene
  scene_at place = record { numbers = numbers; port = port; now = now; state = place.state; frame = place.frame; names = place.names }

  -- what follows from the value of an expression
  abbrev pub valued : Place → ℕ → (ℕ → Outcome) → Outcome
  valued place expression next = told (value_of spec (scene_at place) expression) next

  -- what follows from a key's bytes
  abbrev pub keyed : Place → ℕ → Parts → (List ℕ → Outcome) → Outcome
  keyed place map key next = told (key_of spec (scene_at place) map key) next

  -- what statements do, by their numbers
  abbrev pub Statements : Type 0
  Statements = ℕ → Place → Outcome

  -- statements of which none is known
  abbrev pub nothing_known : Statements
  nothing_known number place = Goes place

  -- what the statements of a list do, one after another
  abbrev pub all_by : Statements → List ℕ → Place → Outcome
  all_by known [] place = Goes place
  all_by known (one ∷ more) place = followed_by (known one place) (all_by known more)

  -- what a block does
  abbrev pub block_by : Statements → Parts → Place → Outcome
  block_by known block place = back_to place.names (all_by known (listed spec.code.items block) place)

  -- a block with a new name where there is a value for it, and otherwise the other block
  abbrev pub either_by : Statements → Parts → Parts → Place → Option ℕ → Outcome
  either_by known chosen otherwise place (Some value) = back_to place.names (all_by known (listed spec.code.items chosen) (named value place))
  either_by known chosen otherwise place None = block_by known otherwise place

  -- a frame is sent to a port, or dropped where there is no such port
  abbrev pub sent : ℕ → Verdict
  sent value = if nat_lt value spec.shape.ports then verdicts.Send value else verdicts.Drop

  -- a number is stored into a field of a cell; nothing is done where there is no such cell
  abbrev pub store_field : Place → (vector index field value : ℕ) → Outcome
  store_field place vector index field value =
      if nat_lt index (vector_of place.state vector).cell_count then
      told (get (vector_of place.state vector).cells index) (λ bytes.
      Goes (record place { state = with_bytes place.state vector index (with_field_in_cell spec.shape vector field value bytes) }))
      else Goes place

  -- exactly the indices of a link with a time before a bound are freed; nothing is done where there is no such link
  abbrev pub expire : Place → (map bound : ℕ) → Option Object → Outcome
  expire place map bound (Some (Map link)) =
      told (count_before place.state.full link bound) (λ freed.
      Goes (record place { state = with_link place.state map (expired place.state.full link bound freed) }))
  expire place map bound _ = Goes place

  -- an index is handed out to a key, and the first block follows, where that is told to be free
  abbrev pub hand_out_if : Statements → Parts → Place → (map : ℕ) → List ℕ → (choice : ℕ) → List ℕ → Bool → Outcome
  hand_out_if known chosen place map key choice rest false = Refused
  hand_out_if known chosen place map key choice rest true = either_by known chosen chosen (record place {
    state = with_link place.state map (with_entry (link_of_map place.state map) key choice now);
    choices = rest;
  }) (Some choice)

  -- the next choice is taken, which must be there
  abbrev pub hand_out : Statements → Parts → Place → (map : ℕ) → List ℕ → List ℕ → Outcome
  hand_out known chosen place map key [] = Refused
  hand_out known chosen place map key (choice ∷ rest) =
      told (may_hand_out place.state (map + 1) choice) (hand_out_if known chosen place map key choice rest)

  -- a key that is absent is added where an index is free, and otherwise the other block follows
  abbrev pub add_by : Statements → Parts → Parts → Place → (map : ℕ) → List ℕ → Option ℕ → Outcome
  add_by known chosen otherwise place map key (Some index) = block_by known otherwise place
  add_by known chosen otherwise place map key None =
      if (link_of_map place.state map).count == (link_of_map place.state map).capacity then block_by known otherwise place
      else hand_out known chosen place map key place.choices

  -- an allocated index has the time now; nothing is done where it is free
  abbrev pub touch : Place → (map index : ℕ) → Option ℕ → Outcome
  touch place map index None = Goes place
  touch place map index (Some time) =
      Goes (record place { state = with_link place.state map (with_time (link_of_map place.state map) index now) })

  -- an allocated index is freed and the key of its cell is absent, while the cell stays; nothing is done where it is free
  abbrev pub remove : Place → (map index : ℕ) → Option ℕ → Outcome
  remove place map index None = Goes place
  remove place map index (Some time) =
      let link = link_of_map place.state map in
      let full = place.state.full in
      told (get link.cells index) (λ key. Goes (record place { state = with_link place.state map (without_index full (without_key full link key) index) }))

  -- what a statement does, by what those before it do
  abbrev pub statement_by : Statements → SStmt → Place → Outcome
  statement_by known (statements.Let value) place = valued place value (λ v. Goes (named v place))
  statement_by known statements.Drop place = Ends verdicts.Drop place
  statement_by known statements.Flood place = Ends verdicts.Flood place
  statement_by known (statements.Send to) place = valued place to (λ v. Ends (sent v) place)
  statement_by known (statements.If condition chosen otherwise) place =
      valued place condition (λ test. if is_true test then block_by known chosen place else block_by known otherwise place)
  statement_by known (statements.SetFrame word at value) place =
      valued place at (λ a. valued place value (λ v. Goes (record place { frame = with_word place.frame word a v })))
  statement_by known (statements.SetCell vector index field value) place =
      valued place index (λ i. valued place value (λ v. store_field place vector i field v))
  statement_by known (statements.Expire link before) place = valued place before (λ bound. expire place link bound (slice_get place.state.objects link))
  statement_by known (statements.Find link key chosen otherwise) place =
      keyed place link key (λ bytes. told (index_of place.state.full (link_of_map place.state link) bytes) (either_by known chosen otherwise place))
  statement_by known (statements.Add link key chosen otherwise) place =
      keyed place link key (λ bytes.
      told (index_of place.state.full (link_of_map place.state link) bytes) (add_by known chosen otherwise place link bytes))
  statement_by known (statements.Touch link index) place =
      valued place index (λ i. told (time_of place.state.full (link_of_map place.state link) i) (touch place link i))
  statement_by known (statements.Remove link index) place =
      valued place index (λ i. told (time_of place.state.full (link_of_map place.state link) i) (remove place link i))
  statement_by known (statements.Lookup table address chosen otherwise) place =
      valued place address (λ a.
      told (match_in place.state.full (prefixes_of place.state table) (a % 2 ^ 32)) (either_by known chosen otherwise place))

  -- what a statement does that may be there; where there is none, nothing
  abbrev pub statement_found : Statements → Option SStmt → Place → Outcome
  statement_found known None place = Goes place
  statement_found known (Some statement) place = statement_by known statement place

  -- what the statements before a number do; the others do nothing
  unfoldable pub statements_before : ℕ → Statements
  statements_before zero number place = Goes place
  statements_before (suc count) number place =
      if number == count then statement_found (statements_before count) (slice_get spec.code.statements count) place
      else statements_before count number place

  -- what a statement does
  abbrev pub statement_of : Statements
  statement_of number place = statements_before (suc number) number place

-- what a step comes to
pub data StepEnd : Type 0 where
  -- a verdict, and what it leaves of state and frame
  Done : Verdict → State → List ℕ → StepEnd
  -- a choice is missing, can't be handed out, or is left
  ChoiceRefused : StepEnd
  -- the state doesn't tell what is asked
  AsksMore : StepEnd

-- no choice may be left
abbrev pub done : Verdict → Place → List ℕ → StepEnd
done verdict place [] = Done verdict place.state place.frame
done verdict place (choice ∷ choices) = ChoiceRefused

-- a step that comes to its end is a drop
abbrev pub end_of : Outcome → StepEnd
end_of (Goes place) = done verdicts.Drop place place.choices
end_of (Ends verdict place) = done verdict place place.choices
end_of Refused = ChoiceRefused
end_of Untold = AsksMore

-- what the step of a specification does with a frame of a port at a time, by the configuration's numbers, where these indices are to be handed out
abbrev pub step : Specification → (numbers : List ℕ) → State → (port : ℕ) → (frame : List ℕ) → (now : ℕ) → (choices : List ℕ) → StepEnd
step spec numbers s port frame now choices =
    end_of (all_by spec numbers port now (statement_of spec numbers port now) (listed spec.code.items spec.step)
    (record { state = s; frame = frame; choices = choices; names = [] }))
