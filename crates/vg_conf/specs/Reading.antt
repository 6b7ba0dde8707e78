-- What comes of a configuration's whole text: the configuration, or the first fault, in this order: those of lines, a number that isn't given,
-- a premise that is 0, a cell whose index is out of range, a rule that an opening cell breaks.
use Rattle.std.specs.Prelude.{ℕ, ◌+◌, ◌≡◌, ◌<◌, ◌⊎◌, ◌==◌, nat_lt, List, [], ◌∷◌, ◌++◌, length, All, slice_get, Option, Some, None, Result, Ok, Err, Bool, if◌then◌else◌}
use Rattle.vg_stree.specs.declared.config.Fill.{Fill}
use Rattle.vg_stree.specs.declared.shape.Number.{Number}
use Rattle.vg_stree.specs.declared.shape.Object.{Object}
use Rattle.vg_stree.specs.declared.shape.ObjectKind.{ObjectKind}
use Rattle.vg_stree.specs.declared.shape.ObjectKind.TheVariants as kinds
use Rattle.vg_stree.specs.declared.shape.Rule.{Rule}
use Rattle.vg_stree.specs.Specification.{Specification}
use Rattle.vg_stree.specs.Configuration.{Configuration}
use Rattle.vg_abs.specs.State.{State}
use Rattle.vg_abs.specs.Expressions.{value_of}
use Rattle.vg_abs.specs.Shape.{size_of}
use Rattle.vg_abs.specs.Lawful.{Holds}
use Rattle.vg_abs.specs.Opening.{opening}
use Rattle.vg_conf.specs.declared.fault.ConfFault.{ConfFault}
use Rattle.vg_conf.specs.declared.fault.ConfFault.TheVariants as faults
use Rattle.vg_conf.specs.declared.given.CellLine.{CellLine}
use Rattle.vg_conf.specs.Named.{first_from}
use Rattle.vg_conf.specs.Given.{Gathered}
use Rattle.vg_conf.specs.Lines.{gathered}

-- one step behind another, where that isn't refused
abbrev pub after : {A B : Type 0} → Result A ConfFault → (A → Result B ConfFault) → Result B ConfFault
after (Ok value) next = next value
after (Err fault) next = Err fault

-- the value of a declared number, by what lines give of it
abbrev pub value_for : Number → Option (Option ℕ) → Result ℕ ConfFault
value_for number (Some (Some value)) = Ok value
value_for number _ = Err (faults.Absent number.at)

-- the values of all declared numbers, in order of declaration, behind those of the numbers before
abbrev pub values_from : List (Option ℕ) → List ℕ → List Number → Result (List ℕ) ConfFault
values_from given values [] = Ok values
values_from given values (number ∷ numbers) =
    after (value_for number (slice_get given (length values))) (λ value. values_from given (values ++ value ∷ []) numbers)

-- a premise is 0
abbrev pub is_broken : Specification → List ℕ → ℕ → Bool
is_broken spec numbers premise = value_of spec.code premise (record { numbers = numbers; cell = []; names = [] }) == 0

-- the first premise that is 0, counted from 1
abbrev pub broken_premise : Specification → List ℕ → Option ℕ
broken_premise spec numbers = first_from (is_broken spec numbers) 1 spec.shape.premises

-- how many cells a vector of its own has
abbrev pub count_of : List ℕ → ObjectKind → ℕ
count_of numbers (kinds.Vector cell count) = size_of numbers count
count_of numbers _ = 0

abbrev pub count_in : List ℕ → Option Object → ℕ
count_in numbers None = 0
count_in numbers (Some object) = count_of numbers object.kind

-- the fill of a line, whose cell is there
abbrev pub fill_for : Specification → List ℕ → CellLine → Result Fill ConfFault
fill_for spec numbers cell =
    if nat_lt cell.index (count_in numbers (slice_get spec.shape.objects cell.vector))
    then Ok (record { vector = cell.vector; index = cell.index; field = cell.field; value = cell.value })
    else Err (faults.Line cell.line)

-- the fills of lines, behind those of the lines before
abbrev pub fills_from : Specification → List ℕ → List Fill → List CellLine → Result (List Fill) ConfFault
fills_from spec numbers fills [] = Ok fills
fills_from spec numbers fills (cell ∷ cells) = after (fill_for spec numbers cell) (λ fill. fills_from spec numbers (fills ++ fill ∷ []) cells)

-- the configuration with these numbers, by the first premise that is 0
abbrev pub drafted_with : Specification → Gathered → List ℕ → Option ℕ → Result Configuration ConfFault
drafted_with spec given numbers (Some premise) = Err (faults.Premise premise)
drafted_with spec given numbers None =
    after (fills_from spec numbers [] given.cells) (λ fills. Ok (record { numbers = numbers; routes = given.routes; fills = fills }))

-- the configuration that lines give, before rules are asked
abbrev pub drafted : Specification → Gathered → Result Configuration ConfFault
drafted spec given = after (values_from given.numbers [] spec.shape.numbers) (λ numbers. drafted_with spec given numbers (broken_premise spec numbers))

abbrev pub draft : Specification → List ℕ → Result Configuration ConfFault
draft spec text = after (gathered spec text) (drafted spec)

-- the first rule that a state breaks, counted from 1
pub record IsFirstBroken (spec : Specification) (numbers : List ℕ) (s : State) (count : ℕ) : Type 0 where
  pub place : ℕ
  pub counted : count ≡ place + 1
  pub rule : Rule
  pub there : slice_get spec.shape.rules place ≡ Some rule
  pub broken : ¬ Holds spec numbers s rule
  pub earlier : (other : ℕ) (earlier : Rule) → other < place → slice_get spec.shape.rules other ≡ Some earlier → Holds spec numbers s earlier

-- all is given, and then a rule is broken
pub record BreaksRule (spec : Specification) (text : List ℕ) (fault : ConfFault) : Type 0 where
  pub config : Configuration
  pub drafted : draft spec text ≡ Ok config
  pub count : ℕ
  pub is : fault ≡ faults.Rule count
  pub first : IsFirstBroken spec config.numbers (opening spec config) count

-- what comes of a text
abbrev pub IsRead : Specification → List ℕ → Result Configuration ConfFault → Type 0
IsRead spec text (Ok config) = (draft spec text ≡ Ok config) × All (Holds spec config.numbers (opening spec config)) spec.shape.rules
IsRead spec text (Err fault) = (draft spec text ≡ Err fault) ⊎ BreaksRule spec text fault
