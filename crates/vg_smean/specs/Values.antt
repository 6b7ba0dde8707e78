-- The values of a step's expressions. Every value is a whole number below 2 ^ 64, and all operands and arguments are evaluated, also those of
-- `&&`, `||` and `?:`: so a value is told only where the state tells all that is asked in it.
use Rattle.std.specs.Prelude.{ℕ, ◌==◌, nat_lt, not, zero, suc, List, [], ◌∷◌, length, fold, slice_get, Option, Some, None, is_some, if◌then◌else◌}
use Rattle.std.specs.Option.{option_map}
use Rattle.std.specs.FinMap.{get}
use Rattle.vg_stree.specs.declared.code.SExpr.{SExpr}
use Rattle.vg_stree.specs.declared.code.SExpr.TheVariants as expressions
use Rattle.vg_stree.specs.Declarations.{fields_of}
use Rattle.vg_stree.specs.Specification.{Specification}
use Rattle.vg_stree.specs.Syntax.{listed}
use Rattle.vg_abs.specs.State.{State, link_of_map, vector_of}
use Rattle.vg_abs.specs.Answers.{time_of}
use Rattle.vg_abs.specs.Shape.{cell_struct}
use Rattle.vg_abs.specs.Fields.{values_in}
use Rattle.vg_abs.specs.Expressions.{value_at, truth, is_true, operate}
use Rattle.vg_smean.specs.FrameWords.{word_at}

-- what an expression of a step may speak of: the configuration's numbers, the port at which the frame came in, the time, the state and the frame as
-- they are now, and the names in scope
pub record Scene : Type 0 where
  pub numbers : List ℕ
  pub port : ℕ
  pub now : ℕ
  pub state : State
  pub frame : List ℕ
  pub names : List ℕ

-- ---- answers that may not be told

-- what follows from an answer, where it is told
abbrev pub asking : {A B : Type 0} → Option A → (A → Option B) → Option B
asking None next = None
asking (Some answer) next = next answer

-- both are told, and this comes of them
abbrev pub both : {A B C : Type 0} → (A → B → C) → Option A → Option B → Option C
both f one other = asking one (λ a. option_map (λ b. f a b) other)

-- ---- expressions

-- the values of expressions by their numbers, in each scene
abbrev pub Values : Type 0
Values = ℕ → Scene → Option ℕ

-- the values of several expressions
abbrev pub values_by : Values → List ℕ → Scene → Option (List ℕ)
values_by known [] scene = Some []
values_by known (one ∷ more) scene = both (λ value rest. value ∷ rest) (known one scene) (values_by known more scene)

-- a field of a cell, and 0 where there is no such cell
abbrev pub field_of_cell : Specification → State → (vector field index : ℕ) → Option ℕ
field_of_cell spec s vector field index =
    if nat_lt index (vector_of s vector).cell_count then
    option_map (λ bytes. value_at (values_in (fields_of spec.shape (cell_struct spec.shape vector)) bytes) field) (get (vector_of s vector).cells index)
    else Some 0

-- whether an index of a link is allocated
abbrev pub is_allocated : State → (map index : ℕ) → Option ℕ
is_allocated s map index = option_map (λ time. truth (is_some time)) (time_of s.full (link_of_map s map) index)

-- the value of an expression, by those of the expressions before it
abbrev pub value_by : Specification → Values → SExpr → Scene → Option ℕ
value_by spec known (expressions.Number value) scene = Some value
value_by spec known (expressions.Config number) scene = Some (value_at scene.numbers number)
value_by spec known (expressions.Local number) scene = Some (value_at scene.names number)
value_by spec known (expressions.CellField field) scene = Some 0
value_by spec known expressions.Length scene = Some (length scene.frame)
value_by spec known expressions.Port scene = Some scene.port
value_by spec known expressions.Now scene = Some scene.now
value_by spec known (expressions.Parens inner) scene = known inner scene
value_by spec known (expressions.Not operand) scene = option_map (λ value. truth (not (is_true value))) (known operand scene)
value_by spec known (expressions.Chain first rest) scene =
    fold (λ left operation. both (operate operation.operator) left (known operation.operand scene)) (known first scene)
    (listed spec.code.operations rest)
value_by spec known (expressions.Choose condition chosen otherwise) scene =
    asking (known condition scene) (λ test. both (λ one other. if is_true test then one else other) (known chosen scene) (known otherwise scene))
value_by spec known (expressions.Call body arguments) scene =
    asking (values_by known (listed spec.code.items arguments) scene) (λ names. known body (record scene { names = names }))
value_by spec known (expressions.Cell vector index field) scene = asking (known index scene) (field_of_cell spec scene.state vector field)
value_by spec known (expressions.Frame word place) scene = option_map (word_at scene.frame word) (known place scene)
value_by spec known (expressions.Has link index) scene = asking (known index scene) (is_allocated scene.state link)

-- the value of an expression that may be there, and 0 where there is none
abbrev pub value_found : Specification → Values → Option SExpr → Scene → Option ℕ
value_found spec known None scene = Some 0
value_found spec known (Some expression) scene = value_by spec known expression scene

-- the values of the expressions before a number; the others count 0
unfoldable pub values_before : Specification → ℕ → Values
values_before spec zero number scene = Some 0
values_before spec (suc count) number scene =
    if number == count then value_found spec (values_before spec count) (slice_get spec.code.expressions count) scene
    else values_before spec count number scene

-- the value of an expression in a scene
abbrev pub value_of : Specification → Scene → ℕ → Option ℕ
value_of spec scene number = values_before spec (suc number) number scene

-- the values of several
abbrev pub values_of : Specification → Scene → List ℕ → Option (List ℕ)
values_of spec scene numbers = values_by (λ number scene. value_of spec scene number) numbers scene
