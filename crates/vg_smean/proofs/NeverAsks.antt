-- A lawful full state tells all that a step asks.
use Rattle.std.proofs.Common.{◌≡◌, ◌-◌, ◌<◌, ℕ, zero, suc, List, [], ◌∷◌, fold, Option, Some, None, Bool, true, false, cond, refl, sym}
use Rattle.std.proofs.Common.{subst, inl, inr, arith}
use Rattle.std.specs.Prelude.{slice_get, nat_lt, ◌==◌}
use Rattle.std.specs.Option.{option_map}
use Rattle.std.specs.FinMap.{get}
use Rattle.std.proofs.lemmas.Bool.{cases_lt, lt-ltb, le-ltb}
use Rattle.vg_stree.specs.declared.code.SExpr.{SExpr}
use Rattle.vg_stree.specs.declared.code.SExpr.TheVariants as expressions
use Rattle.vg_stree.specs.declared.code.Operation.{Operation}
use Rattle.vg_stree.specs.Specification.{Specification}
use Rattle.vg_stree.specs.Syntax.{listed}
use Rattle.vg_abs.specs.declared.object.Object.{Object}
use Rattle.vg_abs.specs.declared.object.Object.TheVariants.{Map, Chain, Keys, Cells, Prefixes}
use Rattle.vg_abs.specs.Tables.{Link, Vector}
use Rattle.vg_abs.specs.State.{State, link_of_map, vector_in, vector_of}
use Rattle.vg_abs.specs.Answers.{listed_or_none, index_of, time_of}
use Rattle.vg_abs.specs.Expressions.{operate}
use Rattle.vg_smean.specs.Values.{Scene, Values, asking, both, values_by, value_by, value_found, values_before, value_of, values_of, field_of_cell}

-- what is told
abbrev pub Told : {A : Type 0} → Option A → Type 0
Told None = ⊥
Told (Some answer) = Unit {0}

-- a full state with all its cells
pub record TellsAll (s : State) : Type 0 where
  pub full : s.full ≡ true
  pub links : (map index : ℕ) → index < (link_of_map s map).capacity → Told (get (link_of_map s map).cells index)
  pub vectors : (vector index : ℕ) (cells : Vector) → slice_get s.objects vector ≡ Some (Cells cells) → index < cells.cell_count → Told (get cells.cells index)

-- ---- answers
pub told_map : {A B : Type 0} (f : A → B) (o : Option A) → Told o → Told (option_map f o)
told_map f None told = told
told_map f (Some a) told = tt

told_both : {A B C : Type 0} (f : A → B → C) (one : Option A) (other : Option B) → Told one → Told other → Told (both f one other)
told_both f None other a b = a
told_both f (Some x) None a b = b
told_both f (Some x) (Some y) a b = tt

told_asking : {A B : Type 0} (o : Option A) (next : A → Option B) → Told o → ((a : A) → Told (next a)) → Told (asking o next)
told_asking None next told all = told
told_asking (Some a) next told all = all a

pub told_listed : {X : Type 0} (found : Option (Option X)) → Told (listed_or_none true found)
told_listed None = tt
told_listed (Some answer) = tt

pub told_time : (link : Link) (index : ℕ) → Told (time_of true link index)
told_time link index = go (nat_lt index link.capacity) where
  go : (b : Bool) → Told (cond b (listed_or_none true (get link.times index)) (Some None))
  go true = told_listed (get link.times index)
  go false = tt

pub told_time_of : (s : State) (map index : ℕ) → TellsAll s → Told (time_of s.full (link_of_map s map) index)
told_time_of s map index all = subst (λ b. Told (time_of b (link_of_map s map) index)) (sym all.full) (told_time (link_of_map s map) index)

pub told_index_of : (s : State) (map : ℕ) (key : List ℕ) → TellsAll s → Told (index_of s.full (link_of_map s map) key)
told_index_of s map key all = subst (λ b. Told (index_of b (link_of_map s map) key)) (sym all.full) (told_listed (get (link_of_map s map).keys key))

told_cell_in : (s : State) (vector index : ℕ) (found : Option Object) → TellsAll s → slice_get s.objects vector ≡ found
    → index < (vector_in s vector found).cell_count → Told (get (vector_in s vector found).cells index)
told_cell_in s vector index None all is less = absurd (omega arith)
told_cell_in s vector index (Some (Map link)) all is less = absurd (omega arith)
told_cell_in s vector index (Some Chain) all is less = absurd (omega arith)
told_cell_in s vector index (Some Keys) all is less = all.links (vector - 2) index less
told_cell_in s vector index (Some (Cells cells)) all is less = all.vectors vector index cells is less
told_cell_in s vector index (Some (Prefixes prefixes)) all is less = absurd (omega arith)

pub told_cell : (s : State) (vector index : ℕ) → TellsAll s → index < (vector_of s vector).cell_count → Told (get (vector_of s vector).cells index)
told_cell s vector index all less = told_cell_in s vector index (slice_get s.objects vector) all refl less

-- what is asked only where there is a cell
told_where : {A : Type 0} (i n : ℕ) (inside outside : Option A) → (i < n → Told inside) → Told outside → Told (cond (nat_lt i n) inside outside)
told_where i n inside outside there other = elim (cases_lt i n) [
  | inl less ↦ subst (λ b. Told (cond b inside outside)) (sym (lt-ltb i n less)) (there less)
  | inr more ↦ subst (λ b. Told (cond b inside outside)) (sym (le-ltb i n more)) other
]

pub told_either : {A : Type 0} (b : Bool) (one other : Option A) → Told one → Told other → Told (cond b one other)
told_either true one other x y = x
told_either false one other x y = y

-- ---- values
module _ (spec : Specification) where
  abbrev pub AllTold : Values → Type 0
  AllTold known = (number : ℕ) (scene : Scene) → TellsAll scene.state → Told (known number scene)

  values_told : (known : Values) → AllTold known → (numbers : List ℕ) (scene : Scene) → TellsAll scene.state → Told (values_by known numbers scene)
  values_told known each [] scene all = tt
  values_told known each (one ∷ more) scene all =
      told_both (λ value rest. value ∷ rest) (known one scene) (values_by known more scene) (each one scene all) (values_told known each more scene all)

  chain_told : (known : Values) → AllTold known → (operations : List Operation) (scene : Scene) → TellsAll scene.state → (left : Option ℕ) → Told left →
      Told (fold (λ left operation. both (operate operation.operator) left (known operation.operand scene)) left operations)
  chain_told known each [] scene all left told = told
  chain_told known each (o ∷ os) scene all left told =
      chain_told known each os scene all (both (operate o.operator) left (known o.operand scene))
      (told_both (operate o.operator) left (known o.operand scene) told (each o.operand scene all))

  field_told : (s : State) (vector field index : ℕ) → TellsAll s → Told (field_of_cell spec s vector field index)
  field_told s vector field index all =
      told_where index (vector_of s vector).cell_count _ _ (λ less. told_map _ (get (vector_of s vector).cells index) (told_cell s vector index all less)) tt

  by_told : (known : Values) → AllTold known → (expression : SExpr) (scene : Scene) → TellsAll scene.state → Told (value_by spec known expression scene)
  by_told known each (expressions.Number value) scene all = tt
  by_told known each (expressions.Config number) scene all = tt
  by_told known each (expressions.Local number) scene all = tt
  by_told known each (expressions.CellField field) scene all = tt
  by_told known each expressions.Length scene all = tt
  by_told known each expressions.Port scene all = tt
  by_told known each expressions.Now scene all = tt
  by_told known each (expressions.Parens inner) scene all = each inner scene all
  by_told known each (expressions.Not operand) scene all = told_map _ (known operand scene) (each operand scene all)
  by_told known each (expressions.Chain first rest) scene all =
      chain_told known each (listed spec.code.operations rest) scene all (known first scene) (each first scene all)
  by_told known each (expressions.Choose condition chosen otherwise) scene all =
      told_asking (known condition scene) _ (each condition scene all)
      (λ test. told_both _ (known chosen scene) (known otherwise scene) (each chosen scene all) (each otherwise scene all))
  by_told known each (expressions.Call body arguments) scene all =
      told_asking (values_by known (listed spec.code.items arguments) scene) _ (values_told known each (listed spec.code.items arguments) scene all)
      (λ names. each body (record scene { names = names }) all)
  by_told known each (expressions.Cell vector index field) scene all =
      told_asking (known index scene) _ (each index scene all) (λ i. field_told scene.state vector field i all)
  by_told known each (expressions.Frame word place) scene all = told_map _ (known place scene) (each place scene all)
  by_told known each (expressions.Has link index) scene all =
      told_asking (known index scene) _ (each index scene all)
      (λ i. told_map _ (time_of scene.state.full (link_of_map scene.state link) i) (told_time_of scene.state link i all))

  found_told : (known : Values) → AllTold known → (found : Option SExpr) (scene : Scene) → TellsAll scene.state → Told (value_found spec known found scene)
  found_told known each None scene all = tt
  found_told known each (Some expression) scene all = by_told known each expression scene all

  before_told : (count : ℕ) → AllTold (values_before spec count)
  unfolding values_before
  before_told zero number scene all = tt
  before_told (suc count) number scene all =
      told_either (number == count) (value_found spec (values_before spec count) (slice_get spec.code.expressions count) scene)
      (values_before spec count number scene)
      (found_told (values_before spec count) (before_told count) (slice_get spec.code.expressions count) scene all) (before_told count number scene all)

  pub value_told : (scene : Scene) (number : ℕ) → TellsAll scene.state → Told (value_of spec scene number)
  value_told scene number all = before_told (suc number) number scene all

  pub all_values_told : (scene : Scene) (numbers : List ℕ) → TellsAll scene.state → Told (values_of spec scene numbers)
  all_values_told scene numbers all =
      values_told (λ number scene. value_of spec scene number) (λ number scene all. value_told scene number all) numbers scene all
