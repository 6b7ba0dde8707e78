-- What facts cost at most, in literals.
use Rattle.std.specs.Prelude.{ℕ, suc, zero, ◌+◌, ◌*◌, max, Bool, ◌||◌, nat_eq, if◌then◌else◌, List, [], ◌∷◌, map, length, slice_get, Option, Some, None}
use Rattle.std.specs.List.{list_any}
use Rattle.vg_term.specs.Terms.{Term, width_at, listed}
use Rattle.vg_term.specs.declared.node.TermId.{TermId}
use Rattle.vg_term.specs.declared.node.Op.{Op}
use Rattle.vg_term.specs.declared.node.Op.TheVariants.{Mul, Udiv, Urem, Shl, Lshr, Ashr}
use Rattle.vg_term.specs.declared.node.Node.TheVariants as nodes

-- ---- the terms that facts reach

-- the parts of the term of an entry; none of a variable, or where none stands
abbrev pub parts_in : Option Term → List TermId
parts_in None = []
parts_in (Some (nodes.Var number width, w)) = []
parts_in (Some (nodes.Op op parts, w)) = listed parts

-- the parts of a term
abbrev pub parts_at : List Term → TermId → List TermId
parts_at terms id = parts_in (slice_get terms id.0)

-- whether a term is another one or stands under it, at most so many levels deep
abbrev pub is_under_to : ℕ → List Term → TermId → TermId → Bool
is_under_to zero terms top id = nat_eq top.0 id.0
is_under_to (suc depth) terms top id = nat_eq top.0 id.0 || list_any (λ part. is_under_to depth terms part id) (parts_at terms top)

-- whether the facts reach a term. The parts of a term have lower numbers, so nothing stands deeper under it than its number.
abbrev pub is_reached : List Term → List TermId → TermId → Bool
is_reached terms facts id = list_any (λ fact. is_under_to fact.0 terms fact id) facts

-- ---- costs

-- the greatest of some widths
abbrev pub greatest : List ℕ → ℕ
greatest [] = 0
greatest (w ∷ ws) = max w (greatest ws)

-- what an operation costs, where w is the greatest width of its term and the parts
abbrev pub operation_cost : Op → ℕ → ℕ
operation_cost Mul w = 400 * w * w
operation_cost Udiv w = 400 * w * w
operation_cost Urem w = 400 * w * w
operation_cost Shl w = 4000 * w
operation_cost Lshr w = 4000 * w
operation_cost Ashr w = 4000 * w
operation_cost _ w = 400 * w

-- what the term of an entry costs
abbrev pub entry_cost : List Term → Option Term → ℕ
entry_cost terms None = 0
entry_cost terms (Some (nodes.Var number width, w)) = 400 * w
entry_cost terms (Some (nodes.Op op parts, w)) = operation_cost op (greatest (w ∷ map (width_at terms) (listed parts)))

-- what those of the first n terms cost that the facts reach, each counted once
abbrev pub cost_to : ℕ → List Term → List TermId → ℕ
cost_to zero terms facts = 0
cost_to (suc n) terms facts = cost_to n terms facts + (if is_reached terms facts (record { 0 = n }) then entry_cost terms (slice_get terms n) else 0)

-- what facts cost: 1 each, and their terms
abbrev pub cost : List Term → List TermId → ℕ
cost terms facts = length facts + cost_to (length terms) terms facts
