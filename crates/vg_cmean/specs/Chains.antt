-- Chains, as `a + b + c`, `p->a[i].b` and `if .. else if ..`: how a machine walks them in loops, so that the longest takes no more of its stack than the
-- shortest. The meaning of the C doesn't speak of them.
use Rattle.std.specs.Prelude.{◌≡◌, ℕ, zero, suc, ◌<◌, List, slice_index_or, Option, Some, None}
use Rattle.vg_core.specs.Units.{Typed}
use Rattle.vg_core.specs.declared.tree.Kind.{Kind}
use Rattle.vg_core.specs.declared.tree.Kind.TheVariants as nodes
use Rattle.vg_cmemory.specs.State.{State}
use Rattle.vg_cmean.specs.declared.chains.Branch.{Branch}
use Rattle.vg_cmean.specs.declared.datum.Datum.{Datum}
use Rattle.vg_cmean.specs.Outcomes.{Outcome, Gives, and_then}
use Rattle.vg_cmean.specs.Typings.{kind_at, place_at}
use Rattle.vg_cmean.specs.Values.{read}
use Rattle.vg_cmean.specs.Places.{member}
use Rattle.vg_cmean.specs.Meaning.{Parts_mean, operated, indexed_by, meaning_below, branched}

-- ---- operators and suffixes

-- the part that a node of a chain goes on from
abbrev pub first_of : Kind → Option ℕ
first_of (nodes.Binary op left right) = Some left
first_of (nodes.Index array index) = Some array
first_of (nodes.Member whole field) = Some whole
first_of (nodes.Arrow pointer field) = Some pointer
first_of _ = None

-- what a node of a chain gives, where that part gave something
abbrev pub link : Typed → Parts_mean → ℕ → Kind → Datum → State → Outcome
link u part n (nodes.Binary op left right) d s = and_then (read d s) (operated op (place_at u n) (part right))
link u part n (nodes.Index array index) d s = indexed_by u part n array index d s
link u part n (nodes.Member whole field) d s = Gives (member u n whole (place_at u n) d) s
link u part n (nodes.Arrow pointer field) d s = and_then (read d s) (λ e t. Gives (member u n pointer (place_at u n) e) t)
link u part n _ d s = Gives d s

abbrev pub link_at : Typed → ℕ → Datum → State → Outcome
link_at u n d s = link u (meaning_below u n) n (kind_at u n) d s

-- `above` leads from a node to the node that goes on from it
pub record IsLink (u : Typed) (above : List ℕ) (node next : ℕ) : Type 0 where
  pub leads : slice_index_or above node 0 ≡ next
  pub first : first_of (kind_at u next) ≡ Some node
  pub before : node < next

-- so many links lead from a node to the top of its chain
abbrev pub IsChain : Typed → (above : List ℕ) → (top links node : ℕ) → Type 0
IsChain u above top zero node = node ≡ top
IsChain u above top (suc links) node = IsLink u above node (slice_index_or above node 0) × IsChain u above top links (slice_index_or above node 0)

-- what so many nodes of a chain give, where the node below them gave something
abbrev pub gives_above : Typed → (above : List ℕ) → (links node : ℕ) → Datum → State → Outcome
gives_above u above zero node d s = Gives d s
gives_above u above (suc links) node d s =
    and_then (link_at u (slice_index_or above node 0) d s) (gives_above u above links (slice_index_or above node 0))

-- ---- `else if`

abbrev pub branched_at : Typed → Branch → State → Outcome
branched_at u b s = branched (meaning_below u b.node) b.condition b.body b.otherwise s

-- the `if` that is the `else` of another
pub record IsElseIf (u : Typed) (b next : Branch) : Type 0 where
  pub otherwise : b.otherwise ≡ Some next.node
  pub before : next.node < b.node
  pub kind : kind_at u next.node ≡ nodes.If next.condition next.body next.otherwise
