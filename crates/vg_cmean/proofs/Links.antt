-- Chains, one link further.
use Rattle.std.proofs.Common.{◌≡◌, ℕ, zero, suc, ◌+◌, ◌-◌, ◌<◌, ◌≤◌, Bool, true, false, if◌then◌else◌, add-one, List, slice_index_or, Option, Some}
use Rattle.std.proofs.Common.{Result, Ok, Err, refl, sym, ap, subst, arith, ◌∙◌}
use Rattle.vg_core.specs.Units.{Typed}
use Rattle.vg_core.specs.declared.tree.BinaryOp.{BinaryOp}
use Rattle.vg_core.specs.declared.tree.BinaryOp.TheVariants as binaries
use Rattle.vg_core.specs.declared.tree.Kind.{Kind}
use Rattle.vg_core.specs.declared.tree.Kind.TheVariants as nodes
use Rattle.vg_cmemory.specs.State.{Own, State}
use Rattle.vg_cmemory.specs.State as memory
use Rattle.vg_cmean.specs.declared.chains.Branch.{Branch}
use Rattle.vg_cmean.specs.declared.datum.Datum.{Datum}
use Rattle.vg_cmean.specs.declared.datum.Datum.TheVariants as data_of
use Rattle.vg_cint.specs.declared.value.Value.{Value}
use Rattle.vg_cint.specs.Tests.{tested}
use Rattle.vg_cint.specs.Expressions.{binary_of}
use Rattle.vg_core.specs.declared.types.CType.{CType}
use Rattle.vg_core.specs.declared.reason.Reason.{Reason}
use Rattle.vg_cmean.specs.Values.{read, of_result, binary, is_true, word_of}
use Rattle.vg_cmean.specs.Places.{indexed, member, element, element_at, element_of, index_tests, start_under}
use Rattle.vg_cmean.specs.Outcomes.{Outcome, Next, Gives, Wrong, Untold, and_then, or_wrong, full, tick}
use Rattle.vg_cmean.specs.Typings.{kind_at, place_at, type_at, element_size}
use Rattle.vg_cmean.specs.Meaning.{Parts_mean, Meaning, meaning, meaning_below, expression, statement, operated, is_truth, value, taken, branch}
use Rattle.vg_cmean.specs.Chains.{first_of, link, link_at, IsLink, IsChain, gives_above, IsElseIf, branched_at}
use Rattle.vg_cmean.proofs.Below.{meaning_is, below_is}

and_then_twice : (o : Outcome) (f g : Datum → State → Outcome) → and_then (and_then o f) g ≡ and_then o (λ d s. and_then (f d s) g)
and_then_twice (Next s) f g = refl
and_then_twice (Gives d s) f g = refl
and_then_twice (Wrong at reason s) f g = refl
and_then_twice (Untold s) f g = refl

-- a node of a chain means what its first part does, and then the link
pub by_link : (u : Typed) (part : Parts_mean) (n first : ℕ) (kind : Kind) (s : State) → first_of kind ≡ Some first →
    expression u part n kind s ≡ and_then ((part first).gives s) (link u part n kind)
by_link u part n first (nodes.Binary op left right) s e =
    let same : left ≡ first = cc in
    subst (λ p. expression u part n (nodes.Binary op left right) s ≡ and_then ((part p).gives s) (link u part n (nodes.Binary op left right))) same
    (and_then_twice ((part left).gives s) read (operated op (place_at u n) (part right)))
by_link u part n first (nodes.Index array index) s e =
    let same : array ≡ first = cc in
    subst (λ p. expression u part n (nodes.Index array index) s ≡ and_then ((part p).gives s) (link u part n (nodes.Index array index))) same refl
by_link u part n first (nodes.Member whole field) s e =
    let same : whole ≡ first = cc in
    subst (λ p. expression u part n (nodes.Member whole field) s ≡ and_then ((part p).gives s) (link u part n (nodes.Member whole field))) same refl
by_link u part n first (nodes.Arrow pointer field) s e =
    let same : pointer ≡ first = cc in
    subst (λ p. expression u part n (nodes.Arrow pointer field) s ≡ and_then ((part p).gives s) (link u part n (nodes.Arrow pointer field))) same
    (and_then_twice ((part pointer).gives s) read (λ d t. Gives (member u n pointer (place_at u n) d) t))
by_link u part n first _ s e = cc

-- ---- an expression gives something, or goes wrong

abbrev IsValued : Outcome → Type 0
IsValued o = and_then o Gives ≡ o

valued_bind : (o : Outcome) (f : Datum → State → Outcome) → ((d : Datum) (s : State) → IsValued (f d s)) → IsValued (and_then o f)
valued_bind (Next s) f h = h data_of.Nothing s
valued_bind (Gives d s) f h = h d s
valued_bind (Wrong at reason s) f h = refl
valued_bind (Untold s) f h = refl

valued_if : (b : Bool) (one other : Outcome) → IsValued one → IsValued other → IsValued (if b then one else other)
valued_if true one other h i = h
valued_if false one other h i = i

valued_result : (r : Result Value Reason) (at : ℕ) (s : State) → IsValued (of_result r at s)
valued_result (Ok v) at s = refl
valued_result (Err reason) at s = refl

valued_or_wrong : {A : Type 0} (r : Result A Reason) (at : ℕ) (s : State) (go : A → Outcome) → ((x : A) → IsValued (go x)) → IsValued (or_wrong r at s go)
valued_or_wrong (Ok x) at s go h = h x
valued_or_wrong (Err reason) at s go h = refl

valued_operated : (op : BinaryOp) (at : ℕ) (right : Meaning) (a : Datum) (s : State) → IsValued (operated op at right a s)
valued_operated binaries.AndThen at right a s = valued_if (is_true a) _ _ (valued_bind (value right (tick s)) is_truth (λ d t. refl)) refl
valued_operated binaries.OrElse at right a s = valued_if (is_true a) _ _ refl (valued_bind (value right (tick s)) is_truth (λ d t. refl))
valued_operated op at right a s = valued_bind (value right s) (binary op at a) (λ b t. valued_result (binary_of op (word_of a) (word_of b)) at t)

valued_element : (size : ℕ) (type : CType) (at index_at : ℕ) (a b : Datum) (s : State) → IsValued (element size type at index_at a b s)
valued_element size type at index_at a b s =
    valued_or_wrong (tested (index_tests (start_under a) (word_of b)) (element_of (start_under a) size (word_of b))) index_at s
    (λ p. Gives (data_of.Lvalue (element_at size type at a p)) s) (λ p. refl)

valued_link : (u : Typed) (part : Parts_mean) (n : ℕ) (kind : Kind) (d : Datum) (s : State) → IsValued (link u part n kind d s)
valued_link u part n (nodes.Binary op left right) d s = valued_bind (read d s) (operated op (place_at u n) (part right))
    (valued_operated op (place_at u n) (part right))
valued_link u part n (nodes.Index array index) d s =
    valued_bind (indexed d s) _ (λ a t. valued_bind (value (part index) t) _ (λ b v.
    valued_element (element_size u (type_at u array)) (type_at u n) (place_at u n) (place_at u index) a b v))
valued_link u part n (nodes.Arrow pointer field) d s = valued_bind (read d s) _ (λ e t. refl)
valued_link u part n _ d s = refl

-- ---- links

at_link : (u : Typed) (above : List ℕ) (node next : ℕ) (o : Outcome) (s : State) → IsLink u above node next → o ≡ (meaning u node).gives s →
    and_then o (link_at u next) ≡ (meaning u next).gives s
at_link u above node next o s l e =
    ap (λ x. and_then x (link_at u next)) (e ∙ sym (ap (λ (m : Meaning). m.gives s) (below_is u next node l.before)))
    ∙ sym (by_link u (meaning_below u next) next node (kind_at u next) s l.first)
    ∙ sym (ap (λ (m : Meaning). m.gives s) (meaning_is u next))

-- what the innermost node gives is all that the top needs of it
climbs : (u : Typed) (above : List ℕ) (top links node : ℕ) (o : Outcome) (s : State) → IsChain u above top links node → IsValued o
    → o ≡ (meaning u node).gives s →
    and_then o (gives_above u above links node) ≡ (meaning u top).gives s
climbs u above top zero node o s c v e = subst (λ n. and_then o Gives ≡ (meaning u n).gives s) c (v ∙ e)
climbs u above top (suc links) node o s c v e =
    let next = slice_index_or above node 0 in
    sym (and_then_twice o (link_at u next) (gives_above u above links next))
    ∙ climbs u above top links next (and_then o (link_at u next)) s c.1
    (valued_bind o (link_at u next) (valued_link u (meaning_below u next) next (kind_at u next))) (at_link u above node next o s c.0 e)

pub climbs_wrong : (u : Typed) (above : List ℕ) (top links node at : ℕ) (reason : Reason) (s t : State) → IsChain u above top links node →
    Wrong at reason t ≡ (meaning u node).gives s → Wrong at reason t ≡ (meaning u top).gives s
climbs_wrong u above top links node at reason s t c e = climbs u above top links node (Wrong at reason t) s c refl e

pub chain_short : (u : Typed) (above : List ℕ) (top links node : ℕ) → IsChain u above top links node → links + node ≤ top
chain_short u above top zero node c = omega arith
chain_short u above top (suc links) node c =
    let before = c.0.before in
    let h = chain_short u above top links (slice_index_or above node 0) c.1 in omega arith

-- one link more below
pub chain_more : (u : Typed) (above : List ℕ) (top links node first : ℕ) → IsChain u above top links node → IsLink u above first node
    → IsChain u above top (links + 1) first
chain_more u above top links node first c l =
    subst (λ k. IsChain u above top k first) (sym (add-one links))
    (subst (λ next. IsLink u above first next × IsChain u above top links next) (sym l.leads) (l, c))

-- one link up
chain_up : (u : Typed) (above : List ℕ) (top links rest node : ℕ) → links ≡ suc rest → IsChain u above top links node →
    IsLink u above node (slice_index_or above node 0) × IsChain u above top rest (slice_index_or above node 0)
chain_up u above top links rest node e c = subst (λ k. IsChain u above top k node) e c

gives_up : (u : Typed) (above : List ℕ) (links rest node : ℕ) (d : Datum) (s : State) → links ≡ suc rest →
    gives_above u above links node d s ≡ and_then (link_at u (slice_index_or above node 0) d s) (gives_above u above rest (slice_index_or above node 0))
gives_up u above links rest node d s e = ap (λ k. gives_above u above k node d s) e

-- ---- the steps of the loop

pub begins_chain : (u : Typed) (above : List ℕ) (top links node : ℕ) → IsChain u above top links node → IsChain u above top (links - 0) node
begins_chain u above top links node c = let e : links ≡ links - 0 = omega arith in subst (λ k. IsChain u above top k node) e c

pub begins : (u : Typed) (above : List ℕ) (top links node : ℕ) (d : Datum) (s t : State) → IsChain u above top links node
    → Gives d t ≡ (meaning u node).gives s →
    gives_above u above (links - 0) node d t ≡ (meaning u top).gives s
begins u above top links node d s t c e =
    let same : links - 0 ≡ links = omega arith in
    ap (λ k. gives_above u above k node d t) same ∙ climbs u above top links node (Gives d t) s c refl e

pub step_chain : (u : Typed) (above : List ℕ) (top links link node next : ℕ) → IsChain u above top (links - link) node → link < links
    → next ≡ slice_index_or above node 0 →
    IsChain u above top (links - (link + 1)) next
step_chain u above top links link node next c h e =
    let one : links - link ≡ suc (links - (link + 1)) = omega arith in
    subst (λ n. IsChain u above top (links - (link + 1)) n) (sym e) (chain_up u above top (links - link) (links - (link + 1)) node one c).1

pub step_within : (u : Typed) (above : List ℕ) (top links link node next : ℕ) → IsChain u above top (links - link) node → link < links
    → next ≡ slice_index_or above node 0 →
    next ≤ top
step_within u above top links link node next c h e =
    let short = chain_short u above top (links - (link + 1)) next (step_chain u above top links link node next c h e) in omega arith

pub step_gives : (u : Typed) (above : List ℕ) (links link node next : ℕ) (d e : Datum) (s t : State) (o : Outcome) → link < links
    → next ≡ slice_index_or above node 0 →
    gives_above u above (links - link) node d s ≡ o → Gives e t ≡ link_at u next d s → gives_above u above (links - (link + 1)) next e t ≡ o
step_gives u above links link node next d e s t o h is i g =
    let one : links - link ≡ suc (links - (link + 1)) = omega arith in
    ap (λ x. and_then x (gives_above u above (links - (link + 1)) next)) g
    ∙ ap (λ n. and_then (link_at u n d s) (gives_above u above (links - (link + 1)) n)) is
    ∙ sym (gives_up u above (links - link) (links - (link + 1)) node d s one)
    ∙ i

pub step_wrong : (u : Typed) (above : List ℕ) (links link node next at : ℕ) (reason : Reason) (d : Datum) (s t : State) (o : Outcome) → link < links
    → next ≡ slice_index_or above node 0 →
    gives_above u above (links - link) node d s ≡ o → Wrong at reason t ≡ link_at u next d s → Wrong at reason t ≡ o
step_wrong u above links link node next at reason d s t o h is i g =
    let one : links - link ≡ suc (links - (link + 1)) = omega arith in
    ap (λ x. and_then x (gives_above u above (links - (link + 1)) next)) g
    ∙ ap (λ n. and_then (link_at u n d s) (gives_above u above (links - (link + 1)) n)) is
    ∙ sym (gives_up u above (links - link) (links - (link + 1)) node d s one)
    ∙ i

-- ---- `else if`

else_next : (u : Typed) (b next : Branch) (d : Datum) (s : State) → IsElseIf u b next → is_true d ≡ false →
    taken (meaning_below u b.node) b.body b.otherwise d s ≡ branched_at u next s
else_next u b next d s e h =
    ap (λ (c : Bool). if c then (meaning_below u b.node b.body).does s else branch (meaning_below u b.node) b.otherwise s) h
    ∙ ap (λ (o : Option ℕ). branch (meaning_below u b.node) o s) e.otherwise
    ∙ ap (λ (m : Meaning). m.does s) (below_is u b.node next.node e.before)
    ∙ ap (λ (m : Meaning). m.does s) (meaning_is u next.node)
    ∙ ap (λ (k : Kind). statement u (meaning_below u next.node) next.node k s) e.kind

pub branch_next : (u : Typed) (b next : Branch) (d : Datum) (own ticked later again : Own) (frame new : List ℕ) → IsElseIf u b next
    → is_true d ≡ false → ticked ≡ memory.tick own →
    Gives d (full later new) ≡ value (meaning_below u b.node b.condition) (full ticked frame) → again ≡ memory.tick later →
    branched_at u next (full again new) ≡ branched_at u b (full own frame)
branch_next u b next d own ticked later again frame new e h one g other =
    ap (λ (o : Own). branched_at u next (full o new)) other
    ∙ sym (else_next u b next d (tick (full later new)) e h)
    ∙ ap (λ (o : Outcome). and_then o (λ a v. taken (meaning_below u b.node) b.body b.otherwise a (tick v))) g
    ∙ ap (λ (o : Own). and_then (value (meaning_below u b.node b.condition) (full o frame))
    (λ a v. taken (meaning_below u b.node) b.body b.otherwise a (tick v))) one
