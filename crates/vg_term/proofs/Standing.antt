-- Where a node stands among the terms, and where it doesn't.
use Rattle.std.proofs.Common.{◌≡◌, ℕ, suc, zero, ◌+◌, ◌<◌, Bool, false, List, [], ◌∷◌, ◌++◌, length, get_or, slice_get, position, Some, None, Result}
use Rattle.std.proofs.Common.{Ok, Err, is_ok, Contains, sym, ap, subst, ◌∙◌, true≢false, arith}
use Rattle.std.proofs.lemmas.List.{get_or-map, length-map}
use Rattle.std.proofs.lemmas.List.Quantifiers.{position-Some}
use Rattle.std.proofs.lemmas.Option.{slice_get-get_or, slice_get_within, get_or_from_slice_get}
use Rattle.std.specs.List.{AllByRecursion}
use Rattle.std.specs.Map.{keys_of}
use Rattle.std.specs.HashMap.{HashMap}
use Rattle.std.proofs.lemmas.List.{length-append}
use Rattle.std.proofs.lemmas.Option.{slice_get_read}
use Rattle.std.proofs.Math.Seq.{get_or-append_seam}
use Rattle.indexmap.specs.IndexMap.{insert_entry}
use Rattle.indexmap.proofs.MapLemmas.{Missing-position}
use Rattle.indexmap.proofs.CallerLemmas.{insert_entry-new}
use Rattle.vg_term.specs.declared.node.TermId.{TermId}
use Rattle.vg_term.specs.declared.stops.TermStop.{TermStop}
use Rattle.vg_term.specs.declared.stops.TermStop.TheVariants as stops
use Rattle.vg_term.specs.Terms.{Term, HasWidth}
use Rattle.vg_term.specs.declared.node.Node.{Node}
use Rattle.vg_term.proofs.Same.{same_node, node-same, node-itself}

pub contains_at : (terms : List Term) (at : ℕ) (t : Term) → slice_get terms at ≡ Some t → Contains terms t
contains_at terms at t e = (at, slice_get_within terms at t e, get_or_from_slice_get terms at t t e)

-- the place that is found holds the node
pub found : (terms : List Term) (node : Node) (width : ℕ) (at : ℕ) → HasWidth terms node width → position (same_node node) (keys_of terms) ≡ Some at
    → slice_get terms at ≡ Some (node, width)
found terms node width at has e =
    let key = position-Some (same_node node) (keys_of terms) at node e in
    let d : Term = (node, width) in
    let as_long : length (keys_of terms) ≡ length terms = length-map terms (λ (t : Term). t.0) in
    let within : at < length terms = omega (arith, key.0, as_long) in
    let t = get_or terms at d in
    let here : slice_get terms at ≡ Some t = slice_get-get_or terms at d within in
    let is : get_or (keys_of terms) at node ≡ t.0 = get_or-map (λ (t : Term). t.0) terms at d node within in
    let same : node ≡ t.0 = node-same node t.0 (ap (same_node node) (sym is) ∙ key.1) in
    let whole : Some t ≡ Some (node, t.1) = ap (λ n. Some (n, t.1)) (sym same) in
    here ∙ whole ∙ ap (λ w. Some (node, w)) (has at t.1 (here ∙ whole))

absent_at : (t : Node → Bool) (terms : List Term) (at : ℕ) (e : Term) → AllByRecursion (λ k. t k ≡ false) (keys_of terms) → at < length terms
    → get_or terms at e ≡ e → t e.0 ≡ false
absent_at t [] at e h p q = let none : ⊥ = omega (arith, p) in absurd none
absent_at t (x ∷ xs) zero e h p q = subst (λ (y : Term). t y.0 ≡ false) q h.0
absent_at t (x ∷ xs) (suc at) e h p q = absent_at t xs at e h.1 (omega arith) q

-- where no place is found it stands nowhere
pub absent : (terms : List Term) (node : Node) (width : ℕ) → position (same_node node) (keys_of terms) ≡ None → Contains terms (node, width) → ⊥
absent terms node width e there =
    let no = absent_at (same_node node) terms there.0 (node, width) (Missing-position (same_node node) terms e).absent there.1 there.2 in
    true≢false (sym (node-itself node) ∙ no)

-- the last of a list
pub last_is : {X : Type 0} (xs : List X) (x : X) → slice_get (xs ++ x ∷ []) (length xs) ≡ Some x
last_is xs x =
    let longer = length-append xs (x ∷ []) in
    slice_get_read (xs ++ x ∷ []) (length xs + 1) (length xs) x (omega (arith, longer)) (omega arith) (sym (get_or-append_seam xs x [] x))

pub answered : {id : TermId} → ◌≡◌ {A = Result TermId TermStop} (Ok id) (Err stops.Full) → ⊥
answered {id} e = true≢false (ap is_ok e)

-- a new node goes last
pub added : {S : Type 0} (m : HashMap Node ℕ S) (node : Node) (width : ℕ) → position (same_node node) (keys_of m.entries) ≡ None
    → insert_entry same_node m.entries node width ≡ m.entries ++ (node, width) ∷ []
added m node width e = insert_entry-new same_node m node width (Missing-position (same_node node) m.entries e).value
