-- What typing notes of a node of a well typed text.
use Rattle.std.proofs.Common.{◌≡◌, ℕ, ◌<◌, Bool, List, [], ◌∷◌, ◌++◌, length, take, slice_get, get_or, All, Option, Some, None, refl, sym, ap, subst}
use Rattle.std.proofs.Common.{arith, ◌∙◌, ◌⊎◌, inl, inr}
use Rattle.std.proofs.lemmas.Option.{get_or_from_slice_get, slice_get_within, slice_get_read, slice_get-get_or}
use Rattle.std.proofs.lemmas.List.{get_or-take}
use Rattle.std.proofs.lemmas.List.Elements.{All-get_or}
use Rattle.std.proofs.Math.ListN.{length-append}
use Rattle.std.proofs.lemmas.List.{length-take}
use Rattle.std.proofs.Math.Seq.{get_or-append_seam}
use Rattle.vg_core.specs.Units.{Typed}
use Rattle.vg_core.specs.Syntax.{listed, parts_of}
use Rattle.vg_core.specs.declared.tree.Node.{Node}
use Rattle.vg_core.specs.declared.tree.Name.{Name}
use Rattle.vg_core.specs.declared.tree.IntType.{IntType}
use Rattle.vg_core.specs.declared.tree.Kind.{Kind}
use Rattle.vg_core.specs.declared.tree.Kind.TheVariants as nodes
use Rattle.vg_core.specs.declared.tree.Parts.{Parts}
use Rattle.vg_ctyper.specs.declared.fault.TypeFault.{TypeFault}
use Rattle.vg_cscope.specs.Scopes as scopes
use Rattle.vg_ctyper.specs.Notes.{note_of, note_unless, node_steps, steps_of, steps_at}
use Rattle.vg_ctyper.specs.WellTyped.{IsWellTyped}
use Rattle.vg_cmean.specs.Typings as typings
use Rattle.vg_cmean.specs.Typings.{kind_at, referent_at}
use Rattle.vg_cbounds.specs.Bounds.{noted_steps, known}

same_kind : (o : Option Node) → typings.kind_of_node o ≡ scopes.kind_of o
same_kind None = refl
same_kind (Some node) = refl

pub kinds_are_one : (u : Typed) (n : ℕ) → kind_at u n ≡ scopes.kind_at u.tree n
kinds_are_one u n = same_kind (slice_get u.tree.nodes n)

pub note_is : (u : Typed) (n : ℕ) → IsWellTyped u → n < length u.tree.nodes → slice_get u.notes n ≡ Some (note_of (known u n) n (kind_at u n))
note_is u n w h =
    w.notes.each n h
    ∙ ap (λ (f : Option TypeFault). Some (note_unless f (note_of (known u n) n (scopes.kind_at u.tree n)))) (w.sound n h)
    ∙ ap (λ (k : Kind). Some (note_of (known u n) n k)) (sym (kinds_are_one u n))

pub steps_noted : (u : Typed) (n : ℕ) → IsWellTyped u → n < length u.tree.nodes → noted_steps u n ≡ node_steps (known u n) n (kind_at u n)
steps_noted u n w h = ap steps_of (note_is u n w h)

-- a note on a node before
pub get_take : {A : Type 0} (xs : List A) (n p : ℕ) (x : A) → p < n → slice_get xs p ≡ Some x → slice_get (take n xs) p ≡ Some x
get_take xs n p x h e =
    let within : p < length xs = slice_get_within xs p x e in
    let here : p < length (take n xs) = grind (arith, length-take) in
    slice_get_read (take n xs) (length (take n xs)) p x refl here (sym (get_or_from_slice_get xs p x x e) ∙ sym (get_or-take n xs p x h))

pub note_before : (u : Typed) (n p : ℕ) → IsWellTyped u → p < n → p < length u.tree.nodes → slice_get (take n u.notes) p ≡ Some
    (note_of (known u p) p (kind_at u p))
note_before u n p w h l = get_take u.notes n p (note_of (known u p) p (kind_at u p)) h (note_is u p w l)

pub steps_before : (u : Typed) (n p : ℕ) → IsWellTyped u → p < n → p < length u.tree.nodes → steps_at (known u n) p ≡ noted_steps u p
steps_before u n p w h l = ap steps_of (note_before u n p w h l) ∙ sym (ap steps_of (note_is u p w l))

-- a node that is there
pub is_there : (u : Typed) (n : ℕ) → n < length u.tree.nodes → (node : Node) × (slice_get u.tree.nodes n ≡ Some node)
is_there u n h = let d : Node = record { kind = nodes.Empty; at = 0 } in (get_or u.tree.nodes n d, slice_get-get_or u.tree.nodes n d h)

-- a function is one of the nodes, and its body stands before it
empty_or_there : (o : Option Node) → (typings.kind_of_node o ≡ nodes.Empty) ⊎ ((node : Node) × (o ≡ Some node))
empty_or_there None = inl refl
empty_or_there (Some node) = inr (node, refl)

last_below : (xs : List ℕ) (body f : ℕ) → All (λ p. p < f) (xs ++ body ∷ []) → body < f
last_below xs body f h =
    let within : length xs < length (xs ++ body ∷ []) = simp length-append (omega arith) in
    subst (λ p. p < f) (get_or-append_seam xs body [] 0) (All-get_or (λ p. p < f) (xs ++ body ∷ []) (length xs) 0 within h)

pub record IsBodyOf (u : Typed) (f body : ℕ) : Type 0 where
  pub there : f < length u.tree.nodes
  pub before : body < f

body_of_there : (u : Typed) (f : ℕ) (node : Node) (is_static is_inline : Bool) (answer : Option IntType) (name : Name) (params : Parts) (body : ℕ)
    → IsWellTyped u →
    slice_get u.tree.nodes f ≡ Some node → node.kind ≡ nodes.Function is_static is_inline answer name params body → IsBodyOf u f body
body_of_there u f node is_static is_inline answer name params body w e k =
    let behind = w.ordered f node e in
    record {
      there = slice_get_within u.tree.nodes f node e;
      before = last_below (listed u.tree.items params) body f (subst (λ kind. All (λ p. p < f) (parts_of u.tree.items kind)) k behind.before);
    }

body_of_some : (u : Typed) (f : ℕ) (is_static is_inline : Bool) (answer : Option IntType) (name : Name) (params : Parts) (body : ℕ) → IsWellTyped u →
    (typings.kind_of_node (slice_get u.tree.nodes f) ≡ nodes.Empty) ⊎ ((node : Node) × (slice_get u.tree.nodes f ≡ Some node)) →
    kind_at u f ≡ nodes.Function is_static is_inline answer name params body → IsBodyOf u f body
body_of_some u f is_static is_inline answer name params body w (inl empty) e = cc
body_of_some u f is_static is_inline answer name params body w (inr some) e =
    body_of_there u f some.0 is_static is_inline answer name params body w some.1 (sym (ap typings.kind_of_node some.1) ∙ e)

pub body_of : (u : Typed) (f : ℕ) (is_static is_inline : Bool) (answer : Option IntType) (name : Name) (params : Parts) (body : ℕ) → IsWellTyped u →
    kind_at u f ≡ nodes.Function is_static is_inline answer name params body → IsBodyOf u f body
body_of u f is_static is_inline answer name params body w e =
    body_of_some u f is_static is_inline answer name params body w (empty_or_there (slice_get u.tree.nodes f)) e

-- a function's steps are those of its body
pub body_steps : (u : Typed) (f : ℕ) (is_static is_inline : Bool) (answer : Option IntType) (name : Name) (params : Parts) (body : ℕ) → IsWellTyped u →
    kind_at u f ≡ nodes.Function is_static is_inline answer name params body → noted_steps u f ≡ noted_steps u body
body_steps u f is_static is_inline answer name params body w e =
    let is = body_of u f is_static is_inline answer name params body w e in
    let below : body < length u.tree.nodes = omega (arith, is.there, is.before) in
    steps_noted u f w is.there ∙ ap (node_steps (known u f) f) e ∙ steps_before u f body w is.before below
