-- What typing gives, node by node.
use Rattle.std.proofs.Common.{◌≡◌, ℕ, zero, suc, ◌+◌, ◌<◌, ◌≤◌, List, [], ◌∷◌, ◌++◌, length, take, slice_get, false, Option, Some, None, Ok, Err}
use Rattle.std.proofs.Common.{refl, sym, ap, subst, ◌∙◌, add-one, arith, inl, inr}
use Rattle.std.specs.Prelude.{◌⊎◌}
use Rattle.std.proofs.Math.Seq.{take-length}
use Rattle.vg_core.specs.Syntax.{Syntax, IsOrdered, IsUsedOnce}
use Rattle.vg_core.specs.Units.{Typed}
use Rattle.vg_core.specs.declared.unit.Note.{Note}
use Rattle.vg_ctyper.specs.declared.fault.TypeFault.{TypeFault}
use Rattle.vg_cscope.specs.declared.standing.Standing.{Standing}
use Rattle.vg_ctyper.specs.Faults.{rank, is_before}
use Rattle.vg_cscope.specs.Scopes.{kind_at, standings_of}
use Rattle.vg_ctyper.specs.Names.{Known}
use Rattle.vg_ctyper.specs.Rules.{broken}
use Rattle.vg_ctyper.specs.Notes.{note_of, note_unless, locals_behind, whole_fault, or_else}
use Rattle.vg_ctyper.specs.Passes.{Progress, known_behind, node_typed, typed_below, or_whole, judged, typed}
use Rattle.vg_ctyper.specs.WellTyped.{known_at, locals_after, locals_before, broken_at, AreNotes, IsWellTyped, IsFirstBroken, IsFirstFault}
use Rattle.vg_ctyper.proofs.Growing.{below_next, length_grown, take_grown, get_grown, take_next}
use Rattle.vg_ctyper.proofs.Earliest.{sooner_none, sooner_either, sooner_kept, sooner_second, same_rank}

either_some : (a : Option TypeFault) → (a ≡ None) ⊎ ((x : TypeFault) × (a ≡ Some x))
either_some None = inl refl
either_some (Some x) = inr (x, refl)

no_some : (x : TypeFault) → None ≡ Some x → ⊥
no_some x e = grind arith

or_else_none : (a b : Option TypeFault) → or_else a b ≡ None → (a ≡ None) × (b ≡ None)
or_else_none a b e = grind arith

or_else_some : (a b : Option TypeFault) (f : TypeFault) → or_else a b ≡ Some f → (a ≡ Some f) ⊎ ((a ≡ None) × (b ≡ Some f))
or_else_some a b f e = grind arith

judged_ok : (text : List ℕ) (tree : Syntax) (notes : List Note) (o : Option TypeFault) (u : Typed) → judged text tree notes o ≡ Ok u → (o ≡ None)
    × (record { text = text; tree = tree; notes = notes } ≡ u)
judged_ok text tree notes o u e = grind arith

judged_err : (text : List ℕ) (tree : Syntax) (notes : List Note) (o : Option TypeFault) (f : TypeFault) → judged text tree notes o ≡ Err f → o ≡ Some f
judged_err text tree notes o f e = grind arith

-- one node further
pub typed_next :
    (text : List ℕ) (tree : Syntax) (standings : List Standing) (n : ℕ) (p q : Progress) →
    q ≡ node_typed (known_behind text tree standings p.notes) n p → p ≡ typed_below text tree standings n → q ≡ typed_below text tree standings (n + 1)
typed_next text tree standings n p q h e =
    h ∙ ap (λ r. node_typed (known_behind text tree standings r.notes) n r) e ∙ ap (typed_below text tree standings) (sym (add-one n))

module _ (text : List ℕ) (tree : Syntax) where
  abbrev behind : ℕ → Progress
  behind n = typed_below text tree (standings_of tree) n

  abbrev notes : ℕ → List Note
  notes n = (behind n).notes

  abbrev known : ℕ → Known
  known n = known_behind text tree (standings_of tree) (notes n)

  abbrev fault : ℕ → Option TypeFault
  fault n = broken (known n) (behind n).locals n

  abbrev noted : ℕ → Note
  noted n = note_unless (fault n) (note_of (known n) n (kind_at tree n))

  step : (n : ℕ) → notes (suc n) ≡ notes n ++ noted n ∷ []
  step n = refl

  first_notes : (m n : ℕ) → n ≤ m → take n (notes m) ≡ notes n
  first_notes m n h = take_grown notes noted refl step m n h

  note_at : (m n : ℕ) → n < m → slice_get (notes m) n ≡ Some (noted n)
  note_at m n h = get_grown notes noted refl step m n h

  locals_is : (m n : ℕ) → n ≤ m → locals_before text tree (notes m) n ≡ (behind n).locals
  locals_is m zero h = refl
  locals_is m (suc n) h =
      let l : n < m = omega arith in
      let k : n ≤ m = omega arith in
      ap (λ o. locals_after text tree (notes m) o n (locals_before text tree (notes m) n)) (note_at m n l)
      ∙ ap (λ b. locals_behind (known_at text tree (notes m) n) b (kind_at tree n) (noted n)) (locals_is m n k)
      ∙ ap (λ ns. locals_behind (known_behind text tree (standings_of tree) ns) (behind n).locals (kind_at tree n) (noted n)) (first_notes m n k)

  broken_is : (m n : ℕ) → n ≤ m → broken_at text tree (notes m) n ≡ fault n
  broken_is m n h =
      ap (λ l. broken (known_at text tree (notes m) n) l n) (locals_is m n h)
      ∙ ap (λ ns. broken (known_behind text tree (standings_of tree) ns) (behind n).locals n) (first_notes m n h)

  are_notes : AreNotes text tree (notes (length tree.nodes))
  are_notes = record {
    count = length_grown notes noted refl step (length tree.nodes);
    each = λ n h.
        let k : n ≤ length tree.nodes = omega arith in
        note_at (length tree.nodes) n h
        ∙ ap (λ f. Some (note_unless f (note_of (known n) n (kind_at tree n)))) (sym (broken_is (length tree.nodes) n k))
        ∙ ap (λ ns. Some (note_unless (broken_at text tree (notes (length tree.nodes)) n) (note_of (known_behind text tree (standings_of tree) ns) n
        (kind_at tree n))))
        (sym (first_notes (length tree.nodes) n k));
  }

  none_before : (m n : ℕ) → (behind m).first ≡ None → n < m → fault n ≡ None
  none_before zero n e h = absurd (omega arith)
  none_before (suc m) n e h =
      let both : ((behind m).first ≡ None) × (fault m ≡ None) = sooner_none (behind m).first (fault m) e in
      elim (below_next n m h) [ inl l ↦ none_before m n both.0 l | inr q ↦ ap fault q ∙ both.1 ]

  found : (m : ℕ) (f : TypeFault) → (behind m).first ≡ Some f → (n : ℕ) × (n < m) × (fault n ≡ Some f)
  found zero f e = absurd (no_some f e)
  found (suc m) f e = elim (sooner_either (behind m).first (fault m) f e) [
    | inl a ↦ let r : (n : ℕ) × (n < m) × (fault n ≡ Some f) = found m f a in let l : r.0 < m = r.1 in (r.0, omega arith, r.2)
    | inr b ↦ (m, omega arith, b)
  ]

  least : (m : ℕ) (f : TypeFault) → (behind m).first ≡ Some f → (n : ℕ) (g : TypeFault) → n < m → fault n ≡ Some g → is_before g f ≡ false
  least zero f e n g h i = absurd (omega arith)
  least (suc m) f e n g h i = elim (below_next n m h) [
    | inl l ↦ elim (either_some (behind m).first) [
      | inl none ↦ absurd (no_some g (sym (none_before m n none l) ∙ i))
      | inr some ↦ sooner_kept (behind m).first (fault m) f some.0 g e some.1 (least m some.0 some.1 n g l i)
    ]
    | inr q ↦ sooner_second (behind m).first (fault m) f g e (ap fault (sym q) ∙ i)
  ]

  abbrev last : ℕ
  last = length tree.nodes

  no_fault : (behind last).first ≡ None → (n : ℕ) → n < length tree.nodes → broken_at text tree (notes last) n ≡ None
  no_fault e n h =
      let k : n ≤ length tree.nodes = omega arith in
      broken_is last n k ∙ none_before last n e h

  first_broken : (f : TypeFault) → (behind last).first ≡ Some f → IsFirstBroken text tree (notes last) f
  first_broken f e =
      let r : (n : ℕ) × (n < last) × (fault n ≡ Some f) = found last f e in
      let l : r.0 < last = r.1 in
      record {
        node = r.0;
        within = r.1;
        is = broken_is last r.0 (omega arith) ∙ r.2;
        first = λ n g h i. least last f e n g h (sym (broken_is last n (omega arith)) ∙ i);
      }

  sound : IsOrdered tree → IsUsedOnce tree → or_whole tree (behind last) ≡ None → IsWellTyped (record { text = text; tree = tree; notes = notes last })
  sound ordered used e =
      let both : ((behind last).first ≡ None) × (whole_fault tree (notes last) ≡ None) = or_else_none (behind last).first (whole_fault tree (notes last)) e in
      record { ordered = ordered; used_once = used; notes = are_notes; sound = no_fault both.0; short = both.1 }

  pub is_well_typed : IsOrdered tree → IsUsedOnce tree → (u : Typed) → typed text tree ≡ Ok u → IsWellTyped u
  is_well_typed ordered used u e =
      let both : (or_whole tree (behind last) ≡ None) × (record { text = text; tree = tree; notes = notes last } ≡ u) =
      judged_ok text tree (notes last) (or_whole tree (behind last)) u e in
      subst IsWellTyped both.1 (sound ordered used both.0)

  pub is_first_fault : (f : TypeFault) → typed text tree ≡ Err f → IsFirstFault text tree f
  is_first_fault f e = record {
    notes = notes last;
    are_notes = are_notes;
    cause = elim (or_else_some (behind last).first (whole_fault tree (notes last)) f (judged_err text tree (notes last) (or_whole tree (behind last)) f e)) [
      | inl a ↦ inl (first_broken f a)
      | inr b ↦ inr (no_fault b.0, b.1)
    ];
  }

  -- what was typed keeps its text and its tree
  pub of_text : (u : Typed) → typed text tree ≡ Ok u → (u.text ≡ text) × (u.tree ≡ tree)
  of_text u e =
      let same : record { text = text; tree = tree; notes = notes last } ≡ u = (judged_ok text tree (notes last) (or_whole tree (behind last)) u e).1 in
      (ap (λ (v : Typed). v.text) (sym same), ap (λ (v : Typed). v.tree) (sym same))

  -- the notes of a tree are one
  module _ (ns : List Note) (are : AreNotes text tree ns) where
    known_same : (n : ℕ) → n ≤ length tree.nodes → (take n ns ≡ notes n) × (locals_before text tree ns n ≡ (behind n).locals)
    known_same zero h = (refl, refl)
    known_same (suc n) h =
        let l : n < length tree.nodes = omega arith in
        let k : n ≤ length tree.nodes = omega arith in
        let before = known_same n k in
        let breaks : broken_at text tree ns n ≡ fault n =
        ap (λ b. broken (known_at text tree ns n) b n) before.1
        ∙ ap (λ ms. broken (known_behind text tree (standings_of tree) ms) (behind n).locals n) before.0 in
        let note : slice_get ns n ≡ Some (noted n) =
        are.each n l ∙ ap (λ f. Some (note_unless f (note_of (known_at text tree ns n) n (kind_at tree n)))) breaks
        ∙ ap (λ ms. Some (note_unless (fault n) (note_of (known_behind text tree (standings_of tree) ms) n (kind_at tree n)))) before.0 in (
          take_next ns n (noted n) note ∙ ap (λ ms. ms ++ noted n ∷ []) before.0,
          ap (λ o. locals_after text tree ns o n (locals_before text tree ns n)) note
              ∙ ap (λ b. locals_behind (known_at text tree ns n) b (kind_at tree n) (noted n)) before.1
              ∙ ap (λ ms. locals_behind (known_behind text tree (standings_of tree) ms) (behind n).locals (kind_at tree n) (noted n)) before.0,
        )

    pub notes_are : ns ≡ notes last
    notes_are = sym (take-length ns) ∙ ap (λ m. take m ns) are.count ∙ (known_same last (omega arith)).0

  none_or_some : ((n : ℕ) → n < length tree.nodes → fault n ≡ None) → (behind last).first ≡ None
  none_or_some h = elim (either_some (behind last).first) [
    | inl none ↦ none
    | inr some ↦ let r : (n : ℕ) × (n < last) × (fault n ≡ Some some.0) = found last some.0 some.1 in absurd (no_some some.0 (sym (h r.0 r.1) ∙ r.2))
  ]

  unbroken : (ns : List Note) → AreNotes text tree ns → ((n : ℕ) → n < length tree.nodes → broken_at text tree ns n ≡ None) → (behind last).first ≡ None
  unbroken ns are h = none_or_some (λ n l. let k : n ≤ last = omega arith in sym (broken_is last n k)
      ∙ ap (λ ms. broken_at text tree ms n) (sym (notes_are ns are)) ∙ h n l)

  -- a text that is well typed is typed so
  pub typed_so : (ns : List Note) → IsWellTyped (record { text = text; tree = tree; notes = ns })
      → typed text tree ≡ Ok (record { text = text; tree = tree; notes = ns })
  typed_so ns is =
      let same : ns ≡ notes last = notes_are ns is.notes in
      let whole : whole_fault tree (notes last) ≡ None = ap (whole_fault tree) (sym same) ∙ is.short in
      let none : or_whole tree (behind last) ≡ None = ap (λ f. or_else f (whole_fault tree (notes last))) (unbroken ns is.notes is.sound) ∙ whole in
      ap (judged text tree (notes last)) none ∙ ap (λ ms. Ok (record { text = text; tree = tree; notes = ms })) (sym same)

  -- a text that has a first fault is refused for it
  refused_first : (ns : List Note) → AreNotes text tree ns → (f : TypeFault) → IsFirstBroken text tree ns f → (e : TypeFault)
      × (typed text tree ≡ Err e) × (rank e ≡ rank f)
  refused_first ns are f is =
      let same : ns ≡ notes last = notes_are ns are in
      let breaks : (n : ℕ) (g : TypeFault) → n < last → fault n ≡ Some g → broken_at text tree ns n ≡ Some g =
      λ n g l e. let k : n ≤ last = omega arith in ap (λ ms. broken_at text tree ms n) same ∙ broken_is last n k ∙ e in
      let within : is.node < last = is.within in
      let here : fault is.node ≡ Some f = let k : is.node ≤ last = omega arith in sym (broken_is last is.node k)
      ∙ ap (λ ms. broken_at text tree ms is.node) (sym same) ∙ is.is in
      elim (either_some (behind last).first) [
        | inl none ↦ absurd (no_some f (sym (none_before last is.node none within) ∙ here))
        | inr some ↦
            let r : (n : ℕ) × (n < last) × (fault n ≡ Some some.0) = found last some.0 some.1 in (
              some.0,
              ap (λ o. judged text tree (notes last) (or_else o (whole_fault tree (notes last)))) some.1,
              same_rank some.0 f (is.first r.0 some.0 r.1 (breaks r.0 some.0 r.1 r.2)) (least last some.0 some.1 is.node f within here),
            )
      ]

  pub refused_so : (f : TypeFault) → IsFirstFault text tree f → (e : TypeFault) × (typed text tree ≡ Err e) × (rank e ≡ rank f)
  refused_so f is = elim is.cause [
    | inl first ↦ refused_first is.notes is.are_notes f first
    | inr short ↦
        let same : is.notes ≡ notes last = notes_are is.notes is.are_notes in
        let whole : whole_fault tree (notes last) ≡ Some f = ap (whole_fault tree) (sym same) ∙ short.1 in
        let none : (behind last).first ≡ None = unbroken is.notes is.are_notes short.0 in (
          f,
          ap (λ o. judged text tree (notes last) (or_else o (whole_fault tree (notes last)))) none ∙ ap (judged text tree (notes last)) whole,
          refl,
        )
  ]
