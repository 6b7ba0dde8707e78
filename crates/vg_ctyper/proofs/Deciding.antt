-- What the answer of the pass says of a text.
use Rattle.std.proofs.Common.{◌≡◌, ◌∙◌, ◌⊎◌, inl, inr, ℕ, List, Result, Ok, Err, sym, ap}
use Rattle.std.specs.Prelude.{IfOk, IfErr, MatchResult}
use Rattle.vg_core.specs.Syntax.{Syntax, IsOrdered, IsUsedOnce}
use Rattle.vg_core.specs.Units.{Typed}
use Rattle.vg_core.specs.declared.unit.Note.{Note}
use Rattle.vg_ctyper.specs.declared.fault.TypeFault.{TypeFault}
use Rattle.vg_ctyper.specs.declared.fault.TypeFault.TheVariants as type_faults
use Rattle.vg_ctyper.proofs.Ranking.{rank_tells}
use Rattle.vg_ctyper.specs.Passes.{typed}
use Rattle.vg_ctyper.specs.WellTyped.{AreNotes, IsWellTyped, IsFirstFault}
use Rattle.vg_ctyper.proofs.Laws.{of_text, is_well_typed, is_first_fault, typed_so, refused_so, notes_are}

same_ok : (r : Result Typed TypeFault) (u v : Typed) → r ≡ Ok u → r ≡ Ok v → u ≡ v
same_ok r u v one two = cc

same_err : (r : Result Typed TypeFault) (e f : TypeFault) → r ≡ Err e → r ≡ Err f → e ≡ f
same_err r e f one two = cc

never_both : (r : Result Typed TypeFault) (u : Typed) (e : TypeFault) → r ≡ Ok u → r ≡ Err e → ⊥
never_both r u e one two = cc

module _ (text : List ℕ) (tree : Syntax) where
  pub of_its_text : (r : Result Typed TypeFault) → IfOk r (λ u. typed text tree ≡ Ok u) → IfOk r (λ u. u.text ≡ text)
  of_its_text (Ok u) h = (of_text text tree u h).0
  of_its_text (Err e) h = tt

  pub of_its_tree : (r : Result Typed TypeFault) → IfOk r (λ u. typed text tree ≡ Ok u) → IfOk r (λ u. u.tree ≡ tree)
  of_its_tree (Ok u) h = (of_text text tree u h).1
  of_its_tree (Err e) h = tt

  pub well_typed : IsOrdered tree → IsUsedOnce tree → (r : Result Typed TypeFault) → IfOk r (λ u. typed text tree ≡ Ok u) → IfOk r (λ u. IsWellTyped u)
  well_typed ordered used (Ok u) h = is_well_typed text tree ordered used u h
  well_typed ordered used (Err e) h = tt

  pub first_fault : (r : Result Typed TypeFault) → IfErr r (λ e. (e ≡ type_faults.Memory) ⊎ (typed text tree ≡ Err e))
      → IfErr r (λ e. (e ≡ type_faults.Memory) ⊎ IsFirstFault text tree e)
  first_fault (Ok u) h = tt
  first_fault (Err e) (inl none) = inl none
  first_fault (Err e) (inr is) = inr (is_first_fault text tree e is)

  pub only_typed : (r : Result Typed TypeFault) → IfOk r (λ u. typed text tree ≡ Ok u) → IfErr r (λ e. (e ≡ type_faults.Memory) ⊎ (typed text tree ≡ Err e))
      → (ns : List Note) → IsWellTyped (record { text = text; tree = tree; notes = ns }) → MatchResult r (λ u. u.notes ≡ ns) (λ e. e ≡ type_faults.Memory)
  only_typed (Ok u) h i ns is = ap (λ (v : Typed). v.notes) (same_ok (typed text tree) u (record { text = text; tree = tree; notes = ns }) h
      (typed_so text tree ns is))
  only_typed (Err e) h (inl none) ns is = none
  only_typed (Err e) h (inr fault) ns is =
      absurd (never_both (typed text tree) (record { text = text; tree = tree; notes = ns }) e (typed_so text tree ns is) fault)

  pub only_fault : (r : Result Typed TypeFault) → IfOk r (λ u. typed text tree ≡ Ok u) → IfErr r (λ e. (e ≡ type_faults.Memory) ⊎ (typed text tree ≡ Err e))
      → (f : TypeFault) → IsFirstFault text tree f → MatchResult r (λ u. ⊥) (λ e. (e ≡ type_faults.Memory) ⊎ (e ≡ f))
  only_fault (Ok u) h i f is = let other = refused_so text tree f is in never_both (typed text tree) u other.0 h other.1
  only_fault (Err e) h (inl none) f is = inl none
  only_fault (Err e) h (inr fault) f is = let other = refused_so text tree f is in inr (same_err (typed text tree) e other.0 fault other.1
      ∙ rank_tells other.0 f other.2)

  pub notes_one : (ms ns : List Note) → AreNotes text tree ms → AreNotes text tree ns → ms ≡ ns
  notes_one ms ns one two = notes_are text tree ms one ∙ sym (notes_are text tree ns two)
