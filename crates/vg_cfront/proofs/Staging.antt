-- What the stages of a text's reading say together.
use Rattle.std.proofs.Common.{◌≡◌, ◌∙◌, ◌⊎◌, inl, inr, ℕ, List, Result, Ok, Err, refl, sym, ap, subst}
use Rattle.std.specs.Prelude.{IfErr, IsErr, IsErrAnd, MatchResult}
use Rattle.vg_core.specs.Syntax.{Syntax}
use Rattle.vg_core.specs.Units.{Typed}
use Rattle.vg_ctok.specs.Texts.{AreTokens}
use Rattle.vg_ctok.specs.Texts as texts
use Rattle.vg_ctok.specs.declared.kinds.Token.{Token}
use Rattle.vg_ctok.specs.declared.kinds.TokFault.{TokFault}
use Rattle.vg_ctok.specs.declared.kinds.TokFault.TheVariants as tok
use Rattle.vg_cread.specs.Spelling.{Spells}
use Rattle.vg_cread.specs.Refusals as trees
use Rattle.vg_cread.specs.declared.reading.ReadFault.{ReadFault}
use Rattle.vg_cread.specs.declared.reading.ReadFault.TheVariants as read
use Rattle.vg_core.specs.declared.unit.Note.{Note}
use Rattle.vg_ctyper.specs.WellTyped.{IsWellTyped, IsFirstFault}
use Rattle.vg_ctyper.specs.declared.fault.TypeFault.{TypeFault}
use Rattle.vg_ctyper.specs.declared.fault.TypeFault.TheVariants as types
use Rattle.vg_cfront.specs.declared.fault.CFault.{CFault}
use Rattle.vg_cfront.specs.declared.fault.CFault.TheVariants.{Memory}
use Rattle.vg_cfront.specs.Units.{IsUnitOf}
use Rattle.vg_cfront.specs.Refusals.{of_tokens, of_tree, of_types, Refuses}

pub err_is : (r : Result Typed CFault) (x : CFault) → IsErr r × IsErrAnd r (λ e. e ≡ x) → r ≡ Err x
err_is (Ok u) x h = absurd (cc h.0)
err_is (Err e) x h = ap (λ f. Err f) h.1

-- an answer that is no unit leaves none
none_left : (text : List ℕ) (r : Result Typed CFault) (x : CFault) → r ≡ Err x → x ≡ Memory → (u : Typed) → MatchResult r (λ v. v ≡ u) (λ e. e ≡ Memory)
none_left text r x is none u = subst (λ (s : Result Typed CFault). MatchResult s (λ v. v ≡ u) (λ e. e ≡ Memory)) (sym is) none

pub tokens_only : (text : List ℕ) (r : Result Typed CFault) (f : TokFault) → r ≡ Err (of_tokens f)
    → ((ts : List Token) → AreTokens text ts → f ≡ tok.Memory) → (u : Typed) → IsUnitOf text u
    → MatchResult r (λ v. v ≡ u) (λ e. e ≡ Memory)
tokens_only text r f is h u of = none_left text r (of_tokens f) is (ap of_tokens (h of.tokens of.are_tokens)) u

module _ (text : List ℕ) (given : List Token) (one : (ts : List Token) → AreTokens text ts → given ≡ ts) where
  -- the tree of a unit is spelled by the tokens that are given
  spelled : (u : Typed) → IsUnitOf text u → Spells 64 given u.tree
  spelled u of = subst (λ ts. Spells 64 ts u.tree) (sym (one of.tokens of.are_tokens)) of.spells

  pub tree_only : (r : Result Typed CFault) (f : ReadFault) → r ≡ Err (of_tree f) → ((tree : Syntax) → Spells 64 given tree → f ≡ read.Memory)
      → (u : Typed) → IsUnitOf text u → MatchResult r (λ v. v ≡ u) (λ e. e ≡ Memory)
  tree_only r f is h u of = none_left text r (of_tree f) is (ap of_tree (h u.tree (spelled u of))) u

  module _ (tree : Syntax) (spells : (other : Syntax) → Spells 64 given other → tree ≡ other) where
    -- a unit of the text is one of its tree
    typed_so : (u : Typed) → IsUnitOf text u → IsWellTyped (record { text = text; tree = tree; notes = u.notes })
    typed_so u of =
        let first : IsWellTyped (record { text = text; tree = u.tree; notes = u.notes }) =
        subst (λ (t : List ℕ). IsWellTyped (record { text = t; tree = u.tree; notes = u.notes })) of.of of.typed in
        subst (λ (t : Syntax). IsWellTyped (record { text = text; tree = t; notes = u.notes })) (sym (spells u.tree (spelled u of))) first

    pub type_only : (r : Result Typed CFault) (f : TypeFault) → r ≡ Err (of_types f) → ((ns : List Note)
        → IsWellTyped (record { text = text; tree = tree; notes = ns }) → f ≡ types.Memory) → (u : Typed) → IsUnitOf text u
        → MatchResult r (λ v. v ≡ u) (λ e. e ≡ Memory)
    type_only r f is h u of = none_left text r (of_types f) is (ap of_types (h u.notes (typed_so u of))) u

    pub unit_only : (v : Typed) → v.text ≡ text → v.tree ≡ tree → ((ns : List Note) → IsWellTyped (record { text = text; tree = tree; notes = ns })
        → v.notes ≡ ns) → (u : Typed) → IsUnitOf text u → v ≡ u
    unit_only v same_text same_tree h u of =
        ap (λ (t : List ℕ). record v { text = t }) (same_text ∙ sym of.of)
        ∙ ap (λ (t : Syntax). record { text = u.text; tree = t; notes = v.notes }) (same_tree ∙ spells u.tree (spelled u of))
        ∙ ap (λ (ns : List Note). record { text = u.text; tree = u.tree; notes = ns }) (h u.notes (typed_so u of))

    -- a text with a unit has no fault
    pub not_refused : ((f : TokFault) → texts.Refuses text f → ⊥) → ((f : ReadFault) → trees.Refuses given f → ⊥)
        → ((f : TypeFault) → IsFirstFault text tree f → ⊥) → (e : CFault) → Refuses text e → ⊥
    not_refused a b c e (inl (f, is, same)) = a f is
    not_refused a b c e (inr (inl (ts, are, f, is, same))) = b f (subst (λ l. trees.Refuses l f) (sym (one ts are)) is)
    not_refused a b c e (inr (inr (ts, are, other, spelled_by, f, is, same))) =
        c f (subst (λ (t : Syntax). IsFirstFault text t f) (sym (spells other (subst (λ l. Spells 64 l other) (sym (one ts are)) spelled_by))) is)

pub types_fault : (text : List ℕ) (given : List Token) (tree : Syntax) (r : Result Typed CFault) (f : TypeFault) → r ≡ Err (of_types f)
    → AreTokens text given → Spells 64 given tree
    → (f ≡ types.Memory) ⊎ IsFirstFault text tree f → IfErr r (λ e. (e ≡ Memory) ⊎ Refuses text e)
types_fault text given tree r f is are spells (inl none) = subst (λ (s : Result Typed CFault). IfErr s (λ e. (e ≡ Memory) ⊎ Refuses text e)) (sym is)
    (inl (ap of_types none))
types_fault text given tree r f is are spells (inr first) =
    subst (λ (s : Result Typed CFault). IfErr s (λ e. (e ≡ Memory) ⊎ Refuses text e)) (sym is) (inr (inr (inr (given, are, tree, spells, f, first, refl))))

-- ---- the fault that a text has is the one that is answered

pub told : (r : Result Typed CFault) (x e : CFault) → r ≡ Err x → (x ≡ Memory) ⊎ (x ≡ e) → MatchResult r (λ _. ⊥) (λ f. (f ≡ Memory) ⊎ (f ≡ e))
told r x e is h = subst (λ (s : Result Typed CFault). MatchResult s (λ _. ⊥) (λ f. (f ≡ Memory) ⊎ (f ≡ e))) (sym is) h

-- where the bytes are no tokens
pub bytes_told : (text : List ℕ) (g : TokFault) → ((f : TokFault) → texts.Refuses text f → (g ≡ tok.Memory) ⊎ (g ≡ f))
    → ((ts : List Token) → AreTokens text ts → g ≡ tok.Memory)
    → (e : CFault) → Refuses text e → (of_tokens g ≡ Memory) ⊎ (of_tokens g ≡ e)
bytes_told text g first none e (inl (f, is, same)) = elim (first f is) [ inl m ↦ inl (ap of_tokens m) | inr s ↦ inr (ap of_tokens s ∙ sym same) ]
bytes_told text g first none e (inr (inl (ts, are, f, is, same))) = inl (ap of_tokens (none ts are))
bytes_told text g first none e (inr (inr (ts, are, tree, spells, f, is, same))) = inl (ap of_tokens (none ts are))

module _ (text : List ℕ) (given : List Token) (one : (ts : List Token) → AreTokens text ts → given ≡ ts) (cut : (f : TokFault) → texts.Refuses text f → ⊥) where
  -- where the tokens spell no tree
  pub tokens_told : (g : ReadFault) → ((f : ReadFault) → trees.Refuses given f → (g ≡ read.Memory) ⊎ (g ≡ f))
      → ((tree : Syntax) → Spells 64 given tree → g ≡ read.Memory)
      → (e : CFault) → Refuses text e → (of_tree g ≡ Memory) ⊎ (of_tree g ≡ e)
  tokens_told g first none e (inl (f, is, same)) = absurd (cut f is)
  tokens_told g first none e (inr (inl (ts, are, f, is, same))) =
      elim (first f (subst (λ l. trees.Refuses l f) (sym (one ts are)) is)) [ inl m ↦ inl (ap of_tree m) | inr s ↦ inr (ap of_tree s ∙ sym same) ]
  tokens_told g first none e (inr (inr (ts, are, tree, spells, f, is, same))) =
      inl (ap of_tree (none tree (subst (λ l. Spells 64 l tree) (sym (one ts are)) spells)))

  -- where the tree isn't well typed
  pub tree_told : (tree : Syntax) → ((other : Syntax) → Spells 64 given other → tree ≡ other) → ((f : ReadFault) → trees.Refuses given f → ⊥)
      → (g : TypeFault) → ((f : TypeFault) → IsFirstFault text tree f → (g ≡ types.Memory) ⊎ (g ≡ f))
      → (e : CFault) → Refuses text e → (of_types g ≡ Memory) ⊎ (of_types g ≡ e)
  tree_told tree spells whole g first e (inl (f, is, same)) = absurd (cut f is)
  tree_told tree spells whole g first e (inr (inl (ts, are, f, is, same))) = absurd (whole f (subst (λ l. trees.Refuses l f) (sym (one ts are)) is))
  tree_told tree spells whole g first e (inr (inr (ts, are, other, spelled_by, f, is, same))) =
      elim (first f (subst (λ (t : Syntax). IsFirstFault text t f) (sym (spells other (subst (λ l. Spells 64 l other) (sym (one ts are)) spelled_by))) is)) [
        | inl m ↦ inl (ap of_types m)
        | inr s ↦ inr (ap of_types s ∙ sym same)
      ]
