-- Whole texts: what is read of them is what they spell.
use Rattle.std.proofs.Common.{◌≡◌, ◌∙◌, ◌≤◌, ◌+◌, inl, inr, ℕ, zero, suc, Bool, true, List, length, slice_get, Ok}
use Rattle.std.proofs.Common.{sym, ap, subst, arith}
use Rattle.std.proofs.lemmas.Option.{slice_get_within}
use Rattle.vg_forms.specs.Forms.{Form, Plain, Place, One, Unless, Both, Either, Chain, Inner, Made, Growth}
use Rattle.vg_forms.specs.Places.{State, place_at, passes}
use Rattle.vg_forms.specs.Spelling.{Spelled, start}
use Rattle.vg_forms.specs.Guided.{GuidedTurns, guided_with, guided_inner, guided, Guides}
use Rattle.vg_forms.specs.Reading.{read_inner, read}
use Rattle.vg_forms.proofs.Onward.{same_state, either_side}
use Rattle.vg_forms.proofs.Rooms.{inner_gains}
use Rattle.vg_forms.proofs.Checks.{tidy}
use Rattle.vg_forms.proofs.Agreement.{complete, sound}
use Rattle.vg_forms.specs.declared.token.Token.{Token}
use Rattle.vg_forms.proofs.Checks.{Law}

module _ {K N G : Type 0} (law : Law K N G) where
  module _ (toks : List (Token K)) where
    pub inner_complete : (room : ℕ) (n : N) (s : State G) (a : ℕ) (t : State G) → guided_inner law.grammar toks room n s a t
        → read_inner law.grammar toks room n s ≡ Ok (a, t)
    inner_complete zero n s a t is = absurd is
    inner_complete (suc room) n s a t (so, is) =
        rw so (complete law toks (read_inner law.grammar toks room) (guided_inner law.grammar toks room) (inner_gains law toks room)
        (λ m u b v h. inner_complete room m u b v h)
        (law.grammar.form n) (law.form_tidy n) s a t is)

    pub inner_sound : (room : ℕ) (n : N) (s : State G) (a : ℕ) (t : State G) → read_inner law.grammar toks room n s ≡ Ok (a, t)
        → guided_inner law.grammar toks room n s a t
    inner_sound zero n s a t e = either_side (passes (law.grammar.begins n) (slice_get toks s.at)) (λ so is. absurd (cc)) (λ unless is. absurd (cc)) e
    inner_sound (suc room) n s a t e =
        either_side (passes (law.grammar.begins n) (slice_get toks s.at))
        (λ so is. (
          so,
          sound law toks (read_inner law.grammar toks room) (guided_inner law.grammar toks room) (inner_gains law toks room)
              (λ m u b v h. inner_sound room m u b v h)
              (law.grammar.form n) (law.form_tidy n) s a t is,
        ))
        (λ unless is. absurd (cc)) e

    pub all_complete : {A : Type 0} (room : ℕ) (f : Form K N G A) → tidy f ≡ true → (s : State G) (a : A) (t : State G)
        → guided law.grammar toks room f s a t
        → read law.grammar toks room f s ≡ Ok (a, t)
    all_complete room f neat s a t is = complete law toks (read_inner law.grammar toks room) (guided_inner law.grammar toks room)
        (inner_gains law toks room) (inner_complete room) f
        neat s a t is

    pub all_sound : {A : Type 0} (room : ℕ) (f : Form K N G A) → tidy f ≡ true → (s : State G) (a : A) (t : State G)
        → read law.grammar toks room f s ≡ Ok (a, t)
        → guided law.grammar toks room f s a t
    all_sound room f neat s a t e = sound law toks (read_inner law.grammar toks room) (guided_inner law.grammar toks room) (inner_gains law toks room)
        (inner_sound room) f neat s a t e

    -- nothing goes past the last token
    Stays : {A : Type 0} → Spelled G A → Type 0
    Stays says = (s : State G) (a : _) (t : State G) → says s a t → s.at ≤ length toks → t.at ≤ length toks

    turns_stay : {A : Type 0} (n : ℕ) (test : Token K → Bool) (more : Spelled G (ℕ → A → Growth G A))
        → ((s : State G) (g : ℕ → A → Growth G A) (t : State G) → more s g t → s.at ≤ length toks → t.at ≤ length toks)
        → (at : ℕ) (a : A) (s : State G) (b : A) (t : State G) → GuidedTurns toks n test more at a s b t → s.at ≤ length toks
        → t.at ≤ length toks
    turns_stay zero test more h at a s b t (unless, same, to) within = subst (λ (u : State G). u.at ≤ length toks) (sym to) within
    turns_stay (suc n) test more h at a s b t (so, g, u, one, rest) within =
        turns_stay n test more h at (g at a u.tree).0 (record u { tree = (g at a u.tree).1 }) b t rest (h s g u one within)

    stays_with : (says : N → Spelled G ℕ) → ((n : N) (s : State G) (a : ℕ) (t : State G) → says n s a t → s.at ≤ length toks
        → t.at ≤ length toks)
        → {A : Type 0} (f : Form K N G A) (s : State G) (a : A) (t : State G) → guided_with toks says f s a t → s.at ≤ length toks
        → t.at ≤ length toks
    stays_with says h (Plain b) s a t (same, to) within = subst (λ (u : State G). u.at ≤ length toks) (sym to) within
    stays_with says h Place s a t (same, to) within = subst (λ (u : State G). u.at ≤ length toks) (sym to) within
    stays_with says h (One test) s a t (x, found, is, to) within = subst (λ (u : State G). u.at ≤ length toks) (sym to)
        (omega (arith, slice_get_within toks s.at x found))
    stays_with says h (Unless test) s a t (unless, to) within = subst (λ (u : State G). u.at ≤ length toks) (sym to) within
    stays_with says h (Both f x) s b t (g, u, a, one, two, same) within = stays_with says h x u a t two (stays_with says h f s g u one within)
    stays_with says h (Either test x y) s a t (inl (so, one)) within = stays_with says h x s a t one within
    stays_with says h (Either test x y) s a t (inr (unless, two)) within = stays_with says h y s a t two within
    stays_with says h (Chain test x more) s b t (a, u, n, one, rest) within =
        turns_stay n test (guided_with toks says more) (λ v g w is. stays_with says h more v g w is) (place_at toks s.at) a u b t rest
        (stays_with says h x s a u one within)
    stays_with says h (Inner n) s a t is within = h n s a t is within
    stays_with says h (Made f) s a t (g, u, one, same, to) within = subst (λ (v : State G). v.at ≤ length toks) (sym to)
        (stays_with says h f s g u one within)

    inner_stays : (room : ℕ) (n : N) (s : State G) (a : ℕ) (t : State G) → guided_inner law.grammar toks room n s a t → s.at ≤ length toks
        → t.at ≤ length toks
    inner_stays zero n s a t is within = absurd is
    inner_stays (suc room) n s a t (so, is) within = stays_with (guided_inner law.grammar toks room) (λ m u b v h. inner_stays room m u b v h)
        (law.grammar.form n) s a t is within

    pub unit_ends : (room root : ℕ) (t : State G) → guided law.grammar toks room law.grammar.unit (start law.grammar) root t → t.at ≡ length toks
    unit_ends room root t is = law.unit_ends toks room root t is (stays_with (guided_inner law.grammar toks room) (inner_stays room) law.grammar.unit
        (start law.grammar) root t is (omega arith))

    -- a text that is read is spelled, and one that is gone along is read
    pub unit_spelled : (room root : ℕ) (t : State G) → read law.grammar toks room law.grammar.unit (start law.grammar) ≡ Ok (root, t)
        → Guides law.grammar room toks t.tree
    unit_spelled room root t e =
        let is = all_sound room law.grammar.unit law.unit_tidy (start law.grammar) root t e in
        let to : t ≡ record { at = length toks; tree = t.tree } = ap (λ (i : ℕ). record t { at = i }) (unit_ends room root t is) in
        (root, subst (λ (u : State G). guided law.grammar toks room law.grammar.unit (start law.grammar) root u) to is)

    pub unit_read : (room : ℕ) (tree : G) → Guides law.grammar room toks tree → (root : ℕ)
        × (read law.grammar toks room law.grammar.unit (start law.grammar) ≡ Ok (root, record { at = length toks; tree = tree }))
    unit_read room tree is = (is.0, all_complete room law.grammar.unit law.unit_tidy (start law.grammar) is.0 (record { at = length toks; tree = tree }) is.1)

    -- more room spells the same and more
    wider_turns : {A : Type 0} (n : ℕ) (test : Token K → Bool) (one two : Spelled G (ℕ → A → Growth G A))
        → ((s : State G) (g : ℕ → A → Growth G A) (t : State G) → one s g t → two s g t)
        → (at : ℕ) (a : A) (s : State G) (b : A) (t : State G) → GuidedTurns toks n test one at a s b t → GuidedTurns toks n test two at a s b t
    wider_turns zero test one two h at a s b t is = is
    wider_turns (suc n) test one two h at a s b t (so, g, u, more, rest) = (
      so,
      g,
      u,
      h s g u more,
      wider_turns n test one two h at (g at a u.tree).0 (record u { tree = (g at a u.tree).1 }) b t rest,
    )

    wider : (one two : N → Spelled G ℕ) → ((n : N) (s : State G) (a : ℕ) (t : State G) → one n s a t → two n s a t)
        → {A : Type 0} (f : Form K N G A) (s : State G) (a : A) (t : State G) → guided_with toks one f s a t → guided_with toks two f s a t
    wider one two h (Plain b) s a t is = is
    wider one two h Place s a t is = is
    wider one two h (One test) s a t is = is
    wider one two h (Unless test) s a t is = is
    wider one two h (Both f x) s b t (g, u, a, first, second, same) = (g, u, a, wider one two h f s g u first, wider one two h x u a t second, same)
    wider one two h (Either test x y) s a t (inl (so, is)) = inl (so, wider one two h x s a t is)
    wider one two h (Either test x y) s a t (inr (unless, is)) = inr (unless, wider one two h y s a t is)
    wider one two h (Chain test x more) s b t (a, u, n, first, rest) = (
      a,
      u,
      n,
      wider one two h x s a u first,
      wider_turns n test (guided_with toks one more) (guided_with toks two more)
          (λ v g w is. wider one two h more v g w is) (place_at toks s.at) a u b t rest,
    )
    wider one two h (Inner n) s a t is = h n s a t is
    wider one two h (Made f) s a t (g, u, first, same, to) = (g, u, wider one two h f s g u first, same, to)

    inner_wider : (room : ℕ) (n : N) (s : State G) (a : ℕ) (t : State G) → guided_inner law.grammar toks room n s a t
        → guided_inner law.grammar toks (suc room) n s a t
    inner_wider zero n s a t is = absurd is
    inner_wider (suc room) n s a t (so, is) = (
      so,
      wider (guided_inner law.grammar toks room) (guided_inner law.grammar toks (suc room)) (λ m u b v h. inner_wider room m u b v h)
          (law.grammar.form n) s a t is,
    )

    pub spells_wider : (room : ℕ) (tree : G) → Guides law.grammar room toks tree → Guides law.grammar (suc room) toks tree
    spells_wider room tree is = (
      is.0,
      wider (guided_inner law.grammar toks room) (guided_inner law.grammar toks (suc room)) (inner_wider room) law.grammar.unit (start law.grammar) is.0
          (record { at = length toks; tree = tree }) is.1,
    )

    pub spells_roomier : (more room : ℕ) (tree : G) → Guides law.grammar room toks tree → Guides law.grammar (room + more) toks tree
    spells_roomier zero room tree is = let same : room ≡ room + 0 = omega arith in subst (λ (r : ℕ). Guides law.grammar r toks tree) same is
    spells_roomier (suc more) room tree is = let same : suc (room + more) ≡ room + suc more = omega arith in
        subst (λ (r : ℕ). Guides law.grammar r toks tree) same (spells_wider (room + more) tree (spells_roomier more room tree is))

    -- there is one tree at most
    pub one_tree : (room left : ℕ) (a b : G) → Guides law.grammar room toks a → Guides law.grammar left toks b → a ≡ b
    one_tree room left a b one two =
        let first = unit_read (room + left) a (spells_roomier left room a one) in
        let sum : left + room ≡ room + left = omega arith in
        let second = unit_read (room + left) b (subst (λ (r : ℕ). Guides law.grammar r toks b) sum (spells_roomier room left b two)) in
        ap (λ (s : State G). s.tree) (same_state law {a = first.0} {b = second.0} (sym first.1 ∙ second.1))
