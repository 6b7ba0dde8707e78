-- Whole texts: what is read of them is what they spell.
use Rattle.std.proofs.Common.{◌≡◌, ◌∙◌, ◌≤◌, ◌+◌, inl, inr, ℕ, zero, suc, Bool, true, false, List, length, slice_get, Option, Some, None, Ok, refl}
use Rattle.std.proofs.Common.{sym, ap, subst, arith}
use Rattle.std.proofs.lemmas.Option.{slice_get_within, slice_get_cases}
use Rattle.vg_core.specs.Syntax.{Syntax}
use Rattle.vg_ctok.specs.declared.kinds.Token.{Token}
use Rattle.vg_cread.specs.Forms.{Form, Plain, Place, One, Unless, Both, Either, Chain, Inner, Made, Nested, Expression, Operand, Statement, Body, Growth}
use Rattle.vg_cread.specs.Kinds.{any_token}
use Rattle.vg_cread.specs.Grammar.{begins, form, sign, word, name, flagged, base, int_type, star, handle, array_length, initial, expression, operator}
use Rattle.vg_cread.specs.Grammar.{binary, link, unary, postfix, suffix, primary, arguments, opened, no_postfix, statement, block, pieces, piece}
use Rattle.vg_cread.specs.Grammar.{declaration, if_statement, otherwise, for_statement, step, return_statement, simple_statement, assignment, action}
use Rattle.vg_cread.specs.Grammar.{field, fields, attribute, packing, struct_item, extern_item, param, params, answer, function, item, items, unit}
use Rattle.vg_cread.specs.Places.{State, place_at, passes}
use Rattle.vg_cread.specs.Spelling.{Spelled, start}
use Rattle.vg_cread.specs.Guided.{GuidedTurns, guided_with, guided_inner, guided, Guides}
use Rattle.vg_cread.specs.Reading.{read_inner, read}
use Rattle.vg_cread.proofs.Onward.{same_state, either_side}
use Rattle.vg_cread.proofs.Rooms.{inner_gains}
use Rattle.vg_cread.proofs.Agreement.{tidy, complete, sound}

binary_tidy : (rank : ℕ) → tidy (binary rank) ≡ true
unfolding binary link operator unary postfix suffix primary opened no_postfix arguments sign word name base int_type star
binary_tidy zero = refl
binary_tidy (suc rank) = rw (binary_tidy rank) refl

pub form_tidy : (n : Nested) → tidy (form n) ≡ true
unfolding expression unary postfix suffix primary opened no_postfix arguments statement block pieces piece declaration if_statement otherwise
    for_statement step return_statement simple_statement assignment action array_length initial sign word name base int_type star
form_tidy Expression = rw (binary_tidy 10) refl
form_tidy Operand = refl
form_tidy Statement = refl
form_tidy Body = refl

pub unit_tidy : tidy unit ≡ true
unfolding unit items item struct_item extern_item function fields field attribute packing param params answer flagged handle array_length sign word
    name base int_type star
unit_tidy = refl

module _ (toks : List Token) where
  pub inner_complete : (room : ℕ) (n : Nested) (s : State) (a : ℕ) (t : State) → guided_inner toks room n s a t → read_inner toks room n s ≡ Ok (a, t)
  inner_complete zero n s a t is = absurd is
  inner_complete (suc room) n s a t (so, is) =
      rw so (complete toks (read_inner toks room) (guided_inner toks room) (inner_gains toks room) (λ m u b v h. inner_complete room m u b v h)
      (form n) (form_tidy n) s a t is)

  pub inner_sound : (room : ℕ) (n : Nested) (s : State) (a : ℕ) (t : State) → read_inner toks room n s ≡ Ok (a, t) → guided_inner toks room n s a t
  inner_sound zero n s a t e = either_side (passes (begins n) (slice_get toks s.at)) (λ so is. absurd (cc)) (λ unless is. absurd (cc)) e
  inner_sound (suc room) n s a t e =
      either_side (passes (begins n) (slice_get toks s.at))
      (λ so is. (
        so,
        sound toks (read_inner toks room) (guided_inner toks room) (inner_gains toks room) (λ m u b v h. inner_sound room m u b v h)
            (form n) (form_tidy n) s a t is,
      ))
      (λ unless is. absurd (cc)) e

  pub all_complete : {A : Type 0} (room : ℕ) (f : Form A) → tidy f ≡ true → (s : State) (a : A) (t : State) → guided toks room f s a t
      → read toks room f s ≡ Ok (a, t)
  all_complete room f neat s a t is = complete toks (read_inner toks room) (guided_inner toks room) (inner_gains toks room) (inner_complete room) f
      neat s a t is

  pub all_sound : {A : Type 0} (room : ℕ) (f : Form A) → tidy f ≡ true → (s : State) (a : A) (t : State) → read toks room f s ≡ Ok (a, t)
      → guided toks room f s a t
  all_sound room f neat s a t e = sound toks (read_inner toks room) (guided_inner toks room) (inner_gains toks room) (inner_sound room) f neat s a t e

  -- nothing goes past the last token
  Stays : {A : Type 0} → Spelled A → Type 0
  Stays says = (s : State) (a : _) (t : State) → says s a t → s.at ≤ length toks → t.at ≤ length toks

  turns_stay : {A : Type 0} (n : ℕ) (test : Token → Bool) (more : Spelled (ℕ → A → Growth A))
      → ((s : State) (g : ℕ → A → Growth A) (t : State) → more s g t → s.at ≤ length toks → t.at ≤ length toks)
      → (at : ℕ) (a : A) (s : State) (b : A) (t : State) → GuidedTurns toks n test more at a s b t → s.at ≤ length toks → t.at ≤ length toks
  turns_stay zero test more h at a s b t (unless, same, to) within = subst (λ (u : State). u.at ≤ length toks) (sym to) within
  turns_stay (suc n) test more h at a s b t (so, g, u, one, rest) within =
      turns_stay n test more h at (g at a u.tree).0 (record u { tree = (g at a u.tree).1 }) b t rest (h s g u one within)

  stays_with : (says : Nested → Spelled ℕ) → ((n : Nested) (s : State) (a : ℕ) (t : State) → says n s a t → s.at ≤ length toks → t.at ≤ length toks)
      → {A : Type 0} (f : Form A) (s : State) (a : A) (t : State) → guided_with toks says f s a t → s.at ≤ length toks → t.at ≤ length toks
  stays_with says h (Plain b) s a t (same, to) within = subst (λ (u : State). u.at ≤ length toks) (sym to) within
  stays_with says h Place s a t (same, to) within = subst (λ (u : State). u.at ≤ length toks) (sym to) within
  stays_with says h (One test) s a t (x, found, is, to) within = subst (λ (u : State). u.at ≤ length toks) (sym to)
      (omega (arith, slice_get_within toks s.at x found))
  stays_with says h (Unless test) s a t (unless, to) within = subst (λ (u : State). u.at ≤ length toks) (sym to) within
  stays_with says h (Both f x) s b t (g, u, a, one, two, same) within = stays_with says h x u a t two (stays_with says h f s g u one within)
  stays_with says h (Either test x y) s a t (inl (so, one)) within = stays_with says h x s a t one within
  stays_with says h (Either test x y) s a t (inr (unless, two)) within = stays_with says h y s a t two within
  stays_with says h (Chain test x more) s b t (a, u, n, one, rest) within =
      turns_stay n test (guided_with toks says more) (λ v g w is. stays_with says h more v g w is) (place_at toks s.at) a u b t rest
      (stays_with says h x s a u one within)
  stays_with says h (Inner n) s a t is within = h n s a t is within
  stays_with says h (Made f) s a t (g, u, one, same, to) within = subst (λ (v : State). v.at ≤ length toks) (sym to) (stays_with says h f s g u one within)

  inner_stays : (room : ℕ) (n : Nested) (s : State) (a : ℕ) (t : State) → guided_inner toks room n s a t → s.at ≤ length toks → t.at ≤ length toks
  inner_stays zero n s a t is within = absurd is
  inner_stays (suc room) n s a t (so, is) within = stays_with (guided_inner toks room) (λ m u b v h. inner_stays room m u b v h) (form n) s a t is within

  -- a unit goes to the last token
  no_token : (i : ℕ) (o : Option Token) → slice_get toks i ≡ o → passes any_token o ≡ false → i ≤ length toks → i ≡ length toks
  no_token i None is unless within = elim (slice_get_cases toks i).1 [ inl found ↦ absurd (cc (found.2, is)) | inr past ↦ omega (arith, past.0, within) ]
  no_token i (Some t) is unless within = absurd (cc unless)

  turns_end : {A : Type 0} (n : ℕ) (more : Spelled (ℕ → A → Growth A)) (at : ℕ) (a : A) (s : State) (b : A) (t : State)
      → GuidedTurns toks n any_token more at a s b t → passes any_token (slice_get toks t.at) ≡ false
  turns_end zero more at a s b t (unless, same, to) = subst (λ (u : State). passes any_token (slice_get toks u.at) ≡ false) (sym to) unless
  turns_end (suc n) more at a s b t (so, g, u, one, rest) = turns_end n more at (g at a u.tree).0 (record u { tree = (g at a u.tree).1 }) b t rest

  unit_done : (room root : ℕ) (t : State) → guided toks room unit start root t → passes any_token (slice_get toks t.at) ≡ false
  unfolding unit items
  unit_done room root t (g, u, (h, v, parts, front, (first, w, n, none, rest), made), same, to) =
      subst (λ (x : State). passes any_token (slice_get toks x.at) ≡ false) (sym to) (turns_end n _ _ first w parts u rest)

  unit_ends : (room root : ℕ) (t : State) → guided toks room unit start root t → t.at ≡ length toks
  unit_ends room root t is =
      no_token t.at (slice_get toks t.at) refl (unit_done room root t is) (stays_with (guided_inner toks room) (inner_stays room) unit start root t is
      (omega arith))

  -- a text that is read is spelled, and one that is gone along is read
  pub unit_spelled : (room root : ℕ) (t : State) → read toks room unit start ≡ Ok (root, t) → Guides room toks t.tree
  unit_spelled room root t e =
      let is = all_sound room unit unit_tidy start root t e in
      let to : t ≡ record { at = length toks; tree = t.tree } = ap (λ (i : ℕ). record t { at = i }) (unit_ends room root t is) in
      (root, subst (λ (u : State). guided toks room unit start root u) to is)

  pub unit_read : (room : ℕ) (tree : Syntax) → Guides room toks tree → (root : ℕ)
      × (read toks room unit start ≡ Ok (root, record { at = length toks; tree = tree }))
  unit_read room tree is = (is.0, all_complete room unit unit_tidy start is.0 (record { at = length toks; tree = tree }) is.1)

  -- more room spells the same and more
  wider_turns : {A : Type 0} (n : ℕ) (test : Token → Bool) (one two : Spelled (ℕ → A → Growth A))
      → ((s : State) (g : ℕ → A → Growth A) (t : State) → one s g t → two s g t)
      → (at : ℕ) (a : A) (s : State) (b : A) (t : State) → GuidedTurns toks n test one at a s b t → GuidedTurns toks n test two at a s b t
  wider_turns zero test one two h at a s b t is = is
  wider_turns (suc n) test one two h at a s b t (so, g, u, more, rest) = (
    so,
    g,
    u,
    h s g u more,
    wider_turns n test one two h at (g at a u.tree).0 (record u { tree = (g at a u.tree).1 }) b t rest,
  )

  wider : (one two : Nested → Spelled ℕ) → ((n : Nested) (s : State) (a : ℕ) (t : State) → one n s a t → two n s a t)
      → {A : Type 0} (f : Form A) (s : State) (a : A) (t : State) → guided_with toks one f s a t → guided_with toks two f s a t
  wider one two h (Plain b) s a t is = is
  wider one two h Place s a t is = is
  wider one two h (One test) s a t is = is
  wider one two h (Unless test) s a t is = is
  wider one two h (Both f x) s b t (g, u, a, first, second, same) = (g, u, a, wider one two h f s g u first, wider one two h x u a t second, same)
  wider one two h (Either test x y) s a t (inl (so, is)) = inl (so, wider one two h x s a t is)
  wider one two h (Either test x y) s a t (inr (unless, is)) = inr (unless, wider one two h y s a t is)
  wider one two h (Chain test x more) s b t (a, u, n, first, rest) = (
    a,
    u,
    n,
    wider one two h x s a u first,
    wider_turns n test (guided_with toks one more) (guided_with toks two more)
        (λ v g w is. wider one two h more v g w is) (place_at toks s.at) a u b t rest,
  )
  wider one two h (Inner n) s a t is = h n s a t is
  wider one two h (Made f) s a t (g, u, first, same, to) = (g, u, wider one two h f s g u first, same, to)

  inner_wider : (room : ℕ) (n : Nested) (s : State) (a : ℕ) (t : State) → guided_inner toks room n s a t → guided_inner toks (suc room) n s a t
  inner_wider zero n s a t is = absurd is
  inner_wider (suc room) n s a t (so, is) =
      (so, wider (guided_inner toks room) (guided_inner toks (suc room)) (λ m u b v h. inner_wider room m u b v h) (form n) s a t is)

  pub spells_wider : (room : ℕ) (tree : Syntax) → Guides room toks tree → Guides (suc room) toks tree
  spells_wider room tree is = (
    is.0,
    wider (guided_inner toks room) (guided_inner toks (suc room)) (inner_wider room) unit start is.0
        (record { at = length toks; tree = tree }) is.1,
  )

  pub spells_roomier : (more room : ℕ) (tree : Syntax) → Guides room toks tree → Guides (room + more) toks tree
  spells_roomier zero room tree is = let same : room ≡ room + 0 = omega arith in subst (λ (r : ℕ). Guides r toks tree) same is
  spells_roomier (suc more) room tree is = let same : suc (room + more) ≡ room + suc more = omega arith in
      subst (λ (r : ℕ). Guides r toks tree) same (spells_wider (room + more) tree (spells_roomier more room tree is))

  -- there is one tree at most
  pub one_tree : (room left : ℕ) (a b : Syntax) → Guides room toks a → Guides left toks b → a ≡ b
  one_tree room left a b one two =
      let first = unit_read (room + left) a (spells_roomier left room a one) in
      let sum : left + room ≡ room + left = omega arith in
      let second = unit_read (room + left) b (subst (λ (r : ℕ). Guides r toks b) sum (spells_roomier room left b two)) in
      ap (λ (s : State). s.tree) (same_state {a = first.0} {b = second.0} (sym first.1 ∙ second.1))
