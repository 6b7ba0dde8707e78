-- What the answer of a reading says of whole texts.
use Rattle.std.proofs.Common.{◌≡◌, ◌∙◌, ◌<◌, ◌≤◌, ◌+◌, inl, inr, ℕ, List, ◌++◌, take, drop, length, slice_get, Option, Some, None, Result, Ok, Err}
use Rattle.std.proofs.Common.{false, refl, sym, ap, subst, arith}
use Rattle.std.proofs.lemmas.Bool.{cases_lt}
use Rattle.std.proofs.lemmas.Option.{slice_get_within, slice_get_cases, slice_get_past}
use Rattle.std.proofs.lemmas.List.{take-append-drop, length-take-le, append_assoc, take-take}
use Rattle.vg_forms.specs.Places.{State, place_at, place_or, end_of}
use Rattle.vg_forms.specs.Spelling.{start, spelled_inner, spelled, Spells}
use Rattle.vg_forms.specs.Guided.{guided_inner, guided, Guides}
use Rattle.vg_forms.specs.Refusals.{RulesOut, Begins, Refuses}
use Rattle.vg_forms.specs.Reading.{Refusal, Wrong, Deep, read_inner, read, Gives}
use Rattle.vg_forms.proofs.Onward.{same_state, same_value}
use Rattle.vg_forms.proofs.Choices.{After, guide, plain}
use Rattle.vg_forms.proofs.Telling.{guided_of, spelled_of, inner_leads, inner_guided, inner_plain}
use Rattle.vg_forms.proofs.Reaching.{opens_so, opened_so}
use Rattle.vg_forms.proofs.Units.{unit_read, unit_spelled, unit_ends, all_sound, all_complete, spells_roomier}
use Rattle.vg_forms.proofs.Stopping.{unit_lacks, unit_opens, unit_opened}
use Rattle.vg_forms.proofs.Bounds.{Within, within, within_inner}
use Rattle.vg_forms.proofs.Completing.{begins_tree, begins_opened}
use Rattle.vg_forms.proofs.Roomier.{still_wrong}
use Rattle.vg_forms.proofs.Prefixes.{all_cut, AtEnd, Past}
use Rattle.vg_forms.specs.declared.token.Token.{Token}
use Rattle.vg_forms.proofs.Checks.{Law}
use Rattle.vg_forms.specs.declared.stops.Stop.{Stop}
use Rattle.vg_forms.specs.declared.stops.Stop.TheVariants as stops
use Rattle.vg_forms.specs.declared.stops.ReadFault.{ReadFault}
use Rattle.vg_forms.specs.declared.stops.ReadFault.TheVariants as faults

never_both : {A : Type 0} (r : Result A Refusal) (a : A) (e : Refusal) → r ≡ Ok a → r ≡ Err e → ⊥
never_both r a e one two = cc

same_err : {A : Type 0} (r : Result A Refusal) (d e : Refusal) → r ≡ Err d → r ≡ Err e → d ≡ e
same_err r d e one two = cc

module _ {K N G : Type 0} (law : Law K N G) where
  module _ (toks : List (Token K)) where
    pub only_tree : (room root : ℕ) (t : State G) (tree : G) → read law.grammar toks room law.grammar.unit (start law.grammar) ≡ Ok (root, t)
        → Spells law.grammar room toks tree → t.tree ≡ tree
    only_tree room root t tree e is =
        let other = unit_read law toks room tree (guided_of law toks room tree is) in
        ap (λ (s : State G). s.tree) (same_state law {a = root} {b = other.0} (sym e ∙ other.1))

    pub no_tree : (room : ℕ) (f : Refusal) (tree : G) → read law.grammar toks room law.grammar.unit (start law.grammar) ≡ Err f
        → Spells law.grammar room toks tree → ⊥
    no_tree room f tree e is = let other = unit_read law toks room tree (guided_of law toks room tree is) in
        never_both (read law.grammar toks room law.grammar.unit (start law.grammar)) (other.0, record { at = length toks; tree = tree }) f other.1 e

    -- a token that is wrong is wrong whatever follows, and however much room there is
    front_wrong : (room i : ℕ) (front : List (Token K)) (rest : List (Token K)) → toks ≡ front ++ rest → length front ≡ i + 1
        → read law.grammar toks room law.grammar.unit (start law.grammar) ≡ Err (Wrong i) → read law.grammar front room law.grammar.unit
        (start law.grammar) ≡ Err (Wrong i)
    front_wrong room i front rest parts size e = elim (all_cut law front toks rest parts room law.grammar.unit law.unit_tidy (start law.grammar)
        (omega arith)) [
          | inl both ↦ let far : length front ≤ i = subst (λ r. Past law front toks rest parts r) e both.1 in absurd (omega (arith, far, size))
          | inr same ↦ sym same ∙ e
        ]

    longer_wrong : (room i : ℕ) (front more : List (Token K)) → length front ≡ i + 1 → read law.grammar front room law.grammar.unit
        (start law.grammar) ≡ Err (Wrong i)
        → read law.grammar (front ++ more) room law.grammar.unit (start law.grammar) ≡ Err (Wrong i)
    longer_wrong room i front more size e = elim (all_cut law front (front ++ more) more refl room law.grammar.unit law.unit_tidy (start law.grammar)
        (omega arith)) [
          | inl both ↦ let end : i ≡ length front = subst (λ r. AtEnd law front (front ++ more) more refl r) e both.0 in absurd (omega (arith, end, size))
          | inr same ↦ same ∙ e
        ]

    wrong_before : (room i : ℕ) (more : List (Token K)) (t : Token K) → slice_get toks i ≡ Some t
        → read law.grammar toks room law.grammar.unit (start law.grammar) ≡ Err (Wrong i)
        → read law.grammar (take (i + 1) toks ++ more) room law.grammar.unit (start law.grammar) ≡ Err (Wrong i)
    wrong_before room i more t found e =
        let inside = slice_get_within toks i t found in
        let size : length (take (i + 1) toks) ≡ i + 1 = length-take-le (i + 1) toks (omega (arith, inside)) in
        longer_wrong room i (take (i + 1) toks) more size (front_wrong room i (take (i + 1) toks) (drop (i + 1) toks)
        (sym (take-append-drop (i + 1) toks)) size e)

    none_spelled : (all : List (Token K)) (room left i : ℕ) (tree : G) → read law.grammar all room law.grammar.unit (start law.grammar) ≡ Err
        (Wrong i) → Spells law.grammar left all tree → ⊥
    none_spelled all room left i tree e spells =
        let wrong = still_wrong law all left room i law.grammar.unit (start law.grammar) e in
        let sum : left + room ≡ room + left = omega arith in
        let other = unit_read law all (room + left) tree (subst (λ (r : ℕ). Guides law.grammar r all tree) sum
        (spells_roomier law all room left tree (guided_of law all left tree spells))) in
        never_both (read law.grammar all (room + left) law.grammar.unit (start law.grammar)) (other.0, record { at = length all; tree = tree })
        (Wrong i) other.1 wrong

    ruled_out : (room i : ℕ) (o : Option (Token K)) → slice_get toks i ≡ o → read law.grammar toks room law.grammar.unit (start law.grammar)
        ≡ Err (Wrong i) → RulesOut law.grammar toks i o
    ruled_out room i None is e = λ left tree spells. none_spelled toks room left i tree e spells
    ruled_out room i (Some t) is e = λ left more tree spells. none_spelled (take (i + 1) toks ++ more) room left i tree
        (wrong_before room i more t is e) spells

  module _ (toks : List (Token K)) (most : ℕ) where
    -- what the answers say
    -- a reading of a whole text stops within it
    stops_within : (r : Result (ℕ × State G) Refusal) (i : ℕ) → Within law toks 0 r → r ≡ Err (Wrong i) → i ≤ length toks
    stops_within r i h e = (subst (λ r. Within law toks 0 r) e h).1

    wrong_begins : (i : ℕ) → read law.grammar toks most law.grammar.unit (start law.grammar) ≡ Err (Wrong i) → Begins law.grammar (take i toks)
    wrong_begins i e = begins_tree law toks most i
        (stops_within (read law.grammar toks most law.grammar.unit (start law.grammar)) i (within law toks (read_inner law.grammar toks most)
        (within_inner law toks most) law.grammar.unit (start law.grammar) (omega arith)) e)
        (unit_lacks law toks most i e)

    wrong_within : (i : ℕ) → read law.grammar toks most law.grammar.unit (start law.grammar) ≡ Err (Wrong i) → i ≤ length toks
    wrong_within i e = stops_within (read law.grammar toks most law.grammar.unit (start law.grammar)) i (within law toks
        (read_inner law.grammar toks most) (within_inner law toks most) law.grammar.unit (start law.grammar) (omega arith)) e

    deep_stops : (r : Result (ℕ × State G) Refusal) (i : ℕ) → Within law toks 0 r → r ≡ Err (Deep i) → i ≤ length toks
    deep_stops r i h e = let inside = (subst (λ r. Within law toks 0 r) e h).1 in omega (arith, inside)

    deep_within : (i : ℕ) → read law.grammar toks most law.grammar.unit (start law.grammar) ≡ Err (Deep i) → i ≤ length toks
    deep_within i e = deep_stops (read law.grammar toks most law.grammar.unit (start law.grammar)) i (within law toks
        (read_inner law.grammar toks most) (within_inner law toks most) law.grammar.unit (start law.grammar) (omega arith)) e

    deep_is : {i j : ℕ} → Deep i ≡ Deep j → i ≡ j
    deep_is e = cc

    not_both : {i j : ℕ} → Wrong i ≡ Deep j → ⊥
    not_both e = cc

    pub wrong_fault : (i : ℕ) → read law.grammar toks most law.grammar.unit (start law.grammar) ≡ Err (Wrong i)
        → Refuses law.grammar most toks (faults.Syntax (place_at toks i))
    wrong_fault i e = (
      i,
      refl,
      wrong_begins i e,
      ruled_out toks most i (slice_get toks i) refl e,
      λ j le opens. not_both
          (same_err (read law.grammar toks most law.grammar.unit (start law.grammar)) (Wrong i) (Deep j) e (unit_opened law toks most j
          (opens_so law toks j most opens))),
    )

    pub deep_fault : (i : ℕ) → read law.grammar toks most law.grammar.unit (start law.grammar) ≡ Err (Deep i) → Refuses law.grammar most toks
        (faults.Deep (place_at toks i))
    deep_fault i e = (i, refl, opened_so law toks i most (unit_opens law toks most i e))

    -- where a token is ruled out, no tree begins with it
    ruled : (i j : ℕ) (t : Token K) → j < i → RulesOut law.grammar toks j (Some t) → Begins law.grammar (take i toks) → ⊥
    ruled i j t less out (room, more, tree, is) =
        let parts : take i toks ≡ take (j + 1) toks ++ drop (j + 1) (take i toks) = sym (take-append-drop (j + 1) (take i toks))
        ∙ ap (λ (l : List (Token K)). l ++ drop (j + 1) (take i toks)) (take-take (j + 1) i toks (omega (arith, less))) in
        let whole : take i toks ++ more ≡ take (j + 1) toks ++ (drop (j + 1) (take i toks) ++ more) = ap (λ (l : List (Token K)). l ++ more) parts
        ∙ append_assoc (take (j + 1) toks) (drop (j + 1) (take i toks)) more in
        out room (drop (j + 1) (take i toks) ++ more) tree (subst (λ (l : List (Token K)). Spells law.grammar room l tree) whole is)

    begun_before : (i j : ℕ) → j < i → i ≤ length toks → RulesOut law.grammar toks j (slice_get toks j) → Begins law.grammar (take i toks) → ⊥
    begun_before i j less le out begun = elim (slice_get_cases toks j).1 [
      | inl found ↦ ruled i j found.0 less (subst (λ o. RulesOut law.grammar toks j o) found.2 out) begun
      | inr past ↦ absurd (omega (arith, past.0, less, le))
    ]

    -- behind the last token all places are its end
    past_end : (i j : ℕ) → slice_get toks i ≡ None → slice_get toks j ≡ None → place_at toks i ≡ place_at toks j
    past_end i j one two = ap (λ o. place_or o (end_of toks)) one ∙ sym (ap (λ o. place_or o (end_of toks)) two)

    same_place : (i j : ℕ) → i < j → RulesOut law.grammar toks i (slice_get toks i) → Begins law.grammar (take j toks) → place_at toks i
        ≡ place_at toks j
    same_place i j less out begun = elim (slice_get_cases toks i).1 [
      | inl found ↦ absurd (ruled j i found.0 less (subst (λ o. RulesOut law.grammar toks i o) found.2 out) begun)
      | inr past ↦ past_end i j past.1 (slice_get_past toks j (omega (arith, past.0, less)))
    ]

    pub wrong_only : (i : ℕ) (f : ReadFault) → read law.grammar toks most law.grammar.unit (start law.grammar) ≡ Err (Wrong i)
        → Refuses law.grammar most toks f → faults.Syntax (place_at toks i) ≡ f
    wrong_only i (faults.Syntax at) e (j, place, begun, out, none) = elim (cases_lt i j) [
      | inl less ↦ ap faults.Syntax (same_place i j less (ruled_out toks most i (slice_get toks i) refl e) begun ∙ sym place)
      | inr rest ↦ elim (cases_lt j i) [
        | inl more ↦ absurd (begun_before i j more (wrong_within i e) out (wrong_begins i e))
        | inr other ↦ let same : i ≡ j = omega arith in ap (λ (k : ℕ). faults.Syntax (place_at toks k)) same ∙ ap faults.Syntax (sym place)
      ]
    ]
    wrong_only i (faults.Deep at) e (j, place, opens) =
        absurd (not_both (same_err (read law.grammar toks most law.grammar.unit (start law.grammar)) (Wrong i) (Deep j) e (unit_opened law toks most j
        (opens_so law toks j most opens))))
    wrong_only i faults.Memory e none = absurd none

    pub deep_only : (i : ℕ) (f : ReadFault) → read law.grammar toks most law.grammar.unit (start law.grammar) ≡ Err (Deep i)
        → Refuses law.grammar most toks f → faults.Deep (place_at toks i) ≡ f
    deep_only i (faults.Syntax at) e (j, place, begun, out, none) = elim (cases_lt j i) [
      | inl less ↦ absurd (begun_before i j less (deep_within i e) out (begins_opened law toks most i (deep_within i e) (unit_opens law toks most i e)))
      | inr le ↦ absurd (none i (omega arith) (opened_so law toks i most (unit_opens law toks most i e)))
    ]
    deep_only i (faults.Deep at) e (j, place, opens) =
        let same : i ≡ j = deep_is (same_err (read law.grammar toks most law.grammar.unit (start law.grammar)) (Deep i) (Deep j) e
        (unit_opened law toks most j (opens_so law toks j most opens))) in
        ap (λ (k : ℕ). faults.Deep (place_at toks k)) same ∙ ap faults.Deep (sym place)
    deep_only i faults.Memory e none = absurd none

    -- a text that is read is ruled out nowhere
    never_ruled : (tree : G) (j : ℕ) (o : Option (Token K)) → Spells law.grammar most toks tree → RulesOut law.grammar toks j o → ⊥
    never_ruled tree j None is out = out most tree is
    never_ruled tree j (Some t) is out = out most (drop (j + 1) toks) tree (subst (λ (l : List (Token K)). Spells law.grammar most l tree) (sym
        (take-append-drop (j + 1) toks)) is)

    pub no_fault : (root : ℕ) (t : State G) (f : ReadFault) → read law.grammar toks most law.grammar.unit (start law.grammar) ≡ Ok (root, t)
        → Refuses law.grammar most toks f → ⊥
    no_fault root t (faults.Syntax at) e (j, place, begun, out, none) = never_ruled t.tree j (slice_get toks j)
        (spelled_of law toks most t.tree (unit_spelled law toks most root t e)) out
    no_fault root t (faults.Deep at) e (j, place, opens) = never_both (read law.grammar toks most law.grammar.unit (start law.grammar)) (root, t) (Deep j) e
        (unit_opened law toks most j (opens_so law toks j most opens))
    no_fault root t faults.Memory e none = none

    -- what a call gives where it stops
    pub gave_wrong : (why : Stop) (s t : State G) → why ≡ stops.Wrong → s ≡ start law.grammar → Gives {A = ℕ} (Err why) t
        (read law.grammar toks most law.grammar.unit s)
        → read law.grammar toks most law.grammar.unit (start law.grammar) ≡ Err (Wrong t.at)
    gave_wrong why s t is here given =
        let told : Gives {A = ℕ} (Err stops.Wrong) t (read law.grammar toks most law.grammar.unit s) = subst (λ (w : Stop). Gives {A = ℕ}
        (Err w) t (read law.grammar toks most law.grammar.unit s)) is given in
        subst (λ (u : State G). read law.grammar toks most law.grammar.unit u ≡ Err (Wrong t.at)) here told

    pub gave_deep : (why : Stop) (s t : State G) → why ≡ stops.Deep → s ≡ start law.grammar → Gives {A = ℕ} (Err why) t
        (read law.grammar toks most law.grammar.unit s)
        → read law.grammar toks most law.grammar.unit (start law.grammar) ≡ Err (Deep t.at)
    gave_deep why s t is here given =
        let told : Gives {A = ℕ} (Err stops.Deep) t (read law.grammar toks most law.grammar.unit s) = subst (λ (w : Stop). Gives {A = ℕ}
        (Err w) t (read law.grammar toks most law.grammar.unit s)) is given in
        subst (λ (u : State G). read law.grammar toks most law.grammar.unit u ≡ Err (Deep t.at)) here told

  -- the same with the value of the whole
  module _ (toks : List (Token K)) (room : ℕ) where
    pub spelled_root : (root : ℕ) (t : State G) → read law.grammar toks room law.grammar.unit (start law.grammar) ≡ Ok (root, t)
        → spelled law.grammar toks room law.grammar.unit (start law.grammar) root (record { at = length toks; tree = t.tree })
    spelled_root root t e =
        let is = all_sound law toks room law.grammar.unit law.unit_tidy (start law.grammar) root t e in
        let to : t ≡ record { at = length toks; tree = t.tree } = ap (λ (i : ℕ). record t { at = i }) (unit_ends law toks room root t is) in
        plain law toks (guided_inner law.grammar toks room) (spelled_inner law.grammar toks room) (inner_plain law toks room) law.grammar.unit
        (start law.grammar) root (record { at = length toks; tree = t.tree })
        (subst (λ (u : State G). guided law.grammar toks room law.grammar.unit (start law.grammar) root u) to is)

    pub read_root : (root : ℕ) (tree : G) → spelled law.grammar toks room law.grammar.unit (start law.grammar) root
        (record { at = length toks; tree = tree })
        → read law.grammar toks room law.grammar.unit (start law.grammar) ≡ Ok (root, record { at = length toks; tree = tree })
    read_root root tree is =
        all_complete law toks room law.grammar.unit law.unit_tidy (start law.grammar) root (record { at = length toks; tree = tree })
        (guide law toks (spelled_inner law.grammar toks room) (guided_inner law.grammar toks room) (inner_leads law toks room) (inner_guided law toks room)
        law.grammar.unit (λ t. false) law.unit_tells (start law.grammar) root (record { at = length toks; tree = tree }) is
        (subst (λ o. After law (λ t. false) o) (sym (slice_get_past toks (length toks) (omega arith))) tt))

    pub only_root : (root other : ℕ) (t : State G) (tree : G) → read law.grammar toks room law.grammar.unit (start law.grammar) ≡ Ok (root, t)
        → spelled law.grammar toks room law.grammar.unit (start law.grammar) other (record { at = length toks; tree = tree }) → root ≡ other
    only_root root other t tree e is = same_value law (sym e ∙ read_root other tree is)
