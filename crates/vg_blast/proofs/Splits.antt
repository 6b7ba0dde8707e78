-- A disjunction and the list of its parts.
use Rattle.std.proofs.Common.{◌≡◌, ℕ, zero, suc, ◌+◌, ◌<◌, ◌≤◌, List, [], ◌∷◌, ◌++◌, map, length, set, get_or, slice_get, unwrap_or, is_some, Option}
use Rattle.std.proofs.Common.{Some, None, Bool, true, false, cond, refl, sym, ap, subst, ◌∙◌, inl, inr, arith, All}
use Rattle.std.specs.Prelude.{ℤ, pos, neg_ℤ, not, ◌&&◌, ◌||◌, nat_eq}
use Rattle.std.specs.List.{AllWithin}
use Rattle.std.proofs.lemmas.Bool.{cases_lt, true≢false, eqb-true}
use Rattle.std.proofs.lemmas.List.{length-append, length-set, get_or_append_left}
use Rattle.std.proofs.lemmas.List.Elements.{AllWithin-kept, at_read, All-nil, All-cons, All-set, All-push}
use Rattle.vg_bits.specs.Words.{bit}
use Rattle.vg_bits.specs.declared.word.Word.{Word}
use Rattle.vg_bits.specs.Words as of_words
use Rattle.vg_cnf.specs.Clauses.{ClauseSet, IsOver, makes_true}
use Rattle.vg_term.specs.Operations.{FitsTwo, width_two, value_two}
use Rattle.vg_term.specs.Terms.{Term, Stands, AreTerms, width_at, width_in}
use Rattle.vg_term.specs.Value.{value_of, bits_at, entry_value, Assigns}
use Rattle.vg_term.specs.declared.node.TermId.{TermId}
use Rattle.vg_term.specs.declared.node.Op.{Op}
use Rattle.vg_term.specs.declared.node.Op.TheVariants as ops
use Rattle.vg_term.specs.declared.node.Parts.TheVariants as parts
use Rattle.vg_term.specs.declared.node.Node.TheVariants as nodes
use Rattle.vg_term.proofs.Made.{is_made}
use Rattle.vg_term.proofs.Values.{value_follows}
use Rattle.vg_blast.specs.Circuits.{truth, number, differ, Holds}
use Rattle.vg_blast.specs.Cost.{parts_at, parts_in}
use Rattle.vg_blast.specs.Blasting.{BitName, Agree}
use Rattle.vg_blast.specs.Marking.{is_marked}
use Rattle.vg_blast.specs.State.{word_at, IsWordOf, IsState}
use Rattle.vg_blast.specs.Disjuncts.{part_in, part_of, sides_in, sides_of, SplitsInto, alone, apart, AreDisjuncts}
use Rattle.vg_blast.specs.Facts.{first_of, literal_of}
use Rattle.vg_blast.specs.declared.disjuncts.Part.{Part}
use Rattle.vg_blast.proofs.Truths.{truth_neg}

-- ---- the two parts of a disjunction

none_some : {X : Type 0} {x : X} → None ≡ Some x → ⊥
none_some e = true≢false (sym (ap is_some e))

-- the operation whose terms are taken apart, with a sign
abbrev pub joins : Bool → Op
joins true = ops.And
joins false = ops.Or

flag_sides : (op : Op) (a b c d : TermId) (w : ℕ) (flag : Bool) → flag ≡ nat_eq w 1 → ◌≡◌ {A = Option (TermId × TermId)}
    (cond flag (Some (a, b)) None) (Some (c, d)) →
    ◌≡◌ {A = Option Term} (Some (nodes.Op op (parts.Two a b), w)) (Some (nodes.Op op (parts.Two c d), 1))
flag_sides op a b c d w true e same =
    let one : w ≡ 1 = eqb-true w 1 (sym e) in
    let both : ◌≡◌ {A = TermId × TermId} (a, b) (c, d) = ap (λ o. unwrap_or o (a, b)) same in
    (λ j. Some (nodes.Op op (parts.Two ((both j).0) ((both j).1)), one j))
flag_sides op a b c d w false e same = absurd (none_some same)

entry_sides : (negated : Bool) (o : Option Term) (c d : TermId) → sides_in negated o ≡ Some (c, d) → o ≡ Some (nodes.Op (joins negated) (parts.Two c d), 1)
entry_sides false (Some (nodes.Op ops.Or (parts.Two a b), w)) c d e = flag_sides ops.Or a b c d w (nat_eq w 1) refl e
entry_sides true (Some (nodes.Op ops.And (parts.Two a b), w)) c d e = flag_sides ops.And a b c d w (nat_eq w 1) refl e
entry_sides _ _ c d e = absurd (none_some e)

pub sides_are : (terms : List Term) (x : Part) (a b : TermId) → sides_of terms x ≡ Some (a, b)
    → slice_get terms x.term.0 ≡ Some (nodes.Op (joins x.negated) (parts.Two a b), 1)
sides_are terms x a b e = entry_sides x.negated (slice_get terms x.term.0) a b e

pub sides_stand : {terms : List Term} → AreTerms terms → (x : Part) (a b : TermId) → Stands terms x.term → sides_of terms x ≡ Some (a, b)
    → Stands terms a × Stands terms b
sides_stand {terms} made x a b h e =
    let before : All (λ (p : TermId). p.0 < x.term.0) (a ∷ b ∷ []) =
    (is_made made x.term.0 (joins x.negated) (parts.Two a b) 1 (sides_are terms x a b e)).before in
    let left = before 0 a (omega arith) in
    let right = before 1 b (omega arith) in
    (omega (arith, left, h), omega (arith, right, h))

-- ---- a term as a part

part_stands_in : {terms : List Term} → AreTerms terms → (negated : Bool) (id : TermId) (o : Option Term) → slice_get terms id.0 ≡ o → Stands terms id
    → Stands terms (part_in negated id o).term
part_stands_in {terms} made negated id (Some (nodes.Op ops.Not (parts.One a), w)) e h =
    let below = (is_made made id.0 ops.Not (parts.One a) w e).before 0 a (omega arith) in
    omega (arith, below, h)
part_stands_in made negated id _ e h = h

pub part_stands : {terms : List Term} → AreTerms terms → (negated : Bool) (id : TermId) → Stands terms id → Stands terms (part_of terms negated id).term
part_stands {terms} made negated id h = part_stands_in made negated id (slice_get terms id.0) refl h

-- ---- terms that are marked, of width 1

pub record IsFlag (terms : List Term) (marks : List Bool) (id : TermId) : Type 0 where
  pub stands : id.0 < length terms
  pub marked : is_marked marks id ≡ true
  pub one : width_at terms id ≡ 1

-- with each marked term its parts are marked
abbrev pub AreClosed : List Term → List Bool → Type 0
AreClosed terms marks = (id : TermId) → is_marked marks id ≡ true → All (λ part. is_marked marks part ≡ true) (parts_at terms id)

-- the term of a part is one
abbrev pub IsFlagPart : List Term → List Bool → Part → Type 0
IsFlagPart terms marks part = IsFlag terms marks part.term

part_flag_in : {terms : List Term} → AreTerms terms → (marks : List Bool) → AreClosed terms marks → (negated : Bool) (id : TermId) (o : Option Term)
    → slice_get terms id.0 ≡ o → IsFlag terms marks id → IsFlag terms marks (part_in negated id o).term
part_flag_in {terms} made marks closed negated id (Some (nodes.Op ops.Not (parts.One a), w)) e flag =
    let m = is_made made id.0 ops.Not (parts.One a) w e in
    let one : w ≡ 1 = sym (ap width_in e) ∙ flag.one in
    let below = m.before 0 a (omega arith) in
    let under : All (λ (p : TermId). is_marked marks p ≡ true) (a ∷ []) = subst (All (λ (p : TermId). is_marked marks p ≡ true)) (ap parts_in e)
    (closed id flag.marked) in
    record { stands = omega (arith, below, flag.stands); marked = under 0 a (omega arith); one = sym m.width ∙ one }
part_flag_in made marks closed negated id _ e flag = flag

part_flag : {terms : List Term} → AreTerms terms → (marks : List Bool) → AreClosed terms marks → (negated : Bool) (id : TermId)
    → IsFlag terms marks id → IsFlagPart terms marks (part_of terms negated id)
part_flag {terms} made marks closed negated id flag = part_flag_in made marks closed negated id (slice_get terms id.0) refl flag

joined_fits : (negated : Bool) (v w : ℕ) → FitsTwo (joins negated) v w → v ≡ w
joined_fits true v w e = e
joined_fits false v w e = e

joined_width : (negated : Bool) (v w : ℕ) → width_two (joins negated) v w ≡ v
joined_width true v w = refl
joined_width false v w = refl

side_flags : {terms : List Term} → AreTerms terms → (marks : List Bool) → AreClosed terms marks → (x : Part) (a b : TermId)
    → sides_of terms x ≡ Some (a, b) → IsFlagPart terms marks x → IsFlag terms marks a × IsFlag terms marks b
side_flags {terms} made marks closed x a b e flag =
    let here = sides_are terms x a b e in
    let m = is_made made x.term.0 (joins x.negated) (parts.Two a b) 1 here in
    let stand = sides_stand made x a b flag.stands e in
    let left : width_at terms a ≡ 1 = sym (m.width ∙ joined_width x.negated (width_at terms a) (width_at terms b)) in
    let both : All (λ (p : TermId). is_marked marks p ≡ true) (a ∷ b ∷ []) = subst (All (λ (p : TermId). is_marked marks p ≡ true)) (ap parts_in here)
    (closed x.term flag.marked) in (
      record { stands = stand.0; marked = both 0 a (omega arith); one = left },
      record { stands = stand.1; marked = both 1 b (omega arith); one = sym (joined_fits x.negated (width_at terms a) (width_at terms b) m.fits) ∙ left },
    )

at_part : (P : Part → Type 0) (list : List Part) (at : ℕ) (x : Part) → All P list → at < length list → get_or list at x ≡ x → P x
at_part P list at x all h e = subst P e (all at x h)

pub split_flags : {terms : List Term} → AreTerms terms → (marks : List Bool) → AreClosed terms marks → (id : TermId) (list : List Part)
    → IsFlag terms marks id → SplitsInto terms id list → All (IsFlagPart terms marks) list
split_flags {terms} made marks closed id _ flag alone = All-cons (IsFlagPart terms marks) (part_of terms false id) []
    (part_flag made marks closed false id flag) (All-nil (IsFlagPart terms marks))
split_flags {terms} made marks closed id _ flag (apart list at x a b before h e s) =
    let all = split_flags made marks closed id list flag before in
    let both = side_flags made marks closed x a b s (at_part (IsFlagPart terms marks) list at x all h e) in
    let left = part_of terms x.negated a in
    let right = part_of terms x.negated b in
    All-push (IsFlagPart terms marks) (set list at left) right (All-set (IsFlagPart terms marks) list at left
    (part_flag made marks closed x.negated a both.0) all) (part_flag made marks closed x.negated b both.1)

-- ---- the literal of a term of width 1

-- a word of one literal
one_literal : (v : List Bool) (word : List ℤ) → length word ≡ 1 → number v word ≡ bit (truth v (get_or word 0 (pos 1)))
one_literal v [] e = let none : ⊥ = omega (arith, e) in absurd none
one_literal v (l ∷ []) e = omega arith
one_literal v (k ∷ l ∷ word) e = let none : ⊥ = omega (arith, e) in absurd none

pub literal_value : (terms : List Term) (set : ClauseSet) (names : List BitName) (lists : List (List ℤ)) (id : TermId) (words : List Word)
    (v : List Bool) → IsWordOf terms set names id (word_at lists id) → width_at terms id ≡ 1 →
    Assigns words terms → Holds v set → Agree v terms words names → value_of terms words id ≡ bit (truth v (first_of lists id))
literal_value terms set names lists id words v word flag assigns h agree = sym (word.is words v assigns h agree)
    ∙ one_literal v (word_at lists id) (word.width ∙ flag)

-- what a disjunction says of its terms, with a sign
abbrev pub joined : Bool → Bool → Bool → Bool
joined true s t = s && t
joined false s t = s || t

joined_bits : (negated s t : Bool) (v w : ℕ) → value_two (joins negated) (record { width = v; value = bit s }) (record { width = w; value = bit t }) ≡
    bit (joined negated s t)
joined_bits true true true v w = refl
joined_bits true true false v w = refl
joined_bits true false true v w = refl
joined_bits true false false v w = refl
joined_bits false true true v w = refl
joined_bits false true false v w = refl
joined_bits false false true v w = refl
joined_bits false false false v w = refl

signed_joined : (negated s t : Bool) → differ negated (joined negated s t) ≡ differ negated s || differ negated t
signed_joined true true true = refl
signed_joined true true false = refl
signed_joined true false t = refl
signed_joined false s t = refl

same_bits : (s t : Bool) → bit s ≡ bit t → s ≡ t
same_bits true true e = refl
same_bits true false e = let none : ⊥ = omega (arith, e) in absurd none
same_bits false true e = let none : ⊥ = omega (arith, e) in absurd none
same_bits false false e = refl

-- what holds of the terms and the clauses wherever the literals are looked at
pub record IsSeen (terms : List Term) (marks : List Bool) (set : ClauseSet) (lists : List (List ℤ)) (words : List Word) (v : List Bool) : Type 0 where
  pub made : AreTerms terms
  pub closed : AreClosed terms marks
  pub over : (id : TermId) → IsFlag terms marks id → IsOver set.variables (first_of lists id)
  pub value : (id : TermId) → IsFlag terms marks id → value_of terms words id ≡ bit (truth v (first_of lists id))

pub seen : {terms : List Term} → AreTerms terms → (marks : List Bool) (set : ClauseSet) (lists : List (List ℤ)) (names : List BitName)
    → IsState terms marks (length terms) set lists names → AreClosed terms marks → (words : List Word) (v : List Bool) →
    Assigns words terms → Holds v set → Agree v terms words names → IsSeen terms marks set lists words v
seen {terms} made marks set lists names state closed words v assigns h agree = record {
  made = made;
  closed = closed;
  over = λ id is. let word = state.each id is.stands is.marked in word.over 0 (pos 1) (omega (arith, word.width, is.one));
  value = λ id is. literal_value terms set names lists id words v (state.each id is.stands is.marked) is.one assigns h agree;
}

-- the literal with a sign
signed_truth : (v : List Bool) (n : ℕ) (negated : Bool) (l : ℤ) → IsOver n l → truth v (cond negated (neg_ℤ l) l) ≡ differ negated (truth v l)
signed_truth v n true l over = truth_neg v l over.0
signed_truth v n false l over = refl

literal_truth : {terms : List Term} (marks : List Bool) (set : ClauseSet) (lists : List (List ℤ)) (words : List Word) (v : List Bool)
    → IsSeen terms marks set lists words v → (x : Part) → IsFlagPart terms marks x →
    truth v (literal_of lists x) ≡ differ x.negated (truth v (first_of lists x.term))
literal_truth marks set lists words v sees x flag = signed_truth v set.variables x.negated (first_of lists x.term) (sees.over x.term flag)

not_bits : (s : Bool) → of_words.not 1 (bit s) ≡ bit (not s)
not_bits true = refl
not_bits false = refl

differ_turned : (negated s : Bool) → differ (not negated) s ≡ differ negated (not s)
differ_turned true true = refl
differ_turned true false = refl
differ_turned false s = refl

part_truth_in : {terms : List Term} (marks : List Bool) (set : ClauseSet) (lists : List (List ℤ)) (words : List Word) (v : List Bool)
    → IsSeen terms marks set lists words v → (negated : Bool) (id : TermId) (o : Option Term) → slice_get terms id.0 ≡ o → IsFlag terms marks id →
    truth v (literal_of lists (part_in negated id o)) ≡ differ negated (truth v (first_of lists id))
part_truth_in {terms} marks set lists words v sees negated id (Some (nodes.Op ops.Not (parts.One a), w)) e flag =
    let m = is_made sees.made id.0 ops.Not (parts.One a) w e in
    let under : IsFlag terms marks a = part_flag_in sees.made marks sees.closed negated id (Some (nodes.Op ops.Not (parts.One a), w)) e flag in
    let whole : value_of terms words id ≡ of_words.not (width_at terms a) (value_of terms words a) = value_follows sees.made words id
    ∙ ap (entry_value words (bits_at terms words)) e in
    let turned : truth v (first_of lists id) ≡ not (truth v (first_of lists a)) =
    same_bits (truth v (first_of lists id)) (not (truth v (first_of lists a)))
    (sym (sees.value id flag) ∙ whole ∙ (λ j. of_words.not (under.one j) (sees.value a under j)) ∙ not_bits (truth v (first_of lists a))) in
    literal_truth marks set lists words v sees (record { term = a; negated = not negated }) under ∙ differ_turned negated (truth v (first_of lists a))
    ∙ ap (differ negated) (sym turned)
part_truth_in marks set lists words v sees negated id _ e flag = literal_truth marks set lists words v sees (record { term = id; negated = negated }) flag

part_truth : {terms : List Term} (marks : List Bool) (set : ClauseSet) (lists : List (List ℤ)) (words : List Word) (v : List Bool)
    → IsSeen terms marks set lists words v → (negated : Bool) (id : TermId) → IsFlag terms marks id →
    truth v (literal_of lists (part_of terms negated id)) ≡ differ negated (truth v (first_of lists id))
part_truth {terms} marks set lists words v sees negated id flag = part_truth_in marks set lists words v sees negated id (slice_get terms id.0) refl flag

-- a disjunction is true where one of its parts is
side_truth : {terms : List Term} (marks : List Bool) (set : ClauseSet) (lists : List (List ℤ)) (words : List Word) (v : List Bool)
    → IsSeen terms marks set lists words v → (x : Part) (a b : TermId) → sides_of terms x ≡ Some (a, b) → IsFlagPart terms marks x →
    truth v (literal_of lists x) ≡ truth v (literal_of lists (part_of terms x.negated a)) || truth v (literal_of lists (part_of terms x.negated b))
side_truth {terms} marks set lists words v sees x a b e flag =
    let both = side_flags sees.made marks sees.closed x a b e flag in
    let first : Bool = truth v (first_of lists a) in
    let second : Bool = truth v (first_of lists b) in
    let left = sees.value a both.0 in
    let right = sees.value b both.1 in
    let whole : value_of terms words x.term ≡ value_two (joins x.negated) (bits_at terms words a) (bits_at terms words b) =
    value_follows sees.made words x.term ∙ ap (entry_value words (bits_at terms words)) (sides_are terms x a b e) in
    let is : truth v (first_of lists x.term) ≡ joined x.negated first second =
    same_bits (truth v (first_of lists x.term)) (joined x.negated first second)
    (sym (sees.value x.term flag) ∙ whole
    ∙ (λ j. value_two (joins x.negated) (record { width = width_at terms a; value = left j })
    (record { width = width_at terms b; value = right j }))
    ∙ joined_bits x.negated first second (width_at terms a) (width_at terms b)) in
    literal_truth marks set lists words v sees x flag ∙ ap (differ x.negated) is ∙ signed_joined x.negated first second
    ∙ (λ j. sym (part_truth marks set lists words v sees x.negated a both.0) j || sym (part_truth marks set lists words v sees x.negated b both.1) j)

-- ---- the clause of the parts

or_joined : (p q r s : Bool) → s ≡ p || q → p || (q || r) ≡ s || r
or_joined true q r s e = sym (ap (λ z. z || r) e)
or_joined false q r s e = sym (ap (λ z. z || r) e)

or_exchanged : (p q r : Bool) → p || (q || r) ≡ q || (p || r)
or_exchanged true true r = refl
or_exchanged true false r = refl
or_exchanged false true r = refl
or_exchanged false false r = refl

or_false : (p : Bool) → p || false ≡ p
or_false true = refl
or_false false = refl

true_push : (v : List Bool) (f : Part → ℤ) (list : List Part) (b : Part) → makes_true v (map f (list ++ b ∷ [])) ≡ truth v (f b) || makes_true v (map f list)
true_push v f [] b = refl
true_push v f (y ∷ list) b = ap (λ r. truth v (f y) || r) (true_push v f list b) ∙ or_exchanged (truth v (f y)) (truth v (f b)) (makes_true v (map f list))

true_apart : (v : List Bool) (f : Part → ℤ) (list : List Part) (at : ℕ) (x a b : Part) → at < length list → get_or list at x ≡ x
    → truth v (f x) ≡ truth v (f a) || truth v (f b) → makes_true v (map f (set list at a ++ b ∷ [])) ≡ makes_true v (map f list)
true_apart v f [] at x a b h e t = let none : ⊥ = omega (arith, h) in absurd none
true_apart v f (y ∷ list) zero x a b h e t =
    ap (λ r. truth v (f a) || r) (true_push v f list b) ∙ or_joined (truth v (f a)) (truth v (f b)) (makes_true v (map f list)) (truth v (f y))
    (ap (λ (z : Part). truth v (f z)) e ∙ t)
true_apart v f (y ∷ list) (suc at) x a b h e t = ap (λ r. truth v (f y) || r) (true_apart v f list at x a b (omega (arith, h)) e t)

pub split_true : {terms : List Term} (marks : List Bool) (set : ClauseSet) (lists : List (List ℤ)) (words : List Word) (v : List Bool)
    → IsSeen terms marks set lists words v → (id : TermId) (list : List Part) → IsFlag terms marks id → SplitsInto terms id list →
    makes_true v (map (literal_of lists) list) ≡ truth v (first_of lists id)
split_true {terms} marks set lists words v sees id _ flag alone = or_false (truth v (literal_of lists (part_of terms false id)))
    ∙ part_truth marks set lists words v sees false id flag
split_true {terms} marks set lists words v sees id _ flag (apart list at x a b before within e s) =
    let is = at_part (IsFlagPart terms marks) list at x (split_flags sees.made marks sees.closed id list flag before) within e in
    true_apart v (literal_of lists) list at x (part_of terms x.negated a) (part_of terms x.negated b) within e
    (side_truth marks set lists words v sees x a b s is)
    ∙ split_true marks set lists words v sees id list flag before

-- ---- taking apart, place by place

-- the term of a part stands
abbrev pub StandsPart : List Term → Part → Type 0
StandsPart terms part = Stands terms part.term

-- a list that is taken apart up to a place
pub record AreSplit (terms : List Term) (id : TermId) (list : List Part) (at : ℕ) : Type 0 where
  pub split : SplitsInto terms id list
  pub stand : All (StandsPart terms) list
  pub place : at ≤ length list
  pub most : length list ≤ 128
  pub before : AllWithin (λ part. sides_of terms part ≡ None) list 0 at

pub split_none : {terms : List Term} → AreTerms terms → (id : TermId) (start list : List Part) (first : Part) → id.0 < length terms → start ≡ []
    → first ≡ part_of terms false id → list ≡ start ++ first ∷ [] → AreSplit terms id list 0
split_none {terms} made id start list first h none is e =
    subst (λ (ls : List Part). AreSplit terms id ls 0) (sym (e ∙ (λ j. none j ++ is j ∷ []))) (record {
      split = alone;
      stand = All-cons (StandsPart terms) (part_of terms false id) [] (part_stands made false id h) (All-nil (StandsPart terms));
      place = omega arith;
      most = omega arith;
      before = λ k d low high. let none : ⊥ = omega (arith, high) in absurd none;
    })

pub split_place : (P : Part → Type 0) (list : List Part) (at : ℕ) (x : Part) → All P list → at < length list → x ≡ get_or list at x → P x
split_place P list at x all h e = at_part P list at x all h (sym e)

pub split_long : (old new : List Part) (at : ℕ) (a b : Part) → new ≡ set old at a ++ b ∷ [] → length new ≡ length old + 1
split_long old new at a b e = ap length e ∙ length-append (set old at a) (b ∷ []) ∙ ap (λ n. n + 1) (length-set old at a)

pub split_more : {terms : List Term} → AreTerms terms → (id : TermId) (old new : List Part) (at : ℕ) (x left right : Part) (a b : TermId)
    → at < length old → length old < 128 → x ≡ get_or old at x → sides_of terms x ≡ Some (a, b) → left ≡ part_of terms x.negated a →
    right ≡ part_of terms x.negated b → new ≡ set old at left ++ right ∷ [] → AreSplit terms id old at → AreSplit terms id new at
split_more {terms} made id old new at x left right a b h few e sides left_is right_is is before =
    let both = sides_stand made x a b (split_place (StandsPart terms) old at x before.stand h e) sides in
    let first : Part = part_of terms x.negated a in
    let second : Part = part_of terms x.negated b in
    let whole : new ≡ set old at first ++ second ∷ [] = is ∙ (λ j. set old at (left_is j) ++ right_is j ∷ []) in
    let kept = AllWithin-kept old at first h (λ (part : Part). sides_of terms part ≡ None) before.before in
    let long = split_long old new at first second whole in
    let longer : length (set old at first) ≡ length old = length-set old at first in record {
      split = subst (SplitsInto terms id) (sym whole) (apart old at x a b before.split h (sym e) sides);
      stand = subst (All (StandsPart terms)) (sym whole) (All-push (StandsPart terms) (set old at first) second
          (All-set (StandsPart terms) old at first (part_stands made x.negated a both.0) before.stand) (part_stands made x.negated b both.1));
      place = omega (arith, h, long);
      most = omega (arith, few, long);
      before = λ k d low high.
          subst (λ (ls : List Part). sides_of terms (get_or ls k d) ≡ None) (sym whole)
          (subst (λ (y : Part). sides_of terms y ≡ None)
          (sym (get_or_append_left (set old at first) (second ∷ []) d k (omega (arith, high, h, longer)))) (kept k d low high));
    }

pub split_on : (terms : List Term) (id : TermId) (list : List Part) (at : ℕ) (x : Part) → at < length list → x ≡ get_or list at x
    → sides_of terms x ≡ None → AreSplit terms id list at → AreSplit terms id list (at + 1)
split_on terms id list at x h e none before = record {
  split = before.split;
  stand = before.stand;
  place = omega (arith, h);
  most = before.most;
  before = λ k d low high.
      elim (cases_lt k at) [
        | inl less ↦ before.before k d low less
        | inr past ↦
            let here : at ≡ k = omega (arith, past, high) in
            subst (λ n. sides_of terms (get_or list n d) ≡ None) here (at_read list (λ (part : Part). sides_of terms part ≡ None) at x h e none d)
      ];
}

pub split_done : (terms : List Term) (id : TermId) (list : List Part) (at : ℕ) → (length list < 128 → length list ≤ at) → AreSplit terms id list at
    → AreDisjuncts terms id list
split_done terms id list at all before = record {
  split = before.split;
  most = before.most;
  whole = λ few k d h. before.before k d (omega arith) (let reached = all few in omega (arith, h, reached));
}
