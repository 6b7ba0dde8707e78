-- New variables for the bits of a variable, and terms that need none.
use Rattle.std.proofs.Common.{◌≡◌, ℕ, zero, suc, ◌+◌, ◌-◌, ◌*◌, ◌/◌, ◌%◌, ◌^◌, ◌<◌, ◌≤◌, List, [], ◌∷◌, ◌++◌, length, get_or, slice_get, Some, Bool}
use Rattle.std.proofs.Common.{true, false, cond, ◌⊎◌, refl, sym, ap, subst, ◌∙◌, inl, inr, arith, All, add-one, length-append, append_assoc, Result}
use Rattle.std.proofs.Common.{Ok, Err, OnOk, Contains, Option}
use Rattle.std.specs.Prelude.{ℤ, pos, nat_eq, sum_by}
use Rattle.std.specs.List.{AllPairs}
use Rattle.std.specs.Int.{bit_at}
use Rattle.std.proofs.lemmas.List.{append-nil}
use Rattle.std.proofs.lemmas.List.Elements.{All-nil, All-append, All-push, All-weaker, Contains-append_left, Contains-append_right, Contains-push}
use Rattle.std.proofs.lemmas.List.Quantifiers.{all_pairs_push}
use Rattle.std.proofs.Math.Seq.{get_or-append_seam}
use Rattle.std.proofs.lemmas.Nat.{mod-pow-add}
use Rattle.std.proofs.Math.Nat.{mod-eq_of_lt, mod-one}
use Rattle.std.proofs.lemmas.Bool.{true≢false, cases_lt}
use Rattle.vg_bits.specs.Words.{bit}
use Rattle.vg_bits.specs.declared.word.Word.{Word}
use Rattle.vg_cnf.specs.Clauses.{ClauseSet, IsOver, IsModel, makes_all_true}
use Rattle.vg_term.specs.Terms.{Term, AreTerms, listed, width_at}
use Rattle.vg_term.specs.Value.{value_of, bits_at, entry_value, assigned, Assigns}
use Rattle.vg_term.specs.declared.node.TermId.{TermId}
use Rattle.vg_term.specs.declared.node.Op.{Op}
use Rattle.vg_term.specs.declared.node.Parts.{Parts}
use Rattle.vg_term.specs.declared.node.Node.TheVariants as nodes
use Rattle.vg_term.proofs.Made.{comes_next}
use Rattle.vg_term.proofs.Values.{value_follows}
use Rattle.vg_blast.specs.Circuits.{truth, number, literals, Holds, IsNet}
use Rattle.vg_blast.specs.Cost.{entry_cost, parts_at, parts_in}
use Rattle.vg_blast.specs.Marking.{is_marked}
use Rattle.vg_blast.specs.Blasting.{BitName, IsSameBit, IsVariable, IsNamed, Agrees, Agree, AreNames}
use Rattle.vg_blast.specs.State.{MakesOperation, new_literals, new_names, IsWordOf, IsState, AddsOperation, added_to}
use Rattle.vg_blast.proofs.Truths.{truth_more, truth_new, holds_more}
use Rattle.vg_blast.proofs.Numbers.{number-push}
use Rattle.vg_blast.proofs.Words.{bit_of}
use Rattle.vg_blast.proofs.Stating.{agree_before, more_state, operation_word, operation_cost_within}

-- ---- one more variable

pub literals_more : (n w : ℕ) → new_literals n (w + 1) ≡ new_literals n w ++ pos (n + w + 1) ∷ []
literals_more n w = ap (new_literals n) (add-one w)

pub names_more : (id : TermId) (n w : ℕ) → new_names id n (w + 1) ≡ new_names id n w ++ (id, w, pos (n + w + 1)) ∷ []
names_more id n w = ap (new_names id n) (add-one w)

-- one more literal and its entry, for a loop
pub input_more : (old mid new : ClauseSet) (items : List ℤ) (entries more before : List BitName) (id : TermId) (at : ℕ) (l : ℤ)
    → mid ≡ record old { variables = old.variables + at } → new ≡ record mid { variables = mid.variables + 1 } → l ≡ pos new.variables →
    items ≡ new_literals old.variables at → entries ≡ before ++ new_names id old.variables at → more ≡ entries ++ (id, at, l) ∷ [] →
    (new ≡ record old { variables = old.variables + (at + 1) }) × (items ++ l ∷ [] ≡ new_literals old.variables (at + 1))
    × (more ≡ before ++ new_names id old.variables (at + 1))
input_more old mid new items entries more before id at l mid_is new_is l_is items_is entries_is more_is =
    let counted : new.variables ≡ old.variables + at + 1 = ap (λ (s : ClauseSet). s.variables) new_is ∙ ap (λ (s : ClauseSet). s.variables + 1) mid_is in
    let literal : l ≡ pos (old.variables + at + 1) = l_is ∙ ap pos counted in
    let clauses : new.clauses ≡ old.clauses = ap (λ (s : ClauseSet). s.clauses) new_is ∙ ap (λ (s : ClauseSet). s.clauses) mid_is in
    let regroup : old.variables + at + 1 ≡ old.variables + (at + 1) = omega arith in (
      (λ j. record { variables = (counted ∙ regroup) j; clauses = clauses j }),
      (λ j. items_is j ++ literal j ∷ []) ∙ sym (literals_more old.variables at),
      more_is
          ∙ (λ j. entries_is j ++ (id, at, literal j) ∷ [])
          ∙ append_assoc before (new_names id old.variables at) ((id, at, pos (old.variables + at + 1)) ∷ [])
          ∙ ap (λ es. before ++ es) (sym (names_more id old.variables at)),
    )

-- ---- what the new literals and entries are

pub literals_long : (n w : ℕ) → length (new_literals n w) ≡ w
literals_long n zero = refl
literals_long n (suc w) = length-append (new_literals n w) (pos (n + w + 1) ∷ []) ∙ omega (arith, literals_long n w)

literals_over : (n w m : ℕ) → n + w ≤ m → All (IsOver m) (new_literals n w)
literals_over n zero m h = All-nil (IsOver m)
literals_over n (suc w) m h = All-push (IsOver m) (new_literals n w) (pos (n + w + 1)) (literals_over n w m (omega (arith, h))) (omega arith, omega (arith, h))

names_named : (terms : List Term) (id : TermId) (n w m : ℕ) → IsVariable terms id → w ≤ width_at terms id → n + w ≤ m → All (IsNamed terms m) (new_names id n w)
names_named terms id n zero m variable h k = All-nil (IsNamed terms m)
names_named terms id n (suc w) m variable h k =
    All-push (IsNamed terms m) (new_names id n w) (id, w, pos (n + w + 1)) (names_named terms id n w m variable (omega (arith, h)) (omega (arith, k)))
    (record { variable = variable; within = omega (arith, h); over = (omega arith, omega (arith, k)) })

-- entries of earlier terms, or of lower bits of this one
abbrev Before : TermId → ℕ → BitName → Type 0
Before id w name = (name.0.0 < id.0) ⊎ ((name.0 ≡ id) × (name.1 < w))

not_before : (id : TermId) (w : ℕ) (l : ℤ) (name : BitName) → Before id w name → IsSameBit name (id, w, l) → ⊥
not_before id w l name (inl earlier) same = let e = ap (λ (x : TermId). x.0) same.0 in omega (arith, earlier, e)
not_before id w l name (inr lower) same = omega (arith, lower.1, same.1)

before_more : (id : TermId) (w : ℕ) (name : BitName) → Before id w name → Before id (suc w) name
before_more id w name (inl earlier) = inl earlier
before_more id w name (inr lower) = inr (lower.0, omega (arith, lower.1))

pushed : (names : List BitName) (id : TermId) (n w : ℕ) → names ++ new_names id n (suc w) ≡ (names ++ new_names id n w) ++ (id, w, pos (n + w + 1)) ∷ []
pushed names id n w = sym (append_assoc names (new_names id n w) ((id, w, pos (n + w + 1)) ∷ []))

names_before : (names : List BitName) (id : TermId) (n w : ℕ) → All (λ name. name.0.0 < id.0) names → All (Before id w) (names ++ new_names id n w)
names_before names id n zero low =
    subst (All (Before id 0)) (sym (append-nil names)) (All-weaker (λ name. name.0.0 < id.0) (Before id 0) (λ name h. inl h) names low)
names_before names id n (suc w) low =
    subst (All (Before id (suc w))) (sym (pushed names id n w))
    (All-push (Before id (suc w)) (names ++ new_names id n w) (id, w, pos (n + w + 1)) (All-weaker (Before id w) (Before id (suc w))
    (before_more id w) (names ++ new_names id n w) (names_before names id n w low)) (inr (refl, omega arith)))

names_once : (names : List BitName) (id : TermId) (n w : ℕ) → All (λ name. name.0.0 < id.0) names → AllPairs (λ a b. ¬ IsSameBit a b) names
    → AllPairs (λ a b. ¬ IsSameBit a b) (names ++ new_names id n w)
names_once names id n zero low once = subst (AllPairs (λ a b. ¬ IsSameBit a b)) (sym (append-nil names)) once
names_once names id n (suc w) low once =
    subst (AllPairs (λ a b. ¬ IsSameBit a b)) (sym (pushed names id n w))
    (all_pairs_push (λ a b. ¬ IsSameBit a b) (names ++ new_names id n w) (id, w, pos (n + w + 1)) (names_once names id n w low once)
    (λ k d h. not_before id w (pos (n + w + 1)) (get_or (names ++ new_names id n w) k d) (names_before names id n w low k d h)))

lower : (id : TermId) (w high : ℕ) (name : BitName) → id.0 + 1 ≡ high → Before id w name → name.0.0 < high
lower id w high name e (inl earlier) = omega (arith, earlier, e)
lower id w high name e (inr same) = let s = ap (λ (x : TermId). x.0) same.0 in omega (arith, s, e)

pub named_later : (terms : List Term) (m n : ℕ) (names : List BitName) → m ≤ n → All (IsNamed terms m) names → All (IsNamed terms n) names
named_later terms m n names le named =
    All-weaker (IsNamed terms m) (IsNamed terms n) (λ name is. record {
      variable = is.variable;
      within = is.within;
      over =
          omega (arith, is.over, le);
    }) names named

names_low : (names : List BitName) (id : TermId) (n w high : ℕ) → id.0 + 1 ≡ high → All (λ name. name.0.0 < id.0) names
    → All (λ name. name.0.0 < high) (names ++ new_names id n w)
names_low names id n w high e low =
    All-weaker (Before id w) (λ name. name.0.0 < high) (λ name before. lower id w high name e before) (names ++ new_names id n w)
    (names_before names id n w low)

-- ---- the number that they spell

last_agrees : (v : List Bool) (terms : List Term) (words : List Word) (names : List BitName) (name : BitName)
    → Agree v terms words (names ++ name ∷ []) → Agrees v terms words name
last_agrees v terms words names name agree =
    subst (Agrees v terms words) (get_or-append_seam names name [] name) (agree (length names) name (omega (arith, length-append names (name ∷ []))))

input_number : (v : List Bool) (terms : List Term) (words : List Word) (names : List BitName) (id : TermId) (n w : ℕ)
    → Agree v terms words (names ++ new_names id n w) → number v (new_literals n w) ≡ value_of terms words id % 2 ^ w
input_number v terms words names id n zero agree = sym (mod-one (value_of terms words id))
input_number v terms words names id n (suc w) agree =
    let whole = subst (Agree v terms words) (pushed names id n w) agree in
    let before = input_number v terms words names id n w (agree_before v terms words (names ++ new_names id n w) ((id, w, pos (n + w + 1)) ∷ []) whole) in
    let here : bit (truth v (pos (n + w + 1))) ≡ bit_at (value_of terms words id) w = last_agrees v terms words (names ++ new_names id n w)
    (id, w, pos (n + w + 1)) whole in
    let m = value_of terms words id in
    number-push v (new_literals n w) (pos (n + w + 1))
    ∙ (λ j. before j + 2 ^ literals_long n w j * here j)
    ∙ (let t : m % 2 ^ w + 2 ^ w * (m / 2 ^ w % 2) ≡ (m / 2 ^ w % 2 ^ 1) * 2 ^ w + m % 2 ^ w = omega arith in t)
    ∙ sym (mod-pow-add m 1 w)
    ∙ ap (λ k. m % 2 ^ k) (let c : 1 + w ≡ suc w = omega arith in c)

-- ---- values for them

-- the lowest w bits of a number
bits_of_value : ℕ → ℕ → List Bool
bits_of_value m zero = []
bits_of_value m (suc w) = bits_of_value m w ++ nat_eq (bit_at m w) 1 ∷ []

bits_long : (m w : ℕ) → length (bits_of_value m w) ≡ w
unfolding bits_of_value
bits_long m zero = refl
bits_long m (suc w) = length-append (bits_of_value m w) (nat_eq (bit_at m w) 1 ∷ []) ∙ omega (arith, bits_long m w)

-- more values keep the truth of what is named
agree_more : (v more : List Bool) (terms : List Term) (words : List Word) (names : List BitName) (n : ℕ) → length v ≡ n → All (IsNamed terms n) names
    → Agree v terms words names → Agree (v ++ more) terms words names
agree_more v more terms words names n long named agree =
    λ k d h. ap bit (truth_more v more (get_or names k d).2 (subst (λ m. IsOver m (get_or names k d).2) (sym long) (named k d h).over)) ∙ agree k d h

values_agree : (v : List Bool) (terms : List Term) (words : List Word) (names : List BitName) (id : TermId) (n w : ℕ) → length v ≡ n
    → IsVariable terms id → w ≤ width_at terms id → All (IsNamed terms n) names → Agree v terms words names →
    Agree (v ++ bits_of_value (value_of terms words id) w) terms words (names ++ new_names id n w)
unfolding bits_of_value
values_agree v terms words names id n zero long variable h named agree =
    subst (λ u. Agree u terms words (names ++ [])) (sym (append-nil v)) (subst (Agree v terms words) (sym (append-nil names)) agree)
values_agree v terms words names id n (suc w) long variable h named agree =
    let m = value_of terms words id in
    let x = nat_eq (bit_at m w) 1 in
    let u = v ++ bits_of_value m w in
    let u_long : length u ≡ n + w = length-append v (bits_of_value m w) ∙ omega (arith, bits_long m w, long) in
    let before : Agree u terms words (names ++ new_names id n w) = values_agree v terms words names id n w long variable (omega (arith, h)) named agree in
    let all_named : All (IsNamed terms (n + w)) (names ++ new_names id n w) =
    All-append (IsNamed terms (n + w)) names (new_names id n w) (named_later terms n (n + w) names (omega arith) named)
    (names_named terms id n w (n + w) variable (omega (arith, h)) (omega arith)) in
    let here : Agrees (u ++ x ∷ []) terms words (id, w, pos (n + w + 1)) = ap bit (truth_new u x (n + w) u_long) ∙ bit_of (m / 2 ^ w) x refl in
    subst (λ t. Agree t terms words (names ++ new_names id n (suc w))) (append_assoc v (bits_of_value m w) (x ∷ []))
    (subst (Agree (u ++ x ∷ []) terms words) (sym (pushed names id n w))
    (All-push (Agrees (u ++ x ∷ []) terms words) (names ++ new_names id n w) (id, w, pos (n + w + 1))
    (agree_more u (x ∷ []) terms words (names ++ new_names id n w) (n + w) u_long all_named before) here))

-- the value of a variable fits its width
variable_below : {terms : List Term} → AreTerms terms → (words : List Word) (id : TermId) (number width w : ℕ)
    → slice_get terms id.0 ≡ Some (nodes.Var number width, w) → Assigns words terms → value_of terms words id < 2 ^ w
variable_below {terms} made words id number width w here assigns =
    let word = assigns id.0 (nodes.Var number width, w) here in
    let value : value_of terms words id ≡ word.0.value = value_follows made words id ∙ ap (entry_value words (bits_at terms words)) here ∙ ap assigned word.1 in
    subst (λ k. k < 2 ^ w) (sym value) (subst (λ k. word.0.value < 2 ^ k) word.2 word.0.in_range)

-- each bit has its entry
new_contains : (id : TermId) (n w at : ℕ) → at < w → Contains (new_names id n w) (id, at, pos (n + at + 1))
new_contains id n zero at h = let none : ⊥ = omega (arith, h) in absurd none
new_contains id n (suc w) at h =
    elim (cases_lt at w) [
      | inl lower ↦ Contains-append_left (new_names id n w) ((id, w, pos (n + w + 1)) ∷ []) (id, at, pos (n + at + 1)) (new_contains id n w at lower)
      | inr past ↦
          let e : at ≡ w = omega (arith, h, past) in
          subst (λ k. Contains (new_names id n (suc w)) (id, k, pos (n + k + 1))) (sym e) (Contains-push (new_names id n w) (id, w, pos (n + w + 1)))
    ]

-- an entry is not a variable and an operation
is_input : Option Term → Bool
is_input (Some (nodes.Var number width, w)) = true
is_input _ = false

no_variable : (index width v : ℕ) (op : Op) (parts : Parts) (w : ℕ) → ◌≡◌ {A = Option Term} (Some (nodes.Var index width, v)) (Some (nodes.Op op parts, w)) → ⊥
unfolding is_input
no_variable index width v op parts w e = true≢false (ap is_input e)

-- ---- one more term

-- a variable with new literals
pub variable_state : {terms : List Term} → AreTerms terms → (marks : List Bool) (n : ℕ) (set new : ClauseSet) (lists : List (List ℤ))
    (names : List BitName) (word : List ℤ) (id : TermId) (index width : ℕ) → id.0 ≡ n → IsState terms marks n set lists names →
    IsNet set → slice_get terms id.0 ≡ Some (nodes.Var index width, width_at terms id) → new ≡ record set { variables = set.variables + width }
    → word ≡ new_literals set.variables width →
    IsState terms marks (n + 1) new (lists ++ word ∷ []) (names ++ new_names id set.variables width)
variable_state {terms} made marks n set new lists names word id index width at state net here new_is word_is =
    let next = comes_next made id.0 (nodes.Var index width, width_at terms id) here in
    let wide : width ≡ width_at terms id = next.1 in
    let counted : new.variables ≡ set.variables + width = ap (λ (s : ClauseSet). s.variables) new_is in
    let same : new.clauses ≡ set.clauses = ap (λ (s : ClauseSet). s.clauses) new_is in
    let low_names : All (λ name. name.0.0 < id.0) names = subst (λ k. All (λ name. name.0.0 < k) names) (sym at) state.low in
    let variable : IsVariable terms id = (index, here ∙ ap (λ k. Some (nodes.Var index k, width_at terms id)) wide) in
    let weaker : (v : List Bool) → Holds v new → Holds v set = λ v h. subst (λ cs. makes_all_true v cs ≡ true) same h in
    more_state terms marks n set new lists names (new_names id set.variables width) word id at state (omega (arith, counted)) weaker
    (record {
      named = All-append (IsNamed terms new.variables) names (new_names id set.variables width)
          (named_later terms set.variables new.variables names (omega (arith, counted)) state.names_ok.named)
          (names_named terms id set.variables width new.variables variable (omega (arith, wide)) (omega (arith, counted)));
      once = names_once names id set.variables width low_names state.names_ok.once;
    })
    (names_low names id set.variables width (n + 1) (ap (λ k. k + 1) at) low_names)
    (λ words assigns.
    let before = state.models words assigns in
    let v = before.0 in
    let long : length v ≡ set.variables = before.1.each_variable in
    let values = bits_of_value (value_of terms words id) width in (
      v ++ values,
      record {
        each_variable = length-append v values ∙ omega (arith, long, bits_long (value_of terms words id) width, counted);
        each_clause = subst (λ cs. makes_all_true (v ++ values) cs ≡ true) (sym same) (holds_more v values set long net.over before.1.each_clause);
      },
      values_agree v terms words names id set.variables width long variable (omega (arith, wide)) state.names_ok.named before.2,
    ))
    (λ marked. record {
      over = subst (All (IsOver new.variables)) (sym word_is) (literals_over set.variables width new.variables (omega (arith, counted)));
      width = ap length word_is ∙ literals_long set.variables width ∙ wide;
      is = λ words v assigns h agree.
          ap (number v) word_is
          ∙ input_number v terms words names id set.variables width agree
          ∙ mod-eq_of_lt (subst (λ k. value_of terms words id < 2 ^ k) (sym wide) (variable_below made words id index width (width_at terms id) here assigns));
    })
    (λ marked is k h. (
      pos (set.variables + k + 1),
      Contains-append_right names (new_names id set.variables width)
          (id, k, pos (set.variables + k + 1)) (new_contains id set.variables width k (omega (arith, h, wide))),
    ))
    (let e : literals new ≤ literals set = omega (arith, ap (sum_by length) same) in omega (arith, e))

-- an operation on parts
pub operation_state : {terms : List Term} → AreTerms terms → (marks : List Bool) (n : ℕ) (set new : ClauseSet) (lists : List (List ℤ))
    (names : List BitName) (word : List ℤ) (id : TermId) (op : Op) (parts : Parts) (w : ℕ) → (at : id.0 ≡ n) →
    (state : IsState terms marks n set lists names) → is_marked marks id ≡ true → (here : slice_get terms id.0 ≡ Some (nodes.Op op parts, w))
    → (closed : All (λ part. is_marked marks part ≡ true) (listed parts)) →
    MakesOperation set new lists op (listed parts) word → IsState terms marks (n + 1) new (lists ++ word ∷ []) names
operation_state {terms} made marks n set new lists names word id op parts w at state marked here closed makes =
    subst (IsState terms marks (n + 1) new (lists ++ word ∷ [])) (append-nil names)
    (more_state terms marks n set new lists names [] word id at state makes.builds.variables makes.builds.weaker
    (subst (AreNames terms new.variables) (sym (append-nil names))
    (record {
      named = named_later terms set.variables new.variables names makes.builds.variables state.names_ok.named;
      once =
          state.names_ok.once;
    }))
    (subst (All (λ name. name.0.0 < n + 1)) (sym (append-nil names)) (All-weaker (λ name. name.0.0 < n) (λ name. name.0.0 < n + 1)
    (λ name h. omega (arith, h)) names state.low))
    (λ words assigns.
    let before = state.models words assigns in
    let more = makes.builds.extends before.0 before.1 in (
      before.0 ++ more.0,
      more.1,
      subst (Agree (before.0 ++ more.0) terms words) (sym (append-nil names))
          (agree_more before.0 more.0 terms words names set.variables before.1.each_variable state.names_ok.named before.2),
    ))
    (λ m. subst (λ ns. IsWordOf terms new ns id word) (sym (append-nil names)) (operation_word made state id at op parts w here closed new word makes))
    (λ m variable k h. absurd (no_variable variable.0 (width_at terms id) (width_at terms id) op parts w (sym variable.1 ∙ here)))
    (let cost = operation_cost_within made state id at op parts w here closed new word makes in
    let e : cond (is_marked marks id) (entry_cost terms (slice_get terms n) - 130) 0 ≡ entry_cost terms (slice_get terms id.0) - 130 =
    ap (λ b. cond b (entry_cost terms (slice_get terms n) - 130) 0) marked ∙ ap (λ k. entry_cost terms (slice_get terms k) - 130) (sym at) in
    omega (arith, cost, e)))

-- a term that isn't marked
pub skipped_state : (terms : List Term) (marks : List Bool) (n : ℕ) (set : ClauseSet) (lists : List (List ℤ)) (names : List BitName) (id : TermId)
    → id.0 ≡ n → IsState terms marks n set lists names → is_marked marks id ≡ false →
    IsState terms marks (n + 1) set (lists ++ [] ∷ []) names
skipped_state terms marks n set lists names id at state not_marked =
    subst (IsState terms marks (n + 1) set (lists ++ [] ∷ [])) (append-nil names)
    (more_state terms marks n set set lists names [] [] id at state (omega arith) (λ v h. h)
    (subst (AreNames terms set.variables) (sym (append-nil names)) state.names_ok)
    (subst (All (λ name. name.0.0 < n + 1)) (sym (append-nil names)) (All-weaker (λ name. name.0.0 < n) (λ name. name.0.0 < n + 1)
    (λ name h. omega (arith, h)) names state.low))
    (λ words assigns. let before = state.models words assigns in (before.0, before.1, subst (Agree before.0 terms words) (sym (append-nil names)) before.2))
    (λ m. absurd (true≢false (sym m ∙ not_marked)))
    (λ m. absurd (true≢false (sym m ∙ not_marked)))
    (omega arith))

-- ---- the same of results

parts_are : (terms : List Term) (id : TermId) (op : Op) (parts : Parts) (w : ℕ) → slice_get terms id.0 ≡ Some (nodes.Op op parts, w)
    → parts_at terms id ≡ listed parts
parts_are terms id op parts w here = ap parts_in here

pub closed_parts : (terms : List Term) (marks : List Bool) (id : TermId) (op : Op) (parts : Parts) (w : ℕ)
    → slice_get terms id.0 ≡ Some (nodes.Op op parts, w) → All (λ part. is_marked marks part ≡ true) (parts_at terms id) →
    All (λ part. is_marked marks part ≡ true) (listed parts)
closed_parts terms marks id op parts w here closed = subst (All (λ part. is_marked marks part ≡ true)) (parts_are terms id op parts w here) closed

pub variable_result : {A E : Type 0} {terms : List Term} → AreTerms terms → (marks : List Bool) (set new : ClauseSet) (lists more : List (List ℤ))
    (names entries : List BitName) (id : TermId) (index width : ℕ) (result : Result A E) → IsState terms marks id.0 set lists names →
    IsNet set → slice_get terms id.0 ≡ Some (nodes.Var index width, width_at terms id) → OnOk result
    (new ≡ record set { variables = set.variables + width }) → OnOk result (entries ≡ names ++ new_names id set.variables width) →
    OnOk result (more ≡ lists ++ new_literals set.variables width ∷ []) → OnOk result (IsState terms marks (id.0 + 1) new more entries)
variable_result {terms = terms} made marks set new lists more names entries id index width (Ok x) state net here new_is entries_are more_is =
    subst (λ ls. IsState terms marks (id.0 + 1) new ls entries) (sym more_is)
    (subst (IsState terms marks (id.0 + 1) new (lists ++ new_literals set.variables width ∷ [])) (sym entries_are)
    (variable_state made marks id.0 set new lists names (new_literals set.variables width) id index width refl state net here new_is refl))
variable_result made marks set new lists more names entries id index width (Err e) state net here new_is entries_are more_is = more_is

pub operation_result : {A E : Type 0} {terms : List Term} → AreTerms terms → (marks : List Bool) (set new : ClauseSet) (lists more : List (List ℤ))
    (names entries : List BitName) (id : TermId) (op : Op) (parts : Parts) (w : ℕ) (result : Result A E) →
    IsState terms marks id.0 set lists names → is_marked marks id ≡ true → slice_get terms id.0 ≡ Some (nodes.Op op parts, w)
    → All (λ part. is_marked marks part ≡ true) (parts_at terms id) →
    OnOk result (AddsOperation set new lists more op (listed parts)) → OnOk result (entries ≡ names)
    → OnOk result (IsState terms marks (id.0 + 1) new more entries)
operation_result {terms = terms} made marks set new lists more names entries id op parts w (Ok x) state marked here closed adds entries_are =
    subst (λ ls. IsState terms marks (id.0 + 1) new ls entries) (sym adds.lists_are)
    (subst (IsState terms marks (id.0 + 1) new (lists ++ adds.word ∷ [])) (sym entries_are)
    (operation_state made marks id.0 set new lists names adds.word id op parts w refl state marked here
    (closed_parts terms marks id op parts w here closed) adds.makes))
operation_result made marks set new lists more names entries id op parts w (Err e) state marked here closed adds entries_are = entries_are

-- ---- for no terms

first_holds : (terms : List Term) (words : List Word) → IsModel (true ∷ []) (record { variables = 1; clauses = (pos 1 ∷ []) ∷ [] })
first_holds terms words = record { each_variable = refl; each_clause = refl }

pub first_state : (terms : List Term) (marks : List Bool) (set : ClauseSet) (lists : List (List ℤ)) (names : List BitName)
    → set ≡ record { variables = 1; clauses = (pos 1 ∷ []) ∷ [] } → lists ≡ [] → names ≡ [] → IsState terms marks 0 set lists names
first_state terms marks set lists names set_is lists_are names_are =
    subst (λ s. IsState terms marks 0 s lists names) (sym set_is)
    (subst (λ ls. IsState terms marks 0 (record { variables = 1; clauses = (pos 1 ∷ []) ∷ [] }) ls names) (sym lists_are)
    (subst (IsState terms marks 0 (record { variables = 1; clauses = (pos 1 ∷ []) ∷ [] }) []) (sym names_are) (record {
      count = refl;
      each = λ id below marked. let none : ⊥ = omega (arith, below) in absurd none;
      complete = λ id below marked variable at h. let none : ⊥ = omega (arith, below) in absurd none;
      names_ok = record { named = All-nil (IsNamed terms 1); once = λ i j d h k. let none : ⊥ = omega (arith, h, k) in absurd none };
      low = All-nil (λ name. name.0.0 < 0);
      models = λ words assigns. (true ∷ [], first_holds terms words, All-nil (Agrees (true ∷ []) terms words));
      added = omega arith;
    })))

-- what is added only grows
pub added_grows : (terms : List Term) (marks : List Bool) (m n : ℕ) → m ≤ n → added_to terms marks m ≤ added_to terms marks n
added_grows terms marks zero n h = omega arith
added_grows terms marks (suc m) zero h = let none : ⊥ = omega (arith, h) in absurd none
added_grows terms marks (suc m) (suc n) h =
    elim (cases_lt m n) [
      | inl less ↦ omega (arith, added_grows terms marks (suc m) n (omega (arith, less)))
      | inr past ↦ let e : n ≡ m = omega (arith, past, h) in subst (λ k. added_to terms marks (suc m) ≤ added_to terms marks (suc k)) (sym e) (omega arith)
    ]
