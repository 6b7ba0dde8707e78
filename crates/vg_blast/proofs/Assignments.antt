-- Words that are read off truth values.
use Rattle.std.proofs.Common.{◌≡◌, ℕ, zero, suc, ◌+◌, ◌*◌, ◌%◌, ◌^◌, ◌<◌, ◌≤◌, List, [], ◌∷◌, ◌++◌, length, set, get_or, take, slice_get, Some, Bool}
use Rattle.std.proofs.Common.{true, false, ◌⊎◌, refl, sym, ap, subst, ◌∙◌, inl, inr, arith, unwrap_or, length-append}
use Rattle.std.specs.Prelude.{bit_or}
use Rattle.std.specs.Int.{bit_at}
use Rattle.std.proofs.lemmas.Bool.{cases_lt}
use Rattle.std.proofs.lemmas.Bool.Decides.{eqb_tells}
use Rattle.std.proofs.lemmas.List.{length-set, get_or-set_other, get_or_default, take_more}
use Rattle.std.proofs.lemmas.Grind.{get_or-set_at}
use Rattle.std.proofs.lemmas.Option.{get_or_from_slice_get, slice_get_within, slice_get-get_or}
use Rattle.std.proofs.lemmas.Nat.{or_lt, one_shl}
use Rattle.std.proofs.lemmas.Nat.Bits.{bit_at-zero}
use Rattle.std.proofs.Math.Pow.{pow-lt}
use Rattle.std.proofs.Math.Seq.{get_or-append_seam}
use Rattle.vg_bits.specs.Words.{bit}
use Rattle.vg_bits.specs.declared.word.Word.{Word}
use Rattle.vg_term.specs.Terms.{Term, AreTerms, width_at, variable_count}
use Rattle.vg_term.specs.Value.{value_of, bits_at, entry_value, assigned, Assigns, HasItsWord}
use Rattle.vg_term.specs.declared.node.TermId.{TermId}
use Rattle.vg_term.specs.declared.node.Op.{Op}
use Rattle.vg_term.specs.declared.node.Parts.{Parts}
use Rattle.vg_term.specs.declared.node.Node.TheVariants as nodes
use Rattle.vg_term.proofs.Made.{comes_next, stays}
use Rattle.vg_term.proofs.Values.{value_follows}
use Rattle.vg_blast.specs.Blasting.{BitName, AreNames}
use Rattle.vg_blast.specs.Circuits.{truth}
use Rattle.vg_blast.specs.Assigning.{AreZeros, bit_of_term, SetsBit, AreFilled}

-- ---- a bit that is set

pub bit_within : (w v at : ℕ) → w ≤ 64 → at < w → v < 2 ^ w → bit_or v (1 * 2 ^ at % 2 ^ 64) < 2 ^ w
bit_within w v at le h below =
    let e : 1 * 2 ^ at % 2 ^ 64 ≡ 2 ^ at = one_shl at 64 (omega (arith, le, h)) in
    or_lt w v (1 * 2 ^ at % 2 ^ 64) below (subst (λ n. n < 2 ^ w) (sym e) (pow-lt {i = at} {j = w} h))

-- ---- variables are numbered in order

some_same : {X : Type 0} {x y : X} → Some x ≡ Some y → x ≡ y
some_same {X} {x} e = ap (λ r. unwrap_or r x) e

count_append : (old more : List Term) → variable_count (old ++ more) ≡ variable_count old + variable_count more
count_append [] more = omega arith
count_append ((nodes.Var number width, w) ∷ old) more = omega (arith, count_append old more)
count_append ((nodes.Op op parts, w) ∷ old) more = count_append old more

none_taken : (n : ℕ) → variable_count (take n []) ≡ 0
none_taken zero = refl
none_taken (suc n) = refl

count_more : (terms : List Term) (at : ℕ) (t : Term) → slice_get terms at ≡ Some t → variable_count (take (at + 1) terms) ≡ variable_count
    (take at terms) + variable_count (t ∷ [])
count_more terms at t e =
    let within = slice_get_within terms at t e in
    let is : get_or terms at t ≡ t = get_or_from_slice_get terms at t t e in
    ap variable_count (take_more terms at t within ∙ ap (λ y. take at terms ++ y ∷ []) is) ∙ count_append (take at terms) (t ∷ [])

-- the number of a variable is the count of those before it
pub number_is : {terms : List Term} → AreTerms terms → (at number width w : ℕ) → slice_get terms at ≡ Some (nodes.Var number width, w)
    → number ≡ variable_count (take at terms)
number_is made at number width w e = (comes_next made at (nodes.Var number width, w) e).0

count_grows : (terms : List Term) (m n : ℕ) → m ≤ n → variable_count (take m terms) ≤ variable_count (take n terms)
count_grows [] m n h = omega (arith, none_taken m, none_taken n)
count_grows (t ∷ terms) zero n h = omega arith
count_grows (t ∷ terms) (suc m) zero h = let none : ⊥ = omega (arith, h) in absurd none
count_grows ((nodes.Var number width, w) ∷ terms) (suc m) (suc n) h = omega (arith, count_grows terms m n (omega (arith, h)))
count_grows ((nodes.Op op parts, w) ∷ terms) (suc m) (suc n) h = count_grows terms m n (omega (arith, h))

-- an earlier variable has a lower number
earlier : {terms : List Term} → AreTerms terms → (a b m n v w x y : ℕ) → slice_get terms a ≡ Some (nodes.Var m v, x)
    → slice_get terms b ≡ Some (nodes.Var n w, y) → a < b → m < n
earlier {terms} made a b m n v w x y p q h =
    let first = number_is made a m v x p in
    let second = number_is made b n w y q in
    let more : variable_count (take (a + 1) terms) ≡ variable_count (take a terms) + 1 = count_more terms a (nodes.Var m v, x) p in
    omega (arith, first, second, more, count_grows terms (a + 1) b (omega (arith, h)))

-- so one number is one term
one_number : {terms : List Term} → AreTerms terms → (a b : TermId) (n v w x y : ℕ) → slice_get terms a.0 ≡ Some (nodes.Var n v, x)
    → slice_get terms b.0 ≡ Some (nodes.Var n w, y) → a ≡ b
one_number made a b n v w x y p q =
    elim (cases_lt a.0 b.0) [
      | inl less ↦ let none : ⊥ = omega (arith, earlier made a.0 b.0 n n v w x y p q less) in absurd none
      | inr past ↦ elim (cases_lt b.0 a.0) [
        | inl less ↦ let none : ⊥ = omega (arith, earlier made b.0 a.0 n n w v y x q p less) in absurd none
        | inr also ↦ let e : a.0 ≡ b.0 = omega (arith, past, also) in (λ j. record { 0 = e j })
      ]
    ]

-- ---- zeros

last_or_before : (words : List Word) (w v : Word) (i : ℕ) → slice_get (words ++ w ∷ []) i ≡ Some v → (slice_get words i ≡ Some v) ⊎ (w ≡ v)
last_or_before words w v i e =
    let within = slice_get_within (words ++ w ∷ []) i v e in
    elim (cases_lt i (length words)) [
      | inl before ↦ inl (sym (stays words (w ∷ []) i before) ∙ e)
      | inr past ↦
          let here : i ≡ length words = omega (arith, within, past, length-append words (w ∷ [])) in
          inr (sym (get_or-append_seam words w [] v) ∙ ap (λ n. get_or (words ++ w ∷ []) n v) (sym here) ∙ get_or_from_slice_get (words ++ w ∷ []) i v v e)
    ]

has_more : (words more : List Word) (t : Term) → HasItsWord words t → HasItsWord (words ++ more) t
has_more words more (nodes.Var number width, w) has = (has.0, stays words more number (slice_get_within words number has.0 has.1) ∙ has.1, has.2)
has_more words more (nodes.Op op parts, w) has = tt

pub zero_pushed : {terms : List Term} → AreTerms terms → (n number width w : ℕ) (words new : List Word) (word : Word)
    → slice_get terms n ≡ Some (nodes.Var number width, w) → AreZeros terms n words → word.width ≡ width → word.value ≡ 0 → new ≡ words ++ word ∷ [] →
    AreZeros terms (n + 1) new
zero_pushed {terms} made n number width w words new word here zeros wide none new_is =
    let next = comes_next made n (nodes.Var number width, w) here in
    let at_end : number ≡ length words = next.0 ∙ sym zeros.count in
    subst (AreZeros terms (n + 1)) (sym new_is) (record {
      count = length-append words (word ∷ []) ∙ (let c : variable_count (take (n + 1) terms) ≡ variable_count (take n terms) + 1 =
          count_more terms n (nodes.Var number width, w) here in omega (arith, c, zeros.count));
      each = λ at t h e.
          elim (cases_lt at n) [
            | inl before ↦ has_more words (word ∷ []) t (zeros.each at t before e)
            | inr past ↦
                let at_is : at ≡ n = omega (arith, h, past) in
                let t_is : (nodes.Var number width, w) ≡ t = some_same (sym here ∙ ap (slice_get terms) (sym at_is) ∙ e) in
                let last : slice_get (words ++ word ∷ []) number ≡ Some word =
                slice_get-get_or (words ++ word ∷ []) number word (omega (arith, at_end, length-append words (word ∷ [])))
                ∙ ap Some (ap (λ k. get_or (words ++ word ∷ []) k word) at_end ∙ get_or-append_seam words word [] word) in
                subst (HasItsWord (words ++ word ∷ [])) t_is (word, last, wide ∙ next.1)
          ];
      zero_each = λ i v e. elim (last_or_before words word v i e) [
        | inl before ↦ zeros.zero_each i v before
        | inr same ↦ sym
            (ap (λ (x : Word). x.value) same) ∙ none
      ];
    })

pub zero_kept : {terms : List Term} (n w : ℕ) (op : Op) (parts : Parts) (words : List Word) → slice_get terms n ≡ Some (nodes.Op op parts, w)
    → AreZeros terms n words → AreZeros terms (n + 1) words
zero_kept {terms} n w op parts words here zeros = record {
  count = let c : variable_count (take (n + 1) terms) ≡ variable_count (take n terms) + 0 = count_more terms n (nodes.Op op parts, w) here in
      omega (arith, c, zeros.count);
  each = λ at t h e.
      elim (cases_lt at n) [
        | inl before ↦ zeros.each at t before e
        | inr past ↦
            let at_is : at ≡ n = omega (arith, h, past) in
            let t_is : (nodes.Op op parts, w) ≡ t = some_same (sym here ∙ ap (slice_get terms) (sym at_is) ∙ e) in
            subst (HasItsWord words) t_is tt
      ];
  zero_each = zeros.zero_each;
}

-- ---- one bit

value_is : {terms : List Term} → AreTerms terms → (words : List Word) (id : TermId) (n v w : ℕ) → slice_get terms id.0 ≡ Some (nodes.Var n v, w)
    → value_of terms words id ≡ assigned (slice_get words n)
value_is {terms} made words id n v w here = value_follows made words id ∙ ap (entry_value words (bits_at terms words)) here

get_set_same : (words : List Word) (n : ℕ) (w : Word) → n < length words → slice_get (set words n w) n ≡ Some w
get_set_same words n w h = slice_get-get_or (set words n w) n w (omega (arith, h, length-set words n w)) ∙ ap Some (get_or-set_at words n n w w refl h)

get_set_other : (words : List Word) (n m : ℕ) (w v : Word) → (m ≡ n → ⊥) → slice_get words m ≡ Some v → slice_get (set words n w) m ≡ Some v
get_set_other words n m w v apart e =
    let within = slice_get_within words m v e in
    slice_get-get_or (set words n w) m v (omega (arith, within, length-set words n w)) ∙ ap Some
    (get_or-set_other words n m w v apart ∙ get_or_from_slice_get words m v v e)

set_assigns : (words : List Word) (n : ℕ) (old more : Word) → slice_get words n ≡ Some old → n < length words → more.width ≡ old.width → (t : Term)
    → HasItsWord words t → HasItsWord (set words n more) t
set_assigns words n old more there within wide (nodes.Op op parts, w) has = tt
set_assigns words n old more there within wide (nodes.Var m v, w) has =
    elim (eqb_tells m n) [
      | inl same ↦
          let old_is : old ≡ has.0 = some_same (sym there ∙ ap (slice_get words) (sym same.1) ∙ has.1) in
          (more, ap (slice_get (set words n more)) same.1 ∙ get_set_same words n more within, wide ∙ ap (λ (x : Word). x.width) old_is ∙ has.2)
      | inr other ↦ (has.0, get_set_other words n m more has.0 other.1 has.1, has.2)
    ]

pub bit_set : {terms : List Term} → AreTerms terms → (words new : List Word) (id : TermId) (at n v w : ℕ) (old more : Word)
    → slice_get terms id.0 ≡ Some (nodes.Var n v, w) → Assigns words terms → n < length words → old ≡ get_or words n old → more.width ≡ old.width →
    bit_at more.value at ≡ 1 → ((i : ℕ) → (i ≡ at → ⊥) → bit_at more.value i ≡ bit_at old.value i) → new ≡ set words n more → SetsBit terms words new id at true
bit_set {terms} made words new id at n v w old more here assigns within old_is wide one others new_is =
    let old_there : slice_get words n ≡ Some old = slice_get-get_or words n old within ∙ ap Some (sym old_is) in
    subst (λ (ws : List Word). SetsBit terms words ws id at true) (sym new_is) (record {
      assigns = λ k t e. set_assigns words n old more old_there within wide t (assigns k t e);
      same = λ was. ap (λ x. bit_at x at) (value_is made (set words n more) id n v w here ∙ ap assigned (get_set_same words n more within)) ∙ one;
      others = λ x i variable apart.
          elim (eqb_tells variable.0 n) [
            | inl same ↦
                let x_here : slice_get terms x.0 ≡ Some (nodes.Var n (width_at terms x), width_at terms x) = variable.1
                ∙ ap (λ m. Some (nodes.Var m (width_at terms x), width_at terms x)) same.1 in
                let x_is : x ≡ id = one_number made x id n (width_at terms x) v (width_at terms x) w x_here here in
                ap (λ y. bit_at y i) (value_is made (set words n more) x n (width_at terms x) (width_at terms x) x_here
                ∙ ap assigned (get_set_same words n more within))
                ∙ others i (λ i_is. apart (x_is, i_is))
                ∙ sym (ap (λ y. bit_at y i) (value_is made words x n (width_at terms x) (width_at terms x) x_here ∙ ap assigned old_there))
            | inr other ↦
                let word = assigns x.0 (nodes.Var variable.0 (width_at terms x), width_at terms x) variable.1 in
                ap (λ y. bit_at y i)
                (value_is made (set words n more) x variable.0 (width_at terms x) (width_at terms x) variable.1
                ∙ ap assigned (get_set_other words n variable.0 more word.0 other.1 word.1)
                ∙ sym (value_is made words x variable.0 (width_at terms x) (width_at terms x) variable.1 ∙ ap assigned word.1))
          ];
    })

pub bit_kept : (terms : List Term) (words : List Word) (id : TermId) (at : ℕ) → Assigns words terms → SetsBit terms words words id at false
bit_kept terms words id at assigns = record { assigns = assigns; same = λ was. was; others = λ x i variable apart. refl }

-- ---- all of them

pub filled_none : {terms : List Term} → AreTerms terms → (values : List Bool) (words : List Word) (names : List BitName) (n : ℕ)
    → AreNames terms n names → AreZeros terms (length terms) words → AreFilled values terms words names 0
filled_none {terms} made values words names n are zeros =
    let assigns : Assigns words terms = λ at t e. zeros.each at t (slice_get_within terms at t e) e in
    record {
      assigns = assigns;
      done = λ j d h k. let none : ⊥ = omega (arith, h) in absurd none;
      left = λ j d h k.
          let name = get_or names j d in
          let variable = (are.named j d k).variable in
          let word = assigns name.0.0 (nodes.Var variable.0 (width_at terms name.0), width_at terms name.0) variable.1 in
          ap (λ y. bit_at y name.1) (value_is made words name.0 variable.0 (width_at terms name.0) (width_at terms name.0) variable.1
          ∙ ap assigned word.1 ∙ zeros.zero_each variable.0 word.0 word.1) ∙ bit_at-zero name.1;
    }

pub filled_more : (values : List Bool) (terms : List Term) (words new : List Word) (names : List BitName) (n k : ℕ) (name : BitName) (holds : Bool)
    → AreNames terms n names → k < length names → name ≡ get_or names k name → holds ≡ truth values name.2 →
    AreFilled values terms words names k → SetsBit terms words new name.0 name.1 holds → AreFilled values terms new names (k + 1)
filled_more values terms words new names n k name holds are h name_is holds_is filled sets =
    let apart : (j : ℕ) (d : BitName) → (j ≡ k → ⊥) → j < length names → ((get_or names j d).0 ≡ name.0) × ((get_or names j d).1 ≡ name.1) → ⊥ =
    λ j d other within same.
    let here : get_or names k d ≡ name = get_or_default names k d name h ∙ sym name_is in
    elim (cases_lt j k) [
      | inl less ↦ are.once j k d less h (same.0 ∙ sym (ap (λ (b : BitName). b.0) here), same.1 ∙ sym (ap (λ (b : BitName). b.1) here))
      | inr past ↦ are.once k j d (omega (arith, past, other)) within (ap (λ (b : BitName). b.0) here ∙ sym same.0, ap (λ (b : BitName). b.1) here ∙ sym same.1)
    ] in
    record {
      assigns = sets.assigns;
      done = λ j d lower within.
          elim (eqb_tells j k) [
            | inl same ↦
                let here : get_or names j d ≡ name = ap (λ i. get_or names i d) same.1 ∙ get_or_default names k d name h ∙ sym name_is in
                let zero_before : bit_of_term terms words name.0 name.1 ≡ 0 =
                subst (λ (b : BitName). bit_of_term terms words b.0 b.1 ≡ 0) (get_or_default names k d name h ∙ sym name_is)
                (filled.left k d (λ l. omega (arith, l)) h) in
                subst (λ (b : BitName). bit (truth values b.2) ≡ bit_of_term terms new b.0 b.1) (sym here) (sym (sets.same zero_before ∙ ap bit holds_is))
            | inr other ↦
                filled.done j d (omega (arith, lower, other.1)) within
                ∙ sym (sets.others (get_or names j d).0 (get_or names j d).1 (are.named j d within).variable (apart j d other.1 within))
          ];
      left = λ j d past within.
          let other : j ≡ k → ⊥ = λ e. past (omega (arith, e)) in
          sets.others (get_or names j d).0 (get_or names j d).1 (are.named j d within).variable (apart j d other within)
          ∙ filled.left j d (λ l. past (omega (arith, l))) within;
    }
