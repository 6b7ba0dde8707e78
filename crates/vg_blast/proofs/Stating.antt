-- From the literals of some terms to those of one more.
use Rattle.std.proofs.Common.{◌≡◌, ℕ, zero, suc, ◌+◌, ◌-◌, ◌*◌, ◌<◌, ◌≤◌, List, [], ◌∷◌, ◌++◌, map, length, get_or, slice_get, Some, Bool, true}
use Rattle.std.proofs.Common.{false, cond, refl, sym, ap, subst, ◌∙◌, inl, inr, arith, All, add-one, length-append, Result, Vec, Global, Contains}
use Rattle.std.specs.Prelude.{ℤ, IfOk}
use Rattle.std.proofs.lemmas.Bool.{cases_lt}
use Rattle.std.proofs.lemmas.List.{get_or_append_left}
use Rattle.std.proofs.lemmas.List.Elements.{All-nil, All-cons, All-head, All-tail, All-weaker, Contains-append_left}
use Rattle.std.proofs.lemmas.Option.{get_or_from_slice_get, slice_get_within, slice_get-get_or}
use Rattle.std.proofs.Math.Seq.{get_or-append_seam}
use Rattle.std.proofs.Math.Nat.{mul-le-mul_left}
use Rattle.vg_bits.specs.declared.word.Word.{Word}
use Rattle.vg_cnf.specs.Clauses.{ClauseSet, IsOver, IsModel}
use Rattle.vg_term.specs.Operations.{Fits, answer, width_of, width_one, width_two, value_one, value_two, value_three}
use Rattle.vg_term.specs.Terms.{Term, AreTerms, listed, width_at, width_in}
use Rattle.vg_term.specs.Value.{bits_at, entry_value, Assigns}
use Rattle.vg_term.specs.declared.node.TermId.{TermId}
use Rattle.vg_term.specs.declared.node.Op.{Op}
use Rattle.vg_term.specs.declared.node.Op.TheVariants as ops
use Rattle.vg_term.specs.declared.node.Parts.{Parts}
use Rattle.vg_term.specs.declared.node.Node.TheVariants as nodes
use Rattle.vg_term.proofs.Made.{is_made, same_map, comes_next}
use Rattle.vg_term.proofs.Values.{value_follows}
use Rattle.vg_blast.specs.Circuits.{number, literals, Holds, MakesWord, bits_by}
use Rattle.vg_blast.specs.Cost.{operation_cost, entry_cost, greatest}
use Rattle.vg_blast.specs.Marking.{is_marked}
use Rattle.vg_blast.specs.Blasting.{BitName, Agrees, Agree, AreNames, IsVariable}
use Rattle.vg_blast.specs.State.{word_at, part_bits, part_width, AreReady, most_added, MakesOperation, IsWordOf, added_to, IsState}
use Rattle.vg_blast.proofs.Operating.{cheaper_result}

-- ---- costs grow with the width

square_grows : (m n : ℕ) → m ≤ n → m * m ≤ n * n
square_grows m n h = omega (arith, mul-le-mul_left {m = m} {n = n} m h, mul-le-mul_left {m = m} {n = n} n h)

pub cost_grows : (op : Op) (m n : ℕ) → m ≤ n → operation_cost op m ≤ operation_cost op n
cost_grows ops.Mul m n h = omega (arith, square_grows m n h)
cost_grows ops.Udiv m n h = omega (arith, square_grows m n h)
cost_grows ops.Urem m n h = omega (arith, square_grows m n h)
cost_grows ops.Shl m n h = omega (arith, h)
cost_grows ops.Lshr m n h = omega (arith, h)
cost_grows ops.Ashr m n h = omega (arith, h)
cost_grows _ m n h = omega (arith, h)

cost_within : (op : Op) (m n : ℕ) → m ≤ n → operation_cost op m - 130 ≤ operation_cost op n - 130
cost_within op m n h = omega (arith, cost_grows op m n h)

-- ---- an operation on the literals of its parts

word_is : (lists : List (List ℤ)) (a : TermId) (slice : List ℤ) → slice_get lists a.0 ≡ Some slice → slice ≡ word_at lists a
word_is lists a slice e = sym (get_or_from_slice_get lists a.0 slice [] e)

pub part_over : (lists : List (List ℤ)) (n : ℕ) (a : TermId) (slice : List ℤ) → slice_get lists a.0 ≡ Some slice → All (IsOver n) (word_at lists a)
    → All (IsOver n) slice
part_over lists n a slice here over = subst (All (IsOver n)) (sym (word_is lists a slice here)) over

pub none_made : {E : Type 0} (old new : ClauseSet) (lists : List (List ℤ)) (op : Op) (parts : Parts) (result : Result (Vec ℤ Global) E) → listed parts ≡ [] →
    IfOk result (λ out. MakesWord old new 0 out.items (width_of op []) (λ v. answer op []))
    → IfOk result (λ out. MakesOperation old new lists op (listed parts) out.items)
none_made old new lists op parts result is made =
    subst (λ ps. IfOk result (λ out. MakesOperation old new lists op ps out.items)) (sym is)
    (cheaper_result old new 0 (most_added lists op []) (width_of op []) (λ v. answer op []) (λ v. answer op []) result made (omega arith) (λ v. refl))

pub one_made : {E : Type 0} (old new : ClauseSet) (lists : List (List ℤ)) (op : Op) (parts : Parts) (a : TermId) (slice : List ℤ)
    (result : Result (Vec ℤ Global) E) → listed parts ≡ a ∷ [] → slice_get lists a.0 ≡ Some slice →
    IfOk result (λ out. MakesWord old new 0 out.items (width_one op (length slice)) (λ v. value_one op (bits_by v slice)))
    → IfOk result (λ out. MakesOperation old new lists op (listed parts) out.items)
one_made old new lists op parts a slice result is here made =
    let w = word_at lists a in
    subst (λ ps. IfOk result (λ out. MakesOperation old new lists op ps out.items)) (sym is)
    (cheaper_result old new 0 (most_added lists op (a ∷ [])) (width_one op (length w)) (λ v. value_one op (bits_by v w))
    (λ v. value_one op (bits_by v w)) result
    (subst (λ ls. IfOk result (λ out. MakesWord old new 0 out.items (width_one op (length ls)) (λ v. value_one op (bits_by v ls))))
    (word_is lists a slice here) made) (omega arith) (λ v. refl))

pub two_made : {E : Type 0} (old new : ClauseSet) (lists : List (List ℤ)) (op : Op) (parts : Parts) (a b : TermId) (left right : List ℤ)
    (result : Result (Vec ℤ Global) E) → listed parts ≡ a ∷ b ∷ [] →
    slice_get lists a.0 ≡ Some left → slice_get lists b.0 ≡ Some right →
    IfOk result (λ out. MakesWord old new (operation_cost op (length left) - 130) out.items (width_two op (length left) (length right))
    (λ v. value_two op (bits_by v left) (bits_by v right))) →
    IfOk result (λ out. MakesOperation old new lists op (listed parts) out.items)
two_made old new lists op parts a b left right result is here there made =
    let x = word_at lists a in
    let y = word_at lists b in
    let moved = subst (λ ls. IfOk result (λ out. MakesWord old new (operation_cost op (length ls) - 130) out.items
    (width_two op (length ls) (length right)) (λ v. value_two op (bits_by v ls) (bits_by v right)))) (word_is lists a left here) made in
    subst (λ ps. IfOk result (λ out. MakesOperation old new lists op ps out.items)) (sym is)
    (cheaper_result old new (operation_cost op (length x) - 130) (most_added lists op (a ∷ b ∷ [])) (width_two op (length x) (length y))
    (λ v. value_two op (bits_by v x) (bits_by v y)) (λ v. value_two op (bits_by v x) (bits_by v y)) result
    (subst (λ ls. IfOk result (λ out. MakesWord old new (operation_cost op (length x) - 130) out.items (width_two op (length x) (length ls))
    (λ v. value_two op (bits_by v x) (bits_by v ls)))) (word_is lists b right there) moved)
    (cost_within op (length x) (greatest (map (part_width lists) (a ∷ b ∷ []))) (omega arith)) (λ v. refl))

pub three_made : {E : Type 0} (old new : ClauseSet) (lists : List (List ℤ)) (op : Op) (parts : Parts) (c a b : TermId) (condition left right : List ℤ)
    (result : Result (Vec ℤ Global) E) → listed parts ≡ c ∷ a ∷ b ∷ [] →
    slice_get lists c.0 ≡ Some condition → slice_get lists a.0 ≡ Some left → slice_get lists b.0 ≡ Some right →
    IfOk result (λ out. MakesWord old new (operation_cost op (length left) - 130) out.items (length left)
    (λ v. value_three op (bits_by v condition) (bits_by v left) (bits_by v right))) →
    IfOk result (λ out. MakesOperation old new lists op (listed parts) out.items)
three_made old new lists op parts c a b condition left right result is first here there made =
    let z = word_at lists c in
    let x = word_at lists a in
    let y = word_at lists b in
    let moved = subst (λ ls. IfOk result (λ out. MakesWord old new (operation_cost op (length ls) - 130) out.items (length ls)
    (λ v. value_three op (bits_by v condition) (bits_by v ls) (bits_by v right)))) (word_is lists a left here) made in
    let again = subst (λ ls. IfOk result (λ out. MakesWord old new (operation_cost op (length x) - 130) out.items (length x)
    (λ v. value_three op (bits_by v condition) (bits_by v x) (bits_by v ls)))) (word_is lists b right there) moved in
    subst (λ ps. IfOk result (λ out. MakesOperation old new lists op ps out.items)) (sym is)
    (cheaper_result old new (operation_cost op (length x) - 130) (most_added lists op (c ∷ a ∷ b ∷ [])) (length x)
    (λ v. value_three op (bits_by v z) (bits_by v x) (bits_by v y)) (λ v. value_three op (bits_by v z) (bits_by v x) (bits_by v y)) result
    (subst (λ ls. IfOk result (λ out. MakesWord old new (operation_cost op (length x) - 130) out.items (length x)
    (λ v. value_three op (bits_by v ls) (bits_by v x) (bits_by v y)))) (word_is lists c condition first) again)
    (cost_within op (length x) (greatest (map (part_width lists) (c ∷ a ∷ b ∷ []))) (omega arith)) (λ v. refl))

-- ---- widths of terms

pub record HasWidth64 (w : ℕ) : Type 0 where
  pub some : 0 < w
  pub most : w ≤ 64

none_width : (op : Op) → Fits op [] → HasWidth64 (width_of op [])
none_width (ops.Const w) fits = record { some = w.not_empty; most = w.at_most_64 }
none_width _ fits = absurd fits

one_width : (op : Op) (a : ℕ) → Fits op (a ∷ []) → HasWidth64 a → HasWidth64 (width_of op (a ∷ []))
one_width ops.Not a fits ok = ok
one_width (ops.Extract from width) a fits ok = record { some = fits.0; most = omega (arith, fits.1, ok.most) }
one_width (ops.Zext width) a fits ok = record { some = omega (arith, ok.some, fits.0); most = fits.1 }
one_width (ops.Sext width) a fits ok = record { some = omega (arith, ok.some, fits.0); most = fits.1 }
one_width _ a fits ok = absurd fits

two_width : (op : Op) (a b : ℕ) → Fits op (a ∷ b ∷ []) → HasWidth64 a → HasWidth64 b → HasWidth64 (width_of op (a ∷ b ∷ []))
two_width ops.Eq a b fits ok also = record { some = omega arith; most = omega arith }
two_width ops.Ult a b fits ok also = record { some = omega arith; most = omega arith }
two_width ops.Slt a b fits ok also = record { some = omega arith; most = omega arith }
two_width ops.Concat a b fits ok also = record { some = omega (arith, ok.some); most = fits }
two_width _ a b fits ok also = ok

list_width : (op : Op) (ws : List ℕ) → Fits op ws → All HasWidth64 ws → HasWidth64 (width_of op ws)
list_width op [] fits all = none_width op fits
list_width op (a ∷ []) fits all = one_width op a fits (All-head HasWidth64 a [] all)
list_width op (a ∷ b ∷ []) fits all = two_width op a b fits (All-head HasWidth64 a (b ∷ []) all) (All-head HasWidth64 b [] (All-tail HasWidth64 a (b ∷ []) all))
list_width op (c ∷ a ∷ b ∷ []) fits all = All-head HasWidth64 a (b ∷ []) (All-tail HasWidth64 c (a ∷ b ∷ []) all)
list_width op (a ∷ b ∷ c ∷ d ∷ ws) fits all = absurd fits

all_mapped : (P : ℕ → Type 0) (f : TermId → ℕ) (ids : List TermId) → All (λ id. P (f id)) ids → All P (map f ids)
all_mapped P f [] all = All-nil P
all_mapped P f (id ∷ ids) all = All-cons P (f id) (map f ids) (All-head (λ x. P (f x)) id ids all) (all_mapped P f ids (All-tail (λ x. P (f x)) id ids all))

width_to : {terms : List Term} → AreTerms terms → (k : ℕ) (id : TermId) (t : Term) → id.0 < k → slice_get terms id.0 ≡ Some t → HasWidth64 t.1
width_to made zero id t h e = let none : ⊥ = omega (arith, h) in absurd none
width_to made (suc k) id (nodes.Var number width, w) h e = let next = comes_next made id.0 (nodes.Var number width, w) e in
    record { some = next.2; most = next.3 }
width_to {terms} made (suc k) id (nodes.Op op parts, w) h e =
    let m = is_made made id.0 op parts w e in
    let d : Term = (nodes.Op op parts, w) in
    let long = slice_get_within terms id.0 d e in
    let each : All (λ (p : TermId). HasWidth64 (width_at terms p)) (listed parts) =
    All-weaker (λ (p : TermId). p.0 < id.0) (λ (p : TermId). HasWidth64 (width_at terms p))
    (λ p below.
    let there : slice_get terms p.0 ≡ Some (get_or terms p.0 d) = slice_get-get_or terms p.0 d (omega (arith, below, long)) in
    subst HasWidth64 (sym (ap width_in there)) (width_to made k p (get_or terms p.0 d) (omega (arith, below, h)) there))
    (listed parts) m.before in
    subst HasWidth64 (sym m.width) (list_width op (map (width_at terms) (listed parts)) m.fits (all_mapped HasWidth64 (width_at terms) (listed parts) each))

pub width_ok : {terms : List Term} → AreTerms terms → (id : TermId) (t : Term) → slice_get terms id.0 ≡ Some t → HasWidth64 t.1
width_ok made id t e = width_to made (suc id.0) id t (omega arith) e

pub width_at_ok : {terms : List Term} → AreTerms terms → (id : TermId) (d : Term) → id.0 < length terms → HasWidth64 (width_at terms id)
width_at_ok {terms} made id d h =
    let there : slice_get terms id.0 ≡ Some (get_or terms id.0 d) = slice_get-get_or terms id.0 d h in
    subst HasWidth64 (sym (ap width_in there)) (width_ok made id (get_or terms id.0 d) there)

-- ---- the parts of an operation have their literals

abbrev Marked : List Bool → TermId → Type 0
Marked marks id = is_marked marks id ≡ true

-- each part has its word
part_word : {terms : List Term} {marks : List Bool} {n : ℕ} {set : ClauseSet} {lists : List (List ℤ)} {names : List BitName}
    → IsState terms marks n set lists names → (p : TermId) → p.0 < n → Marked marks p →
    IsWordOf terms set names p (word_at lists p)
part_word state p below marked = state.each p below marked

both : (P Q : TermId → Type 0) (ids : List TermId) → All P ids → All Q ids → All (λ id. P id × Q id) ids
both P Q ids p q = λ k d h. (p k d h, q k d h)

module _ {terms : List Term} (made : AreTerms terms) {marks : List Bool} {n : ℕ} {set : ClauseSet} {lists : List (List ℤ)} {names : List BitName}
    (state : IsState terms marks n set lists names)
    (id : TermId) (at : id.0 ≡ n) (op : Op) (parts : Parts) (w : ℕ) (here : slice_get terms id.0 ≡ Some (nodes.Op op parts, w))
    (closed : All (Marked marks) (listed parts)) where
  abbrev IsPart : TermId → Type 0
  IsPart p = (p.0 < id.0) × Marked marks p

  are_parts : All IsPart (listed parts)
  are_parts = both (λ p. p.0 < id.0) (Marked marks) (listed parts) (is_made made id.0 op parts w here).before closed

  long : id.0 < length terms
  long = slice_get_within terms id.0 (nodes.Op op parts, w) here

  word_of : (p : TermId) → IsPart p → IsWordOf terms set names p (word_at lists p)
  word_of p is = state.each p (omega (arith, is.0, at)) is.1

  width_of_part : (p : TermId) → IsPart p → HasWidth64 (part_width lists p)
  width_of_part p is = subst HasWidth64 (sym (word_of p is).width) (width_at_ok made p (nodes.Op op parts, w) (omega (arith, is.0, long)))

  same_widths : map (part_width lists) (listed parts) ≡ map (width_at terms) (listed parts)
  same_widths = same_map IsPart (part_width lists) (width_at terms) (λ p is. (word_of p is).width) (listed parts) are_parts

  pub are_ready : AreReady set lists op (listed parts)
  are_ready = record {
    within = All-weaker IsPart (λ p. p.0 < length lists) (λ p is. omega (arith, is.0, at, state.count)) (listed parts) are_parts;
    over = All-weaker IsPart (λ p. All (IsOver set.variables) (word_at lists p)) (λ p is. (word_of p is).over) (listed parts) are_parts;
    some = All-weaker IsPart (λ p. 0 < part_width lists p) (λ p is. (width_of_part p is).some) (listed parts) are_parts;
    most = All-weaker IsPart (λ p. part_width lists p ≤ 64) (λ p is. (width_of_part p is).most) (listed parts) are_parts;
    fits = subst (Fits op) (sym same_widths) (is_made made id.0 op parts w here).fits;
  }

  -- the literals of the operation spell its value
  pub operation_word : (new : ClauseSet) (word : List ℤ) → MakesOperation set new lists op (listed parts) word → IsWordOf terms new names id word
  operation_word new word makes = record {
    over = makes.over;
    width = makes.width ∙ ap (width_of op) same_widths ∙ sym (is_made made id.0 op parts w here).width ∙ sym (ap width_in here);
    is = λ words v assigns h agree.
        let before = makes.builds.weaker v h in
        let same_bits : map (part_bits v lists) (listed parts) ≡ map (bits_at terms words) (listed parts) =
        same_map IsPart (part_bits v lists) (bits_at terms words)
        (λ p is. (λ j. record { width = (word_of p is).width j; value = (word_of p is).is words v assigns before agree j }))
        (listed parts) are_parts in
        makes.is v h ∙ ap (answer op) same_bits ∙ sym (value_follows made words id ∙ ap (entry_value words (bits_at terms words)) here);
  }

  -- and no more literals were added than the term costs
  pub operation_cost_within : (new : ClauseSet) (word : List ℤ) → MakesOperation set new lists op (listed parts) word
      → literals new ≤ literals set + (entry_cost terms (slice_get terms id.0) - 130)
  operation_cost_within new word makes =
      let cost_is : entry_cost terms (slice_get terms id.0) ≡ operation_cost op (greatest (w ∷ map (width_at terms) (listed parts))) =
      ap (entry_cost terms) here in
      let le : operation_cost op (greatest (map (part_width lists) (listed parts))) ≤ operation_cost op (greatest (w ∷ map (width_at terms) (listed parts))) =
      cost_grows op (greatest (map (part_width lists) (listed parts))) (greatest (w ∷ map (width_at terms) (listed parts)))
      (omega (arith, ap greatest same_widths)) in
      omega (arith, makes.builds.literals, cost_is, le)

-- ---- one more term

-- the words of the terms before stay where clauses are added
pub agree_before : (v : List Bool) (terms : List Term) (words : List Word) (names more : List BitName) → Agree v terms words (names ++ more)
    → Agree v terms words names
agree_before v terms words names more agree =
    λ k d h.
    subst (Agrees v terms words) (get_or_append_left names more d k h) (agree k d (omega (arith, h, length-append names more)))

later_word : (terms : List Term) (set new : ClauseSet) (names more : List BitName) (cost : ℕ) (id : TermId) (word : List ℤ)
    → set.variables ≤ new.variables → ((v : List Bool) → Holds v new → Holds v set) →
    IsWordOf terms set names id word → IsWordOf terms new (names ++ more) id word
later_word terms set new names more cost id word le weaker is = record {
  over = λ k d h. let at = is.over k d h in omega (arith, at, le);
  width = is.width;
  is = λ words v assigns h agree. is.is words v assigns (weaker v h) (λ k d h2. agree_before v terms words names more agree k d h2);
}

-- what holds of each of the terms so far, and of this one
pub more_state : (terms : List Term) (marks : List Bool) (n : ℕ) (set new : ClauseSet) (lists : List (List ℤ)) (names more : List BitName)
    (word : List ℤ) (id : TermId) → id.0 ≡ n → IsState terms marks n set lists names →
    set.variables ≤ new.variables → ((v : List Bool) → Holds v new → Holds v set) → AreNames terms new.variables (names ++ more)
    → All (λ name. name.0.0 < n + 1) (names ++ more) →
    ((words : List Word) → Assigns words terms → (v : List Bool) × IsModel v new × Agree v terms words (names ++ more))
    → (is_marked marks id ≡ true → IsWordOf terms new (names ++ more) id word) →
    (is_marked marks id ≡ true → IsVariable terms id → (k : ℕ) → k < width_at terms id → (l : ℤ) × Contains (names ++ more) (id, k, l)) →
    literals new ≤ literals set + cond (is_marked marks id) (entry_cost terms (slice_get terms n) - 130) 0
    → IsState terms marks (n + 1) new (lists ++ word ∷ []) (names ++ more)
more_state terms marks n set new lists names more word id at state le weaker names_ok low models here whole cost = record {
  count = length-append lists (word ∷ []) ∙ omega (arith, state.count);
  each = λ x below marked.
      elim (cases_lt x.0 n) [
        | inl earlier ↦
            subst (IsWordOf terms new (names ++ more) x) (sym (get_or_append_left lists (word ∷ []) [] x.0 (omega (arith, earlier, state.count))))
            (later_word terms set new names more 0 x (word_at lists x) le weaker (state.each x earlier marked))
        | inr later ↦
            let x_is : x ≡ id = (let e : x.0 ≡ id.0 = omega (arith, below, later, at) in (λ j. record { 0 = e j })) in
            let last : word_at (lists ++ word ∷ []) id ≡ word = ap (λ k. get_or (lists ++ word ∷ []) k []) (at ∙ sym state.count)
            ∙ get_or-append_seam lists word [] [] in
            subst (λ y. IsWordOf terms new (names ++ more) y (word_at (lists ++ word ∷ []) y)) (sym x_is)
            (subst (IsWordOf terms new (names ++ more) id) (sym last) (here (ap (is_marked marks) (sym x_is) ∙ marked)))
      ];
  names_ok = names_ok;
  low = low;
  complete = λ x below marked variable k h.
      elim (cases_lt x.0 n) [
        | inl earlier ↦ let there = state.complete x earlier marked variable k h in (there.0, Contains-append_left names more (x, k, there.0) there.1)
        | inr later ↦
            let x_is : x ≡ id = (let e : x.0 ≡ id.0 = omega (arith, below, later, at) in (λ j. record { 0 = e j })) in
            subst (λ (y : TermId). (l : ℤ) × Contains (names ++ more) (y, k, l)) (sym x_is)
            (whole (ap (is_marked marks) (sym x_is) ∙ marked) (subst (IsVariable terms) x_is variable) k (subst (λ (y : TermId). k < width_at terms y) x_is h))
      ];
  models = models;
  added =
      let e : added_to terms marks (n + 1) ≡ added_to terms marks n + cond (is_marked marks id) (entry_cost terms (slice_get terms n) - 130) 0 =
      ap (added_to terms marks) (add-one n)
      ∙ ap (λ k. added_to terms marks n + cond (get_or marks k false) (entry_cost terms (slice_get terms n) - 130) 0) (sym at) in
      omega (arith, e, cost, state.added);
}
