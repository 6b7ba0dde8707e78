-- Gates: the clauses that define a new variable by others.
use Rattle.std.proofs.Common.{◌≡◌, ℕ, ◌+◌, ◌<◌, ◌≤◌, List, [], ◌∷◌, ◌++◌, length, Bool, true, false, refl, sym, ap, subst, ◌∙◌, arith, length-append}
use Rattle.std.specs.Prelude.{ℤ, pos, neg_ℤ, unsigned_abs, not, ◌&&◌, ◌||◌, sum_by}
use Rattle.std.proofs.lemmas.Bool.{true≢false, false≢true}
use Rattle.std.proofs.Common.{All, Some, is_some, unwrap_or, cond, inl, inr}
use Rattle.std.specs.Prelude.{slice_index_or}
use Rattle.std.specs.Map.{lookup}
use Rattle.std.proofs.Common.{Result, Ok, Err, OnOk}
use Rattle.std.specs.Prelude.{OnErr}
use Rattle.std.proofs.lemmas.List.{append-nil}
use Rattle.std.proofs.lemmas.Bool.{cases_Bool}
use Rattle.std.proofs.lemmas.List.Elements.{All-head, All-tail, All-cons, All-nil}
use Rattle.indexmap.specs.IndexMap.{insert_entry}
use Rattle.vg_blast.specs.Gates.{IsOutput, IsEntry, gate_value}
use Rattle.vg_blast.specs.declared.gate.Gate.{Gate}
use Rattle.vg_blast.proofs.Same.{same_gate, gate-same}
use Rattle.vg_cnf.specs.Clauses.{ClauseSet, IsOver, IsModel, makes_true, makes_all_true}
use Rattle.vg_blast.specs.Circuits.{truth, Holds, IsNet, Grows, Adds, MakesBit, literals, differ}
use Rattle.vg_blast.proofs.Truths.{truth_neg, truth_more, truth_new, holds_more}

-- a clause that needn't be added
pub added_tautology : (set : ClauseSet) (c : List ℤ) → ((v : List Bool) → makes_true v c ≡ true) → Adds set set c
added_tautology set c true_anyhow = record {
  variables = refl;
  holds = λ v h. (h, true_anyhow v);
  held = λ v h t. h;
  literals = omega arith;
}

-- a new variable with the values of a function of the old ones
pub gate_made : (old new : ClauseSet) (cost : ℕ) (out : ℤ) (f : List Bool → Bool) → IsNet old → out ≡ pos (old.variables + 1)
    → new.variables ≡ old.variables + 1 →
    ((v : List Bool) → Holds v new → Holds v old × (truth v out ≡ f v)) →
    ((v : List Bool) → Holds v old → truth v out ≡ f v → Holds v new) →
    ((v more : List Bool) → length v ≡ old.variables → f (v ++ more) ≡ f v) →
    literals new ≤ literals old + cost → MakesBit old new cost out f
gate_made old new cost out f net is one_more holds held steady count = record {
  builds = record {
    variables = omega arith;
    weaker = λ v h. (holds v h).0;
    extends = λ v model.
        let long = model.each_variable in
        let w = v ++ f v ∷ [] in
        let before : Holds w old = holds_more v (f v ∷ []) old long net.over model.each_clause in
        let last : truth w out ≡ f w = ap (truth w) is ∙ truth_new v (f v) old.variables long ∙ sym (steady v (f v ∷ []) long) in
        (f v ∷ [], record { each_variable = length-append v (f v ∷ []) ∙ omega (arith, long, one_more); each_clause = held w before last });
    literals = count;
  };
  over = subst (IsOver new.variables) (sym is) (omega arith, omega (arith, one_more));
  is = λ v h. (holds v h).1;
}

-- ---- and

and_table : (o a b : Bool) → (not o || (a || false)) ≡ true → (not o || (b || false)) ≡ true → (o || (not a || (not b || false))) ≡ true → o ≡ a && b
and_table true true true p q r = refl
and_table true true false p q r = absurd (false≢true q)
and_table true false b p q r = absurd (false≢true p)
and_table false true true p q r = absurd (false≢true r)
and_table false true false p q r = refl
and_table false false b p q r = refl

and_rows : (o a b : Bool) → o ≡ a && b → ((not o || (a || false)) ≡ true) × ((not o || (b || false)) ≡ true) × ((o || (not a || (not b || false))) ≡ true)
and_rows true true true e = (refl, refl, refl)
and_rows true true false e = absurd (true≢false e)
and_rows true false b e = absurd (true≢false e)
and_rows false true true e = absurd (false≢true e)
and_rows false true false e = (refl, refl, refl)
and_rows false false b e = (refl, refl, refl)

pub and_made : (old fresh t u new : ClauseSet) (o a b : ℤ) → IsNet old → fresh ≡ record old { variables = old.variables + 1 }
    → o ≡ pos fresh.variables → IsOver old.variables a → IsOver old.variables b →
    Adds fresh t (neg_ℤ o ∷ a ∷ []) → Adds t u (neg_ℤ o ∷ b ∷ []) → Adds u new (o ∷ neg_ℤ a ∷ neg_ℤ b ∷ []) → MakesBit old new 7 o (λ v. truth v a && truth v b)
and_made old fresh t u new o a b net one_more is over_a over_b first second third =
    let fresh_variables : fresh.variables ≡ old.variables + 1 = ap (λ (c : ClauseSet). c.variables) one_more in
    let same : fresh.clauses ≡ old.clauses = ap (λ (c : ClauseSet). c.clauses) one_more in
    let o_is : o ≡ pos (old.variables + 1) = is ∙ ap pos fresh_variables in
    let some : 0 < unsigned_abs o = subst (λ (l : ℤ). 0 < unsigned_abs l) (sym o_is) (omega arith) in
    let counted : literals fresh ≡ literals old = ap (sum_by length) same in
    gate_made old new 7 o (λ v. truth v a && truth v b) net o_is (omega (arith, fresh_variables, first.variables, second.variables, third.variables))
    (λ v h.
    let h3 = third.holds v h in
    let h2 = second.holds v h3.0 in
    let h1 = first.holds v h2.0 in (
      subst (λ cs. makes_all_true v cs ≡ true) same h1.0,
      and_table (truth v o) (truth v a) (truth v b) (rw (truth_neg v o some) at h1.1) (rw (truth_neg v o some) at h2.1)
          (rw (truth_neg v a over_a.0, truth_neg v b over_b.0) at h3.1),
    ))
    (λ v h e.
    let rows = and_rows (truth v o) (truth v a) (truth v b) e in
    third.held v (second.held v (first.held v (subst (λ cs. makes_all_true v cs ≡ true) (sym same) h) (rw (truth_neg v o some) rows.0))
    (rw (truth_neg v o some) rows.1)) (rw (truth_neg v a over_a.0, truth_neg v b over_b.0) rows.2))
    (λ v more long. (λ j. truth_more v more a (subst (λ n. IsOver n a) (sym long) over_a) j && truth_more v more b
    (subst (λ n. IsOver n b) (sym long) over_b) j))
    (omega (arith, counted, first.literals, second.literals, third.literals))

-- ---- one of two

xor_table : (o a b : Bool) → (not o || (a || (b || false))) ≡ true → (not o || (not a || (not b || false))) ≡ true
    → (o || (not a || (b || false))) ≡ true → (o || (a || (not b || false))) ≡ true → o ≡ differ a b
xor_table true true true p q r s = absurd (false≢true q)
xor_table true true false p q r s = refl
xor_table true false true p q r s = refl
xor_table true false false p q r s = absurd (false≢true p)
xor_table false true true p q r s = refl
xor_table false true false p q r s = absurd (false≢true r)
xor_table false false true p q r s = absurd (false≢true s)
xor_table false false false p q r s = refl

xor_rows : (o a b : Bool) → o ≡ differ a b →
    ((not o || (a || (b || false))) ≡ true) × ((not o || (not a || (not b || false))) ≡ true) × ((o || (not a || (b || false))) ≡ true)
    × ((o || (a || (not b || false))) ≡ true)
xor_rows true true true e = absurd (true≢false e)
xor_rows true true false e = (refl, refl, refl, refl)
xor_rows true false true e = (refl, refl, refl, refl)
xor_rows true false false e = absurd (true≢false e)
xor_rows false true true e = (refl, refl, refl, refl)
xor_rows false true false e = absurd (false≢true e)
xor_rows false false true e = absurd (false≢true e)
xor_rows false false false e = (refl, refl, refl, refl)

pub xor_made : (old fresh s t u new : ClauseSet) (o a b : ℤ) → IsNet old → fresh ≡ record old { variables = old.variables + 1 }
    → o ≡ pos fresh.variables → IsOver old.variables a → IsOver old.variables b →
    Adds fresh s (neg_ℤ o ∷ a ∷ b ∷ []) → Adds s t (neg_ℤ o ∷ neg_ℤ a ∷ neg_ℤ b ∷ []) → Adds t u (o ∷ neg_ℤ a ∷ b ∷ []) → Adds u new (o ∷ a ∷ neg_ℤ b ∷ []) →
    MakesBit old new 12 o (λ v. differ (truth v a) (truth v b))
xor_made old fresh s t u new o a b net one_more is over_a over_b first second third fourth =
    let fresh_variables : fresh.variables ≡ old.variables + 1 = ap (λ (c : ClauseSet). c.variables) one_more in
    let same : fresh.clauses ≡ old.clauses = ap (λ (c : ClauseSet). c.clauses) one_more in
    let o_is : o ≡ pos (old.variables + 1) = is ∙ ap pos fresh_variables in
    let some : 0 < unsigned_abs o = subst (λ (l : ℤ). 0 < unsigned_abs l) (sym o_is) (omega arith) in
    let counted : literals fresh ≡ literals old = ap (sum_by length) same in
    gate_made old new 12 o (λ v. differ (truth v a) (truth v b)) net o_is (omega (
      arith,
      fresh_variables,
      first.variables,
      second.variables,
      third.variables,
      fourth.variables,
    ))
    (λ v h.
    let h4 = fourth.holds v h in
    let h3 = third.holds v h4.0 in
    let h2 = second.holds v h3.0 in
    let h1 = first.holds v h2.0 in (
      subst (λ cs. makes_all_true v cs ≡ true) same h1.0,
      xor_table (truth v o) (truth v a) (truth v b) (rw (truth_neg v o some) at h1.1) (rw (
        truth_neg v o some,
        truth_neg v a over_a.0,
        truth_neg v b over_b.0,
      ) at h2.1)
          (rw (truth_neg v a over_a.0) at h3.1) (rw (truth_neg v b over_b.0) at h4.1),
    ))
    (λ v h e.
    let rows = xor_rows (truth v o) (truth v a) (truth v b) e in
    fourth.held v (third.held v (second.held v (first.held v (subst (λ cs. makes_all_true v cs ≡ true) (sym same) h)
    (rw (truth_neg v o some) rows.0)) (rw (truth_neg v o some, truth_neg v a over_a.0, truth_neg v b over_b.0) rows.1))
    (rw (truth_neg v a over_a.0) rows.2)) (rw (truth_neg v b over_b.0) rows.3))
    (λ v more long. (λ j. differ (truth_more v more a (subst (λ n. IsOver n a) (sym long) over_a) j)
    (truth_more v more b (subst (λ n. IsOver n b) (sym long) over_b) j)))
    (omega (arith, counted, first.literals, second.literals, third.literals, fourth.literals))

-- ---- the table of the gates that stand

-- an output stays one where clauses are added
pub still_output : (old new : ClauseSet) (gate : Gate) (out : ℤ) → Grows old new → IsOutput old gate out → IsOutput new gate out
still_output old new gate out grows is = record { over = omega (arith, is.over, grows.variables); is = λ v h. is.is v (grows.weaker v h) }

pub still_entries : (old new : ClauseSet) (entries : List (Gate × ℤ)) → Grows old new → All (IsEntry old) entries → All (IsEntry new) entries
still_entries old new entries grows all = λ k d h. still_output old new (slice_index_or entries k d).0 (slice_index_or entries k d).1 grows (all k d h)

-- what is looked up is an output of the gate
pub looked_up : (set : ClauseSet) (gate : Gate) (out : ℤ) (entries : List (Gate × ℤ)) → All (IsEntry set) entries
    → lookup (same_gate gate) entries ≡ Some out → IsOutput set gate out
looked_up set gate out [] all e = absurd (true≢false (sym (ap is_some e)))
looked_up set gate out (x ∷ entries) all e =
    elim (cases_Bool (same_gate gate x.0)) [
      | inl same ↦
          let first : Some x.1 ≡ Some out = sym (ap (λ b. cond b (Some x.1) (lookup (same_gate gate) entries)) same) ∙ e in
          let is : x.1 ≡ out = ap (λ r. unwrap_or r out) first in
          subst (IsOutput set gate) is (subst (λ (g : Gate). IsOutput set g x.1) (sym (gate-same gate x.0 same)) (All-head (IsEntry set) x entries all))
      | inr other ↦ looked_up set gate out entries (All-tail (IsEntry set) x entries all) (sym
          (ap (λ b. cond b (Some x.1) (lookup (same_gate gate) entries)) other) ∙ e)
    ]

-- one more entry
pub entered : (set : ClauseSet) (gate : Gate) (out : ℤ) (entries : List (Gate × ℤ)) → All (IsEntry set) entries → IsOutput set gate out
    → All (IsEntry set) (insert_entry same_gate entries gate out)
entered set gate out [] all is = All-cons (IsEntry set) (gate, out) [] is (All-nil (IsEntry set))
entered set gate out (x ∷ entries) all is =
    let here = All-head (IsEntry set) x entries all in
    let rest = All-tail (IsEntry set) x entries all in
    elim (cases_Bool (same_gate gate x.0)) [
      | inl same ↦
          subst (All (IsEntry set)) (sym (ap (λ b. cond b ((x.0, out) ∷ entries) (x ∷ insert_entry same_gate entries gate out)) same))
          (All-cons (IsEntry set) (x.0, out) entries (subst (λ (g : Gate). IsOutput set g out) (gate-same gate x.0 same) is) rest)
      | inr other ↦
          subst (All (IsEntry set)) (sym (ap (λ b. cond b ((x.0, out) ∷ entries) (x ∷ insert_entry same_gate entries gate out)) other))
          (All-cons (IsEntry set) x (insert_entry same_gate entries gate out) here (entered set gate out entries rest is))
    ]

-- a gate that stands needs nothing new
pub standing : (set : ClauseSet) (gate : Gate) (out : ℤ) → IsOutput set gate out → MakesBit set set 12 out (λ v. gate_value v gate)
standing set gate out is = record {
  builds = record {
    variables = omega arith;
    weaker = λ v h. h;
    extends = λ v model. ([], subst (λ w. IsModel w set) (sym (append-nil v)) model);
    literals = omega arith;
  };
  over = is.over;
  is = is.is;
}

-- what an insert leaves, whether it had memory or not
pub inserted : (set : ClauseSet) (gate : Gate) (out : ℤ) (old new : List (Gate × ℤ)) {A E : Type 0} (result : Result A E) → All (IsEntry set) old
    → IsOutput set gate out →
    OnOk result (new ≡ insert_entry same_gate old gate out) → OnErr result (new ≡ old) → All (IsEntry set) new
inserted set gate out old new (Ok x) all is ok err = subst (All (IsEntry set)) (sym ok) (entered set gate out old all is)
inserted set gate out old new (Err e) all is ok err = subst (All (IsEntry set)) (sym err) all
