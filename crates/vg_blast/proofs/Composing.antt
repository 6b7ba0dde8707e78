-- One circuit after another.
use Rattle.std.proofs.Common.{◌≡◌, ℕ, zero, suc, ◌+◌, ◌≤◌, List, [], ◌++◌, Bool, true, false, refl, sym, ap, subst, ◌∙◌, arith, All, append_assoc}
use Rattle.std.specs.Prelude.{ℤ, pos, negsuc, neg_ℤ, not, ◌&&◌, ◌||◌}
use Rattle.std.proofs.Common.{Result, Ok, Err}
use Rattle.std.specs.Prelude.{IfOk}
use Rattle.std.proofs.lemmas.List.{append-nil}
use Rattle.vg_cnf.specs.Clauses.{ClauseSet, IsOver, IsModel}
use Rattle.vg_blast.specs.Circuits.{truth, IsNet, Builds, MakesBit, choose}
use Rattle.vg_blast.specs.Gates.{Folds, gate_value, IsGateFor}
use Rattle.vg_blast.specs.declared.gate.Gate.{Gate}
use Rattle.vg_blast.proofs.Truths.{truth_neg}

pub nothing_built : (set : ClauseSet) (cost : ℕ) → Builds set set cost
nothing_built set cost = record {
  variables = omega arith;
  weaker = λ v h. h;
  extends = λ v model. ([], subst (λ w. IsModel w set) (sym (append-nil v)) model);
  literals = omega arith;
}

pub chained : (a b c : ClauseSet) (m n cost : ℕ) → Builds a b m → Builds b c n → m + n ≤ cost → Builds a c cost
chained a b c m n cost first second le = record {
  variables = omega (arith, first.variables, second.variables);
  weaker = λ v h. first.weaker v (second.weaker v h);
  extends = λ v model.
      let once = first.extends v model in
      let twice = second.extends (v ++ once.0) once.1 in
      (once.0 ++ twice.0, subst (λ w. IsModel w c) (append_assoc v once.0 twice.0) twice.1);
  literals = omega (arith, first.literals, second.literals, le);
}

pub over_later : (a b : ClauseSet) (m : ℕ) (l : ℤ) → Builds a b m → IsOver a.variables l → IsOver b.variables l
over_later a b m l builds over = omega (arith, over, builds.variables)

pub all_over_later : (a b : ClauseSet) (m : ℕ) (ls : List ℤ) → Builds a b m → All (IsOver a.variables) ls → All (IsOver b.variables) ls
all_over_later a b m ls builds over = λ k d h. let at = over k d h in omega (arith, at, builds.variables)

pub over_negated : (n : ℕ) (l : ℤ) → IsOver n l → IsOver n (neg_ℤ l)
over_negated n (pos zero) over = let none : ⊥ = omega (arith, over.0) in absurd none
over_negated n (pos (suc k)) over = (omega arith, over.1)
over_negated n (negsuc k) over = (omega arith, over.1)

-- ---- gates

pub folded_made : (set : ClauseSet) (cost : ℕ) (a b out : ℤ) (f : Bool → Bool → Bool) → IsNet set → IsOver set.variables a → IsOver set.variables b
    → Folds a b out f → MakesBit set set cost out (λ v. f (truth v a) (truth v b))
folded_made set cost a b out f net over_a over_b folds = record {
  builds = nothing_built set cost;
  over = folds.over set.variables net.some over_a over_b;
  is = λ v h. folds.is v (net.constant v h);
}

pub and_answered : (old new : ClauseSet) (gate : Gate) (a b out : ℤ) → IsGateFor gate a b (λ x y. x && y)
    → MakesBit old new 12 out (λ v. gate_value v gate) → MakesBit old new 12 out (λ v. truth v a && truth v b)
and_answered old new gate a b out for made = record { builds = made.builds; over = made.over; is = λ v h. made.is v h ∙ for.is v }

pub chosen : (c a b : Bool) → (c && a) || (not c && b) ≡ choose c a b
chosen true true b = refl
chosen true false b = refl
chosen false a b = refl

pub choice_made : {E : Type 0} (old s t new : ClauseSet) (c a b n taken left : ℤ) (result : Result ℤ E) → IsOver old.variables c → n ≡ neg_ℤ c
    → MakesBit old s 12 taken (λ v. truth v c && truth v a) →
    MakesBit s t 12 left (λ v. truth v n && truth v b) → IfOk result (λ out. MakesBit t new 12 out (λ v. truth v taken || truth v left)) →
    IfOk result (λ out. MakesBit old new 36 out (λ v. choose (truth v c) (truth v a) (truth v b)))
choice_made old s t new c a b n taken left (Err e) over is first second third = third
choice_made old s t new c a b n taken left (Ok out) over is first second third = record {
  builds = chained old t new 24 12 36 (chained old s t 12 12 24 first.builds second.builds (omega arith)) third.builds (omega arith);
  over = third.over;
  is = λ v h.
      let h2 = third.builds.weaker v h in
      let h1 = second.builds.weaker v h2 in
      let negated : truth v n ≡ not (truth v c) = ap (truth v) is ∙ truth_neg v c over.0 in
      third.is v h
      ∙ (λ j. first.is v h1 j || second.is v h2 j)
      ∙ ap (λ x. (truth v c && truth v a) || (x && truth v b)) negated
      ∙ chosen (truth v c) (truth v a) (truth v b);
}
