-- The laws, from what was shown of nodes and loops.
use Rattle.std.proofs.Common.{◌≡◌, true, ap, ℕ, zero, suc, ◌≤◌, ◌<◌, if◌then◌else◌, length, is_some, Option, Some, None, refl, sym, subst, arith, ◌∙◌, inl, inr}
use Rattle.std.proofs.lemmas.Bool.{and_parts}
use Rattle.std.proofs.lemmas.Bool.Decides.{nat_tests}
use Rattle.vg_core.specs.Units.{Typed}
use Rattle.vg_core.specs.declared.tree.Kind.{Kind}
use Rattle.vg_core.specs.declared.tree.Kind.TheVariants as nodes
use Rattle.vg_cint.specs.declared.value.Value.{Value}
use Rattle.vg_cmemory.specs.State.{State, declare}
use Rattle.vg_cmean.specs.Outcomes.{Next, after, on_own}
use Rattle.vg_cmean.specs.Typings.{kind_at}
use Rattle.vg_cmean.specs.Meaning.{Meaning, turn, turns, is_below, next_of, most_turns, meaning_below, first_of, constant, step_of}
use Rattle.vg_ctyper.specs.Notes.{or_zero}
use Rattle.vg_ctyper.specs.StatementRules as rules
use Rattle.vg_ctyper.specs.WellTyped.{IsWellTyped}
use Rattle.vg_cbounds.specs.Bounds.{known, is_number, is_counted, AreLoopsCounted, NodesAreBounded, RunsAreBounded, LoopsAreBounded, counted_turns}
use Rattle.vg_cbounds.proofs.Statements.{EndsWithin, stopped, turns_zero, turns_suc}
use Rattle.vg_cbounds.proofs.Whole.{LoopEnds, LoopsEnd, every_node, run_bounded}
use Rattle.vg_cbounds.proofs.Loops.{loop_is_counted, few_turns}

some_is : {A : Type 0} (o : Option A) → is_some o ≡ true → (x : A) × (o ≡ Some x)
some_is None h = cc
some_is (Some x) h = (x, refl)

number_is : (o : Option ℕ) (n : ℕ) → is_number o n ≡ true → o ≡ Some n
number_is None n h = cc
number_is (Some a) n h = let same : a ≡ n = grind (arith, nat_tests) in ap Some same

loop_end : (u : Typed) (n : ℕ) (kind : Kind) → IsWellTyped u → n < length u.tree.nodes → kind_at u n ≡ kind → is_counted u n kind ≡ true → LoopEnds u n kind
loop_end u n (nodes.For of counter start tested bound stepped step body) w h e c =
    let both = and_parts (is_some (rules.turns (known u n) of start bound step)) (is_number (rules.step_number (known u n) step) (step_of u step)) c in
    let t = some_is (rules.turns (known u n) of start bound step) both.0 in
    let stepped_by = number_is (rules.step_number (known u n) step) (step_of u step) both.1 in
    subst (λ (o : Option ℕ). EndsWithin (or_zero o) (first_of u of start) (constant u bound) (step_of u step)) (sym t.1)
    (loop_is_counted u n of counter start tested bound stepped step body t.0 w h e t.1 stepped_by)
loop_end u n _ w h e c = tt

loops_end : (u : Typed) → IsWellTyped u → AreLoopsCounted u → LoopsEnd u
loops_end u w c n h = loop_end u n (kind_at u n) w h refl (c n h)

pub nodes_bounded : NodesAreBounded
nodes_bounded u n w c h small = let b = every_node u n w (loops_end u w c) h small in record { gives = b.gives; does = b.does }

pub runs_bounded : RunsAreBounded
runs_bounded u port now frame w c = run_bounded u port now frame w (loops_end u w c)

-- ---- turns

turns_same : (u : Typed) (left most n : ℕ) (m : Meaning) (c b : Value) (step : ℕ) (s : State) → EndsWithin most c b step → most ≤ left →
    turns u left n m c b step s ≡ turns u most n m c b step s
turns_same u left zero n m c b step s e h = stopped u left n m c b step s e ∙ sym (turns_zero u n m c b step s)
turns_same u zero (suc most) n m c b step s e h = absurd (omega arith)
turns_same u (suc left) (suc most) n m c b step s (inl e) h = stopped u (suc left) n m c b step s e ∙ sym (stopped u (suc most) n m c b step s e)
turns_same u (suc left) (suc most) n m c b step s (inr e) h =
    let same : (t : State) → turns u left n m (next_of c step) b step t ≡ turns u most n m (next_of c step) b step t =
    λ t. turns_same u left most n m (next_of c step) b step t e (omega arith) in
    turns_suc u left n m c b step s
    ∙ (λ j. if is_below c b then after (turn u n m c s) (λ t. same t j) else Next s)
    ∙ sym (turns_suc u most n m c b step s)

pub loops_bounded : LoopsAreBounded
loops_bounded u n of counter start tested bound stepped step body w c h e =
    let ends : EndsWithin (counted_turns u n of start bound step) (first_of u of start) (constant u bound) (step_of u step) =
    loop_end u n (nodes.For of counter start tested bound stepped step body) w h e (subst (λ (k : Kind). is_counted u n k ≡ true) e (c n h)) in
    let few = few_turns u n of counter start tested bound stepped step body w h e in
    record {
      same = λ s. turns_same u most_turns (counted_turns u n of start bound step) n (meaning_below u n body) (first_of u of start) (constant u bound)
          (step_of u step)
          (on_own (declare n) s) ends (omega arith);
      few = few;
    }
