-- The arguments of a call that wait in a list, one further.
use Rattle.std.proofs.Common.{◌≡◌, ◌≢◌, ℕ, zero, suc, ◌+◌, ◌<◌, ◌≤◌, add-one, List, [], ◌∷◌, length, min, drop, get_or, set, refl, sym, ap, subst, arith, ◌∙◌}
use Rattle.std.proofs.Math.Seq.{drop-cons}
use Rattle.std.proofs.lemmas.List.{length-drop, get_or-set_same, get_or-set_other}
use Rattle.vg_core.specs.Units.{Typed}
use Rattle.vg_core.specs.declared.reason.Reason.{Reason}
use Rattle.vg_cmemory.specs.State.{Own, State}
use Rattle.vg_cmemory.specs.State as memory
use Rattle.vg_cmean.specs.declared.datum.Datum.{Datum}
use Rattle.vg_cmean.specs.declared.datum.Datum.TheVariants as data_of
use Rattle.vg_cmean.specs.Outcomes.{Outcome, Next, Gives, Wrong, Untold, and_then, after, full, tick}
use Rattle.vg_cmean.specs.Arguments.{set_below, given_from}
use Rattle.vg_cmean.specs.Values.{read}
use Rattle.vg_cmean.specs.Meaning.{Meaning, Parts_mean, value, given, parameter}

after_next : (o : Outcome) → (f g : State → Outcome) → ((s : State) → f s ≡ g s) → after o f ≡ after o g
after_next (Next s) f g h = h s
after_next (Gives d s) f g h = refl
after_next (Wrong at reason s) f g h = refl
after_next (Untold s) f g h = refl

set_below_other : (u : Typed) (ps : List ℕ) (ds : List Datum) (i k : ℕ) (d : Datum) (s : State) → k ≤ i
    → set_below u ps (set ds i d) k s ≡ set_below u ps ds k s
set_below_other u ps ds i zero d s h = refl
set_below_other u ps ds i (suc k) d s h =
    let other : k ≢ i = omega arith in
    ap (λ e. after (parameter u (get_or ps k 0) e s) (set_below u ps (set ds i d) k)) (get_or-set_other ds i k d data_of.Nothing other)
    ∙ after_next (parameter u (get_or ps k 0) (get_or ds k data_of.Nothing) s) _ _ (λ t. set_below_other u ps ds i k d t (omega arith))

after_and_then : (o : Outcome) → (f : Datum → State → Outcome) → (g : State → Outcome) → after (and_then o f) g ≡ and_then o (λ d s. after (f d s) g)
after_and_then (Next s) f g = refl
after_and_then (Gives d s) f g = refl
after_and_then (Wrong at reason s) f g = refl
after_and_then (Untold s) f g = refl

after_twice : (o : Outcome) → (f g : State → Outcome) → after (after o f) g ≡ after o (λ s. after (f s) g)
after_twice (Next s) f g = refl
after_twice (Gives d s) f g = refl
after_twice (Wrong at reason s) f g = refl
after_twice (Untold s) f g = refl

and_then_next : (o : Outcome) → (f g : Datum → State → Outcome) → ((d : Datum) (s : State) → f d s ≡ g d s) → and_then o f ≡ and_then o g
and_then_next (Next s) f g h = h data_of.Nothing s
and_then_next (Gives d s) f g h = h d s
and_then_next (Wrong at reason s) f g h = refl
and_then_next (Untold s) f g h = refl

-- one argument more
from_step : (u : Typed) (part : Parts_mean) (xs ps : List ℕ) (ds : List Datum) (k : ℕ) (s : State) → k < length xs → k < length ps →
    given_from u part xs ps ds k s ≡ and_then (value (part (get_or xs k 0)) s) (λ d t. after (given u part (drop (suc k) xs) (drop (suc k) ps) t)
    (λ v. after (parameter u (get_or ps k 0) d v) (set_below u ps ds k)))
from_step u part xs ps ds k s h i =
    ap (λ (zs : List ℕ). after (given u part zs (drop k ps) s) (set_below u ps ds k)) (drop-cons xs k 0 h)
    ∙ ap (λ (zs : List ℕ). after (given u part (get_or xs k 0 ∷ drop (suc k) xs) zs s) (set_below u ps ds k)) (drop-cons ps k 0 i)
    ∙ after_and_then (value (part (get_or xs k 0)) s) (λ d t. after (given u part (drop (suc k) xs) (drop (suc k) ps) t)
    (parameter u (get_or ps k 0) d)) (set_below u ps ds k)
    ∙ and_then_next (value (part (get_or xs k 0)) s) _ _ (λ d t. after_twice (given u part (drop (suc k) xs) (drop (suc k) ps) t)
    (parameter u (get_or ps k 0) d) (set_below u ps ds k))

-- an argument gave something, which waits
pub waits : (u : Typed) (part : Parts_mean) (xs ps : List ℕ) (ds : List Datum) (k : ℕ) (d : Datum) (s t : State) (o : Outcome) →
    k < length xs → k < length ps → k < length ds → Gives d t ≡ value (part (get_or xs k 0)) s → given_from u part xs ps ds k s ≡ o →
    given_from u part xs ps (set ds k d) (k + 1) t ≡ o
waits u part xs ps ds k d s t o h i j g is =
    subst (λ m. given_from u part xs ps (set ds k d) m t ≡ o) (sym (add-one k))
    (after_next (given u part (drop (suc k) xs) (drop (suc k) ps) t) _ _ (λ v.
    ap (λ e. after (parameter u (get_or ps k 0) e v) (set_below u ps (set ds k d) k)) (get_or-set_same ds k d data_of.Nothing j)
    ∙ after_next (parameter u (get_or ps k 0) d v) _ _ (λ w. set_below_other u ps ds k k d w (omega arith)))
    ∙ ap (λ x. and_then x (λ e v. after (given u part (drop (suc k) xs) (drop (suc k) ps) v)
    (λ w. after (parameter u (get_or ps k 0) e w) (set_below u ps ds k)))) g
    ∙ sym (from_step u part xs ps ds k s h i)
    ∙ is)

-- it went wrong
pub waits_wrong : (u : Typed) (part : Parts_mean) (xs ps : List ℕ) (ds : List Datum) (k at : ℕ) (reason : Reason) (s t : State) (o : Outcome) →
    k < length xs → k < length ps → Wrong at reason t ≡ value (part (get_or xs k 0)) s → given_from u part xs ps ds k s ≡ o → Wrong at reason t ≡ o
waits_wrong u part xs ps ds k at reason s t o h i g is =
    ap (λ x. and_then x (λ e v. after (given u part (drop (suc k) xs) (drop (suc k) ps) v)
    (λ w. after (parameter u (get_or ps k 0) e w) (set_below u ps ds k)))) g
    ∙ sym (from_step u part xs ps ds k s h i)
    ∙ is

-- what a part gives, and then is read, is its value
pub read_gives : (m : Meaning) (d e : Datum) (s t : State) → Gives d t ≡ m.gives s → Gives e t ≡ read d t → Gives e t ≡ value m s
read_gives m d e s t g h = h ∙ ap (λ o. and_then o read) g

pub read_wrong : (m : Meaning) (d : Datum) (at : ℕ) (reason : Reason) (s t : State) → Gives d t ≡ m.gives s → Wrong at reason t ≡ read d t →
    Wrong at reason t ≡ value m s
read_wrong m d at reason s t g h = h ∙ ap (λ o. and_then o read) g

pub part_wrong : (m : Meaning) (at : ℕ) (reason : Reason) (s t : State) → Wrong at reason t ≡ m.gives s → Wrong at reason t ≡ value m s
part_wrong m at reason s t g = ap (λ o. and_then o read) g

given_short : (u : Typed) (part : Parts_mean) (xs ps : List ℕ) (s : State) → min (length xs) (length ps) ≡ 0 → given u part xs ps s ≡ Next (tick s)
given_short u part [] ps s h = refl
given_short u part (x ∷ xs) [] s h = refl
given_short u part (x ∷ xs) (p ∷ ps) s h = absurd (omega arith)

-- no argument is left: the call is a step, and then the parameters are set
pub all_wait : (u : Typed) (part : Parts_mean) (xs ps : List ℕ) (ds : List Datum) (k count : ℕ) (own ticked : Own) (frame : List ℕ) (o : Outcome) →
    min (length xs) (length ps) ≤ k → k ≡ count → ticked ≡ memory.tick own →
    given_from u part xs ps ds k (full own frame) ≡ o → set_below u ps ds count (full ticked frame) ≡ o
all_wait u part xs ps ds k count own ticked frame o h same e is =
    let none : min (length (drop k xs)) (length (drop k ps)) ≡ 0 = omega (arith, length-drop k xs, length-drop k ps) in
    ap (λ (t : Own). set_below u ps ds count (full t frame)) e
    ∙ ap (λ m. set_below u ps ds m (tick (full own frame))) (sym same)
    ∙ ap (λ x. after x (set_below u ps ds k)) (sym (given_short u part (drop k xs) (drop k ps) (full own frame) none))
    ∙ is

-- one parameter is set
pub sets : (u : Typed) (ps : List ℕ) (ds : List Datum) (left last k : ℕ) (s t : State) (o : Outcome) → left ≡ last + 1 → last ≡ k →
    Next t ≡ parameter u (get_or ps last 0) (get_or ds last data_of.Nothing) s → set_below u ps ds left s ≡ o → set_below u ps ds k t ≡ o
sets u ps ds left last k s t o e f g is =
    ap (λ m. set_below u ps ds m t) (sym f) ∙ ap (λ x. after x (set_below u ps ds last)) g ∙ ap (λ m. set_below u ps ds m s) (sym (e ∙ add-one last)) ∙ is

pub sets_wrong : (u : Typed) (ps : List ℕ) (ds : List Datum) (left last at : ℕ) (reason : Reason) (s t : State) (o : Outcome) → left ≡ last + 1 →
    Wrong at reason t ≡ parameter u (get_or ps last 0) (get_or ds last data_of.Nothing) s → set_below u ps ds left s ≡ o → Wrong at reason t ≡ o
sets_wrong u ps ds left last at reason s t o e g is =
    ap (λ x. after x (set_below u ps ds last)) g ∙ ap (λ m. set_below u ps ds m s) (sym (e ∙ add-one last)) ∙ is
