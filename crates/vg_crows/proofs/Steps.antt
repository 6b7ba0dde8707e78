-- Calls, need by need.
use Rattle.std.proofs.Common.{◌≡◌, ◌∙◌, sym, ap, subst, refl, ℕ, zero, suc, Bool, true, false, List, [], ◌∷◌, All, Option, Some, None, Result, Ok, Err}
use Rattle.std.proofs.Common.{IsErrAnd, arith}
use Rattle.vg_cmemory.specs.State as memory
use Rattle.vg_abs.specs.State as library
use Rattle.vg_abs.specs.Library.{Library}
use Rattle.vg_abs.specs.Rows.{Call, Need, is_met, fresh}
use Rattle.vg_crows.specs.Record.{Record}
use Rattle.vg_crows.specs.Views.{beside, gives}
use Rattle.vg_crows.specs.declared.answer.Answer.{Answer}
use Rattle.vg_crows.specs.declared.answer.Stop.{Stop}
use Rattle.vg_crows.specs.Record.{so_far}
use Rattle.vg_crows.specs.State.{State, and_then}
use Rattle.vg_crows.specs.Rows.{decided, all_met, meets_numbers, granted, by_numbers, Target}

pub met_stop : (s : State) (row : ℕ) (need : Need) (needs : List Need) (stop : Stop) → decided row (is_met s.library (so_far s.book) need) ≡ Err stop →
    all_met s row (need ∷ needs) ≡ Err stop
met_stop s row need needs stop e = ap (λ r. and_then r (λ _. all_met s row needs)) e

pub met_next : (s : State) (row : ℕ) (need : Need) (needs : List Need) → decided row (is_met s.library (so_far s.book) need) ≡ Ok tt →
    all_met s row (need ∷ needs) ≡ all_met s row needs
met_next s row need needs e = ap (λ r. and_then r (λ _. all_met s row needs)) e

and_then_all : (r : Result (Unit {0}) Stop) → and_then r (λ _. Ok tt) ≡ r
and_then_all (Ok x) = refl
and_then_all (Err stop) = refl

pub met_last : (s : State) (row : ℕ) (need : Need) → all_met s row (need ∷ []) ≡ decided row (is_met s.library (so_far s.book) need)
met_last s row need = and_then_all (decided row (is_met s.library (so_far s.book) need))

pub numbers_stop : (choices : List ℕ) (s : State) (call : Call) (target : Option Target) (stop : Stop) → meets_numbers s call ≡ Err stop →
    by_numbers choices s call target ≡ Err stop
numbers_stop choices s call target stop e = ap (λ r. and_then r (λ _. granted choices s call target)) e

pub numbers_ok : (choices : List ℕ) (s : State) (call : Call) (target : Option Target) → meets_numbers s call ≡ Ok tt →
    by_numbers choices s call target ≡ granted choices s call target
numbers_ok choices s call target e = ap (λ r. and_then r (λ _. granted choices s call target)) e

first_met : (row : ℕ) (met : Option Bool) (more : Result (Unit {0}) Stop) → and_then (decided row met) (λ _. more) ≡ Ok tt → met ≡ Some true
first_met row None more e = cc
first_met row (Some false) more e = cc
first_met row (Some true) more e = refl

rest_met : (row : ℕ) (met : Option Bool) (more : Result (Unit {0}) Stop) → and_then (decided row met) (λ _. more) ≡ Ok tt → more ≡ Ok tt
rest_met row None more e = cc
rest_met row (Some false) more e = cc
rest_met row (Some true) more e = e

-- where all is met, each is
pub each_met : (s : State) (row : ℕ) (needs : List Need) → all_met s row needs ≡ Ok tt → All
    (λ (need : Need). is_met s.library (so_far s.book) need ≡ Some true) needs
each_met s row [] e k d h = absurd (omega arith)
each_met s row (need ∷ needs) e zero d h = first_met row (is_met s.library (so_far s.book) need) (all_met s row needs) e
each_met s row (need ∷ needs) e (suc k) d h =
    each_met s row needs (rest_met row (is_met s.library (so_far s.book) need) (all_met s row needs) e) k d (omega arith)

pub two_met : (P : Need → Type 0) (one other : Need) → P one → P other → All P (one ∷ other ∷ [])
two_met P one other h i zero d less = h
two_met P one other h i (suc zero) d less = i
two_met P one other h i (suc (suc k)) d less = absurd (omega arith)

pub three_met : (P : Need → Type 0) (one two three : Need) → P one → P two → P three → All P (one ∷ two ∷ three ∷ [])
three_met P one two three h i j zero d less = h
three_met P one two three h i j (suc zero) d less = i
three_met P one two three h i j (suc (suc zero)) d less = j
three_met P one two three h i j (suc (suc (suc k))) d less = absurd (omega arith)

-- the same, of a library that is as it was
pub still_met : (state now : library.State) (needs : List Need) → now ≡ state → All (λ (need : Need). is_met state fresh need ≡ Some true) needs →
    All (λ (need : Need). is_met now fresh need ≡ Some true) needs
still_met state now needs e all = subst (λ (s : library.State). All (λ (need : Need). is_met s fresh need ≡ Some true) needs) (sym e) all

-- what is left of a state, by its parts
pub left_is : (own : memory.State) (l : Library) (book : Record) (tables : library.State) (noted : Record) → l.state ≡ tables → book ≡ noted →
    beside own l book ≡ record { memory = own; library = tables; book = noted }
left_is own l book tables noted e f = λ i. record { memory = own; library = e i; book = f i }

-- ---- the exit of a `?`

pub passed : {A : Type 0} (r : Result A Stop) (stop : Stop) → IsErrAnd r (λ e. e ≡ stop) → r ≡ Err stop
passed (Ok x) stop is = absurd is
passed (Err e) stop is = ap Err is

pub stopped : (choices : List ℕ) (s left : State) (call : Call) (target : Option Target) (r : Result Answer Stop) (stop : Stop) → IsErrAnd r (λ e. e ≡ stop) →
    meets_numbers s call ≡ Err stop → gives r left ≡ by_numbers choices s call target
stopped choices s left call target r stop is e = ap (λ x. gives x left) (passed r stop is) ∙ sym (numbers_stop choices s call target stop e)

-- a memory of nothing, where none matters
pub nothing : memory.State
nothing = record { own = memory.start []; frame = [] }
