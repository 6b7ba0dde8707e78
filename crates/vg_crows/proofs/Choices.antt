-- Choices that are taken, and those that are left.
use Rattle.std.proofs.Common.{◌≡◌, ◌≢◌, ◌∙◌, sym, ap, subst, refl, ℕ, zero, suc, Bool, true, false, List, [], ◌∷◌, ◌++◌, length, map, take, drop, Option, Some}
use Rattle.std.proofs.Common.{None, Ok, Err}
use Rattle.std.specs.Prelude.{slice_get, not, unwrap_or}
use Rattle.vg_cmemory.specs.State as memory
use Rattle.vg_abs.specs.Library.{Library, Allocates, Misses, HandsOut, lacks_choice, is_lacking, next_choice, after_choice}
use Rattle.vg_abs.specs.Rows.{ChainAllocate, is_used_up, may_hand_out}
use Rattle.vg_crows.specs.declared.answer.Stop.TheVariants as stops
use Rattle.vg_crows.specs.Record.{Record}
use Rattle.vg_crows.specs.Rows.{choice_of, chosen, as_choice}
use Rattle.vg_crows.specs.Views.{Guides, beside}

-- ---- lists

get_drop : (xs ys : List ℕ) (n : ℕ) → drop n xs ≡ ys → slice_get xs n ≡ slice_get ys 0
get_drop xs ys zero e = ap (λ zs. slice_get zs 0) e
get_drop [] ys (suc n) e = ap (λ zs. slice_get zs 0) e
get_drop (x ∷ xs) ys (suc n) e = get_drop xs ys n e

abbrev tail_of : List ℕ → List ℕ
tail_of [] = []
tail_of (x ∷ xs) = xs

abbrev head_of : List ℕ → Option ℕ
head_of [] = None
head_of (x ∷ xs) = Some x

abbrev last_first : (ℕ × ℕ) → ℕ
last_first handed = handed.1

pub taken_next : (handed : List (ℕ × ℕ)) (one : ℕ × ℕ) (xs : List ℕ) → take (length (handed ++ one ∷ [])) xs ≡ map last_first (handed ++ one ∷ []) →
    slice_get xs (length handed) ≡ Some one.1
taken_next [] one [] e = cc
taken_next [] one (x ∷ xs) e = ap head_of e
taken_next (h ∷ hs) one [] e = cc
taken_next (h ∷ hs) one (x ∷ xs) e = taken_next hs one xs (ap tail_of e)

pub taken_less : (handed : List (ℕ × ℕ)) (one : ℕ × ℕ) (xs : List ℕ) → take (length (handed ++ one ∷ [])) xs ≡ map last_first (handed ++ one ∷ []) →
    take (length handed) xs ≡ map last_first handed
taken_less [] one xs e = refl
taken_less (h ∷ hs) one [] e = cc
taken_less (h ∷ hs) one (x ∷ xs) e =
    let first : x ≡ h.1 = cc (ap head_of e) in
    let rest = taken_less hs one xs (ap tail_of e) in λ i. first i ∷ rest i

pub left_more : (handed : List (ℕ × ℕ)) (one : ℕ × ℕ) (xs left : List ℕ) → slice_get xs (length handed) ≡ Some one.1 →
    drop (length (handed ++ one ∷ [])) xs ≡ left → drop (length handed) xs ≡ one.1 ∷ left
left_more [] one [] left e f = cc
left_more [] one (x ∷ xs) left e f = let first : x ≡ one.1 = cc in λ i. first i ∷ f i
left_more (h ∷ hs) one [] left e f = cc
left_more (h ∷ hs) one (x ∷ xs) left e f = left_more hs one xs left e f

-- ---- what is chosen

pub choice_is : (choices : List ℕ) (own : memory.State) (l : Library) (book : Record) (chain now choice : ℕ) → is_used_up l.state chain ≡ false →
    slice_get choices (length book.handed) ≡ Some choice → may_hand_out l.state chain choice ≡ Some true →
    choice_of choices (beside own l book) (ChainAllocate chain now) ≡ Ok choice
choice_is choices own l book chain now choice used get may = rw (used, get, may) refl

not_a_choice : (choice : ℕ) (may : Option Bool) → not (unwrap_or may false) ≡ true → as_choice choice may ≡ Err stops.Untold
not_a_choice choice None h = refl
not_a_choice choice (Some false) h = refl
not_a_choice choice (Some true) h = cc

none_of : (choices left : List ℕ) (own : memory.State) (l : Library) (book : Record) (chain : ℕ) → drop (length book.handed) choices ≡ left →
    is_lacking l.state chain (Some left) ≡ true → chosen (beside own l book) chain (slice_get choices (length book.handed)) ≡ Err stops.Untold
none_of choices [] own l book chain e h = ap (chosen (beside own l book) chain) (get_drop choices [] (length book.handed) e)
none_of choices (c ∷ cs) own l book chain e h =
    ap (chosen (beside own l book) chain) (get_drop choices (c ∷ cs) (length book.handed) e) ∙ not_a_choice c (may_hand_out l.state chain c) h

lacking_by : (choices : List ℕ) (own : memory.State) (l : Library) (book : Record) (chain : ℕ) (told : Option (List ℕ)) →
    ((left : List ℕ) → told ≡ Some left → drop (length book.handed) choices ≡ left) → is_lacking l.state chain told ≡ true →
    chosen (beside own l book) chain (slice_get choices (length book.handed)) ≡ Err stops.Untold
lacking_by choices own l book chain None rest h = cc
lacking_by choices own l book chain (Some left) rest h = none_of choices left own l book chain (rest left refl) h

pub lacking : (choices : List ℕ) (own : memory.State) (l : Library) (book : Record) (chain now : ℕ) → is_used_up l.state chain ≡ false →
    ((left : List ℕ) → l.choices ≡ Some left → drop (length book.handed) choices ≡ left) → lacks_choice l chain ≡ true →
    choice_of choices (beside own l book) (ChainAllocate chain now) ≡ Err stops.Untold
lacking choices own l book chain now used rest h =
    let none = lacking_by choices own l book chain l.choices rest h in rw (used) none

-- ---- what the library did

misses_by : (s t : Library) (chain now : ℕ) (r : Option ℕ) (lacks : Bool) → lacks_choice s chain ≡ lacks → Allocates s t chain now r → s.missed ≡ false →
    is_used_up s.state chain ≡ false → t.missed ≡ true → (lacks_choice s chain ≡ true) × Misses s t
misses_by s t chain now r true e a m used n = (e, a.untold m used e)
misses_by s t chain now None false e a m used n = absurd (a.handed m used e)
misses_by s t chain now (Some i) false e a m used n = let same = (a.handed m used e).same_missed in absurd (cc (same, m, n))

pub misses : (s t : Library) (chain now : ℕ) (r : Option ℕ) → Allocates s t chain now r → s.missed ≡ false → is_used_up s.state chain ≡ false → t.missed ≡
    true →
    (lacks_choice s chain ≡ true) × Misses s t
misses s t chain now r a m used n = misses_by s t chain now r (lacks_choice s chain) refl a m used n

hands_by : (s t : Library) (chain now i : ℕ) (lacks : Bool) → lacks_choice s chain ≡ lacks → Allocates s t chain now (Some i) → s.missed ≡ false →
    is_used_up s.state chain ≡ false → t.missed ≡ false → HandsOut s t chain now i
hands_by s t chain now i true e a m used n = let missed = (a.untold m used e).missed in absurd (cc (missed, n))
hands_by s t chain now i false e a m used n = a.handed m used e

pub hands : (s t : Library) (chain now i : ℕ) → Allocates s t chain now (Some i) → s.missed ≡ false → is_used_up s.state chain ≡ false → t.missed ≡ false →
    HandsOut s t chain now i
hands s t chain now i a m used n = hands_by s t chain now i (lacks_choice s chain) refl a m used n

not_none_by : (s t : Library) (chain now : ℕ) (lacks : Bool) → lacks_choice s chain ≡ lacks → Allocates s t chain now None → s.missed ≡ false →
    is_used_up s.state chain ≡ false → t.missed ≡ false → ⊥
not_none_by s t chain now true e a m used n = let missed = (a.untold m used e).missed in cc (missed, n)
not_none_by s t chain now false e a m used n = a.handed m used e

pub not_none : (s t : Library) (chain now : ℕ) → Allocates s t chain now None → s.missed ≡ false → is_used_up s.state chain ≡ false → t.missed ≡ false → ⊥
not_none s t chain now a m used n = not_none_by s t chain now (lacks_choice s chain) refl a m used n

-- ---- choices that fit what was handed fit what was handed before

rest_by : (handed : List (ℕ × ℕ)) (chain i : ℕ) (choices : List ℕ) (told later : Option (List ℕ)) → (told ≢ None → next_choice told ≡ Some i) →
    later ≡ after_choice told → slice_get choices (length handed) ≡ Some i →
    ((left : List ℕ) → later ≡ Some left → drop (length (handed ++ (chain, i) ∷ [])) choices ≡ left) →
    (left : List ℕ) → told ≡ Some left → drop (length handed) choices ≡ left
rest_by handed chain i choices None later next e get rest left f = cc
rest_by handed chain i choices (Some []) later next e get rest left f = let n = next (λ x. cc (x)) in absurd (cc (n))
rest_by handed chain i choices (Some (c ∷ cs)) later next e get rest left f =
    let n : Some c ≡ Some i = next (λ x. cc (x)) in
    let same : c ≡ i = cc (n) in
    left_more handed (chain, i) choices cs get (rest cs e) ∙ ((λ k. sym same k ∷ cs) ∙ cc (f))

pub guided : (s t : Library) (book new : Record) (chain now i : ℕ) (choices : List ℕ) → HandsOut s t chain now i → new.handed ≡ book.handed ++ (chain, i) ∷ [] →
    Guides t new choices → Guides s book choices
guided s t book new chain now i choices h e g =
    let begins = subst (λ (hs : List (ℕ × ℕ)). take (length hs) choices ≡ map last_first hs) e g.begins in
    record {
      begins = taken_less book.handed (chain, i) choices begins;
      rest =
          rest_by book.handed chain i choices s.choices t.choices h.next h.choices_left (taken_next book.handed (chain, i) choices begins)
          (subst (λ (hs : List (ℕ × ℕ)). (left : List ℕ) → t.choices ≡ Some left → drop (length hs) choices ≡ left) e g.rest);
    }

pub guided_next : (t : Library) (book new : Record) (chain i : ℕ) (choices : List ℕ) → new.handed ≡ book.handed ++ (chain, i) ∷ [] → Guides t new choices →
    slice_get choices (length book.handed) ≡ Some i
guided_next t book new chain i choices e g =
    taken_next book.handed (chain, i) choices (subst (λ (hs : List (ℕ × ℕ)). take (length hs) choices ≡ map last_first hs) e g.begins)

pub guided_same : (s t : Library) (book : Record) (choices : List ℕ) → t.choices ≡ s.choices → Guides t book choices → Guides s book choices
guided_same s t book choices e g = record { begins = g.begins; rest = λ left f. g.rest left (e ∙ f) }

pub guided_on : (s t : Library) (book new : Record) (choices : List ℕ) → t.choices ≡ s.choices → new.handed ≡ book.handed → Guides t new choices → Guides s
    book choices
guided_on s t book new choices e f g =
    record {
      begins = subst (λ (hs : List (ℕ × ℕ)). take (length hs) choices ≡ map last_first hs) f g.begins;
      rest = λ left told. subst (λ (hs : List (ℕ × ℕ)). drop (length hs) choices ≡ left) f (g.rest left (e ∙ told));
    }
