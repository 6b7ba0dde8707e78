-- An expiry: what it needs of the library, and what it comes to.
use Rattle.std.proofs.Common.{◌≡◌, ◌∙◌, sym, ap, subst, refl, ℕ, ◌+◌, Bool, true, false, List, [], ◌∷◌, Option, Some, None, Ok, Err, arith}
use Rattle.std.specs.Prelude.{◌==◌, ◌&&◌, ◌||◌, not, option_map}
use Rattle.std.specs.List.{list_any}
use Rattle.std.proofs.lemmas.Grind.{common_steps}
use Rattle.vg_abs.specs.State as tables
use Rattle.vg_abs.specs.State.{link_of_map}
use Rattle.vg_abs.specs.Answers.{count_before}
use Rattle.vg_abs.specs.Library.{Library, Expires, Asks, Misses, Becomes, MayExpire}
use Rattle.vg_abs.specs.Rows as library
use Rattle.vg_crows.specs.declared.answer.Answer.TheVariants as answers
use Rattle.vg_crows.specs.declared.answer.Stop.TheVariants as stops
use Rattle.vg_crows.specs.Record.{Record, so_far}
use Rattle.vg_crows.specs.State.{State, and_then}
use Rattle.vg_crows.specs.Rows.{Outcome, told, word_of, granted, done}
use Rattle.vg_crows.specs.Views.{SameLent, IsTiedUnlessChanged}

is_true : (b : Bool) → Some b ≡ Some true → b ≡ true
is_true true e = refl
is_true false e = cc

is_false : (b : Bool) → Some (not b) ≡ Some true → b ≡ false
is_false true e = cc
is_false false e = refl

second_of : (a b : Bool) → (a && b) ≡ true → b ≡ true
second_of true b h = h
second_of false b h = cc

same_number : (one other : ℕ) → (one == other) ≡ true → one ≡ other
same_number one other h = grind (arith, common_steps)

not_either : (a b : Bool) → (a || b) ≡ false → (a ≡ false) × (b ≡ false)
not_either true b h = cc
not_either false b h = (refl, h)

none_here : (a b rest : Bool) → a ≡ false → rest ≡ false → ((a && b) || rest) ≡ false
none_here true b rest h i = cc
none_here false b rest h i = i

none_lent : (lent : List (ℕ × ℕ)) (vector index : ℕ) → list_any (λ cell. cell.0 == vector) lent ≡ false →
    list_any (λ cell. (cell.0 == vector) && (cell.1 == index)) lent ≡ false
none_lent [] vector index h = refl
none_lent (c ∷ cs) vector index h =
    let both = not_either (c.0 == vector) (list_any (λ (cell : ℕ × ℕ). cell.0 == vector) cs) h in
    none_here (c.0 == vector) (c.1 == index) (list_any (λ (cell : ℕ × ℕ). (cell.0 == vector) && (cell.1 == index)) cs) both.0
    (none_lent cs vector index both.1)

pub may_expire : (l : Library) (book : Record) (map chain vector : ℕ) → SameLent l book → IsTiedUnlessChanged l book map →
    Some ((chain == map + 1) && (vector == map + 2)) ≡ Some true → Some (not (list_any (λ changed. changed == map) (so_far book).changed)) ≡ Some true →
    Some (not (list_any (λ cell. cell.0 == vector) (so_far book).lent)) ≡ Some true → MayExpire l map
may_expire l book map chain vector lent tied one unchanged none =
    let same = same_number vector (map + 2) (second_of (chain == map + 1) (vector == map + 2) (is_true _ one)) in
    record {
      none_lent = λ index. subst (λ (v : ℕ). l.lent v index ≡ false) same
          (lent vector index ∙ none_lent (so_far book).lent vector index (is_false _ none));
      keys = tied (is_false _ unchanged);
    }

-- ---- what it comes to

untold_by : (s t : Library) (q : Option ℕ) (result : ℕ) (state : tables.State) → Asks s t q (λ count. (result ≡ count) × Becomes s t state) → s.missed ≡ false →
    t.missed ≡ true → q ≡ None
untold_by s t None result state asks m n = refl
untold_by s t (Some count) result state asks m n = let same = (asks.told m count refl).1.same_missed in absurd (cc (same, m, n))

done_by : (s t : Library) (q : Option ℕ) (result : ℕ) (state : tables.State) → Asks s t q (λ count. (result ≡ count) × Becomes s t state) → s.missed ≡ false →
    t.missed ≡ false → (q ≡ Some result) × Becomes s t state
done_by s t None result state asks m n = let missed = (asks.untold refl).missed in absurd (cc (missed, n))
done_by s t (Some count) result state asks m n = let told = asks.told m count refl in (ap Some (sym told.0), told.1)

stays_by : (s t : Library) (q : Option ℕ) (result : ℕ) (state : tables.State) → Asks s t q (λ count. (result ≡ count) × Becomes s t state) → q ≡ None → Misses
    s t
stays_by s t q result state asks e = asks.untold e

pub expired_misses : (s t : Library) (map before result : ℕ) → Expires s t map before result → s.missed ≡ false → t.missed ≡ true → Misses s t
expired_misses s t map before result asks m n =
    asks.untold (untold_by s t (count_before s.state.full (link_of_map s.state map) before) result _ asks m n)

pub expired_done : (s t : Library) (map before result : ℕ) → Expires s t map before result → s.missed ≡ false → t.missed ≡ false →
    (count_before s.state.full (link_of_map s.state map) before ≡ Some result)
    × Becomes s t (library.effect s.state (library.ExpireItems map (map + 1) (map + 2) before) 0)
expired_done s t map before result asks m n =
    done_by s t (count_before s.state.full (link_of_map s.state map) before) result _ asks m n

abbrev expiry_by : State → Option ℕ → Outcome
expiry_by left q = and_then (told (option_map (λ count. 0) q)) (λ _. Ok (word_of q, left))

pub granted_untold : (choices : List ℕ) (s : State) (map chain vector before : ℕ) → count_before s.library.full (link_of_map s.library map) before ≡ None →
    granted choices s (library.ExpireItems map chain vector before) None ≡ Err stops.Untold
granted_untold choices s map chain vector before e = ap (expiry_by (done s (library.ExpireItems map chain vector before) 0)) e

pub granted_count : (choices : List ℕ) (s : State) (map chain vector before count : ℕ) → count_before s.library.full (link_of_map s.library map) before ≡ Some
    count →
    granted choices s (library.ExpireItems map chain vector before) None ≡ Ok (answers.Word count, done s (library.ExpireItems map chain vector before) 0)
granted_count choices s map chain vector before count e = ap (expiry_by (done s (library.ExpireItems map chain vector before) 0)) e

pub expired_untold : (s t : Library) (map before result : ℕ) → Expires s t map before result → s.missed ≡ false → t.missed ≡ true →
    count_before s.state.full (link_of_map s.state map) before ≡ None
expired_untold s t map before result asks m n = untold_by s t (count_before s.state.full (link_of_map s.state map) before) result _ asks m n
