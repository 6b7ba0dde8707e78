-- What a state tells of objects that aren't there.
use Rattle.std.proofs.Common.{◌≡◌, ◌+◌, ◌-◌, ◌≤◌, ℕ, List, [], cond, Some, None, Bool, true, false, sym, ◌∙◌, ap, arith}
use Rattle.std.specs.Prelude.{nat_lt, is_none}
use Rattle.std.specs.Option.{option_map}
use Rattle.std.specs.Cmp.Lexicographic.{slice_cmp}
use Rattle.std.specs.Ordering.{nat_cmp}
use Rattle.std.proofs.lemmas.Bool.{cond-false, le-ltb}
use Rattle.std.specs.FinMap.{get, empty, get-empty}
use Rattle.vg_abs.specs.State.{State, no_link, link_of_map, prefixes_of}
use Rattle.vg_abs.specs.Answers.{time_of, index_of, listed_or_none, match_in}
use Rattle.vg_abs.specs.Rows.{may_hand_out}

-- no cell is told where there is no vector
pub no_cell : (index : ℕ) → None ≡ get (empty {X = List ℕ} {R = nat_cmp}) index
no_cell index = sym (get-empty nat_cmp index)

nat_lt_zero : (index : ℕ) → nat_lt index 0 ≡ false
nat_lt_zero index = le-ltb index 0 (omega arith)

-- no index is allocated where there is no link
pub no_time : (full : Bool) (index : ℕ) → Some None ≡ time_of full no_link index
no_time full index = sym (cond-false _ _ _ (nat_lt_zero index))

-- no key is mapped where there is no link
pub no_index : (full : Bool) (key : List ℕ) → cond full (Some None) None ≡ index_of full no_link key
no_index full key = sym (ap (listed_or_none full) (get-empty (slice_cmp nat_cmp) key))

-- no index is handed out where there is none
pub none_handed : (s : State) (map index : ℕ) → (link_of_map s map).capacity ≤ index → Some false ≡ may_hand_out s (map + 1) index
none_handed s map index past =
    let at : map + 1 - 1 ≡ map = omega arith in
    sym (ap (λ n. cond (nat_lt index (link_of_map s n).capacity) (option_map (λ answer. is_none answer) (time_of s.full (link_of_map s n) index))
    (Some false)) at
    ∙ cond-false _ _ _ (le-ltb index (link_of_map s map).capacity past))

-- no route matches where there is no table
pub no_routes : (s : State) (table address : ℕ) → s.full ≡ true → prefixes_of s table ≡ record { routes = []; addresses = empty }
    → Some None ≡ match_in s.full (prefixes_of s table) address
no_routes s table address full none =
    sym (ap (λ p. match_in s.full p address) none ∙ ap (λ b. match_in b (record { routes = []; addresses = empty }) address) full)
