-- What loops on the way to the opening state come to.
use Rattle.std.proofs.Common.{◌≡◌, ℕ, suc, ◌+◌, ◌-◌, ◌/◌, ◌%◌, ◌<◌, ◌≤◌, List, [], ◌∷◌, ◌++◌, length, drop, Bool, true, false, ◌&&◌, ◌||◌, Option}
use Rattle.std.proofs.Common.{Some, refl, sym, ◌∙◌, ap, inl, inr, arith, append_assoc, append-nil, cond}
use Rattle.std.specs.Prelude.{◌==◌, is_some, reverse}
use Rattle.std.specs.List.{list_any}
use Rattle.std.specs.Ordering.{nat_cmp, eq_by_cmp, is_eq}
use Rattle.std.specs.Cmp.{nat_cmp_total, nat_cmp_is}
use Rattle.std.specs.declared.cmp.Ordering.TheVariants.{Less, Equal, Greater}
use Rattle.std.specs.FinMap.{FinMap, get, insert, empty, get-insert, get-empty}
use Rattle.std.proofs.lemmas.Bool.{cases_eq, cases_lt, eq-eqb, ne_eqb}
use Rattle.std.proofs.lemmas.List.{drop_all}
use Rattle.vg_stree.specs.declared.config.Route.{Route}
use Rattle.vg_abs.specs.Fields.{low_bytes}
use Rattle.vg_abs.specs.Opening.{has_prefix, prefix_of, routes_of}

-- one byte more
pub low_more : (count made rest : ℕ) (bytes total : List ℕ) → made < count → bytes ++ low_bytes (count - made) rest ≡ total
    → (bytes ++ rest % 256 ∷ []) ++ low_bytes (count - (made + 1)) (rest / 256) ≡ total
low_more count made rest bytes total less so_far =
    let one : count - made ≡ suc (count - (made + 1)) = omega arith in
    append_assoc bytes (rest % 256 ∷ []) (low_bytes (count - (made + 1)) (rest / 256)) ∙ ap (λ n. bytes ++ low_bytes n rest) (sym one) ∙ so_far

pub low_done : (count made rest : ℕ) (bytes total : List ℕ) → count ≤ made → bytes ++ low_bytes (count - made) rest ≡ total → bytes ≡ total
low_done count made rest bytes total all so_far =
    let none : count - made ≡ 0 = omega arith in
    sym (append-nil bytes) ∙ sym (ap (λ n. bytes ++ low_bytes n rest) none) ∙ so_far

-- a noted prefix
pub same_test : (p k : ℕ) → eq_by_cmp nat_cmp p k ≡ (k == p)
same_test p k = elim (cases_eq k p) [
  | inl same ↦ ap is_eq (sym (nat_cmp_is p k Equal (sym same))) ∙ sym (eq-eqb k p same)
  | inr ne ↦ elim (cases_lt p k) [
    | inl less ↦ ap is_eq (sym (nat_cmp_is p k Less less)) ∙ sym (ne_eqb k p ne)
    | inr more ↦ (let above : k < p = omega arith in ap is_eq (sym (nat_cmp_is p k Greater above)) ∙ sym (ne_eqb k p ne))
  ]
]

-- a test that is repeated
told : (b : Bool) (found : Option Bool) → is_some (cond b (Some true) found) ≡ (b || is_some found)
told true found = refl
told false found = refl

pub noted : (table prefix : ℕ) (route : Route) (later : FinMap nat_cmp Bool) → route.table ≡ table →
    is_some (get (insert later (prefix_of route) true) prefix) ≡ (has_prefix table prefix route || is_some (get later prefix))
noted table prefix route later same =
    ap is_some (get-insert nat_cmp_total later (prefix_of route) true prefix) ∙ told (eq_by_cmp nat_cmp prefix (prefix_of route)) (get later prefix)
    ∙ ap (λ b. b || is_some (get later prefix)) (same_test prefix (prefix_of route))
    ∙ ap (λ b. (b && (prefix_of route == prefix)) || is_some (get later prefix)) (sym (eq-eqb route.table table same))

-- no route is left to be looked at
pub none_left : (table : ℕ) (routes : List Route) → reverse [] ≡ routes_of table (drop (length routes) routes)
none_left table routes = sym (ap (λ rest. routes_of table rest) (drop_all (length routes) routes (omega arith)))

pub none_noted : (table prefix : ℕ) (routes : List Route) → is_some (get (empty {X = Bool} {R = nat_cmp}) prefix) ≡ list_any (has_prefix table prefix)
    (drop (length routes) routes)
none_noted table prefix routes = ap is_some (get-empty nat_cmp prefix)
    ∙ sym (ap (λ rest. list_any (has_prefix table prefix) rest) (drop_all (length routes) routes (omega arith)))
