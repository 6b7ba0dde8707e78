-- The passes choose the longest route that matches, and of equally long ones the last.
use Rattle.std.proofs.Common.{◌≡◌, ◌≢◌, ℕ, zero, suc, ◌+◌, ◌-◌, ◌/◌, ◌^◌, ◌<◌, ◌≤◌, ◌⊎◌, List, [], ◌∷◌, ◌++◌, length, get_or, drop, Option, Some}
use Rattle.std.proofs.Common.{None, refl, sym, ◌∙◌, ap, subst, inl, inr, arith, length-append, add-one}
use Rattle.std.specs.List.{All}
use Rattle.std.specs.Prelude.{nat_eq, if◌then◌else◌}
use Rattle.std.proofs.lemmas.Bool.{cases_eq, eq-eqb, ne_eqb, cond-true, cond-false}
use Rattle.std.proofs.lemmas.List.{drop_all, drop_more, get_or_append_left, get_or-append-add}
use Rattle.std.proofs.lemmas.List.Elements.{All-nil, All-cons}
use Rattle.vg_stree.specs.declared.config.Route.{Route}
use Rattle.vg_stree.specs.Routes.{Matches, IsLongestMatch}
use Rattle.vg_lpm.specs.Table.{leaf}
use Rattle.vg_lpm.specs.Building.{taken, passed, passes}

-- a pass that has come one route further
passed-more : (len : ℕ) (routes : List Route) (i : ℕ) (d : Route) (a w next total : ℕ) → i < length routes
    → next ≡ (if nat_eq (get_or routes i d).len len then taken (get_or routes i d) a w else w) → passed len (drop i routes) a w ≡ total
    → passed len (drop (i + 1) routes) a next ≡ total
passed-more len routes i d a w next total within step ahead =
    ap (λ v. passed len (drop (i + 1) routes) a v) step ∙ sym (ap (λ xs. passed len xs a w) (drop_more routes i d within)) ∙ ahead

pub passed-matched : (len : ℕ) (routes : List Route) (i : ℕ) (d : Route) (a w next total : ℕ) → i < length routes → (get_or routes i d).len ≡ len
    → next ≡ taken (get_or routes i d) a w → passed len (drop i routes) a w ≡ total → passed len (drop (i + 1) routes) a next ≡ total
passed-matched len routes i d a w next total within same e ahead =
    passed-more len routes i d a w next total within (e ∙ sym (cond-true _ (taken (get_or routes i d) a w) w (eq-eqb (get_or routes i d).len len same))) ahead

pub passed-other : (len : ℕ) (routes : List Route) (i : ℕ) (d : Route) (a w total : ℕ) → i < length routes → (get_or routes i d).len ≢ len
    → passed len (drop i routes) a w ≡ total → passed len (drop (i + 1) routes) a w ≡ total
passed-other len routes i d a w total within ne ahead =
    passed-more len routes i d a w w total within (sym (cond-false _ (taken (get_or routes i d) a w) w (ne_eqb (get_or routes i d).len len ne))) ahead

-- a pass that has come to the end
pub passed-done : (len : ℕ) (routes : List Route) (i a : ℕ) {w total : ℕ} → length routes ≤ i → passed len (drop i routes) a w ≡ total → w ≡ total
passed-done len routes i a {w} past ahead = sym (ap (λ xs. passed len xs a w) (drop_all i routes past)) ∙ ahead

-- one pass more
pub passes-more : (len : ℕ) (routes : List Route) (a before w : ℕ) → before ≡ passes len routes a → w ≡ passed len routes a before
    → w ≡ passes (len + 1) routes a
passes-more len routes a before w e step = rw add-one (step ∙ ap (λ v. passed len routes a v) e)

-- the last route of a length that matches
record IsLast (len : ℕ) (routes : List Route) (a : ℕ) (route : Route) : Type 0 where
  before : List Route
  behind : List Route
  stands : routes ≡ before ++ route ∷ behind
  length_is : route.len ≡ len
  matches : Matches route a
  none : All (λ other. other.len ≡ len → ¬ Matches other a) behind

-- what a pass leaves: what was there where no route of the length matches, and else the value of the last
abbrev IsPass : ℕ → List Route → ℕ → Option ℕ → Option ℕ → Type 0
IsPass len routes a old new = ((new ≡ old) × All (λ other. other.len ≡ len → ¬ Matches other a) routes)
    ⊎ ((route : Route) × IsLast len routes a route × (new ≡ Some route.value))

IsLast-cons : (len : ℕ) (first : Route) (routes : List Route) (a : ℕ) (route : Route) → IsLast len routes a route → IsLast len (first ∷ routes) a route
IsLast-cons len first routes a route last = record {
  before = first ∷ last.before;
  behind = last.behind;
  stands = ap (λ xs. first ∷ xs) last.stands;
  length_is = last.length_is;
  matches = last.matches;
  none = last.none;
}

abbrev Passes : ℕ → List Route → ℕ → Option ℕ → Type 0
Passes len routes a old = (new : Option ℕ) × (passed len routes a (leaf old) ≡ leaf new) × IsPass len routes a old new

kept_pass : (len : ℕ) (route : Route) (routes : List Route) (a : ℕ) (old : Option ℕ) → (route.len ≡ len → ¬ Matches route a)
    → (if nat_eq route.len len then taken route a (leaf old) else leaf old) ≡ leaf old → Passes len routes a old → Passes len (route ∷ routes) a old
kept_pass len route routes a old not_it same rest = (
  rest.0,
  ap (λ v. passed len routes a v) same ∙ rest.1,
  elim rest.2 [
    | inl none ↦ inl (none.0, All-cons (λ other. other.len ≡ len → ¬ Matches other a) route routes not_it none.1)
    | inr last ↦ inr (last.0, IsLast-cons len route routes a last.0 last.1, last.2)
  ],
)

taken_pass : (len : ℕ) (route : Route) (routes : List Route) (a : ℕ) (old : Option ℕ) → route.len ≡ len → Matches route a
    → (if nat_eq route.len len then taken route a (leaf old) else leaf old) ≡ leaf (Some route.value) → Passes len routes a (Some route.value)
    → Passes len (route ∷ routes) a old
taken_pass len route routes a old length_is matches same rest = (
  rest.0,
  ap (λ v. passed len routes a v) same ∙ rest.1,
  elim rest.2 [
    | inl none ↦ inr (route, record { before = []; behind = routes; stands = refl; length_is = length_is; matches = matches; none = none.1 }, none.0)
    | inr last ↦ inr (last.0, IsLast-cons len route routes a last.0 last.1, last.2)
  ],
)

one_pass : (len : ℕ) (routes : List Route) (a : ℕ) (old : Option ℕ) → Passes len routes a old
one_pass len [] a old = (old, refl, inl (refl, All-nil (λ other. other.len ≡ len → ¬ Matches other a)))
one_pass len (route ∷ routes) a old = elim (cases_eq route.len len) [
  | inl same ↦ elim (cases_eq (a / 2 ^ (32 - route.len)) (route.address / 2 ^ (32 - route.len))) [
    | inl matches ↦ taken_pass len route routes a old same matches
        (cond-true _ (taken route a (leaf old)) (leaf old) (eq-eqb route.len len same) ∙ cond-true _ (leaf (Some route.value)) (leaf old) (eq-eqb _ _ matches))
        (one_pass len routes a (Some route.value))
    | inr differs ↦ kept_pass len route routes a old (λ _. differs)
        (cond-true _ (taken route a (leaf old)) (leaf old) (eq-eqb route.len len same) ∙ cond-false _ (leaf (Some route.value)) (leaf old) (ne_eqb _ _ differs))
        (one_pass len routes a old)
  ]
  | inr ne ↦ kept_pass len route routes a old (λ same. absurd (ne same)) (cond-false _ (taken route a (leaf old)) (leaf old)
      (ne_eqb route.len len ne)) (one_pass len routes a old)
]

-- the route for an address among those shorter than a length
record IsRouteBelow (len : ℕ) (routes : List Route) (a : ℕ) (route : Route) : Type 0 where
  before : List Route
  behind : List Route
  stands : routes ≡ before ++ route ∷ behind
  below : route.len < len
  matches : Matches route a
  no_longer : All (λ other. other.len < len → Matches other a → other.len ≤ route.len) before
  shorter : All (λ other. other.len < len → Matches other a → other.len < route.len) behind

abbrev IsBestBelow : ℕ → List Route → ℕ → Option ℕ → Type 0
IsBestBelow len routes a None = All (λ other. other.len < len → ¬ Matches other a) routes
IsBestBelow len routes a (Some value) = (route : Route) × IsRouteBelow len routes a route × (route.value ≡ value)

All-front : (P : Route → Type 0) (before behind : List Route) (route : Route) → All P (before ++ route ∷ behind) → All P before
All-front P before behind route all k d within =
    subst P (get_or_append_left before (route ∷ behind) d k within) (all k d (omega (arith, length-append before (route ∷ behind))))

All-back : (P : Route → Type 0) (before behind : List Route) (route : Route) → All P (before ++ route ∷ behind) → All P behind
All-back P before behind route all k d within =
    subst P (get_or-append-add before (route ∷ behind) (suc k) d) (all (length before + suc k) d (omega (arith, length-append before (route ∷ behind))))

-- a pass in which no route matches changes nothing
best-kept : (len : ℕ) (routes : List Route) (a : ℕ) (answer : Option ℕ) → All (λ other. other.len ≡ len → ¬ Matches other a) routes
    → IsBestBelow len routes a answer → IsBestBelow (suc len) routes a answer
best-kept len routes a None none best = λ k d within below matches.
    let other = get_or routes k d in
    elim (cases_eq other.len len) [ inl same ↦ none k d within same matches | inr ne ↦ best k d within (omega arith) matches ]
best-kept len routes a (Some value) none best =
    let route = best.0 in
    let was = best.1 in
    let none_of = subst (All (λ other. other.len ≡ len → ¬ Matches other a)) was.stands none in
    let front = All-front (λ other. other.len ≡ len → ¬ Matches other a) was.before was.behind route none_of in
    let back = All-back (λ other. other.len ≡ len → ¬ Matches other a) was.before was.behind route none_of in (
      route,
      record {
        before = was.before;
        behind = was.behind;
        stands = was.stands;
        below = omega (arith, was.below);
        matches = was.matches;
        no_longer = λ k d within below matches.
            let other = get_or was.before k d in
            elim (cases_eq other.len len) [ inl same ↦ absurd (front k d within same matches) | inr ne ↦ was.no_longer k d within (omega arith) matches ];
        shorter = λ k d within below matches.
            let other = get_or was.behind k d in
            elim (cases_eq other.len len) [ inl same ↦ absurd (back k d within same matches) | inr ne ↦ was.shorter k d within (omega arith) matches ];
      },
      best.2,
    )

-- the last route of a pass is better than all that are shorter
best-last : (len : ℕ) (routes : List Route) (a : ℕ) (route : Route) → IsLast len routes a route → IsRouteBelow (suc len) routes a route
best-last len routes a route last = record {
  before = last.before;
  behind = last.behind;
  stands = last.stands;
  below = omega (arith, last.length_is);
  matches = last.matches;
  no_longer = λ k d within below matches. omega (arith, last.length_is);
  shorter = λ k d within below matches.
      let other = get_or last.behind k d in
      elim (cases_eq other.len len) [ inl same ↦ absurd (last.none k d within same matches) | inr ne ↦ omega (arith, last.length_is) ];
}

best-passed : (len : ℕ) (routes : List Route) (a : ℕ) (old new : Option ℕ) → IsPass len routes a old new → IsBestBelow len routes a old
    → IsBestBelow (suc len) routes a new
best-passed len routes a old new pass best = elim pass [
  | inl kept ↦ subst (IsBestBelow (suc len) routes a) (sym kept.0) (best-kept len routes a old kept.1 best)
  | inr last ↦ subst (IsBestBelow (suc len) routes a) (sym last.2) (last.0, best-last len routes a last.0 last.1, refl)
]

best-passes : (len : ℕ) (routes : List Route) (a : ℕ) → (answer : Option ℕ) × (passes len routes a ≡ leaf answer) × IsBestBelow len routes a answer
best-passes zero routes a = (None, refl, λ k d within below. absurd (omega arith))
best-passes (suc len) routes a =
    let before = best-passes len routes a in
    let pass = one_pass len routes a before.0 in
    (pass.0, ap (λ w. passed len routes a w) before.1 ∙ pass.1, best-passed len routes a before.0 pass.0 pass.2 before.2)

best-all : (routes : List Route) (a : ℕ) (answer : Option ℕ) → All (λ route. route.len ≤ 32) routes → IsBestBelow 33 routes a answer
    → IsLongestMatch routes a answer
best-all routes a None lengths best = λ k d within matches. best k d within (omega (arith, lengths k d within)) matches
best-all routes a (Some value) lengths best =
    let route = best.0 in
    let was = best.1 in
    let lengths_of = subst (All (λ other. other.len ≤ 32)) was.stands lengths in
    let front = All-front (λ other. other.len ≤ 32) was.before was.behind route lengths_of in
    let back = All-back (λ other. other.len ≤ 32) was.before was.behind route lengths_of in (
      route,
      record {
        before = was.before;
        behind = was.behind;
        stands = was.stands;
        matches = was.matches;
        no_longer = λ k d within matches. was.no_longer k d within (omega (arith, front k d within)) matches;
        shorter = λ k d within matches. was.shorter k d within (omega (arith, back k d within)) matches;
      },
      best.2,
    )

-- after the passes for all lengths
pub passes-IsLongestMatch : (routes : List Route) (a : ℕ) → All (λ route. route.len ≤ 32) routes → (answer : Option ℕ)
    × (passes 33 routes a ≡ leaf answer) × IsLongestMatch routes a answer
passes-IsLongestMatch routes a lengths =
    let best = best-passes 33 routes a in
    (best.0, best.1, best-all routes a best.0 lengths best.2)
