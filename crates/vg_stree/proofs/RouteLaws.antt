-- The route for an address is one: what the relation says of it and what the function answers are the same.
use Rattle.std.proofs.Common.{suc, ◌≡◌, ℕ, ◌+◌, ◌-◌, ◌/◌, ◌^◌, ◌<◌, ◌≤◌, List, [], ◌∷◌, ◌++◌, length, get_or, Option, Some, None, refl, sym, ◌∙◌, ap}
use Rattle.std.proofs.Common.{subst, inl, inr, arith, length-append}
use Rattle.std.specs.List.{All}
use Rattle.std.specs.Prelude.{nat_lt, if◌then◌else◌}
use Rattle.std.proofs.lemmas.Bool.{cases_eq, cases_lt, cases_order, lt-ltb, le-ltb, eq-eqb, ne_eqb, cond-true, cond-false}
use Rattle.std.proofs.lemmas.List.{get_or_append_left, get_or-append-add}
use Rattle.std.proofs.lemmas.List.Elements.{All-nil, All-cons}
use Rattle.vg_stree.specs.declared.config.Route.{Route}
use Rattle.vg_stree.specs.Routes.{Matches, matches, IsRouteFor, IsLongestMatch, longer, route_for, longest_match, MatchIsOne}

-- what is said of all of a list holds of one that stands in it
All-stands : (P : Route → Type 0) (routes before behind : List Route) (route : Route) → routes ≡ before ++ route ∷ behind → All P routes → P route
All-stands P routes before behind route stands all =
    let there = subst (All P) stands all in
    subst P (get_or-append-add before (route ∷ behind) 0 route) (there (length before + 0) route (omega (arith, length-append before (route ∷ behind))))

-- where it matches, the first route is the longer one
longer-taken : (route : Route) (a : ℕ) (b : Route) → Matches route a → b.len < route.len → longer route a (Some b) ≡ Some route
longer-taken route a b matched shorter =
    cond-true (nat_lt b.len route.len) (if matches route a then Some route else Some b) (Some b) (lt-ltb b.len route.len shorter)
    ∙ cond-true (matches route a) (Some route) (Some b) (eq-eqb _ _ matched)

-- where it doesn't match, or is no longer, the first route isn't taken
longer-kept : (route : Route) (a : ℕ) (b : Route) → (Matches route a → route.len ≤ b.len) → longer route a (Some b) ≡ Some b
longer-kept route a b no_longer = elim (cases_lt b.len route.len) [
  | inl shorter ↦ cond-true (nat_lt b.len route.len) (if matches route a then Some route else Some b) (Some b) (lt-ltb b.len route.len shorter)
      ∙ cond-false (matches route a) (Some route) (Some b) (ne_eqb _ _ (λ matched. (let le : route.len ≤ b.len = no_longer matched in omega arith)))
  | inr longer ↦ cond-false (nat_lt b.len route.len) (if matches route a then Some route else Some b) (Some b) (le-ltb b.len route.len longer)
]

-- what is said of the route for an address, and of there being none
abbrev IsBest : List Route → ℕ → Option Route → Type 0
IsBest routes a None = All (λ route. ¬ Matches route a) routes
IsBest routes a (Some route) = IsRouteFor routes a route

-- the first route is the one, where it matches and all that match behind it are shorter
is_first : (route : Route) (routes : List Route) (a : ℕ) → Matches route a → All (λ other. Matches other a → other.len < route.len) routes
    → IsRouteFor (route ∷ routes) a route
is_first route routes a matched shorter = record {
  before = [];
  behind = routes;
  stands = refl;
  matches = matched;
  no_longer = All-nil (λ other. Matches other a → other.len ≤ route.len);
  shorter = shorter;
}

-- one behind the first route is the one, where the first doesn't match or is no longer
is_behind : (route : Route) (routes : List Route) (a : ℕ) (b : Route) → (Matches route a → route.len ≤ b.len) → IsRouteFor routes a b
    → IsRouteFor (route ∷ routes) a b
is_behind route routes a b no_longer was = record {
  before = route ∷ was.before;
  behind = was.behind;
  stands = ap (λ xs. route ∷ xs) was.stands;
  matches = was.matches;
  no_longer = All-cons (λ other. Matches other a → other.len ≤ b.len) route was.before no_longer was.no_longer;
  shorter = was.shorter;
}

-- all that match are no longer than the one
All-append : (P : Route → Type 0) (xs ys : List Route) → All P xs → All P ys → All P (xs ++ ys)
All-append P [] ys left right = right
All-append P (x ∷ xs) ys left right = All-cons P x (xs ++ ys) (left 0 x (omega arith)) (All-append P xs ys (λ k d within. left (suc k) d (omega arith)) right)

no_longer_all : (routes : List Route) (a : ℕ) (b : Route) → IsRouteFor routes a b → All (λ other. Matches other a → other.len ≤ b.len) routes
no_longer_all routes a b was =
    subst (All (λ other. Matches other a → other.len ≤ b.len)) (sym was.stands)
    (All-append (λ other. Matches other a → other.len ≤ b.len) was.before (b ∷ was.behind) was.no_longer
    (All-cons (λ other. Matches other a → other.len ≤ b.len) b was.behind (λ _. omega arith)
    (λ k d within matched. omega (arith, was.shorter k d within matched))))

best_step : (route : Route) (routes : List Route) (a : ℕ) (rest : Option Route) → IsBest routes a rest → IsBest (route ∷ routes) a (longer route a rest)
best_step route routes a None none = elim (cases_eq (a / 2 ^ (32 - route.len)) (route.address / 2 ^ (32 - route.len))) [
  | inl matched ↦ subst (IsBest (route ∷ routes) a) (sym (cond-true (matches route a) (Some route) None (eq-eqb _ _ matched)))
      (is_first route routes a matched (λ k d within other. absurd (none k d within other)))
  | inr differs ↦ subst (IsBest (route ∷ routes) a) (sym (cond-false (matches route a) (Some route) None (ne_eqb _ _ differs)))
      (All-cons (λ other. ¬ Matches other a) route routes differs none)
]
best_step route routes a (Some b) best = elim (cases_eq (a / 2 ^ (32 - route.len)) (route.address / 2 ^ (32 - route.len))) [
  | inl matched ↦ elim (cases_lt b.len route.len) [
    | inl shorter ↦ subst (IsBest (route ∷ routes) a) (sym (longer-taken route a b matched shorter))
        (is_first route routes a matched (λ k d within other. omega (arith, no_longer_all routes a b best k d within other)))
    | inr no_longer ↦ subst (IsBest (route ∷ routes) a) (sym (longer-kept route a b (λ _. no_longer))) (is_behind route routes a b (λ _. no_longer) best)
  ]
  | inr differs ↦ subst (IsBest (route ∷ routes) a) (sym (longer-kept route a b (λ same. absurd (differs same))))
      (is_behind route routes a b (λ same. absurd (differs same)) best)
]

-- the function answers what the relation says
best : (routes : List Route) (a : ℕ) → IsBest routes a (route_for routes a)
best [] a = All-nil (λ route. ¬ Matches route a)
best (route ∷ routes) a = best_step route routes a (route_for routes a) (best routes a)

match_of_best : (routes : List Route) (a : ℕ) (answer : Option Route) → IsBest routes a answer
    → IsLongestMatch routes a (elim answer [ None ↦ None | Some route ↦ Some route.value ])
match_of_best routes a None none = none
match_of_best routes a (Some route) is = (route, is, refl)

-- what stands at one place is one
same_place : (routes before behind front back : List Route) (one other : Route) → routes ≡ before ++ one ∷ behind → routes ≡ front ++ other ∷ back
    → length before ≡ length front → one ≡ other
same_place routes before behind front back one other stands stays same =
    sym (get_or-append-add before (one ∷ behind) 0 one) ∙ ap (λ xs. get_or xs (length before + 0) one) (sym stands ∙ stays)
    ∙ ap (λ i. get_or (front ++ other ∷ back) (i + 0) one) same ∙ get_or-append-add front (other ∷ back) 0 one

-- one of two that are the one doesn't stand before the other
not_before : (routes : List Route) (a : ℕ) (one other : Route) (s : IsRouteFor routes a one) (t : IsRouteFor routes a other)
    → length s.before < length t.before → ⊥
not_before routes a one other s t less =
    let there : get_or t.before (length s.before) one ≡ one =
    sym (get_or_append_left t.before (other ∷ t.behind) one (length s.before) less)
    ∙ ap (λ xs. get_or xs (length s.before) one) (sym t.stands ∙ s.stands)
    ∙ ap (λ i. get_or (s.before ++ one ∷ s.behind) i one) (omega arith) ∙ get_or-append-add s.before (one ∷ s.behind) 0 one in
    let no_longer : one.len ≤ other.len = subst (λ (r : Route). Matches r a → r.len ≤ other.len) there (t.no_longer (length s.before) one less) s.matches in
    let j = length t.before - suc (length s.before) in
    let place : length s.before + suc j ≡ length t.before + 0 = omega arith in
    let lengths : length (s.before ++ one ∷ s.behind) ≡ length (t.before ++ other ∷ t.behind) = ap length (sym s.stands ∙ t.stands) in
    let within : j < length s.behind = omega (arith, length-append s.before (one ∷ s.behind), length-append t.before (other ∷ t.behind)) in
    let beyond : get_or s.behind j other ≡ other =
    sym (get_or-append-add s.before (one ∷ s.behind) (suc j) other) ∙ ap (λ xs. get_or xs (length s.before + suc j) other) (sym s.stands ∙ t.stands)
    ∙ ap (λ i. get_or (t.before ++ other ∷ t.behind) i other) place ∙ get_or-append-add t.before (other ∷ t.behind) 0 other in
    let shorter : other.len < one.len = subst (λ (r : Route). Matches r a → r.len < one.len) beyond (s.shorter j other within) t.matches in
    omega arith

-- a route that is the one is no other than another that is
same_best : (routes : List Route) (a : ℕ) (one other : Route) → IsRouteFor routes a one → IsRouteFor routes a other → one ≡ other
same_best routes a one other s t = elim (cases_order (length s.before) (length t.before)) [
  | inl same ↦ same_place routes s.before s.behind t.before t.behind one other s.stands t.stands same
  | inr differ ↦ elim differ [ inl less ↦ absurd (not_before routes a one other s t less) | inr more ↦ absurd (not_before routes a other one t s more) ]
]

-- where one is, there isn't none
some_best : (routes : List Route) (a : ℕ) (answer : Option Route) (route : Route) → IsRouteFor routes a route → IsBest routes a answer → answer ≡ Some route
some_best routes a None route is none = absurd (All-stands (λ other. ¬ Matches other a) routes is.before is.behind route is.stands none is.matches)
some_best routes a (Some other) route is was = ap Some (same_best routes a other route was is)

none_best : (routes : List Route) (a : ℕ) (answer : Option Route) → All (λ route. ¬ Matches route a) routes → IsBest routes a answer → answer ≡ None
none_best routes a None none was = refl
none_best routes a (Some route) none was = absurd (All-stands (λ other. ¬ Matches other a) routes was.before was.behind route was.stands none was.matches)

to_function : (routes : List Route) (a : ℕ) (answer : Option ℕ) → IsLongestMatch routes a answer → longest_match routes a ≡ answer
to_function routes a None none = ap (λ o. elim o [ None ↦ None | Some route ↦ Some route.value ]) (none_best routes a (route_for routes a) none (best routes a))
to_function routes a (Some value) is =
    ap (λ o. elim o [ None ↦ None | Some route ↦ Some route.value ]) (some_best routes a (route_for routes a) is.0 is.1 (best routes a)) ∙ ap Some is.2

pub one_match : MatchIsOne
one_match routes a answer = (to_function routes a answer, λ e. subst (IsLongestMatch routes a) e (match_of_best routes a (route_for routes a) (best routes a)))
