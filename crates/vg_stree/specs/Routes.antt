-- The longest prefix that matches: which of a list of routes is the one for an IPv4 address (RFC 1812, section 5.2.4.3, rule 2).
use Rattle.std.specs.Prelude.{ℕ, ◌≡◌, ◌-◌, ◌/◌, ◌^◌, ◌<◌, ◌≤◌, ◌↔◌, List, [], ◌∷◌, ◌++◌, All, Option, Some, None, Bool, nat_eq, nat_lt, if◌then◌else◌}
use Rattle.std.specs.Option.{option_map}
use Rattle.vg_stree.specs.declared.config.Route.{Route}

-- a route matches an address where the first `len` of their 32 bits are the same
abbrev pub Matches : Route → ℕ → Type 0
Matches route address = address / 2 ^ (32 - route.len) ≡ route.address / 2 ^ (32 - route.len)

-- the route for an address: it stands in the list and matches, none that matches is longer, and none that matches behind it is as long
pub record IsRouteFor (routes : List Route) (address : ℕ) (route : Route) : Type 0 where
  pub before : List Route
  pub behind : List Route
  pub stands : routes ≡ before ++ route ∷ behind
  pub matches : Matches route address
  pub no_longer : All (λ other. Matches other address → other.len ≤ route.len) before
  pub shorter : All (λ other. Matches other address → other.len < route.len) behind

-- what a look-up answers: the value of the route for the address, and nothing where no route matches
abbrev pub IsLongestMatch : List Route → ℕ → Option ℕ → Type 0
IsLongestMatch routes address None = All (λ route. ¬ Matches route address) routes
IsLongestMatch routes address (Some value) = (route : Route) × IsRouteFor routes address route × (route.value ≡ value)

-- `Matches` as a test
abbrev pub matches : Route → ℕ → Bool
matches route address = nat_eq (address / 2 ^ (32 - route.len)) (route.address / 2 ^ (32 - route.len))

-- the route for an address among a route and those behind it, whose own is told: the first, where it matches and is longer
abbrev pub longer : Route → ℕ → Option Route → Option Route
longer route address None = if matches route address then Some route else None
longer route address (Some behind) = if nat_lt behind.len route.len then (if matches route address then Some route else Some behind) else Some behind

-- the route for an address, as a function
abbrev pub route_for : List Route → ℕ → Option Route
route_for [] address = None
route_for (route ∷ routes) address = longer route address (route_for routes address)

-- what a look-up answers, as a function
abbrev pub longest_match : List Route → ℕ → Option ℕ
longest_match routes address = option_map (λ route. route.value) (route_for routes address)

-- the relation and the function say the same: there is one answer
abbrev pub MatchIsOne : Type 0
MatchIsOne = (routes : List Route) (address : ℕ) (answer : Option ℕ) → (IsLongestMatch routes address answer ↔ (longest_match routes address ≡ answer))
