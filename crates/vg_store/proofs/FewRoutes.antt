-- A prefix table has few routes, of lengths that fit, at the start.
use Rattle.std.proofs.Common.{◌≡◌, ℕ, zero, suc, ◌+◌, ◌<◌, ◌≤◌, List, [], ◌∷◌, length, get_or, sym, ◌∙◌, ap, subst, arith, Bool, true, false, not, cond}
use Rattle.std.specs.Prelude.{All, ◌==◌, ◌&&◌}
use Rattle.std.specs.List.{list_any}
use Rattle.std.proofs.lemmas.List.Elements.{All-nil, All-cons}
use Rattle.vg_stree.specs.declared.config.Route.{Route}
use Rattle.vg_stree.specs.declared.shape.Object as declarations
use Rattle.vg_stree.specs.declared.shape.ObjectKind.{ObjectKind}
use Rattle.vg_stree.specs.declared.shape.ObjectKind.TheVariants as kinds
use Rattle.vg_stree.specs.Declarations.{Declarations}
use Rattle.vg_stree.specs.Specification.{Specification}
use Rattle.vg_stree.specs.Configuration.{Configuration}
use Rattle.vg_abs.specs.declared.object.Object.{Object}
use Rattle.vg_abs.specs.Opening.{opening, opening_object, opening_objects, has_prefix, prefix_of, routes_of, FitsTable, FitsKind, IsValid}
use Rattle.vg_store.specs.Beginning.{HasFewRoutes}

abbrev Short : Route → Type 0
Short route = route.len ≤ 32

short_kind : (route : Route) (kind : ObjectKind) → FitsKind route kind → Short route
short_kind route (kinds.Map key capacity) fits = absurd fits
short_kind route kinds.Chain fits = absurd fits
short_kind route kinds.Keys fits = absurd fits
short_kind route (kinds.Vector cell count) fits = absurd fits
short_kind route (kinds.Table low high) fits = fits.0

short : (shape : Declarations) (route : Route) → FitsTable shape route → Short route
short shape route fits = short_kind route fits.0.kind fits.2

all_short : (shape : Declarations) (routes : List Route) → All (FitsTable shape) routes → All Short routes
all_short shape routes fits = λ k d less. short shape (get_or routes k d) (fits k d less)

kept_short : (b : Bool) (route : Route) (rest : List Route) → Short route → All Short rest → All Short (cond b (route ∷ rest) rest)
kept_short true route rest here all = All-cons Short route rest here all
kept_short false route rest here all = all

kept_few : (b : Bool) (route : Route) (rest : List Route) (n : ℕ) → length rest ≤ n → length (cond b (route ∷ rest) rest) ≤ n + 1
kept_few true route rest n few = omega arith
kept_few false route rest n few = omega arith

routes_short : (table : ℕ) (routes : List Route) → All Short routes → All Short (routes_of table routes)
routes_short table [] all = All-nil Short
routes_short table (route ∷ routes) all = kept_short ((route.table == table) && not (list_any (has_prefix table (prefix_of route)) routes)) route
    (routes_of table routes) (all 0 route (omega arith))
    (routes_short table routes (λ k d less. all (suc k) d (omega arith)))

routes_few : (table : ℕ) (routes : List Route) → length (routes_of table routes) ≤ length routes
routes_few table [] = omega arith
routes_few table (route ∷ routes) =
    let few = kept_few ((route.table == table) && not (list_any (has_prefix table (prefix_of route)) routes)) route (routes_of table routes)
    (length routes) (routes_few table routes) in omega (arith, few)

few_of : (shape : Declarations) (config : Configuration) (number : ℕ) (kind : ObjectKind) → length config.routes ≤ 65536 → All Short config.routes
    → HasFewRoutes (opening_object shape config number kind)
few_of shape config number (kinds.Map key capacity) few all = tt
few_of shape config number kinds.Chain few all = tt
few_of shape config number kinds.Keys few all = tt
few_of shape config number (kinds.Vector cell count) few all = tt
few_of shape config number (kinds.Table low high) few all = (omega (arith, few, routes_few number config.routes), routes_short number config.routes all)

few_in : (shape : Declarations) (config : Configuration) (start place : ℕ) (declared : List declarations.Object) (object : Object)
    → length config.routes ≤ 65536 → All Short config.routes →
    place < length (opening_objects shape config start declared) → HasFewRoutes (get_or (opening_objects shape config start declared) place object)
few_in shape config start place [] object few all less = absurd (omega arith)
few_in shape config start zero (one ∷ more) object few all less = few_of shape config start one.kind few all
few_in shape config start (suc place) (one ∷ more) object few all less = few_in shape config (start + 1) place more object few all (omega arith)

pub few_at : (spec : Specification) (config : Configuration) (items : List Object) (place : ℕ) (object : Object) → IsValid spec config
    → items ≡ (opening spec config).objects → place < length items → object ≡ get_or items place object → HasFewRoutes object
few_at spec config items place object valid are less read =
    subst HasFewRoutes (sym (read ∙ ap (λ (os : List Object). get_or os place object) are))
    (few_in spec.shape config 0 place spec.shape.objects object valid.few_routes (all_short spec.shape config.routes valid.routes)
    (omega (arith, less, ap length are)))
