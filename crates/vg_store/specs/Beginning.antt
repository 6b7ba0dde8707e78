-- What the real library asks of an object at the start beyond what the list library does.
use Rattle.std.specs.Prelude.{◌≤◌, length, All}
use Rattle.vg_stree.specs.declared.shape.ObjectKind.{ObjectKind}
use Rattle.vg_stree.specs.Declarations.{Declarations}
use Rattle.vg_abs.specs.declared.object.Object.{Object}
use Rattle.vg_abs.specs.declared.object.Object.TheVariants.{Prefixes}
use Rattle.vg_plain.specs.Beginning.{Begins}

-- a prefix table has so few routes of such lengths as `Prefix` takes
abbrev pub HasFewRoutes : Object → Type 0
HasFewRoutes (Prefixes prefixes) = (length prefixes.routes ≤ 65536) × All (λ route. route.len ≤ 32) prefixes.routes
HasFewRoutes _ = Unit {0}

abbrev pub MayBegin : Declarations → ObjectKind → Object → Type 0
MayBegin shape kind object = Begins shape kind object × HasFewRoutes object
