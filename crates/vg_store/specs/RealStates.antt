-- What is seen of the real library: objects as the list library's are, of which its definitions say what is seen; and the order of a link's indices.
use Rattle.std.specs.Prelude.{ℕ, List, [], map, false, Option, Some, None, slice_get}
use Rattle.vg_dchain.specs.ChainState.{ChainState}
use Rattle.vg_abs.specs.Library.{Library}
use Rattle.vg_plain.specs.declared.object.PlainObject.{PlainObject}
use Rattle.vg_plain.specs.declared.object.PlainObject.TheVariants as plain
use Rattle.vg_plain.specs.PlainStates.{state_of, lent_in}
use Rattle.vg_store.specs.declared.object.RealObject.{RealObject}
use Rattle.vg_store.specs.declared.object.RealObject.TheVariants.{Map, Chain, Keys, Cells, Prefixes}
use Rattle.vg_store.specs.declared.real.RealLib.{RealLib}
use Rattle.vg_store.specs.RealLinks.{seen}

-- an object
abbrev pub as_plain : RealObject → PlainObject
as_plain (Map link) = plain.Map (seen link)
as_plain Chain = plain.Chain
as_plain Keys = plain.Keys
as_plain (Cells cells) = plain.Cells cells
as_plain (Prefixes routes) = plain.Prefixes routes.routes.value

abbrev pub plainly : List RealObject → List PlainObject
plainly objects = map as_plain objects

-- it misses nothing, and tells no choices
abbrev pub library_of : RealLib → Library
library_of library = record {
  state = state_of (plainly library.objects.items);
  lent = lent_in (plainly library.objects.items);
  missed = false;
  choices = None;
}

-- the indices of a link by age, and those that are free, in order; the link is named by its map
abbrev pub ages_in : Option RealObject → ChainState
ages_in (Some (Map link)) = link.ages
ages_in _ = record { range = 0; entries = []; free = []; highest = 0 }

abbrev pub ages_of : RealLib → ℕ → ChainState
ages_of library map = ages_in (slice_get library.objects.items map)
