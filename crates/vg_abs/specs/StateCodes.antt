-- How states are told apart as values of models. Nothing that a clause says rests on this.
use Rattle.std.specs.Prelude.{◌≡◌, List, Bool, true, false, ◌⊎◌, refl}
use Rattle.std.proofs.Common.{inl, inr}
use Rattle.std.specs.Coded.{Coded, code_by, coded×, coded⊎, coded_list, coded_bool}
use Rattle.vg_abs.specs.declared.object.Object.{Object}
use Rattle.vg_abs.specs.declared.object.Object.TheVariants.{Map, Chain, Keys, Cells, Prefixes}
use Rattle.vg_abs.specs.Tables.{Link, Vector, Routing}
use Rattle.vg_abs.specs.TableCodes.{link_code, vector_code, routing_code}
use Rattle.vg_abs.specs.State.{State}

-- an object is stored as one of its payloads, or as which of the two others it is
abbrev pub Stored : Type 0
Stored = Link ⊎ (Vector ⊎ (Routing ⊎ Bool))

abbrev pub stored : Object → Stored
stored (Map link) = inl link
stored (Cells vector) = inr (inl vector)
stored (Prefixes prefixes) = inr (inr (inl prefixes))
stored Chain = inr (inr (inr true))
stored Keys = inr (inr (inr false))

abbrev pub restored : Stored → Object
restored (inl link) = Map link
restored (inr (inl vector)) = Cells vector
restored (inr (inr (inl prefixes))) = Prefixes prefixes
restored (inr (inr (inr true))) = Chain
restored (inr (inr (inr false))) = Keys

pub restored-stored : (object : Object) → restored (stored object) ≡ object
restored-stored (Map link) = refl
restored-stored (Cells vector) = refl
restored-stored (Prefixes prefixes) = refl
restored-stored Chain = refl
restored-stored Keys = refl

abbrev pub object_code : Coded Object
object_code = code_by Stored (coded⊎ link_code (coded⊎ vector_code (coded⊎ routing_code coded_bool))) stored restored restored-stored

abbrev pub state_code : Coded State
state_code = code_by (Bool × List Object) (coded× coded_bool (coded_list object_code)) (λ s. (s.full, s.objects))
    (λ p. record { full = p.0; objects = p.1 }) (λ _. refl)
