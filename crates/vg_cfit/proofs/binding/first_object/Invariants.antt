use Rattle.std.proofs.Common.{◌≡◌, drop}
use Rattle.std.specs.List.{position_from}
use Rattle.vg_cfit.specs.Bindings.{is_named}
use Rattle.vg_cfit.proofs.binding.first_object.Given as goal

abbrev pub invariant-loop-object : goal.invariant-loop-object
invariant-loop-object l = record {
  counted : l.place ≡ l.object-index;
  rest : position_from (λ object. is_named l.spec.names object.at l.word) l.place (drop l.object-index l.objects) ≡ position_from
      (λ object. is_named l.spec.names object.at l.word) 0 l.objects;
}
