use Rattle.std.proofs.Common.{◌≡◌, drop}
use Rattle.std.specs.Prelude.{◌&&◌}
use Rattle.vg_conf.specs.Named as named
use Rattle.vg_conf.proofs.named.vector_named.Given as goal

abbrev pub invariant-loop-object : goal.invariant-loop-object
invariant-loop-object l = record {
  counted : l.place ≡ l.object-index;
  rest : named.first_from (λ object. named.is_vector object.kind && named.is_named l.spec.names object.at l.word) l.place
      (drop l.object-index l.object-items) ≡ named.first_from (λ object. named.is_vector object.kind && named.is_named l.spec.names object.at l.word)
      0 l.object-items;
}
