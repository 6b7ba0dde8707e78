use Rattle.std.proofs.Common.{◌≡◌, drop}
use Rattle.vg_conf.specs.Named as named
use Rattle.vg_conf.proofs.named.field_named.Given as goal

abbrev pub invariant-loop-field : goal.invariant-loop-field
invariant-loop-field l = record {
  counted : l.place ≡ l.field-index;
  rest : named.first_from (λ field. named.is_named l.spec.names field.at l.word) l.place (drop l.field-index l.field-items) ≡ named.first_from
      (λ field. named.is_named l.spec.names field.at l.word) 0 l.field-items;
}
