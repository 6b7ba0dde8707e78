use Rattle.std.proofs.Common.{◌≡◌, drop}
use Rattle.vg_conf.specs.Named as named
use Rattle.vg_conf.proofs.named.number_named.Given as goal

abbrev pub invariant-loop-number : goal.invariant-loop-number
invariant-loop-number l = record {
  counted : l.place ≡ l.number-index;
  rest : named.first_from (λ number. named.is_named l.spec.names number.at l.word) l.place (drop l.number-index l.number-items) ≡ named.first_from
      (λ number. named.is_named l.spec.names number.at l.word) 0 l.number-items;
}
