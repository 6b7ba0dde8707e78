use Rattle.std.proofs.Common.{◌≡◌, drop}
use Rattle.std.specs.List.{position_from}
use Rattle.vg_cfit.specs.Bindings.{is_named}
use Rattle.vg_cfit.proofs.binding.first_number.Given as goal

abbrev pub invariant-loop-number : goal.invariant-loop-number
invariant-loop-number l = record {
  counted : l.place ≡ l.number-index;
  rest : position_from (λ number. is_named l.spec.names number.at l.word) l.place (drop l.number-index l.numbers) ≡ position_from
      (λ number. is_named l.spec.names number.at l.word) 0 l.numbers;
}
