use Rattle.std.proofs.Common.{◌≡◌, true, false, arith, rules, inl, inr}
use Rattle.std.proofs.lemmas.Bool.{cases_lt}
use Rattle.std.proofs.lemmas.List.{length-map}
use Rattle.vg_plain.proofs.AgreementLaws.{past_agrees}
use Rattle.vg_store.specs.RealStates.{as_plain, plainly}
use Rattle.vg_store.proofs.agreement.first_difference.Goals as goal

pub returns-then-not-agree_at : goal.returns-then-not-agree_at
returns-then-not-agree_at c = record {
  differs = λ agree. (let no : c.agree_at.result ≡ false = search rules in let yes : c.agree_at.result ≡ true = c.agree_at.ensures.1 agree in absurd (cc));
  least = c.loop-i.invariant;
}

pub returns : goal.returns
returns c object = elim (cases_lt object c.loop-i.i) [
  | inl less ↦ c.loop-i.invariant object less
  | inr more ↦ past_agrees (plainly c.args.objects.now) c.args.state.now object (omega (
    arith,
    more,
    c.loop-i-test.false,
    length-map c.args.objects.now as_plain,
  ))
]
