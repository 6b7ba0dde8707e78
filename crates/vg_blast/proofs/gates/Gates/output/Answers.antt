use Rattle.std.proofs.Common.{sym, ◌∙◌, subst}
use Rattle.vg_blast.specs.Circuits.{MakesBit}
use Rattle.vg_blast.specs.Gates.{gate_value}
use Rattle.vg_blast.proofs.Gating.{still_entries, looked_up, standing, inserted}
use Rattle.vg_blast.proofs.gates.Gates.output.Goals as goal

pub returns-in-Some : goal.returns-in-Some
returns-in-Some c =
    let is = looked_up c.self.inside.net c.args.gate c.in-Some.out c.self.inside.outputs.entries c.self.invariant.1
    (sym c.get.ensures.value ∙ sym c.copied.ensures ∙ c.in-Some.is) in
    subst (λ set. MakesBit set set 12 c.in-Some.out (λ v. gate_value v c.args.gate)) c.self.view_is (standing c.self.inside.net c.args.gate c.in-Some.out is)

pub invariant_of-self-2 : goal.invariant_of-self-2
invariant_of-self-2 c = (
  c.define.ensures.grows.net,
  inserted c.define.new.self c.args.gate c.in_ok-out.out c.self.inside.outputs.entries c.insert.new.self.entries c.insert.result
      (still_entries c.self.inside.net c.define.new.self c.self.inside.outputs.entries c.define.ensures.grows c.self.invariant.1)
      (record { over = c.in_ok-out.ensures.gate.over; is = c.in_ok-out.ensures.gate.is }) c.insert.ensures.entries c.insert.ensures.err,
)
