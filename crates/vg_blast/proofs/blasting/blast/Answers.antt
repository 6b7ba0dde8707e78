use Rattle.std.proofs.Common.{◌≡◌, length, sym, subst, ap, ◌∙◌, arith}
use Rattle.vg_cnf.specs.Clauses.{ClauseSet}
use Rattle.vg_blast.specs.Cost.{cost}
use Rattle.vg_blast.specs.Marking.{is_marked}
use Rattle.vg_blast.specs.State.{IsState, added_to}
use Rattle.vg_blast.specs.Facts.{Requires, required_to}
use Rattle.vg_blast.specs.Blasting.{IsBlasted}
use Rattle.vg_blast.specs.declared.marking.Follow.TheVariants as follow
use Rattle.vg_blast.proofs.Blasts.{by_parts, all_marked, asserted_flag, blasted}
use Rattle.vg_blast.proofs.Costs.{costs_too_much, refused_result}
use Rattle.vg_blast.proofs.blasting.blast.Goals as goal

pub returns-in_err-circuit-clause-refused : goal.returns-in_err-circuit-clause-refused
returns-in_err-circuit-clause-refused c =
    refused_result c.from_residual-in_err-circuit.result c.in_err-circuit.field-0.0 (cost c.args.terms.now c.args.facts.now)
    c.from_residual-in_err-circuit.ensures.1
    (λ e.
    let less = c.in_err-circuit.ensures.refused e in
    let added : added_to c.args.terms.now c.deref.result.now (length c.args.terms.now) ≡ added_to c.args.terms.now c.in_ok-marks.marks.items
    (length c.args.terms.now) =
    ap (λ ms. added_to c.args.terms.now ms (length c.args.terms.now)) c.deref.ensures.value in
    costs_too_much c.in_ok-marks.ensures.made c.args.facts.now c.in_ok-marks.marks.items c.in_ok-asserted.asserted.items c.in_ok-marks.ensures.marks
    (λ id asked. all_marked follow.Parts c.in_ok-marks.ensures.marks id (by_parts c.in_ok-marks.ensures.made c.args.facts.now id
    (c.in_ok-asserted.ensures.marks.sound id asked)))
    (omega (arith, less, added)))

pub require_all-requires-clause-marked : goal.require_all-requires-clause-marked
require_all-requires-clause-marked c = λ id asked.
    ap (λ ms. is_marked ms id) c.deref-2.ensures.value
    ∙ all_marked follow.Parts c.in_ok-marks.ensures.marks id
    (by_parts c.in_ok-marks.ensures.made c.args.facts.now id (c.in_ok-asserted.ensures.marks.sound id
    (sym (ap (λ ms. is_marked ms id) c.deref-3.ensures.value) ∙ asked)))

pub require_all-requires-clause-flags : goal.require_all-requires-clause-flags
require_all-requires-clause-flags c = λ id asked.
    asserted_flag c.in_ok-marks.ensures.made c.args.facts.now c.requires.flags id (c.in_ok-asserted.ensures.marks.sound id
    (sym (ap (λ ms. is_marked ms id) c.deref-3.ensures.value) ∙ asked))

pub returns-in_err-require_all-clause-refused : goal.returns-in_err-require_all-clause-refused
returns-in_err-require_all-clause-refused c =
    refused_result c.from_residual-in_err-require_all.result c.in_err-require_all.field-0.0 (cost c.args.terms.now c.args.facts.now)
    c.from_residual-in_err-require_all.ensures.1
    (λ e.
    let less = c.in_err-require_all.ensures.refused e in
    let added : added_to c.args.terms.now c.deref.result.now (length c.args.terms.now) ≡ added_to c.args.terms.now c.in_ok-marks.marks.items
    (length c.args.terms.now) =
    ap (λ ms. added_to c.args.terms.now ms (length c.args.terms.now)) c.deref.ensures.value in
    let required : required_to c.deref-3.result.now (length c.args.terms.now) ≡ required_to c.in_ok-asserted.asserted.items (length c.args.terms.now) =
    ap (λ ms. required_to ms (length c.args.terms.now)) c.deref-3.ensures.value in
    costs_too_much c.in_ok-marks.ensures.made c.args.facts.now c.in_ok-marks.marks.items c.in_ok-asserted.asserted.items c.in_ok-marks.ensures.marks
    (λ id asked. all_marked follow.Parts c.in_ok-marks.ensures.marks id (by_parts c.in_ok-marks.ensures.made c.args.facts.now id
    (c.in_ok-asserted.ensures.marks.sound id asked)))
    (omega (arith, less, added, required, c.in_ok-circuit.ensures.state.added)))

pub returns-clause-blasted : goal.returns-clause-blasted
returns-clause-blasted c =
    subst (λ (set : ClauseSet). IsBlasted c.args.terms.now c.args.facts.now set c.finished.result.bits.items) (sym c.finished.ensures.clauses)
    (blasted c.in_ok-marks.ensures.made c.args.facts.now c.in_ok-marks.marks.items c.in_ok-asserted.asserted.items c.in_ok-circuit.circuit.gates
    c.require_all.new.self.gates c.in_ok-circuit.circuit.lists c.in_ok-circuit.circuit.names.items
    c.finished.result.bits.items c.requires.stand c.requires.flags c.in_ok-marks.ensures.marks c.in_ok-asserted.ensures.marks
    (subst (λ ms. IsState c.args.terms.now ms (length c.args.terms.now) c.in_ok-circuit.circuit.gates c.in_ok-circuit.circuit.lists
    c.in_ok-circuit.circuit.names.items) c.deref.ensures.value c.in_ok-circuit.ensures.state)
    (subst (λ ms. Requires c.args.terms.now c.in_ok-circuit.circuit.names.items ms (length c.args.terms.now) c.in_ok-circuit.circuit.gates
    c.require_all.new.self.gates) c.deref-3.ensures.value c.in_ok-require_all.ensures.required)
    (c.finished.ensures.names ∙ c.in_ok-require_all.ensures.names))
