use Rattle.std.proofs.Common.{false, length, get_or, replicate, ap, ◌∙◌}
use Rattle.std.proofs.lemmas.List.{get_or_default, take_all}
use Rattle.vg_term.specs.declared.node.TermId.{TermId}
use Rattle.vg_blast.specs.Marking.{marked}
use Rattle.vg_blast.proofs.Marks.{marked_next, starts_made}
use Rattle.vg_blast.proofs.marking.starts.Goals as goal

pub loop-id-preserved : goal.loop-id-preserved
loop-id-preserved c =
    let id : TermId = get_or c.args.from.now c.loop-id.id-index (record { 0 = 0 }) in
    marked_next c.loop-id.marks.items c.args.from.now c.loop-id.id-index id c.loop-id-test.true
    (get_or_default c.args.from.now c.loop-id.id-index (record { 0 = 0 }) id c.loop-id-test.true)
    (replicate (length c.args.terms.now) false) c.loop-id.invariant

pub returns : goal.returns
returns c =
    starts_made c.args.terms.now c.args.from.now c.loop-id.marks.items c.requires
    (c.loop-id.invariant ∙ ap (marked (replicate (length c.args.terms.now) false)) (take_all c.loop-id.id-index c.args.from.now c.loop-id-test.false))
