use Rattle.std.proofs.Common.{length, sym, subst}
use Rattle.std.specs.Prelude.{IfOk}
use Rattle.vg_term.specs.Operations.{FitsOne, width_one, value_one}
use Rattle.vg_term.specs.declared.node.Op.{Op}
use Rattle.vg_blast.specs.Circuits.{MakesWord, bits_by}
use Rattle.vg_blast.proofs.Operating.{not_wired, extract_wired, zext_wired, sext_wired}
use Rattle.vg_blast.proofs.operation.of_one.Goals as goal

pub returns-in-Not : goal.returns-in-Not
returns-in-Not c =
    subst (λ (op : Op). IfOk c.negated.result (λ out. MakesWord c.args.gates.now c.args.gates.now 0 out.items (width_one op (length c.args.a.now))
    (λ v. value_one op (bits_by v c.args.a.now)))) (sym c.in-Not.is)
    (not_wired c.args.gates.now c.negated.result c.args.a.now c.requires.over c.negated.ensures)

pub returns-in-Extract : goal.returns-in-Extract
returns-in-Extract c =
    subst (λ (op : Op). IfOk c.part.result (λ out. MakesWord c.args.gates.now c.args.gates.now 0 out.items (width_one op (length c.args.a.now))
    (λ v. value_one op (bits_by v c.args.a.now)))) (sym c.in-Extract.is)
    (extract_wired c.args.gates.now c.part.result c.args.a.now c.in-Extract.from c.in-Extract.width
    (subst (λ (op : Op). FitsOne op (length c.args.a.now)) c.in-Extract.is c.requires.fits).1 c.requires.over c.part.ensures)

pub returns-in-Zext : goal.returns-in-Zext
returns-in-Zext c =
    subst (λ (op : Op). IfOk c.extended.result (λ out. MakesWord c.args.gates.now c.args.gates.now 0 out.items (width_one op (length c.args.a.now))
    (λ v. value_one op (bits_by v c.args.a.now)))) (sym c.in-Zext.is)
    (zext_wired c.args.gates.now c.extended.result c.args.a.now c.falsity-falsity.result c.in-Zext.width c.falsity-falsity.ensures.stood
    c.falsity-falsity.ensures.literal (subst (λ (op : Op). FitsOne op (length c.args.a.now)) c.in-Zext.is c.requires.fits).0 c.requires.over
    c.extended.ensures)

pub returns-in-Sext : goal.returns-in-Sext
returns-in-Sext c =
    subst (λ (op : Op). IfOk c.extended-in-Sext.result (λ out. MakesWord c.args.gates.now c.args.gates.now 0 out.items
    (width_one op (length c.args.a.now)) (λ v. value_one op (bits_by v c.args.a.now)))) (sym c.in-Sext.is)
    (sext_wired c.args.gates.now c.extended-in-Sext.result c.args.a.now c.index-a-a.result c.in-Sext.width c.requires.some
    (subst (λ (op : Op). FitsOne op (length c.args.a.now)) c.in-Sext.is c.requires.fits).0 c.index-a-a.is c.requires.over
    c.extended-in-Sext.ensures)
