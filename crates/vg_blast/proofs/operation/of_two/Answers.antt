use Rattle.std.proofs.Common.{◌-◌, ◌*◌, length, sym, subst}
use Rattle.std.specs.Prelude.{IfOk}
use Rattle.vg_term.specs.Operations.{width_two, value_two}
use Rattle.vg_term.specs.declared.node.Op.{Op}
use Rattle.vg_blast.specs.Circuits.{MakesWord, bits_by}
use Rattle.vg_blast.specs.Cost.{operation_cost}
use Rattle.vg_blast.proofs.Operating.{concat_wired}
use Rattle.vg_blast.proofs.operation.of_two.Goals as goal

pub returns-in-Concat : goal.returns-in-Concat
returns-in-Concat c =
    subst (λ (op : Op). IfOk c.joined.result (λ out. MakesWord c.args.gates.now c.args.gates.now (operation_cost op (length c.args.a.now) - 130)
    out.items (width_two op (length c.args.a.now) (length c.args.b.now)) (λ v. value_two op (bits_by v c.args.a.now) (bits_by v c.args.b.now))))
    (sym c.in-Concat.is)
    (concat_wired c.args.gates.now c.joined.result c.args.a.now c.args.b.now (400 * length c.args.a.now - 130) c.requires.over.0 c.requires.over.1
    c.joined.ensures)
