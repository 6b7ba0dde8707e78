use Rattle.std.proofs.Common.{refl}
use Rattle.vg_term.specs.Terms.{width_at}
use Rattle.vg_blast.proofs.Stating.{are_ready}
use Rattle.vg_blast.proofs.Inputs.{closed_parts, variable_result, operation_result}
use Rattle.vg_blast.proofs.terms.Circuit.add_term.Goals as goal

pub add_operation-requires : goal.add_operation-requires
add_operation-requires c =
    are_ready c.node.ensures.made c.requires.state c.args.id refl c.in-Op.op c.in-Op.parts (width_at c.args.terms.now c.args.id) c.in-Op.ensures.node
    (closed_parts c.args.terms.now c.args.marks.now c.args.id c.in-Op.op c.in-Op.parts (width_at c.args.terms.now c.args.id) c.in-Op.ensures.node
    (c.requires.closed c.if-not-marks-id.false))

pub returns-in-Var : goal.returns-in-Var
returns-in-Var c =
    variable_result c.node.ensures.made c.args.marks.now c.args.self.now.gates c.add_variable.new.self.gates c.args.self.now.lists
    c.add_variable.new.self.lists c.args.self.now.names.items c.add_variable.new.self.names.items c.args.id
    c.in-Var.number c.in-Var.width c.add_variable.result c.requires.state c.add_variable.ensures.net c.in-Var.ensures.node
    c.add_variable.ensures.gates c.add_variable.ensures.names c.add_variable.ensures.lists

pub returns-in-Op : goal.returns-in-Op
returns-in-Op c =
    operation_result c.node.ensures.made c.args.marks.now c.args.self.now.gates c.add_operation.new.self.gates c.args.self.now.lists
    c.add_operation.new.self.lists c.args.self.now.names.items c.add_operation.new.self.names.items c.args.id
    c.in-Op.op c.in-Op.parts (width_at c.args.terms.now c.args.id) c.add_operation.result c.requires.state c.if-not-marks-id.false
    c.in-Op.ensures.node (c.requires.closed c.if-not-marks-id.false) c.add_operation.ensures.word c.add_operation.ensures.names
