use Rattle.std.proofs.Common.{rules, ◌<◌, length, arith}
use Rattle.vg_cfit.proofs.Fields.{fits_on, fits_short}
use Rattle.vg_cfit.proofs.structs.fields_fit.Goals as goal

pub returns-in_default : goal.returns-in_default
returns-in_default c =
    let short = fits_short c.args.notes.now c.args.nodes.now c.loop-node.rest.now c.loop-node.node-index in search rules

pub returns-then-not-node_fits : goal.returns-then-not-node_fits
returns-then-not-node_fits c =
    let inside : c.loop-node.node-index < length c.args.nodes.now = omega arith in
    let on = fits_on c.args.notes.now c.args.nodes.now c.loop-node.rest.now c.in-Some.others.now c.in-Some.field.now c.loop-node.node-index inside
    c.in-Some.ensures.cases.0 in search rules

pub loop-node-preserved : goal.loop-node-preserved
loop-node-preserved c =
    let inside : c.loop-node.node-index < length c.args.nodes.now = omega arith in
    let on = fits_on c.args.notes.now c.args.nodes.now c.loop-node.rest.now c.in-Some.others.now c.in-Some.field.now c.loop-node.node-index inside
    c.in-Some.ensures.cases.0 in search rules
