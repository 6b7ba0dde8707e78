use Rattle.std.proofs.Common.{◌<◌, length, arith}
use Rattle.std.proofs.lemmas.List.{get_or_read}
use Rattle.vg_lpm.proofs.Links.{Opens-resized}
use Rattle.vg_lpm.proofs.levels.open.Goals as goal

pub returns-in-Ok : goal.returns-in-Ok
returns-in-Ok c =
    let upper = c.args.upper.now.items in
    let lower = c.args.lower.now.items in
    let word = c.index-word.result.now in
    let within : c.args.at < length upper = omega (arith, c.args.upper.now.ok.0) in
    let len = c.args.lower.now.ok.0 in
    Opens-resized c.args.at word c.link_to.result c.len.result c.len-in-Leaf.result _
    c.requires.links within (get_or_read upper c.args.at word within c.index-word.ensures 0) c.in-Leaf.ensures.1
    (omega arith) (omega arith) (omega arith) c.link_to.ensures c.in-Ok.ensures.items
